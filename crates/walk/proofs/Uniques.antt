-- Elements in preorder with their depths are the listing of one tree.
use Rattle.std.proofs.Common.{◌≡◌, ℕ, ◌+◌, ◌<◌, List, [], ◌∷◌, ◌++◌, map, sym, refl, ap, ◌∙◌, append_assoc, append-nil, arith}
use mathlib.Core.List.{nil≢cons}
use Rattle.walk.proofs.Lists.{listing_relabel}
use Rattle.walk.specs.Forests.{relabel}
use Rattle.walk.specs.Hints.{others}
use Rattle.walk.specs.Labels.{shown_tree}
use Rattle.walk.specs.Laws.{SameSchema}
use Rattle.schema.specs.Posts.{shown_as}
use Rattle.schema.specs.Rows.{ByDepth}
use Rattle.schema.specs.Words.{Spelled}
use Rattle.schema.specs.declared.element.Element.{Element}
use Rattle.tree.specs.Forest.{Forest, Tree, alone, listing}
use Rattle.tree.specs.Forest.Forest.{bare, plant}

-- each element lies at its depth; the same words as AtDepth, which stands in the crate promise, above this one
abbrev Deep : ℕ → Forest Spelled → Type 0
Deep d bare = Unit {0}
Deep d (plant e below after) = (e.depth ≡ d) × Deep (d + 1) below × Deep d after

-- what comes next, if anything, lies higher
abbrev Higher : ℕ → List Spelled → Type 0
Higher d [] = Unit {0}
Higher d (e ∷ es) = e.depth < d

higher_after : (d : ℕ) (f : Forest Spelled) (xs : List Spelled) → Deep d f → Higher d xs → Higher (d + 1) (listing f ++ xs)
higher_after d bare [] t h = tt
higher_after d bare (x ∷ xs) t h = omega (arith, h)
higher_after d (plant e below after) xs t h = omega (arith, t.0)

never : {A : Type 0} (d : ℕ) (e : Spelled) (es xs : List Spelled) → e.depth ≡ d → Higher d xs → xs ≡ e ∷ es → A
never d e es [] at h k = absurd (nil≢cons k)
never d e es (x ∷ xs) at h k =
    let same : x ≡ e = cc in
    absurd (omega (arith, h, at, ap (λ (z : Spelled). z.depth) same))

unique : (d : ℕ) (f g : Forest Spelled) (xs ys : List Spelled) → Deep d f → Deep d g → Higher d xs → Higher d ys → listing f ++ xs ≡ listing g ++ ys
    → (f ≡ g) × (xs ≡ ys)
unique d bare bare xs ys t u h k e = (refl, e)
unique d bare (plant b v w) xs ys t u h k e = never d b ((listing v ++ listing w) ++ ys) xs u.0 h e
unique d (plant a v w) bare xs ys t u h k e = never d a ((listing v ++ listing w) ++ xs) ys t.0 k (sym e)
unique d (plant a v w) (plant b x y) xs ys t u h k e =
    let heads : a ≡ b = cc in
    let tails : (listing v ++ listing w) ++ xs ≡ (listing x ++ listing y) ++ ys = cc in
    let first = unique (d + 1) v x (listing w ++ xs) (listing y ++ ys) t.1 u.1 (higher_after d w xs t.2 h) (higher_after d y ys u.2 k)
    (sym (append_assoc (listing v) (listing w) xs) ∙ tails ∙ append_assoc (listing x) (listing y) ys) in
    let second = unique d w y xs ys t.2 u.2 h k first.1 in
    ((λ i. plant (heads i) (first.0 i) (second.0 i)), second.1)

shown_deep : (names : List ℕ) (d : ℕ) (f : Forest Element) → ByDepth d f → Deep d (relabel (shown_as names) f)
shown_deep names d bare t = tt
shown_deep names d (plant e below after) t = (t.0, shown_deep names (d + 1) below t.2, shown_deep names d after t.3)

-- the first tree of a forest
abbrev first_tree : Tree Spelled → Forest Spelled → Tree Spelled
first_tree t bare = t
first_tree t (plant e below after) = record { root = e; under = below }

pub same_schema : SameSchema
same_schema names others bytes more elements table one other e =
    let f = alone one.0 in
    let g = alone other.0 in
    let same = unique 0 (relabel (shown_as names) f) (relabel (shown_as others) g) [] [] (shown_deep names 0 f one.1.depths) (shown_deep others 0 g other.1.depths) tt tt
    (append-nil (listing (relabel (shown_as names) f)) ∙ listing_relabel (shown_as names) f ∙ ap (map (shown_as names)) one.2.lists ∙ e
    ∙ ap (map (shown_as others)) (sym other.2.lists) ∙ sym (listing_relabel (shown_as others) g) ∙ sym (append-nil (listing (relabel (shown_as others) g)))) in
    ap (first_tree (shown_tree names one.0)) same.0
