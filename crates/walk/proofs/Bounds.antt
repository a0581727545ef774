-- Levels are at most 64, as depths are.
use Rattle.std.proofs.Common.{◌≡◌, ℕ, ◌+◌, ◌≤◌, true, ◌&&◌, eqb, leb, List, [], ◌∷◌, map, is_some, Some, None, Option, sym, refl, subst, arith, is_none}
use Rattle.std.specs.List.{AllByRecursion}
use Rattle.std.proofs.lemmas.Bool.{leb-true, and_parts}
use Rattle.walk.proofs.Lists.{all_back, all_front, height_relabel, listing_relabel}
use Rattle.walk.proofs.Order.{Lows, ordered_rows}
use Rattle.walk.specs.Forests.{height}
use Rattle.walk.specs.Labels.{shown_tree}
use Rattle.walk.specs.Laws.{LevelsBounded, Low}
use Rattle.walk.specs.Shape.{Made, Row, made_row, rows}
use Rattle.walk.specs.Worked.{all}
use Rattle.schema.specs.Posts.{shown_as}
use Rattle.schema.specs.Rows.{ByDepth, kind_kept, named_inside, plain_group, root_kept, row_kept}
use Rattle.schema.specs.declared.basic.Repetition.{Repetition}
use Rattle.schema.specs.declared.element.Element.{Element}
use Rattle.tree.specs.Forest.{Forest, listing}
use Rattle.tree.specs.Forest.Forest.{bare, plant}

deep : (bytes : ℕ) (e : Element) → row_kept bytes e ≡ true → e.depth ≤ 64
deep bytes e h =
    let low = leb 1 e.depth in
    let high = leb e.depth 64 in
    let a = and_parts low (high && (is_some e.repetition && (kind_kept e.kind && named_inside bytes e))) h in
    let b = and_parts high (is_some e.repetition && (kind_kept e.kind && named_inside bytes e)) a.1 in
    leb-true e.depth 64 b.0

-- elements at a depth have at most so many below one another as depths are left
high : (bytes d : ℕ) (f : Forest Element) → ByDepth d f → AllByRecursion (λ e. row_kept bytes e ≡ true) (listing f) → d ≤ 65 → d + height f ≤ 65
high bytes d bare h a k = omega arith
high bytes d (plant e below after) h a k =
    let rest = a.1 in
    let P : Element → Type 0 = λ e. row_kept bytes e ≡ true in
    let at = deep bytes e a.0 in
    let in-below = high bytes (d + 1) below h.2 (all_front P (listing below) (listing after) rest) (omega (arith, h.0)) in
    let in_after = high bytes d after h.3 (all_back P (listing below) (listing after) rest) k in
    omega (arith, h.0)

each_row : (most : ℕ) (rs : List Made) → AllByRecursion (Lows most) rs → AllByRecursion (Low most) (map made_row rs)
each_row most [] a = tt
each_row most (r ∷ rs) a = (a.0, each_row most rs a.1)

weaker : (a b : ℕ) → a ≤ b → (rs : List Made) → AllByRecursion (Lows a) rs → AllByRecursion (Lows b) rs
weaker a b h [] all = tt
weaker a b h (r ∷ rs) all = ((all.0.0, omega (arith, all.0.1)), weaker a b h rs all.1)

pub no_repetition : (bytes : ℕ) (e : Element) → root_kept bytes e ≡ true → e.repetition ≡ None
no_repetition bytes e h =
    let a = and_parts (eqb e.depth 0) (is_none e.repetition && (plain_group e.kind && named_inside bytes e)) h in
    let b = and_parts (is_none e.repetition) (plain_group e.kind && named_inside bytes e) a.1 in
    go e.repetition b.0
  where
    go : (o : Option Repetition) → is_none o ≡ true → o ≡ None
    go None z = refl
    go (Some r) z = cc

pub levels_bounded : LevelsBounded
levels_bounded chosen names bytes t table s =
    let u = shown_tree names t in
    let few : height t.under ≤ 64 = omega (arith, high bytes 1 t.under s.depths.2 s.others (omega arith)) in
    let same = height_relabel (shown_as names) t.under in
    subst (λ (rs : List Row). AllByRecursion (Low 64) rs) (sym (listing_relabel made_row (rows chosen u)))
    (each_row 64 (listing (rows chosen u))
    (weaker (height u.under) 64 (omega arith) (listing (rows chosen u)) (ordered_rows chosen u (no_repetition bytes t.root s.root))))
