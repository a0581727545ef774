-- The leaves of a schema are those of a listing.
use Rattle.std.proofs.Common.{◌≡◌, ℕ, suc, ◌+◌, Bool, true, false, cond, not, List, [], ◌∷◌, ◌++◌, map, length, get_or, drop, filter, sym, refl, ap, ◌∙◌, ap₂, append-nil, arith, length-append}
use Rattle.std.proofs.lemmas.Bool.{not-true}
use mathlib.Core.List.{map-append}
use Rattle.std.specs.List.{range_with_len}
use Rattle.std.proofs.lemmas.List.Elements.{filter-append}
use Rattle.columns.specs.Levels.{is_leaf as leaf_row_at_place}
use Rattle.walk.proofs.Flats.{laid}
use Rattle.walk.proofs.Lists.{Ends, count_relabel, ends_listing, map_twice}
use Rattle.walk.proofs.Numbers.{counting_append, numbered_in_order}
use Rattle.walk.specs.Forests.{Spot, Way, on_way, relabel, ways}
use Rattle.walk.specs.Labels.{Numbered, is_leaf, leaf_count, leaf_node, numbered, numbered_as, shown_tree}
use Rattle.walk.specs.Laws.{LeavesAsListed}
use Rattle.walk.specs.Levels.{leaves}
use Rattle.walk.specs.Reading.{Read}
use Rattle.schema.specs.Elements.{empty, is_group}
use Rattle.schema.specs.Posts.{shown_as}
use Rattle.schema.specs.Rows.{ByDepth}
use Rattle.schema.specs.declared.element.Element.{Element}
use Rattle.schema.specs.declared.element.Kind.{Kind}
use Rattle.schema.specs.declared.element.Kind.TheVariants.{Group as group, Leaf as leaf}
use Rattle.tree.specs.Forest.{Forest, alone, count, listing}
use Rattle.tree.specs.Forest.Forest.{bare, plant}

-- ── Leaves by their places ──

pub kinds_same : (k : Kind) → is_leaf k ≡ not (is_group k)
kinds_same (leaf l) = refl
kinds_same (group a) = refl

ends_labels : (names : List ℕ) (d n k : ℕ) (f : Forest Element) → ByDepth d f → Ends leaf_node (numbered n k (relabel (shown_as names) f))
ends_labels names d n k bare t = tt
ends_labels names d n k (plant e below after) t = (
  (λ h. ap (λ (g : Forest Element). numbered (n + 1) k (relabel (shown_as names) g)) (t.1 (not-true (is_group e.kind) (sym (kinds_same e.kind) ∙ h)))),
  ends_labels names (d + 1) (n + 1) k below t.2,
  ends_labels names d (n + 1 + count (relabel (shown_as names) below)) (k + cond (is_leaf e.kind) 1 (leaf_count (relabel (shown_as names) below))) after t.3,
)

module _ (names : List ℕ) (elements : List Element) where
  abbrev number : Numbered → ℕ
  number x = x.number

  at_place : (q : ℕ) (e : Element) → get_or elements q empty ≡ e → is_leaf e.kind ≡ leaf_row_at_place elements q
  at_place q e h = kinds_same e.kind ∙ ap (λ (z : Element). not (is_group z.kind)) (sym h)

  by_places : (f : Forest Element) (q k : ℕ) (rest : List Element) → drop q elements ≡ listing f ++ rest
      → map number (filter leaf_node (listing (numbered q k (relabel (shown_as names) f)))) ≡ filter (leaf_row_at_place elements) (range_with_len q (count f))
  by_places bare q k rest h = refl
  by_places (plant e below after) q k rest h =
      let lies = laid elements empty e below after q rest h in
      let x = numbered_as q k (shown_as names e) in
      let sb = relabel (shown_as names) below in
      let sa = relabel (shown_as names) after in
      let k' = k + cond (is_leaf e.kind) 1 (leaf_count sb) in
      let m = q + 1 + count sb in
      let there : m ≡ q + suc (count below) = omega (arith, count_relabel (shown_as names) below) in
      let test = leaf_row_at_place elements in
      let v = listing (numbered (q + 1) k sb) in
      let u = listing (numbered m k' sa) in
      let first = by_places below (q + 1) k (listing after ++ rest) lies.1 in
      let second = by_places after m k' rest (ap (λ (n : ℕ). drop n elements) there ∙ lies.2) in
      let tail : map number (filter leaf_node (v ++ u)) ≡ filter test (range_with_len (q + 1) (length (listing below ++ listing after))) =
      ap (map number) (filter-append leaf_node v u) ∙ map-append number (filter leaf_node v) (filter leaf_node u)
      ∙ ap₂ (λ (s t : List ℕ). s ++ t) first (second ∙ ap (λ (n : ℕ). filter test (range_with_len n (count after))) (let z : m ≡ q + 1 + count below = omega arith in z))
      ∙ sym (filter-append test (range_with_len (q + 1) (count below)) (range_with_len (q + 1 + count below) (count after)))
      ∙ ap (filter test) (counting_append (q + 1) (count below) (count after) ∙ ap (range_with_len (q + 1)) (sym (length-append (listing below) (listing after)))) in
      either (is_leaf e.kind) x (filter leaf_node (v ++ u)) (filter test (range_with_len (q + 1) (length (listing below ++ listing after)))) tail
      ∙ ap (λ (b : Bool). cond b (q ∷ filter test (range_with_len (q + 1) (length (listing below ++ listing after)))) (filter test (range_with_len (q + 1) (length (listing below ++ listing after)))))
      (at_place q e lies.0)
    where
      either : (b : Bool) (x : Numbered) (l : List Numbered) (r : List ℕ) → map number l ≡ r → map number (cond b (x ∷ l) l) ≡ cond b (x.number ∷ r) r
      either true x l r e = ap {B = List ℕ} (λ (s : List ℕ). x.number ∷ s) e
      either false x l r e = e

pub leaves_as_listed : LeavesAsListed
leaves_as_listed names bytes elements fin =
    let t = shown_tree names fin.0 in
    let f = alone fin.0 in
    let n = numbered 0 0 (alone t) in
    let of : Spot Read → Numbered = λ s. s.node.of in
    let number : Numbered → ℕ = λ x. x.number in
    sym (map_twice (λ (w : Way Numbered). w.end.number) (on_way of) (λ (q : Way (Spot Read)). q.end.node.of.number) (λ q. refl) (leaves t))
    ∙ ap (map (λ (w : Way Numbered). w.end.number)) (numbered_in_order t).paths
    ∙ sym (map_twice number (λ (w : Way Numbered). w.end) (λ (w : Way Numbered). w.end.number) (λ w. refl) (ways leaf_node n))
    ∙ ap (map number) (ends_listing leaf_node n (ends_labels names 0 0 0 f fin.1.depths))
    ∙ by_places names elements f 0 0 [] (sym fin.2.lists ∙ sym (append-nil (listing f)))
    ∙ ap (λ (l : List Element). filter (leaf_row_at_place elements) (range_with_len 0 (length l))) fin.2.lists
