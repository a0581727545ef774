-- Numbers count, and reading leaves every element and path as it is.
use Rattle.std.proofs.Common.{◌≡◌, ℕ, zero, suc, ◌+◌, Bool, true, false, cond, List, [], ◌∷◌, ◌++◌, map, sym, refl, ap, ◌∙◌, ap₂, arith, length-append}
use mathlib.Core.List.{map-append}
use Rattle.std.specs.List.{range_with_len}
use Rattle.walk.proofs.Lists.{count_relabel, height_relabel, relabel_spots, map_square, map_twice}
use Rattle.walk.specs.Forests.{Spot, Way, height, on_way, relabel, spots, straight, under, ways}
use Rattle.walk.specs.Labels.{Numbered, is_leaf, leaf_count, leaf_node, numbered, numbered_as}
use Rattle.walk.specs.Laws.{NumberedInOrder, unnumbered}
use Rattle.walk.specs.Reading.{Holder, Part, Read, child_part, held_by, next_part, nobody, reading, role_of}
use Rattle.walk.specs.Reading.Part.{as_root}
use Rattle.walk.specs.Shape.{read}
use Rattle.schema.specs.Words.{Spelled}
use Rattle.tree.specs.Forest.{Forest, alone, count, listing}
use Rattle.tree.specs.Forest.Forest.{bare, plant}

-- ways under other labels
pub ways_relabel : {A B : Type 0} (is : B → Bool) (f : A → B) (g : Forest A)
    → map (on_way f) (ways (λ a. is (f a)) g) ≡ ways is (relabel f g)
ways_relabel is f bare = refl
ways_relabel {A} {B} is f (plant a below after) =
    map-append (on_way f) (cond (is (f a)) (straight a ∷ []) (map (under a) (ways (λ a. is (f a)) below))) (ways (λ a. is (f a)) after)
    ∙ ap₂ (λ (x y : List (Way B)). x ++ y) (go (is (f a)) (ways_relabel is f below)) (ways_relabel is f after)
  where
    go : (b : Bool) → map (on_way f) (ways (λ a. is (f a)) below) ≡ ways is (relabel f below)
        → map (on_way f) (cond b (straight a ∷ []) (map (under a) (ways (λ a. is (f a)) below)))
        ≡ cond b (straight (f a) ∷ []) (map (under (f a)) (ways is (relabel f below)))
    go true e = refl
    go false e =
        map_square (on_way f) (under a) (under (f a)) (on_way f) (λ w. refl) (ways (λ a. is (f a)) below) ∙ ap (map (under (f a))) e

abbrev numbered_at : Spot Read → Numbered
numbered_at p = p.node.of

pub relabel_numbered : (n k : ℕ) (s : Forest Spelled) → relabel unnumbered (numbered n k s) ≡ relabel (numbered_as 0 0) s
relabel_numbered n k bare = refl
relabel_numbered n k (plant e below after) =
    λ i. plant (numbered_as 0 0 e) (relabel_numbered (n + 1) k below i)
    (relabel_numbered (n + 1 + count below) (k + cond (is_leaf e.kind) 1 (leaf_count below)) after i)

pub relabel_of : (t : Part) (g : Holder) (f : Forest Numbered) → relabel (λ (x : Read). x.of) (reading t g f) ≡ f
unfolding reading
relabel_of t g bare = refl
relabel_of t g (plant x below after) =
    λ i. plant x (relabel_of (child_part (role_of t x below) x.name below) (held_by t g x) below i) (relabel_of (next_part t) g after i)

pub height_reading : (t : Part) (g : Holder) (f : Forest Numbered) → height (reading t g f) ≡ height f
height_reading t g f = sym (height_relabel (λ (x : Read). x.of) (reading t g f)) ∙ ap height (relabel_of t g f)

pub height_numbered : (n k : ℕ) (s : Forest Spelled) → height (numbered n k s) ≡ height s
height_numbered n k s =
    sym (height_relabel unnumbered (numbered n k s)) ∙ ap height (relabel_numbered n k s) ∙ height_relabel (numbered_as 0 0) s

pub count_reading : (t : Part) (g : Holder) (f : Forest Numbered) → count (reading t g f) ≡ count f
count_reading t g f = sym (count_relabel (λ (x : Read). x.of) (reading t g f)) ∙ ap count (relabel_of t g f)

pub count_numbered : (n k : ℕ) (s : Forest Spelled) → count (numbered n k s) ≡ count s
count_numbered n k s =
    sym (count_relabel unnumbered (numbered n k s)) ∙ ap count (relabel_numbered n k s) ∙ count_relabel (numbered_as 0 0) s

pub counting_append : (a m n : ℕ) → range_with_len a m ++ range_with_len (a + m) n ≡ range_with_len a (m + n)
counting_append a zero n = ap₂ range_with_len (omega arith) (omega arith)
counting_append a (suc m) n =
    let e : a + suc m ≡ a + 1 + m = omega arith in
    let h : suc (m + n) ≡ suc m + n = omega arith in
    ap {B = List ℕ} (λ (l : List ℕ). a ∷ l) (ap (λ (x : ℕ). range_with_len (a + 1) m ++ range_with_len x n) e ∙ counting_append (a + 1) m n)
    ∙ ap (range_with_len a) h

numbers_count : (n k : ℕ) (s : Forest Spelled) → map (λ (x : Numbered). x.number) (listing (numbered n k s)) ≡ range_with_len n (count s)
numbers_count n k bare = refl
numbers_count n k (plant e below after) =
    let k' = k + cond (is_leaf e.kind) 1 (leaf_count below) in
    ap {B = List ℕ} (λ (l : List ℕ). n ∷ l)
    (map-append (λ (x : Numbered). x.number) (listing (numbered (n + 1) k below)) (listing (numbered (n + 1 + count below) k' after))
    ∙ ap₂ (λ (a b : List ℕ). a ++ b) (numbers_count (n + 1) k below) (numbers_count (n + 1 + count below) k' after)
    ∙ counting_append (n + 1) (count below) (count after)
    ∙ ap (range_with_len (n + 1)) (sym (length-append (listing below) (listing after))))

abbrev last_number : Way Numbered → ℕ
last_number w = w.end.leaf_number

leaves_count : (n k : ℕ) (s : Forest Spelled) → map (λ (w : Way Numbered). w.end.leaf_number) (ways leaf_node (numbered n k s)) ≡ range_with_len k (leaf_count s)
leaves_count n k bare = refl
leaves_count n k (plant e below after) =
    let k' = k + cond (is_leaf e.kind) 1 (leaf_count below) in
    let x : Numbered = numbered_as n k e in
    map-append last_number (cond (is_leaf e.kind) (straight x ∷ []) (map (under x) (ways leaf_node (numbered (n + 1) k below))))
    (ways leaf_node (numbered (n + 1 + count below) k' after))
    ∙ ap₂ (λ (a b : List ℕ). a ++ b) (go x (is_leaf e.kind) refl (leaves_count (n + 1) k below)) (leaves_count (n + 1 + count below) k' after)
    ∙ counting_append k (cond (is_leaf e.kind) 1 (leaf_count below)) (leaf_count after)
  where
    go : (x : Numbered) (b : Bool) → x.leaf_number ≡ k → map last_number (ways leaf_node (numbered (n + 1) k below)) ≡ range_with_len k (leaf_count below)
        → map last_number (cond b (straight x ∷ []) (map (under x) (ways leaf_node (numbered (n + 1) k below)))) ≡ range_with_len k (cond b 1 (leaf_count below))
    go x true e h = ap {B = List ℕ} (λ (m : ℕ). m ∷ []) e
    go x false e h = map_twice last_number (under x) last_number (λ w. refl) (ways leaf_node (numbered (n + 1) k below)) ∙ h

pub numbered_in_order : NumberedInOrder
numbered_in_order t =
    record {
      paths = ways_relabel leaf_node numbered_at (spots (read t)) ∙ ap (ways leaf_node) ((relabel_spots (λ (x : Read). x.of) (read t) ∙ relabel_of as_root nobody (numbered 0 0 (alone t))));
      elements = relabel_numbered 0 0 (alone t);
      numbers = numbers_count 0 0 (alone t);
      leaf_numbers = leaves_count 0 0 (alone t);
    }
