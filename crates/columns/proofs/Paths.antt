-- Paths, levels and stretches of a finished schema's flat table, step by step.
use Rattle.std.proofs.Common.{◌≡◌, ℕ, zero, suc, ◌+◌, ◌-◌, ◌<◌, ◌≤◌, Bool, true, false, cond, not, eqb, ltb, ◌⊎◌, List, [], ◌∷◌, ◌++◌, length, get_or, drop, Some, None, filter, Option, sym, refl, ap, ◌∙◌, subst, ap₂, inl, inr, append_assoc, add-one, arith, MatchOption}
use Rattle.std.specs.List.{slice_get, range_with_len, flat_map}
use Rattle.std.proofs.lemmas.Bool.{cond-true, cond-false, lt-ltb, le-ltb, eq-eqb, ne_eqb, cases_lt, and_parts}
use Rattle.std.proofs.lemmas.List.{length-append, length-drop, get_or-drop, get_or-map}
use Rattle.std.proofs.lemmas.List.Elements.{filter-append}
use Rattle.tree.specs.Forest.{Forest, alone, listing, Lists, size_at, children, below_at, count, depth}
use Rattle.tree.specs.Around.{holds_place, around}
use Rattle.tree.proofs.Ancestors.{ancestors, holds_yes, kept_by_skips}
use Rattle.tree.proofs.Depths.{line_child, length_line, child_of}
use Rattle.tree.proofs.Trees.{ends_within, below_rows, tops_first, tops_after, After, size_read}
use Rattle.schema.specs.declared.basic.Repetition.{Repetition}
use Rattle.schema.specs.declared.basic.Repetition.TheVariants.{Required, Optional, Repeated}
use Rattle.schema.specs.declared.element.Element.{Element}
use Rattle.schema.specs.Elements.{element_span, is_group, empty}
use Rattle.schema.specs.Rows.{IsFinished, deeper, depths_of, sizes_kept}
use Rattle.schema.proofs.ByDepths.{row_depth, leaf_size, depth_most, rows_long, kept_from_finished}
use Rattle.schema.proofs.Steps.{Known, known_drop, known_from_kept, size_known}
use Rattle.columns.specs.Levels.{row_at, path_of, repeats, may_miss, rep_level, def_level, to_repeated, repeated_def_level, roots_before, is_leaf, leaves_in}
use Rattle.columns.specs.Listing.{column_of, columns_from, path_numbers}
use Rattle.columns.specs.Walk.{leaves_at, leaves_below, place_of}

-- Lists.

counting_append : (a m n : ℕ) → range_with_len a (m + n) ≡ range_with_len a m ++ range_with_len (a + m) n
counting_append a zero n = ap₂ range_with_len (sym zero_right) zero_left
  where
    zero_right : a + 0 ≡ a
    zero_right = omega arith

    zero_left : 0 + n ≡ n
    zero_left = omega arith
counting_append a (suc m) n =
    ap (range_with_len a) (let e : suc m + n ≡ suc (m + n) = omega arith in e)
    ∙ ap (λ xs. a ∷ xs) (counting_append (a + 1) m n ∙ ap (λ b. range_with_len (a + 1) m ++ range_with_len b n) (let e : (a + 1) + m ≡ a + suc m = omega arith in e))

joined_append : {X A : Type 0} (f : X → List A) (xs ys : List X) → flat_map f (xs ++ ys) ≡ flat_map f xs ++ flat_map f ys
joined_append f [] ys = refl
joined_append f (x ∷ xs) ys = ap (λ zs. f x ++ zs) (joined_append f xs ys) ∙ sym (append_assoc (f x) (flat_map f xs) (flat_map f ys))

pub leaves_split : (rows : List Element) (a b m n k : ℕ) → a + m ≡ b → m + n ≡ k → leaves_in rows a k ≡ leaves_in rows a m ++ leaves_in rows b n
leaves_split rows a b m n k e f =
    ap (λ j. leaves_in rows a j) (sym f) ∙ ap (filter (is_leaf rows)) (counting_append a m n) ∙ filter-append (is_leaf rows) (range_with_len a m) (range_with_len (a + m) n)
    ∙ ap (λ c. leaves_in rows a m ++ leaves_in rows c n) e

pub columns_append : (rows : List Element) (start : ℕ) (es fs : List ℕ) → columns_from rows start (es ++ fs) ≡ columns_from rows start es ++ columns_from rows (start + length (path_numbers rows es)) fs
columns_append rows start [] fs = ap (λ n. columns_from rows n fs) (let e : start ≡ start + 0 = omega arith in e)
columns_append rows start (e ∷ es) fs =
    ap (λ xs. column_of rows start e ∷ xs)
    (columns_append rows (start + length (path_of rows e)) es fs
    ∙ ap (λ n. columns_from rows (start + length (path_of rows e)) es ++ columns_from rows n fs)
    (omega (arith, length-append (path_of rows e) (path_numbers rows es))))

pub numbers_append : (rows : List Element) (es fs : List ℕ) → path_numbers rows (es ++ fs) ≡ path_numbers rows es ++ path_numbers rows fs
numbers_append rows es fs = joined_append (path_of rows) es fs

-- Levels of a path that is one element longer.

which : (b : Bool) → (b ≡ true) ⊎ (b ≡ false)
which true = inl refl
which false = inr refl

-- what repeats may be missing
missing : (o : Option Repetition) → repeats o ≡ true → may_miss o ≡ true
missing None e = e
missing (Some Required) e = e
missing (Some Optional) e = refl
missing (Some Repeated) e = refl

module _ (rows : List Element) where
  pub rep_push : (is : List ℕ) (c : ℕ) → rep_level rows (is ++ c ∷ []) ≡ rep_level rows is + cond (repeats (row_at rows c).repetition) 1 0
  rep_push [] c = omega arith
  rep_push (i ∷ is) c = omega (arith, rep_push is c)

  pub def_push : (is : List ℕ) (c : ℕ) → def_level rows (is ++ c ∷ []) ≡ def_level rows is + cond (may_miss (row_at rows c).repetition) 1 0
  def_push [] c = omega arith
  def_push (i ∷ is) c = omega (arith, def_push is c)

  -- a repeated element ends the front
  front_repeated : (is : List ℕ) (c : ℕ) → repeats (row_at rows c).repetition ≡ true → to_repeated rows (is ++ c ∷ []) ≡ is ++ c ∷ []
  front_repeated [] c r = cond-false (eqb (rep_level rows (c ∷ [])) 0) _ _ (ne_eqb (rep_level rows (c ∷ [])) 0 (λ z. omega (arith, z, ap {B = ℕ} (λ b. cond b 1 0 + 0) r)))
  front_repeated (i ∷ is) c r =
      cond-false (eqb (rep_level rows (i ∷ (is ++ c ∷ []))) 0) _ _ (ne_eqb (rep_level rows (i ∷ (is ++ c ∷ []))) 0 (λ z. omega (arith, z, rep_push is c, ap {B = ℕ} (λ b. cond b 1 0) r)))
      ∙ ap (λ xs. i ∷ xs) (front_repeated is c r)

  -- any other leaves it as it was
  front_other : (is : List ℕ) (c : ℕ) → repeats (row_at rows c).repetition ≡ false → to_repeated rows (is ++ c ∷ []) ≡ to_repeated rows is
  front_other [] c r = cond-true (eqb (rep_level rows (c ∷ [])) 0) _ _ (eq-eqb (rep_level rows (c ∷ [])) 0 (omega (arith, ap {B = ℕ} (λ b. cond b 1 0 + 0) r)))
  front_other (i ∷ is) c r =
      ap₂ (λ n xs. cond (eqb n 0) [] (i ∷ xs)) (omega (arith, rep_push is c, ap {B = ℕ} (λ b. cond b 1 0) r)) (front_other is c r)

  pub nearest_push : (is : List ℕ) (c : ℕ) → repeated_def_level rows (is ++ c ∷ []) ≡ cond (repeats (row_at rows c).repetition) (def_level rows is + 1) (repeated_def_level rows is)
  nearest_push is c =
      elim (which (repeats (row_at rows c).repetition)) [
        | inl r ↦ ap (def_level rows) (front_repeated is c r) ∙ def_push is c ∙ ap (λ b. def_level rows is + cond b 1 0) (missing (row_at rows c).repetition r) ∙ sym (cond-true _ (def_level rows is + 1) (repeated_def_level rows is) r)
        | inr r ↦ ap (def_level rows) (front_other is c r) ∙ sym (cond-false _ (def_level rows is + 1) (repeated_def_level rows is) r)
      ]

  -- a path has no more levels than elements
  pub rep_most : (is : List ℕ) → rep_level rows is ≤ def_level rows is
  rep_most [] = omega arith
  rep_most (i ∷ is) = omega (arith, rep_most is, fewer (row_at rows i).repetition)
    where
      fewer : (o : Option Repetition) → cond (repeats o) 1 0 ≤ cond (may_miss o) 1 0
      fewer None = omega arith
      fewer (Some Required) = omega arith
      fewer (Some Optional) = omega arith
      fewer (Some Repeated) = omega arith

  pub def_most : (is : List ℕ) → def_level rows is ≤ length is
  def_most [] = omega arith
  def_most (i ∷ is) = elim (may_miss (row_at rows i).repetition) as (λ b. cond b 1 0 + def_level rows is ≤ suc (length is)) [ true ↦ omega (arith, def_most is) | false ↦ omega (arith, def_most is) ]

-- the deeper rows at the front are deeper
one_more : (d x : ℕ) (xs : List ℕ) (i n : ℕ) → ((j : ℕ) → j < n → d < get_or xs j 0) → i < n + 1 → d < x → d < get_or (x ∷ xs) i 0
one_more d x xs zero n below h l = l
one_more d x xs (suc i) n below h l = below i (omega (arith, h))

deeper_all : (d : ℕ) (xs : List ℕ) (i : ℕ) → i < deeper d xs → d < get_or xs i 0
deeper_all d [] i h = absurd (omega (arith, h))
deeper_all d (x ∷ xs) i h =
    elim (cases_lt d x) [
      | inl l ↦ one_more d x xs i (deeper d xs) (λ j k. deeper_all d xs j k) (omega (arith, h, cond-true (ltb d x) (deeper d xs + 1) 0 (lt-ltb d x l))) l
      | inr g ↦ absurd (omega (arith, h, cond-false (ltb d x) (deeper d xs + 1) 0 (le-ltb d x g)))
    ]

-- Places of a finished schema.

module _ (bytes : ℕ) (rows : List Element) (fin : IsFinished bytes rows) where
  abbrev forest : Forest Element
  forest = alone fin.0

  abbrev listed : Lists element_span (alone fin.0) rows
  listed = fin.2

  -- the root's stretch is the whole table
  pub some_rows : 0 < length rows
  some_rows = omega (arith, rows_long bytes rows fin)

  pub root_size : size_at element_span rows 0 ≡ length rows
  root_size =
      let b = below_rows element_span forest rows listed 0 some_rows in
      b.2 ∙ omega (arith, rows_long bytes rows fin, length-append (listing fin.0.under) [])

  -- the rows around an element are the root and its path
  around_path : (e : ℕ) → e < length rows → around element_span rows e ≡ 0 ∷ path_of rows e
  around_path e h = cond-true (holds_place element_span rows 0 e) _ _ (holds_yes element_span rows 0 e (omega arith) (omega (arith, h, root_size)))

  -- a child's path is its parent's, and then the child
  pub path_child : (p k c : ℕ) → slice_get (children forest p) k ≡ Some c → p < length rows → c < length rows → path_of rows c ≡ path_of rows p ++ c ∷ []
  path_child p k c e hp hc =
      let a : 0 ∷ path_of rows c ≡ (0 ∷ path_of rows p) ++ c ∷ [] =
      sym (around_path c hc) ∙ ancestors element_span forest rows listed c hc ∙ line_child forest p k c e
      ∙ ap (λ xs. xs ++ c ∷ []) (sym (ancestors element_span forest rows listed p hp) ∙ around_path p hp) in
      cc

  -- a path is as long as its element is deep
  pub path_long : (e : ℕ) → e < length rows → length (path_of rows e) ≡ (row_at rows e).depth
  path_long e h =
      let a : suc (length (path_of rows e)) ≡ depth forest e + 1 =
      ap length (sym (around_path e h) ∙ ancestors element_span forest rows listed e h) ∙ length_line forest e (omega (arith, h, rows_long bytes rows fin)) in
      omega (arith, a, row_depth bytes rows fin e h)

  pub path_most : (e : ℕ) → e < length rows → length (path_of rows e) ≤ 64
  path_most e h = omega (arith, path_long e h, depth_most bytes rows fin e h)

  -- a leaf's stretch is itself
  pub leaf_at : (e : ℕ) → e < length rows → is_group (row_at rows e).kind ≡ false → leaves_at rows e ≡ e ∷ []
  leaf_at e h k =
      ap (leaves_in rows e) (leaf_size bytes rows fin e h k) ∙ cond-true (is_leaf rows e) _ _ (ap not k)

  -- a group's are those below it
  pub group_at : (e : ℕ) → e < length rows → is_group (row_at rows e).kind ≡ true → leaves_at rows e ≡ leaves_below rows e
  group_at e h k =
      let one = (ends_within element_span forest rows listed e h).0 in
      let n : size_at element_span rows e ≡ suc (size_at element_span rows e - 1) = omega (arith, one) in
      ap (leaves_in rows e) n ∙ cond-false (is_leaf rows e) _ _ (ap not k)

  known_rows : Known rows
  known_rows = known_from_kept rows (and_parts _ (sizes_kept rows) (kept_from_finished bytes rows fin)).1

  -- the rows of a stretch but its first lie deeper than it
  pub inside_deeper : (c j : ℕ) → c < length rows → c < j → j < c + size_at element_span rows c → (row_at rows c).depth < (row_at rows j).depth
  inside_deeper c j h l u =
      let s = size_known rows c 0 h (known_drop c rows known_rows) in
      let told = size_read element_span rows c empty (row_at rows c).size h refl in
      let n : c + 1 + (j - (c + 1)) ≡ j = omega (arith, l) in
      let fits = (ends_within element_span forest rows listed c h).1 in
      let a = deeper_all (row_at rows c).depth (depths_of (drop (c + 1) rows)) (j - (c + 1)) (omega (arith, s, told, l, u)) in
      let b : get_or (depths_of (drop (c + 1) rows)) (j - (c + 1)) 0 ≡ (row_at rows j).depth =
      get_or-map (λ (x : Element). x.depth) (drop (c + 1) rows) (j - (c + 1)) empty 0 (omega (arith, length-drop (c + 1) rows, l, u, fits))
      ∙ ap (λ (x : Element). x.depth) (get_or-drop (c + 1) rows (j - (c + 1)) empty) ∙ ap (λ m. (row_at rows m).depth) n in
      omega (arith, a, b)

  -- past the stretch of a child of the root one more of them has come
  pub roots_past : (k c : ℕ) → slice_get (children forest 0) k ≡ Some c → c < length rows → roots_before rows (c + size_at element_span rows c) ≡ roots_before rows c + 1
  roots_past k c e h =
      let z : ℕ = size_at element_span rows c in
      let at = child_of element_span forest rows listed 0 k c e in
      let one : (row_at rows c).depth ≡ 1 = sym (path_long c h) ∙ ap length (path_child 0 k c e some_rows h) in
      let ends = ends_within element_span forest rows listed c h in
      let test : ℕ → Bool = λ i. eqb (row_at rows i).depth 1 in
      let n : (c + z) - 1 ≡ (c - 1) + z = omega (arith, at.0) in
      let m : 1 + (c - 1) ≡ c = omega (arith, at.0) in
      let skip : filter test (range_with_len (c + 1) (z - 1)) ≡ filter test (range_with_len (c + z) 0) =
      kept_by_skips test (c + 1) (z - 1) 0 (c + z) (z - 1) (omega (arith, ends.0)) (omega arith)
      (λ j l u. ne_eqb (row_at rows j).depth 1 (λ q. omega (arith, q, one, inside_deeper c j h (omega (arith, l)) u))) in
      let first : filter test (range_with_len c z) ≡ c ∷ [] =
      ap (λ y. filter test (range_with_len c y)) (let y : z ≡ suc (z - 1) = omega (arith, ends.0) in y)
      ∙ cond-true (test c) _ _ (eq-eqb (row_at rows c).depth 1 one) ∙ ap (λ xs. c ∷ xs) skip in
      let whole : filter test (range_with_len 1 ((c + z) - 1)) ≡ filter test (range_with_len 1 (c - 1)) ++ c ∷ [] =
      ap (λ y. filter test (range_with_len 1 y)) n ∙ ap (filter test) (counting_append 1 (c - 1) z) ∙ filter-append test (range_with_len 1 (c - 1)) (range_with_len (1 + (c - 1)) z)
      ∙ ap (λ y. filter test (range_with_len 1 (c - 1)) ++ filter test (range_with_len y z)) m ∙ ap (λ xs. filter test (range_with_len 1 (c - 1)) ++ xs) first in
      ap length whole ∙ length-append (filter test (range_with_len 1 (c - 1))) (c ∷ [])

  -- the first place below a parent, and the place after a child
  pub first_place : (p : ℕ) → p < length rows → place_of rows p (slice_get (children forest p) 0) ≡ p + 1
  first_place p h = start (slice_get (children forest p) 0) (tops_first element_span (below_at forest p) (p + 1)) (below_rows element_span forest rows listed p h).2
    where
      start : (o : Option ℕ) → MatchOption o (count (below_at forest p) ≡ 0) (λ c. (c ≡ p + 1) × (0 < count (below_at forest p))) → size_at element_span rows p ≡ suc (count (below_at forest p)) → place_of rows p o ≡ p + 1
      start None x s = omega (arith, x, s)
      start (Some c) x s = x.0

  pub next_place : (p k c : ℕ) → p < length rows → slice_get (children forest p) k ≡ Some c → (place_of rows p (slice_get (children forest p) (k + 1)) ≡ c + size_at element_span rows c) × (c + size_at element_span rows c ≤ p + size_at element_span rows p)
  next_place p k c h e =
      let b = below_rows element_span forest rows listed p h in
      let x = tops_after element_span rows (below_at forest p) b.3 (p + 1) b.0 b.1 k c e in
      let n : (p + 1) + count (below_at forest p) ≡ p + size_at element_span rows p = omega (arith, b.2) in
      after (slice_get (children forest p) (k + 1)) (subst (λ j. After element_span rows c ((p + 1) + count (below_at forest p)) (slice_get (children forest p) j)) (sym (add-one k)) x.1) n
    where
      after : (o : Option ℕ) → After element_span rows c ((p + 1) + count (below_at forest p)) o → (p + 1) + count (below_at forest p) ≡ p + size_at element_span rows p → (place_of rows p o ≡ c + size_at element_span rows c) × (c + size_at element_span rows c ≤ p + size_at element_span rows p)
      after None x n = (omega (arith, x.2, n), omega (arith, x.2, n))
      after (Some d) x n = (x.2.0, omega (arith, x.2.0, x.2.1, n))
