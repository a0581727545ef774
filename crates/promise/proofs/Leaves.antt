-- The leaves of a schema, by their numbers, and the columns of a listing.
use Rattle.std.proofs.Common.{◌≡◌, ℕ, zero, suc, ◌+◌, ◌<◌, ◌≤◌, Bool, true, false, cond, List, [], ◌∷◌, map, length, get_or, Ok, filter, sym, refl, ap, ◌∙◌, arith}
use Rattle.std.proofs.lemmas.Bool.{not-true, true≢false}
use lib.ListN.{length-map}
use Rattle.std.specs.List.{range_with_len, AllByRecursion}
use Rattle.std.proofs.lemmas.List.FromFn.{length-range_with_len, get_or-range_with_len}
use Rattle.std.proofs.ByRecursion.{all_from_every, all_kept_by, All-map}
use Rattle.std.proofs.lemmas.List.{get_or_append_left, get_or-map}
use Rattle.tree.specs.Forest.{Forest, Tree, alone}
use Rattle.tree.specs.Forest.Forest.{bare, plant}
use Rattle.schema.specs.declared.element.Element.{Element}
use Rattle.schema.specs.Elements.{is_group}
use Rattle.schema.specs.Posts.{shown_as}
use Rattle.schema.specs.Rows.{ByDepth, IsFinished}
use Rattle.schema.specs.Words.{Spelled}
use Rattle.columns.specs.declared.column.Column.{Column}
use Rattle.columns.specs.declared.record.PathRecord.{PathRecord}
use Rattle.columns.specs.Levels.{leaves_of, path_of}
use Rattle.columns.specs.Listing.{Listing, column_of, columns_from, empty_column}
use Rattle.arrow.specs.declared.row.LeafNumbers.{LeafNumbers}
use Rattle.walk.specs.Forests.{Spot, Way, on_way, relabel}
use Rattle.walk.specs.Labels.{Numbered, leaf_count, shown_tree}
use Rattle.walk.specs.Laws.{LeavesEnd, kept_leaves}
use Rattle.walk.specs.Levels.{kept_leaf, leaf_row_of, leaves}
use Rattle.walk.specs.Reading.{Read}
use Rattle.walk.specs.Shape.{Row}
use Rattle.walk.specs.Shape.RowKind.{leaf_row}
use Rattle.walk.proofs.Lists.{map_twice}
use Rattle.walk.proofs.Listed.{kinds_same, leaves_as_listed}
use Rattle.walk.proofs.Numbers.{numbered_in_order}
use Rattle.promise.specs.Promise.{AtDepth}

-- ── Depths and leaves of the tree shown ──

module _ (names : List ℕ) where
  pub at_depth : (d : ℕ) (f : Forest Element) → ByDepth d f → AtDepth d (relabel (shown_as names) f)
  at_depth d bare t = tt
  at_depth d (plant e below after) t = (t.0, at_depth (d + 1) below t.2, at_depth d after t.3)

  pub leaves_end : (d : ℕ) (f : Forest Element) → ByDepth d f → LeavesEnd (relabel (shown_as names) f)
  leaves_end d bare t = tt
  leaves_end d (plant e below after) t =
      ((λ h. ap (relabel (shown_as names)) (t.1 (not-true (is_group e.kind) (sym (kinds_same e.kind) ∙ h)))), leaves_end (d + 1) below t.2, leaves_end d after t.3)

-- ── Leaves by their numbers ──

-- a row's leaf numbers, if any, are those of the schema: the leaf's number is its place among the leaves
abbrev pub RightNumbers : List Element → Row → Type 0
RightNumbers elements row = (k : LeafNumbers) → row.kind ≡ leaf_row k → (k.leaf < length (leaves_of elements)) × (get_or (leaves_of elements) k.leaf 0 ≡ k.element)

abbrev number_of : Way (Spot Read) → ℕ
number_of q = q.end.node.of.number

abbrev leaf_number_of : Way (Spot Read) → ℕ
leaf_number_of q = q.end.node.of.leaf_number

kind_numbers : {j k : LeafNumbers} → leaf_row j ≡ leaf_row k → j ≡ k
kind_numbers e = cc

module _ (names : List ℕ) (bytes : ℕ) (elements : List Element) (fin : IsFinished bytes elements) where
  abbrev tree_shown : Tree Spelled
  tree_shown = shown_tree names fin.0

  leaf_numbers : map leaf_number_of (leaves tree_shown) ≡ range_with_len 0 (leaf_count (alone tree_shown))
  leaf_numbers =
      sym (map_twice (λ (w : Way Numbered). w.end.leaf_number) (on_way (λ (p : Spot Read). p.node.of)) leaf_number_of (λ q. refl) (leaves tree_shown))
      ∙ ap (map (λ (w : Way Numbered). w.end.leaf_number)) (numbered_in_order tree_shown).paths ∙ (numbered_in_order tree_shown).leaf_numbers

  pub leaves_count : length (leaves tree_shown) ≡ length (leaves_of elements)
  leaves_count = sym (length-map (leaves tree_shown) number_of) ∙ ap length (leaves_as_listed names bytes elements fin)

  pub leaf_count_is : leaf_count (alone tree_shown) ≡ length (leaves_of elements)
  leaf_count_is =
      sym (length-range_with_len 0 (leaf_count (alone tree_shown))) ∙ ap length (sym leaf_numbers) ∙ length-map (leaves tree_shown) leaf_number_of ∙ leaves_count

  leaf_at : (j : ℕ) (d : Way (Spot Read)) → 0 ≤ j → j < length (leaves tree_shown) → RightNumbers elements (leaf_row_of (get_or (leaves tree_shown) j d))
  leaf_at j d z h k e =
      let w = get_or (leaves tree_shown) j d in
      let same : record { element = number_of w; leaf = leaf_number_of w } ≡ k = kind_numbers e in
      let low : j < leaf_count (alone tree_shown) = omega (arith, leaf_count_is, leaves_count) in
      let place : leaf_number_of w ≡ j =
      sym (get_or-map leaf_number_of (leaves tree_shown) j d 0 h) ∙ ap (λ (l : List ℕ). get_or l j 0) leaf_numbers ∙ get_or-range_with_len 0 (leaf_count (alone tree_shown)) j 0 low
      ∙ (let s : 0 + j ≡ j = omega arith in s) in
      let element : number_of w ≡ get_or (leaves_of elements) j 0 =
      sym (get_or-map number_of (leaves tree_shown) j d 0 h) ∙ ap (λ (l : List ℕ). get_or l j 0) (leaves_as_listed names bytes elements fin) in
      let is : k.leaf ≡ j = ap (λ (n : LeafNumbers). n.leaf) (sym same) ∙ place in (
        omega (arith, is, leaves_count),
        ap (λ (i : ℕ). get_or (leaves_of elements) i 0) is ∙ sym element ∙ ap (λ (n : LeafNumbers). n.element) same,
      )

  pub kept_right : (chosen : ℕ → Bool) → AllByRecursion (RightNumbers elements) (map leaf_row_of (kept_leaves chosen tree_shown))
  kept_right chosen =
      All-map (RightNumbers elements) leaf_row_of (kept_leaves chosen tree_shown)
      (all_kept_by (kept_leaf chosen) (λ w. RightNumbers elements (leaf_row_of w)) (leaves tree_shown)
      (all_from_every (λ w. RightNumbers elements (leaf_row_of w)) (leaves tree_shown) leaf_at))

-- what holds of all that is kept holds of all that passes
pub all_passing : {A : Type 0} (P : A → Type 0) (p : A → Bool) (xs : List A) → AllByRecursion P (filter p xs) → AllByRecursion (λ x. p x ≡ true → P x) xs
all_passing P p [] t = tt
all_passing {A} P p (x ∷ xs) t = go (p x) refl t (all_passing P p xs)
  where
    go : (b : Bool) → p x ≡ b → AllByRecursion P (cond b (x ∷ filter p xs) (filter p xs)) → (AllByRecursion P (filter p xs) → AllByRecursion (λ y. p y ≡ true → P y) xs)
        → (p x ≡ true → P x) × AllByRecursion (λ y. p y ≡ true → P y) xs
    go true e s more = ((λ h. s.0), more s.1)
    go false e s more = ((λ h. absurd (true≢false (sym h ∙ e))), more s)

-- ── The columns of a listing ──

columns_at : (rows : List Element) (start : ℕ) (es : List ℕ) (j : ℕ) → j < length es
    → (s : ℕ) × (get_or (columns_from rows start es) j empty_column ≡ column_of rows s (get_or es j 0))
columns_at rows start [] j h = absurd (omega arith)
columns_at rows start (e ∷ es) zero h = (start, refl)
columns_at rows start (e ∷ es) (suc j) h = columns_at rows (start + length (path_of rows e)) es j (omega arith)

columns_length : (rows : List Element) (start : ℕ) (es : List ℕ) → length (columns_from rows start es) ≡ length es
columns_length rows start [] = refl
columns_length rows start (e ∷ es) = ap suc (columns_length rows (start + length (path_of rows e)) es)

-- the column at a leaf's number in the table of an accepted listing
pub listed_column : (kept : Bool) (rows : List Element) (path : PathRecord) (columns paths m : ℕ) (table : List Column) (numbers : List ℕ)
    → Listing kept rows path columns paths (Ok m) table numbers → (j : ℕ) → j < length (leaves_of rows)
    → (j < m) × ((s : ℕ) × (get_or table j empty_column ≡ column_of rows s (get_or (leaves_of rows) j 0)))
listed_column kept rows path columns paths m table numbers l j h =
    let at = columns_at rows 0 (leaves_of rows) j h in
    let long : j < length (columns_from rows 0 (leaves_of rows)) = omega (arith, columns_length rows 0 (leaves_of rows)) in (
      omega (arith, l.count),
      (at.0, ap (λ (t : List Column). get_or t j empty_column) l.table ∙ get_or_append_left (columns_from rows 0 (leaves_of rows)) _ empty_column j long ∙ at.1),
    )
