-- The promise, from what every conversion does.
use Rattle.std.proofs.Common.{◌≡◌, ℕ, ◌*◌, ◌<◌, Bool, true, false, ◌&&◌, ltb, List, [], ◌∷◌, map, length, get_or, take, Some, None, Ok, Err, filter, Result, sym, refl, ap, ◌∙◌, subst, inl, inr, arith}
use Rattle.std.specs.List.{range_with_len, AllByRecursion}
use Rattle.std.proofs.lemmas.List.FromFn.{take-map-range_with_len, fill_by_all, get_or-map-range_with_len, length-map-range_with_len}
use Rattle.std.proofs.ByRecursion.{All-get_or}
use Rattle.std.proofs.lemmas.List.{take_at, get_or_append_left}
use Rattle.std.proofs.lemmas.Bool.{ltb-false, or_parts, true≢false}
use Rattle.std.proofs.lemmas.Option.{none-some}
use Rattle.tree.specs.Forest.{Forest, Tree, Lists, alone, count, listing}
use Rattle.tree.specs.Forest.Forest.{bare}
use Rattle.schema.specs.declared.refusal.Refusal.{Refusal}
use Rattle.schema.specs.declared.refusal.Refusal.TheVariants as no
use Rattle.schema.specs.Posts.{shown_as}
use Rattle.schema.specs.Reach.{Reached, SchemaHolds, whole}
use Rattle.schema.specs.Refusals.{element_of, number_of}
use Rattle.schema.specs.Rows.{IsFinished}
use Rattle.schema.specs.Words.{Event, Spelled, Words, spelled}
use Rattle.schema.proofs.Told.{reached_holds, memory_law}
use Rattle.columns.specs.declared.column.Column.{Column}
use Rattle.columns.specs.declared.record.PathRecord.{PathRecord}
use Rattle.columns.specs.Levels.{def_level, leaves_of, path_of, rep_level}
use Rattle.columns.specs.Listing.{Listing, empty_column}
use Rattle.selection.specs.Sets.{below}
use Rattle.arrow.specs.declared.hint.HintRow.{HintRow}
use Rattle.arrow.specs.declared.row.LeafNumbers.{LeafNumbers}
use Rattle.arrow.specs.declared.row.ResultRow.{ResultRow}
use Rattle.arrow.specs.HintTrees.{IsHint}
use Rattle.arrow.specs.Kinds.{hint_span, row_span}
use Rattle.walk.specs.Flat.{LevelsRead, SizedRow, table_of}
use Rattle.walk.specs.Flat.{result_at as table_row}
use Rattle.walk.specs.Forests.{relabel}
use Rattle.walk.specs.Hints.{Hint, hints_of}
use Rattle.walk.specs.Labels.{leaf_count, shown_tree}
use Rattle.walk.specs.Laws.{full_row, kept_leaves}
use Rattle.walk.specs.Laws.{Low as LowRow}
use Rattle.walk.specs.Levels.{is_leaf_row, leaf_row_of, leaves as leaf_ways, row_leaf}
use Rattle.walk.specs.Faults.{Typing}
use Rattle.walk.specs.Refusing.{faults_at}
use Rattle.walk.specs.Results.{line_of, lines, plain_row, read_table}
use Rattle.walk.specs.Shape.{Row, plain_rows}
use Rattle.walk.specs.Shape.RowKind.{leaf_row}
use Rattle.walk.specs.Walk.{Full, leaf_typing, walk, walk_under}
use Rattle.walk.specs.declared.levels.Levels.{Levels}
use Rattle.walk.proofs.Bounds.{levels_bounded}
use Rattle.walk.proofs.Chosen.{same_selection}
use Rattle.walk.proofs.Hinted.{hints_keep_shape, plain_shape, walk_leveled}
use Rattle.walk.proofs.Lists.{listing_relabel}
use Rattle.walk.proofs.Ordered.{walked_in_order}
use Rattle.walk.proofs.Refused.{refused_first}
use Rattle.walk.proofs.Tables.{flat_levels}
use Rattle.walk.proofs.Uniques.{same_schema}
use Rattle.promise.specs.Conversion.{Accepted, Conversion, Converts, Settled, counted, empty_row, kept, leaves, short_table}
use Rattle.promise.specs.Conversion.Converts.{no_hint, no_room, other_memory, walked}
use Rattle.promise.specs.Promise.{Alike, ColumnAgrees, Fulfilled, Low, PromiseKept, SameChoice, in_use, outline, result_at}
use Rattle.promise.proofs.Leaves.{RightNumbers, all_passing, at_depth, kept_right, leaf_count_is, leaves_count, leaves_end, listed_column}
use Rattle.promise.proofs.Rows.{leaf_kind, length_used, outline_used, outlines, plain_used, replanted, row_used, table_used}

-- ── Small facts ──

ok_not_err : {A B : Type 0} {a : Result A B} {x : A} {y : B} → a ≡ Err y → a ≡ Ok x → ⊥
ok_not_err e o = let z : ◌≡◌ {A = ℕ} 0 1 = cc in omega arith

same_ok : {A B : Type 0} {a : Result A B} {x y : A} → a ≡ Ok x → a ≡ Ok y → x ≡ y
same_ok e o = cc

same_err : {A B : Type 0} {a : Result A B} {x y : B} → a ≡ Err x → a ≡ Err y → x ≡ y
same_err e o = cc

all_unmap : {A B : Type 0} (P : B → Type 0) (f : A → B) (xs : List A) → AllByRecursion P (map f xs) → AllByRecursion (λ x. P (f x)) xs
all_unmap P f [] t = tt
all_unmap P f (x ∷ xs) t = (t.0, all_unmap P f xs t.1)

first_of_all : {A : Type 0} (P : A → Type 0) (xs ys : List A) (x : A) → xs ≡ x ∷ ys → AllByRecursion P xs → P x
first_of_all P xs ys x e t = (subst (AllByRecursion P) e t).0

hint_forest : {n : ℕ} {rows : List HintRow} → IsHint n rows → (h : Forest HintRow) × Lists hint_span h rows
hint_forest (inl e) = (bare, record { lists = sym e; sized = tt })
hint_forest (inr t) = (alone t.0, t.1.lists)

-- ── An accepted conversion ──

module _ (c : Conversion) where
  -- what is known of it, over the tree of a finished schema
  pub record Done (n : ℕ) (fin : IsFinished c.schema.bytes (counted c)) : Type 0 where
    pub hints : Forest HintRow
    pub hinted : Lists hint_span hints c.hints
    pub walk : Forest Full
    pub walked : walk_under c.text hints c.chosen (shown_tree c.names fin.0) ≡ Ok walk
    pub accepted : Accepted c walk
    pub roomy : short_table c ≡ false
    pub counts : count walk ≡ n

  settle : (r : Result (Forest Full) Refusal) → Settled c r → (n : ℕ) → c.answer ≡ Ok n → (f : Forest Full) × (r ≡ Ok f) × Accepted c f
  settle (Ok f) s n a = (f, refl, s)
  settle (Err e) s n a = absurd (ok_not_err s.answer a)

  done : Converts c → (n : ℕ) → c.answer ≡ Ok n → (fin : IsFinished c.schema.bytes (counted c)) → Done n fin
  done (other_memory e r) n a fin = absurd (ok_not_err r.answer a)
  done (no_hint e h r) n a fin = absurd (ok_not_err r.answer a)
  done (no_room e h s r) n a fin = absurd (ok_not_err r.answer a)
  done (walked e h s w) n a fin =
      let hs = hint_forest h in
      let t = settle (walk_under c.text hs.0 c.chosen (shown_tree c.names fin.0)) (w fin hs.0 hs.1) n a in
      record { hints = hs.0; hinted = hs.1; walk = t.0; walked = t.1; accepted = t.2; roomy = s; counts = same_ok t.2.answer a }

  -- ── Its rows ──

  module _ (n : ℕ) (fin : IsFinished c.schema.bytes (counted c)) (d : Done n fin) where
    abbrev tree_shown : Tree Spelled
    tree_shown = shown_tree c.names fin.0

    abbrev typing : Typing
    typing = leaf_typing (listing d.hints) c.text

    abbrev hints_given : Forest Hint
    hints_given = hints_of c.text 0 d.hints

    abbrev used : List ResultRow
    used = d.accepted.used

    used_length : length used ≡ n
    used_length = length_used c.names d.walk used d.accepted.shown ∙ d.counts

    pub used_is : in_use c n ≡ used
    used_is = ap (take n) d.accepted.rows ∙ take_at used _ n used_length

    same_row : (q : ℕ) → q < n → result_at c.rows q ≡ result_at used q
    same_row q h = ap (λ (l : List ResultRow). get_or l q empty_row) d.accepted.rows ∙ get_or_append_left used _ empty_row q (omega (arith, used_length))

    pub rows_shown : map (line_of c.names) (in_use c n) ≡ lines d.walk
    rows_shown = ap (map (line_of c.names)) used_is ∙ d.accepted.shown

    plain_shown : map plain_row used ≡ listing (relabel full_row d.walk)
    plain_shown = plain_used c.names d.walk used d.accepted.shown

    pub leaf_rows_kept : filter row_leaf (map plain_row (in_use c n)) ≡ map leaf_row_of (kept_leaves c.chosen tree_shown)
    leaf_rows_kept =
        ap (λ (l : List ResultRow). filter row_leaf (map plain_row l)) used_is ∙ ap (filter row_leaf) plain_shown
        ∙ (walk_leveled typing c.chosen hints_given tree_shown d.walk d.walked).leaf_rows

    pub rows_flat : (g : Forest ResultRow) × Lists row_span g (in_use c n)
    rows_flat = subst (λ (l : List ResultRow). (g : Forest ResultRow) × Lists row_span g l) (sym used_is) (replanted c.names d.walk used d.accepted.shown)

    -- a leaf row, by its place
    module _ (q : ℕ) (k : LeafNumbers) (h : q < n) (e : (result_at c.rows q).leaf ≡ Some k) where
      in_used : q < length used
      in_used = omega (arith, used_length)

      leaf_used : (result_at used q).leaf ≡ Some k
      leaf_used = ap (λ (r : ResultRow). r.leaf) (sym (same_row q h)) ∙ e

      kind_used : (plain_row (result_at used q)).kind ≡ leaf_row k
      kind_used = leaf_kind (result_at used q) k leaf_used

      table_shown : read_table used ≡ table_of (relabel full_row d.walk)
      table_shown = table_used c.names d.walk used d.accepted.shown

      row_shown : table_row (read_table used) q ≡ plain_row (result_at used q)
      row_shown = row_used c.names d.walk used d.accepted.shown q in_used

      read_used : LevelsRead (counted c) (read_table used) q k.element
      read_used =
          subst (λ (t : List SizedRow). LevelsRead (counted c) t q k.element) (sym table_shown)
          (flat_levels typing c.chosen hints_given c.names c.schema.bytes (counted c) fin d.walk d.walked q k (omega (arith, d.counts))
          (ap (λ (t : List SizedRow). (table_row t q).kind) (sym table_shown) ∙ ap (λ (r : Row). r.kind) row_shown ∙ kind_used))

      pub levels_read : LevelsRead (counted c) (read_table (in_use c n)) q k.element
      levels_read = subst (λ (l : List ResultRow). LevelsRead (counted c) (read_table l) q k.element) (sym used_is) read_used

      numbers_right : (k.leaf < length (leaves_of (counted c))) × (get_or (leaves_of (counted c)) k.leaf 0 ≡ k.element)
      numbers_right =
          let P : Row → Type 0 = RightNumbers (counted c) in
          let all : AllByRecursion P (filter row_leaf (map plain_row used)) =
          subst (AllByRecursion P) (sym (ap (λ (l : List ResultRow). filter row_leaf (map plain_row l)) (sym used_is) ∙ leaf_rows_kept)) (kept_right c.names c.schema.bytes (counted c) fin c.chosen) in
          let each = all_unmap (λ (r : Row). row_leaf r ≡ true → P r) plain_row used (all_passing P row_leaf (map plain_row used) all) in
          All-get_or (λ (r : ResultRow). row_leaf (plain_row r) ≡ true → P (plain_row r)) used q empty_row in_used each (ap is_leaf_row kind_used) k kind_used

      pub column_agrees : (path : PathRecord) (columns paths m : ℕ) (table : List Column) (numbers : List ℕ)
          → Listing (kept c) (counted c) path columns paths (Ok m) table numbers → ColumnAgrees (result_at c.rows q) k m (get_or table k.leaf empty_column)
      column_agrees path columns paths m table numbers l =
          let at = listed_column (kept c) (counted c) path columns paths m table numbers l k.leaf numbers_right.0 in
          let here : Levels = (plain_row (result_at used q)).levels in
          let levels : here ≡ record { rep = rep_level (counted c) (path_of (counted c) k.element); def = def_level (counted c) (path_of (counted c) k.element) } =
          ap (λ (r : Row). r.levels) (sym row_shown) ∙ read_used.highest_levels in
          let is = numbers_right.1 in
          let row = same_row q h in
          record {
            within = at.0;
            element = ap (λ (x : Column). x.element) at.1.1 ∙ is;
            rep =
                ap (λ (x : Column). x.max_rep_level) at.1.1 ∙ ap (λ (e : ℕ). rep_level (counted c) (path_of (counted c) e)) is
                ∙ ap (λ (v : Levels). v.rep) (sym levels) ∙ ap (λ (r : ResultRow). r.rep_level) (sym row);
            def =
                ap (λ (x : Column). x.max_def_level) at.1.1 ∙ ap (λ (e : ℕ). def_level (counted c) (path_of (counted c) e)) is
                ∙ ap (λ (v : Levels). v.def) (sym levels) ∙ ap (λ (r : ResultRow). r.def_level) (sym row);
          }

    -- R ≤ D ≤ 64
    pub rows_low : AllByRecursion Low (in_use c n)
    rows_low =
        let plain : plain_rows c.chosen tree_shown ≡ relabel full_row d.walk = plain_shape typing c.chosen hints_given tree_shown d.walk d.walked in
        subst (AllByRecursion Low) (sym used_is)
        (all_unmap (LowRow 64) plain_row used
        (subst (AllByRecursion (LowRow 64)) (ap listing plain ∙ sym plain_shown) (levels_bounded c.chosen c.names c.schema.bytes fin.0 (counted c) fin.1)))

    -- the flags of the leaves
    pub flags_used : take (leaves c) c.flags ≡ map (below (leaves c) c.chosen) (range_with_len 0 (leaves c))
    flags_used =
        ap (take (leaves c)) d.accepted.flags
        ∙ take-map-range_with_len (below (leaves c) c.chosen) 0 c.flag_room (leaves c) (ltb-false c.flag_room (leaves c) (or_parts (ltb c.room (2 * c.schema.count)) (ltb c.flag_room (leaves c)) d.roomy).1)

-- ── Two conversions alike ──

same_flags : (n : ℕ) (one other : ℕ → Bool) → SameChoice n one other → map (below n one) (range_with_len 0 n) ≡ map (below n other) (range_with_len 0 n)
same_flags n one other same =
    fill_by_all (below n other) (map (below n one) (range_with_len 0 n)) n false (length-map-range_with_len (below n one) 0 n)
    (λ k h. get_or-map-range_with_len (below n one) 0 n k k false h (omega arith) ∙ ap (λ (b : Bool). ltb k n && b) (same k h))

module _ (c d : Conversion) (n m : ℕ) (fin : IsFinished c.schema.bytes (counted c)) (other : IsFinished d.schema.bytes (counted d)) (x : Done c n fin) (y : Done d m other) where
  alike : map (shown_as c.names) (counted c) ≡ map (shown_as d.names) (counted d) → SameChoice (leaves c) c.chosen d.chosen → Alike c d n m
  alike e same =
      let one = shown_tree c.names fin.0 in
      let two = shown_tree d.names other.0 in
      let trees : one ≡ two = same_schema c.names d.names c.schema.bytes d.schema.bytes (counted c) (counted d) fin other e in
      let counts : leaves c ≡ leaves d =
      sym (leaves_count c.names c.schema.bytes (counted c) fin) ∙ ap (λ (t : Tree Spelled). length (leaf_ways t)) trees ∙ leaves_count d.names d.schema.bytes (counted d) other in
      let typing : Typing = leaf_typing (listing y.hints) d.text in
      let hints : Forest Hint = hints_of d.text 0 y.hints in
      let choice : (k : ℕ) → k < leaf_count (alone one) → c.chosen k ≡ d.chosen k =
      (λ k h. same k (subst (λ (l : ℕ). k < l) (leaf_count_is c.names c.schema.bytes (counted c) fin) h)) in
      let walks : walk typing c.chosen hints one ≡ Ok y.walk =
      same_selection typing c.chosen d.chosen hints one (leaves_end c.names 0 (alone fin.0) fin.1.depths) choice
      ∙ ap (walk typing d.chosen hints) trees ∙ y.walked in
      let shapes = hints_keep_shape (leaf_typing (listing x.hints) c.text) typing c.chosen (hints_of c.text 0 x.hints) hints one x.walk y.walk x.walked walks in
      record {
        counts = sym x.counts ∙ shapes.counts ∙ y.counts;
        flags =
            flags_used c n fin x ∙ same_flags (leaves c) c.chosen d.chosen same
            ∙ ap (λ (l : ℕ). map (below l d.chosen) (range_with_len 0 l)) counts ∙ sym (flags_used d m other y);
        rows =
            ap (map (outline c.names)) (used_is c n fin x) ∙ outline_used c.names x.walk x.accepted.used x.accepted.shown
            ∙ ap outlines shapes.trees ∙ sym (outline_used d.names y.walk y.accepted.used y.accepted.shown) ∙ ap (map (outline d.names)) (sym (used_is d m other y));
      }

-- ── After a history ──

abbrev finished : {w : Words} (c : Conversion) → SchemaHolds w c.schema c.elements c.names → IsFinished c.schema.bytes (counted c)
finished c h = (h.root, h.tree, h.sizes)

module _ (c : Conversion) (does : Converts c) (h : List Event) (p : Reached h (whole c.schema) c.elements c.names) where
  abbrev holds : SchemaHolds (spelled h) c.schema c.elements c.names
  holds = reached_holds (whole c.schema) p

  abbrev fin : IsFinished c.schema.bytes (counted c)
  fin = finished c holds

  fulfilled : (n : ℕ) → c.answer ≡ Ok n → Fulfilled h c n
  fulfilled n a =
      let d = done c does n a fin in
      record {
        tree = shown_tree c.names fin.0;
        spells = record {
          lists = listing_relabel (shown_as c.names) (alone fin.0) ∙ ap (map (shown_as c.names)) fin.1.lists ∙ holds.elements;
          depths = at_depth c.names 0 (alone fin.0) fin.1.depths;
        };
        hints = d.hints;
        hinted = d.hinted;
        walk = d.walk;
        walked = d.walked;
        rows = rows_shown c n fin d;
        flat = rows_flat c n fin d;
        leaf_rows = leaf_rows_kept c n fin d;
        listed = λ path columns paths m table numbers l q k low e. column_agrees c n fin d q k low e path columns paths m table numbers l;
        levels = λ q k low e. levels_read c n fin d q k low e;
        bounded = rows_low c n fin d;
        alike = λ g o m does' p' a' e same.
            let theirs = reached_holds (whole o.schema) p' in
            alike c o n m fin (finished o theirs) d (done o does' m a' (finished o theirs)) (holds.elements ∙ sym e ∙ sym theirs.elements) same;
      }

  -- the walk names an element in every refusal, and 7 names none
  never : (hints : Forest HintRow) (r : Result (Forest Full) Refusal) → walk_under c.text hints c.chosen (shown_tree c.names fin.0) ≡ r → Settled c r
      → c.answer ≡ Err no.Memory → ⊥
  never hints (Ok f) w s a = ok_not_err a s.answer
  never hints (Err e) w s a =
      let typing : Typing = leaf_typing (listing hints) c.text in
      let t = shown_tree c.names fin.0 in
      let f = (refused_first typing c.chosen (hints_of c.text 0 hints) t).refused e w in
      let named : element_of e ≡ Some f.here.node.of.number =
      first_of_all (λ r. element_of r ≡ Some f.here.node.of.number) (faults_at typing c.chosen f.here) f.others e f.first
      ((walked_in_order typing c.chosen (hints_of c.text 0 hints) t).names f.here) in
      let none : element_of e ≡ None = ap element_of (same_err s.answer a) in
      none-some _ (sym none ∙ named)

  not_seven : c.answer ≡ Err no.Memory → ⊥
  not_seven a = go does
    where
      go : Converts c → ⊥
      go (other_memory e r) = true≢false (sym (memory_law p (kept c) refl) ∙ e)
      go (no_hint e hk r) = omega (arith, ap number_of (same_err r.answer a))
      go (no_room e hk s r) = omega (arith, ap number_of (same_err r.answer a))
      go (walked e hk s w) =
          let hs = hint_forest hk in
          never hs.0 (walk_under c.text hs.0 c.chosen (shown_tree c.names fin.0)) refl (w fin hs.0 hs.1) a

pub promise_kept : PromiseKept
promise_kept c does h p = record { holds = reached_holds (whole c.schema) p; not_seven = not_seven c does h p; accepted = fulfilled c does h p }
