-- What is written, as the outcome's rows.
use Rattle.std.proofs.Common.{◌≡◌, ℕ, suc, ◌+◌, ◌-◌, ◌<◌, List, [], ◌∷◌, ◌++◌, map, length, take, set, Ok, sym, refl, ap, ◌∙◌, append_assoc, arith, length-append}
use lib.Seq.{take-set-lt}
use Rattle.std.proofs.lemmas.List.{append-nil, take-take, take_more_set, take-append-le, set-append_left, length-take-le}
use Rattle.arrow.specs.declared.row.ResultRow.{ResultRow}
use Rattle.walk.specs.Walk.{Full}
use Rattle.convert.specs.declared.context.Cursor.{Cursor}
use Rattle.walk.specs.Results.{shown_row, line_of}
use Rattle.convert.specs.Outcome.{Outcome, within, followed}
use Rattle.convert.specs.Visit.{Wrote}

-- a row with a size
abbrev pub sized_row : ℕ → ResultRow → ResultRow
sized_row n r = record {
  rep_level = r.rep_level;
  def_level = r.def_level;
  nullable = r.nullable;
  data_type = r.data_type;
  size = n;
  field = r.field;
  leaf = r.leaf;
  entries = r.entries;
}

map-append : {A B : Type 0} (f : A → B) (xs ys : List A) → map f (xs ++ ys) ≡ map f xs ++ map f ys
map-append f [] ys = refl
map-append f (x ∷ xs) ys = ap (λ l. f x ∷ l) (map-append f xs ys)

length-map : {A B : Type 0} (f : A → B) (xs : List A) → length (map f xs) ≡ length xs
length-map f [] = refl
length-map f (x ∷ xs) = ap suc (length-map f xs)

nil_row : {A : Type 0} (xs : List A) → length xs ≡ 0 → xs ≡ []
nil_row [] h = refl
nil_row (x ∷ xs) h = absurd (omega arith)

module _ (names : List ℕ) where
  -- nothing is written
  pub wrote_none : (start next : ℕ) (out : List ResultRow) → Wrote names (Ok []) start next out out (record { row = start; leaf = next })
  wrote_none start next out =
      record { rows = []; is = refl; ends = omega arith; counts = refl; kept = sym (append-nil (take start out)) }

  -- one row
  pub wrote_one : (start next : ℕ) (out : List ResultRow) (x : ResultRow) → start < length out
      → Wrote names (Ok (line_of names x ∷ [])) start next out (set out start x) (record { row = start + 1; leaf = next })
  wrote_one start next out x h =
      record { rows = x ∷ []; is = refl; ends = omega arith; counts = refl; kept = take_more_set out start x h }

  -- one visit, and then another
  pub wrote_both : (o p : Outcome) (start one two : ℕ) (before mid out : List ResultRow) (middle cursor : Cursor) → Wrote names o start one before mid middle
      → Wrote names p middle.row two mid out cursor → Wrote names (followed o p) start two before out cursor
  wrote_both o p start one two before mid out middle cursor w x =
      record {
        rows = w.rows ++ x.rows;
        is = (ap (λ y. followed y p) w.is ∙ ap (followed (Ok (map (line_of names) w.rows))) x.is) ∙ ap Ok (sym (map-append (line_of names) w.rows x.rows));
        ends = omega (arith, w.ends, x.ends, length-append w.rows x.rows);
        counts = x.counts;
        kept = x.kept ∙ ap (λ (l : List ResultRow). l ++ x.rows) w.kept ∙ append_assoc (take start before) w.rows x.rows;
      }

  -- what follows is given back
  pub wrote_dropped : (o : Outcome) (start next : ℕ) (before out : List ResultRow) (cursor : Cursor) → Wrote names o (start + 1) next before out cursor → start < length before
      → Wrote names (Ok []) start next before out (record { row = start; leaf = cursor.leaf })
  wrote_dropped o start next before out cursor w h =
      record {
        rows = [];
        is = refl;
        ends = omega arith;
        counts = w.counts;
        kept =
            sym (take-take start cursor.row out (omega (arith, w.ends)))
            ∙ ap (take start) w.kept
            ∙ take-append-le start (take (start + 1) before) w.rows (omega (arith, length-take-le (start + 1) before (omega arith)))
            ∙ take-take start (start + 1) before (omega arith)
            ∙ sym (append-nil (take start before));
      }

  within_none : (r : Full) (rows : List ResultRow) → length rows ≡ 0 → within r (Ok (map (line_of names) rows)) ≡ Ok []
  within_none r [] h = refl
  within_none r (x ∷ xs) h = absurd (omega arith)

  within_some : (r : Full) (rows : List ResultRow) → 0 < length rows
      → within r (Ok (map (line_of names) rows)) ≡ Ok (record { size = suc (length rows); row = r } ∷ map (line_of names) rows)
  within_some r [] h = absurd (omega arith)
  within_some r (x ∷ xs) h =
      ap (λ (n : ℕ). Ok (record { size = suc n; row = r } ∷ map (line_of names) (x ∷ xs))) (length-map (line_of names) (x ∷ xs))

  -- the walk of what is below a row that is kept free at `start`, which then ends at `cursor`
  module _ (row : ResultRow) (o : Outcome) (start next : ℕ) (before out : List ResultRow) (cursor : Cursor) (w : Wrote names o (start + 1) next before out cursor) where
    -- nothing stands below: the place is given back
    pub wrote_unwrapped : cursor.row ≡ start + 1 → Wrote names (within (shown_row names row) o) start next before out (record { row = start; leaf = cursor.leaf })
    wrote_unwrapped h =
        let z : length w.rows ≡ 0 = omega (arith, w.ends) in
        record {
          rows = [];
          is = ap (within (shown_row names row)) w.is ∙ within_none (shown_row names row) w.rows z;
          ends = omega arith;
          counts = w.counts;
          kept =
              sym (take-take start cursor.row out (omega arith))
              ∙ ap (take start) (w.kept ∙ ap (λ (xs : List ResultRow). take (start + 1) before ++ xs) (nil_row w.rows z) ∙ append-nil (take (start + 1) before))
              ∙ take-take start (start + 1) before (omega arith)
              ∙ sym (append-nil (take start before));
        }

    pub wrote_wrapped : start < length before → length before ≡ length out → (cursor.row ≡ start + 1 → ⊥)
        → Wrote names (within (shown_row names row) o) start next before (set out start (sized_row (cursor.row - start) row)) cursor
    wrote_wrapped h l m =
        let z : 0 < length w.rows = omega (arith, w.ends) in
        let R : ResultRow = sized_row (cursor.row - start) row in
        let s : cursor.row - start ≡ suc (length w.rows) = omega (arith, w.ends) in
        record {
          rows = sized_row (suc (length w.rows)) row ∷ w.rows;
          is = ap (within (shown_row names row)) w.is ∙ within_some (shown_row names row) w.rows z;
          ends = omega (arith, w.ends);
          counts = w.counts;
          kept =
              take-set-lt cursor.row out start R (omega (arith, w.ends))
              ∙ ap (λ (xs : List ResultRow). set xs start R) w.kept
              ∙ set-append_left (take (start + 1) before) w.rows start R (omega (arith, length-take-le (start + 1) before (omega arith)))
              ∙ ap (λ (xs : List ResultRow). xs ++ w.rows) (sym (take-set-lt (start + 1) before start R (omega arith)) ∙ take_more_set before start R h)
              ∙ append_assoc (take start before) (R ∷ []) w.rows
              ∙ ap (λ (n : ℕ). take start before ++ sized_row n row ∷ w.rows) s;
        }
