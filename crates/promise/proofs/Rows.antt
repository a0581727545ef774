-- The rows of a walk, flat, and a table that shows them.
use Rattle.std.proofs.Common.{◌≡◌, ℕ, suc, ◌+◌, ◌<◌, List, [], ◌∷◌, ◌++◌, map, length, take, drop, Some, sym, refl, ap, ◌∙◌, ap₂, length-append}
use mathlib.Core.List.{map-append, nil≢cons, head-eq_of_cons-eq, tail-eq_of_cons-eq}
use lib.ListN.{length-map}
use Rattle.std.proofs.lemmas.List.{take_at, drop_at, take-map, drop-map, take-append-drop, get_or-map}
use Rattle.tree.specs.Forest.{Forest, Lists, count, listing}
use Rattle.tree.specs.Forest.Forest.{bare, plant}
use Rattle.arrow.specs.declared.row.LeafNumbers.{LeafNumbers}
use Rattle.arrow.specs.declared.row.ResultRow.{ResultRow}
use Rattle.arrow.specs.Kinds.{row_span}
use Rattle.walk.specs.Flat.{SizedRow, blank_row, table_of}
use Rattle.walk.specs.Flat.{result_at as table_row}
use Rattle.walk.specs.Forests.{relabel}
use Rattle.walk.specs.Hints.{nesting}
use Rattle.walk.specs.Laws.{full_row, shaped_row}
use Rattle.walk.specs.Results.{Line, kind_told, lines, line_of, plain_row, read_table, sized_as}
use Rattle.walk.specs.Shape.{RowKind, Shaped}
use Rattle.walk.specs.Shape.RowKind.{leaf_row}
use Rattle.walk.specs.Walk.{Full}
use Rattle.walk.proofs.Lists.{count_relabel, map_twice}
use Rattle.promise.specs.Conversion.{empty_row}
use Rattle.promise.specs.Promise.{Outline, outline, result_at}

-- ── What is read off the lines of a walk ──

pub length_lines : (f : Forest Full) → length (lines f) ≡ count f
length_lines bare = refl
length_lines (plant r b a) =
    ap suc (length-append (lines b) (lines a) ∙ ap₂ (λ (x y : ℕ). x + y) (length_lines b) (length_lines a) ∙ sym (length-append (listing b) (listing a)))

-- One lemma in place of these three inductions, over what is told of a line, takes six lines more.
lines_relabel : {B : Type 0} (g : Full → B) (f : Forest Full) → map (λ (l : Line). g l.row) (lines f) ≡ listing (relabel g f)
lines_relabel g bare = refl
lines_relabel {B} g (plant r b a) =
    ap {B = List B} (λ (l : List B). g r ∷ l)
    (map-append (λ (l : Line). g l.row) (lines b) (lines a) ∙ ap₂ (λ (x y : List B). x ++ y) (lines_relabel g b) (lines_relabel g a))

abbrev sized_line : Line → SizedRow
sized_line l = record { row = l.row.shaped.row; size = l.size }

lines_table : (f : Forest Full) → map sized_line (lines f) ≡ table_of (relabel full_row f)
lines_table bare = refl
lines_table (plant r b a) =
    ap₂ {C = List SizedRow} (λ (n : ℕ) (l : List SizedRow). record { row = r.shaped.row; size = suc n } ∷ l) (sym (count_relabel full_row b))
    (map-append sized_line (lines b) (lines a) ∙ ap₂ (λ (x y : List SizedRow). x ++ y) (lines_table b) (lines_table a))

abbrev outline_line : Line → Outline
outline_line l = record { size = l.size; shaped = l.row.shaped }

abbrev pub outlines : Forest Shaped → List Outline
outlines bare = []
outlines (plant s b a) = record { size = suc (count b); shaped = s } ∷ (outlines b ++ outlines a)

lines_outlines : (f : Forest Full) → map outline_line (lines f) ≡ outlines (relabel shaped_row f)
lines_outlines bare = refl
lines_outlines (plant r b a) =
    ap₂ {C = List Outline} (λ (n : ℕ) (l : List Outline). record { size = suc n; shaped = r.shaped } ∷ l) (sym (count_relabel shaped_row b))
    (map-append outline_line (lines b) (lines a) ∙ ap₂ (λ (x y : List Outline). x ++ y) (lines_outlines b) (lines_outlines a))

-- ── A table that shows the lines of a walk ──

module _ (names : List ℕ) (f : Forest Full) (used : List ResultRow) (shown : map (line_of names) used ≡ lines f) where
  pub length_used : length used ≡ count f
  length_used = sym (length-map used (line_of names)) ∙ ap length shown ∙ length_lines f

  pub plain_used : map plain_row used ≡ listing (relabel full_row f)
  plain_used =
      sym (map_twice (λ (l : Line). l.row.shaped.row) (line_of names) plain_row (λ r. refl) used) ∙ ap (map (λ (l : Line). l.row.shaped.row)) shown
      ∙ lines_relabel full_row f

  pub table_used : read_table used ≡ table_of (relabel full_row f)
  table_used = sym (map_twice sized_line (line_of names) sized_as (λ r. refl) used) ∙ ap (map sized_line) shown ∙ lines_table f

  pub outline_used : map (outline names) used ≡ outlines (relabel shaped_row f)
  outline_used = sym (map_twice outline_line (line_of names) (outline names) (λ r. refl) used) ∙ ap (map outline_line) shown ∙ lines_outlines f

  pub row_used : (q : ℕ) → q < length used → table_row (read_table used) q ≡ plain_row (result_at used q)
  row_used q h = ap (λ (r : SizedRow). r.row) (get_or-map sized_as used q empty_row blank_row h)

-- a row with leaf numbers is a leaf row
pub leaf_kind : (r : ResultRow) (k : LeafNumbers) → r.leaf ≡ Some k → (plain_row r).kind ≡ leaf_row k
leaf_kind r k e = ap {B = RowKind} (λ l. kind_told l r.entries (nesting r.data_type)) e

-- ── Such a table is flat ──

pub replanted : (names : List ℕ) (f : Forest Full) (used : List ResultRow) → map (line_of names) used ≡ lines f → (g : Forest ResultRow) × Lists row_span g used
replanted names bare [] e = (bare, record { lists = refl; sized = tt })
replanted names bare (u ∷ us) e = absurd (nil≢cons (sym e))
replanted names (plant r b a) [] e = absurd (nil≢cons e)
replanted names (plant r b a) (u ∷ us) e =
    let tails : map (line_of names) us ≡ lines b ++ lines a = tail-eq_of_cons-eq e in
    let here : u.size ≡ suc (count b) = ap (λ (l : Line). l.size) (head-eq_of_cons-eq e) in
    let mine : map (line_of names) (take (count b) us) ≡ lines b =
    sym (take-map (line_of names) (count b) us) ∙ ap (take (count b)) tails ∙ take_at (lines b) (lines a) (count b) (length_lines b) in
    let theirs : map (line_of names) (drop (count b) us) ≡ lines a =
    sym (drop-map (line_of names) (count b) us) ∙ ap (drop (count b)) tails ∙ drop_at (lines b) (lines a) (count b) (length_lines b) in
    let x = replanted names b (take (count b) us) mine in
    let y = replanted names a (drop (count b) us) theirs in
    let many : count b ≡ count x.0 = sym (length_used names b (take (count b) us) mine) ∙ ap length (sym x.1.lists) in (
      plant u x.0 y.0,
      record {
        lists = ap {B = List ResultRow} (λ (l : List ResultRow). u ∷ l) (ap₂ (λ (v w : List ResultRow). v ++ w) x.1.lists y.1.lists ∙ take-append-drop (count b) us);
        sized = (here ∙ ap suc many, x.1.sized, y.1.sized);
      },
    )
