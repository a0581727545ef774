-- Levels on flat tables. No tree is needed to read this: a row's subtree is as many rows, from it on, as its size tells.
use Rattle.std.specs.Prelude.{◌≡◌, ℕ, suc, ◌<◌, ◌≤◌, false, List, map, slice_index_or}
use Rattle.columns.specs.Levels.{def_level, path_of, rep_level, row_at}
use Rattle.walk.specs.Labels.{or_required}
use Rattle.walk.specs.Levels.{Belongs, Meaning, OpensOnce, ReadsOnce, Repeats}
use Rattle.walk.specs.Shape.{Row, base}
use Rattle.walk.specs.Shape.RowKind.{struct_row}
use Rattle.schema.specs.declared.basic.Repetition.{Repetition}
use Rattle.schema.specs.declared.element.Element.{Element}
use Rattle.tree.specs.Around.{around}
use Rattle.tree.specs.Forest.{Forest, count, listing}
use Rattle.tree.specs.Forest.Forest.{bare, plant}

-- a row with the number of rows of its subtree, itself counted
pub record SizedRow : Type 0 where
  pub row : Row
  pub size : ℕ

abbrev pub size_of : SizedRow → ℕ
size_of r = r.size

abbrev pub with_sizes : Forest Row → Forest SizedRow
with_sizes bare = bare
with_sizes (plant r below after) = plant (record { row = r; size = suc (count below) }) (with_sizes below) (with_sizes after)

-- the rows as they lie flat
abbrev pub table_of : Forest Row → List SizedRow
table_of f = listing (with_sizes f)

abbrev pub blank_row : SizedRow
blank_row = record { row = record { kind = struct_row; levels = base; nullable = false }; size = 0 }

abbrev pub result_at : List SizedRow → ℕ → Row
result_at table i = (slice_index_or table i blank_row).row

-- The way of the row at q: the rows i with i ≤ q < i + size(i), from the root down.
abbrev pub way_of : List SizedRow → ℕ → List Row
way_of table q = map (result_at table) (around size_of table q)

-- the repetitions of the elements on the path of element e: those i > 0 with i ≤ e < i + size(i)
abbrev pub path_repetitions : List Element → ℕ → List Repetition
path_repetitions elements e = map (λ i. or_required (row_at elements i).repetition) (path_of elements e)

-- What the row at q, that of the leaf e, says of levels, as the tables lie.
pub record LevelsRead (elements : List Element) (table : List SizedRow) (q e : ℕ) : Type 0 where
  -- its levels are the highest of the leaf's path, as a listing counts them
  pub highest_levels : (result_at table q).levels ≡ record { rep = rep_level elements (path_of elements e); def = def_level elements (path_of elements e) }
  -- each definition level below the highest belongs to an element of the path, and is read by one row alone on the way, as what it says there
  pub reads_each : (d : ℕ) → d < def_level elements (path_of elements e)
      → (m : Meaning) × Belongs (path_repetitions elements e) d m × ReadsOnce (way_of table q) d m
  -- each repetition level belongs to a repeated element of the path, and is opened by one row alone on the way, that element's
  pub opens_each : (r : ℕ) → 0 < r → r ≤ rep_level elements (path_of elements e)
      → (d : ℕ) × Repeats (path_repetitions elements e) r d × OpensOnce (way_of table q) r d
