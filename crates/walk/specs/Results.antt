-- Result rows as the walk has them: a table of result rows read back into rows of the walk.
use Rattle.std.specs.Prelude.{ℕ, suc, List, [], ◌∷◌, ◌++◌, map, Some, None, Option}
use Rattle.tree.specs.Forest.{Forest, count}
use Rattle.tree.specs.Forest.Forest.{bare, plant}
use Rattle.schema.specs.Elements.{part}
use Rattle.arrow.specs.declared.row.ResultRow.{ResultRow}
use Rattle.arrow.specs.declared.row.LeafNumbers.{LeafNumbers}
use Rattle.arrow.specs.declared.row.Entries.{Entries}
use Rattle.walk.specs.Flat.{SizedRow}
use Rattle.walk.specs.Hints.{Nesting, nesting}
use Rattle.walk.specs.Hints.Nesting.{a_list, a_list_view, a_struct, a_map, a_dictionary, a_value}
use Rattle.walk.specs.Shape.{Row, RowKind}
use Rattle.walk.specs.Shape.Items.{of_list, of_map}
use Rattle.walk.specs.Shape.RowKind.{leaf_row, struct_row, items_row}
use Rattle.walk.specs.Walk.{Full}

-- ── Rows, flat ──

-- a row of the walk with its size
pub record Line : Type 0 where
  pub size : ℕ
  pub row : Full

abbrev pub lines : Forest Full → List Line
lines bare = []
lines (plant r below after) = record { size = suc (count below); row = r } ∷ (lines below ++ lines after)

-- what a result row is: a leaf by its numbers, a map by its entries, and else a struct or a list by its type
abbrev pub struct_or_list : Nesting → RowKind
struct_or_list a_list = items_row of_list
struct_or_list a_list_view = items_row of_list
struct_or_list a_struct = struct_row
struct_or_list (a_map s) = items_row of_list
struct_or_list a_dictionary = items_row of_list
struct_or_list a_value = items_row of_list

abbrev pub kind_told : Option LeafNumbers → Option Entries → Nesting → RowKind
kind_told (Some n) e t = leaf_row n
kind_told None (Some e) t = items_row of_map
kind_told None None t = struct_or_list t

abbrev pub entries_name : List ℕ → Option Entries → List ℕ
entries_name names None = []
entries_name names (Some e) = part names e.name

abbrev pub entries_metadata_of : Option Entries → ℕ
entries_metadata_of None = 0
entries_metadata_of (Some e) = e.metadata

-- what levels are read by
abbrev pub plain_row : ResultRow → Row
plain_row r = record { kind = kind_told r.leaf r.entries (nesting r.data_type); levels = record { rep = r.rep_level; def = r.def_level }; nullable = r.nullable }

-- a result row, its names as the name memory shows them, its size aside
abbrev pub shown_row : List ℕ → ResultRow → Full
shown_row names r = record {
  shaped = record {
    row = record { kind = kind_told r.leaf r.entries (nesting r.data_type); levels = record { rep = r.rep_level; def = r.def_level }; nullable = r.nullable };
    name = part names r.field.name;
    field_null = r.field.nullable;
    entries = entries_name names r.entries;
  };
  type = r.data_type;
  metadata = r.field.metadata;
  entries_metadata = entries_metadata_of r.entries;
}

abbrev pub line_of : List ℕ → ResultRow → Line
line_of names r = record { size = r.size; row = shown_row names r }

-- a table of result rows, as levels are read from it
abbrev pub sized_as : ResultRow → SizedRow
sized_as r = record { row = plain_row r; size = r.size }

abbrev pub read_table : List ResultRow → List SizedRow
read_table rows = map sized_as rows
