-- What a visit of the code is told, answers and writes.
use Rattle.std.specs.Prelude.{◌≡◌, ℕ, ◌+◌, Bool, true, false, List, ◌++◌, map, length, take, Some, None, Ok, Err, Option, Result}
use Rattle.tree.specs.Forest.{Forest}
use Rattle.schema.specs.declared.refusal.Refusal.{Refusal}
use Rattle.schema.specs.declared.element.Element.{Element}
use Rattle.schema.specs.Elements.{part}
use Rattle.arrow.specs.declared.row.ResultRow.{ResultRow}
use Rattle.arrow.specs.declared.hint.HintRow.{HintRow}
use Rattle.selection.specs.Sets.{in_flags}
use Rattle.walk.specs.Reading.{Part}
use Rattle.walk.specs.Reading.Part.{as_root, as_field, as_key, as_element, as_middle, as_entries}
use Rattle.walk.specs.Walk.{metadata_of, list_type}
use Rattle.walk.specs.declared.role.Role.{Role}
use Rattle.convert.specs.declared.context.Source.{Source}
use Rattle.convert.specs.declared.context.Cursor.{Cursor}
use Rattle.convert.specs.declared.context.Seat.{Seat}
use Rattle.convert.specs.Table.{label, kids}
use Rattle.convert.specs.Handed.{Hinted, typing_of}
use Rattle.walk.specs.Results.{line_of}
use Rattle.convert.specs.Outcome.{Outcome, Told, outcome, told_tree}

-- the rows of an outcome stand in the table from `begin` on, and the next leaf is number `next`
pub record Wrote (names : List ℕ) (o : Outcome) (begin next : ℕ) (before after : List ResultRow) (p : Cursor) : Type 0 where
  pub rows : List ResultRow
  pub is : o ≡ Ok (map (line_of names) rows)
  pub ends : p.row ≡ begin + length rows
  pub counts : p.leaf ≡ next
  pub kept : take p.row after ≡ take begin before ++ rows

-- the outcome is what the code answers
abbrev pub Meets : List ℕ → Outcome → ℕ → ℕ → List ResultRow → List ResultRow → Result Cursor Refusal → Type 0
Meets names o begin next before after (Ok p) = Wrote names o begin next before after p
Meets names o begin next before after (Err e) = o ≡ Err e

-- what the code reads
pub record Input : Type 0 where
  pub elements : List Element
  pub names : List ℕ
  pub hints : List HintRow
  pub text : List ℕ
  pub flags : List Bool

abbrev pub read_by : Source → Input
read_by s = record { elements = s.elements.now; names = s.names.now; hints = s.hints.rows.now; text = s.hints.text.now; flags = s.chosen.now }

-- whether the part is a list's element; none where the element has no row of its own
abbrev pub stands_as : Part → Option Bool
stands_as as_root = Some false
stands_as as_field = Some false
stands_as as_key = Some false
stands_as as_element = Some true
stands_as as_middle = None
stands_as as_entries = None

-- a seat says what its parent tells of an element, whose name is not compared
pub record Seats (s : Input) (c : Seat) (t : Told) : Type 0 where
  pub hint : Hinted s.hints s.text c.hint t.hint
  pub name : part s.names c.name ≡ t.holder.name
  pub key : c.key ≡ t.holder.key
  pub metadata : c.metadata ≡ metadata_of t.field t.holder.field_id
  pub list : c.list ≡ list_type t.part t.field
  pub element : stands_as t.part ≡ Some c.element
  pub unnamed : t.named ≡ false

-- what the tree at `i` gives, read by a role
abbrev pub gives_as : Input → Result Role Refusal → ℕ → ℕ → Seat → Told → Element → Forest Element → Outcome
gives_as s role i k c t e below =
    outcome (typing_of s.hints s.text) (in_flags s.flags) c.levels c.null_above
    (told_tree t role (label s.names i k e) (kids s.names i k below))
