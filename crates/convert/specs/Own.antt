-- The rows that an element has of its own, as the code builds them.
use Rattle.std.specs.Prelude.{◌≡◌, ℕ, ◌+◌, Bool, true, false, cond, not, ◌&&◌, List, [], ◌∷◌, length, Some, None, Ok, Option}
use Rattle.tree.specs.Forest.{Forest}
use Rattle.schema.specs.declared.basic.Repetition.{Repetition}
use Rattle.schema.specs.declared.basic.Repetition.TheVariants.{Optional as optional, Repeated as repeated, Required as required}
use Rattle.schema.specs.declared.element.PlaceOf.{PlaceOf}
use Rattle.arrow.specs.declared.types.ArrowType.{ArrowType}
use Rattle.arrow.specs.declared.row.Field.{Field}
use Rattle.arrow.specs.declared.row.LeafNumbers.{LeafNumbers}
use Rattle.arrow.specs.declared.row.Metadata.{Metadata}
use Rattle.arrow.specs.declared.row.ResultRow.{ResultRow}
use Rattle.schema.specs.declared.element.Element.{Element}
use Rattle.arrow.specs.declared.types.ArrowType.TheVariants as a
use Rattle.arrow.specs.declared.hint.HintRow.{HintRow}
use Rattle.walk.specs.Labels.{is_optional, is_repeated, or_required}
use Rattle.convert.specs.declared.context.Cursor.{Cursor}
use Rattle.convert.specs.Handed.{Hinted}
use Rattle.convert.specs.Visit.{Wrote}
use Rattle.walk.specs.Hints.{Hint, sole, inside}
use Rattle.walk.specs.Walk.{metadata_of}
use Rattle.walk.specs.declared.levels.Levels.{Levels}
use Rattle.convert.specs.declared.context.Seat.{Seat}
use Rattle.walk.specs.Results.{shown_row, line_of}
use Rattle.convert.specs.Outcome.{Outcome, within}

abbrev pub outer_field : Seat → Bool → Field
outer_field c null = record { name = c.name; nullable = not c.key && null; metadata = c.metadata }

abbrev pub inner_of : Bool → Forest Hint → Option Metadata
inner_of true hs = None
inner_of false hs = metadata_of (sole (inside hs)) None

abbrev pub own_field : Seat → Forest Hint → PlaceOf ℕ → Repetition → Field
own_field c hs name required = outer_field c false
own_field c hs name optional = outer_field c true
own_field c hs name repeated = record { name = name; nullable = false; metadata = inner_of c.element hs }

abbrev pub own_row : Seat → Forest Hint → PlaceOf ℕ → Repetition → Levels → ArrowType → Option LeafNumbers → ResultRow
own_row c hs name r v type n = record {
  rep_level = v.rep;
  def_level = v.def;
  nullable = is_optional r;
  data_type = type;
  size = 1;
  field = own_field c hs name r;
  leaf = n;
  entries = None;
}

abbrev pub list_row : Seat → Levels → ResultRow
list_row c v = record {
  rep_level = v.rep;
  def_level = v.def;
  nullable = c.null_above;
  data_type = c.list;
  size = 1;
  field = outer_field c c.null_above;
  leaf = None;
  entries = None;
}

-- a list round what a repeated element gives
abbrev pub listed_if : List ℕ → Seat → Repetition → Levels → Outcome → Outcome
listed_if names c required v o = o
listed_if names c optional v o = o
listed_if names c repeated v o = within (shown_row names (list_row c v)) o

-- what a chosen leaf gives at its levels
abbrev pub leaf_outcome : List ℕ → Seat → Forest Hint → ℕ → ℕ → PlaceOf ℕ → Repetition → Levels → ArrowType → Outcome
leaf_outcome names c hs i k name r v type =
    listed_if names c r v (Ok (line_of names (own_row c hs name r v type (Some (record { element = i; leaf = k }))) ∷ []))

-- what closing a struct makes of what its fields gave
abbrev pub StructClosed : List HintRow → Element → Seat → Levels → ℕ → Cursor → List ResultRow → List ResultRow → Cursor → Type 0
StructClosed hints e c v start cursor rows after r =
    (bytes names : List ℕ) (hs : Forest Hint) → Hinted hints bytes c.hint hs → (o : Outcome) (next : ℕ) (before : List ResultRow) → length before ≡ length rows
    → Wrote names o ((start + cond (is_repeated (or_required e.repetition)) 1 0) + 1) next before rows cursor
    → Wrote names (listed_if names c (or_required e.repetition) v (within (shown_row names (own_row c hs e.name (or_required e.repetition) v a.Struct None)) o)) start next before after r

-- the field in which a list's or a map's row stands
abbrev pub group_field : Forest Hint → Bool → Element → Field
group_field hs key e = record { name = e.name; nullable = not key && is_optional (or_required e.repetition); metadata = metadata_of hs e.field_id }
