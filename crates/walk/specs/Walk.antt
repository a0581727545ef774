-- The walk: the first refusal, or the rows with their Arrow types and metadata.
use Rattle.std.specs.Prelude.{ℕ, zero, suc, Bool, true, false, List, [], ◌∷◌, ℤ, Some, None, Ok, Err, Option, Result}
use Rattle.arrow.specs.Convert.{converted_leaf}
use Rattle.arrow.specs.declared.hint.HintRow.{HintRow}
use Rattle.arrow.specs.declared.row.Metadata.{Metadata}
use Rattle.arrow.specs.declared.types.ArrowType.{ArrowType}
use Rattle.walk.specs.Faults.{Typing, leaf_hint, refusals}
use Rattle.walk.specs.Forests.{relabel}
use Rattle.walk.specs.Handing.{hinting, unwrap}
use Rattle.walk.specs.Hints.{Hint, Nesting, hint_row, hints_of, nesting}
use Rattle.walk.specs.Hints.Nesting.{a_dictionary, a_list, a_list_view, a_map, a_struct, a_value}
use Rattle.walk.specs.Reading.{Part, Read}
use Rattle.walk.specs.Reading.Part.{as_element, as_entries, as_field, as_key, as_middle, as_root}
use Rattle.walk.specs.Shape.{Made, RowKind, Shaped, base, read, shape, shaped_of}
use Rattle.walk.specs.Shape.Items.{of_list, of_map}
use Rattle.walk.specs.Shape.RowKind.{items_row, leaf_row, struct_row}
use Rattle.schema.specs.Words.{Spelled}
use Rattle.schema.specs.declared.element.Kind.{Kind}
use Rattle.schema.specs.declared.element.Kind.TheVariants.{Group as group, Leaf as leaf}
use Rattle.schema.specs.declared.refusal.Refusal.{Refusal}
use Rattle.tree.specs.Forest.{Forest, Tree, listing}
use Rattle.tree.specs.Forest.Forest.{bare, plant}
use Rattle.arrow.specs.declared.types.ArrowType.TheVariants as t
use Rattle.arrow.specs.declared.row.Metadata.TheVariants as m

-- ── Metadata ──

-- a hint's metadata number, 0 for none
abbrev pub by_number : ℕ → Option Metadata
by_number zero = None
by_number (suc n) = Some (m.Hint (suc n))

abbrev pub by_id : Option ℤ → Option Metadata
by_id None = None
by_id (Some i) = Some (m.FieldId i)

-- A field has the hint's metadata number, or without a hint the field id.
abbrev pub metadata_of : Forest Hint → Option ℤ → Option Metadata
metadata_of bare i = by_id i
metadata_of (plant h below after) i = by_number h.metadata

-- The inner of an element's two rows: the metadata number of the list hint's child, and never a field id; the repeated child of a
-- LIST or MAP group has none.
abbrev pub inner_metadata : Part → Forest Hint → Option Metadata
inner_metadata as_root hint = metadata_of (unwrap true hint) None
inner_metadata as_field hint = metadata_of (unwrap true hint) None
inner_metadata as_key hint = metadata_of (unwrap true hint) None
inner_metadata as_element hint = None
inner_metadata as_middle hint = None
inner_metadata as_entries hint = None

abbrev pub metadata_by : Bool → Read → Option Metadata
metadata_by true x = inner_metadata x.part x.given.hint
metadata_by false x = metadata_of x.given.field x.holder.field_id

-- ── Arrow types ──

-- the hint's kind of list, else List
abbrev pub list_or : Nesting → ArrowType → ArrowType
list_or a_list type = type
list_or a_list_view type = type
list_or a_struct type = t.List
list_or (a_map s) type = t.List
list_or a_dictionary type = t.List
list_or a_value type = t.List

abbrev pub hinted_list : Forest Hint → ArrowType
hinted_list bare = t.List
hinted_list (plant h below after) = list_or (nesting h.type) h.type

-- List under any hint where the repeated child is the element itself
abbrev pub list_type : Part → Forest Hint → ArrowType
list_type as_root field = hinted_list field
list_type as_field field = hinted_list field
list_type as_key field = hinted_list field
list_type as_element field = t.List
list_type as_middle field = hinted_list field
list_type as_entries field = t.List

-- a map's keys are sorted if the hint says so
abbrev pub sorted_in : Nesting → Bool
sorted_in a_list = false
sorted_in a_list_view = false
sorted_in a_struct = false
sorted_in (a_map s) = s
sorted_in a_dictionary = false
sorted_in a_value = false

abbrev pub hinted_sorted : Forest Hint → Bool
hinted_sorted bare = false
hinted_sorted (plant h below after) = sorted_in (nesting h.type)

abbrev pub hinted_number : Forest Hint → ℕ
hinted_number bare = 0
hinted_number (plant h below after) = h.metadata

abbrev pub type_or : Option ArrowType → ArrowType
type_or None = t.Null
type_or (Some type) = type

-- ── Whole rows ──

pub record Full : Type 0 where
  pub shaped : Shaped
  pub type : ArrowType
  pub metadata : Option Metadata
  -- a map's entries' metadata number
  pub entries_metadata : ℕ

abbrev pub entries_number : RowKind → Read → ℕ
entries_number (leaf_row n) x = 0
entries_number struct_row x = 0
entries_number (items_row of_list) x = 0
entries_number (items_row of_map) x = hinted_number x.given.hint

module _ (typing : Typing) where
  abbrev pub leaf_type : Kind → Forest Hint → ArrowType
  leaf_type (leaf l) hint = type_or (typing l hint)
  leaf_type (group a) hint = t.Null

  abbrev pub type_by : RowKind → Read → ArrowType
  type_by (leaf_row n) x = leaf_type x.of.kind (leaf_hint x)
  type_by struct_row x = t.Struct
  type_by (items_row of_list) x = list_type x.part x.given.field
  type_by (items_row of_map) x = t.Map (hinted_sorted x.given.field)

  abbrev pub full_of : Made → Full
  full_of r = record {
    shaped = shaped_of r;
    type = type_by r.row.kind r.label;
    metadata = metadata_by r.inner r.label;
    entries_metadata = entries_number r.row.kind r.label;
  }

-- ── The walk ──

-- a schema read, with its hints: the first is the root's, and its name is not compared
abbrev pub handed : Forest Hint → Tree Spelled → Forest Read
handed hints t = hinting false bare hints (read t)

-- the first of what is refused, or else the answer
abbrev pub unless_refused : {A : Type 0} → List Refusal → A → Result A Refusal
unless_refused [] a = Ok a
unless_refused (r ∷ rs) a = Err r

module _ (typing : Typing) (chosen : ℕ → Bool) where
  abbrev pub all_refusals : Forest Hint → Tree Spelled → List Refusal
  all_refusals hints t = refusals typing chosen (handed hints t)

  abbrev pub full_rows : Forest Hint → Tree Spelled → Forest Full
  full_rows hints t = relabel (full_of typing) (shape chosen base false (handed hints t))

  -- The walk over a schema: the first refusal in walking order, or the rows.
  abbrev pub walk : Forest Hint → Tree Spelled → Result (Forest Full) Refusal
  walk hints t = unless_refused (all_refusals hints t) (full_rows hints t)

-- ── Under hint rows ──

-- the Arrow type of a leaf by its annotations, under a hint that is a row of the table
abbrev pub leaf_typing : List HintRow → List ℕ → Typing
leaf_typing table text l hint = converted_leaf l table text (hint_row hint)

-- the walk under hint rows that list these trees, over a hint text; no rows, no hint
abbrev pub walk_under : List ℕ → Forest HintRow → (ℕ → Bool) → Tree Spelled → Result (Forest Full) Refusal
walk_under text hints chosen t = walk (leaf_typing (listing hints) text) chosen (hints_of text 0 hints) t
