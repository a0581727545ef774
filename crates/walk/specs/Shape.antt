-- The rows that a schema gives by itself, without hints: their levels, nullability, fields' names and nullability, and numbers.
use Rattle.std.specs.Prelude.{ℕ, suc, Bool, true, false, cond, not, ◌&&◌, List, [], ◌∷◌, ◌++◌, Ok, Err, Result}
use Rattle.arrow.specs.declared.row.LeafNumbers.{LeafNumbers}
use Rattle.walk.specs.Forests.{beside, over, relabel}
use Rattle.walk.specs.Labels.{is_optional, is_repeated, numbered}
use Rattle.walk.specs.Reading.{Read, nobody, reading}
use Rattle.walk.specs.Reading.Part.{as_root}
use Rattle.walk.specs.Yields.{both_yield}
use Rattle.walk.specs.declared.levels.Levels.{Levels}
use Rattle.schema.specs.declared.refusal.Refusal.{Refusal}
use Rattle.walk.specs.declared.role.Role.{Role}
use Rattle.walk.specs.declared.role.Role.TheVariants.{Entries as entries, Listed as listed, Mapped as mapped, Middle as middle, Own as own}
use Rattle.schema.specs.Words.{Spelled}
use Rattle.schema.specs.declared.basic.Repetition.{Repetition}
use Rattle.schema.specs.declared.basic.Repetition.TheVariants.{Optional as optional, Repeated as repeated, Required as required}
use Rattle.schema.specs.declared.element.Kind.{Kind}
use Rattle.schema.specs.declared.element.Kind.TheVariants.{Group as group, Leaf as leaf}
use Rattle.tree.specs.Forest.{Forest, Tree, alone}
use Rattle.tree.specs.Forest.Forest.{bare, plant}

-- ── Rows ──

pub data Items : Type 0 where
  of_list of_map : Items

pub data RowKind : Type 0 where
  leaf_row : LeafNumbers → RowKind
  struct_row : RowKind
  -- the row of a list or a map
  items_row : Items → RowKind

-- what levels are read by
pub record Row : Type 0 where
  pub kind : RowKind
  pub levels : Levels
  pub nullable : Bool

-- a row with the element that it is of, and whether it is the inner one of that element's two rows
pub record Made : Type 0 where
  pub label : Read
  pub inner : Bool
  pub row : Row

-- ── The rows of one element ──

-- An optional element adds 1 to the definition level, a repeated one 1 to both.
abbrev pub raised : Levels → Repetition → Levels
raised v required = v
raised v optional = record { rep = v.rep; def = suc v.def }
raised v repeated = record { rep = suc v.rep; def = suc v.def }

-- which roles have a leaf or struct row of their own
abbrev pub has_own : Result Role Refusal → Bool
has_own (Ok own) = true
has_own (Ok listed) = false
has_own (Ok middle) = false
has_own (Ok mapped) = false
has_own (Ok entries) = false
has_own (Err n) = true

-- a map row is that of the entries
abbrev pub items_of : Result Role Refusal → Items
items_of (Ok own) = of_list
items_of (Ok listed) = of_list
items_of (Ok middle) = of_list
items_of (Ok mapped) = of_list
items_of (Ok entries) = of_map
items_of (Err n) = of_list

-- Every repeated element has a list or map row of its own levels. It is null if it stands for an optional LIST or MAP group above.
abbrev pub wrap : Read → Items → Repetition → Levels → Bool → List Made
wrap x i required v null_above = []
wrap x i optional v null_above = []
wrap x i repeated v null_above = record { label = x; inner = false; row = record { kind = items_row i; levels = v; nullable = null_above } } ∷ []

-- A struct row has its element's levels and is null if that is optional.
abbrev pub struct_part : Read → Bool → Repetition → Levels → List Made
struct_part x false r v = []
struct_part x true r v = record { label = x; inner = is_repeated r; row = record { kind = struct_row; levels = v; nullable = is_optional r } } ∷ []

-- so does the row of a leaf, if it is chosen
abbrev pub leaf_part : Bool → Read → Repetition → Levels → Forest Made
leaf_part false x r v = bare
leaf_part true x r v =
    plant
    (record {
      label = x;
      inner = is_repeated r;
      row = record { kind = leaf_row (record { element = x.of.number; leaf = x.of.leaf_number }); levels = v; nullable = is_optional r };
    })
    bare bare

-- the rows of a group, one round the other
abbrev pub group_rows : Read → Items → Bool → Repetition → Levels → Bool → List Made
group_rows x i o r v null_above = wrap x i r v null_above ++ struct_part x o r v

-- an optional LIST or MAP group has no row of its own: that it is absent is told by the row of its repeated child
abbrev pub passes_null : Bool → Repetition → Bool
passes_null o r = not o && is_optional r

-- a map of which key or value does not yield gives nothing
abbrev pub both_sides : {A : Type 0} → Result Role Refusal → Bool → Forest A → Forest A
both_sides (Ok own) both f = f
both_sides (Ok listed) both f = f
both_sides (Ok middle) both f = f
both_sides (Ok mapped) both f = cond both f bare
both_sides (Ok entries) both f = f
both_sides (Err n) both f = f

module _ (chosen : ℕ → Bool) where
  -- The rows of one element at its levels v, round those of what is below it.
  abbrev pub element_rows : Kind → Read → Result Role Refusal → Repetition → Levels → Bool → Bool → Forest Made → Forest Made
  element_rows (leaf l) x role r v null_above both inner = over (wrap x of_list r v null_above) (leaf_part (chosen x.of.leaf_number) x r v)
  element_rows (group n) x role r v null_above both inner =
      over (group_rows x (items_of role) (has_own role) r v null_above) (both_sides role both inner)

  -- The rows of elements that stand below the levels v, child by child.
  unfoldable pub shape : Levels → Bool → Forest Read → Forest Made
  shape v null_above bare = bare
  shape v null_above (plant x below after) =
      beside
      (element_rows x.of.kind x x.role x.of.repetition (raised v x.of.repetition) null_above
      (both_yield chosen below)
      (shape (raised v x.of.repetition) (passes_null (has_own x.role) x.of.repetition) below))
      (shape v null_above after)

-- ── The whole schema ──

-- levels start at 0
abbrev pub base : Levels
base = record { rep = 0; def = 0 }

-- every element of a schema with its numbers and its role
abbrev pub read : Tree Spelled → Forest Read
read t = reading as_root nobody (numbered 0 0 (alone t))

abbrev pub rows : (ℕ → Bool) → Tree Spelled → Forest Made
rows chosen t = shape chosen base false (read t)

abbrev pub made_row : Made → Row
made_row r = r.row

-- what levels are read by, alone
abbrev pub plain_rows : (ℕ → Bool) → Tree Spelled → Forest Row
plain_rows chosen t = relabel made_row (rows chosen t)

-- ── Fields, metadata aside ──

-- a row, Arrow type and metadata aside, with the field by which its parent knows it
pub record Shaped : Type 0 where
  pub row : Row
  pub name : List ℕ
  pub field_null : Bool
  -- a map's entries' name
  pub entries : List ℕ

-- The inner of an element's two rows has the element's own name and is not null. Any other row has the name that its parent holds, and its
-- field is null if the row is; but a key's field never is.
abbrev pub name_by : Bool → List ℕ → List ℕ → List ℕ
name_by true its held = its
name_by false its held = held

abbrev pub null_by : Bool → Bool → Bool → Bool
null_by true key null = false
null_by false key null = not key && null

abbrev pub entries_by : RowKind → List ℕ → List ℕ
entries_by (leaf_row n) its = []
entries_by struct_row its = []
entries_by (items_row of_list) its = []
entries_by (items_row of_map) its = its

abbrev pub shaped_of : Made → Shaped
shaped_of r = record {
  row = r.row;
  name = name_by r.inner r.label.of.name r.label.holder.name;
  field_null = null_by r.inner r.label.holder.key r.row.nullable;
  entries = entries_by r.row.kind r.label.of.name;
}

-- The shape: what a schema gives under any hints, Arrow types and metadata aside.
abbrev pub shape_of : (ℕ → Bool) → Tree Spelled → Forest Shaped
shape_of chosen t = relabel shaped_of (rows chosen t)
