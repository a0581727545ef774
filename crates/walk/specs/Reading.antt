-- How each element of a schema is read. All rules for LIST and MAP stand here: what a group is, and what its repeated child is.
use Rattle.std.specs.Prelude.{ℕ, Bool, true, false, cond, not, ◌&&◌, ◌||◌, List, [], ◌++◌, ℤ, None, codes, Option, Some, Ok, Err, Result}
use Rattle.std.specs.Str.{bytes_eq}
use Rattle.tree.specs.Forest.{Forest}
use Rattle.tree.specs.Forest.Forest.{bare, plant}
use Rattle.schema.specs.declared.basic.Repetition.{Repetition}
use Rattle.schema.specs.declared.basic.Annotation.{Annotation}
use Rattle.schema.specs.declared.basic.Annotation.TheVariants as a
use Rattle.schema.specs.declared.element.Kind.{Kind}
use Rattle.schema.specs.declared.element.Kind.TheVariants.{Leaf as leaf, Group as group}
use Rattle.schema.specs.declared.refusal.Refusal.TheVariants as no
use Rattle.schema.specs.declared.refusal.Refusal.{Refusal}
use Rattle.walk.specs.declared.role.Role.{Role}
use Rattle.walk.specs.declared.role.Role.TheVariants.{Own as own, Listed as listed, Middle as middle, Mapped as mapped, Entries as entries}
use Rattle.walk.specs.Labels.{Numbered, is_leaf, is_repeated, repeated_element}
use Rattle.walk.specs.Hints.{Given, nothing}

-- ── The repeated child c of a LIST group G ──

-- c is named `array`, or as G with `_tuple` after it
abbrev pub names_element : List ℕ → List ℕ → Bool
names_element group_name name = bytes_eq name (codes "array") || bytes_eq name (group_name ++ codes "_tuple")

-- Rules 3 to 5, for a group c with one child: c's annotation, whether that child is repeated, whether c has such a name.
-- Rule 3: no annotation, and the child is repeated. Rule 4: not LIST, the child is not repeated, and such a name.
abbrev pub one_child : Option Annotation → Bool → Bool → Bool
one_child None again by_name = again || by_name
one_child (Some a.List) again by_name = false
one_child (Some a.Map) again by_name = not again && by_name
one_child (Some a.MapKeyValue) again by_name = not again && by_name

-- Whether c is the list's element itself: by rule 1 if it is a leaf, by rule 2 if it has no or several children, by rules 3
-- and 4 as above. Otherwise, by rule 5, c's one child is the element.
abbrev pub is_element : List ℕ → List ℕ → Kind → Forest Numbered → Bool
is_element group_name name (leaf l) below = true
is_element group_name name (group n) bare = true
is_element group_name name (group n) (plant x xb bare) = one_child n (repeated_element x) (names_element group_name name)
is_element group_name name (group n) (plant x xb (plant y yb after)) = true

-- ── LIST and MAP groups; n is the group's number ──

-- A LIST group has one child, which is repeated, and is not repeated itself.
abbrev pub list_child : ℕ → Bool → Bool → Result Role Refusal
list_child n false again = Err (no.ListChildNotRepeated n)
list_child n true true = Err (no.ListRepeated n)
list_child n true false = Ok listed

abbrev pub list_role : ℕ → Repetition → Forest Numbered → Result Role Refusal
list_role n rep bare = Err (no.ListChildren n)
list_role n rep (plant c cb bare) = list_child n (repeated_element c) (is_repeated rep)
list_role n rep (plant c cb (plant d db after)) = Err (no.ListChildren n)

-- The repeated child of a MAP group has one child, and is read by LIST's rules, or two, key and value, neither repeated.
abbrev pub entries_role : ℕ → Forest Numbered → Result Role Refusal
entries_role n bare = Err (no.EntriesChildren n)
entries_role n (plant k kb bare) = Ok listed
entries_role n (plant k kb (plant v vb bare)) = cond (repeated_element k || repeated_element v) (Err (no.EntryRepeated n)) (Ok mapped)
entries_role n (plant k kb (plant v vb (plant w wb after))) = Err (no.EntriesChildren n)

-- A MAP group is not repeated, and has one child, a repeated group.
abbrev pub map_child : ℕ → Forest Numbered → Result Role Refusal
map_child n bare = Err (no.MapChildren n)
map_child n (plant e eb bare) =
    cond (repeated_element e && not (is_leaf e.kind)) (entries_role n eb) (Err (no.MapChildNotRepeatedGroup n))
map_child n (plant e eb (plant d db after)) = Err (no.MapChildren n)

abbrev pub map_role : ℕ → Repetition → Forest Numbered → Result Role Refusal
map_role n rep below = cond (is_repeated rep) (Err (no.MapRepeated n)) (map_child n below)

-- how an element is read by its own annotation
abbrev pub by_annotation : ℕ → Kind → Repetition → Forest Numbered → Result Role Refusal
by_annotation n (leaf l) rep below = Ok own
by_annotation n (group None) rep below = Ok own
by_annotation n (group (Some a.List)) rep below = list_role n rep below
by_annotation n (group (Some a.Map)) rep below = map_role n rep below
by_annotation n (group (Some a.MapKeyValue)) rep below = map_role n rep below

-- ── What an element is to its parent ──

pub data Part : Type 0 where
  -- the root, which has no parent
  as_root : Part
  -- a field of a struct, a list's element by rule 5, or a map's value
  as_field : Part
  -- a map's key
  as_key : Part
  -- the repeated child of a LIST group, by rules 1 to 4 the element itself
  as_element : Part
  -- the repeated child of a LIST group, whose one child is the element by rule 5
  as_middle : Part
  -- the repeated child of a MAP group, which holds key and value
  as_entries : Part

-- Only a root, field or key is read by its own annotation; the repeated child of a LIST or MAP group is not.
abbrev pub role_of : Part → Numbered → Forest Numbered → Result Role Refusal
role_of as_root x below = by_annotation x.number x.kind x.repetition below
role_of as_field x below = by_annotation x.number x.kind x.repetition below
role_of as_key x below = by_annotation x.number x.kind x.repetition below
role_of as_element x below = Ok own
role_of as_middle x below = Ok middle
role_of as_entries x below = Ok entries

abbrev pub first_is_element : List ℕ → Forest Numbered → Bool
first_is_element group_name bare = true
first_is_element group_name (plant c cb after) = is_element group_name c.name c.kind cb

-- what the first child of an element is to it, and what the child after another is
abbrev pub child_part : Result Role Refusal → List ℕ → Forest Numbered → Part
child_part (Ok own) name below = as_field
child_part (Ok listed) name below = cond (first_is_element name below) as_element as_middle
child_part (Ok middle) name below = as_field
child_part (Ok mapped) name below = as_entries
child_part (Ok entries) name below = as_key
child_part (Err r) name below = as_field

abbrev pub next_part : Part → Part
next_part as_root = as_root
next_part as_field = as_field
next_part as_key = as_field
next_part as_element = as_element
next_part as_middle = as_middle
next_part as_entries = as_entries

-- Whose name and field id the field of a row takes, and whether it is a key.
pub record Holder : Type 0 where
  pub name : List ℕ
  pub field_id : Option ℤ
  pub key : Bool

-- the root's field is empty
abbrev pub nobody : Holder
nobody = record { name = []; field_id = None; key = false }

-- The repeated child of a LIST or MAP group stands in the group's field.
abbrev pub held_by : Part → Holder → Numbered → Holder
held_by as_root g x = g
held_by as_field g x = record { name = x.name; field_id = x.field_id; key = false }
held_by as_key g x = record { name = x.name; field_id = x.field_id; key = true }
held_by as_element g x = g
held_by as_middle g x = g
held_by as_entries g x = g

-- ── The whole schema, read ──

-- An element with all that its rows depend on.
pub record Read : Type 0 where
  pub of : Numbered
  pub role : Result Role Refusal
  pub part : Part
  -- of its outermost row
  pub holder : Holder
  -- its hint; nothing, until hints are handed out
  pub given : Given

unfoldable pub reading : Part → Holder → Forest Numbered → Forest Read
reading t g bare = bare
reading t g (plant x below after) =
    plant (record { of = x; role = role_of t x below; part = t; holder = held_by t g x; given = nothing })
    (reading (child_part (role_of t x below) x.name below) (held_by t g x) below)
    (reading (next_part t) g after)
