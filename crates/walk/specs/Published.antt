-- Lists and maps as the page on logical types of the Parquet format describes them, sentence by sentence, apart from how the walk reads them.
use Rattle.std.specs.Prelude.{◌≡◌, ℕ, true, false, ◌⊎◌, List, [], ◌∷◌, ◌++◌, map, Some, None, codes, Option, ◌≢◌, Ok}
use Rattle.walk.specs.Forests.{first_below, roots}
use Rattle.walk.specs.Labels.{Numbered, is_leaf, is_optional}
use Rattle.walk.specs.Reading.{Part, Read, nobody, reading, role_of}
use Rattle.walk.specs.Reading.Part.{as_element, as_entries, as_field, as_key, as_middle, as_root}
use Rattle.walk.specs.Shape.{has_own, passes_null}
use Rattle.walk.specs.declared.role.Role.TheVariants.{Listed as listed, Mapped as mapped}
use Rattle.schema.specs.declared.basic.Repetition.{Repetition}
use Rattle.schema.specs.declared.basic.Repetition.TheVariants.{Repeated as repeated, Required as required}
use Rattle.schema.specs.declared.element.Kind.{Kind}
use Rattle.schema.specs.declared.element.Kind.TheVariants.{Group as group, Leaf as leaf}
use Rattle.tree.specs.Forest.{Forest}
use Rattle.tree.specs.Forest.Forest.{bare, plant}
use Rattle.schema.specs.declared.basic.Annotation.TheVariants as a

-- ── Lists ──

-- The type of the elements of a LIST-annotated group of this name, whose repeated field is c, with the fields cb:
-- which element of the schema it is, and the repetition of the list's elements.
pub data ElementType (group_name : List ℕ) (c : Numbered) (cb : Forest Numbered) : Numbered → Repetition → Type 0 where
  -- If the repeated field is not a group, then its type is the element type and elements are required.
  not_a_group : is_leaf c.kind ≡ true → ElementType group_name c cb c required
  -- If the repeated field is a group with multiple fields, then its type is the element type and elements are required.
  several_fields : {x y : Numbered} {xb yb more : Forest Numbered} → is_leaf c.kind ≡ false → cb ≡ plant x xb (plant y yb more)
      → ElementType group_name c cb c required
  -- If the repeated field is a group with one field with repeated repetition, then its type is the element type and elements are required.
  repeated_field : {x : Numbered} {xb : Forest Numbered} → is_leaf c.kind ≡ false → cb ≡ plant x xb bare → x.repetition ≡ repeated
      → ElementType group_name c cb c required
  -- If the repeated field is a group with one field and is named either `array` or uses the LIST-annotated group's name with `_tuple`
  -- appended, then the repeated type is the element type and elements are required.
  named_so : {x : Numbered} {xb : Forest Numbered} → is_leaf c.kind ≡ false → cb ≡ plant x xb bare
      → (c.name ≡ codes "array") ⊎ (c.name ≡ group_name ++ codes "_tuple") → ElementType group_name c cb c required
  -- Otherwise, the repeated field's type is the element type with the repeated field's repetition: the one field within the repeated group.
  otherwise : {x : Numbered} {xb : Forest Numbered} → is_leaf c.kind ≡ false → cb ≡ plant x xb bare
      → (x.repetition ≢ repeated) → (c.name ≢ codes "array") → (c.name ≢ group_name ++ codes "_tuple")
      → ElementType group_name c cb x x.repetition

-- ── Maps ──

-- The middle level of a map is a repeated group with a key field, first, which is required, and a value field, second; they are known by
-- their position, not by their names.
pub data KeyValue (e : Numbered) : Forest Numbered → Numbered → Numbered → Type 0 where
  key_and_value : {k v : Numbered} {kb vb : Forest Numbered} → is_leaf e.kind ≡ false → e.repetition ≡ repeated
      → k.repetition ≡ required → (v.repetition ≢ repeated) → KeyValue e (plant k kb (plant v vb bare)) k v

-- a MAP-annotated group, or one annotated MAP_KEY_VALUE that no MAP-annotated group contains
abbrev pub MapAnnotated : Kind → Type 0
MapAnnotated (leaf l) = ⊥
MapAnnotated (group None) = ⊥
MapAnnotated (group (Some a.List)) = ⊥
MapAnnotated (group (Some a.Map)) = Unit {0}
MapAnnotated (group (Some a.MapKeyValue)) = Unit {0}

-- ── What the reading says ──

-- no annotation
abbrev pub Unannotated : Kind → Type 0
Unannotated (leaf l) = Unit {0}
Unannotated (group None) = Unit {0}
Unannotated (group (Some a.List)) = ⊥
Unannotated (group (Some a.Map)) = ⊥
Unannotated (group (Some a.MapKeyValue)) = ⊥

-- the first element of a forest that is read
abbrev pub first_read : Forest Read → Option Numbered
first_read bare = None
first_read (plant y below after) = Some y.of

abbrev pub element_by : Part → Numbered → Option Numbered → Option Numbered
element_by as_root c inner = None
element_by as_field c inner = None
element_by as_key c inner = None
element_by as_element c inner = Some c
element_by as_middle c inner = inner
element_by as_entries c inner = None

-- the element of a list, of what is read below its group
abbrev pub read_element : Forest Read → Option Numbered
read_element bare = None
read_element (plant c below after) = element_by c.part c.of (first_read below)

-- a LIST or MAP group that stands as a field, read with what is below it
abbrev pub read_below : Numbered → Forest Numbered → Forest Read
read_below g below = first_below (reading as_field nobody (plant g below bare))

-- elements may be absent where the row of the element is null, which it is if the element is optional
pub record ListAgrees (g c : Numbered) (cb : Forest Numbered) : Type 0 where
  pub role : role_of as_field g (plant c cb bare) ≡ Ok listed
  pub element : (x : Numbered) (r : Repetition) → ElementType g.name c cb x r
      → (read_element (read_below g (plant c cb bare)) ≡ Some x) × (is_optional x.repetition ≡ is_optional r)
  -- the list is nullable exactly if the group is optional
  pub nullable : passes_null (has_own (role_of as_field g (plant c cb bare))) g.repetition ≡ is_optional g.repetition

-- the parts of a map, of what is read below its group
pub record MapAgrees (g e : Numbered) (sides : Forest Numbered) (k v : Numbered) : Type 0 where
  pub role : role_of as_field g (plant e sides bare) ≡ Ok mapped
  pub parts : map (λ (y : Read). y.part) (roots (first_below (read_below g (plant e sides bare)))) ≡ as_key ∷ as_field ∷ []
  pub key_value : map (λ (y : Read). y.of) (roots (first_below (read_below g (plant e sides bare)))) ≡ k ∷ v ∷ []
  pub nullable : passes_null (has_own (role_of as_field g (plant e sides bare))) g.repetition ≡ is_optional g.repetition
