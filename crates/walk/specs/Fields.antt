-- Which hint reaches which element, and by which field its parent knows a row: read off one element with its children.
use Rattle.std.specs.Prelude.{◌≡◌, ℕ, zero, suc, Bool, true, false, not, ◌&&◌, List, [], Some, None, Option, ◌≢◌, Ok}
use Rattle.std.specs.List.{slice_get}
use Rattle.arrow.specs.declared.row.Metadata.{Metadata}
use Rattle.walk.specs.Faults.{Typing}
use Rattle.walk.specs.Forests.{Spot, roots}
use Rattle.walk.specs.Handing.{unwrap, wrapped}
use Rattle.walk.specs.Hints.{Hint, inside, others, sole}
use Rattle.walk.specs.Reading.{Part, Read}
use Rattle.walk.specs.Reading.Part.{as_element, as_entries, as_field, as_key, as_middle, as_root}
use Rattle.walk.specs.Refusing.{by_itself}
use Rattle.walk.specs.Shape.{Row}
use Rattle.walk.specs.Walk.{Full, full_of, metadata_of}
use Rattle.walk.specs.declared.role.Role.TheVariants.{Entries as entries, Listed as listed, Mapped as mapped, Middle as middle, Own as own}
use Rattle.tree.specs.Forest.{Forest}

-- the k-th of hints side by side, absent past the last
abbrev pub nth_hint : ℕ → Forest Hint → Forest Hint
nth_hint zero hints = sole hints
nth_hint (suc k) hints = nth_hint k (others hints)

-- the hint of the element inside the list that a repeated field has for itself; any other element's hint
abbrev pub own_hint : Read → Forest Hint
own_hint x = unwrap (wrapped x.part x.of.repetition) x.given.hint

-- y is the k-th child of the element at p
abbrev pub Child : Spot Read → ℕ → Read → Type 0
Child p k y = slice_get (roots p.below) k ≡ Some y

pub record HandsOn (p : Spot Read) : Type 0 where
  -- the k-th child of a struct is given the k-th field of its hint, and the names are compared
  pub fields : p.node.role ≡ Ok own → (k : ℕ) (y : Read) → Child p k y → (y.given.hint ≡ nth_hint k (inside (own_hint p.node))) × (y.given.named ≡ true)
  -- the repeated child of a group read as a list is given the list hint's child; names are not compared here and below
  pub list_child : p.node.role ≡ Ok listed → (y : Read) → Child p 0 y → (y.given.hint ≡ nth_hint 0 (inside p.node.given.hint)) × (y.given.named ≡ false)
  -- and by rule 5 the element is given the same
  pub element : p.node.role ≡ Ok middle → (y : Read) → Child p 0 y → (y.given.hint ≡ p.node.given.hint) × (y.given.named ≡ false)
  -- the entries of a map are given the map hint's child
  pub map_entries : p.node.role ≡ Ok mapped → (y : Read) → Child p 0 y → (y.given.hint ≡ nth_hint 0 (inside p.node.given.hint)) × (y.given.named ≡ false)
  -- key and value are given its fields
  pub key_and_value : p.node.role ≡ Ok entries → (k : ℕ) (y : Read) → Child p k y → (y.given.hint ≡ nth_hint k (inside p.node.given.hint)) × (y.given.named ≡ false)

-- ── Fields ──

pub record FieldOf : Type 0 where
  pub name : List ℕ
  pub nullable : Bool
  pub metadata : Option Metadata

abbrev pub field_of : Full → FieldOf
field_of r = record { name = r.shaped.name; nullable = r.shaped.field_null; metadata = r.metadata }

-- the field of a row of y: of its outermost row, or of the inner one of two
abbrev pub outer_field : Typing → Read → Row → FieldOf
outer_field typing y row = field_of (full_of typing (record { label = y; inner = false; row = row }))

abbrev pub inner_field : Typing → Read → Row → FieldOf
inner_field typing y row = field_of (full_of typing (record { label = y; inner = true; row = row }))

-- the field of an element: its name, null as its row is, the hint's metadata number or without a hint the field id
abbrev pub general_field : Read → Bool → FieldOf
general_field x null = record { name = x.of.name; nullable = null; metadata = metadata_of x.given.hint x.of.field_id }

-- whether a place is the first
abbrev pub first_of : ℕ → Bool
first_of zero = true
first_of (suc k) = false

abbrev pub is_key : Part → Bool
is_key as_root = false
is_key as_field = false
is_key as_key = true
is_key as_element = false
is_key as_middle = false
is_key as_entries = false

pub record FieldsBelow (typing : Typing) (p : Spot Read) : Type 0 where
  -- a struct's child, a list's element by rule 5, a map's value
  pub field : (k : ℕ) (y : Read) → Child p k y → y.part ≡ as_field → (row : Row) → outer_field typing y row ≡ general_field y row.nullable
  -- a map's key: its field is never null
  pub key : (k : ℕ) (y : Read) → Child p k y → y.part ≡ as_key → (row : Row) → outer_field typing y row ≡ general_field y false
  -- a map's key is the first child of the entries, its value the next
  pub sides : p.node.role ≡ Ok entries → (k : ℕ) (y : Read) → Child p k y → is_key y.part ≡ (first_of k)
  -- the list or map row of a LIST or MAP group is that of its repeated child, in the group's field; a key's is never null
  pub group : (k : ℕ) (y : Read) → Child p k y → by_itself y.part ≡ false → (p.node.part ≢ as_root)
      → (row : Row) → outer_field typing y row ≡ general_field p.node (not (is_key p.node.part) && row.nullable)
  -- the inner row of a repeated element outside of LIST and MAP: its name, not null, the metadata number of the list hint's child and never a field id
  pub inside_list : (k : ℕ) (y : Read) → Child p k y → by_itself y.part ≡ true
      → (row : Row) → inner_field typing y row ≡ record { name = y.of.name; nullable = false; metadata = metadata_of (nth_hint 0 (inside y.given.hint)) None }
  -- a list's element that is the repeated child itself: its name, not null, no metadata
  pub itself : (k : ℕ) (y : Read) → Child p k y → by_itself y.part ≡ false
      → (row : Row) → inner_field typing y row ≡ record { name = y.of.name; nullable = false; metadata = None }

-- the root's field is empty
pub record RootField (typing : Typing) (x : Read) : Type 0 where
  pub root : x.part ≡ as_root
  pub empty : (row : Row) → row.nullable ≡ false → outer_field typing x row ≡ record { name = []; nullable = false; metadata = None }
