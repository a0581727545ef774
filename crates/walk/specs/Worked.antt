-- Worked schemas: one table of cases, each a schema with a selection and hints, and what the walk gives.
use Rattle.std.specs.Prelude.{◌≡◌, ℕ, suc, Bool, true, false, not, List, [], ◌∷◌, map, pos, Some, None, Ok, Err, codes, Option, Result, ◌==◌}
use Prim.Native.String.{String}
use Rattle.std.specs.List.{flat_map}
use Rattle.arrow.specs.declared.hint.HintRow.{HintRow}
use Rattle.arrow.specs.declared.row.Metadata.{Metadata}
use Rattle.arrow.specs.declared.types.ArrowType.{ArrowType}
use Rattle.schema.specs.declared.element.PlaceOf.{PlaceOf}
use Rattle.walk.specs.Levels.{Means, reads}
use Rattle.walk.specs.Levels.Meaning.{absent, no_items}
use Rattle.walk.specs.Shape.{RowKind, shape_of}
use Rattle.walk.specs.Shape.Items.{of_list, of_map}
use Rattle.walk.specs.Shape.RowKind.{items_row, leaf_row, struct_row}
use Rattle.walk.specs.Walk.{Full, walk_under}
use Rattle.schema.specs.Elements.{empty}
use Rattle.schema.specs.Posts.{add_refusal}
use Rattle.schema.specs.Words.{Spelled, root_of}
use Rattle.schema.specs.declared.basic.Annotation.{Annotation}
use Rattle.schema.specs.declared.basic.PhysicalType.{PhysicalType}
use Rattle.schema.specs.declared.basic.Repetition.{Repetition}
use Rattle.schema.specs.declared.basic.Repetition.TheVariants.{Optional as optional, Repeated as repeated, Required as required}
use Rattle.schema.specs.declared.element.Kind.TheVariants.{Group as group, Leaf as leaf}
use Rattle.schema.specs.declared.element.Leaf.{Leaf}
use Rattle.schema.specs.declared.refusal.Refusal.{Refusal}
use Rattle.tree.specs.Forest.{Forest, Tree, count, depth, listing}
use Rattle.tree.specs.Forest.Forest.{bare, plant}
use Rattle.schema.specs.declared.basic.PhysicalType.TheVariants as p
use Rattle.schema.specs.declared.basic.LogicalType.TheVariants as g
use Rattle.schema.specs.declared.basic.Annotation.TheVariants as a
use Rattle.schema.specs.declared.refusal.Refusal.TheVariants as no
use Rattle.arrow.specs.declared.types.ArrowType.TheVariants as t
use Rattle.arrow.specs.declared.row.Metadata.TheVariants as m

-- ── Schemas ──

abbrev pub int32 : Leaf
int32 = record { physical = p.Int32; type_length = pos 0; scale = pos 0; precision = pos 0; converted = None; logical = None }

-- a decimal by its logical type
abbrev pub decimal : PhysicalType → ℕ → ℕ → ℕ → Leaf
decimal physical length precision scale =
    record {
      physical = physical;
      type_length = pos length;
      scale = pos 0;
      precision = pos 0;
      converted = None;
      logical = Some (g.Decimal (pos scale) (pos precision));
    }

-- a leaf and a group at a depth, with a field id
abbrev pub a_leaf : ℕ → String → Repetition → ℕ → Forest Spelled → Forest Spelled
a_leaf depth name r i after = plant (record { name = codes name; depth = depth; repetition = Some r; fieldId = Some (pos i); kind = leaf int32 }) bare after

abbrev pub a_decimal : Leaf → Forest Spelled
a_decimal l = plant (record { name = codes "a"; depth = 1; repetition = Some required; fieldId = None; kind = leaf l }) bare bare

abbrev pub a_group : ℕ → String → Repetition → Option Annotation → ℕ → Forest Spelled → Forest Spelled → Forest Spelled
a_group depth name r n i below after =
    plant (record { name = codes name; depth = depth; repetition = Some r; fieldId = Some (pos i); kind = group n }) below after

abbrev pub top : Forest Spelled → Tree Spelled
top below = record { root = root_of (codes "root") None; under = below }

-- an optional LIST whose element is, by rule 5, an optional leaf
abbrev pub list_five : Forest Spelled
list_five = a_group 1 "a" optional (Some a.List) 11 (a_group 2 "list" repeated None 12 (a_leaf 3 "x" optional 13 bare) bare) bare

-- an optional LIST whose element is, by rule 1, its repeated child
abbrev pub list_one : Forest Spelled
list_one = a_group 1 "a" optional (Some a.List) 11 (a_leaf 2 "x" repeated 12 bare) bare

-- a required LIST whose element is, by rule 3, its repeated child, a struct with a repeated leaf
abbrev pub list_three : Forest Spelled
list_three = a_group 1 "a" required (Some a.List) 11 (a_group 2 "list" repeated None 12 (a_leaf 3 "x" repeated 13 bare) bare) bare

-- by rule 2: a repeated child with two children
abbrev pub list_two : Forest Spelled
list_two = a_group 1 "a" required (Some a.List) 11 (a_group 2 "list" repeated None 12 (a_leaf 3 "x" required 13 (a_leaf 3 "y" required 14 bare)) bare) bare

-- a required LIST named a over a repeated child of this name and annotation, with one required leaf
abbrev pub list_named : String → Option Annotation → Forest Spelled
list_named name n = a_group 1 "a" required (Some a.List) 11 (a_group 2 name repeated n 12 (a_leaf 3 "x" required 13 bare) bare) bare

-- an optional MAP of a required key and an optional value, and then what comes after it
abbrev pub a_map : Forest Spelled → Forest Spelled
a_map after = a_group 1 "m" optional (Some a.Map) 11 (a_group 2 "entries" repeated None 12 (a_leaf 3 "k" required 13 (a_leaf 3 "v" optional 14 bare)) bare) after

-- a required MAP whose entries have one child
abbrev pub a_set : Forest Spelled
a_set = a_group 1 "m" required (Some a.Map) 11 (a_group 2 "entries" repeated None 12 (a_leaf 3 "k" required 13 bare) bare) bare

-- a MAP whose key is an optional LIST
abbrev pub list_key : Forest Spelled
list_key =
    a_group 1 "m" required (Some a.Map) 11
    (a_group 2 "entries" repeated None 12 (a_group 3 "k" optional (Some a.List) 13 (a_leaf 4 "x" repeated 14 bare) (a_leaf 3 "v" required 15 bare)) bare)
    bare

-- ── Selections and hints ──

abbrev pub all : ℕ → Bool
all k = true

abbrev pub but : ℕ → ℕ → Bool
but n k = not (n == k)

-- the hint text, and the places of names in it
abbrev pub text : List ℕ
text = codes "amby"

abbrev pub no_name : PlaceOf ℕ
no_name = record { start = 0; length = 0 }

abbrev pub name_a : PlaceOf ℕ
name_a = record { start = 0; length = 1 }

abbrev pub name_m : PlaceOf ℕ
name_m = record { start = 1; length = 1 }

abbrev pub name_b : PlaceOf ℕ
name_b = record { start = 2; length = 1 }

abbrev pub name_y : PlaceOf ℕ
name_y = record { start = 3; length = 1 }

-- a hint with a metadata number; where names are not compared it has none
abbrev pub a_hint : PlaceOf ℕ → ArrowType → ℕ → Forest HintRow → Forest HintRow → Forest HintRow
a_hint name type number below after =
    plant (record { name = name; data_type = type; nullable = true; metadata = number; size = suc (count below) }) below after

abbrev pub hinted : Forest HintRow → Forest HintRow
hinted below = a_hint no_name t.Struct 0 below bare

-- a list of this kind for the field a
abbrev pub list_hint : ArrowType → Forest HintRow
list_hint kind = hinted (a_hint name_a kind 21 (a_hint no_name t.Int32 22 bare bare) bare)

-- ── Rows ──

abbrev pub line : RowKind → ℕ → ℕ → Bool → String → Bool → ArrowType → Option Metadata → Full
line k r d null name field_null type metadata =
    record {
      shaped = record { row = record { kind = k; levels = record { rep = r; def = d }; nullable = null }; name = codes name; field_null = field_null; entries = [] };
      type = type;
      metadata = metadata;
      entries_metadata = 0;
    }

abbrev pub id : ℕ → Option Metadata
id n = Some (m.FieldId (pos n))

-- levels R and D, nullability, and the field
abbrev pub list_line : ℕ → ℕ → Bool → String → ArrowType → Option Metadata → Full
list_line r d null name type metadata = line (items_row of_list) r d null name null type metadata

abbrev pub struct_line : ℕ → ℕ → Bool → String → Option Metadata → Full
struct_line r d null name metadata = line struct_row r d null name null t.Struct metadata

-- a leaf row has its element number and leaf number first
abbrev pub leaf_line : ℕ → ℕ → ℕ → ℕ → Bool → String → Option Metadata → Full
leaf_line e k r d null name metadata = line (leaf_row (record { element = e; leaf = k })) r d null name null t.Int32 metadata

abbrev pub map_line : ℕ → ℕ → Bool → String → Option Metadata → Bool → String → ℕ → Full
map_line r d null name metadata sorted its_entries number =
    record {
      shaped = record { row = record { kind = items_row of_map; levels = record { rep = r; def = d }; nullable = null }; name = codes name; field_null = null; entries = codes its_entries };
      type = t.Map sorted;
      metadata = metadata;
      entries_metadata = number;
    }

abbrev pub decimal_line : ArrowType → Full
decimal_line type = line (leaf_row (record { element = 1; leaf = 0 })) 0 0 false "a" false type None

abbrev pub root_line : Full
root_line = struct_line 0 0 false "" None

-- ── The table ──

pub record Case : Type 0 where
  pub schema : Forest Spelled
  pub chosen : ℕ → Bool
  pub hints : Forest HintRow
  pub gives : Result (List Full) Refusal

abbrev pub flat : Result (Forest Full) Refusal → Result (List Full) Refusal
flat (Ok f) = Ok (listing f)
flat (Err r) = Err r

abbrev pub outcome : Case → Result (List Full) Refusal
outcome x = flat (walk_under text x.hints x.chosen (top x.schema))

abbrev pub case : Forest Spelled → (ℕ → Bool) → Forest HintRow → Result (List Full) Refusal → Case
case s chosen hints gives = record { schema = s; chosen = chosen; hints = hints; gives = gives }

abbrev pub cases : List Case
cases =
    -- the root alone gives no rows
    case bare all bare (Ok [])
    -- optional LIST, rule 5, optional leaf
    ∷ case list_five all bare (Ok (root_line ∷ list_line 1 2 true "a" t.List (id 11) ∷ leaf_line 3 0 1 3 true "x" (id 13) ∷ []))
    -- optional LIST, rule 1
    ∷ case list_one all bare (Ok (root_line ∷ list_line 1 2 true "a" t.List (id 11) ∷ leaf_line 2 0 1 2 false "x" None ∷ []))
    -- required LIST, rule 3, repeated leaf: list and struct, list and leaf
    ∷ case list_three all bare
    (Ok (root_line ∷ list_line 1 1 false "a" t.List (id 11) ∷ struct_line 1 1 false "list" None
    ∷ list_line 2 2 false "x" t.List (id 13) ∷ leaf_line 3 0 2 2 false "x" None ∷ []))
    -- optional MAP, optional value
    ∷ case (a_map bare) all bare
    (Ok (root_line ∷ map_line 1 2 true "m" (id 11) false "entries" 0 ∷ leaf_line 3 0 1 2 false "k" (id 13) ∷ leaf_line 4 1 1 3 true "v" (id 14) ∷ []))
    -- the same and then a leaf, the key not chosen: the map is half-taken, and the last leaf is number 2
    ∷ case (a_map (a_leaf 1 "z" required 15 bare)) (but 0) bare (Ok (root_line ∷ leaf_line 5 2 0 0 false "z" (id 15) ∷ []))
    -- a LargeList hint is taken by rule 5, and not by rule 1
    ∷ case list_five all (list_hint t.LargeList)
    (Ok (root_line ∷ list_line 1 2 true "a" t.LargeList (Some (m.Hint 21)) ∷ leaf_line 3 0 1 3 true "x" (Some (m.Hint 22)) ∷ []))
    ∷ case list_one all (list_hint t.LargeList)
    (Ok (root_line ∷ list_line 1 2 true "a" t.List (Some (m.Hint 21)) ∷ leaf_line 2 0 1 2 false "x" None ∷ []))
    -- decimals by their bytes and precision, and one that keeps its scale under a hint
    ∷ case (a_decimal (decimal p.FixedLenByteArray 16 38 0)) all bare (Ok (root_line ∷ decimal_line (t.Decimal128 38 (pos 0)) ∷ []))
    ∷ case (a_decimal (decimal p.FixedLenByteArray 17 38 0)) all bare (Ok (root_line ∷ decimal_line (t.Decimal256 38 (pos 0)) ∷ []))
    ∷ case (a_decimal (decimal p.Int32 0 9 2)) all (hinted (a_hint name_a (t.Decimal64 9 (pos 3)) 0 bare bare))
    (Ok (root_line ∷ decimal_line (t.Decimal128 9 (pos 2)) ∷ []))
    -- rule 2
    ∷ case list_two all bare
    (Ok (root_line ∷ list_line 1 1 false "a" t.List (id 11) ∷ struct_line 1 1 false "list" None
    ∷ leaf_line 3 0 1 1 false "x" (id 13) ∷ leaf_line 4 1 1 1 false "y" (id 14) ∷ []))
    -- rule 4 by both names; not by another name, and not for LIST
    ∷ case (list_named "array" None) all bare
    (Ok (root_line ∷ list_line 1 1 false "a" t.List (id 11) ∷ struct_line 1 1 false "array" None ∷ leaf_line 3 0 1 1 false "x" (id 13) ∷ []))
    ∷ case (list_named "a_tuple" (Some a.Map)) all bare
    (Ok (root_line ∷ list_line 1 1 false "a" t.List (id 11) ∷ struct_line 1 1 false "a_tuple" None ∷ leaf_line 3 0 1 1 false "x" (id 13) ∷ []))
    ∷ case (list_named "b_tuple" None) all bare (Ok (root_line ∷ list_line 1 1 false "a" t.List (id 11) ∷ leaf_line 3 0 1 1 false "x" (id 13) ∷ []))
    ∷ case (list_named "array" (Some a.List)) all bare (Ok (root_line ∷ list_line 1 1 false "a" t.List (id 11) ∷ leaf_line 3 0 1 1 false "x" (id 13) ∷ []))
    -- a MAP whose entries have one child is a list
    ∷ case a_set all bare (Ok (root_line ∷ list_line 1 1 false "m" t.List (id 11) ∷ leaf_line 3 0 1 1 false "k" (id 13) ∷ []))
    -- the field of a key is never null, though its row is
    ∷ case list_key all bare
    (Ok (root_line ∷ map_line 1 1 false "m" (id 11) false "entries" 0 ∷ line (items_row of_list) 2 3 true "k" false t.List (id 13)
    ∷ leaf_line 4 0 2 3 false "x" None ∷ leaf_line 5 1 1 1 false "v" (id 15) ∷ []))
    -- sortedness and the entries' metadata number come from the hint, in which names are not compared
    ∷ case (a_map bare) all (hinted (a_hint name_m (t.Map true) 21 (a_hint no_name t.Struct 22 (a_hint no_name t.Int32 23 bare (a_hint no_name t.Int32 0 bare bare)) bare) bare))
    (Ok (root_line ∷ map_line 1 2 true "m" (Some (m.Hint 21)) true "entries" 22 ∷ leaf_line 3 0 1 2 false "k" (Some (m.Hint 23)) ∷ leaf_line 4 1 1 3 true "v" None ∷ []))
    -- a repeated leaf outside of LIST and MAP
    ∷ case (a_leaf 1 "a" repeated 11 bare) all (list_hint (t.FixedSizeList (pos 4)))
    (Ok (root_line ∷ list_line 1 1 false "a" (t.FixedSizeList (pos 4)) (Some (m.Hint 21)) ∷ leaf_line 1 0 1 1 false "a" (Some (m.Hint 22)) ∷ []))
    -- refusals: a kind of list that is not taken there, a wrong name, a wrong name after all below the sister before it, a broken LIST before its hint
    ∷ case (a_leaf 1 "a" repeated 11 bare) all (list_hint t.ListView) (Err (no.HintKind 1))
    ∷ case list_one all (hinted (a_hint name_b t.List 0 (a_hint no_name t.Int32 0 bare bare) bare)) (Err (no.HintFieldName 1))
    ∷ case (a_group 1 "a" required (Some a.List) 11 bare (a_leaf 1 "z" required 12 bare)) all (hinted (a_hint name_a t.Int32 0 bare (a_hint name_y t.Int32 0 bare bare))) (Err (no.ListChildren 1))
    -- a leaf that is not chosen is not looked at, but a group always is
    ∷ case (a_leaf 1 "a" repeated 11 bare) (but 0) (list_hint t.ListView) (Ok [])
    ∷ case list_five (but 0) (hinted (a_hint name_a t.Int32 0 bare bare)) (Err (no.HintKind 1))
    ∷ []

-- adding a decimal of 16 bytes and precision 39 to a draft of the root alone
abbrev pub too_precise : Option Refusal
too_precise = add_refusal (codes "a") (decimal p.FixedLenByteArray 16 39 0) (record { count = 1; bytes = 0; groups = 1 }) (empty ∷ empty ∷ []) (codes "?")

-- of the optional LIST by rule 5: level 0 is absent, 1 no items, 2 absent
abbrev pub list_five_reads : List Means
list_five_reads = flat_map (λ x. reads x.row) (listing (shape_of all (top list_five)))

pub record Worked : Type 0 where
  -- each case comes out as it says
  pub table : map outcome cases ≡ map (λ x. x.gives) cases
  -- 16 bytes have no room for 39 digits
  pub refused : too_precise ≡ Some no.LeafRule
  pub levels : list_five_reads
      ≡ record { level = 0; meaning = absent } ∷ record { level = 1; meaning = no_items } ∷ record { level = 2; meaning = absent } ∷ []
