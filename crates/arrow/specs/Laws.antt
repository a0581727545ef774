-- What holds of the Arrow types of leaves, in the words of the subject. The contract of `leaf_laws` names these.
use Rattle.std.specs.Prelude.{◌≡◌, ℕ, ◌+◌, ◌<◌, Bool, true, false, cond, ◌⊎◌, List, [], ◌∷◌, ◌++◌, length, drop, ℤ, Some, None, Option, slice_index_or}
use Rattle.tree.specs.Forest.{Forest, listing, Sized, Lists, below_at}
use Rattle.tree.specs.Forest.Forest.{bare, plant}
use Rattle.schema.specs.declared.basic.PhysicalType.TheVariants as p
use Rattle.schema.specs.declared.basic.TimeUnit.{TimeUnit as ParquetUnit}
use Rattle.schema.specs.declared.element.Leaf.{Leaf}
use Rattle.schema.specs.Decimals.{digits, decimal_of, keeps_decimal_rule}
use Rattle.arrow.specs.declared.types.TimeUnit.{TimeUnit}
use Rattle.arrow.specs.declared.types.ArrowType.{ArrowType}
use Rattle.arrow.specs.declared.types.ArrowType.TheVariants as a
use Rattle.arrow.specs.declared.hint.HintRow.{HintRow}
use Rattle.arrow.specs.Kinds.{hint_span}
use Rattle.arrow.specs.Same.{meaning}
use Rattle.arrow.specs.HintTrees.{empty_hint}
use Rattle.arrow.specs.Annotations.{annotation, timestamp}
use Rattle.arrow.specs.Table.{leaf_type, unit_of}
use Rattle.arrow.specs.Hints.{View, view, stamp, decimal, is_dictionary, told}
use Rattle.arrow.specs.Convert.{converted_leaf, typed_under}

abbrev pub scale_seen : View → Option ℤ
scale_seen (decimal b d s) = Some s
scale_seen v = None

abbrev pub unit_seen : View → Option TimeUnit
unit_seen (stamp u z) = Some u
unit_seen v = None

-- a decimal's scale, and a timestamp's unit
abbrev pub scale_of : ArrowType → Option ℤ
scale_of t = scale_seen (view t)

abbrev pub stamp_unit : ArrowType → Option TimeUnit
stamp_unit t = unit_seen (view t)

-- the first type of the rows that is no dictionary
abbrev pub last_value : List HintRow → ArrowType
last_value [] = a.Null
last_value (h ∷ rows) = cond (is_dictionary h.data_type) (last_value rows) h.data_type

-- what the values of a leaf are whose type t came of the hint in the row i: a dictionary has those at the end of its
-- dictionaries
abbrev pub values : List HintRow → ℕ → ArrowType → ArrowType
values hints i t = cond (is_dictionary t) (last_value (drop i hints)) t

-- the hint's row
abbrev pub row_at : List HintRow → ℕ → HintRow
row_at hints i = slice_index_or hints i empty_hint

pub record LeafLaws : Type 0 where
  -- without a hint the type is the annotation's, and so it is under a row past the last
  pub unhinted : (f : Leaf) (hints : List HintRow) (text : List ℕ) → converted_leaf f hints text None ≡ leaf_type f
  pub past : (f : Leaf) (hints : List HintRow) (text : List ℕ) (i : ℕ) → length hints < i + 1 → converted_leaf f hints text (Some i) ≡ leaf_type f
  -- no hint gives a type to a leaf that has none, or takes one away
  pub typed : (f : Leaf) (hints : List HintRow) (text : List ℕ) (row : Option ℕ) → leaf_type f ≡ None → converted_leaf f hints text row ≡ None
  pub stays_typed : (f : Leaf) (hints : List HintRow) (text : List ℕ) (row : Option ℕ) → converted_leaf f hints text row ≡ None → leaf_type f ≡ None
  -- under a hint the type is the leaf's own or the one that the hint tells
  pub one_of_two : (f : Leaf) (hints : List HintRow) (text : List ℕ) (i : ℕ) (own t : ArrowType) → leaf_type f ≡ Some own → converted_leaf f hints text (Some i) ≡ Some t → (t ≡ own) ⊎ (t ≡ told i (row_at hints i))
  -- no hint changes a decimal's scale
  pub scale : (f : Leaf) (hints : List HintRow) (text : List ℕ) (i : ℕ) (own t : ArrowType) (s : ℤ) → leaf_type f ≡ Some own → scale_of own ≡ Some s → converted_leaf f hints text (Some i) ≡ Some t → scale_of (values hints i t) ≡ Some s
  -- no hint changes the unit of an INT64 that is annotated as a timestamp
  pub unit : (f : Leaf) (hints : List HintRow) (text : List ℕ) (i : ℕ) (utc : Bool) (u : ParquetUnit) (t : ArrowType) → f.physical ≡ p.Int64 → annotation f ≡ timestamp utc u → converted_leaf f hints text (Some i) ≡ Some t → stamp_unit (values hints i t) ≡ Some (unit_of u)
  -- a kept dictionary is the hint's own row, and under its value type as the hint the leaf has just that type
  pub kept : (f : Leaf) (hints : List HintRow) (text : List ℕ) (i j : ℕ) → converted_leaf f hints text (Some i) ≡ Some (a.Dictionary j) → (j ≡ i) × ((v : ArrowType) × (converted_leaf f hints text (Some (i + 1)) ≡ Some v) × (meaning text v ≡ meaning text (told (i + 1) (row_at hints (i + 1)))))
  -- a dictionary that is not kept leaves the leaf's own type
  pub dropped : (f : Leaf) (hints : List HintRow) (text : List ℕ) (i : ℕ) (t : ArrowType) → is_dictionary (row_at hints i).data_type ≡ true → converted_leaf f hints text (Some i) ≡ Some t → is_dictionary t ≡ false → leaf_type f ≡ Some t
  -- a decimal that keeps the decimal rule has a type, of its own precision and scale
  pub decimals : (f : Leaf) (s d : ℤ) → keeps_decimal_rule f ≡ true → decimal_of f ≡ Some (s, d) → (leaf_type f ≡ Some (a.Decimal128 (digits d) s)) ⊎ (leaf_type f ≡ Some (a.Decimal256 (digits d) s))
  -- where a forest lies in the rows from i on, the hint is its first tree
  pub in_forest : (f : Leaf) (hints : List HintRow) (text : List ℕ) (i : ℕ) (h : HintRow) (below after : Forest HintRow) (rest : List HintRow) → drop i hints ≡ listing (plant h below after) ++ rest → Sized hint_span (plant h below after) → converted_leaf f hints text (Some i) ≡ typed_under f text i (plant h below after)
  -- and where the rows list a forest, it is the tree at its row
  pub in_tree : (f : Leaf) (hints : List HintRow) (text : List ℕ) (g : Forest HintRow) → Lists hint_span g hints → (i : ℕ) → i < length hints → converted_leaf f hints text (Some i) ≡ typed_under f text i (plant (row_at hints i) (below_at g i) bare)
