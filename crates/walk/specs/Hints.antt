-- Hints: an Arrow schema as trees, and what the walk asks of the hint that an element is given.
use Rattle.std.specs.Prelude.{ℕ, ◌+◌, Bool, true, false, ◌&&◌, List, Some, None, Option, ◌==◌}
use Rattle.schema.specs.Elements.{part}
use Rattle.arrow.specs.declared.hint.HintRow.{HintRow}
use Rattle.arrow.specs.declared.types.ArrowType.{ArrowType}
use Rattle.walk.specs.Forests.{trees}
use Rattle.tree.specs.Forest.{Forest, count}
use Rattle.tree.specs.Forest.Forest.{bare, plant}
use Rattle.arrow.specs.declared.types.ArrowType.TheVariants as t

-- A hint row with its number, its name as bytes.
pub record Hint : Type 0 where
  pub row : ℕ
  pub name : List ℕ
  pub type : ArrowType
  -- 0 for none
  pub metadata : ℕ

-- the hints that hint rows spell over a hint text, numbered in preorder from n on
abbrev pub hints_of : List ℕ → ℕ → Forest HintRow → Forest Hint
hints_of text n bare = bare
hints_of text n (plant h below after) =
    plant (record { row = n; name = part text h.name; type = h.data_type; metadata = h.metadata })
    (hints_of text (n + 1) below)
    (hints_of text (n + 1 + count below) after)

-- A hint that may be absent is a forest: its first tree, none if it is bare. The trees after it are the hints of the siblings.
abbrev pub sole : Forest Hint → Forest Hint
sole bare = bare
sole (plant h below after) = plant h below bare

abbrev pub others : Forest Hint → Forest Hint
others bare = bare
others (plant h below after) = after

-- the hints of a hint's own children
abbrev pub inside : Forest Hint → Forest Hint
inside bare = bare
inside (plant h below after) = below

-- the number of a hint's row, if there is one
abbrev pub hint_row : Forest Hint → Option ℕ
hint_row bare = None
hint_row (plant h below after) = Some h.row

-- What an element is given: whether its name is compared with the hint's, its hint, and the hint of the field that its outermost row stands in.
pub record Given : Type 0 where
  pub named : Bool
  pub hint : Forest Hint
  pub field : Forest Hint

abbrev pub nothing : Given
nothing = record { named = false; hint = bare; field = bare }

-- ── Kinds of Arrow types ──

pub data Nesting : Type 0 where
  -- List, LargeList, FixedSizeList
  a_list : Nesting
  -- ListView, LargeListView
  a_list_view : Nesting
  a_struct : Nesting
  -- with sorted keys or not
  a_map : Bool → Nesting
  a_dictionary : Nesting
  -- nothing nested
  a_value : Nesting

abbrev pub nesting : ArrowType → Nesting
nesting t.Null = a_value
nesting t.Boolean = a_value
nesting t.Int8 = a_value
nesting t.Int16 = a_value
nesting t.Int32 = a_value
nesting t.Int64 = a_value
nesting t.UInt8 = a_value
nesting t.UInt16 = a_value
nesting t.UInt32 = a_value
nesting t.UInt64 = a_value
nesting t.Float16 = a_value
nesting t.Float32 = a_value
nesting t.Float64 = a_value
nesting t.Utf8 = a_value
nesting t.LargeUtf8 = a_value
nesting t.Utf8View = a_value
nesting t.Binary = a_value
nesting t.LargeBinary = a_value
nesting t.BinaryView = a_value
nesting (t.FixedSizeBinary n) = a_value
nesting t.Date32 = a_value
nesting t.Date64 = a_value
nesting (t.Time32 u) = a_value
nesting (t.Time64 u) = a_value
nesting (t.Timestamp u z) = a_value
nesting (t.Duration u) = a_value
nesting (t.Interval u) = a_value
nesting (t.Decimal32 p s) = a_value
nesting (t.Decimal64 p s) = a_value
nesting (t.Decimal128 p s) = a_value
nesting (t.Decimal256 p s) = a_value
nesting t.List = a_list
nesting t.LargeList = a_list
nesting t.ListView = a_list_view
nesting t.LargeListView = a_list_view
nesting (t.FixedSizeList n) = a_list
nesting t.Struct = a_struct
nesting (t.Map sorted) = a_map sorted
nesting (t.Dictionary n) = a_dictionary

-- one of the five kinds of lists
abbrev pub any_list : Nesting → Bool
any_list a_list = true
any_list a_list_view = true
any_list a_struct = false
any_list (a_map s) = false
any_list a_dictionary = false
any_list a_value = false

-- the kinds that a repeated element outside of LIST and MAP may take
abbrev pub plain_list : Nesting → Bool
plain_list a_list = true
plain_list a_list_view = false
plain_list a_struct = false
plain_list (a_map s) = false
plain_list a_dictionary = false
plain_list a_value = false

abbrev pub any_struct : Nesting → Bool
any_struct a_list = false
any_struct a_list_view = false
any_struct a_struct = true
any_struct (a_map s) = false
any_struct a_dictionary = false
any_struct a_value = false

abbrev pub any_map : Nesting → Bool
any_map a_list = false
any_map a_list_view = false
any_map a_struct = false
any_map (a_map s) = true
any_map a_dictionary = false
any_map a_value = false

-- absent, or of such a type
abbrev pub fits : (Nesting → Bool) → Forest Hint → Bool
fits test bare = true
fits test (plant h below after) = test (nesting h.type)

-- absent, or with so many children
abbrev pub has_children : ℕ → Forest Hint → Bool
has_children n bare = true
has_children n (plant h below after) = trees below == n

-- absent, or over a struct of two
abbrev pub over_two : Forest Hint → Bool
over_two bare = true
over_two (plant h bare after) = false
over_two (plant h (plant e sides more) after) = any_struct (nesting e.type) && trees sides == 2
