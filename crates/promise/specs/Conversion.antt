-- What a conversion answers and leaves, whatever it is given.
use Rattle.std.specs.Prelude.{◌≡◌, ℕ, ◌-◌, ◌*◌, Bool, true, false, ◌||◌, List, ◌++◌, map, length, take, replicate, None, Ok, Err, Result, nat_lt}
use Rattle.std.specs.List.{range_with_len}
use Rattle.tree.specs.Forest.{Forest, Lists, count}
use Rattle.schema.specs.declared.draft.Schema.{Schema}
use Rattle.schema.specs.declared.element.Element.{Element}
use Rattle.schema.specs.declared.refusal.Refusal.{Refusal}
use Rattle.schema.specs.declared.refusal.Refusal.TheVariants as no
use Rattle.schema.specs.Posts.{memory_kept}
use Rattle.schema.specs.Rows.{IsFinished}
use Rattle.columns.specs.Levels.{leaves_of}
use Rattle.selection.specs.Sets.{below}
use Rattle.arrow.specs.declared.hint.HintRow.{HintRow}
use Rattle.arrow.specs.declared.row.ResultRow.{ResultRow}
use Rattle.arrow.specs.declared.types.ArrowType.TheVariants as t
use Rattle.arrow.specs.HintTrees.{IsHint}
use Rattle.arrow.specs.Kinds.{hint_span}
use Rattle.walk.specs.Labels.{shown_tree}
use Rattle.walk.specs.Results.{lines, line_of}
use Rattle.walk.specs.Walk.{Full, walk_under}

-- One conversion: what it was given, what it answered, and what it left.
pub record Conversion : Type 0 where
  -- the finished schema, and the memory that is lent with it
  pub schema : Schema
  pub elements : List Element
  pub names : List ℕ
  -- the set that the selection means
  pub chosen : ℕ → Bool
  -- the hint rows and their text
  pub hints : List HintRow
  pub text : List ℕ
  -- how long the result table and the chosen flags are
  pub room : ℕ
  pub flag_room : ℕ
  pub answer : Result ℕ Refusal
  pub rows : List ResultRow
  pub flags : List Bool

abbrev pub conversion : Schema → List Element → List ℕ → (ℕ → Bool) → List HintRow → List ℕ → ℕ → ℕ → Result ℕ Refusal → List ResultRow → List Bool → Conversion
conversion schema elements names chosen hints text room flag_room answer rows flags = record {
  schema = schema;
  elements = elements;
  names = names;
  chosen = chosen;
  hints = hints;
  text = text;
  room = room;
  flag_room = flag_room;
  answer = answer;
  rows = rows;
  flags = flags;
}

-- the elements that the schema counts
abbrev pub counted : Conversion → List Element
counted c = take c.schema.count c.elements

-- how many leaves they have
abbrev pub leaves : Conversion → ℕ
leaves c = length (leaves_of (counted c))

-- an empty row: zero or none throughout
abbrev pub empty_row : ResultRow
empty_row = record {
  rep_level = 0;
  def_level = 0;
  nullable = false;
  data_type = t.Null;
  size = 0;
  field = record { name = record { start = 0; length = 0 }; nullable = false; metadata = None };
  leaf = None;
  entries = None;
}

-- Refused: every row is empty and every flag is false.
pub record Refused (c : Conversion) (e : Refusal) : Type 0 where
  pub answer : c.answer ≡ Err e
  pub rows : c.rows ≡ replicate c.room empty_row
  pub flags : c.flags ≡ replicate c.flag_room false

-- Accepted, with the rows of f: they stand at the front of the table, each with its size, and their number is the answer; the rows past
-- them are empty. The flags of the chosen leaves are true and all others false.
pub record Accepted (c : Conversion) (f : Forest Full) : Type 0 where
  pub answer : c.answer ≡ Ok (count f)
  pub used : List ResultRow
  pub rows : c.rows ≡ used ++ replicate (c.room - count f) empty_row
  pub shown : map (line_of c.names) used ≡ lines f
  pub flags : c.flags ≡ map (below (leaves c) c.chosen) (range_with_len 0 c.flag_room)

abbrev pub Settled : Conversion → Result (Forest Full) Refusal → Type 0
Settled c (Ok f) = Accepted c f
Settled c (Err e) = Refused c e

-- the memory is the finished schema
abbrev pub kept : Conversion → Bool
kept c = memory_kept c.schema c.elements c.names

-- the hint rows are a hint, or there are none
abbrev pub HintKept : Conversion → Type 0
HintKept c = IsHint (length c.text) c.hints

-- the result table has fewer than two rows for each element, or the flags are fewer than the leaves
abbrev pub short_table : Conversion → Bool
short_table c = nat_lt c.room (2 * c.schema.count) || nat_lt c.flag_room (leaves c)

-- What every conversion does: it is refused by 7, 8 or 9, in this order; and otherwise it settles as the walk does, over the tree that the
-- elements are and under the trees that the hint rows list. The walk's refusals are 10 to 22. Just one of the four cases applies.
pub data Converts (c : Conversion) : Type 0 where
  other_memory : kept c ≡ false → Refused c no.Memory → Converts c
  no_hint : kept c ≡ true → (HintKept c → ⊥) → Refused c no.Hint → Converts c
  no_room : kept c ≡ true → HintKept c → short_table c ≡ true → Refused c no.Table → Converts c
  walked : kept c ≡ true → HintKept c → short_table c ≡ false
      → ((tree : IsFinished c.schema.bytes (counted c)) (h : Forest HintRow) → Lists hint_span h c.hints
      → Settled c (walk_under c.text h c.chosen (shown_tree c.names tree.0)))
      → Converts c
