-- What a hint makes of the type that a leaf has by itself.
use Rattle.std.specs.Prelude.{ℕ, ◌+◌, Bool, true, false, cond, not, ◌&&◌, ◌||◌, List, [], ◌∷◌, ℤ, Some, None, Option, ◌==◌, nat_le}
use Rattle.std.specs.Ordering.{int_eq}
use Rattle.tree.specs.Forest.{Forest}
use Rattle.tree.specs.Forest.Forest.{bare, plant}
use Rattle.arrow.specs.declared.types.TimeUnit.{TimeUnit}
use Rattle.arrow.specs.declared.types.TimeUnit.TheVariants.{Nanosecond}
use Rattle.arrow.specs.declared.types.Zone.{Zone}
use Rattle.arrow.specs.declared.types.ArrowType.{ArrowType}
use Rattle.arrow.specs.declared.types.ArrowType.TheVariants as a
use Rattle.arrow.specs.declared.hint.HintRow.{HintRow}
use Rattle.arrow.specs.contracts.types.TimeUnitPartialEq.TheImpl as unit
use Rattle.arrow.specs.Same.{same}

-- the types that the rules below name, each by a number
abbrev pub other : ℕ
other = 0

abbrev pub int32 : ℕ
int32 = 1

abbrev pub int64 : ℕ
int64 = 2

abbrev pub date32 : ℕ
date32 = 3

abbrev pub date64 : ℕ
date64 = 4

abbrev pub time32 : ℕ
time32 = 5

abbrev pub time64 : ℕ
time64 = 6

abbrev pub duration : ℕ
duration = 7

abbrev pub interval : ℕ
interval = 8

abbrev pub binary : ℕ
binary = 9

abbrev pub large_binary : ℕ
large_binary = 10

abbrev pub binary_view : ℕ
binary_view = 11

abbrev pub utf8 : ℕ
utf8 = 12

abbrev pub large_utf8 : ℕ
large_utf8 = 13

abbrev pub utf8_view : ℕ
utf8_view = 14

-- a type as the rules see it: by its number, or with what they ask of it
pub data View : Type 0 where
  named : ℕ → View
  stamp : TimeUnit → Option Zone → View
  decimal : (bits digits : ℕ) (scale : ℤ) → View
  dictionary : View

abbrev pub view : ArrowType → View
view a.Int32 = named int32
view a.Int64 = named int64
view a.Utf8 = named utf8
view a.LargeUtf8 = named large_utf8
view a.Utf8View = named utf8_view
view a.Binary = named binary
view a.LargeBinary = named large_binary
view a.BinaryView = named binary_view
view a.Date32 = named date32
view a.Date64 = named date64
view (a.Time32 u) = named time32
view (a.Time64 u) = named time64
view (a.Timestamp u z) = stamp u z
view (a.Duration u) = named duration
view (a.Interval u) = named interval
view (a.Decimal32 p s) = decimal 32 p s
view (a.Decimal64 p s) = decimal 64 p s
view (a.Decimal128 p s) = decimal 128 p s
view (a.Decimal256 p s) = decimal 256 p s
view (a.Dictionary i) = dictionary
view t = named other

-- The hints that are taken: the leaf's own type, and the hint.
abbrev pub pairs : List (ℕ × ℕ)
pairs =
    (int32, time32) ∷ (int64, time64) ∷ (int64, duration) ∷ (int64, date64) ∷ (date32, date64) ∷ (utf8, large_utf8)
    ∷ (utf8, utf8_view) ∷ (binary, large_binary) ∷ (binary, binary_view) ∷ (binary, utf8) ∷ (binary, large_utf8)
    ∷ (binary, utf8_view) ∷ (interval, interval) ∷ []

abbrev pub has_pair : ℕ → ℕ → List (ℕ × ℕ) → Bool
has_pair p t [] = false
has_pair p t (x ∷ xs) = (p == x.0 && t == x.1) || has_pair p t xs

-- the `==` that units derive
abbrev pub same_unit : TimeUnit → TimeUnit → Bool
same_unit = unit.ghosts.eq

abbrev pub zoneless : Option Zone → Bool
zoneless None = true
zoneless (Some z) = false

-- A time takes a hint of its own unit that has a zone. A time of nanoseconds with no zone whose unit is not fixed, as an
-- INT96 has, takes a hint of any other unit.
abbrev pub takes_stamp : Bool → TimeUnit → Option Zone → TimeUnit → Option Zone → Bool
takes_stamp fixed u z v y =
    (same_unit u v && not (zoneless y)) || (not fixed && same_unit u Nanosecond && zoneless z && not (same_unit v Nanosecond))

-- Whether the type p takes the hint t, both as the rules see them. `fixed`: an annotation says the unit of p.
-- Plain integers take any time. A decimal of 128 bits takes another width at the same scale.
abbrev pub takes : Bool → View → View → Bool
takes fixed (named p) (named t) = has_pair p t pairs
takes fixed (named p) (stamp v y) = p == int32 || p == int64
takes fixed (stamp u z) (stamp v y) = takes_stamp fixed u z v y
takes fixed (decimal b p s) (decimal c q t) = b == 128 && not (c == 128) && int_eq s t
takes fixed p t = false

abbrev pub dictionary_seen : View → Bool
dictionary_seen dictionary = true
dictionary_seen v = false

abbrev pub is_dictionary : ArrowType → Bool
is_dictionary t = dictionary_seen (view t)

-- the type that a hint row tells: a dictionary goes by the number of its row
abbrev pub told : ℕ → HintRow → ArrowType
told i h = cond (is_dictionary h.data_type) (a.Dictionary i) h.data_type

-- what a hint that is no dictionary makes of p; a hint that is not taken counts as absent
abbrev pub plain_hint : Bool → ArrowType → ArrowType → ArrowType
plain_hint fixed p t = cond (takes fixed (view p) (view t)) t p

-- a dictionary is kept where its value type, tried as the hint, gives that same type
abbrev pub kept : List ℕ → ℕ → ArrowType → ArrowType → ArrowType
kept text i value inner = cond (same text inner value) (a.Dictionary i) inner

-- by their sizes, the next row c is the only child of h
abbrev pub only_child : HintRow → HintRow → Bool
only_child h c = nat_le 1 c.size && h.size == c.size + 1

-- a dictionary has the next row as its only child; else its hint counts as absent
abbrev pub with_child : HintRow → List HintRow → (HintRow → ArrowType) → ArrowType → ArrowType
with_child h [] f p = p
with_child h (c ∷ rows) f p = cond (only_child h c) (f c) p

-- What the hint at the row i makes of p, where these rows are the hint's from i on.
abbrev pub hinted : Bool → List ℕ → ArrowType → ℕ → List HintRow → ArrowType
hinted fixed text p i [] = p
hinted fixed text p i (h ∷ rows) =
    cond (is_dictionary h.data_type)
    (with_child h rows (λ c. kept text i (told (i + 1) c) (hinted fixed text p (i + 1) rows)) p)
    (plain_hint fixed p h.data_type)

-- The same in a tree's words: the hint row h at the place i, and the forest below it.

abbrev pub if_alone : Forest HintRow → ArrowType → ArrowType → ArrowType
if_alone bare t p = t
if_alone (plant h below after) t p = p

abbrev pub hinted_by : Bool → List ℕ → ArrowType → ℕ → HintRow → Forest HintRow → ArrowType
hinted_by fixed text p i h bare = cond (is_dictionary h.data_type) p (plain_hint fixed p h.data_type)
hinted_by fixed text p i h (plant c below after) =
    cond (is_dictionary h.data_type)
    (if_alone after (kept text i (told (i + 1) c) (hinted_by fixed text p (i + 1) c below)) p)
    (plain_hint fixed p h.data_type)
