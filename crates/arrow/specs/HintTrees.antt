-- Which rows are a hint.
use Rattle.std.specs.Prelude.{◌≡◌, ℕ, zero, suc, ◌<◌, ◌≤◌, Bool, true, false, ◌&&◌, ◌⊎◌, List, [], length, ◌==◌, nat_le, slice_index_or, Some, None, Option}
use Rattle.tree.specs.Forest.{Forest, Tree, alone, Lists, below_at, depth, children}
use Rattle.tree.specs.Forest.Forest.{bare, plant}
use Rattle.schema.specs.Elements.{lies_inside}
use Rattle.arrow.specs.declared.types.Zone.{Zone}
use Rattle.arrow.specs.declared.types.Zone.TheVariants.{Utc, Text}
use Rattle.arrow.specs.declared.types.ArrowType.{ArrowType}
use Rattle.arrow.specs.declared.types.ArrowType.TheVariants as a
use Rattle.arrow.specs.declared.hint.HintRow.{HintRow}
use Rattle.arrow.specs.Kinds.{hint_span}
use Rattle.arrow.specs.Same.{zone_of}

-- how many children a row has
pub data Brood : Type 0 where
  childless : Brood
  single : Brood
  any : Brood

-- lists, maps and dictionaries have one child, structs any number, all others none
abbrev pub brood_of : ArrowType → Brood
brood_of a.List = single
brood_of a.LargeList = single
brood_of a.ListView = single
brood_of a.LargeListView = single
brood_of (a.FixedSizeList n) = single
brood_of a.Struct = any
brood_of (a.Map s) = single
brood_of (a.Dictionary i) = single
brood_of t = childless

abbrev pub brood_kept : Brood → ℕ → Bool
brood_kept childless k = k == 0
brood_kept single k = k == 1
brood_kept any k = true

-- a hint's zone, if it has one, is a place of at least one byte
abbrev pub zone_inside : ℕ → Option Zone → Bool
zone_inside n None = true
zone_inside n (Some Utc) = false
zone_inside n (Some (Text p)) = nat_le 1 p.length && lies_inside n p

-- a row with k children, beside a text of n bytes
abbrev pub hint_kept : ℕ → HintRow → ℕ → Bool
hint_kept n h k = lies_inside n h.name && (zone_inside n (zone_of h.data_type) && brood_kept (brood_of h.data_type) k)

-- an empty row, and what is read past the last row of a table
abbrev pub empty_hint : HintRow
empty_hint = record { name = record { start = 0; length = 0 }; data_type = a.Null; nullable = false; metadata = 0; size = 0 }

-- every row of the forest that the rows list
abbrev pub HintsKept : ℕ → Forest HintRow → List HintRow → Type 0
HintsKept n f rows = (i : ℕ) → i < length rows → hint_kept n (slice_index_or rows i empty_hint) (length (children f i)) ≡ true

-- the rows list a tree that goes down to depth 128 at most, the root at 0, and every row is kept
pub record HintTree (n : ℕ) (t : Tree HintRow) (rows : List HintRow) : Type 0 where
  pub lists : Lists hint_span (alone t) rows
  pub few : length rows ≤ 4096
  pub deepest : (i : ℕ) → i < length rows → depth (alone t) i ≤ 128
  pub kept : HintsKept n (alone t) rows

-- The rows are a hint beside a text of n bytes, or there is no hint.
abbrev pub IsHint : ℕ → List HintRow → Type 0
IsHint n rows = (rows ≡ []) ⊎ ((t : Tree HintRow) × HintTree n t rows)

-- For the walk down.

-- the forest has at most d rows one above another
abbrev pub shallow : ℕ → Forest HintRow → Bool
shallow d bare = true
shallow zero (plant h below after) = false
shallow (suc d) (plant h below after) = shallow d below && shallow (suc d) after

-- the row at a place, and the forest below it
abbrev pub tree_at : Forest HintRow → List HintRow → ℕ → Forest HintRow
tree_at f rows i = plant (slice_index_or rows i empty_hint) (below_at f i) bare
