-- The main promise: what an accepted conversion holds, after every history of calls that led to its schema.
use Rattle.std.specs.Prelude.{◌≡◌, ℕ, ◌+◌, ◌<◌, ◌≤◌, Bool, List, map, take, Some, Ok, Err, filter, slice_index_or}
use Rattle.std.specs.List.{AllByRecursion}
use Rattle.tree.specs.Forest.{Forest, Tree, Lists, alone, listing}
use Rattle.tree.specs.Forest.Forest.{bare, plant}
use Rattle.schema.specs.declared.refusal.Refusal.TheVariants as no
use Rattle.schema.specs.Reach.{Reached, SchemaHolds, whole}
use Rattle.schema.specs.Words.{Event, Spelled, spelled}
use Rattle.columns.specs.declared.column.Column.{Column}
use Rattle.columns.specs.declared.record.PathRecord.{PathRecord}
use Rattle.columns.specs.Listing.{Listing, empty_column}
use Rattle.arrow.specs.declared.hint.HintRow.{HintRow}
use Rattle.arrow.specs.declared.row.LeafNumbers.{LeafNumbers}
use Rattle.arrow.specs.declared.row.ResultRow.{ResultRow}
use Rattle.arrow.specs.Kinds.{hint_span, row_span}
use Rattle.walk.specs.Flat.{LevelsRead}
use Rattle.walk.specs.Laws.{kept_leaves}
use Rattle.walk.specs.Levels.{leaf_row_of, row_leaf}
use Rattle.walk.specs.Results.{lines, line_of, plain_row, read_table, shown_row}
use Rattle.walk.specs.Shape.{Shaped}
use Rattle.walk.specs.Walk.{Full, walk_under}
use Rattle.promise.specs.Conversion.{Conversion, Converts, counted, empty_row, kept, leaves}

-- ── The elements spelled, as a tree ──

-- each element stands at its depth
abbrev pub AtDepth : ℕ → Forest Spelled → Type 0
AtDepth d bare = Unit {0}
AtDepth d (plant e below after) = (e.depth ≡ d) × AtDepth (d + 1) below × AtDepth d after

-- the tree of the elements: its preorder, each at its depth. There is one such tree at most.
pub record TreeOf (elements : List Spelled) (t : Tree Spelled) : Type 0 where
  pub lists : listing (alone t) ≡ elements
  pub depths : AtDepth 0 (alone t)

-- ── The rows ──

-- the rows in use, where n is the answer
abbrev pub in_use : Conversion → ℕ → List ResultRow
in_use c n = take n c.rows

abbrev pub result_at : List ResultRow → ℕ → ResultRow
result_at rows q = slice_index_or rows q empty_row

-- a row with its size, Arrow types and metadata aside, its names as bytes
pub record Outline : Type 0 where
  pub size : ℕ
  pub shaped : Shaped

abbrev pub outline : List ℕ → ResultRow → Outline
outline names r = record { size = r.size; shaped = (shown_row names r).shaped }

-- R ≤ D ≤ 64
abbrev pub Low : ResultRow → Type 0
Low r = (r.rep_level ≤ r.def_level) × (r.def_level ≤ 64)

-- the column of a leaf row's number has its element and its levels
pub record ColumnAgrees (row : ResultRow) (n : LeafNumbers) (columns : ℕ) (column : Column) : Type 0 where
  pub within : n.leaf < columns
  pub element : column.element ≡ n.element
  pub rep : column.max_rep_level ≡ row.rep_level
  pub def : column.max_def_level ≡ row.def_level

-- ── Alike conversions ──

-- two selections choose the same of so many leaves
abbrev pub SameChoice : ℕ → (ℕ → Bool) → (ℕ → Bool) → Type 0
SameChoice n one other = (k : ℕ) → k < n → one k ≡ other k

-- the same number of rows, the same flags of leaves, and the same rows, Arrow types and metadata aside
pub record Alike (c d : Conversion) (n m : ℕ) : Type 0 where
  pub counts : n ≡ m
  pub flags : take (leaves c) c.flags ≡ take (leaves d) d.flags
  pub rows : map (outline c.names) (in_use c n) ≡ map (outline d.names) (in_use d m)

-- ── The promise ──

-- What holds of a conversion that answered n rows, after a history h.
pub record Fulfilled (h : List Event) (c : Conversion) (n : ℕ) : Type 0 where
  -- the tree of the elements that the history spelled
  pub tree : Tree Spelled
  pub spells : TreeOf (spelled h).elements tree
  -- the rows are those of the walk over that tree, under the hint that the hint rows list
  pub hints : Forest HintRow
  pub hinted : Lists hint_span hints c.hints
  pub walk : Forest Full
  pub walked : walk_under c.text hints c.chosen tree ≡ Ok walk
  pub rows : map (line_of c.names) (in_use c n) ≡ lines walk
  -- they lie flat, and each tells its true size
  pub flat : (f : Forest ResultRow) × Lists row_span f (in_use c n)
  -- the leaf rows, in order, are those of the leaves spelled that are chosen and below no half-taken map, each with its element number, its
  -- leaf number and the highest levels of its path
  pub leaf_rows : filter row_leaf (map plain_row (in_use c n)) ≡ map leaf_row_of (kept_leaves c.chosen tree)
  -- every accepted listing of the schema has a column with the same element and levels at each leaf row's number
  pub listed : (path : PathRecord) (columns paths m : ℕ) (table : List Column) (numbers : List ℕ) → Listing (kept c) (counted c) path columns paths (Ok m) table numbers
      → (q : ℕ) (k : LeafNumbers) → q < n → (result_at c.rows q).leaf ≡ Some k → ColumnAgrees (result_at c.rows q) k m (slice_index_or table k.leaf empty_column)
  -- on the way of every leaf row each definition level below its highest is read by one row alone, and as what the schema says: absent where the
  -- level's element is optional, no items where it is repeated; and each repetition level is opened by one row alone, that of its repeated element
  pub levels : (q : ℕ) (k : LeafNumbers) → q < n → (result_at c.rows q).leaf ≡ Some k → LevelsRead (counted c) (read_table (in_use c n)) q k.element
  -- R ≤ D ≤ 64 in every row
  pub bounded : AllByRecursion Low (in_use c n)
  -- any other accepted conversion of a schema that spells the same, with the same leaves chosen, is alike, whatever its hints, memory and tables
  pub alike : (g : List Event) (d : Conversion) (m : ℕ) → Converts d → Reached g (whole d.schema) d.elements d.names → d.answer ≡ Ok m
      → (spelled g).elements ≡ (spelled h).elements → SameChoice (leaves c) c.chosen d.chosen → Alike c d n m

-- After every history that led to the schema and its memory: the memory holds what was spelled, 7 is never the answer, and an accepted conversion
-- is as above.
pub record Promised (h : List Event) (c : Conversion) : Type 0 where
  pub holds : SchemaHolds (spelled h) c.schema c.elements c.names
  pub not_seven : c.answer ≡ Err no.Memory → ⊥
  pub accepted : (n : ℕ) → c.answer ≡ Ok n → Fulfilled h c n

abbrev pub Promise : Conversion → Type 0
Promise c = (h : List Event) → Reached h (whole c.schema) c.elements c.names → Promised h c

-- The promise follows from what every conversion does.
abbrev pub PromiseKept : Type 0
PromiseKept = (c : Conversion) → Converts c → Promise c
