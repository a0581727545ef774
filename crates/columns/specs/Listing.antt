-- What a listing answers and leaves.
use Rattle.std.specs.Prelude.{◌≡◌, ℕ, ◌+◌, ◌-◌, ◌<◌, ◌≤◌, Bool, true, not, ◌||◌, List, [], ◌∷◌, ◌++◌, length, take, replicate, IfOk, None, Ok, Err, Option, Result, ◌==◌, nat_lt}
use Rattle.std.specs.List.{flat_map}
use Rattle.schema.specs.declared.draft.Schema.{Schema}
use Rattle.schema.specs.declared.element.Element.{Element}
use Rattle.schema.specs.declared.refusal.Refusal.{Refusal}
use Rattle.schema.specs.declared.refusal.Refusal.TheVariants as no
use Rattle.schema.specs.Posts.{first, refusal}
use Rattle.schema.specs.Reach.{SchemaHolds}
use Rattle.schema.specs.Words.{Event, spelled}
use Rattle.columns.specs.declared.column.Column.{Column}
use Rattle.columns.specs.declared.record.PathRecord.{PathRecord}
use Rattle.columns.specs.Levels.{path_of, rep_level, def_level, repeated_def_level, root_of, leaves_of}

-- the path walked so far, as the record holds it
abbrev pub walked_path : PathRecord → List ℕ
walked_path w = take w.len w.numbers

-- the record is as it was: it holds the same path
pub record Restored (was is : PathRecord) : Type 0 where
  pub len : is.len ≡ was.len
  pub path : walked_path is ≡ walked_path was

abbrev pub empty_column : Column
empty_column = record { element = 0; max_rep_level = 0; max_def_level = 0; repeated_def_level = 0; root = 0; path = record { start = 0; length = 0 } }

-- the column of a leaf whose path numbers start at a place
abbrev pub column_of : List Element → ℕ → ℕ → Column
column_of rows start e = record {
  element = e;
  max_rep_level = rep_level rows (path_of rows e);
  max_def_level = def_level rows (path_of rows e);
  repeated_def_level = repeated_def_level rows (path_of rows e);
  root = root_of rows (path_of rows e);
  path = record { start = start; length = length (path_of rows e) };
}

-- the columns of leaves, their paths one after the other
abbrev pub columns_from : List Element → ℕ → List ℕ → List Column
columns_from rows start [] = []
columns_from rows start (e ∷ es) = column_of rows start e ∷ columns_from rows (start + length (path_of rows e)) es

-- the path numbers of leaves, path after path
abbrev pub path_numbers : List Element → List ℕ → List ℕ
path_numbers rows es = flat_map (path_of rows) es

-- a table of so many places: what is used, and blanks past it; blanks throughout where refused
abbrev pub filled : {X Y E : Type 0} → Result Y E → List X → ℕ → X → List X
filled (Ok y) used room x = used ++ replicate (room - length used) x
filled (Err e) used room x = replicate room x

-- list: 7, 9, 23

abbrev pub list_refusal : Bool → List Element → PathRecord → ℕ → ℕ → Option Refusal
list_refusal kept rows walked columns paths =
    first (not kept) no.Memory
    (first (nat_lt columns (length (leaves_of rows)) || not (walked.len == 0)) no.Table
    (first (nat_lt paths (length (path_numbers rows (leaves_of rows)))) no.PathNumbersFull None))

-- Accepted, it answers the leaf count, and the tables hold just the leaves in order; past them rows are empty and numbers
-- 0. Refused, they are so throughout.
pub record Listing (kept : Bool) (rows : List Element) (walked : PathRecord) (columns paths : ℕ) (r : Result ℕ Refusal) (columns' : List Column) (paths' : List ℕ) : Type 0 where
  pub answer : refusal r ≡ list_refusal kept rows walked columns paths
  pub count : IfOk r (λ n. n ≡ length (leaves_of rows))
  pub table : columns' ≡ filled r (columns_from rows 0 (leaves_of rows)) columns empty_column
  pub numbers : paths' ≡ filled r (path_numbers rows (leaves_of rows)) paths 0

-- the levels of the format, for every element of an accepted listing's schema
abbrev pub LevelsBounded : List Element → Result ℕ Refusal → Type 0
LevelsBounded rows (Ok n) = (e : ℕ) → e < length rows → (rep_level rows (path_of rows e) ≤ def_level rows (path_of rows e)) × (def_level rows (path_of rows e) ≤ 64)
LevelsBounded rows (Err e) = Unit {0}

-- what a listing comes to after any history of calls: the memory holds what was spelled, and it is never refused by 7
pub record ListLaw (h : List Event) (s : Schema) (els : List Element) (ns : List ℕ) (walked : PathRecord) (columns paths : ℕ) (r : Result ℕ Refusal) : Type 0 where
  pub holds : SchemaHolds (spelled h) s els ns
  pub answer : refusal r ≡ list_refusal true (take s.count els) walked columns paths
