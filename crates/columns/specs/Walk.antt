-- What the walk of a listing keeps from step to step: the path record holds the path, the levels are that path's, and
-- the tables have room for the leaves to come.
use Rattle.std.specs.Prelude.{◌≡◌, ℕ, ◌+◌, ◌-◌, ◌<◌, ◌≤◌, Bool, List, [], ◌∷◌, ◌++◌, length, take, Some, None, Ok, Err, Option, Result, MatchResult}
use Rattle.tree.specs.Forest.{size_at}
use Rattle.schema.specs.declared.element.Element.{Element}
use Rattle.schema.specs.declared.refusal.Refusal.{Refusal}
use Rattle.schema.specs.declared.refusal.Refusal.TheVariants as no
use Rattle.schema.specs.Elements.{element_span}
use Rattle.schema.specs.Posts.{refusal}
use Rattle.schema.specs.Rows.{IsFinished}
use Rattle.columns.specs.declared.column.Column.{Column}
use Rattle.columns.specs.declared.record.PathRecord.{PathRecord}
use Rattle.columns.specs.declared.leaves.Done.{Done}
use Rattle.columns.specs.declared.leaves.Levels.{Levels}
use Rattle.columns.specs.Levels.{rep_level, def_level, repeated_def_level, leaves_in, leaves_of}
use Rattle.columns.specs.Listing.{walked_path, columns_from, path_numbers, list_refusal}

-- the levels are those of a path
pub record LevelsOf (rows : List Element) (is : List ℕ) (l : Levels) : Type 0 where
  pub repetition : l.repetition ≡ rep_level rows is
  pub definition : l.definition ≡ def_level rows is
  pub repeated : l.repeated ≡ repeated_def_level rows is

-- a walk at a path, with the leaves es to come
pub record Walking (rows : List Element) (w : PathRecord) (l : Levels) (columns : List Column) (paths : List ℕ) (done : Done) (is es : List ℕ) : Type 0 where
  pub finished : (bytes : ℕ) × IsFinished bytes rows
  pub path : walked_path w ≡ is
  pub long : w.len ≡ length is
  pub levels : LevelsOf rows is l
  pub room : done.columns + length es ≤ length columns
  pub numbers : done.numbers ≤ length paths

-- the leaves of an element's stretch, and those below it
abbrev pub leaves_at : List Element → ℕ → List ℕ
leaves_at rows e = leaves_in rows e (size_at element_span rows e)

abbrev pub leaves_below : List Element → ℕ → List ℕ
leaves_below rows e = leaves_in rows (e + 1) (size_at element_span rows e - 1)

-- the leaves es were written past what was done, or their path numbers do not fit
abbrev pub Wrote : List Element → List ℕ → Done → List Column → List ℕ → List Column → List ℕ → Result Done Refusal → Type 0
Wrote rows es done columns paths columns' paths' (Ok d) =
    (d.columns ≡ done.columns + length es) × (d.numbers ≡ done.numbers + length (path_numbers rows es)) × (d.numbers ≤ length paths)
    × (take d.columns columns' ≡ take done.columns columns ++ columns_from rows done.numbers es)
    × (take d.numbers paths' ≡ take done.numbers paths ++ path_numbers rows es)
Wrote rows es done columns paths columns' paths' (Err e) = (e ≡ no.PathNumbersFull) × (length paths < done.numbers + length (path_numbers rows es))

-- the next place to be walked below a parent: its next child, or its end
abbrev pub place_of : List Element → ℕ → Option ℕ → ℕ
place_of rows p None = p + size_at element_span rows p
place_of rows p (Some c) = c

-- the column of a leaf at a path was appended with the path, or the path does not fit
abbrev pub Appended : List ℕ → ℕ → ℕ → Levels → ℕ → Done → List Column → List ℕ → List Column → List ℕ → Result Done Refusal → Type 0
Appended is n leaf levels root done columns paths columns' paths' (Ok d) =
    (d.columns ≡ done.columns + 1) × (d.numbers ≡ done.numbers + n) × (d.numbers ≤ length paths)
    × (take d.columns columns' ≡ take done.columns columns
    ++ record { element = leaf; max_rep_level = levels.repetition; max_def_level = levels.definition; repeated_def_level = levels.repeated; root = root; path = record { start = done.numbers; length = n } } ∷ [])
    × (take d.numbers paths' ≡ take done.numbers paths ++ is)
Appended is n leaf levels root done columns paths columns' paths' (Err e) = (e ≡ no.PathNumbersFull) × (length paths < done.numbers + n)

-- what the whole walk comes to, before the tables are cleared past what is used
pub record Walked (kept : Bool) (rows : List Element) (w : PathRecord) (columns : List Column) (paths : List ℕ) (r : Result Done Refusal) (columns' : List Column) (paths' : List ℕ) : Type 0 where
  pub answer : refusal r ≡ list_refusal kept rows w (length columns) (length paths)
  pub wrote : MatchResult r
      (λ d. (d.columns ≡ length (leaves_of rows)) × (d.numbers ≡ length (path_numbers rows (leaves_of rows))) × (d.columns ≤ length columns) × (d.numbers ≤ length paths)
      × (take d.columns columns' ≡ columns_from rows 0 (leaves_of rows)) × (take d.numbers paths' ≡ path_numbers rows (leaves_of rows)))
      (λ _. Unit {0})
