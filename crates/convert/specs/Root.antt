-- What the walk from the root answers and writes.
use Rattle.std.specs.Prelude.{◌≡◌, ℕ, ◌≤◌, false, List, map, length, take, Ok, Err, Result}
use Rattle.tree.specs.Forest.{Forest, Lists, count}
use Rattle.tree.specs.Forest.Forest.{bare}
use Rattle.schema.specs.declared.refusal.Refusal.{Refusal}
use Rattle.schema.specs.Rows.{IsFinished}
use Rattle.arrow.specs.declared.hint.HintRow.{HintRow}
use Rattle.arrow.specs.declared.row.ResultRow.{ResultRow}
use Rattle.arrow.specs.Kinds.{hint_span}
use Rattle.selection.specs.Sets.{in_flags}
use Rattle.walk.specs.Hints.{Hint, sole}
use Rattle.walk.specs.Labels.{shown_tree}
use Rattle.walk.specs.Reading.{nobody}
use Rattle.walk.specs.Reading.Part.{as_root}
use Rattle.walk.specs.Results.{line_of, lines}
use Rattle.walk.specs.Walk.{Full, walk_under}
use Rattle.convert.specs.Outcome.{Told}
use Rattle.convert.specs.Visit.{Input}

-- the root stands in no field, and the first hint is its own
abbrev pub root_told : Forest Hint → Told
root_told hints = record { part = as_root; holder = nobody; field = bare; hint = sole hints; named = false }

-- the rows of the walk stand at the front of the table, and their number is the answer; or its refusal is
abbrev pub Front : List ℕ → Result (Forest Full) Refusal → List ResultRow → Result ℕ Refusal → Type 0
Front names (Ok f) after r = (r ≡ Ok (count f)) × (count f ≤ length after) × (map (line_of names) (take (count f) after) ≡ lines f)
Front names (Err e) after r = r ≡ Err e

-- the whole schema was walked
abbrev pub Walks : Input → List ResultRow → Result ℕ Refusal → Type 0
Walks s after r =
    (bytes : ℕ) (tree : IsFinished bytes s.elements) (h : Forest HintRow) → Lists hint_span h s.hints
    → Front s.names (walk_under s.text h (in_flags s.flags) (shown_tree s.names tree.0)) after r
