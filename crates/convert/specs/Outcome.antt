-- What the walk over a part of a schema gives: the first refusal, or the rows, flat.
use Rattle.std.specs.Prelude.{ℕ, suc, Bool, true, false, List, [], ◌∷◌, ◌++◌, length, Ok, Err, Result}
use Rattle.tree.specs.Forest.{Forest}
use Rattle.tree.specs.Forest.Forest.{bare, plant}
use Rattle.schema.specs.declared.refusal.Refusal.{Refusal}
use Rattle.walk.specs.Forests.{relabel}
use Rattle.walk.specs.Labels.{Numbered}
use Rattle.walk.specs.Hints.{Hint}
use Rattle.walk.specs.Reading.{Part, Holder, Read, reading, child_part}
use Rattle.walk.specs.Handing.{wrapped, hands_on, compares_names, hinting}
use Rattle.walk.specs.Faults.{Typing, refusals}
use Rattle.walk.specs.Shape.{shape}
use Rattle.walk.specs.Results.{Line, lines}
use Rattle.walk.specs.Walk.{Full, full_of, unless_refused}
use Rattle.walk.specs.declared.role.Role.{Role}
use Rattle.walk.specs.declared.levels.Levels.{Levels}

-- ── Outcomes ──

abbrev pub Outcome : Type 0
Outcome = Result (List Line) Refusal

-- the first refusal, or else the rows
abbrev pub outcome : Typing → (ℕ → Bool) → Levels → Bool → Forest Read → Outcome
outcome typing chosen v null_above f =
    unless_refused (refusals typing chosen f) (lines (relabel (full_of typing) (shape chosen v null_above f)))

-- one outcome, and then another
abbrev pub followed : Outcome → Outcome → Outcome
followed (Err e) o = Err e
followed (Ok xs) (Err e) = Err e
followed (Ok xs) (Ok ys) = Ok (xs ++ ys)

-- a row round the rows of what is below it, or nothing round nothing
abbrev pub within : Full → Outcome → Outcome
within r (Err e) = Err e
within r (Ok []) = Ok []
within r (Ok (x ∷ xs)) = Ok (record { size = suc (length (x ∷ xs)); row = r } ∷ x ∷ xs)

abbrev pub within_all : List Full → Outcome → Outcome
within_all [] o = o
within_all (r ∷ rs) o = within r (within_all rs o)

-- rows that are given back
abbrev pub kept_if : Bool → Outcome → Outcome
kept_if true o = o
kept_if false (Err e) = Err e
kept_if false (Ok xs) = Ok []

-- what is refused before anything else is looked at
abbrev pub checked : List Refusal → Outcome → Outcome
checked [] o = o
checked (r ∷ rs) o = Err r

-- ── One tree ──

-- What its parent tells of an element: what it is to it, whose field its outermost row stands in, with that field's hint, and its own
-- hint, with whether its name is compared.
pub record Told : Type 0 where
  pub part : Part
  pub holder : Holder
  pub field : Forest Hint
  pub hint : Forest Hint
  pub named : Bool

abbrev pub told_label : Told → Result Role Refusal → Numbered → Read
told_label s role x = record { of = x; role = role; part = s.part; holder = s.holder; given = record { named = s.named; hint = s.hint; field = s.field } }

-- the elements below one, read by its role
abbrev pub told_below : Told → Result Role Refusal → Numbered → Forest Numbered → Forest Read
told_below s role x below =
    hinting (compares_names role) s.field (hands_on role (wrapped s.part x.repetition) s.hint) (reading (child_part role x.name below) s.holder below)

abbrev pub told_tree : Told → Result Role Refusal → Numbered → Forest Numbered → Forest Read
told_tree s role x below = plant (told_label s role x) (told_below s role x below) bare
