-- Hints as the code has them: by their rows.
use Rattle.std.specs.Prelude.{◌≡◌, ℕ, ◌+◌, ◌<◌, Bool, true, List, [], ◌∷◌, Some, None, Ok, Err, Option, Result}
use Rattle.std.specs.Str.{bytes_eq}
use Rattle.tree.specs.Forest.{Forest, count, size_at, Lists}
use Rattle.tree.specs.Forest.Forest.{bare, plant}
use Rattle.schema.specs.declared.refusal.Refusal.{Refusal}
use Rattle.arrow.specs.declared.hint.HintRow.{HintRow}
use Rattle.arrow.specs.Kinds.{hint_span}
use Rattle.arrow.specs.Convert.{converted_leaf}
use Rattle.schema.specs.Elements.{part}
use Rattle.walk.specs.Hints.{Hint, hints_of}
use Rattle.walk.specs.Handing.{unwrap}
use Rattle.walk.specs.Faults.{Typing, wrap_checks}
use Rattle.convert.specs.Table.{Lies}

abbrev pub hint_as : List ℕ → ℕ → HintRow → Hint
hint_as text j h = record { row = j; name = part text h.name; type = h.data_type; metadata = h.metadata }

-- the hint of the row, or none
abbrev pub Hinted : List HintRow → List ℕ → Option ℕ → Forest Hint → Type 0
Hinted rows text None hs = hs ≡ bare
Hinted rows text (Some j) hs =
    (h : HintRow) × (below : Forest HintRow) × (next : Forest HintRow) × Lies hint_span rows j (plant h below next)
    × (hs ≡ plant (hint_as text j h) (hints_of text (j + 1) below) bare)

-- the hints that are left of a parent's children, from the row on
abbrev pub HintsLeft : List HintRow → List ℕ → Option ℕ → Option ℕ → Forest Hint → Type 0
HintsLeft rows text p None hs = hs ≡ bare
HintsLeft rows text None (Some j) hs = ⊥
HintsLeft rows text (Some p) (Some j) hs =
    (h : HintRow) × (below : Forest HintRow) × (next : Forest HintRow) × Lies hint_span rows j (plant h below next)
    × (hs ≡ hints_of text j (plant h below next)) × (p < j) × (j + count (plant h below next) ≡ p + size_at hint_span rows p)

-- what the row of a hint says
abbrev pub Sees : List ℕ → Option HintRow → Forest Hint → Type 0
Sees text None hs = hs ≡ bare
Sees text (Some h) hs = (j : ℕ) × (below : Forest Hint) × (hs ≡ plant (hint_as text j h) below bare)

-- the hint inside a list of an element's own, at which nothing is refused, or the refusal
abbrev pub Unwrapped : List HintRow → List ℕ → ℕ → Bool → Forest Hint → Result (Option ℕ) Refusal → Type 0
Unwrapped rows text e w hs (Ok h) = (wrap_checks e w hs ≡ []) × Hinted rows text h (unwrap w hs)
Unwrapped rows text e w hs (Err r) = wrap_checks e w hs ≡ r ∷ []

-- the Arrow type of a leaf under the hint of a row
abbrev pub typing_of : List HintRow → List ℕ → Typing
typing_of rows text l bare = converted_leaf l rows text None
typing_of rows text l (plant h below after) = converted_leaf l rows text (Some h.row)

-- the hint rows are trees as a whole
abbrev pub WholeHints : List HintRow → Type 0
WholeHints rows = (f : Forest HintRow) × Lists hint_span f rows

-- absent, or with this name
abbrev pub named_as : List ℕ → Forest Hint → Bool
named_as name bare = true
named_as name (plant h below after) = bytes_eq h.name name

-- nothing is refused, or the first of what is
abbrev pub Passes : List Refusal → Result (Unit {0}) Refusal → Type 0
Passes es (Ok u) = es ≡ []
Passes es (Err r) = (rest : List Refusal) × (es ≡ r ∷ rest)
