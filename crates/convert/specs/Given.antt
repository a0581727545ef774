-- What is kept of an Arrow schema that is given as a hint.
use Rattle.std.specs.Prelude.{◌≡◌, ℕ, List, length, Result, MatchResult}
use Rattle.schema.specs.declared.refusal.Refusal.{Refusal}
use Rattle.schema.specs.declared.refusal.Refusal.TheVariants as no
use Rattle.arrow.specs.declared.hint.HintRow.{HintRow}
use Rattle.arrow.specs.HintTrees.{IsHint}
use Rattle.convert.specs.declared.hints.Hints.{Hints}

-- rows and text as they are given, which are a hint, or the refusal of what is none
abbrev pub Given : List HintRow → List ℕ → Result Hints Refusal → Type 0
Given rows text r =
    MatchResult r (λ h. (h.rows.now ≡ rows) × (h.text.now ≡ text) × IsHint (length text) rows) (λ e. (e ≡ no.Hint) × (IsHint (length text) rows → ⊥))
