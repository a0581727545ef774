-- Flags that flaggings alone changed.
use Rattle.std.specs.Prelude.{◌≡◌, ℕ, Bool, true, false, ◌&&◌, ◌||◌, List, [], ◌∷◌, length, is_ok, None, Result, MatchResult, ◌==◌, nat_le, slice_set}
use Rattle.schema.specs.declared.refusal.Refusal.{Refusal}
use Rattle.schema.specs.declared.refusal.Refusal.TheVariants as no
use Rattle.schema.specs.Posts.{refusal, first}

-- a flagging: which number, and whether it was accepted
pub record Flagging : Type 0 where
  pub number : ℕ
  pub accepted : Bool

-- the numbers of the accepted flaggings
abbrev pub in_accepted : List Flagging → ℕ → Bool
in_accepted [] n = false
in_accepted (f ∷ h) n = (f.accepted && f.number == n) || in_accepted h n

-- what one flagging answers and leaves
pub record Flag (number : ℕ) (flags : List Bool) (r : Result (Unit {0}) Refusal) (flags' : List Bool) : Type 0 where
  pub answer : refusal r ≡ first (nat_le (length flags) number) no.FlagOutside None
  pub after : MatchResult r (λ _. flags' ≡ slice_set flags number true) (λ _. flags' ≡ flags)

-- which flags a list of flaggings, the latest first, makes of those at the start
pub data Flagged (start : List Bool) : List Flagging → List Bool → Type 0 where
  untouched : Flagged start [] start
  flagged : {h : List Flagging} {flags : List Bool} {number : ℕ} {r : Result (Unit {0}) Refusal} {flags' : List Bool}
      → Flagged start h flags → Flag number flags r flags' → Flagged start (record { number = number; accepted = is_ok r } ∷ h) flags'
