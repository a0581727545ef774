-- The answers of a selection, kept in flags.
use Rattle.std.specs.Prelude.{◌≡◌, ℕ, Bool, false, List, length, None, Result, MatchResult, nat_lt}
use Rattle.schema.specs.declared.refusal.Refusal.{Refusal}
use Rattle.schema.specs.declared.refusal.Refusal.TheVariants as no
use Rattle.schema.specs.Posts.{refusal, first}
use Rattle.selection.specs.Sets.{in_flags, below}

-- what choosing answers and leaves: as many flags as before, which hold the set's numbers below the leaves; none where it
-- is refused
pub record Chosen (set : ℕ → Bool) (leaves : ℕ) (flags : List Bool) (r : Result (Unit {0}) Refusal) (flags' : List Bool) : Type 0 where
  pub answer : refusal r ≡ first (nat_lt (length flags) leaves) no.Table None
  pub count : length flags' ≡ length flags
  pub after : MatchResult r (λ _. (n : ℕ) → in_flags flags' n ≡ below leaves set n) (λ _. (n : ℕ) → in_flags flags' n ≡ false)
