-- The rows around a row, itself and those above it: told by the sizes of the table, and told by the tree.
use Rattle.std.specs.Prelude.{ℕ, zero, suc, ◌+◌, ◌-◌, Bool, cond, ◌&&◌, List, [], ◌∷◌, filter, nat_le, nat_lt}
use Rattle.std.specs.List.{range_with_len}
use Rattle.tree.specs.Forest.{Forest, count, size_at}
use Rattle.tree.specs.Forest.Forest.{bare, plant}

-- whether the stretch of the row at i, which is as long as its size, holds the place e
abbrev pub holds_place : {A : Type 0} → (A → ℕ) → List A → ℕ → ℕ → Bool
holds_place span rows i e = nat_le i e && nat_lt e (i + size_at span rows i)

-- The places up to e, rising, whose stretch holds e.
abbrev pub around : {A : Type 0} → (A → ℕ) → List A → ℕ → List ℕ
around span rows e = filter (λ i. holds_place span rows i e) (range_with_len 0 (suc e))

-- The places from a root down to the row at e, where the forest's rows begin at the place p.
abbrev pub line_from : {A : Type 0} → ℕ → Forest A → ℕ → List ℕ
line_from p bare e = []
line_from p (plant a below after) zero = p ∷ []
line_from p (plant a below after) (suc e) = cond (nat_lt e (count below)) (p ∷ line_from (p + 1) below e) (line_from (p + suc (count below)) after (e - count below))

-- The places from the root of e's tree down to e itself.
abbrev pub line : {A : Type 0} → Forest A → ℕ → List ℕ
line f e = line_from 0 f e
