-- The table of precisions keeps its rule at each entry, and the rule says which digits fit.
use Rattle.std.proofs.Common.{◌≡◌, ℕ, zero, suc, ◌+◌, ◌-◌, ◌^◌, ◌<◌, ◌≤◌, Bool, true, false, ◌&&◌, T, ltb, leb, List, [], ◌∷◌, length, get_or, sym, subst, add-zero, arith, lit<, ltb→lt, leb→le}
use native.Mathlib.Nat.{pow-le-pow_right}
use Rattle.std.proofs.lemmas.Bool.Decides.{nat_tests}
use Rattle.schema.specs.Decimals.{greatest}

-- a test passes at each entry of a table, with the entry's place counted from i
abbrev pub each : (ℕ → ℕ → Bool) → ℕ → List ℕ → Bool
each f i [] = true
each f i (x ∷ xs) = f i x && each f (i + 1) xs

both : (x y : Bool) → T (x && y) → T x × T y
both true y t = (tt, t)
both false y t = absurd t

from_place : (f : ℕ → ℕ → Bool) (xs : List ℕ) (i : ℕ) → T (each f i xs) → (k : ℕ) → k < length xs → T (f (i + k) (get_or xs k 0))
from_place f [] i t k h = absurd (omega (arith, h))
from_place f (x ∷ xs) i t zero h = subst (λ (m : ℕ). T (f m x)) (sym (add-zero i)) (both (f i x) (each f (i + 1) xs) t).0
from_place f (x ∷ xs) i t (suc k) h =
    let e : (i + 1) + k ≡ i + suc k = omega arith in
    subst (λ (m : ℕ). T (f m (get_or xs k 0))) e (from_place f xs (i + 1) (both (f i x) (each f (i + 1) xs) t).1 k (omega (arith, h)))

-- the two tests of an entry x at the place k, for k + 1 bytes: they hold x digits, and not one more
abbrev pub held : ℕ → ℕ → Bool
held k x = leb (10 ^ x) (greatest (k + 1))

abbrev pub most : ℕ → ℕ → Bool
most k x = ltb (greatest (k + 1)) (10 ^ (x + 1))

module _ (xs : List ℕ) (n : ℕ) (h : 0 < n) (k : n ≤ length xs) where
  place : 0 + (n - 1) + 1 ≡ n
  place = omega arith

  pub table_held : T (each held 0 xs) → 10 ^ get_or xs (n - 1) 0 ≤ greatest n
  table_held t =
      subst (λ (m : ℕ). 10 ^ get_or xs (n - 1) 0 ≤ greatest m) place (leb→le _ _ (from_place held xs 0 t (n - 1) (omega arith)))

  pub table_most : T (each most 0 xs) → greatest n < 10 ^ (get_or xs (n - 1) 0 + 1)
  table_most t =
      subst (λ (m : ℕ). greatest m < 10 ^ (get_or xs (n - 1) 0 + 1)) place (ltb→lt _ _ (from_place most xs 0 t (n - 1) (omega arith)))

ten : (i j : ℕ) → i ≤ j → 10 ^ i ≤ 10 ^ j
ten i j h = pow-le-pow_right (lit< tt) h

-- p digits are held just where p is at most the greatest number of digits held
pub by_digits : (p x m : ℕ) → 10 ^ x ≤ m → m < 10 ^ (x + 1) → leb p x ≡ leb (10 ^ p) m
by_digits p x m h k = grind (arith, nat_tests, ten p x, ten (x + 1) p)
