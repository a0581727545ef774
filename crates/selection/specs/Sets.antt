-- Sets of leaf numbers: a test on every number.
use Rattle.std.specs.Prelude.{ℕ, Bool, true, false, ◌&&◌, ◌||◌, List, map, nat_lt, slice_index_or}
use Rattle.columns.specs.declared.column.Column.{Column}
use Rattle.selection.specs.declared.choice.Choice.{Choice}
use Rattle.selection.specs.declared.choice.Choice.TheVariants as c

-- the flagged numbers; none past the flags
abbrev pub in_flags : List Bool → ℕ → Bool
in_flags flags n = slice_index_or flags n false

-- the leaves whose root is flagged: each column has its root's flag; none past the columns
abbrev pub in_roots : List Column → List Bool → ℕ → Bool
in_roots columns flags n = in_flags (map (λ c. in_flags flags c.root) columns) n

-- the numbers of either set
abbrev pub union : (ℕ → Bool) → (ℕ → Bool) → ℕ → Bool
union p q n = p n || q n

-- the numbers of both sets
abbrev pub intersection : (ℕ → Bool) → (ℕ → Bool) → ℕ → Bool
intersection p q n = p n && q n

-- the numbers of a set below a bound
abbrev pub below : ℕ → (ℕ → Bool) → ℕ → Bool
below bound p n = nat_lt n bound && p n

-- the set that a program picked
abbrev pub in_choice : Choice → ℕ → Bool
in_choice c.All n = true
in_choice (c.Leaves s) n = in_flags s.0.now n
in_choice (c.Roots s) n = in_roots s.columns.now s.flags.now n
