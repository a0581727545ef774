use Rattle.std.proofs.Common.{◌≡◌, ℕ, ◌<◌}
use Rattle.selection.specs.Sets.{in_flags}
use Rattle.selection.proofs.choosing.choose.Given as goal

abbrev pub invariant-loop-leaf : goal.invariant-loop-leaf
invariant-loop-leaf g l = (n : ℕ) → n < l.leaf → in_flags l.flag-items n ≡ g.S.Selection.chosen l.selection n
