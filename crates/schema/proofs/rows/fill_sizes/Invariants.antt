use Rattle.std.proofs.Common.{◌≡◌, ◌++◌, take, drop}
use Rattle.schema.specs.Rows.{sized}
use Rattle.schema.proofs.rows.fill_sizes.Given as goal

abbrev pub invariant-loop-i : goal.invariant-loop-i
invariant-loop-i l = l.rows ≡ take l.i l.initial.rows ++ sized (drop l.i l.initial.rows)
