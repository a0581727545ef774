use Rattle.std.proofs.Common.{◌≡◌, true, drop}
use Rattle.schema.specs.Rows.{sizes_kept}
use Rattle.schema.proofs.rows.keeps_sizes.Given as goal

abbrev pub invariant-loop-i : goal.invariant-loop-i
invariant-loop-i l = sizes_kept (drop l.i l.rows) ≡ true
