use Rattle.std.proofs.Common.{length, ◌-◌}
use Rattle.arrow.proofs.primitive.+apply_hint.Given as goal

-- the rows that are left
abbrev pub decreases-apply_hint : goal.decreases-apply_hint
decreases-apply_hint l = length l.hints.now.rows.now - l.row
