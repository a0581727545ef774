use Rattle.arrow.proofs.Depths.{Left}
use Rattle.arrow.proofs.hint.+is_shallow.Given as goal

abbrev pub decreases-is_shallow : goal.decreases-is_shallow
decreases-is_shallow l = l.levels

abbrev pub invariant-loop-child : goal.invariant-loop-child
invariant-loop-child l = Left l.rows l.at l.levels l.child-iterator
