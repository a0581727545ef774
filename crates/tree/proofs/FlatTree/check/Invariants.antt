use Rattle.tree.specs.Chain.{Linked}
use Rattle.tree.proofs.FlatTree.check.Given as goal

abbrev pub invariant-loop-i : goal.invariant-loop-i
invariant-loop-i g l = Linked g.R.Row.span l.self.rows.now l.i
