use Rattle.std.proofs.Common.{◌-◌, ◌≤◌}
use Rattle.tree.specs.Chain.{Chain}
use Rattle.tree.proofs.FlatTree.leads.Given as goal

abbrev pub invariant-loop-at : goal.invariant-loop-at
invariant-loop-at g l =
    let span = g.R.Row.span in
    let xs = l.self.rows.now in
    (l.at ≤ l.end) × (Chain span xs l.initial.at l.end → Chain span xs l.at l.end) × (Chain span xs l.at l.end → Chain span xs l.initial.at l.end)

abbrev pub decreases-loop-at : goal.decreases-loop-at
decreases-loop-at g l = l.end - l.at
