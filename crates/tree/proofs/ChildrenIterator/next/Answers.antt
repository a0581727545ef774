use Rattle.std.proofs.Common.{length, ap, sym, ◌∙◌, rules}
use Rattle.tree.proofs.Places.{children_step}
use Rattle.tree.proofs.ChildrenIterator.next.Goals as goal

pub returns-clause-steps : goal.returns-clause-steps
returns-clause-steps g c =
    let s = c.self.inside in
    sym c.self.view_is ∙ children_step g.R.Row.span s.rows.now s.parent s.next c.in_ok-child.child c.next_sibling-self-inside.result c.in_ok-child.was (rw (← c.new.ensures.rows) c.next_sibling-self-inside.ensures.by_size)

pub returns-clause-goes : goal.returns-clause-goes
returns-clause-goes g c =
    let step = ap length (returns-clause-steps g c) in
    search rules
