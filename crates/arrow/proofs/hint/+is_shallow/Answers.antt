use Rattle.std.proofs.Common.{List, sym, subst, arith}
use Rattle.tree.specs.Forest.{Lists}
use Rattle.arrow.specs.declared.hint.HintRow.{HintRow}
use Rattle.arrow.specs.Kinds.{hint_span}
use Rattle.arrow.proofs.Depths.{passes_alone}
use Rattle.arrow.proofs.hint.+is_shallow.Goals as goal

pub loop-child-preserved-then-is_none : goal.loop-child-preserved-then-is_none
loop-child-preserved-then-is_none t c =
    passes_alone c.args.rows.now c.args.at c.args.levels c.in-Some.child _ _ c.loop-child.invariant c.in-Some.ensures.steps (omega (arith, c.if-levels-eq0.false, c.if-levels-eq1.false)) c.first_child.result c.if-is_none.ensures (λ f l. c.first_child.ensures.in_tree f (subst (λ (xs : List HintRow). Lists hint_span f xs) (sym c.new-tree.ensures.rows) l))
