use Rattle.std.proofs.Common.{length, refl}
use Rattle.convert.proofs.Cleared.{step_walk}
use Rattle.convert.proofs.walk_schema.Goals as goal

pub returns-clause-walked : goal.returns-clause-walked
returns-clause-walked g c =
    step_walk c.args.schema.now c.args.elements.now c.args.names.now (g.S.Selection.chosen c.args.selection.now) c.args.hints.rows.now c.args.hints.text.now (length c.args.rows.now) (length c.args.chosen.now)
    c.if-not-check.ensures.told c.in_ok-hints.ensures.2 c.elements-count.result c.elements-count.ensures.count
    c.args.chosen.now c.choose.new.chosen refl c.count_leaves.result c.count_leaves.ensures.count
    c.if-rows-count.false _ c.in_ok-choose.ensures.told c.walk_elements.result c.walk_elements.new.rows (rw (c.in_ok-hints.ensures.0, c.in_ok-hints.ensures.1) at c.walk_elements.ensures.walks)
