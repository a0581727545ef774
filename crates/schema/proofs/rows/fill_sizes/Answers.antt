use Rattle.std.proofs.Common.{◌≡◌, ◌+◌, ◌-◌, drop, sym, ap, ◌∙◌, subst, arith}
use Rattle.schema.proofs.Steps.{Known, done_from, done_known, fill_more}
use Rattle.schema.proofs.rows.fill_sizes.Goals as goal

pub end_of_subtree-requires-clause-known : goal.end_of_subtree-requires-clause-known
end_of_subtree-requires-clause-known c =
    let n : (c.loop-i.i - 1) + 1 ≡ c.loop-i.i = omega (arith, c.loop-i-test.true) in
    subst (λ m. Known (drop m c.loop-i.rows)) (sym n) (done_known c.loop-i.i c.args.rows.now c.loop-i.rows c.loop-i.auto.i c.loop-i.invariant)

pub loop-i-preserved : goal.loop-i-preserved
loop-i-preserved c =
    let n : c.loop-i.i ≡ (c.loop-i.i - 1) + 1 = omega (arith, c.loop-i-test.true) in
    fill_more (c.loop-i.i - 1) c.args.rows.now c.loop-i.rows (omega (arith, c.loop-i-test.true, c.loop-i.auto.i))
    (c.loop-i.invariant ∙ ap (λ m. done_from m c.args.rows.now) n) _ (omega (arith, c.end_of_subtree.ensures))
