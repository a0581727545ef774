use Rattle.std.proofs.Common.{◌≡◌, ◌+◌, ◌-◌, ◌≤◌, length, get_or, drop, subst, arith, rules}
use Rattle.std.proofs.lemmas.List.{drop-drop}
use Rattle.schema.specs.Elements.{empty}
use Rattle.schema.proofs.Steps.{Known, known_drop, size_known, size_fits, jump}
use Rattle.schema.proofs.rows.end_of_subtree.Goals as goal

known_at : (c : goal.Then-rows-end) → Known (drop c.loop-end.end c.args.rows.now)
known_at c =
    let n : (c.args.at + 1) + (c.loop-end.end - (c.args.at + 1)) ≡ c.loop-end.end = omega (arith, c.loop-end.invariant.0) in
    subst (λ m. Known (drop m c.args.rows.now)) n
    (subst Known (drop-drop (c.loop-end.end - (c.args.at + 1)) (c.args.at + 1) c.args.rows.now) (known_drop (c.loop-end.end - (c.args.at + 1)) (drop (c.args.at + 1) c.args.rows.now) c.requires.known))

fits_at : (c : goal.Then-rows-end) → c.loop-end.end + (get_or c.args.rows.now c.loop-end.end empty).size ≤ length c.args.rows.now
fits_at c = size_fits c.args.rows.now c.loop-end.end 0 c.loop-end-test.true (known_at c)

pub loop-end-preserved : goal.loop-end-preserved
loop-end-preserved c =
    let j = jump c.args.rows.now c.loop-end.end _ c.loop-end-test.true (known_at c) c.if-rows-end.true in
    (omega (arith, c.loop-end.invariant.0), fits_at c, omega (arith, c.loop-end.invariant.2, j))

pub loop-end-smaller : goal.loop-end-smaller
loop-end-smaller c =
    let s = size_known c.args.rows.now c.loop-end.end 0 c.loop-end-test.true (known_at c) in
    omega (arith, s, c.loop-end-test.true)

pub overflow_add-end-in-loop-end : goal.overflow_add-end-in-loop-end
overflow_add-end-in-loop-end c = let h = fits_at c in search rules
