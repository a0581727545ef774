use Rattle.std.proofs.Common.{◌≡◌, ℕ, ◌+◌, ◌-◌, ◌<◌, ◌≤◌, true, eqb, length, get_or, drop, sym, ap, ◌∙◌, arith}
use Rattle.std.proofs.lemmas.Bool.{ne_eqb}
use Rattle.schema.specs.Elements.{empty}
use Rattle.schema.specs.Rows.{sizes_kept, deeper, depths_of}
use Rattle.schema.proofs.Steps.{known_from_kept, sizes_wrong, sizes_step}
use Rattle.schema.proofs.rows.keeps_sizes.Goals as goal

pub end_of_subtree-requires-clause-known : goal.end_of_subtree-requires-clause-known
end_of_subtree-requires-clause-known c =
    let n : (c.loop-i.i - 1) + 1 ≡ c.loop-i.i = omega (arith, c.loop-i-test.true) in
    known_from_kept (drop ((c.loop-i.i - 1) + 1) c.args.rows.now) (ap (λ m. sizes_kept (drop m c.args.rows.now)) n ∙ c.loop-i.invariant)

-- the test at the row before, by what its size should be
tested : (xs : _) (i end : ℕ) → 0 < i → i ≤ length xs → sizes_kept (drop i xs) ≡ true → end ≡ (i - 1 + 1) + deeper (get_or xs (i - 1) empty).depth (depths_of (drop (i - 1 + 1) xs))
    → sizes_kept (drop (i - 1) xs) ≡ eqb (get_or xs (i - 1) empty).size (end - (i - 1))
tested xs i end h l k e =
    let n : i ≡ i - 1 + 1 = omega (arith, h) in
    sizes_step (i - 1) xs (omega (arith, h, l)) (ap (λ m. sizes_kept (drop m xs)) (sym n) ∙ k)
    ∙ ap (eqb (get_or xs (i - 1) empty).size) (omega (arith, e))

pub returns-then-rows-i : goal.returns-then-rows-i
returns-then-rows-i c =
    let t = tested c.args.rows.now c.loop-i.i c.end_of_subtree.result c.loop-i-test.true c.loop-i.auto.i c.loop-i.invariant c.end_of_subtree.ensures in
    sym (sizes_wrong (c.loop-i.i - 1) c.args.rows.now (t ∙ ne_eqb _ _ c.if-rows-i.true))
