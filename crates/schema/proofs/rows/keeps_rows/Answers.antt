use Rattle.std.proofs.Common.{◌≡◌, true, false, rules}
use borrow.Author.Tests.{tests}
use Rattle.std.proofs.lemmas.Iterator.{cases_from_all, YieldsList-from_slice, YieldsList-from_zip}
use Rattle.schema.specs.Rows.{next_kept}
use Rattle.schema.proofs.Steps.{rows_from_pairs}
use Rattle.schema.proofs.rows.keeps_rows.Goals as goal

pub returns-then-keeps_root : goal.returns-then-keeps_root
returns-then-keeps_root c =
    rows_from_pairs c.args.bytes c.args.rows.now c.in-Some.rest.now c.in-Some.root.now c.all.result (search rules) c.if-rows-le-MOST.true c.if-keeps_root.ensures
    (cases_from_all c.all.new.self _ _ (λ p. next_kept c.args.bytes p.0 p.1 ≡ true) (λ p. next_kept c.args.bytes p.0 p.1 ≡ false) c.all.ensures.ran
    (YieldsList-from_zip (YieldsList-from_slice c.args.rows.now cc) (YieldsList-from_slice c.in-Some.rest.now cc)) (λ x q k. search (rules, tests)) (λ x q k. search (rules, tests)))
