use Rattle.std.proofs.Common.{true, set, Ok, Err, rules}
use Rattle.schema.specs.declared.refusal.Refusal.TheVariants as no
use Rattle.selection.specs.Flagging.{Flag, flagged}
use Rattle.selection.proofs.Marks.{flagged_holds}
use Rattle.selection.proofs.flagging.flag.Goals as goal

pub returns-then-number-flags-clause-law : goal.returns-then-number-flags-clause-law
returns-then-number-flags-clause-law c start h p n =
    let told : Flag c.args.number c.args.flags.now (Err no.FlagOutside) c.args.flags.now = search rules in
    flagged_holds start n (flagged p told)

pub returns-clause-law : goal.returns-clause-law
returns-clause-law c start h p n =
    let told : Flag c.args.number c.args.flags.now (Ok tt) (set c.args.flags.now c.args.number true) = search rules in
    flagged_holds start n (flagged p told)
