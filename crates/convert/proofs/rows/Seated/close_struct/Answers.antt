use Rattle.std.proofs.Common.{sym, ◌∙◌}
use Rattle.convert.proofs.Leaves.{struct_alone}
use Rattle.convert.proofs.rows.Seated.close_struct.Goals as goal

pub returns : goal.returns
returns c = λ bytes names hs p o next before l w.
    struct_alone names c.args.self.seat hs c.args.self.element c.args.levels c.own_row-row.result (c.own_row-row.ensures bytes hs p) c.args.start o next before c.args.rows.now
    c.close-2.new.rows c.args.cursor c.close-2.result (sym c.is_repeated.ensures ∙ c.if-is_repeated.false) l c.close-2.ensures.wrote w
