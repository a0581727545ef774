use Rattle.std.proofs.Common.{rules}
use Rattle.convert.proofs.Handing.{children_by}
use Rattle.convert.proofs.Uniques.{whole}
use Rattle.convert.proofs.hints.Hints.has_children.Goals as goal

pub returns : goal.returns
returns c = λ bytes hs p.
    let w = whole c.args.self.whole in
    children_by c.args.self.rows.now bytes c.args.count c.args.hint hs p w.0 w.1 c.is_none_or.result (search rules)
