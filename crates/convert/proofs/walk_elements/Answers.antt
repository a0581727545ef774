use Rattle.convert.proofs.Cleared.{walks_fit}
use Rattle.convert.proofs.Uniques.{whole}
use Rattle.convert.proofs.walk_elements.Goals as goal

pub returns-clause-fits : goal.returns-clause-fits
returns-clause-fits c = walks_fit _ c.visit_root.new.rows c.visit_root.result c.visit_root.ensures c.requires.finished (whole c.args.hints.whole)
