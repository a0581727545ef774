use Rattle.schema.proofs.Powers.{by_digits}
use Rattle.schema.proofs.decimal.held_by.Goals as goal

pub returns : goal.returns
returns c = by_digits _ _ _ c.max_precision.ensures.held c.max_precision.ensures.most
