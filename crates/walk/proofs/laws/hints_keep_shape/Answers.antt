use Rattle.walk.proofs.Hinted.{hints_keep_shape}
use Rattle.walk.proofs.laws.hints_keep_shape.Goals as goal

pub returns : goal.returns
returns c = record { law = hints_keep_shape }
