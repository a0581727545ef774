use Rattle.walk.proofs.Listed.{leaves_as_listed}
use Rattle.walk.proofs.laws.leaves_as_listed.Goals as goal

pub returns : goal.returns
returns c = record { law = leaves_as_listed }
