use Rattle.walk.proofs.Hands.{hints_reach}
use Rattle.walk.proofs.laws.hints_reach.Goals as goal

pub returns : goal.returns
returns c = record { law = hints_reach }
