use Rattle.walk.proofs.Hands.{fields_told}
use Rattle.walk.proofs.laws.fields_told.Goals as goal

pub returns : goal.returns
returns c = record { law = fields_told }
