use Rattle.walk.proofs.Uniques.{same_schema}
use Rattle.walk.proofs.laws.same_schema.Goals as goal

pub returns : goal.returns
returns c = record { law = same_schema }
