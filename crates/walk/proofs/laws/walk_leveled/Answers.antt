use Rattle.walk.proofs.Hinted.{walk_leveled}
use Rattle.walk.proofs.laws.walk_leveled.Goals as goal

pub returns : goal.returns
returns c = record { law = walk_leveled }
