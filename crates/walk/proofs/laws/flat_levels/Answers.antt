use Rattle.walk.proofs.Tables.{flat_levels, rows_lie_flat}
use Rattle.walk.proofs.laws.flat_levels.Goals as goal

pub returns : goal.returns
returns c = record { law = flat_levels; flat = rows_lie_flat }
