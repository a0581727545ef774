use Rattle.walk.proofs.Numbers.{numbered_in_order}
use Rattle.walk.proofs.laws.numbered_in_order.Goals as goal

pub returns : goal.returns
returns c = record { law = numbered_in_order }
