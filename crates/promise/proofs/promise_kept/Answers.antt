-- The check does not close the goal when it is only given the lemma, by using(..) on the function.
use Rattle.promise.proofs.Kept.{promise_kept}
use Rattle.promise.proofs.promise_kept.Goals as goal

pub returns : goal.returns
returns c = record { law = promise_kept }
