use Rattle.std.proofs.Common.{rules}
use Rattle.std.proofs.lemmas.Bool.Decides.{Decides-at}
use Rattle.arrow.specs.Same.{same}
use Rattle.arrow.proofs.Meanings.{same_decides}
use Rattle.arrow.proofs.same.same_type.Goals as goal

pub returns-then-eq-clause-means : goal.returns-then-eq-clause-means
returns-then-eq-clause-means c =
    Decides-at c.same_zone.result (same c.args.text.now c.args.a c.args.b) (search rules) (same_decides c.args.text.now c.args.a c.args.b)
