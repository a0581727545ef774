use Rattle.std.proofs.Common.{[], refl}
use Rattle.tree.specs.Forest.Forest.{bare}
use Rattle.convert.proofs.complex.root_seat.Goals as goal

pub returns-clause-seats : goal.returns-clause-seats
returns-clause-seats c = λ h l. record {
  hint = c.root_hint.ensures h l;
  name = refl;
  key = refl;
  metadata = refl;
  list = c.list_kind.ensures [] bare refl;
  element = refl;
  unnamed = refl;
}
