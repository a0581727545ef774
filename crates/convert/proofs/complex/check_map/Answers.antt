use Rattle.std.proofs.Common.{sym, ◌∙◌}
use Rattle.walk.specs.Hints.{any_map}
use Rattle.convert.proofs.Handing.{map_other}
use Rattle.convert.proofs.complex.check_map.Goals as goal

pub returns-then-not-fits : goal.returns-then-not-fits
returns-then-not-fits c = λ hs p. (_, map_other c.args.at hs (sym (c.fits.ensures c.args.source.hints.text.now hs p any_map (λ x b q. q.1)) ∙ c.if-not-fits.true))
