use Rattle.std.proofs.Common.{ℕ, true, false, [], sym, ap, ◌∙◌}
use Rattle.walk.specs.Forests.{trees}
use Rattle.walk.specs.Hints.{has_children, any_struct}
use Rattle.convert.proofs.Handing.{struct_other, struct_by}
use Rattle.convert.proofs.complex.check_struct.Goals as goal

pub returns-then-not-fits : goal.returns-then-not-fits
returns-then-not-fits c = λ e b n q hs p.
    (_, struct_other c.args.group.at (trees b) hs (sym (c.fits.ensures c.args.hints.text.now hs p any_struct (λ x b q. q.1)) ∙ c.if-not-fits.true))

pub returns-then-not-has_children : goal.returns-then-not-has_children
returns-then-not-has_children c = λ e b n q hs p. (
  [],
  struct_by c.args.group.at (trees b) hs (sym (c.fits.ensures c.args.hints.text.now hs p any_struct (λ x b q. q.1)) ∙ c.if-not-fits.false) false
      (ap (λ (m : ℕ). has_children m hs) (sym (c.count_children.ensures.trees e b n q)) ∙ sym (c.has_children.ensures c.args.hints.text.now hs p) ∙ c.if-not-has_children.true),
)

pub returns : goal.returns
returns c = λ e b n q hs p.
    struct_by c.args.group.at (trees b) hs (sym (c.fits.ensures c.args.hints.text.now hs p any_struct (λ x b q. q.1)) ∙ c.if-not-fits.false) true
    (ap (λ (m : ℕ). has_children m hs) (sym (c.count_children.ensures.trees e b n q)) ∙ sym (c.has_children.ensures c.args.hints.text.now hs p) ∙ c.if-not-has_children.false)
