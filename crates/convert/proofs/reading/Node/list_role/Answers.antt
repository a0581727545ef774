use Rattle.std.proofs.Common.{Bool, sym, ap, ◌∙◌, ap₂}
use Rattle.schema.specs.Elements.{element_span}
use Rattle.walk.specs.Labels.{or_required}
use Rattle.walk.specs.Reading.{list_child}
use Rattle.convert.proofs.Trees.{below, read_here}
use Rattle.convert.proofs.Roles.{again, list_several, list_one}
use Rattle.convert.proofs.reading.Node.list_role.Goals as goal

pub returns-then-count_children-ne1 : goal.returns-then-count_children-ne1
returns-then-count_children-ne1 c = λ e b n q text k.
    list_several c.args.self.elements.now c.args.self.at text k (or_required e.repetition) b
    (λ h. c.if-count_children-ne1.true (c.count_children.ensures.trees e b n q ∙ h))

pub returns-then-not-is_repeated : goal.returns-then-not-is_repeated
returns-then-not-is_repeated c = λ e b n q text k.
    let t = c.args.self.elements.now in
    let i = c.args.self.at in
    let first = rw (c.first_child.ensures.elements, c.first_child.ensures.at) at c.is_repeated.ensures in
    list_one t i text k (or_required e.repetition) b (sym (c.count_children.ensures.trees e b n q) ∙ c.if-count_children-ne1.false) (below element_span t i e b n q)
    ∙ ap (λ (x : Bool). list_child i x (again e)) (sym first ∙ c.if-not-is_repeated.true)

pub returns-then-is_repeated : goal.returns-then-is_repeated
returns-then-is_repeated c = λ e b n q text k.
    let t = c.args.self.elements.now in
    let i = c.args.self.at in
    let first = rw (c.first_child.ensures.elements, c.first_child.ensures.at) at c.is_repeated.ensures in
    list_one t i text k (or_required e.repetition) b (sym (c.count_children.ensures.trees e b n q) ∙ c.if-count_children-ne1.false) (below element_span t i e b n q)
    ∙ ap₂ (λ (x y : Bool). list_child i x y) (sym first ∙ c.if-not-is_repeated.false)
    (ap again (sym (read_here t i e b n q)) ∙ sym c.is_repeated-2.ensures ∙ c.if-is_repeated.true)

pub returns : goal.returns
returns c = λ e b n q text k.
    let t = c.args.self.elements.now in
    let i = c.args.self.at in
    let first = rw (c.first_child.ensures.elements, c.first_child.ensures.at) at c.is_repeated.ensures in
    list_one t i text k (or_required e.repetition) b (sym (c.count_children.ensures.trees e b n q) ∙ c.if-count_children-ne1.false) (below element_span t i e b n q)
    ∙ ap₂ (λ (x y : Bool). list_child i x y) (sym first ∙ c.if-not-is_repeated.false)
    (ap again (sym (read_here t i e b n q)) ∙ sym c.is_repeated-2.ensures ∙ c.if-is_repeated.false)
