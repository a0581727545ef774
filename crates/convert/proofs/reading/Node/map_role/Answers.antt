use Rattle.std.proofs.Common.{◌+◌, Bool, not, ◌&&◌, sym, ap, ◌∙◌, ap₂}
use Rattle.schema.specs.declared.element.Element.{Element}
use Rattle.schema.specs.declared.element.Kind.{Kind}
use Rattle.schema.specs.Elements.{element_span}
use Rattle.walk.specs.Labels.{is_leaf, or_required}
use Rattle.convert.specs.Table.{element_at}
use Rattle.convert.proofs.Trees.{below, read_here}
use Rattle.convert.proofs.Roles.{again, map_several, map_other, map_one}
use Rattle.convert.proofs.reading.Node.map_role.Goals as goal

pub returns-then-count_children-ne1 : goal.returns-then-count_children-ne1
returns-then-count_children-ne1 c = λ e b n q text k.
    let t = c.args.self.elements.now in
    map_several t c.args.self.at text k (or_required e.repetition) (ap again (sym (read_here t c.args.self.at e b n q)) ∙ sym c.is_repeated.ensures ∙ c.if-is_repeated.false) b
    (λ h. c.if-count_children-ne1.true (c.count_children.ensures.trees e b n q ∙ h))

pub returns-then-not-is_repeated : goal.returns-then-not-is_repeated
returns-then-not-is_repeated c = λ e b n q text k.
    let t = c.args.self.elements.now in
    let i = c.args.self.at in
    map_other t i text k (or_required e.repetition) (ap again (sym (read_here t i e b n q)) ∙ sym c.is_repeated.ensures ∙ c.if-is_repeated.false) b
    (sym (c.count_children.ensures.trees e b n q) ∙ c.if-count_children-ne1.false) (below element_span t i e b n q)
    (ap (λ (x : Bool). x && not (is_leaf (element_at t (i + 1)).kind)) (sym (rw (c.first_child-child.ensures.elements, c.first_child-child.ensures.at) at c.is_repeated-2.ensures) ∙ c.if-not-is_repeated.true))

pub returns-in-Leaf : goal.returns-in-Leaf
returns-in-Leaf c = λ e b n q text k.
    let t = c.args.self.elements.now in
    let i = c.args.self.at in
    map_other t i text k (or_required e.repetition) (ap again (sym (read_here t i e b n q)) ∙ sym c.is_repeated.ensures ∙ c.if-is_repeated.false) b
    (sym (c.count_children.ensures.trees e b n q) ∙ c.if-count_children-ne1.false) (below element_span t i e b n q)
    (ap₂ (λ (x : Bool) (y : Kind). x && not (is_leaf y)) (sym (rw (c.first_child-child.ensures.elements, c.first_child-child.ensures.at) at c.is_repeated-2.ensures) ∙ c.if-not-is_repeated.false) (ap (λ (x : Element). x.kind) (sym (rw (c.first_child-child.ensures.elements, c.first_child-child.ensures.at) at c.element.ensures)) ∙ c.in-Leaf.is))

pub returns-in-Group : goal.returns-in-Group
returns-in-Group c = λ e b n q text k.
    let t = c.args.self.elements.now in
    let i = c.args.self.at in
    map_one t i text k (or_required e.repetition) (ap again (sym (read_here t i e b n q)) ∙ sym c.is_repeated.ensures ∙ c.if-is_repeated.false) b
    (sym (c.count_children.ensures.trees e b n q) ∙ c.if-count_children-ne1.false) (below element_span t i e b n q)
    (ap₂ (λ (x : Bool) (y : Kind). x && not (is_leaf y)) (sym (rw (c.first_child-child.ensures.elements, c.first_child-child.ensures.at) at c.is_repeated-2.ensures) ∙ c.if-not-is_repeated.false) (ap (λ (x : Element). x.kind) (sym (rw (c.first_child-child.ensures.elements, c.first_child-child.ensures.at) at c.element.ensures)) ∙ c.in-Group.is))
    c.entries_role.result (rw (c.first_child-child.ensures.elements, c.first_child-child.ensures.at) at c.entries_role.ensures)
