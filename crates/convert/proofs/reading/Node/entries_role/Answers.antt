use Rattle.std.proofs.Common.{◌+◌, Bool, ◌||◌, sym, ap, ◌∙◌, ap₂, arith}
use Rattle.schema.specs.Elements.{element_span}
use Rattle.convert.specs.Table.{element_at}
use Rattle.convert.proofs.Trees.{below}
use Rattle.convert.proofs.Roles.{again, entries_others, entries_one, entries_two}
use Rattle.convert.proofs.reading.Node.entries_role.Goals as goal
use Rattle.convert.proofs.reading.Node.entries_role.Goals.{then-is_repeated-via-then-is_repeated, then-is_repeated-via-else-is_repeated+then-is_repeated-2}

pub returns-in-1 : goal.returns-in-1
returns-in-1 c = λ e b n q text k. entries_one c.args.self.elements.now c.args.self.at text k c.args.group b (sym (c.count_children.ensures.trees e b n q) ∙ c.in-1.is)

pub returns-in_default : goal.returns-in_default
returns-in_default c = λ e b n q text k.
    let r = c.count_children.ensures.trees e b n q in
    entries_others c.args.self.elements.now c.args.self.at text k c.args.group b (λ h. omega (arith, r, h)) (λ h. omega (arith, r, h))

pub returns-then-is_repeated : goal.returns-then-is_repeated
returns-then-is_repeated c = λ e b n q text k.
    let t = c.args.self.elements.now in
    let i = c.args.self.at in
    entries_two t i text k c.args.group b (sym (c.count_children.ensures.trees e b n q) ∙ c.in-2.is) (below element_span t i e b n q) _
    (elim c.then-is_repeated.branch [
      | then-is_repeated-via-then-is_repeated w ↦ ap (λ (x : Bool). x || again (element_at t ((i + 1) + (element_at t (i + 1)).size))) (sym (rw (c.first_child-key.ensures.elements, c.first_child-key.ensures.at) at c.is_repeated.ensures) ∙ w.if-is_repeated.true)
      | then-is_repeated-via-else-is_repeated+then-is_repeated-2 w ↦ ap₂ (λ (x y : Bool). x || y) (sym (rw (c.first_child-key.ensures.elements, c.first_child-key.ensures.at) at c.is_repeated.ensures) ∙ w.if-is_repeated.false) (sym (rw (w.next_sibling.ensures.elements, w.next_sibling.ensures.at, c.first_child-key.ensures.elements, c.first_child-key.ensures.at) at w.is_repeated-else-is_repeated.ensures) ∙ w.if-is_repeated-2.true)
    ])

pub returns-else-is_repeated-2 : goal.returns-else-is_repeated-2
returns-else-is_repeated-2 c = λ e b n q text k.
    let t = c.args.self.elements.now in
    entries_two t c.args.self.at text k c.args.group b (sym (c.count_children.ensures.trees e b n q) ∙ c.in-2.is) (below element_span t c.args.self.at e b n q) _
    (ap₂ (λ (x y : Bool). x || y) (sym (rw (c.first_child-key.ensures.elements, c.first_child-key.ensures.at) at c.is_repeated.ensures) ∙ c.if-is_repeated.false) (sym (rw (c.next_sibling.ensures.elements, c.next_sibling.ensures.at, c.first_child-key.ensures.elements, c.first_child-key.ensures.at) at c.is_repeated-else-is_repeated.ensures) ∙ c.if-is_repeated-2.false))
