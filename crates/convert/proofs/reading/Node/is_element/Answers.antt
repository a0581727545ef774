use Rattle.std.proofs.Common.{Bool, [], sym, ap, ◌∙◌, ap₂, arith}
use Rattle.tree.specs.Forest.{count}
use Rattle.tree.specs.Forest.Forest.{bare}
use Rattle.schema.specs.declared.element.Element.{Element}
use Rattle.schema.specs.Elements.{element_span}
use Rattle.walk.specs.Reading.{one_child, names_element}
use Rattle.convert.proofs.Trees.{inside}
use Rattle.convert.proofs.Roles.{some_child}
use Rattle.convert.proofs.Shapes.{listed_shape, child_stands, takes_leaf, takes_one, takes_several}
use Rattle.convert.proofs.Uniques.{root}
use Rattle.convert.proofs.reading.Node.is_element.Goals as goal

pub first_child-child-requires : goal.first_child-child-requires
first_child-child-requires c =
    let r = root c.args.self.whole c.args.self.inside in
    let s = listed_shape [] c.args.self.at 0 r.top r.below (c.requires r.top r.below r.after r.lies [] 0) in
    omega (arith, r.inside, ap count s.is)

pub first_child-requires : goal.first_child-requires
first_child-requires c =
    let child = c.first_child-child.ensures in
    let r = root c.args.self.whole c.args.self.inside in
    let s = listed_shape [] c.args.self.at 0 r.top r.below (c.requires r.top r.below r.after r.lies [] 0) in
    let l = child_stands r.top r.below r.after r.lies s in
    let one = (rw (child.elements, child.at) at c.count_children.ensures.trees) s.child s.under bare l in
    let some = some_child s.under (λ h. omega (arith, one, h, c.if-count_children-ne1.false)) in
    rw (child.elements, child.at) (omega (arith, some, inside element_span _ _ s.child s.under bare l))

pub returns-in-Leaf : goal.returns-in-Leaf
returns-in-Leaf c = λ e b n q k.
    let child = c.first_child-child.ensures in
    let inner = rw (child.elements, child.at) at c.element-inner.ensures in
    takes_leaf e b n q (listed_shape [] c.args.self.at 0 e b (c.requires e b n q [] 0)) c.args.names.now k c.in-Leaf.field-0 (ap (λ (x : Element). x.kind) (sym inner) ∙ c.in-Leaf.is)

pub returns-then-count_children-ne1 : goal.returns-then-count_children-ne1
returns-then-count_children-ne1 c = λ e b n q k.
    let child = c.first_child-child.ensures in
    let inner = rw (child.elements, child.at) at c.element-inner.ensures in
    let s = listed_shape [] c.args.self.at 0 e b (c.requires e b n q [] 0) in
    let o = (rw (child.elements, child.at) at c.count_children.ensures.trees) s.child s.under bare (child_stands e b n q s) in
    takes_several e b n q s c.args.names.now k c.in-Group.annotation (ap (λ (x : Element). x.kind) (sym inner) ∙ c.in-Group.is) (λ h. c.if-count_children-ne1.true (o ∙ h))

pub returns-else-count_children-ne1 : goal.returns-else-count_children-ne1
returns-else-count_children-ne1 c = λ e b n q k.
    let child = c.first_child-child.ensures in
    let inner = rw (child.elements, child.at) at c.element-inner.ensures in
    let s = listed_shape [] c.args.self.at 0 e b (c.requires e b n q [] 0) in
    let o = (rw (child.elements, child.at) at c.count_children.ensures.trees) s.child s.under bare (child_stands e b n q s) in
    takes_one e b n q s c.args.names.now k c.in-Group.annotation (ap (λ (x : Element). x.kind) (sym inner) ∙ c.in-Group.is) (sym o ∙ c.if-count_children-ne1.false)
    ∙ sym (c.one_child.ensures
    ∙ ap₂ (λ (x y : Bool). one_child c.in-Group.annotation x y) (rw (c.first_child.ensures.elements, c.first_child.ensures.at, child.elements, child.at) at c.is_repeated-again.ensures)
    (c.names_element.ensures ∙ ap₂ names_element (rw c.element.ensures at c.bytes_in-group.ensures.bytes) (rw inner at c.bytes_in-name.ensures.bytes)))
