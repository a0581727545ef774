use Rattle.std.proofs.Common.{◌≡◌, ◌∙◌}
use Rattle.tree.specs.Forest.{Forest}
use Rattle.tree.specs.Forest.Forest.{plant}
use Rattle.schema.specs.declared.element.Element.{Element}
use Rattle.schema.specs.Elements.{element_span}
use Rattle.walk.specs.Forests.{trees}
use Rattle.convert.specs.Table.{Stands}
use Rattle.convert.proofs.Trees.{children_trees}
use Rattle.convert.proofs.Roles.{child_in, pair_in}
use Rattle.convert.proofs.Uniques.{root}
use Rattle.convert.proofs.reading.Node.count_children.Goals as goal

pub returns : goal.returns
returns c =
    let r = root c.args.self.whole c.args.self.inside in
    let t = c.args.self.elements.now in
    let told : (e : Element) (b n : Forest Element) → Stands t c.args.self.at (plant e b n) → c.count_children.result ≡ trees b =
    (λ e b n q. c.count_children.ensures.counts r.whole (rw c.new.ensures.rows r.lists) ∙ children_trees element_span t c.args.self.at r.whole r.lists e b n q) in
    record { child = child_in t c.args.self.at r c.count_children.result told; pair = pair_in t c.args.self.at r c.count_children.result told; trees = told }
