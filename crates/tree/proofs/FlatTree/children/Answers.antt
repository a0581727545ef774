use Rattle.tree.proofs.Places.{children_told, few_children, children_inside, children_rise, children_in_tree}
use Rattle.tree.proofs.FlatTree.children.Goals as goal

pub returns-clause-in_tree : goal.returns-clause-in_tree
returns-clause-in_tree g c = λ f l. children_in_tree g.R.Row.span c.args.self.now.rows.now c.args.parent f l c.first_child.result c.first_child.ensures.by_size

pub returns-clause-few : goal.returns-clause-few
returns-clause-few g c = few_children g.R.Row.span c.args.self.now.rows.now c.args.parent c.first_child.result c.first_child.ensures.by_size

pub returns-clause-by_size : goal.returns-clause-by_size
returns-clause-by_size g c = children_told g.R.Row.span c.args.self.now.rows.now c.args.parent c.first_child.result c.first_child.ensures.by_size

pub returns-clause-inside : goal.returns-clause-inside
returns-clause-inside g c = children_inside g.R.Row.span c.args.self.now.rows.now c.args.parent c.first_child.result c.first_child.ensures.by_size

pub returns-clause-rises : goal.returns-clause-rises
returns-clause-rises g c = children_rise g.R.Row.span c.args.self.now.rows.now c.args.parent c.first_child.result c.first_child.ensures.by_size
