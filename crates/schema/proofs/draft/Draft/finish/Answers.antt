use Rattle.schema.proofs.Told.{finish_law, finish_means}
use Rattle.schema.proofs.draft.Draft.finish.Goals as goal

pub returns-clause-tree : goal.returns-clause-tree
returns-clause-tree c = finish_means c.make.result c.make.ensures

pub returns-clause-law : goal.returns-clause-law
returns-clause-law c = λ h p. finish_law p c.make.ensures
