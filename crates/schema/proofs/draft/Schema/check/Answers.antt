use Rattle.schema.proofs.Told.{memory_decides, memory_law}
use Rattle.schema.proofs.draft.Schema.check.Goals as goal

pub returns-clause-tree : goal.returns-clause-tree
returns-clause-tree c = memory_decides c.args.self.now c.args.elements.now c.args.names.now c.keeps_memory.result c.keeps_memory.ensures

pub returns-clause-law : goal.returns-clause-law
returns-clause-law c = λ h p. memory_law p c.keeps_memory.result c.keeps_memory.ensures
