use Rattle.std.proofs.Common.{rules}
use Rattle.convert.proofs.Trees.{read_here}
use Rattle.convert.proofs.reading.Node.role.Goals as goal

pub returns-in-Group-Some-List : goal.returns-in-Group-Some-List
returns-in-Group-Some-List c = λ e b n q text k.
    search (rules, read_here c.args.self.elements.now c.args.self.at e b n q, c.list_role.ensures e b n q text k)

pub returns-in-Group-Some-Map : goal.returns-in-Group-Some-Map
returns-in-Group-Some-Map c = λ e b n q text k.
    search (rules, read_here c.args.self.elements.now c.args.self.at e b n q, c.map_role.ensures e b n q text k)
