use Rattle.std.proofs.Common.{rules}
use Rattle.convert.proofs.Names.{by_rest}
use Rattle.convert.proofs.reading.names_element.Goals as goal

pub returns-else-eq : goal.returns-else-eq
returns-else-eq c = by_rest c.args.group.now c.args.name.now (search rules) c.strip_prefix.result c.strip_prefix.ensures.cases c.is_some_and.result (search rules)
