use Rattle.std.proofs.Common.{rules}
use Rattle.schema.proofs.Powers.{table_held, table_most}
use Rattle.schema.proofs.decimal.max_precision.Goals as goal

pub returns : goal.returns
returns c = record { held = search (rules, table_held); most = search (rules, table_most) }
