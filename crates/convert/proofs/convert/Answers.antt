use Rattle.convert.proofs.Cleared.{kept_as, flags_gone, flags_kept, rows_cleared}
use Rattle.convert.proofs.convert.Goals as goal

pub returns-then-is_err : goal.returns-then-is_err
returns-then-is_err g c =
    let r = c.walk_schema-outcome.result in
    let rows = c.walk_schema-outcome.new.rows in
    let flags = c.walk_schema-outcome.new.chosen in
    kept_as _ _ _ _ _ _ _ _ r rows flags c.walk_schema-outcome.auto.rows c.walk_schema-outcome.auto.chosen _ _
    (rows_cleared r c.unwrap_or.result rows c.fill.new.self c.unwrap_or.ensures (c.fill.ensures.after (λ y h. h)))
    (flags_gone r flags c.fill-then-is_err.new.self c.if-is_err.ensures.value (c.fill-then-is_err.ensures.after (λ y h. h)))
    c.walk_schema-outcome.ensures.walked

pub returns-else-is_err : goal.returns-else-is_err
returns-else-is_err g c =
    let r = c.walk_schema-outcome.result in
    let rows = c.walk_schema-outcome.new.rows in
    let flags = c.walk_schema-outcome.new.chosen in
    kept_as _ _ _ _ _ _ _ _ r rows flags c.walk_schema-outcome.auto.rows c.walk_schema-outcome.auto.chosen _ _
    (rows_cleared r c.unwrap_or.result rows c.fill.new.self c.unwrap_or.ensures (c.fill.ensures.after (λ y h. h)))
    (flags_kept r flags c.if-is_err.ensures.value)
    c.walk_schema-outcome.ensures.walked
