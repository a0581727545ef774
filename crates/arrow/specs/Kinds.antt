-- How many rows a subtree has, as its first row tells.
use Rattle.std.specs.Prelude.{ℕ}
use Rattle.arrow.specs.declared.hint.HintRow.{HintRow}
use Rattle.arrow.specs.declared.row.ResultRow.{ResultRow}

abbrev pub hint_span : HintRow → ℕ
hint_span h = h.size

abbrev pub row_span : ResultRow → ℕ
row_span r = r.size
