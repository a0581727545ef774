-- What a conversion comes to before its tables are cleared past what is used.
use Rattle.std.specs.Prelude.{◌≡◌, ℕ, ◌-◌, Bool, true, false, List, ◌++◌, map, length, take, replicate, Ok, Err, Result}
use Rattle.std.specs.List.{range_with_len}
use Rattle.std.specs.Result.{result_unwrap_or}
use Rattle.tree.specs.Forest.{Forest, Lists}
use Rattle.schema.specs.declared.refusal.Refusal.{Refusal}
use Rattle.schema.specs.declared.refusal.Refusal.TheVariants as no
use Rattle.schema.specs.Rows.{IsFinished}
use Rattle.arrow.specs.declared.hint.HintRow.{HintRow}
use Rattle.arrow.specs.declared.row.ResultRow.{ResultRow}
use Rattle.arrow.specs.Kinds.{hint_span}
use Rattle.selection.specs.Sets.{below}
use Rattle.walk.specs.Labels.{shown_tree}
use Rattle.walk.specs.Walk.{walk_under}
use Rattle.promise.specs.Conversion.{Conversion, HintKept, counted, empty_row, kept, leaves, short_table}
use Rattle.convert.specs.Root.{Front}

-- past the rows that are used, rows are empty
abbrev pub rows_after : Result ℕ Refusal → List ResultRow → List ResultRow
rows_after r rows = take (result_unwrap_or r 0) rows ++ replicate (length rows - result_unwrap_or r 0) empty_row

-- refused, no flag is left
abbrev pub flags_after : Result ℕ Refusal → List Bool → List Bool
flags_after (Ok n) flags = flags
flags_after (Err e) flags = replicate (length flags) false

pub data Uncleared (c : Conversion) : Type 0 where
  other_memory : kept c ≡ false → c.answer ≡ Err no.Memory → Uncleared c
  no_hint : kept c ≡ true → (HintKept c → ⊥) → c.answer ≡ Err no.Hint → Uncleared c
  no_room : kept c ≡ true → HintKept c → short_table c ≡ true → c.answer ≡ Err no.Table → Uncleared c
  walked : kept c ≡ true → HintKept c → short_table c ≡ false
      → c.flags ≡ map (below (leaves c) c.chosen) (range_with_len 0 c.flag_room)
      → ((tree : IsFinished c.schema.bytes (counted c)) (h : Forest HintRow) → Lists hint_span h c.hints
      → Front c.names (walk_under c.text h c.chosen (shown_tree c.names tree.0)) c.rows c.answer)
      → Uncleared c
