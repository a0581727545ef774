use Rattle.std.proofs.Common.{length, sym, ◌∙◌, eqb-true}
use Rattle.std.proofs.lemmas.List.{nil_from_length}
use Rattle.convert.proofs.Whole.{no_first}
use Rattle.convert.proofs.complex.root_hint.Goals as goal

pub returns-then-is_empty : goal.returns-then-is_empty
returns-then-is_empty c h l =
    no_first c.args.source.hints.text.now h (l.lists ∙ nil_from_length c.args.source.hints.rows.now (eqb-true (length c.args.source.hints.rows.now) 0 (sym c.if-is_empty.ensures)))
