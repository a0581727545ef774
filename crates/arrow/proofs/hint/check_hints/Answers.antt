use Rattle.std.proofs.Common.{◌≤◌, List, length, sym, ◌∙◌, subst}
use Rattle.tree.specs.Forest.{IsFlatTree}
use Rattle.arrow.specs.declared.hint.HintRow.{HintRow}
use Rattle.arrow.specs.Kinds.{hint_span}
use Rattle.arrow.proofs.Checked.{too_deep, all_kept}
use Rattle.arrow.proofs.hint.check_hints.Goals as goal

pub returns-then-is_shallow : goal.returns-then-is_shallow
returns-then-is_shallow c =
    record {
      accepts = all_kept (length c.args.hints.text.now) c.args.hints.rows.now (sym c.is_empty.ensures ∙ c.if-is_empty.false) c.is_shallow.result c.is_shallow.ensures c.keeps_hints.result c.keeps_hints.ensures c.if-is_shallow.true (subst (λ (xs : List HintRow). (length xs ≤ 4096) × IsFlatTree hint_span xs) c.new.ensures.rows (c.if-not-check.ensures.yes tt));
    }

pub returns-else-is_shallow : goal.returns-else-is_shallow
returns-else-is_shallow c =
    record { accepts = too_deep (length c.args.hints.text.now) c.args.hints.rows.now (sym c.is_empty.ensures ∙ c.if-is_empty.false) c.is_shallow.result c.is_shallow.ensures c.if-is_shallow.false }
