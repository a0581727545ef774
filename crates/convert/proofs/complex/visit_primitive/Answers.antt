use Rattle.std.proofs.Common.{◌+◌, Bool, not, ◌&&◌, Err, sym, refl, ap, ◌∙◌, subst}
use Rattle.walk.specs.Labels.{is_repeated, or_required}
use Rattle.std.proofs.lemmas.Result.{err_from_is_err_and}
use Rattle.arrow.specs.Convert.{converted_leaf}
use Rattle.walk.specs.Handing.{unwrap}
use Rattle.walk.specs.Faults.{wrap_checks}
use Rattle.convert.specs.Handed.{Hinted}
use Rattle.convert.specs.Outcome.{Outcome}
use Rattle.convert.specs.Visit.{read_by, Wrote}
use Rattle.convert.proofs.Handing.{typing_here}
use Rattle.convert.proofs.Written.{wrote_none}
use Rattle.convert.proofs.Seated.{leaf_unchosen, leaf_misfit, leaf_untyped, leaf_typed, typed_as, untyped_as}
use Rattle.convert.proofs.complex.visit_primitive.Goals as goal

pub returns-then-not-is_chosen : goal.returns-then-not-is_chosen
returns-then-not-is_chosen c = λ t below q.
    let s = read_by c.args.source in
    subst (λ (o : Outcome). Wrote s.names o c.args.from.row (c.args.from.leaf + 1) c.args.rows.now c.args.rows.now (record { row = c.args.from.row; leaf = c.args.from.leaf + 1 }))
    (sym (leaf_unchosen s c.args.seat t q c.args.at c.args.from.leaf c.args.element c.args.leaf c.requires.kind below (sym c.is_chosen.ensures ∙ c.if-not-is_chosen.true)))
    (wrote_none s.names c.args.from.row (c.args.from.leaf + 1) c.args.rows.now)

pub returns-in_err-hint : goal.returns-in_err-hint
returns-in_err-hint c = λ t below q.
    let s = read_by c.args.source in
    let p = err_from_is_err_and c.from_residual.result c.from_residual.ensures.1 in
    let u = c.in_err-hint.ensures s.text t.hint q.hint in
    rw (p.1, p.2)
    (leaf_misfit s c.args.seat t q c.args.at c.args.from.leaf c.args.element c.args.leaf c.requires.kind below (sym c.is_chosen.ensures ∙ c.if-not-is_chosen.false) _
    (ap (λ (w : Bool). wrap_checks c.args.at w t.hint) (sym c.is_wrapped-wrapped.ensures) ∙ u))

pub returns-in_err-data_type : goal.returns-in_err-data_type
returns-in_err-data_type c = λ t below q.
    let s = read_by c.args.source in
    let p = err_from_is_err_and c.from_residual-in_err-data_type.result c.from_residual-in_err-data_type.ensures.1 in
    let u = c.in_ok-hint.ensures s.text t.hint q.hint in
    let w = c.is_wrapped-wrapped.ensures in
    let h = subst (λ (x : Bool). Hinted s.hints s.text c.in_ok-hint.hint (unwrap x t.hint)) w u.1 in
    let n = untyped_as c.args.at (converted_leaf c.args.leaf s.hints s.text c.in_ok-hint.hint) _ _ c.in_err-data_type.ensures.answer refl in
    rw (p.1, p.2)
    (leaf_untyped s c.args.seat t q c.args.at c.args.from.leaf c.args.element c.args.leaf c.requires.kind below (sym c.is_chosen.ensures ∙ c.if-not-is_chosen.false)
    (ap (λ (x : Bool). wrap_checks c.args.at x t.hint) (sym w) ∙ u.0)
    (typing_here s.hints s.text c.args.leaf c.in_ok-hint.hint (unwrap (is_repeated (or_required c.args.element.repetition) && not c.args.seat.element) t.hint) h ∙ n.0)
    ∙ ap Err (sym n.1))

pub returns : goal.returns
returns c = λ t below q.
    let s = read_by c.args.source in
    let u = c.in_ok-hint.ensures s.text t.hint q.hint in
    let w = c.is_wrapped-wrapped.ensures in
    let h = subst (λ (x : Bool). Hinted s.hints s.text c.in_ok-hint.hint (unwrap x t.hint)) w u.1 in
    let n = typed_as c.args.at (converted_leaf c.args.leaf s.hints s.text c.in_ok-hint.hint) _ _ c.in_ok-data_type.ensures.answer refl in
    subst (λ (o : Outcome). Wrote s.names o c.args.from.row (c.args.from.leaf + 1) c.args.rows.now c.write_leaf.new.rows c.write_leaf.result)
    (leaf_typed s c.args.seat t q c.args.at c.args.from.leaf c.args.element c.args.leaf c.requires.kind below (sym c.is_chosen.ensures ∙ c.if-not-is_chosen.false)
    (ap (λ (x : Bool). wrap_checks c.args.at x t.hint) (sym w) ∙ u.0) c.raise-levels.result c.raise-levels.ensures c.in_ok-data_type.data_type
    (typing_here s.hints s.text c.args.leaf c.in_ok-hint.hint (unwrap (is_repeated (or_required c.args.element.repetition) && not c.args.seat.element) t.hint) h ∙ n))
    (c.write_leaf.ensures s.text s.names t.hint q.hint)
