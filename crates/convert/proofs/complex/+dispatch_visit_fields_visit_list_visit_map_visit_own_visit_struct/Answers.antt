use Rattle.std.proofs.Common.{◌≡◌, ◌+◌, ◌⊎◌, length, sym, refl, ◌∙◌, inl, inr, arith, Ok}
use Rattle.std.proofs.lemmas.Result.{err_from_is_err_and}
use Rattle.walk.specs.Hints.{any_list}
use Rattle.walk.specs.declared.role.Role.TheVariants.{Own as own, Listed as listed, Mapped as mapped}
use Rattle.convert.specs.Visit.{read_by}
use Rattle.convert.proofs.Structs.{own_leaf}
use Rattle.convert.proofs.ListVisit.{list_refused, child_ready, visits_itself, item_ready, item_off, item_done}
use Rattle.convert.proofs.MapVisit.{places_in, map_refused, key_handed, key_ready, key_off, value_handed, value_ready, rows_end, value_off, half_taken, taken}
use Rattle.convert.proofs.Visited.{within_ready, within_past, within_hinted, struct_misfit, struct_other, struct_broken, struct_done}
use Rattle.convert.proofs.Dispatched.{dispatch_misnamed, dispatch_by, dispatch_broken, own_as, never_below, reads_as}
use Rattle.convert.proofs.Inside.{begins, next_measure, next_ready, next_hinted, broken_off, onward, finished}
use Rattle.convert.proofs.complex.+dispatch_visit_fields_visit_list_visit_map_visit_own_visit_struct.Goals as goal
use Rattle.convert.proofs.complex.+dispatch_visit_fields_visit_list_visit_map_visit_own_visit_struct.Goals.{visit_map-then-middle-from-via-then-middle-from, visit_map-then-middle-from-via-else-middle-from+then-cursor-middle}

pub dispatch-returns-in_err-check_name : goal.dispatch-returns-in_err-check_name
dispatch-returns-in_err-check_name t c =
    let p = err_from_is_err_and c.from_residual.result c.from_residual.ensures.1 in
    rw (p.1, p.2) (dispatch_misnamed (read_by c.args.source) c.args.at c.args.task c.args.from c.args.rows.now c.args.rows.now _ c.in_err-check_name.ensures)

pub dispatch-unreachable-requires : goal.dispatch-unreachable-requires
dispatch-unreachable-requires t c = never_below c.args.source.elements.now c.args.at _ (rw (c.new.ensures.elements, c.new.ensures.at) at c.in_ok-role.ensures) c.requires.ready.root c.in-Middle.is

pub dispatch-returns-in-Own : goal.dispatch-returns-in-Own
dispatch-returns-in-Own t c =
    dispatch_by (read_by c.args.source) c.args.at c.args.task c.args.from c.args.rows.now c.visit_own.new.rows c.in_ok-check_name.ensures (Ok own) (reads_as own c.in-Own.is (rw (c.new.ensures.elements, c.new.ensures.at) at c.in_ok-role.ensures)) c.visit_own.result
    (own_as (read_by c.args.source) c.args.at c.args.task c.args.from c.args.rows.now c.visit_own.new.rows c.field_seat.result c.field_seat.ensures.levels c.field_seat.ensures.above c.field_seat.ensures.seats c.visit_own.result c.visit_own.ensures)

pub dispatch-returns-in-Listed : goal.dispatch-returns-in-Listed
dispatch-returns-in-Listed t c =
    dispatch_by (read_by c.args.source) c.args.at c.args.task c.args.from c.args.rows.now c.visit_list.new.rows c.in_ok-check_name.ensures (Ok listed) (reads_as listed c.in-Listed.is (rw (c.new.ensures.elements, c.new.ensures.at) at c.in_ok-role.ensures)) c.visit_list.result c.visit_list.ensures

pub dispatch-returns-in-Mapped : goal.dispatch-returns-in-Mapped
dispatch-returns-in-Mapped t c =
    dispatch_by (read_by c.args.source) c.args.at c.args.task c.args.from c.args.rows.now c.visit_map.new.rows c.in_ok-check_name.ensures (Ok mapped) (reads_as mapped c.in-Mapped.is (rw (c.new.ensures.elements, c.new.ensures.at) at c.in_ok-role.ensures)) c.visit_map.result c.visit_map.ensures

pub dispatch-returns-in_err-role : goal.dispatch-returns-in_err-role
dispatch-returns-in_err-role t c =
    let p = err_from_is_err_and c.from_residual-in_err-role.result c.from_residual-in_err-role.ensures.1 in
    rw (p.1, p.2) (dispatch_broken (read_by c.args.source) c.args.at c.args.task c.args.from c.args.rows.now c.args.rows.now c.in_ok-check_name.ensures _ (rw (c.new.ensures.elements, c.new.ensures.at) at c.in_err-role.ensures) _ refl)

pub dispatch-visit_list-requires : goal.dispatch-visit_list-requires
dispatch-visit_list-requires t c = (omega (arith, c.decreases), (c.requires.ready, (c.requires.hinted, reads_as listed c.in-Listed.is (rw (c.new.ensures.elements, c.new.ensures.at) at c.in_ok-role.ensures))))

pub dispatch-visit_map-requires : goal.dispatch-visit_map-requires
dispatch-visit_map-requires t c = (omega (arith, c.decreases), (c.requires.ready, (c.requires.hinted, reads_as mapped c.in-Mapped.is (rw (c.new.ensures.elements, c.new.ensures.at) at c.in_ok-role.ensures))))

pub visit_fields-loop-child-init : goal.visit_fields-loop-child-init
visit_fields-loop-child-init t c =
    let it = c.into_iter-child-iterator in
    begins c.requires.ready c.requires.hinted it.result (λ f l. it.ensures.into_iter_gives ∙ c.children-child-items.ensures.in_tree f (rw c.new.ensures.rows l)) c.first-given.result c.first-given.ensures

pub visit_fields-dispatch-requires : goal.visit_fields-dispatch-requires
visit_fields-dispatch-requires t c =
    let m = next_measure c.loop-child.invariant c.in-Some.child _ c.in-Some.ensures.steps in
    (omega (arith, c.decreases, m), (next_ready c.loop-child.invariant c.in-Some.child _ c.in-Some.ensures.steps, next_hinted c.loop-child.invariant))

pub visit_fields-returns-in_err-cursor : goal.visit_fields-returns-in_err-cursor
visit_fields-returns-in_err-cursor t c =
    let p = err_from_is_err_and c.from_residual.result c.from_residual.ensures.1 in
    rw (p.1, p.2) (broken_off c.loop-child.invariant c.in-Some.child _ c.in-Some.ensures.steps _ c.dispatch.new.rows c.in_err-cursor.ensures)

pub visit_fields-loop-child-preserved : goal.visit_fields-loop-child-preserved
visit_fields-loop-child-preserved t c =
    onward c.loop-child.invariant c.in-Some.child _ c.in-Some.ensures.steps c.in_ok-cursor.cursor c.dispatch.new.rows (omega arith) c.in_ok-cursor.ensures c.next-given.result c.next-given.ensures

pub visit_fields-returns : goal.visit_fields-returns
visit_fields-returns t c =
    finished c.loop-child.invariant c.in-None.ensures.steps.0

pub visit_list-returns-then-not-fits : goal.visit_list-returns-then-not-fits
visit_list-returns-then-not-fits t c =
    list_refused (read_by c.args.source) c.args.at c.args.task c.args.from c.args.rows.now c.requires.reads (λ hs p. sym (c.fits.ensures c.args.source.hints.text.now hs p any_list (λ x b q. q.1)) ∙ c.if-not-fits.true) c.args.rows.now

pub visit_list-visit_own-requires : goal.visit_list-visit_own-requires
visit_list-visit_own-requires t c =
    let z = child_ready (read_by c.args.source) c.args.at c.args.task c.args.from c.args.rows.now c.requires.reads c.element_seat-seat.result.levels (c.element_seat-seat.ensures.levels ∙ c.raise-levels.ensures) _ c.requires.ready in
    let (hs, p) = c.requires.hinted in
    (omega (arith, c.decreases, z.0), (z.1, (_, (c.element_seat-seat.ensures.seats 0 0 hs p).hint)))

pub visit_list-is_element-requires : goal.visit_list-is_element-requires
visit_list-is_element-requires t c = rw (c.new.ensures.elements, c.new.ensures.at) c.requires.reads

pub visit_list-returns-then-is_element : goal.visit_list-returns-then-is_element
visit_list-returns-then-is_element t c =
    visits_itself (read_by c.args.source) c.args.at c.args.task c.args.from c.args.rows.now c.requires.reads (λ hs p. sym (c.fits.ensures c.args.source.hints.text.now hs p any_list (λ x b q. q.1)) ∙ c.if-not-fits.false)
    c.is_element.result (rw (c.new.ensures.elements, c.new.ensures.at) at c.is_element.ensures) c.if-is_element.true c.element_seat-seat.result (c.element_seat-seat.ensures.levels ∙ c.raise-levels.ensures) c.element_seat-seat.ensures.above c.element_seat-seat.ensures.seats
    c.visit_own.new.rows c.visit_own.result c.visit_own.ensures

pub visit_list-bounds-source-child : goal.visit_list-bounds-source-child
visit_list-bounds-source-child t c =
    let z = child_ready (read_by c.args.source) c.args.at c.args.task c.args.from c.args.rows.now c.requires.reads c.raise-levels.result c.raise-levels.ensures _ c.requires.ready in
    omega (arith, z.1.root.inside)

pub visit_list-dispatch-requires : goal.visit_list-dispatch-requires
visit_list-dispatch-requires t c =
    let z = item_ready (read_by c.args.source) c.args.at c.args.task c.args.from c.args.rows.now c.requires.reads c.is_element.result (rw (c.new.ensures.elements, c.new.ensures.at) at c.is_element.ensures) c.if-is_element.false c.raise-levels.result c.raise-levels.ensures c.raise-deeper.result c.raise-deeper.ensures _ c.requires.ready in
    let (hs, p) = c.requires.hinted in
    (omega (arith, c.decreases, z.0), (z.1, (_, (c.element_seat-seat.ensures.seats 0 0 hs p).hint)))

pub visit_list-returns-in_err-cursor : goal.visit_list-returns-in_err-cursor
visit_list-returns-in_err-cursor t c =
    let p = err_from_is_err_and c.from_residual.result c.from_residual.ensures.1 in
    rw (p.1, p.2)
    (item_off (read_by c.args.source) c.args.at c.args.task c.args.from c.args.rows.now c.requires.reads c.is_element.result (rw (c.new.ensures.elements, c.new.ensures.at) at c.is_element.ensures) c.if-is_element.false c.raise-levels.result c.raise-levels.ensures c.raise-deeper.result c.raise-deeper.ensures (λ hs p. sym (c.fits.ensures c.args.source.hints.text.now hs p any_list (λ x b q. q.1)) ∙ c.if-not-fits.false) c.element_seat-seat.result.hint (λ hs p. (c.element_seat-seat.ensures.seats 0 0 hs p).hint) c.dispatch.new.rows _ c.in_err-cursor.ensures)

pub visit_list-close-requires : goal.visit_list-close-requires
visit_list-close-requires t c =
    let z = item_ready (read_by c.args.source) c.args.at c.args.task c.args.from c.args.rows.now c.requires.reads c.is_element.result (rw (c.new.ensures.elements, c.new.ensures.at) at c.is_element.ensures) c.if-is_element.false c.raise-levels.result c.raise-levels.ensures c.raise-deeper.result c.raise-deeper.ensures _ c.requires.ready in
    let (hs, p) = c.requires.hinted in
    let r = z.1.root in
    let w = c.in_ok-cursor.ensures r.top r.below r.after r.lies _ (c.element_seat-seat.ensures.seats 0 0 hs p).hint in
    (omega (arith, w.ends), omega (arith, c.requires.ready.fits))

pub visit_list-returns : goal.visit_list-returns
visit_list-returns t c =
    item_done (read_by c.args.source) c.args.at c.args.task c.args.from c.args.rows.now c.requires.reads c.is_element.result (rw (c.new.ensures.elements, c.new.ensures.at) at c.is_element.ensures) c.if-is_element.false c.raise-levels.result c.raise-levels.ensures c.raise-deeper.result c.raise-deeper.ensures (λ hs p. sym (c.fits.ensures c.args.source.hints.text.now hs p any_list (λ x b q. q.1)) ∙ c.if-not-fits.false) c.element_seat-seat.result.hint (λ hs p. (c.element_seat-seat.ensures.seats 0 0 hs p).hint)
    c.dispatch.new.rows c.close.new.rows c.in_ok-cursor.cursor c.close.result c.in_ok-cursor.ensures (omega arith) c.middle_row-row.result c.middle_row-row.ensures c.close.ensures.wrote

pub visit_map-returns-in_err-check_map : goal.visit_map-returns-in_err-check_map
visit_map-returns-in_err-check_map t c =
    let p = err_from_is_err_and c.from_residual.result c.from_residual.ensures.1 in
    rw (p.1, p.2) (map_refused (read_by c.args.source) c.args.at c.args.task c.args.from c.args.rows.now c.requires.reads _ c.in_err-check_map.ensures c.args.rows.now)

pub visit_map-bounds-source-at-2 : goal.visit_map-bounds-source-at-2
visit_map-bounds-source-at-2 t c =
    (places_in (read_by c.args.source) c.args.at c.args.task c.args.from c.args.rows.now c.requires.reads c.requires.ready.root).0

pub visit_map-dispatch-requires : goal.visit_map-dispatch-requires
visit_map-dispatch-requires t c =
    let z = key_ready (read_by c.args.source) c.args.at c.args.task c.args.from c.args.rows.now c.requires.reads c.first-parent.result c.first-given.result c.first-parent.ensures c.first-given.ensures c.raise.result c.raise.ensures c.raise-levels.result c.raise-levels.ensures _ c.requires.ready in
    let (hs, p) = c.requires.hinted in
    (omega (arith, c.decreases, z.0), (z.1, (_, key_handed (read_by c.args.source) c.args.at c.args.task c.args.from c.args.rows.now c.requires.reads c.first-parent.result c.first-given.result c.first-parent.ensures c.first-given.ensures c.raise.result c.raise.ensures c.raise-levels.result c.raise-levels.ensures hs p)))

pub visit_map-returns-in_err-middle : goal.visit_map-returns-in_err-middle
visit_map-returns-in_err-middle t c =
    let p = err_from_is_err_and c.from_residual-in_err-middle.result c.from_residual-in_err-middle.ensures.1 in
    rw (p.1, p.2)
    (key_off (read_by c.args.source) c.args.at c.args.task c.args.from c.args.rows.now c.requires.reads c.first-parent.result c.first-given.result c.first-parent.ensures c.first-given.ensures c.raise.result c.raise.ensures c.raise-levels.result c.raise-levels.ensures c.in_ok-check_map.ensures c.dispatch.new.rows _ c.in_err-middle.ensures)

pub visit_map-bounds-source-at-3 : goal.visit_map-bounds-source-at-3
visit_map-bounds-source-at-3 t c =
    (places_in (read_by c.args.source) c.args.at c.args.task c.args.from c.args.rows.now c.requires.reads c.requires.ready.root).1

pub visit_map-overflow_add-at-4 : goal.visit_map-overflow_add-at-4
visit_map-overflow_add-at-4 t c =
    let z = places_in (read_by c.args.source) c.args.at c.args.task c.args.from c.args.rows.now c.requires.reads c.requires.ready.root in
    grind (arith, z.2, c.requires.ready.root.inside, c.requires.ready.root.sized)

pub visit_map-dispatch-requires-2 : goal.visit_map-dispatch-requires-2
visit_map-dispatch-requires-2 t c =
    let (hs, p) = c.requires.hinted in
    let z = value_ready (read_by c.args.source) c.args.at c.args.task c.args.from c.args.rows.now c.requires.reads c.first-parent.result c.first-given.result c.first-parent.ensures c.first-given.ensures c.raise.result c.raise.ensures c.raise-levels.result c.raise-levels.ensures
    c.next.result c.next.ensures c.dispatch.new.rows c.in_ok-middle.middle c.in_ok-middle.ensures _ c.requires.ready (omega arith) hs p in (
      omega (arith, c.decreases, z.0),
      (
        z.1,
        (
          _,
          value_handed (read_by c.args.source) c.args.at c.args.task c.args.from c.args.rows.now c.requires.reads c.first-parent.result c.first-given.result c.first-parent.ensures c.first-given.ensures c.raise.result c.raise.ensures c.raise-levels.result c.raise-levels.ensures
              c.next.result c.next.ensures c.dispatch.new.rows c.in_ok-middle.middle c.in_ok-middle.ensures hs p,
        ),
      ),
    )

pub visit_map-returns-in_err-cursor : goal.visit_map-returns-in_err-cursor
visit_map-returns-in_err-cursor t c =
    let p = err_from_is_err_and c.from_residual-in_err-cursor.result c.from_residual-in_err-cursor.ensures.1 in
    rw (p.1, p.2)
    (value_off (read_by c.args.source) c.args.at c.args.task c.args.from c.args.rows.now c.requires.reads c.first-parent.result c.first-given.result c.first-parent.ensures c.first-given.ensures c.raise.result c.raise.ensures c.raise-levels.result c.raise-levels.ensures
    c.next.result c.next.ensures c.dispatch.new.rows c.in_ok-middle.middle c.in_ok-middle.ensures c.in_ok-check_map.ensures c.dispatch-2.new.rows _ c.in_err-cursor.ensures)

pub visit_map-returns-then-middle-from : goal.visit_map-returns-then-middle-from
visit_map-returns-then-middle-from t c =
    let z : (c.in_ok-middle.middle.row ≡ c.args.from.row + 1) ⊎ (c.in_ok-cursor.cursor.row ≡ c.in_ok-middle.middle.row) =
    elim c.then-middle-from.branch [
      | visit_map-then-middle-from-via-then-middle-from w ↦ inl w.if-middle-from.true
      | visit_map-then-middle-from-via-else-middle-from+then-cursor-middle w ↦ inr w.if-cursor-middle.true
    ] in
    half_taken (read_by c.args.source) c.args.at c.args.task c.args.from c.args.rows.now c.requires.reads c.first-parent.result c.first-given.result c.first-parent.ensures c.first-given.ensures c.raise.result c.raise.ensures c.raise-levels.result c.raise-levels.ensures
    c.next.result c.next.ensures c.dispatch.new.rows c.in_ok-middle.middle c.in_ok-middle.ensures c.in_ok-check_map.ensures
    c.dispatch-2.new.rows c.in_ok-cursor.cursor c.in_ok-cursor.ensures (omega (arith, c.requires.ready.fits)) z

pub visit_map-close-requires : goal.visit_map-close-requires
visit_map-close-requires t c =
    let (hs, p) = c.requires.hinted in
    let z = rows_end (read_by c.args.source) c.args.at c.args.task c.args.from c.args.rows.now c.requires.reads c.first-parent.result c.first-given.result c.first-parent.ensures c.first-given.ensures c.raise.result c.raise.ensures c.raise-levels.result c.raise-levels.ensures
    c.next.result c.next.ensures c.dispatch.new.rows c.in_ok-middle.middle c.in_ok-middle.ensures c.dispatch-2.new.rows c.in_ok-cursor.cursor c.in_ok-cursor.ensures c.requires.ready.root hs p in
    (omega (arith, z.0, z.1), omega (arith, c.requires.ready.fits))

pub visit_map-returns : goal.visit_map-returns
visit_map-returns t c =
    taken (read_by c.args.source) c.args.at c.args.task c.args.from c.args.rows.now c.requires.reads c.first-parent.result c.first-given.result c.first-parent.ensures c.first-given.ensures c.raise.result c.raise.ensures c.raise-levels.result c.raise-levels.ensures
    c.next.result c.next.ensures c.dispatch.new.rows c.in_ok-middle.middle c.in_ok-middle.ensures c.in_ok-check_map.ensures
    c.dispatch-2.new.rows c.in_ok-cursor.cursor c.in_ok-cursor.ensures c.if-middle-from.false c.if-cursor-middle.false
    c.close.new.rows c.close.result (omega arith) c.map_row-row.result c.map_row-row.ensures c.close.ensures.wrote

pub visit_own-returns-in-Leaf : goal.visit_own-returns-in-Leaf
visit_own-returns-in-Leaf t c =
    own_leaf (read_by c.args.source) c.args.at c.args.seat c.args.from c.args.rows.now c.visit_primitive.new.rows c.visit_primitive.result c.in-Leaf.leaf c.in-Leaf.is c.visit_primitive.ensures

pub visit_struct-returns-in_err-hint : goal.visit_struct-returns-in_err-hint
visit_struct-returns-in_err-hint t c =
    let p = err_from_is_err_and c.from_residual.result c.from_residual.ensures.1 in
    rw (p.1, p.2) (struct_misfit (read_by c.args.source) c.args.at c.args.seat c.args.from c.args.rows.now c.args.rows.now c.requires.kind.0 c.requires.kind.1 c.is_wrapped-wrapped.result c.is_wrapped-wrapped.ensures _ c.in_err-hint.ensures)

pub visit_struct-returns-in_err-check_struct : goal.visit_struct-returns-in_err-check_struct
visit_struct-returns-in_err-check_struct t c =
    let p = err_from_is_err_and c.from_residual-in_err-check_struct.result c.from_residual-in_err-check_struct.ensures.1 in
    rw (p.1, p.2) (struct_other (read_by c.args.source) c.args.at c.args.seat c.args.from c.args.rows.now c.args.rows.now c.requires.kind.0 c.requires.kind.1 c.is_wrapped-wrapped.result c.is_wrapped-wrapped.ensures c.in_ok-hint.hint c.in_ok-hint.ensures _ (rw (c.new.ensures.elements, c.new.ensures.at) at c.in_err-check_struct.ensures))

pub visit_struct-visit_fields-requires : goal.visit_struct-visit_fields-requires
visit_struct-visit_fields-requires t c = (
  omega (arith, c.decreases),
  (
    within_ready (read_by c.args.source) c.args.at c.args.seat c.args.from (length c.args.rows.now) c.raise-levels.result c.head_of.result c.requires.ready c.raise-levels.ensures c.head_of.ensures,
    within_hinted (read_by c.args.source) c.args.at c.args.seat c.args.from c.args.rows.now c.args.rows.now c.requires.kind.0 c.requires.kind.1 c.is_wrapped-wrapped.result c.is_wrapped-wrapped.ensures c.in_ok-hint.hint c.in_ok-hint.ensures c.requires.hinted,
  ),
)

pub visit_struct-returns-in_err-cursor : goal.visit_struct-returns-in_err-cursor
visit_struct-returns-in_err-cursor t c =
    let p = err_from_is_err_and c.from_residual-in_err-cursor.result c.from_residual-in_err-cursor.ensures.1 in
    rw (p.1, p.2) (struct_broken (read_by c.args.source) c.args.at c.args.seat c.args.from c.args.rows.now c.visit_fields.new.rows c.requires.kind.0 c.requires.kind.1 c.is_wrapped-wrapped.result c.is_wrapped-wrapped.ensures c.in_ok-hint.hint c.in_ok-hint.ensures (rw (c.new.ensures.elements, c.new.ensures.at) at c.in_ok-check_struct.ensures) c.raise-levels.result c.raise-levels.ensures c.head_of.result c.head_of.ensures _ c.in_err-cursor.ensures)

pub visit_struct-close_struct-requires-clause-past : goal.visit_struct-close_struct-requires-clause-past
visit_struct-close_struct-requires-clause-past t c =
    let p = within_past (read_by c.args.source) c.args.at c.args.seat c.args.from (length c.args.rows.now) c.requires.ready c.in_ok-hint.hint (within_hinted (read_by c.args.source) c.args.at c.args.seat c.args.from c.args.rows.now c.args.rows.now c.requires.kind.0 c.requires.kind.1 c.is_wrapped-wrapped.result c.is_wrapped-wrapped.ensures c.in_ok-hint.hint c.in_ok-hint.ensures c.requires.hinted)
    c.raise-levels.result (record { row = c.head_of.result + 1; leaf = c.args.from.leaf }) c.in_ok-cursor.cursor c.args.rows.now c.visit_fields.new.rows c.in_ok-cursor.ensures in
    omega (arith, p, c.head_of.ensures)

pub visit_struct-returns : goal.visit_struct-returns
visit_struct-returns t c =
    struct_done (read_by c.args.source) c.args.at c.args.seat c.args.from c.args.rows.now c.close_struct.new.rows c.requires.kind.0 c.requires.kind.1 c.is_wrapped-wrapped.result c.is_wrapped-wrapped.ensures c.in_ok-hint.hint c.in_ok-hint.ensures (rw (c.new.ensures.elements, c.new.ensures.at) at c.in_ok-check_struct.ensures) c.raise-levels.result c.raise-levels.ensures c.head_of.result c.head_of.ensures c.visit_fields.new.rows c.in_ok-cursor.cursor c.close_struct.result (omega arith)
    c.in_ok-cursor.ensures c.close_struct.ensures
