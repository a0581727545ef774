use Rattle.std.proofs.lemmas.Result.{err_from_is_err_and}
use Rattle.convert.specs.Visit.{read_by}
use Rattle.convert.proofs.Uniques.{whole}
use Rattle.convert.proofs.Whole.{root_ready, root_hinted, root_done, root_refused}
use Rattle.convert.proofs.complex.visit_root.Goals as goal

pub visit_struct-requires-clause-ready : goal.visit_struct-requires-clause-ready
visit_struct-requires-clause-ready c = root_ready (read_by c.args.source) c.requires.finished.0 c.requires.finished.1 _ c.requires.room c.root_seat-seat.result.levels c.root_seat-seat.ensures.levels

pub visit_struct-requires-clause-hinted : goal.visit_struct-requires-clause-hinted
visit_struct-requires-clause-hinted c =
    let e = c.root_seat-seat.ensures in
    root_hinted (read_by c.args.source) c.root_seat-seat.result e.levels e.above e.seats c.args.rows.now c.args.rows.now (whole c.args.source.hints.whole)

pub returns-in_err-cursor : goal.returns-in_err-cursor
returns-in_err-cursor c =
    let s = read_by c.args.source in
    let e = c.root_seat-seat.ensures in
    let p = err_from_is_err_and c.from_residual.result c.from_residual.ensures.1 in
    rw (p.1, p.2) (root_refused s c.root_seat-seat.result e.levels e.above e.seats c.args.rows.now c.visit_struct.new.rows _ c.in_err-cursor.ensures)

pub returns : goal.returns
returns c =
    let s = read_by c.args.source in
    let e = c.root_seat-seat.ensures in
    root_done s c.root_seat-seat.result e.levels e.above e.seats c.args.rows.now c.visit_struct.new.rows c.in_ok-cursor.cursor c.in_ok-cursor.ensures
