use Rattle.std.proofs.Common.{◌+◌, ◌*◌}
use Rattle.convert.specs.Table.{element_at}
use Rattle.convert.specs.Visit.{read_by}
use Rattle.convert.specs.Walked.{Inside}
use Rattle.convert.proofs.complex.+dispatch_visit_fields_visit_list_visit_map_visit_own_visit_struct.Given as goal

abbrev pub decreases-dispatch : goal.decreases-dispatch
decreases-dispatch l = 5 * (element_at l.source.elements.now l.at).size + 4

abbrev pub decreases-visit_fields : goal.decreases-visit_fields
decreases-visit_fields l = 5 * (element_at l.source.elements.now l.at).size

abbrev pub decreases-visit_list : goal.decreases-visit_list
decreases-visit_list l = 5 * (element_at l.source.elements.now l.at).size + 3

abbrev pub decreases-visit_map : goal.decreases-visit_map
decreases-visit_map l = 5 * (element_at l.source.elements.now l.at).size + 3

abbrev pub decreases-visit_own : goal.decreases-visit_own
decreases-visit_own l = 5 * (element_at l.source.elements.now l.at).size + 2

abbrev pub decreases-visit_struct : goal.decreases-visit_struct
decreases-visit_struct l = 5 * (element_at l.source.elements.now l.at).size + 1

abbrev pub invariant-visit_fields-loop-child : goal.invariant-visit_fields-loop-child
invariant-visit_fields-loop-child l =
    Inside (read_by l.initial.source) l.initial.at l.initial.levels l.initial.hint l.initial.cursor l.initial.rows l.child-iterator l.given l.cursor l.rows
