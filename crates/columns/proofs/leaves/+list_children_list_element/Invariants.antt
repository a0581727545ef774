use Rattle.std.proofs.Common.{◌≡◌, ◌+◌, ◌-◌, ◌*◌, ◌≤◌, drop, Ok}
use Rattle.std.specs.List.{slice_get}
use Rattle.tree.specs.Forest.{Forest, Lists, size_at, children}
use Rattle.schema.specs.declared.element.Element.{Element}
use Rattle.schema.specs.Elements.{element_span}
use Rattle.columns.specs.Levels.{roots_before, leaves_in}
use Rattle.columns.specs.Listing.{Restored}
use Rattle.columns.specs.Walk.{Wrote, place_of}
use Rattle.columns.proofs.leaves.+list_children_list_element.Given as goal

-- the subtree's size falls
abbrev pub decreases-list_children : goal.decreases-list_children
decreases-list_children l = 2 * size_at element_span l.rows.now l.parent

abbrev pub decreases-list_element : goal.decreases-list_element
decreases-list_element l = 2 * size_at element_span l.rows.now l.element + 1

abbrev pub invariant-list_children-loop-number : goal.invariant-list_children-loop-number
invariant-list_children-loop-number l =
    let place = place_of l.rows l.parent (slice_get l.number-iterator.iter 0) in
    record {
      comes : (f : Forest Element) → Lists element_span f l.rows → l.number-iterator.iter ≡ drop l.number-iterator.count (children f l.parent);
      restored : Restored l.initial.walked l.walked;
      after : l.parent + 1 ≤ place;
      ends : place ≤ l.parent + size_at element_span l.rows l.parent;
      roots : l.parent ≡ 0 → l.number-iterator.count ≡ roots_before l.rows place;
      wrote : Wrote l.rows (leaves_in l.rows (l.parent + 1) (place - (l.parent + 1))) l.initial.so_far l.initial.columns l.initial.paths l.columns l.paths (Ok l.so_far);
    }
