use Rattle.std.proofs.Common.{◌≡◌, ◌+◌, ◌-◌, ◌≤◌, length, drop}
use Rattle.schema.specs.Rows.{deeper, depths_of}
use Rattle.schema.proofs.rows.end_of_subtree.Given as goal

abbrev pub invariant-loop-end : goal.invariant-loop-end
invariant-loop-end l =
    (l.at + 1 ≤ l.end) × (l.end ≤ length l.rows)
    × ((l.at + 1) + deeper l.depth (depths_of (drop (l.at + 1) l.rows)) ≡ l.end + deeper l.depth (depths_of (drop l.end l.rows)))

abbrev pub decreases-loop-end : goal.decreases-loop-end
decreases-loop-end l = length l.rows - l.end
