-- An element that has a row of its own, whatever tree is said to stand there.
use Rattle.std.proofs.Common.{◌≡◌, ℕ, ◌+◌, cond, List, Result, sym, ap, subst, Ok}
use Rattle.tree.specs.Forest.{Forest}
use Rattle.schema.specs.declared.element.Element.{Element}
use Rattle.schema.specs.declared.element.Leaf.{Leaf}
use Rattle.schema.specs.declared.element.Kind.{Kind}
use Rattle.schema.specs.declared.element.Kind.TheVariants.{Leaf as leaf}
use Rattle.schema.specs.declared.refusal.Refusal.{Refusal}
use Rattle.arrow.specs.declared.row.ResultRow.{ResultRow}
use Rattle.walk.specs.Labels.{is_leaf, leaf_count}
use Rattle.walk.specs.declared.role.Role.TheVariants.{Own as own}
use Rattle.convert.specs.declared.context.Cursor.{Cursor}
use Rattle.convert.specs.declared.context.Seat.{Seat}
use Rattle.convert.specs.Table.{element_at, spelled_by}
use Rattle.convert.specs.Outcome.{Told}
use Rattle.convert.specs.Visit.{Input, Seats, Meets, gives_as}
use Rattle.convert.specs.Walked.{Visits, next_leaf}
use Rattle.convert.proofs.Trees.{read_here}

pub own_leaf : (s : Input) (i : ℕ) (c : Seat) (start : Cursor) (before after : List ResultRow) (r : Result Cursor Refusal) (l : Leaf) → (element_at s.elements i).kind ≡ leaf l
    → ((t : Told) (below : Forest Element) → Seats s c t → Meets s.names (gives_as s (Ok own) i start.leaf c t (element_at s.elements i) below) start.row (start.leaf + 1) before after r)
    → Visits s i c start before after r
own_leaf s i c start before after r l h f e b n q t st =
    subst (λ (x : Element). Meets s.names (gives_as s (Ok own) i start.leaf c t x b) start.row (next_leaf s.names start.leaf x b) before after r) (read_here s.elements i e b n q)
    (subst (λ (m : ℕ). Meets s.names (gives_as s (Ok own) i start.leaf c t (element_at s.elements i) b) start.row m before after r)
    (ap (λ (y : Kind). start.leaf + cond (is_leaf y) 1 (leaf_count (spelled_by s.names b))) (sym h)) (f t b st))
