-- The tables that the walk reads: the trees that lie in them, and the elements as the rules see them.
use Rattle.std.specs.Prelude.{◌≡◌, ℕ, ◌+◌, ◌≤◌, List, ◌++◌, length, drop, slice_index_or, Result}
use Rattle.tree.specs.Forest.{Forest, listing, count, Sized, Lists}
use Rattle.tree.specs.Forest.Forest.{plant}
use Rattle.schema.specs.declared.element.Element.{Element}
use Rattle.schema.specs.Elements.{element_span, empty}
use Rattle.schema.specs.Posts.{shown_as}
use Rattle.schema.specs.Words.{Spelled}
use Rattle.walk.specs.Forests.{relabel}
use Rattle.walk.specs.Labels.{Numbered, numbered, numbered_as, or_required}
use Rattle.walk.specs.Reading.{by_annotation}
use Rattle.schema.specs.declared.refusal.Refusal.{Refusal}
use Rattle.walk.specs.declared.role.Role.{Role}

-- ── Trees that lie in a table ──

-- the trees lie in the table from `i` on
pub record Lies {A : Type 0} (span : A → ℕ) (table : List A) (i : ℕ) (f : Forest A) : Type 0 where
  pub after : List A
  pub here : drop i table ≡ listing f ++ after
  pub sized : Sized span f

abbrev pub Stands : List Element → ℕ → Forest Element → Type 0
Stands table i f = Lies element_span table i f

abbrev pub element_at : List Element → ℕ → Element
element_at table i = slice_index_or table i empty

-- the elements are trees as a whole
abbrev pub WholeElements : List Element → Type 0
WholeElements table = (f : Forest Element) × Lists element_span f table

-- an element's tree stands at `i`, in a table that is a tree as a whole
pub record Rooted (table : List Element) (i : ℕ) : Type 0 where
  pub whole : Forest Element
  pub lists : Lists element_span whole table
  pub top : Element
  pub below : Forest Element
  pub after : Forest Element
  pub lies : Stands table i (plant top below after)
  pub inside : i + (1 + count below) ≤ length table
  pub sized : (element_at table i).size ≡ 1 + count below

-- ── Elements as the rules see them ──

-- an element with its numbers, and what is below it
abbrev pub label : List ℕ → ℕ → ℕ → Element → Numbered
label text i k e = numbered_as i k (shown_as text e)

abbrev pub spelled_by : List ℕ → Forest Element → Forest Spelled
spelled_by text f = relabel (shown_as text) f

abbrev pub kids : List ℕ → ℕ → ℕ → Forest Element → Forest Numbered
kids text i k below = numbered (i + 1) k (spelled_by text below)

-- the role of the element at `i`, by its own annotation
abbrev pub Reads : List Element → ℕ → Result Role Refusal → Type 0
Reads table i role =
    (e : Element) (below next : Forest Element) → Stands table i (plant e below next)
    → (text : List ℕ) (k : ℕ) → by_annotation i e.kind (or_required e.repetition) (kids text i k below) ≡ role
