-- Which rows are a schema, by their depths alone: as steps from row to row, and as a tree.
use Rattle.std.specs.Prelude.{◌≡◌, ℕ, ◌+◌, ◌≤◌, Bool, true, false, cond, ◌&&◌, List, [], ◌∷◌, map, length, is_some, is_none, ◌==◌, nat_le, nat_lt}
use Rattle.std.specs.List.{AllByRecursion}
use Rattle.tree.specs.Forest.{Forest, Tree, alone, listing, Lists}
use Rattle.tree.specs.Forest.Forest.{bare, plant}
use Rattle.schema.specs.declared.element.Element.{Element}
use Rattle.schema.specs.declared.element.Kind.{Kind}
use Rattle.schema.specs.declared.element.Kind.TheVariants as k
use Rattle.schema.specs.Elements.{element_span, is_group, lies_inside}
use Rattle.schema.specs.Decimals.{keeps_leaf_rules}

-- Records.

-- a group with no annotation
abbrev pub plain_group : Kind → Bool
plain_group (k.Group a) = is_none a
plain_group (k.Leaf l) = false

-- a leaf keeps the rules for its length and its decimal
abbrev pub kind_kept : Kind → Bool
kind_kept (k.Group a) = true
kind_kept (k.Leaf l) = keeps_leaf_rules l

-- the name lies inside the counted bytes
abbrev pub named_inside : ℕ → Element → Bool
named_inside bytes e = lies_inside bytes e.name

-- the root: at depth 0, with no repetition, a group with no annotation
abbrev pub root_kept : ℕ → Element → Bool
root_kept bytes e = e.depth == 0 && (is_none e.repetition && (plain_group e.kind && named_inside bytes e))

-- any other element: at depth 1 to 64, with a repetition
abbrev pub row_kept : ℕ → Element → Bool
row_kept bytes e = nat_le 1 e.depth && (nat_le e.depth 64 && (is_some e.repetition && (kind_kept e.kind && named_inside bytes e)))

-- Steps: a row lies at most one deeper than the row before it, and not deeper if that is a leaf.

abbrev pub deepest_after : Element → ℕ
deepest_after before = before.depth + cond (is_group before.kind) 1 0

abbrev pub may_follow : Element → Element → Bool
may_follow before e = nat_le e.depth (deepest_after before)

abbrev pub next_kept : ℕ → Element → Element → Bool
next_kept bytes before e = may_follow before e && row_kept bytes e

abbrev pub rest_kept : ℕ → Element → List Element → Bool
rest_kept bytes before [] = true
rest_kept bytes before (e ∷ es) = next_kept bytes before e && rest_kept bytes e es

abbrev pub rows_kept : ℕ → List Element → Bool
rows_kept bytes [] = false
rows_kept bytes (e ∷ es) = (nat_le (length es) 4095 && root_kept bytes e) && rest_kept bytes e es

-- A tree: each row's depth is its depth in the tree, and nothing lies below a leaf.

abbrev pub ByDepth : ℕ → Forest Element → Type 0
ByDepth d bare = Unit {0}
ByDepth d (plant e below after) = (e.depth ≡ d) × (is_group e.kind ≡ false → below ≡ bare) × ByDepth (d + 1) below × ByDepth d after

-- the rows list a tree by depth, of at most 4,096 rows, and every row keeps the records
pub record SchemaTree (bytes : ℕ) (t : Tree Element) (rows : List Element) : Type 0 where
  pub lists : listing (alone t) ≡ rows
  pub depths : ByDepth 0 (alone t)
  pub few : length rows ≤ 4096
  pub root : root_kept bytes t.root ≡ true
  pub others : AllByRecursion (λ e. row_kept bytes e ≡ true) (listing t.under)

abbrev pub IsSchema : ℕ → List Element → Type 0
IsSchema bytes rows = (t : Tree Element) × SchemaTree bytes t rows

-- and every row's size is the number of rows of its subtree
abbrev pub IsFinished : ℕ → List Element → Type 0
IsFinished bytes rows = (t : Tree Element) × SchemaTree bytes t rows × Lists element_span (alone t) rows

-- Sizes by depth.

abbrev pub depths_of : List Element → List ℕ
depths_of es = map (λ e. e.depth) es

-- how many depths at the front are deeper than d
abbrev pub deeper : ℕ → List ℕ → ℕ
deeper d [] = 0
deeper d (x ∷ xs) = cond (nat_lt d x) (deeper d xs + 1) 0

abbrev pub with_size : Element → ℕ → Element
with_size e n = record { name = e.name; depth = e.depth; repetition = e.repetition; field_id = e.field_id; size = n; kind = e.kind }

-- each row with its size: itself and the rows after it, up to the first that is not deeper
abbrev pub sized : List Element → List Element
sized [] = []
sized (e ∷ es) = with_size e (deeper e.depth (depths_of es) + 1) ∷ sized es

-- each row tells the size that the depths give
abbrev pub sizes_kept : List Element → Bool
sizes_kept [] = true
sizes_kept (e ∷ es) = e.size == deeper e.depth (depths_of es) + 1 && sizes_kept es

-- the rows are a finished schema
abbrev pub finished_kept : ℕ → List Element → Bool
finished_kept bytes rows = rows_kept bytes rows && sizes_kept rows
