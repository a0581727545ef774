-- The elements of a schema, with their numbers.
use Rattle.std.specs.Prelude.{ℕ, ◌+◌, Bool, true, false, cond, List, ℤ, Some, None, Option}
use Rattle.walk.specs.Forests.{relabel}
use Rattle.schema.specs.Posts.{shown_as}
use Rattle.schema.specs.Words.{Spelled}
use Rattle.schema.specs.declared.basic.Repetition.{Repetition}
use Rattle.schema.specs.declared.basic.Repetition.TheVariants.{Optional as optional, Repeated as repeated, Required as required}
use Rattle.schema.specs.declared.element.Element.{Element}
use Rattle.schema.specs.declared.element.Kind.{Kind}
use Rattle.schema.specs.declared.element.Kind.TheVariants.{Group as group, Leaf as leaf}
use Rattle.tree.specs.Forest.{Forest, Tree, count}
use Rattle.tree.specs.Forest.Forest.{bare, plant}

abbrev pub is_leaf : Kind → Bool
is_leaf (leaf l) = true
is_leaf (group a) = false

abbrev pub is_optional : Repetition → Bool
is_optional required = false
is_optional optional = true
is_optional repeated = false

abbrev pub is_repeated : Repetition → Bool
is_repeated required = false
is_repeated optional = false
is_repeated repeated = true

-- the root has no repetition and counts as required: it stands once, and adds to no level
abbrev pub or_required : Option Repetition → Repetition
or_required None = required
or_required (Some r) = r

-- An element as the walk sees it.
pub record Numbered : Type 0 where
  -- its element number: its place in the table
  pub number : ℕ
  -- how many leaves come before it: for a leaf, its leaf number
  pub leaf_number : ℕ
  pub name : List ℕ
  pub repetition : Repetition
  pub field_id : Option ℤ
  pub kind : Kind

abbrev pub numbered_as : ℕ → ℕ → Spelled → Numbered
numbered_as n k e = record { number = n; leaf_number = k; name = e.name; repetition = or_required e.repetition; field_id = e.fieldId; kind = e.kind }

-- how many leaves a forest has
abbrev pub leaf_count : Forest Spelled → ℕ
leaf_count bare = 0
leaf_count (plant e below after) = cond (is_leaf e.kind) 1 (leaf_count below) + leaf_count after

-- Elements and leaves are numbered in preorder, from n and k on, chosen or not.
abbrev pub numbered : ℕ → ℕ → Forest Spelled → Forest Numbered
numbered n k bare = bare
numbered n k (plant e below after) =
    plant (numbered_as n k e)
    (numbered (n + 1) k below)
    (numbered (n + 1 + count below) (k + cond (is_leaf e.kind) 1 (leaf_count below)) after)

abbrev pub leaf_node : Numbered → Bool
leaf_node x = is_leaf x.kind

abbrev pub repeated_element : Numbered → Bool
repeated_element x = is_repeated x.repetition

-- the tree of a table's rows, names as the bytes that lie in the name memory
abbrev pub shown_tree : List ℕ → Tree Element → Tree Spelled
shown_tree names t = record { root = shown_as names t.root; under = relabel (shown_as names) t.under }
