-- The levels of the format, on a schema's flat table: nothing here follows a walk.
use Rattle.std.specs.Prelude.{ℕ, ◌+◌, ◌-◌, Bool, true, false, cond, not, List, [], ◌∷◌, length, Some, None, filter, Option, ◌==◌, nat_eq, slice_index_or}
use Rattle.std.specs.List.{range_with_len}
use Rattle.tree.specs.Around.{holds_place}
use Rattle.schema.specs.declared.basic.Repetition.{Repetition}
use Rattle.schema.specs.declared.basic.Repetition.TheVariants.{Required, Optional, Repeated}
use Rattle.schema.specs.declared.element.Element.{Element}
use Rattle.schema.specs.Elements.{element_span, is_group, empty}

abbrev pub row_at : List Element → ℕ → Element
row_at rows i = slice_index_or rows i empty

-- The path of an element: the elements but the root whose stretch holds it, from the top down, itself the last.
abbrev pub path_of : List Element → ℕ → List ℕ
path_of rows e = filter (λ i. holds_place element_span rows i e) (range_with_len 1 e)

abbrev pub repeats : Option Repetition → Bool
repeats None = false
repeats (Some Required) = false
repeats (Some Optional) = false
repeats (Some Repeated) = true

-- an element that may be missing: optional or repeated
abbrev pub may_miss : Option Repetition → Bool
may_miss None = false
may_miss (Some Required) = false
may_miss (Some Optional) = true
may_miss (Some Repeated) = true

-- The highest repetition level of a path: how many of its elements are repeated.
abbrev pub rep_level : List Element → List ℕ → ℕ
rep_level rows [] = 0
rep_level rows (i ∷ is) = cond (repeats (row_at rows i).repetition) 1 0 + rep_level rows is

-- The highest definition level of a path: how many of its elements are optional or repeated.
abbrev pub def_level : List Element → List ℕ → ℕ
def_level rows [] = 0
def_level rows (i ∷ is) = cond (may_miss (row_at rows i).repetition) 1 0 + def_level rows is

-- the front of a path down to its last repeated element; nothing where none is repeated
abbrev pub to_repeated : List Element → List ℕ → List ℕ
to_repeated rows [] = []
to_repeated rows (i ∷ is) = cond (rep_level rows (i ∷ is) == 0) [] (i ∷ to_repeated rows is)

-- The definition level of the nearest repeated element of a path, 0 without one.
abbrev pub repeated_def_level : List Element → List ℕ → ℕ
repeated_def_level rows is = def_level rows (to_repeated rows is)

-- how many children of the root, the elements at depth 1, come before an element
abbrev pub roots_before : List Element → ℕ → ℕ
roots_before rows c = length (filter (λ i. nat_eq (row_at rows i).depth 1) (range_with_len 1 (c - 1)))

-- which child of the root a path goes through, from 0
abbrev pub root_of : List Element → List ℕ → ℕ
root_of rows [] = 0
root_of rows (c ∷ is) = roots_before rows c

abbrev pub is_leaf : List Element → ℕ → Bool
is_leaf rows i = not (is_group (row_at rows i).kind)

-- the leaves among the n elements from a on, in order
abbrev pub leaves_in : List Element → ℕ → ℕ → List ℕ
leaves_in rows a n = filter (is_leaf rows) (range_with_len a n)

-- The leaves of a schema, in order: leaf number k is the k-th of them.
abbrev pub leaves_of : List Element → List ℕ
leaves_of rows = leaves_in rows 0 (length rows)
