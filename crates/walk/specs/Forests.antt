-- Trees side by side, whatever their labels: how they are put together, and the ways down to their leaves.
use Rattle.std.specs.Prelude.{ℕ, suc, max, Bool, true, false, cond, ◌||◌, List, [], ◌∷◌, ◌++◌, map}
use Rattle.tree.specs.Forest.{Forest}
use Rattle.tree.specs.Forest.Forest.{bare, plant}

-- the trees of two forests, side by side
abbrev pub beside : {A : Type 0} → Forest A → Forest A → Forest A
beside bare g = g
beside (plant a below after) g = plant a below (beside after g)

-- labels one below the other round a forest, and nothing round nothing
abbrev pub over : {A : Type 0} → List A → Forest A → Forest A
over rows bare = bare
over [] (plant a below after) = plant a below after
over (r ∷ rows) (plant a below after) = plant r (over rows (plant a below after)) bare

-- the same trees under other labels
abbrev pub relabel : {A B : Type 0} → (A → B) → Forest A → Forest B
relabel f bare = bare
relabel f (plant a below after) = plant (f a) (relabel f below) (relabel f after)

-- whether there is a tree at all
abbrev pub planted : {A : Type 0} → Forest A → Bool
planted bare = false
planted (plant a below after) = true

-- how many trees stand side by side
abbrev pub trees : {A : Type 0} → Forest A → ℕ
trees bare = 0
trees (plant a below after) = suc (trees after)

-- the most labels on a way down
abbrev pub height : {A : Type 0} → Forest A → ℕ
height bare = 0
height (plant a below after) = max (suc (height below)) (height after)

-- A way down to a leaf: what stands above it, from the top down, and the leaf.
pub record Way (A : Type 0) : Type 0 where
  pub above : List A
  pub end : A

-- all that stands on the way, the leaf last
abbrev pub along : {A : Type 0} → Way A → List A
along w = w.above ++ w.end ∷ []

abbrev pub straight : {A : Type 0} → A → Way A
straight a = record { above = []; end = a }

abbrev pub under : {A : Type 0} → A → Way A → Way A
under a w = record { above = a ∷ w.above; end = w.end }

abbrev pub on_way : {A B : Type 0} → (A → B) → Way A → Way B
on_way f w = record { above = map f w.above; end = f w.end }

-- The ways down to the leaves of a forest, in preorder. What lies below a leaf is not looked at.
abbrev pub ways : {A : Type 0} → (A → Bool) → Forest A → List (Way A)
ways leaf bare = []
ways leaf (plant a below after) = cond (leaf a) (straight a ∷ []) (map (under a) (ways leaf below)) ++ ways leaf after

-- a label together with what lies below it
pub record Spot (A : Type 0) : Type 0 where
  pub node : A
  pub below : Forest A

abbrev pub spots : {A : Type 0} → Forest A → Forest (Spot A)
spots bare = bare
spots (plant a below after) = plant (record { node = a; below = below }) (spots below) (spots after)

-- exactly one tree, exactly two
abbrev pub one_tree : {A : Type 0} → Forest A → Bool
one_tree bare = false
one_tree (plant a below bare) = true
one_tree (plant a below (plant b more after)) = false

abbrev pub two_trees : {A : Type 0} → Forest A → Bool
two_trees bare = false
two_trees (plant a below after) = one_tree after

-- whether some tree's root passes
abbrev pub some_root : {A : Type 0} → (A → Bool) → Forest A → Bool
some_root test bare = false
some_root test (plant a below after) = test a || some_root test after

-- the trees below the first root
abbrev pub first_below : {A : Type 0} → Forest A → Forest A
first_below bare = bare
first_below (plant a below after) = below

-- the roots of the trees, in order
abbrev pub roots : {A : Type 0} → Forest A → List A
roots bare = []
roots (plant a below after) = a ∷ roots after
