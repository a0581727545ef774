-- What of a schema gives rows, by the leaves that are chosen.
use Rattle.std.specs.Prelude.{ℕ, Bool, true, false, not, ◌&&◌, ◌||◌, Ok, Err, Result}
use Rattle.tree.specs.Forest.{Forest}
use Rattle.tree.specs.Forest.Forest.{bare, plant}
use Rattle.schema.specs.declared.element.Kind.{Kind}
use Rattle.schema.specs.declared.element.Kind.TheVariants.{Leaf as leaf, Group as group}
use Rattle.schema.specs.declared.refusal.Refusal.{Refusal}
use Rattle.walk.specs.declared.role.Role.{Role}
use Rattle.walk.specs.declared.role.Role.TheVariants.{Own as own, Listed as listed, Middle as middle, Mapped as mapped, Entries as entries}
use Rattle.walk.specs.Forests.{Spot}
use Rattle.walk.specs.Reading.{Read}

module _ (chosen : ℕ → Bool) where
  -- A leaf yields if it is chosen; a map of key and value if both do; a struct if some child does, a list if its element does.
  abbrev pub yields_by : Kind → Result Role Refusal → ℕ → Bool → Bool → Bool
  yields_by (leaf l) r k some both = chosen k
  yields_by (group n) (Ok own) k some both = some
  yields_by (group n) (Ok listed) k some both = some
  yields_by (group n) (Ok middle) k some both = some
  yields_by (group n) (Ok mapped) k some both = both && some
  yields_by (group n) (Ok entries) k some both = some
  yields_by (group n) (Err m) k some both = some

  abbrev mutual
    -- whether some tree of a forest yields
    pub some_yield : Forest Read → Bool
    some_yield bare = false
    some_yield (plant x below after) =
        yields_by x.of.kind x.role x.of.leaf_number (some_yield below) (both_yield below) || some_yield after

    -- of what is below a MAP group, its entries: whether key and value yield
    pub both_yield : Forest Read → Bool
    both_yield bare = true
    both_yield (plant x sides after) = every_yield sides

    pub every_yield : Forest Read → Bool
    every_yield bare = true
    every_yield (plant x below after) =
        yields_by x.of.kind x.role x.of.leaf_number (some_yield below) (both_yield below) && every_yield after

-- A map is half-taken if one of key and value yields, and not both.
abbrev pub half_by : Result Role Refusal → Bool → Bool → Bool
half_by (Ok own) some both = false
half_by (Ok listed) some both = false
half_by (Ok middle) some both = false
half_by (Ok mapped) some both = not both && some
half_by (Ok entries) some both = false
half_by (Err n) some both = false

abbrev pub half_taken : (ℕ → Bool) → Spot Read → Bool
half_taken chosen p = half_by p.node.role (some_yield chosen p.below) (both_yield chosen p.below)
