-- The Arrow type of a leaf, with its hint.
use Rattle.std.specs.Prelude.{ℕ, Bool, true, false, List, drop, Some, None, Ok, Err, Option, Result}
use Rattle.tree.specs.Forest.{Forest}
use Rattle.tree.specs.Forest.Forest.{bare, plant}
use Rattle.schema.specs.declared.basic.PhysicalType.{PhysicalType}
use Rattle.schema.specs.declared.basic.PhysicalType.TheVariants as p
use Rattle.schema.specs.declared.element.Leaf.{Leaf}
use Rattle.schema.specs.declared.refusal.Refusal.{Refusal}
use Rattle.schema.specs.declared.refusal.Refusal.TheVariants.{LeafType}
use Rattle.arrow.specs.declared.types.ArrowType.{ArrowType}
use Rattle.arrow.specs.declared.hint.HintRow.{HintRow}
use Rattle.arrow.specs.Table.{Answer, leaf_type}
use Rattle.arrow.specs.Hints.{hinted, hinted_by}

-- an INT64 has a time only by its annotation, which says the unit
abbrev pub unit_fixed : PhysicalType → Bool
unit_fixed p.Int64 = true
unit_fixed t = false

-- what the hint at a row, if one is given, makes of the leaf's own type
abbrev pub under_hint : Leaf → List HintRow → List ℕ → Option ℕ → ArrowType → ArrowType
under_hint f hints text None t = t
under_hint f hints text (Some i) t = hinted (unit_fixed f.physical) text t i (drop i hints)

abbrev pub if_typed : (ArrowType → ArrowType) → Answer → Answer
if_typed g (Some t) = Some (g t)
if_typed g None = None

-- a leaf that has no type by itself has none under any hint
abbrev pub converted_leaf : Leaf → List HintRow → List ℕ → Option ℕ → Answer
converted_leaf f hints text row = if_typed (under_hint f hints text row) (leaf_type f)

-- the same in a tree's words: the hint is the first tree of a forest whose rows begin at the place i, if there is one
abbrev pub typed_under : Leaf → List ℕ → ℕ → Forest HintRow → Answer
typed_under f text i bare = leaf_type f
typed_under f text i (plant h below after) = if_typed (λ t. hinted_by (unit_fixed f.physical) text t i h below) (leaf_type f)

-- the refusal names the element
abbrev pub answered : ℕ → Answer → Result ArrowType Refusal
answered e (Some t) = Ok t
answered e None = Err (LeafType e)
