-- What the walk refuses, element by element.
use Rattle.std.specs.Prelude.{ℕ, Bool, true, false, cond, List, [], ◌∷◌, ◌++◌, Some, None, Option, Ok, Err, Result}
use Rattle.std.specs.Str.{bytes_eq}
use Rattle.tree.specs.Forest.{Forest}
use Rattle.tree.specs.Forest.Forest.{bare, plant}
use Rattle.schema.specs.declared.element.Leaf.{Leaf}
use Rattle.schema.specs.declared.element.Kind.{Kind}
use Rattle.schema.specs.declared.element.Kind.TheVariants.{Leaf as leaf, Group as group}
use Rattle.schema.specs.declared.refusal.Refusal.{Refusal}
use Rattle.schema.specs.declared.refusal.Refusal.TheVariants as no
use Rattle.arrow.specs.declared.types.ArrowType.{ArrowType}
use Rattle.walk.specs.declared.role.Role.{Role}
use Rattle.walk.specs.declared.role.Role.TheVariants.{Own as own, Listed as listed, Middle as middle, Mapped as mapped, Entries as entries}
use Rattle.walk.specs.Forests.{trees}
use Rattle.walk.specs.Hints.{Hint, any_list, plain_list, any_struct, any_map, fits, has_children, over_two}
use Rattle.walk.specs.Reading.{Read}
use Rattle.walk.specs.Handing.{wrapped, unwrap}

abbrev pub unless : Bool → Refusal → List Refusal
unless true r = []
unless false r = r ∷ []

-- 20: a struct hint has another name for this child
abbrev pub name_checks : ℕ → Bool → List ℕ → Forest Hint → List Refusal
name_checks e false name hint = []
name_checks e true name bare = []
name_checks e true name (plant h below after) = unless (bytes_eq h.name name) (no.HintFieldName e)

-- 18: the hint of an element with a list of its own is no List, LargeList or FixedSizeList
abbrev pub wrap_checks : ℕ → Bool → Forest Hint → List Refusal
wrap_checks e false hint = []
wrap_checks e true hint = unless (fits plain_list hint) (no.HintKind e)

-- 18, 19: the hint of a struct is no struct, or has another number of fields
abbrev pub struct_checks : ℕ → Forest Hint → ℕ → List Refusal
struct_checks e hint n = unless (fits any_struct hint) (no.HintKind e) ++ unless (has_children n hint) (no.HintFieldCount e)

-- 18: the hint of a list is none of the five kinds of lists
abbrev pub list_checks : ℕ → Forest Hint → List Refusal
list_checks e hint = unless (fits any_list hint) (no.HintKind e)

-- 18, 21: the hint of a map is no map, or not over a struct of two
abbrev pub map_checks : ℕ → Forest Hint → List Refusal
map_checks e hint = unless (fits any_map hint) (no.HintKind e) ++ unless (over_two hint) (no.HintMap e)

-- 22: the leaf has no Arrow type
abbrev pub type_checks : ℕ → Option ArrowType → List Refusal
type_checks e None = no.LeafType e ∷ []
type_checks e (Some t) = []

-- 10 to 17 stand in the role of a group that breaks the rules; its hint is not looked at any more
abbrev pub group_checks : ℕ → Result Role Refusal → Bool → Forest Hint → ℕ → List Refusal
group_checks e (Ok own) w hint n = wrap_checks e w hint ++ struct_checks e (unwrap w hint) n
group_checks e (Ok listed) w hint n = list_checks e hint
group_checks e (Ok middle) w hint n = []
group_checks e (Ok mapped) w hint n = map_checks e hint
group_checks e (Ok entries) w hint n = []
group_checks e (Err r) w hint n = r ∷ []

-- The Arrow type of a leaf under a hint that may be absent, or none where its own type is in error.
abbrev pub Typing : Type 0
Typing = Leaf → Forest Hint → Option ArrowType

-- the hint that a leaf's type is asked under
abbrev pub leaf_hint : Read → Forest Hint
leaf_hint x = unwrap (wrapped x.part x.of.repetition) x.given.hint

module _ (typing : Typing) (chosen : ℕ → Bool) where
  -- what is refused of an element by itself; a leaf that is not chosen is not looked at
  abbrev pub own_checks : Kind → Read → Bool → ℕ → List Refusal
  own_checks (leaf l) x w n =
      cond (chosen x.of.leaf_number) (wrap_checks x.of.number w x.given.hint ++ type_checks x.of.number (typing l (leaf_hint x))) []
  own_checks (group a) x w n = group_checks x.of.number x.role w x.given.hint n

  -- its name first, and then the element itself, which has n children
  abbrev pub checks : Read → ℕ → List Refusal
  checks x n =
      name_checks x.of.number x.given.named x.of.name x.given.hint
      ++ own_checks x.of.kind x (wrapped x.part x.of.repetition) n

  -- nothing is looked at below a leaf
  abbrev pub below_group : Kind → List Refusal → List Refusal
  below_group (leaf l) rs = []
  below_group (group a) rs = rs

  -- All that is wrong, in walking order: an element, then everything below it, then the elements after it. The first counts; what
  -- comes after it may be wrong for the same reason.
  unfoldable pub refusals : Forest Read → List Refusal
  refusals bare = []
  refusals (plant x below after) = (checks x (trees below) ++ below_group x.of.kind (refusals below)) ++ refusals after
