-- What is wrong at an element, with its children and its hint: each fault by itself, whatever else is wrong. And the first fault in walking order.
use Rattle.std.specs.Prelude.{◌≡◌, ℕ, Bool, true, false, cond, not, ◌&&◌, ◌||◌, List, [], ◌∷◌, ◌++◌, Some, None, Option, ◌==◌, Ok, Err, Result}
use Rattle.std.specs.Str.{bytes_eq}
use Rattle.std.specs.List.{AllByRecursion}
use Rattle.arrow.specs.declared.types.ArrowType.{ArrowType}
use Rattle.walk.specs.Faults.{Typing, leaf_hint}
use Rattle.walk.specs.Forests.{Spot, first_below, one_tree, some_root, trees, two_trees}
use Rattle.walk.specs.Handing.{unwrap, wrapped}
use Rattle.walk.specs.Hints.{Hint, Nesting, any_list, any_map, any_struct, nesting, over_two, plain_list}
use Rattle.walk.specs.Labels.{is_leaf, is_repeated}
use Rattle.walk.specs.Reading.{Part, Read}
use Rattle.walk.specs.Reading.Part.{as_element, as_entries, as_field, as_key, as_middle, as_root}
use Rattle.walk.specs.declared.role.Role.{Role}
use Rattle.walk.specs.declared.role.Role.TheVariants.{Entries as entries, Listed as listed, Mapped as mapped, Middle as middle, Own as own}
use Rattle.schema.specs.Refusals.{number_of}
use Rattle.schema.specs.declared.basic.Repetition.{Repetition}
use Rattle.schema.specs.declared.element.Kind.{Kind}
use Rattle.schema.specs.declared.element.Kind.TheVariants.{Group as group, Leaf as leaf}
use Rattle.schema.specs.declared.refusal.Refusal.{Refusal}
use Rattle.tree.specs.Forest.{Forest}
use Rattle.tree.specs.Forest.Forest.{bare, plant}
use Rattle.schema.specs.declared.basic.Annotation.TheVariants as a
use Rattle.schema.specs.declared.refusal.Refusal.TheVariants as no

abbrev pub when : Bool → Refusal → List Refusal
when true r = r ∷ []
when false r = []

abbrev pub repeated_label : Read → Bool
repeated_label x = is_repeated x.of.repetition

abbrev pub repeated_group : Read → Bool
repeated_group x = repeated_label x && not (is_leaf x.of.kind)

-- ── The rules for LIST and MAP: element e, its repetition, its children ──

abbrev pub list_faults : ℕ → Repetition → Forest Read → List Refusal
list_faults e rep below =
    -- not one child
    when (not (one_tree below)) (no.ListChildren e)
    -- the one child is not repeated
    ++ (when (one_tree below && not (some_root repeated_label below)) (no.ListChildNotRepeated e)
    -- the group is repeated
    ++ when (is_repeated rep) (no.ListRepeated e))

abbrev pub map_faults : ℕ → Repetition → Forest Read → List Refusal
map_faults e rep below =
    -- the group is repeated
    when (is_repeated rep) (no.MapRepeated e)
    -- not one child
    ++ (when (not (one_tree below)) (no.MapChildren e)
    -- the one child is no repeated group
    ++ (when (one_tree below && not (some_root repeated_group below)) (no.MapChildNotRepeatedGroup e)
    -- the one child has neither one nor two children
    ++ (when (one_tree below && not (one_tree (first_below below) || two_trees (first_below below))) (no.EntriesChildren e)
    -- of its two children one is repeated
    ++ when (one_tree below && (two_trees (first_below below) && some_root repeated_label (first_below below))) (no.EntryRepeated e))))

abbrev pub rule_faults : ℕ → Kind → Repetition → Forest Read → List Refusal
rule_faults e (leaf l) rep below = []
rule_faults e (group None) rep below = []
rule_faults e (group (Some a.List)) rep below = list_faults e rep below
rule_faults e (group (Some a.Map)) rep below = map_faults e rep below
rule_faults e (group (Some a.MapKeyValue)) rep below = map_faults e rep below

-- the repeated child of a LIST or MAP group is not read by its own annotation
abbrev pub by_itself : Part → Bool
by_itself as_root = true
by_itself as_field = true
by_itself as_key = true
by_itself as_element = false
by_itself as_middle = false
by_itself as_entries = false

-- ── Hints: a hint that is absent is never wrong ──

-- another name than the child's
abbrev pub misnamed : Bool → List ℕ → Forest Hint → Bool
misnamed named name bare = false
misnamed named name (plant h below after) = named && not (bytes_eq h.name name)

-- of another kind
abbrev pub no_such : (Nesting → Bool) → Forest Hint → Bool
no_such test bare = false
no_such test (plant h below after) = not (test (nesting h.type))

-- a struct with another number of fields
abbrev pub miscounted : ℕ → Forest Hint → Bool
miscounted n bare = false
miscounted n (plant h below after) = any_struct (nesting h.type) && not (trees below == n)

-- a map that is not over a struct of two
abbrev pub not_over_two : Forest Hint → Bool
not_over_two bare = false
not_over_two (plant h below after) = any_map (nesting h.type) && not (over_two (plant h below after))

abbrev pub untyped : Option ArrowType → Bool
untyped None = true
untyped (Some t) = false

-- a struct, with a list of its own round it or not, that has n children
abbrev pub struct_faults : ℕ → Bool → Forest Hint → ℕ → List Refusal
struct_faults e w hint n =
    when (w && no_such plain_list hint) (no.HintKind e)
    ++ (when (no_such any_struct (unwrap w hint)) (no.HintKind e)
    ++ when (miscounted n (unwrap w hint)) (no.HintFieldCount e))

abbrev pub group_faults : ℕ → Result Role Refusal → Bool → Forest Hint → ℕ → List Refusal
group_faults e (Ok own) w hint n = struct_faults e w hint n
group_faults e (Ok listed) w hint n = when (no_such any_list hint) (no.HintKind e)
group_faults e (Ok middle) w hint n = []
group_faults e (Ok mapped) w hint n = when (no_such any_map hint) (no.HintKind e) ++ when (not_over_two hint) (no.HintMap e)
group_faults e (Ok entries) w hint n = []
group_faults e (Err r) w hint n = []

module _ (typing : Typing) (chosen : ℕ → Bool) where
  abbrev pub hint_faults : Kind → Read → Bool → ℕ → List Refusal
  hint_faults (leaf l) x w n =
      when (chosen x.of.leaf_number && (w && no_such plain_list x.given.hint)) (no.HintKind x.of.number)
      ++ when (chosen x.of.leaf_number && untyped (typing l (leaf_hint x))) (no.LeafType x.of.number)
  hint_faults (group a) x w n = group_faults x.of.number x.role w x.given.hint n

  -- The faults of an element: its name in its parent's hint, the rules for LIST and MAP, its own hint.
  abbrev pub faults_at : Spot Read → List Refusal
  faults_at p =
      let x = p.node in
      when (misnamed x.given.named x.of.name x.given.hint) (no.HintFieldName x.of.number)
      ++ (cond (by_itself x.part) (rule_faults x.of.number x.of.kind x.of.repetition p.below) []
      ++ hint_faults x.of.kind x (wrapped x.part x.of.repetition) (trees p.below))

  abbrev pub Faultless : Spot Read → Type 0
  Faultless p = faults_at p ≡ []

  -- r is the first fault on the walk over these elements
  pub record FirstFault (walked : List (Spot Read)) (r : Refusal) : Type 0 where
    pub before : List (Spot Read)
    pub here : Spot Read
    pub after : List (Spot Read)
    pub splits : walked ≡ before ++ here ∷ after
    pub none_before : AllByRecursion Faultless before
    pub others : List Refusal
    pub first : faults_at here ≡ r ∷ others

-- The elements in walking order: an element, what is below it, what comes after it.
abbrev pub below_groups : Kind → List (Spot Read) → List (Spot Read)
below_groups (leaf l) ps = []
below_groups (group a) ps = ps

abbrev pub walked : Forest Read → List (Spot Read)
walked bare = []
walked (plant x below after) = record { node = x; below = below } ∷ (below_groups x.of.kind (walked below) ++ walked after)

-- in which order the faults of one element count: its name first, and then by their numbers
abbrev pub rank : Refusal → ℕ
rank r = cond (number_of r == 20) 0 (number_of r)
