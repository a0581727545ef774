-- Which hint reaches which element.
use Rattle.std.specs.Prelude.{Bool, true, false, Ok, Err, Result}
use Rattle.tree.specs.Forest.{Forest}
use Rattle.tree.specs.Forest.Forest.{bare, plant}
use Rattle.schema.specs.declared.basic.Repetition.{Repetition}
use Rattle.schema.specs.declared.refusal.Refusal.{Refusal}
use Rattle.walk.specs.declared.role.Role.{Role}
use Rattle.walk.specs.declared.role.Role.TheVariants.{Own as own, Listed as listed, Middle as middle, Mapped as mapped, Entries as entries}
use Rattle.walk.specs.Labels.{is_repeated}
use Rattle.walk.specs.Hints.{Hint, sole, others, inside}
use Rattle.walk.specs.Reading.{Part, Read}
use Rattle.walk.specs.Reading.Part.{as_root, as_field, as_key, as_element, as_middle, as_entries}

-- Whether an element has a list row for itself alone: it is repeated, and not the repeated child of a LIST or MAP group.
abbrev pub wrapped : Part → Repetition → Bool
wrapped as_root r = is_repeated r
wrapped as_field r = is_repeated r
wrapped as_key r = is_repeated r
wrapped as_element r = false
wrapped as_middle r = false
wrapped as_entries r = false

-- Such an element's hint is a list, and the element inside is hinted by the list's child.
abbrev pub unwrap : Bool → Forest Hint → Forest Hint
unwrap false hint = hint
unwrap true hint = sole (inside hint)

-- The hints that an element's children are given, first to first: a struct's children the hint's fields; the repeated child of a
-- LIST group the list's child, and rule 5's element the same; the entries of a MAP group the map's child, and key and value its fields.
abbrev pub hands_on : Result Role Refusal → Bool → Forest Hint → Forest Hint
hands_on (Ok own) w hint = inside (unwrap w hint)
hands_on (Ok listed) w hint = sole (inside hint)
hands_on (Ok middle) w hint = hint
hands_on (Ok mapped) w hint = sole (inside hint)
hands_on (Ok entries) w hint = inside hint
hands_on (Err r) w hint = bare

-- only a struct's children are compared by name
abbrev pub compares_names : Result Role Refusal → Bool
compares_names (Ok own) = true
compares_names (Ok listed) = false
compares_names (Ok middle) = false
compares_names (Ok mapped) = false
compares_names (Ok entries) = false
compares_names (Err r) = false

-- the hint of the field that the outermost row stands in: for the repeated child of a LIST or MAP group, the group's; the root's field has none
abbrev pub field_hint : Part → Forest Hint → Forest Hint → Forest Hint
field_hint as_root up hint = up
field_hint as_field up hint = hint
field_hint as_key up hint = hint
field_hint as_element up hint = up
field_hint as_middle up hint = up
field_hint as_entries up hint = up

abbrev pub with_hint : Read → Bool → Forest Hint → Forest Hint → Read
with_hint x named up hints =
    record {
      of = x.of;
      role = x.role;
      part = x.part;
      holder = x.holder;
      given = record { named = named; hint = sole hints; field = field_hint x.part up (sole hints) };
    }

-- Hints handed out over elements side by side, first to first; `up` is the field hint of what is above them.
unfoldable pub hinting : Bool → Forest Hint → Forest Hint → Forest Read → Forest Read
hinting named up hints bare = bare
hinting named up hints (plant x below after) =
    plant (with_hint x named up hints)
    (hinting (compares_names x.role) (field_hint x.part up (sole hints)) (hands_on x.role (wrapped x.part x.of.repetition) (sole hints)) below)
    (hinting named up (others hints) after)
