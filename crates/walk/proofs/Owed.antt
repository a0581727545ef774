-- In a schema that is read, what an optional LIST or MAP group passes-null falls to a repeated child.
use Rattle.std.proofs.Common.{◌≡◌, ℕ, Bool, true, false, cond, not, ◌&&◌, ◌||◌, List, sym, refl, ap, ◌∙◌, subst, Some, None, Ok, Err, Result}
use Rattle.walk.proofs.Follow.{Owing}
use Rattle.walk.specs.Labels.{Numbered, is_leaf, is_optional, is_repeated, repeated_element}
use Rattle.walk.specs.Reading.{Holder, Part, by_annotation, child_part, entries_role, first_is_element, held_by, list_child, list_role, map_child, map_role, next_part, reading, role_of}
use Rattle.walk.specs.Reading.Part.{as_element, as_entries, as_field, as_key, as_middle, as_root}
use Rattle.walk.specs.Shape.{has_own, passes_null}
use Rattle.schema.specs.declared.refusal.Refusal.{Refusal}
use Rattle.walk.specs.declared.role.Role.{Role}
use Rattle.walk.specs.declared.role.Role.TheVariants.{Entries as entries, Listed as listed, Mapped as mapped, Middle as middle, Own as own}
use Rattle.schema.specs.declared.basic.Repetition.{Repetition}
use Rattle.schema.specs.declared.basic.Repetition.TheVariants.{Optional as optional, Repeated as repeated, Required as required}
use Rattle.schema.specs.declared.element.Kind.{Kind}
use Rattle.schema.specs.declared.element.Kind.TheVariants.{Group as group, Leaf as leaf}
use Rattle.tree.specs.Forest.{Forest}
use Rattle.tree.specs.Forest.Forest.{bare, plant}
use Rattle.schema.specs.declared.basic.Annotation.TheVariants as a
use Rattle.schema.specs.declared.refusal.Refusal.TheVariants as no

abbrev from_group : Part → Bool
from_group as_root = false
from_group as_field = false
from_group as_key = false
from_group as_element = true
from_group as_middle = true
from_group as_entries = true

abbrev Roots : Bool → Forest Numbered → Type 0
Roots b bare = Unit {0}
Roots b (plant x below after) = (b ≡ true → x.repetition ≡ repeated) × Roots b after

roots_free : (f : Forest Numbered) → Roots false f
roots_free bare = tt
roots_free (plant x below after) = ((λ e. cc), roots_free after)

is_rep : (r : Repetition) → is_repeated r ≡ true → r ≡ repeated
is_rep required e = cc
is_rep optional e = cc
is_rep repeated e = refl

-- what a role wants of the element and of what is below it
abbrev Wants : Repetition → Forest Numbered → Result Role Refusal → Type 0
Wants r below (Ok own) = Unit {0}
Wants r below (Ok listed) = Roots true below
Wants r below (Ok middle) = r ≡ repeated
Wants r below (Ok mapped) = Roots true below
Wants r below (Ok entries) = r ≡ repeated
Wants r below (Err n) = Unit {0}

entries_wants : (n : ℕ) (r : Repetition) (below : Forest Numbered) → Roots true below → (f : Forest Numbered) → Wants r below (entries_role n f)
entries_wants n r below h bare = tt
entries_wants n r below h (plant k kb bare) = h
entries_wants n r below h (plant k kb (plant v vb bare)) = go (repeated_element k || repeated_element v)
  where
    go : (b : Bool) → Wants r below (cond b (Err (no.EntryRepeated n)) (Ok mapped))
    go true = tt
    go false = h
entries_wants n r below h (plant k kb (plant v vb (plant w wb after))) = tt

one_root : (c : Numbered) (cb : Forest Numbered) → repeated_element c ≡ true → Roots true (plant c cb bare)
one_root c cb e = ((λ _. is_rep c.repetition e), tt)

list_wants : (n : ℕ) (r : Repetition) (below : Forest Numbered) → Wants r below (list_role n r below)
list_wants n r bare = tt
list_wants n r (plant c cb (plant d db after)) = tt
list_wants n r (plant c cb bare) = go (repeated_element c) (is_repeated r) refl
  where
    go : (b again : Bool) → repeated_element c ≡ b → Wants r (plant c cb bare) (list_child n b again)
    go false again e = tt
    go true true e = tt
    go true false e = one_root c cb e

map_child_wants : (n : ℕ) (r : Repetition) (below : Forest Numbered) → Wants r below (map_child n below)
map_child_wants n r bare = tt
map_child_wants n r (plant c cb (plant d db after)) = tt
map_child_wants n r (plant c cb bare) = go (repeated_element c) (not (is_leaf c.kind)) refl
  where
    go : (b g : Bool) → repeated_element c ≡ b → Wants r (plant c cb bare) (cond (b && g) (entries_role n cb) (Err (no.MapChildNotRepeatedGroup n)))
    go false g e = tt
    go true false e = tt
    go true true e = entries_wants n r (plant c cb bare) (one_root c cb e) cb

map_wants : (n : ℕ) (r : Repetition) (below : Forest Numbered) → Wants r below (map_role n r below)
map_wants n r below = go (is_repeated r)
  where
    go : (b : Bool) → Wants r below (cond b (Err (no.MapRepeated n)) (map_child n below))
    go true = tt
    go false = map_child_wants n r below

annotation_wants : (n : ℕ) (k : Kind) (r : Repetition) (below : Forest Numbered) → Wants r below (by_annotation n k r below)
annotation_wants n (leaf l) r below = tt
annotation_wants n (group None) r below = tt
annotation_wants n (group (Some a.List)) r below = list_wants n r below
annotation_wants n (group (Some a.Map)) r below = map_wants n r below
annotation_wants n (group (Some a.MapKeyValue)) r below = map_wants n r below

role_wants : (t : Part) (x : Numbered) (below : Forest Numbered) → (from_group t ≡ true → x.repetition ≡ repeated) → Wants x.repetition below (role_of t x below)
role_wants as_root x below h = annotation_wants x.number x.kind x.repetition below
role_wants as_field x below h = annotation_wants x.number x.kind x.repetition below
role_wants as_key x below h = annotation_wants x.number x.kind x.repetition below
role_wants as_element x below h = tt
role_wants as_middle x below h = h refl
role_wants as_entries x below h = h refl

group_either : (b : Bool) → from_group (cond b as_element as_middle) ≡ true
group_either true = refl
group_either false = refl

Fine : Repetition → List ℕ → Forest Numbered → Result Role Refusal → Type 0
Fine r name below role =
    (passes_null (has_own role) r ≡ true → from_group (child_part role name below) ≡ true) × Roots (from_group (child_part role name below)) below

repeated_owes : (r : Repetition) → r ≡ repeated → is_optional r ≡ true → false ≡ true
repeated_owes r e h = ap is_optional (sym e) ∙ h

fine : (r : Repetition) (name : List ℕ) (below : Forest Numbered) (role : Result Role Refusal) → Wants r below role → Fine r name below role
unfolding Fine
fine r name below (Ok own) w = ((λ e. cc), roots_free below)
fine r name below (Ok listed) w =
    (λ _. group_either (first_is_element name below), subst (λ (b : Bool). Roots b below) (sym (group_either (first_is_element name below))) w)
fine r name below (Ok middle) w = (λ e. repeated_owes r w e, roots_free below)
fine r name below (Ok mapped) w = (λ _. refl, w)
fine r name below (Ok entries) w = (λ e. repeated_owes r w e, roots_free below)
fine r name below (Err n) w = ((λ e. cc), roots_free below)

next_same : (t : Part) → from_group (next_part t) ≡ from_group t
next_same as_root = refl
next_same as_field = refl
next_same as_key = refl
next_same as_element = refl
next_same as_middle = refl
next_same as_entries = refl

pub owing : (t : Part) (g : Holder) (f : Forest Numbered) (p : Bool) → (p ≡ true → from_group t ≡ true) → Roots (from_group t) f → Owing p (reading t g f)
unfolding Fine reading
owing t g bare p h r = tt
owing t g (plant x below after) p h r =
    let role = role_of t x below in
    let a = fine x.repetition x.name below role (role_wants t x below r.0) in (
      (λ e. r.0 (h e)),
      owing (child_part role x.name below) (held_by t g x) below (passes_null (has_own role) x.repetition) a.0 a.1,
      owing (next_part t) g after p (λ e. next_same t ∙ h e) (subst (λ (b : Bool). Roots b after) (sym (next_same t)) r.1),
    )

pub owing_none : (g : Holder) (f : Forest Numbered) → Owing false (reading as_root g f)
owing_none g f = owing as_root g f false (λ e. cc) (roots_free f)
