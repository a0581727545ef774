-- Hints reach elements and fields are told as the laws say.
use Rattle.std.proofs.Common.{◌≡◌, ℕ, zero, suc, Bool, true, false, not, ◌&&◌, [], Some, None, sym, refl, ap, ◌∙◌, subst, ap₂, Option, Result}
use Rattle.walk.proofs.Lists.{all_append}
use Rattle.std.proofs.lemmas.Bool.{true≢false}
use Rattle.std.proofs.lemmas.Option.{none-some}
use Rattle.std.specs.List.{slice_get, AllByRecursion}
use Rattle.arrow.specs.declared.row.Metadata.{Metadata}
use Rattle.walk.specs.Faults.{Typing}
use Rattle.walk.specs.Fields.{Child, FieldOf, FieldsBelow, HandsOn, first_of, general_field, is_key, nth_hint, outer_field}
use Rattle.walk.specs.Forests.{Spot, roots, spots}
use Rattle.walk.specs.Handing.{compares_names, field_hint, hands_on, hinting, with_hint, wrapped}
use Rattle.walk.specs.Hints.{Hint, inside, nothing, others, sole}
use Rattle.walk.specs.Labels.{Numbered, numbered}
use Rattle.walk.specs.Laws.{FieldsTold, HintsReach}
use Rattle.walk.specs.Reading.{Holder, Part, Read, child_part, held_by, next_part, nobody, reading, role_of}
use Rattle.walk.specs.Reading.Part.{as_element, as_entries, as_field, as_key, as_middle, as_root}
use Rattle.walk.specs.Refusing.{by_itself}
use Rattle.walk.specs.Shape.{Row}
use Rattle.walk.specs.Walk.{inner_metadata, metadata_of}
use Rattle.schema.specs.declared.refusal.Refusal.{Refusal}
use Rattle.walk.specs.declared.role.Role.{Role}
use Rattle.tree.specs.Forest.{Forest, alone, listing}
use Rattle.tree.specs.Forest.Forest.{bare, plant}

-- ── A child of what is read and hinted ──

abbrev part_after : ℕ → Part → Part
part_after zero t = t
part_after (suc k) t = part_after k (next_part t)

record Told (n : Bool) (u h : Forest Hint) (t : Part) (g : Holder) (k : ℕ) (y : Read) : Type 0 where
  pub hint : y.given.hint ≡ nth_hint k h
  pub named : y.given.named ≡ n
  pub field : y.given.field ≡ field_hint y.part u y.given.hint
  pub holder : y.holder ≡ held_by y.part g y.of
  pub part : y.part ≡ part_after k t

told : (n : Bool) (u h : Forest Hint) (t : Part) (g : Holder) (f : Forest Numbered) (k : ℕ) (y : Read)
    → slice_get (roots (hinting n u h (reading t g f))) k ≡ Some y → Told n u h t g k y
unfolding hinting reading
told n u h t g bare zero y e = absurd (none-some y e)
told n u h t g bare (suc k) y e = absurd (none-some y e)
told n u h t g (plant x below after) zero y e =
    let it : Read = with_hint (record { of = x; role = role_of t x below; part = t; holder = held_by t g x; given = nothing }) n u h in
    let same : it ≡ y = cc in
    subst (λ (z : Read). Told n u h t g 0 z) same (record { hint = refl; named = refl; field = refl; holder = refl; part = refl })
told n u h t g (plant x below after) (suc k) y e =
    let r = told n u (others h) (next_part t) g after k y e in
    record { hint = r.hint; named = r.named; field = r.field; holder = r.holder; part = r.part }

-- ── Parts ──

next_itself : (t : Part) → by_itself (next_part t) ≡ by_itself t
next_itself as_root = refl
next_itself as_field = refl
next_itself as_key = refl
next_itself as_element = refl
next_itself as_middle = refl
next_itself as_entries = refl

after_itself : (k : ℕ) (t : Part) → by_itself (part_after k t) ≡ by_itself t
after_itself zero t = refl
after_itself (suc k) t = after_itself k (next_part t) ∙ next_itself t

after_field : (k : ℕ) → part_after k as_field ≡ as_field
after_field zero = refl
after_field (suc k) = after_field k

key_first : (k : ℕ) → is_key (part_after k as_key) ≡ first_of k
key_first zero = refl
key_first (suc k) = ap is_key (after_field k)

held_group : (t : Part) (g : Holder) (x : Numbered) → by_itself t ≡ false → held_by t g x ≡ g
held_group as_root g x e = cc
held_group as_field g x e = cc
held_group as_key g x e = cc
held_group as_element g x e = refl
held_group as_middle g x e = refl
held_group as_entries g x e = refl

field_group : (t : Part) (u h : Forest Hint) → by_itself t ≡ false → field_hint t u h ≡ u
field_group as_root u h e = cc
field_group as_field u h e = cc
field_group as_key u h e = cc
field_group as_element u h e = refl
field_group as_middle u h e = refl
field_group as_entries u h e = refl

inner_own : (t : Part) (hint : Forest Hint) → by_itself t ≡ true → inner_metadata t hint ≡ metadata_of (sole (inside hint)) None
inner_own as_root hint e = refl
inner_own as_field hint e = refl
inner_own as_key hint e = refl
inner_own as_element hint e = cc
inner_own as_middle hint e = cc
inner_own as_entries hint e = cc

inner_group : (t : Part) (hint : Forest Hint) → by_itself t ≡ false → inner_metadata t hint ≡ None
inner_group as_root hint e = cc
inner_group as_field hint e = cc
inner_group as_key hint e = cc
inner_group as_element hint e = refl
inner_group as_middle hint e = refl
inner_group as_entries hint e = refl

sole_sole : (h : Forest Hint) → sole (sole h) ≡ sole h
sole_sole bare = refl
sole_sole (plant a below after) = refl

-- the field of an outermost row, by its holder and its field hint
abbrev held_field : Holder → Forest Hint → Bool → FieldOf
held_field g f null = record { name = g.name; nullable = not g.key && null; metadata = metadata_of f g.field_id }

-- ── One element ──

module _ (n : Bool) (u h : Forest Hint) (t : Part) (g : Holder) (x : Numbered) (below : Forest Numbered) where
  abbrev its_role : Result Role Refusal
  its_role = role_of t x below

  abbrev its_holder : Holder
  its_holder = held_by t g x

  abbrev up : Forest Hint
  up = field_hint t u (sole h)

  abbrev on : Forest Hint
  on = hands_on its_role (wrapped t x.repetition) (sole h)

  abbrev part_below : Part
  part_below = child_part its_role x.name below

  abbrev here : Spot Read
  here = record {
    node = with_hint (record { of = x; role = its_role; part = t; holder = its_holder; given = nothing }) n u h;
    below = hinting (compares_names its_role) up on (reading part_below its_holder below);
  }

  child_told : (k : ℕ) (y : Read) → Child here k y → Told (compares_names its_role) up on part_below its_holder k y
  child_told k y c = told (compares_names its_role) up on part_below its_holder below k y c

  hands : HandsOn here
  hands =
      record {
        fields = λ e k y c.
            let r = child_told k y c in
            (r.hint ∙ ap (λ (z : Result Role Refusal). nth_hint k (hands_on z (wrapped t x.repetition) (sole h))) e, r.named ∙ ap compares_names e);
        list_child = λ e y c.
            let r = child_told 0 y c in
            (r.hint ∙ ap (λ (z : Result Role Refusal). nth_hint 0 (hands_on z (wrapped t x.repetition) (sole h))) e ∙ sole_sole (inside (sole h)), r.named ∙ ap compares_names e);
        element = λ e y c.
            let r = child_told 0 y c in
            (r.hint ∙ ap (λ (z : Result Role Refusal). nth_hint 0 (hands_on z (wrapped t x.repetition) (sole h))) e ∙ sole_sole h, r.named ∙ ap compares_names e);
        map_entries = λ e y c.
            let r = child_told 0 y c in
            (r.hint ∙ ap (λ (z : Result Role Refusal). nth_hint 0 (hands_on z (wrapped t x.repetition) (sole h))) e ∙ sole_sole (inside (sole h)), r.named ∙ ap compares_names e);
        key_and_value = λ e k y c.
            let r = child_told k y c in
            (r.hint ∙ ap (λ (z : Result Role Refusal). nth_hint k (hands_on z (wrapped t x.repetition) (sole h))) e, r.named ∙ ap compares_names e);
      }

  -- the field of a child, by its part
  part_field : (s : Part) (k : ℕ) (y : Read) → Child here k y → y.part ≡ s → (null : Bool)
      → held_field y.holder y.given.field null ≡ held_field (held_by s its_holder y.of) (field_hint s up y.given.hint) null
  part_field s k y c e null =
      let r = child_told k y c in
      ap₂ (λ (a : Holder) (b : Forest Hint). held_field a b null)
      (r.holder ∙ ap (λ (z : Part). held_by z its_holder y.of) e) (r.field ∙ ap (λ (z : Part). field_hint z up y.given.hint) e)

  module _ (typing : Typing) where
    -- the repeated child of a group that is a field or a key
    group_field : (k : ℕ) (y : Read) → Child here k y → by_itself y.part ≡ false → (null : Bool) → (held_field y.holder y.given.field null ≡ held_field its_holder up null)
    group_field k y c e null =
        let r = child_told k y c in
        ap₂ (λ (a : Holder) (b : Forest Hint). held_field a b null)
        (r.holder ∙ held_group y.part its_holder y.of e) (r.field ∙ field_group y.part up y.given.hint e)

    -- only the children of a LIST or MAP group are not read by themselves
    never : (k : ℕ) (y : Read) {A : Type 0} → Child here k y → by_itself y.part ≡ false → by_itself part_below ≡ true → A
    never k y c e own_part = let r = child_told k y c in absurd (true≢false (sym own_part ∙ sym (after_itself k part_below) ∙ ap by_itself (sym r.part) ∙ e))

fields_at : (n : Bool) (u h : Forest Hint) (t : Part) (g : Holder) (x : Numbered) (below : Forest Numbered) (typing : Typing)
    → FieldsBelow typing (here n u h t g x below)
fields_at n u h t g x below typing =
    record {
      field = λ k y c e row. part_field n u h t g x below as_field k y c e row.nullable;
      key = λ k y c e row. part_field n u h t g x below as_key k y c e row.nullable;
      sides = λ e k y c.
          let r = child_told n u h t g x below k y c in
          ap is_key r.part ∙ ap (λ (z : Result Role Refusal). is_key (part_after k (child_part z x.name below))) e ∙ key_first k;
      group = λ k y c e not_root row. of_part t k y c e not_root row;
      inside_list = λ k y c e row. ap (λ (z : Option Metadata). record { name = y.of.name; nullable = false; metadata = z }) (inner_own y.part y.given.hint e);
      itself = λ k y c e row. ap (λ (z : Option Metadata). record { name = y.of.name; nullable = false; metadata = z }) (inner_group y.part y.given.hint e);
    }
  where
    of_part : (t : Part) (k : ℕ) (y : Read) → Child (here n u h t g x below) k y → by_itself y.part ≡ false → (t ≡ as_root → ⊥)
        → (row : Row) → outer_field typing y row ≡ general_field (here n u h t g x below).node (not (is_key t) && row.nullable)
    of_part as_root k y c e not_root row = absurd (not_root refl)
    of_part as_field k y c e not_root row = group_field n u h as_field g x below typing k y c e row.nullable
    of_part as_key k y c e not_root row = group_field n u h as_key g x below typing k y c e row.nullable
    of_part as_element k y c e not_root row = never n u h as_element g x below typing k y c e refl
    of_part as_middle k y c e not_root row = never n u h as_middle g x below typing k y c e refl
    of_part as_entries k y c e not_root row = never n u h as_entries g x below typing k y c e refl

-- ── All elements ──

module _ (P : Spot Read → Type 0)
    (each : (n : Bool) (u h : Forest Hint) (t : Part) (g : Holder) (x : Numbered) (below : Forest Numbered) → P (here n u h t g x below)) where
  everywhere : (n : Bool) (u h : Forest Hint) (t : Part) (g : Holder) (f : Forest Numbered) → AllByRecursion P (listing (spots (hinting n u h (reading t g f))))
  unfolding hinting reading
  everywhere n u h t g bare = tt
  everywhere n u h t g (plant x below after) =
      let role = role_of t x below in
      let f = hinting (compares_names role) (field_hint t u (sole h)) (hands_on role (wrapped t x.repetition) (sole h)) (reading (child_part role x.name below) (held_by t g x) below) in
      let rest = hinting n u (others h) (reading (next_part t) g after) in (
        each n u h t g x below,
        all_append P (listing (spots f)) (listing (spots rest))
            (everywhere (compares_names role) (field_hint t u (sole h)) (hands_on role (wrapped t x.repetition) (sole h)) (child_part role x.name below) (held_by t g x) below)
            (everywhere n u (others h) (next_part t) g after),
      )

pub hints_reach : HintsReach
unfolding hinting reading
hints_reach hints t = record { root = refl; others = everywhere HandsOn hands false bare hints as_root nobody (numbered 0 0 (alone t)) }

pub fields_told : FieldsTold
unfolding hinting reading
fields_told typing hints t =
    record {
      root = (record { root = refl; empty = λ row e. ap (λ (z : Bool). record { name = []; nullable = z; metadata = None }) e }, tt);
      others = everywhere (FieldsBelow typing) (λ n u h t g x below. fields_at n u h t g x below typing) false bare hints as_root nobody (numbered 0 0 (alone t));
    }
