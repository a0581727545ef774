-- The reading of lists and maps agrees with the published rules.
use Rattle.std.proofs.Common.{◌≡◌, ℕ, Bool, true, false, cond, not, ◌&&◌, ◌||◌, ◌⊎◌, List, ◌++◌, map, Some, None, codes, Decides, Option, refl, ap, ◌∙◌, ap₂, inl, inr, Ok, Err, Result}
use Rattle.std.proofs.lemmas.Bool.{false_from_ne_true, false≢true, or_right}
use Rattle.std.specs.Str.{bytes_eq}
use Rattle.std.proofs.lemmas.Slice.Eq.{bytes_eq-Decides}
use Rattle.walk.specs.Forests.{planted, roots}
use Rattle.walk.specs.Labels.{Numbered, is_leaf, is_optional, is_repeated}
use Rattle.walk.specs.Laws.{ListsAsPublished, MapsAsPublished, PublishedListsTold}
use Rattle.walk.specs.Published.{ElementType, MapAgrees, MapAnnotated, Unannotated, element_by, first_read, read_below, read_element}
use Rattle.walk.specs.Published.ElementType.{named_so, not_a_group, otherwise, repeated_field, several_fields}
use Rattle.walk.specs.Published.KeyValue.{key_and_value}
use Rattle.walk.specs.Reading.{Holder, Part, Read, by_annotation, child_part, entries_role, held_by, is_element, list_child, map_child, map_role, names_element, nobody, reading, role_of}
use Rattle.walk.specs.Reading.Part.{as_element, as_field, as_middle}
use Rattle.walk.specs.Shape.{has_own, passes_null}
use Rattle.schema.specs.declared.refusal.Refusal.{Refusal}
use Rattle.walk.specs.declared.role.Role.{Role}
use Rattle.walk.specs.declared.role.Role.TheVariants.{Listed as listed, Mapped as mapped}
use Rattle.schema.specs.declared.basic.Repetition.{Repetition}
use Rattle.schema.specs.declared.basic.Repetition.TheVariants.{Optional as optional, Repeated as repeated, Required as required}
use Rattle.schema.specs.declared.element.Kind.{Kind}
use Rattle.schema.specs.declared.element.Kind.TheVariants.{Group as group, Leaf as leaf}
use Rattle.tree.specs.Forest.{Forest}
use Rattle.tree.specs.Forest.Forest.{bare, plant}
use Rattle.schema.specs.declared.basic.Annotation.TheVariants as a
use Rattle.schema.specs.declared.refusal.Refusal.TheVariants as no

-- ── Tests ──

same_yes : (xs ys : List ℕ) → xs ≡ ys → bytes_eq xs ys ≡ true
same_yes xs ys e = (bytes_eq-Decides xs ys).1 e

same_no : (xs ys : List ℕ) → (xs ≡ ys → ⊥) → bytes_eq xs ys ≡ false
same_no xs ys e = false_from_ne_true (bytes_eq xs ys) (λ h. e ((bytes_eq-Decides xs ys).0 h))

not_repeated : (r : Repetition) → (r ≡ repeated → ⊥) → is_repeated r ≡ false
not_repeated required e = refl
not_repeated optional e = refl
not_repeated repeated e = absurd (e refl)

plain : (k : Kind) → Unannotated k → is_leaf k ≡ false → k ≡ group None
plain (leaf l) u e = cc
plain (group None) u e = refl
plain (group (Some a.List)) u e = absurd u
plain (group (Some a.Map)) u e = absurd u
plain (group (Some a.MapKeyValue)) u e = absurd u

is_a_leaf : (gn cn : List ℕ) (k : Kind) (cb : Forest Numbered) → is_leaf k ≡ true → is_element gn cn k cb ≡ true
is_a_leaf gn cn (leaf l) cb e = refl
is_a_leaf gn cn (group a) cb e = cc

named_yes : (gn cn : List ℕ) → (cn ≡ codes "array") ⊎ (cn ≡ gn ++ codes "_tuple") → names_element gn cn ≡ true
named_yes gn cn (inl e) = ap (λ (b : Bool). b || bytes_eq cn (gn ++ codes "_tuple")) (same_yes cn (codes "array") e)
named_yes gn cn (inr e) = or_right (bytes_eq cn (codes "array")) (bytes_eq cn (gn ++ codes "_tuple")) (same_yes cn (gn ++ codes "_tuple") e)

named_no : (gn cn : List ℕ) → (cn ≡ codes "array" → ⊥) → (cn ≡ gn ++ codes "_tuple" → ⊥) → names_element gn cn ≡ false
named_no gn cn e k = ap₂ (λ (b c : Bool). b || c) (same_no cn (codes "array") e) (same_no cn (gn ++ codes "_tuple") k)

-- ── Lists ──

abbrev first_root : Forest Numbered → Option Numbered
first_root bare = None
first_root (plant x below after) = Some x

first_same : (t : Part) (h : Holder) (f : Forest Numbered) → first_read (reading t h f) ≡ first_root f
unfolding reading
first_same t h bare = refl
first_same t h (plant x below after) = refl

module _ (g c : Numbered) (cb : Forest Numbered) (kind : g.kind ≡ group (Some a.List)) (single : g.repetition ≡ repeated → ⊥)
    (again : c.repetition ≡ repeated) (bare_c : Unannotated c.kind) where
  list_read : role_of as_field g (plant c cb bare) ≡ Ok listed
  list_read =
      ap (λ (k : Kind). by_annotation g.number k g.repetition (plant c cb bare)) kind
      ∙ ap₂ (λ (p q : Bool). list_child g.number p q) (ap is_repeated again) (not_repeated g.repetition single)

  abbrev itself : Bool
  itself = is_element g.name c.name c.kind cb

  element_read : (b : Bool) → itself ≡ b → read_element (read_below g (plant c cb bare)) ≡ element_by (cond b as_element as_middle) c (first_root cb)
  unfolding reading
  element_read b e =
      let role = role_of as_field g (plant c cb bare) in
      let part : Part = child_part role g.name (plant c cb bare) in
      let is : part ≡ cond b as_element as_middle =
      ap (λ (r : Result Role Refusal). child_part r g.name (plant c cb bare)) list_read ∙ ap (λ (z : Bool). cond z as_element as_middle) e in
      let hold = held_by as_field nobody g in
      ap (λ (o : Option Numbered). element_by part c o) (first_same (child_part (role_of part c cb) c.name cb) (held_by part hold c) cb)
      ∙ ap (λ (p : Part). element_by p c (first_root cb)) is

  required_c : is_optional c.repetition ≡ false
  required_c = ap is_optional again

  one_field : (x : Numbered) (xb : Forest Numbered) → is_leaf c.kind ≡ false → cb ≡ plant x xb bare
      → itself ≡ (is_repeated x.repetition || names_element g.name c.name)
  one_field x xb l e = ap₂ (λ (k : Kind) (f : Forest Numbered). is_element g.name c.name k f) (plain c.kind bare_c l) e

  element_agrees : (x : Numbered) (r : Repetition) → ElementType g.name c cb x r
      → (read_element (read_below g (plant c cb bare)) ≡ Some x) × (is_optional x.repetition ≡ is_optional r)
  element_agrees x r (not_a_group l) = (element_read true (is_a_leaf g.name c.name c.kind cb l), required_c)
  element_agrees x r (several_fields l e) =
      (element_read true (ap₂ (λ (k : Kind) (f : Forest Numbered). is_element g.name c.name k f) (plain c.kind bare_c l) e), required_c)
  element_agrees x r (repeated_field {x = y} {xb = yb} l e h) =
      (element_read true (one_field y yb l e ∙ ap (λ (b : Bool). b || names_element g.name c.name) (ap is_repeated h)), required_c)
  element_agrees x r (named_so {x = y} {xb = yb} l e h) =
      (element_read true (one_field y yb l e ∙ or_right (is_repeated y.repetition) (names_element g.name c.name) (named_yes g.name c.name h)), required_c)
  element_agrees x r (otherwise {x = y} {xb = yb} l e h k j) = (
    element_read false (one_field y yb l e ∙ ap₂ (λ (b d : Bool). b || d) (not_repeated y.repetition h) (named_no g.name c.name k j)) ∙ ap first_root e,
    refl,
  )

pub lists_as_published : ListsAsPublished
lists_as_published g c cb kind single again bare_c =
    record {
      role = list_read g c cb kind single again bare_c;
      element = element_agrees g c cb kind single again bare_c;
      nullable = ap (λ (r : Result Role Refusal). passes_null (has_own r) g.repetition) (list_read g c cb kind single again bare_c);
    }

-- ── The published rules say something ──

either_repeated : (r : Repetition) → (r ≡ repeated) ⊎ (r ≡ repeated → ⊥)
either_repeated repeated = inl refl
either_repeated required = inr (λ e. false≢true (ap is_repeated e))
either_repeated optional = inr (λ e. false≢true (ap is_repeated e))

either_same : (xs ys : List ℕ) → (xs ≡ ys) ⊎ (xs ≡ ys → ⊥)
either_same xs ys = go (bytes_eq xs ys) (bytes_eq-Decides xs ys)
  where
    go : (b : Bool) → Decides b (xs ≡ ys) → (xs ≡ ys) ⊎ (xs ≡ ys → ⊥)
    go true d = inl (d.0 refl)
    go false d = inr (λ e. false≢true (d.1 e))

module _ (name : List ℕ) (c : Numbered) where
  abbrev SaysOf : Forest Numbered → Type 0
  SaysOf cb = (x : Numbered) × ((r : Repetition) × ElementType name c cb x r)

  one_says : (x : Numbered) (xb : Forest Numbered) → is_leaf c.kind ≡ false → SaysOf (plant x xb bare)
  one_says x xb l = go (either_repeated x.repetition) (either_same c.name (codes "array")) (either_same c.name (name ++ codes "_tuple"))
    where
      go : (x.repetition ≡ repeated) ⊎ (x.repetition ≡ repeated → ⊥) → (c.name ≡ codes "array") ⊎ (c.name ≡ codes "array" → ⊥)
          → (c.name ≡ name ++ codes "_tuple") ⊎ (c.name ≡ name ++ codes "_tuple" → ⊥) → SaysOf (plant x xb bare)
      go (inl e) k j = (c, (required, repeated_field l refl e))
      go (inr e) (inl k) j = (c, (required, named_so l refl (inl k)))
      go (inr e) (inr k) (inl j) = (c, (required, named_so l refl (inr j)))
      go (inr e) (inr k) (inr j) = (x, (x.repetition, otherwise l refl e k j))

  group_says : (cb : Forest Numbered) → is_leaf c.kind ≡ false → planted cb ≡ true → SaysOf cb
  group_says bare l e = absurd (false≢true e)
  group_says (plant x xb bare) l e = one_says x xb l
  group_says (plant x xb (plant y yb more)) l e = (c, (required, several_fields l refl))

pub published_lists_told : PublishedListsTold
published_lists_told name c cb h = go (is_leaf c.kind) refl h
  where
    go : (b : Bool) → is_leaf c.kind ≡ b → (b || planted cb) ≡ true → SaysOf name c cb
    go true l e = (c, (required, not_a_group l))
    go false l e = group_says name c cb l e

-- ── Maps ──

map_read : (n : ℕ) (k : Kind) (r : Repetition) (below : Forest Numbered) → MapAnnotated k → by_annotation n k r below ≡ map_role n r below
map_read n (leaf l) r below h = absurd h
map_read n (group None) r below h = absurd h
map_read n (group (Some a.List)) r below h = absurd h
map_read n (group (Some a.Map)) r below h = refl
map_read n (group (Some a.MapKeyValue)) r below h = refl

module _ (g e k v : Numbered) (kb vb : Forest Numbered) (kind : MapAnnotated g.kind) (single : g.repetition ≡ repeated → ⊥)
    (l : is_leaf e.kind ≡ false) (again : e.repetition ≡ repeated) (key : k.repetition ≡ required) (value : v.repetition ≡ repeated → ⊥) where
  abbrev pair : Forest Numbered
  pair = plant k kb (plant v vb bare)

  mapped_read : role_of as_field g (plant e pair bare) ≡ Ok mapped
  mapped_read =
      map_read g.number g.kind g.repetition (plant e pair bare) kind
      ∙ ap (λ (b : Bool). cond b (Err (no.MapRepeated g.number)) (map_child g.number (plant e pair bare))) (not_repeated g.repetition single)
      ∙ ap₂ (λ (b d : Bool). cond (b && not d) (entries_role g.number pair) (Err (no.MapChildNotRepeatedGroup g.number))) (ap is_repeated again) l
      ∙ ap₂ (λ (b d : Bool). cond (b || d) (Err (no.EntryRepeated g.number)) (Ok mapped)) (ap is_repeated key) (not_repeated v.repetition value)

  abbrev below_entries : Result Role Refusal → Forest Read
  below_entries r =
      let part = child_part r g.name (plant e pair bare) in
      reading (child_part (role_of part e pair) e.name pair) (held_by part (held_by as_field nobody g) e) pair

  map_agrees : MapAgrees g e pair k v
  unfolding reading
  map_agrees =
      record {
        role = mapped_read;
        parts = ap (λ (r : Result Role Refusal). map (λ (y : Read). y.part) (roots (below_entries r))) mapped_read;
        key_value = ap (λ (r : Result Role Refusal). map (λ (y : Read). y.of) (roots (below_entries r))) mapped_read;
        nullable = ap (λ (r : Result Role Refusal). passes_null (has_own r) g.repetition) mapped_read;
      }

pub maps_as_published : MapsAsPublished
maps_as_published g e sides k v kind single (key_and_value {kb = kb} {vb = vb} l again key value) = map_agrees g e k v kb vb kind single l again key value
