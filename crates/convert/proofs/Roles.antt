-- Roles, as the table tells them.
use Rattle.std.proofs.Common.{◌≡◌, ℕ, ◌+◌, ◌<◌, ◌≤◌, Bool, true, false, cond, not, ◌&&◌, ◌||◌, List, [], length, sym, refl, ap, ◌∙◌, subst, ap₂, arith, Ok, Err, Result}
use Rattle.tree.specs.Forest.{Forest, count}
use Rattle.tree.specs.Forest.Forest.{bare, plant}
use Rattle.schema.specs.declared.element.Element.{Element}
use Rattle.schema.specs.declared.basic.Repetition.{Repetition}
use Rattle.schema.specs.declared.refusal.Refusal.TheVariants as no
use Rattle.schema.specs.Elements.{element_span}
use Rattle.walk.specs.Forests.{trees}
use Rattle.walk.specs.Labels.{is_leaf, is_repeated, or_required}
use Rattle.walk.specs.Reading.{list_role, list_child, map_role, map_child, entries_role}
use Rattle.schema.specs.declared.refusal.Refusal.{Refusal}
use Rattle.walk.specs.declared.role.Role.{Role}
use Rattle.walk.specs.declared.role.Role.TheVariants.{Listed as listed, Mapped as mapped}
use Rattle.convert.specs.Table.{Rooted, Stands, element_at, kids}
use Rattle.convert.proofs.Trees.{below, count_plant, read_here, sized, beyond}

-- ── By the number of trees ──

module _ {A : Type 0} (P : Forest A → Type 0) where
  pub by_one : ((a : A) (v : Forest A) → P (plant a v bare)) → (f : Forest A) → trees f ≡ 1 → P f
  by_one h bare n = absurd (omega arith)
  by_one h (plant a v bare) n = h a v
  by_one h (plant a v (plant c d z)) n = absurd (omega arith)

  pub by_two : ((a c : A) (v d : Forest A) → P (plant a v (plant c d bare))) → (f : Forest A) → trees f ≡ 2 → P f
  by_two h bare n = absurd (omega arith)
  by_two h (plant a v bare) n = absurd (omega arith)
  by_two h (plant a v (plant c d bare)) n = h a c v d
  by_two h (plant a v (plant c d (plant x y z))) n = absurd (omega arith)

  pub by_several : P bare → ((a c : A) (v d z : Forest A) → P (plant a v (plant c d z))) → (f : Forest A) → (trees f ≡ 1 → ⊥) → P f
  by_several h0 h2 bare n = h0
  by_several h0 h2 (plant a v bare) n = absurd (n refl)
  by_several h0 h2 (plant a v (plant c d z)) n = h2 a c v d z

  pub by_others : P bare → ((a c x : A) (v d y z : Forest A) → P (plant a v (plant c d (plant x y z)))) → (f : Forest A) → (trees f ≡ 1 → ⊥) → (trees f ≡ 2 → ⊥) → P f
  by_others h0 h3 bare n m = h0
  by_others h0 h3 (plant a v bare) n m = absurd (n refl)
  by_others h0 h3 (plant a v (plant c d bare)) n m = absurd (m refl)
  by_others h0 h3 (plant a v (plant c d (plant x y z))) n m = h3 a c x v d y z

abbrev pub again : Element → Bool
again e = is_repeated (or_required e.repetition)

pub some_child : (f : Forest Element) → (trees f ≡ 0 → ⊥) → 1 ≤ count f
some_child bare n = absurd (n refl)
some_child (plant a v c) n = omega arith

-- ── LIST ──

module _ (t : List Element) (i : ℕ) (text : List ℕ) (k : ℕ) (rep : Repetition) where
  pub list_several : (f : Forest Element) → (trees f ≡ 1 → ⊥) → list_role i rep (kids text i k f) ≡ Err (no.ListChildren i)
  list_several = by_several (λ f. list_role i rep (kids text i k f) ≡ Err (no.ListChildren i)) refl (λ a c v d z. refl)

  pub list_one : (f : Forest Element) → trees f ≡ 1 → Stands t (i + 1) f
      → list_role i rep (kids text i k f) ≡ list_child i (again (element_at t (i + 1))) (is_repeated rep)
  list_one = by_one (λ f. Stands t (i + 1) f → list_role i rep (kids text i k f) ≡ list_child i (again (element_at t (i + 1))) (is_repeated rep))
      (λ a v p. ap (λ (x : Element). list_child i (again x) (is_repeated rep)) (sym (read_here t (i + 1) a v bare p)))

-- ── MAP ──

module _ (t : List Element) (i : ℕ) (text : List ℕ) (k : ℕ) where
  pub entries_others : (n : ℕ) (f : Forest Element) → (trees f ≡ 1 → ⊥) → (trees f ≡ 2 → ⊥) → entries_role n (kids text i k f) ≡ Err (no.EntriesChildren n)
  entries_others n = by_others (λ f. entries_role n (kids text i k f) ≡ Err (no.EntriesChildren n)) refl (λ a c x v d y z. refl)

  pub entries_one : (n : ℕ) (f : Forest Element) → trees f ≡ 1 → entries_role n (kids text i k f) ≡ Ok listed
  entries_one n = by_one (λ f. entries_role n (kids text i k f) ≡ (Ok listed)) (λ a v. refl)

  pub entries_two : (n : ℕ) (f : Forest Element) → trees f ≡ 2 → Stands t (i + 1) f
      → (b : Bool) → (again (element_at t (i + 1)) || again (element_at t ((i + 1) + (element_at t (i + 1)).size))) ≡ b
      → entries_role n (kids text i k f) ≡ cond b (Err (no.EntryRepeated n)) (Ok mapped)
  entries_two n f q p b h =
      by_two (λ f. Stands t (i + 1) f → entries_role n (kids text i k f) ≡ cond b (Err (no.EntryRepeated n)) (Ok mapped))
      (λ a c v d p.
      let z = sized t (i + 1) a v (plant c d bare) p in
      let p' = subst (λ (m : ℕ). Stands t ((i + 1) + m) (plant c d bare)) (sym z) (beyond element_span t (i + 1) a v (plant c d bare) p) in
      let e : (again a || again c) ≡ b =
      ap₂ (λ (x y : Element). again x || again y) (sym (read_here t (i + 1) a v (plant c d bare) p)) (sym (read_here t ((i + 1) + (element_at t (i + 1)).size) c d bare p')) ∙ h in
      ap (λ (x : Bool). cond x (Err (no.EntryRepeated n)) (Ok mapped)) e)
      f q p

  pub value_in : (f : Forest Element) → trees f ≡ 2 → Stands t (i + 1) f → (i + 1) + (element_at t (i + 1)).size < (i + 1) + count f
  value_in f q p =
      by_two (λ f. Stands t (i + 1) f → (i + 1) + (element_at t (i + 1)).size < (i + 1) + count f)
      (λ a c v d p. omega (arith, sized t (i + 1) a v (plant c d bare) p, count_plant a v (plant c d bare), count_plant c d bare)) f q p

  module _ (rep : Repetition) where
    module _ (once : is_repeated rep ≡ false) where
      map_once : (f : Forest Element) → map_role i rep (kids text i k f) ≡ map_child i (kids text i k f)
      map_once f = ap (λ (b : Bool). cond b (Err (no.MapRepeated i)) (map_child i (kids text i k f))) once

      pub map_several : (f : Forest Element) → (trees f ≡ 1 → ⊥) → map_role i rep (kids text i k f) ≡ Err (no.MapChildren i)
      map_several f n = map_once f ∙ by_several (λ g. map_child i (kids text i k g) ≡ Err (no.MapChildren i)) refl (λ a c v d z. refl) f n

      -- its one child is no group, or not repeated
      pub map_other : (f : Forest Element) → trees f ≡ 1 → Stands t (i + 1) f
          → (again (element_at t (i + 1)) && not (is_leaf (element_at t (i + 1)).kind)) ≡ false
          → map_role i rep (kids text i k f) ≡ Err (no.MapChildNotRepeatedGroup i)
      map_other f q p h =
          map_once f ∙ by_one (λ g. Stands t (i + 1) g → map_child i (kids text i k g) ≡ Err (no.MapChildNotRepeatedGroup i))
          (λ a v p.
          let e : (again a && not (is_leaf a.kind)) ≡ false = ap (λ (x : Element). again x && not (is_leaf x.kind)) (sym (read_here t (i + 1) a v bare p)) ∙ h in
          ap (λ (b : Bool). cond b (entries_role i (kids text (i + 1) k v)) (Err (no.MapChildNotRepeatedGroup i))) e)
          f q p

      pub map_one : (f : Forest Element) → trees f ≡ 1 → Stands t (i + 1) f
          → (again (element_at t (i + 1)) && not (is_leaf (element_at t (i + 1)).kind)) ≡ true
          → (r : Result Role Refusal) → ((e : Element) (b n : Forest Element) → Stands t (i + 1) (plant e b n) → (text : List ℕ) (k : ℕ) → entries_role i (kids text (i + 1) k b) ≡ r)
          → map_role i rep (kids text i k f) ≡ r
      map_one f q p h r g =
          map_once f ∙ by_one (λ f. Stands t (i + 1) f → map_child i (kids text i k f) ≡ r)
          (λ a v p.
          let e : (again a && not (is_leaf a.kind)) ≡ true = ap (λ (x : Element). again x && not (is_leaf x.kind)) (sym (read_here t (i + 1) a v bare p)) ∙ h in
          ap (λ (b : Bool). cond b (entries_role i (kids text (i + 1) k v)) (Err (no.MapChildNotRepeatedGroup i))) e ∙ g a v bare p text k)
          f q p

-- ── Places of children ──

module _ (t : List Element) (i : ℕ) (r : Rooted t i) (n : ℕ) (c : (e : Element) (b m : Forest Element) → Stands t i (plant e b m) → n ≡ trees b) where
  pub child_in : 0 < n → i + 1 < length t
  child_in h = let some = some_child r.below (λ x. omega (arith, h, c r.top r.below r.after r.lies, x)) in omega (arith, some, r.inside)

  pub pair_in : n ≡ 2 → (i + 1) + (element_at t (i + 1)).size < length t
  pair_in h = omega (arith, value_in t i [] 0 r.below (sym (c r.top r.below r.after r.lies) ∙ h) (below element_span t i r.top r.below r.after r.lies), r.inside)
