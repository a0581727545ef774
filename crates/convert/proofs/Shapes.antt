-- What a role says of the tree.
use Rattle.std.proofs.Common.{◌≡◌, ℕ, ◌+◌, Bool, true, false, cond, not, ◌&&◌, List, sym, refl, ap, ◌∙◌, subst, ap₂, Some, None, Option, Ok, Err, Result}
use Rattle.tree.specs.Forest.{Forest}
use Rattle.tree.specs.Forest.Forest.{bare, plant}
use Rattle.schema.specs.declared.element.Element.{Element}
use Rattle.schema.specs.declared.element.Leaf.{Leaf}
use Rattle.schema.specs.declared.element.Kind.{Kind}
use Rattle.schema.specs.declared.element.Kind.TheVariants.{Leaf as leaf, Group as group}
use Rattle.schema.specs.declared.basic.Annotation.{Annotation}
use Rattle.schema.specs.declared.basic.Annotation.TheVariants as a
use Rattle.schema.specs.declared.basic.Repetition.{Repetition}
use Rattle.schema.specs.declared.basic.Repetition.TheVariants.{Required, Optional, Repeated}
use Rattle.schema.specs.declared.refusal.Refusal.TheVariants as no
use Rattle.schema.specs.Elements.{element_span, part}
use Rattle.walk.specs.Forests.{trees}
use Rattle.walk.specs.Labels.{is_leaf, is_repeated, or_required}
use Rattle.walk.specs.Reading.{by_annotation, list_role, list_child, map_role, map_child, entries_role, first_is_element, is_element, one_child, names_element}
use Rattle.schema.specs.declared.refusal.Refusal.{Refusal}
use Rattle.walk.specs.declared.role.Role.{Role}
use Rattle.walk.specs.declared.role.Role.TheVariants.{Listed as listed, Mapped as mapped}
use Rattle.convert.specs.Table.{Stands, element_at, kids}
use Rattle.convert.proofs.Trees.{read_here, below}
use Rattle.convert.proofs.Roles.{again, by_one, by_several}

pub differ : {A : Type 0} → true ≡ false → A
differ e = absurd cc

pub again_is : (r : Repetition) → is_repeated r ≡ true → r ≡ Repeated
again_is Required h = differ (sym h)
again_is Optional h = differ (sym h)
again_is Repeated h = refl

-- a group that is read as a list, with its one child
pub record AsList (e : Element) (f : Forest Element) : Type 0 where
  pub how : Option Annotation
  pub kind : e.kind ≡ group how
  pub once : again e ≡ false
  pub child : Element
  pub under : Forest Element
  pub is : f ≡ plant child under bare
  pub repeats : or_required child.repetition ≡ Repeated

-- a map of key and value
pub record AsMap (e : Element) (f : Forest Element) : Type 0 where
  pub how : Option Annotation
  pub kind : e.kind ≡ group how
  pub once : again e ≡ false
  pub child : Element
  pub inner : Option Annotation
  pub child_kind : child.kind ≡ group inner
  pub repeats : or_required child.repetition ≡ Repeated
  pub key : Element
  pub value : Element
  pub key_under : Forest Element
  pub value_under : Forest Element
  pub is : f ≡ plant child (plant key key_under (plant value value_under bare)) bare

list_child_is : (n : ℕ) (a b : Bool) → list_child n a b ≡ Ok listed → (a ≡ true) × (b ≡ false)
list_child_is n false r h = absurd cc
list_child_is n true true h = absurd cc
list_child_is n true false h = (refl, refl)

list_child_not : (n : ℕ) (a b : Bool) → list_child n a b ≡ Ok mapped → ⊥
list_child_not n false r h = cc
list_child_not n true true h = cc
list_child_not n true false h = cc

cond_no : (b : Bool) (x y z : Result Role Refusal) → cond b x y ≡ z → (x ≡ z → ⊥) → (b ≡ false) × (y ≡ z)
cond_no true x y z h n = absurd (n h)
cond_no false x y z h n = (refl, h)

cond_yes : (b : Bool) (x y z : Result Role Refusal) → cond b x y ≡ z → (y ≡ z → ⊥) → (b ≡ true) × (x ≡ z)
cond_yes true x y z h n = (refl, h)
cond_yes false x y z h n = absurd (n h)

and_both : (a b : Bool) → (a && b) ≡ true → (a ≡ true) × (b ≡ true)
and_both true b h = (refl, h)
and_both false b h = differ (sym h)

group_is : (k : Kind) → not (is_leaf k) ≡ true → (n : Option Annotation) × (k ≡ group n)
group_is (leaf l) h = differ (sym h)
group_is (group n) h = (n, refl)

module _ (text : List ℕ) (i k : ℕ) where
  list_as : (e : Element) (how : Option Annotation) → e.kind ≡ group how → (f : Forest Element) → list_role i (or_required e.repetition) (kids text i k f) ≡ Ok listed → AsList e f
  list_as e how q bare h = absurd cc
  list_as e how q (plant c cb bare) h =
      let s = list_child_is i (again c) (again e) h in
      record { how = how; kind = q; once = s.1; child = c; under = cb; is = refl; repeats = again_is (or_required c.repetition) s.0 }
  list_as e how q (plant c cb (plant d db z)) h = absurd cc

  list_not_map : (rep : Repetition) (f : Forest Element) → list_role i rep (kids text i k f) ≡ Ok mapped → ⊥
  list_not_map rep bare h = cc
  list_not_map rep (plant c cb bare) h = list_child_not i (again c) (is_repeated rep) h
  list_not_map rep (plant c cb (plant d db z)) h = cc

  map_as_list : (e : Element) (how : Option Annotation) → e.kind ≡ group how → (f : Forest Element) → map_role i (or_required e.repetition) (kids text i k f) ≡ Ok listed → AsList e f
  map_as_list e how q f h =
      let s = cond_no (again e) (Err (no.MapRepeated i)) (map_child i (kids text i k f)) (Ok listed) h (λ x. cc) in
      go s.0 f s.1
    where
      go : again e ≡ false → (f : Forest Element) → map_child i (kids text i k f) ≡ Ok listed → AsList e f
      go once bare h = absurd cc
      go once (plant c cb (plant d db z)) h = absurd cc
      go once (plant c cb bare) h =
          let s = cond_yes (again c && not (is_leaf c.kind)) (entries_role i (kids text (i + 1) k cb)) (Err (no.MapChildNotRepeatedGroup i)) (Ok listed) h (λ x. cc) in
          let b = and_both (again c) (not (is_leaf c.kind)) s.0 in
          record { how = how; kind = q; once = once; child = c; under = cb; is = refl; repeats = again_is (or_required c.repetition) b.0 }

  map_as_map : (e : Element) (how : Option Annotation) → e.kind ≡ group how → (f : Forest Element) → map_role i (or_required e.repetition) (kids text i k f) ≡ Ok mapped → AsMap e f
  map_as_map e how q f h =
      let s = cond_no (again e) (Err (no.MapRepeated i)) (map_child i (kids text i k f)) (Ok mapped) h (λ x. cc) in
      go s.0 f s.1
    where
      two : again e ≡ false → (c : Element) → (again c && not (is_leaf c.kind)) ≡ true → (cb : Forest Element)
          → entries_role i (kids text (i + 1) k cb) ≡ Ok mapped → AsMap e (plant c cb bare)
      two once c w bare h = absurd cc
      two once c w (plant x xb bare) h = absurd cc
      two once c w (plant x xb (plant y yb (plant z zb a))) h = absurd cc
      two once c w (plant x xb (plant y yb bare)) h =
          let b = and_both (again c) (not (is_leaf c.kind)) w in
          let g = group_is c.kind b.1 in
          record {
            how = how;
            kind = q;
            once = once;
            child = c;
            inner = g.0;
            child_kind = g.1;
            repeats = again_is (or_required c.repetition) b.0;
            key = x;
            value = y;
            key_under = xb;
            value_under = yb;
            is = refl;
          }

      go : again e ≡ false → (f : Forest Element) → map_child i (kids text i k f) ≡ Ok mapped → AsMap e f
      go once bare h = absurd cc
      go once (plant c cb (plant d db z)) h = absurd cc
      go once (plant c cb bare) h =
          let s = cond_yes (again c && not (is_leaf c.kind)) (entries_role i (kids text (i + 1) k cb)) (Err (no.MapChildNotRepeatedGroup i)) (Ok mapped) h (λ x. cc) in
          two once c s.0 cb s.1

  as_list : (e : Element) (q : Kind) → e.kind ≡ q → (f : Forest Element) → by_annotation i q (or_required e.repetition) (kids text i k f) ≡ Ok listed → AsList e f
  as_list e (leaf l) q f h = absurd cc
  as_list e (group None) q f h = absurd cc
  as_list e (group (Some a.List)) q f h = list_as e (Some a.List) q f h
  as_list e (group (Some a.Map)) q f h = map_as_list e (Some a.Map) q f h
  as_list e (group (Some a.MapKeyValue)) q f h = map_as_list e (Some a.MapKeyValue) q f h

  as_map : (e : Element) (q : Kind) → e.kind ≡ q → (f : Forest Element) → by_annotation i q (or_required e.repetition) (kids text i k f) ≡ Ok mapped → AsMap e f
  as_map e (leaf l) q f h = absurd cc
  as_map e (group None) q f h = absurd cc
  as_map e (group (Some a.List)) q f h = absurd (list_not_map (or_required e.repetition) f h)
  as_map e (group (Some a.Map)) q f h = map_as_map e (Some a.Map) q f h
  as_map e (group (Some a.MapKeyValue)) q f h = map_as_map e (Some a.MapKeyValue) q f h

  pub listed_shape : (e : Element) (f : Forest Element) → by_annotation i e.kind (or_required e.repetition) (kids text i k f) ≡ Ok listed → AsList e f
  listed_shape e f h = as_list e e.kind refl f h

  pub mapped_shape : (e : Element) (f : Forest Element) → by_annotation i e.kind (or_required e.repetition) (kids text i k f) ≡ Ok mapped → AsMap e f
  mapped_shape e f h = as_map e e.kind refl f h

-- ── Rules 1 to 5 ──

module _ {t : List Element} {i : ℕ} (e : Element) (b n : Forest Element) (q : Stands t i (plant e b n)) (s : AsList e b) where
  pub child_stands : Stands t (i + 1) (plant s.child s.under bare)
  child_stands = subst (Stands t (i + 1)) s.is (below element_span t i e b n q)

  pub child_is : element_at t (i + 1) ≡ s.child
  child_is = read_here t (i + 1) s.child s.under bare child_stands

  pub under_stands : Stands t ((i + 1) + 1) s.under
  under_stands = below element_span t (i + 1) s.child s.under bare child_stands

  module _ (text : List ℕ) (k : ℕ) where
    abbrev named_so : Bool
    named_so = names_element (part text e.name) (part text s.child.name)

    first_rules : first_is_element (part text e.name) (kids text i k b)
        ≡ is_element (part text e.name) (part text s.child.name) s.child.kind (kids text (i + 1) k s.under)
    first_rules = ap (λ (f : Forest Element). first_is_element (part text e.name) (kids text i k f)) s.is

    at_kind : (x : Kind) → (element_at t (i + 1)).kind ≡ x
        → first_is_element (part text e.name) (kids text i k b) ≡ is_element (part text e.name) (part text s.child.name) x (kids text (i + 1) k s.under)
    at_kind x h =
        first_rules ∙ ap (λ (y : Kind). is_element (part text e.name) (part text s.child.name) y (kids text (i + 1) k s.under)) (ap (λ (z : Element). z.kind) (sym child_is) ∙ h)

    pub takes_leaf : (l : Leaf) → (element_at t (i + 1)).kind ≡ leaf l → first_is_element (part text e.name) (kids text i k b) ≡ true
    takes_leaf l h = at_kind (leaf l) h

    pub takes_several : (how : Option Annotation) → (element_at t (i + 1)).kind ≡ group how → (trees s.under ≡ 1 → ⊥)
        → first_is_element (part text e.name) (kids text i k b) ≡ true
    takes_several how h m =
        at_kind (group how) h
        ∙ by_several (λ f. is_element (part text e.name) (part text s.child.name) (group how) (kids text (i + 1) k f) ≡ true) refl (λ a c v d z. refl) s.under m

    pub takes_one : (how : Option Annotation) → (element_at t (i + 1)).kind ≡ group how → trees s.under ≡ 1
        → first_is_element (part text e.name) (kids text i k b)
        ≡ one_child how (again (element_at t ((i + 1) + 1))) (names_element (part text (element_at t i).name) (part text (element_at t (i + 1)).name))
    takes_one how h w =
        at_kind (group how) h
        ∙ by_one (λ f. Stands t ((i + 1) + 1) f → is_element (part text e.name) (part text s.child.name) (group how) (kids text (i + 1) k f)
        ≡ one_child how (again (element_at t ((i + 1) + 1))) named_so)
        (λ a v p. ap (λ (x : Element). one_child how (again x) named_so) (sym (read_here t ((i + 1) + 1) a v bare p)))
        s.under w under_stands
        ∙ ap₂ (λ (x y : Element). one_child how (again (element_at t ((i + 1) + 1))) (names_element (part text x.name) (part text y.name)))
        (sym (read_here t i e b n q)) (sym child_is)
