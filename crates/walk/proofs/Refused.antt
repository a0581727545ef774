-- The walk is refused with the first fault in walking order.
use Rattle.std.proofs.Common.{◌≡◌, ℕ, Bool, false, List, [], ◌∷◌, ◌++◌, Some, None, Ok, Err, sym, refl, ap, ◌∙◌, ap₂, append_assoc}
use Rattle.walk.proofs.Numbers.{relabel_of}
use mathlib.Core.List.{nil≢cons}
use Rattle.std.proofs.lemmas.List.Concat.{flat_map-append}
use Rattle.std.proofs.lemmas.Option.{none-some}
use Rattle.std.specs.List.{flat_map, AllByRecursion}
use Rattle.walk.proofs.Firsts.{element_first, head, heads, of_label}
use Rattle.walk.specs.Faults.{Typing, below_group, checks, refusals}
use Rattle.walk.specs.Forests.{Spot, relabel, trees}
use Rattle.walk.specs.Handing.{compares_names, field_hint, hands_on, hinting, wrapped}
use Rattle.walk.specs.Hints.{Hint, others, sole}
use Rattle.walk.specs.Labels.{Numbered, numbered}
use Rattle.walk.specs.Laws.{RefusedFirst}
use Rattle.walk.specs.Reading.{Holder, Part, Read, child_part, held_by, next_part, nobody, reading, role_of}
use Rattle.walk.specs.Reading.Part.{as_root}
use Rattle.walk.specs.Refusing.{Faultless, FirstFault, below_groups, faults_at, walked}
use Rattle.walk.specs.Walk.{all_refusals, full_rows, handed, unless_refused}
use Rattle.schema.specs.declared.element.Kind.{Kind}
use Rattle.schema.specs.declared.element.Kind.TheVariants.{Group as group, Leaf as leaf}
use Rattle.schema.specs.declared.refusal.Refusal.{Refusal}
use Rattle.tree.specs.Forest.{Forest, alone}
use Rattle.tree.specs.Forest.Forest.{bare, plant}

-- ── In a schema that is read and hinted, each role is what the children make it ──

abbrev Right : Forest Read → Type 0
Right bare = Unit {0}
Right (plant x below after) = (x.role ≡ role_of x.part x.of (relabel of_label below)) × Right below × Right after

pub labels_same : (n : Bool) (u h : Forest Hint) (f : Forest Read) → relabel of_label (hinting n u h f) ≡ relabel of_label f
unfolding hinting
labels_same n u h bare = refl
labels_same n u h (plant x below after) =
    λ i. plant x.of
    (labels_same (compares_names x.role) (field_hint x.part u (sole h)) (hands_on x.role (wrapped x.part x.of.repetition) (sole h)) below i)
    (labels_same n u (others h) after i)

right : (n : Bool) (u h : Forest Hint) (t : Part) (g : Holder) (f : Forest Numbered) → Right (hinting n u h (reading t g f))
unfolding hinting reading
right n u h t g bare = tt
right n u h t g (plant x below after) =
    let role = role_of t x below in
    let n' = compares_names role in
    let u' = field_hint t u (sole h) in
    let h' = hands_on role (wrapped t x.repetition) (sole h) in
    let t' = child_part role x.name below in (
      ap (role_of t x) (sym (labels_same n' u' h' (reading t' (held_by t g x) below) ∙ relabel_of t' (held_by t g x) below)),
      right n' u' h' t' (held_by t g x) below,
      right n u (others h) (next_part t) g after,
    )

-- ── All faults ──

module _ (typing : Typing) (chosen : ℕ → Bool) where
  abbrev faults : Spot Read → List Refusal
  faults p = faults_at typing chosen p

  below_first : (k : Kind) (f : Forest Read) → head (refusals typing chosen f) ≡ head (flat_map faults (walked f))
      → head (below_group typing chosen k (refusals typing chosen f)) ≡ head (flat_map faults (below_groups k (walked f)))
  below_first (leaf l) f e = refl
  below_first (group a) f e = e

  all_first : (f : Forest Read) → Right f → head (refusals typing chosen f) ≡ head (flat_map faults (walked f))
  unfolding refusals
  all_first bare r = refl
  all_first (plant x below after) r =
      let p : Spot Read = record { node = x; below = below } in
      let k = x.of.kind in
      heads (checks typing chosen x (trees below) ++ below_group typing chosen k (refusals typing chosen below))
      (faults p ++ flat_map faults (below_groups k (walked below))) (refusals typing chosen after) (flat_map faults (walked after))
      (heads (checks typing chosen x (trees below)) (faults p) (below_group typing chosen k (refusals typing chosen below)) (flat_map faults (below_groups k (walked below)))
      (element_first typing chosen x below r.0) (below_first k below (all_first below r.1)))
      (all_first after r.2)
      ∙ ap head (append_assoc (faults p) (flat_map faults (below_groups k (walked below))) (flat_map faults (walked after))
      ∙ ap (λ (l : List Refusal). faults p ++ l) (sym (flat_map-append faults (below_groups k (walked below)) (walked after))))

  -- ── The first fault ──

  find : (ps : List (Spot Read)) (r : Refusal) → head (flat_map faults ps) ≡ Some r → FirstFault typing chosen ps r
  find [] r e = absurd (none-some r e)
  find (p ∷ ps) r e = go (faults p) refl e (find ps r)
    where
      go : (l : List Refusal) → faults p ≡ l → head (l ++ flat_map faults ps) ≡ Some r → (head (flat_map faults ps) ≡ Some r → FirstFault typing chosen ps r)
          → FirstFault typing chosen (p ∷ ps) r
      go (q ∷ qs) k h more =
          let same : q ≡ r = cc in
          record { before = []; here = p; after = ps; splits = refl; none_before = tt; others = qs; first = k ∙ ap {B = List Refusal} (λ (z : Refusal). z ∷ qs) same }
      go [] k h more =
          let f = more h in
          record {
            before = p ∷ f.before;
            here = f.here;
            after = f.after;
            splits = ap {B = List (Spot Read)} (λ (l : List (Spot Read)). p ∷ l) f.splits;
            none_before = (k, f.none_before);
            others = f.others;
            first = f.first;
          }

  found_first : (before : List (Spot Read)) (here : Spot Read) (after : List (Spot Read)) (r : Refusal) (others : List Refusal)
      → AllByRecursion (Faultless typing chosen) before → faults here ≡ r ∷ others → head (flat_map faults (before ++ here ∷ after)) ≡ Some r
  found_first [] here after r others a e = ap (λ (l : List Refusal). head (l ++ flat_map faults after)) e
  found_first (p ∷ before) here after r others a e =
      ap (λ (l : List Refusal). head (l ++ flat_map faults (before ++ here ∷ after))) a.0 ∙ found_first before here after r others a.1 e

  none_joined : (ps : List (Spot Read)) → AllByRecursion (Faultless typing chosen) ps → flat_map faults ps ≡ []
  none_joined [] a = refl
  none_joined (p ∷ ps) a = ap₂ (λ (x y : List Refusal). x ++ y) a.0 (none_joined ps a.1)

  joined_none : (ps : List (Spot Read)) → flat_map faults ps ≡ [] → AllByRecursion (Faultless typing chosen) ps
  joined_none [] e = tt
  joined_none (p ∷ ps) e = go (faults p) refl e (joined_none ps)
    where
      go : (l : List Refusal) → faults p ≡ l → l ++ flat_map faults ps ≡ [] → (flat_map faults ps ≡ [] → AllByRecursion (Faultless typing chosen) ps)
          → AllByRecursion (Faultless typing chosen) (p ∷ ps)
      go [] k h more = (k, more h)
      go (q ∷ qs) k h more = absurd (nil≢cons (sym h))

-- ── Heads of what is refused ──

refused_head : {A : Type 0} (rs : List Refusal) (a : A) (r : Refusal) → unless_refused rs a ≡ Err r → head rs ≡ Some r
refused_head [] a r e = cc
refused_head (q ∷ rs) a r e = cc

head_refused : {A : Type 0} (rs : List Refusal) (a : A) (r : Refusal) → head rs ≡ Some r → unless_refused rs a ≡ Err r
head_refused [] a r e = cc
head_refused (q ∷ rs) a r e = cc

accepted_none : {A : Type 0} (rs : List Refusal) (a b : A) → unless_refused rs a ≡ Ok b → head rs ≡ None
accepted_none [] a b e = refl
accepted_none (q ∷ rs) a b e = cc

none_accepted : {A : Type 0} (rs : List Refusal) (a : A) → head rs ≡ None → unless_refused rs a ≡ Ok a
none_accepted [] a e = refl
none_accepted (q ∷ rs) a e = cc

no_head : {A : Type 0} (xs : List A) → head xs ≡ None → xs ≡ []
no_head [] e = refl
no_head (x ∷ xs) e = cc

pub refused_first : RefusedFirst
refused_first typing chosen hints t =
    let f = handed hints t in
    let rs = all_refusals typing chosen hints t in
    let rows = full_rows typing chosen hints t in
    let same : head rs ≡ head (flat_map (faults_at typing chosen) (walked f)) =
    all_first typing chosen f (right false bare hints as_root nobody (numbered 0 0 (alone t))) in
    record {
      refused = λ r e. find typing chosen (walked f) r (sym same ∙ refused_head rs rows r e);
      first = λ r d.
          head_refused rs rows r
          (same ∙ ap (λ (ps : List (Spot Read)). head (flat_map (faults_at typing chosen) ps)) d.splits
          ∙ found_first typing chosen d.before d.here d.after r d.others d.none_before d.first);
      accepted = λ g e. joined_none typing chosen (walked f) (no_head (flat_map (faults_at typing chosen) (walked f)) (sym same ∙ accepted_none rs rows g e));
      faultless = λ a. none_accepted rs rows (same ∙ ap head (none_joined typing chosen (walked f) a));
    }
