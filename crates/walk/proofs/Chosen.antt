-- Only the choice of the schema's own leaves plays a part.
use Rattle.std.proofs.Common.{◌≡◌, ℕ, ◌+◌, ◌<◌, ◌≤◌, Bool, true, false, cond, ◌&&◌, ◌||◌, List, [], ◌++◌, sym, refl, ap, ◌∙◌, subst, ap₂, arith, Ok, Err, Result}
use Rattle.walk.specs.Faults.{Typing, below_group, leaf_hint, name_checks, own_checks, refusals, type_checks, wrap_checks}
use Rattle.walk.specs.Forests.{beside, over, relabel, trees}
use Rattle.walk.specs.Handing.{compares_names, field_hint, hands_on, hinting, wrapped}
use Rattle.walk.specs.Hints.{Hint, others, sole}
use Rattle.walk.specs.Labels.{is_leaf, leaf_count, numbered, numbered_as}
use Rattle.walk.specs.Laws.{LeavesEnd, SameSelection}
use Rattle.walk.specs.Reading.{Holder, Part, Read, child_part, held_by, next_part, nobody, reading, role_of}
use Rattle.walk.specs.Reading.Part.{as_root}
use Rattle.walk.specs.Shape.{Made, base, element_rows, has_own, leaf_part, passes_null, raised, shape, wrap}
use Rattle.walk.specs.Shape.Items.{of_list}
use Rattle.walk.specs.Walk.{full_of, handed, unless_refused}
use Rattle.walk.specs.Yields.{both_yield, every_yield, some_yield, yields_by}
use Rattle.walk.specs.declared.levels.Levels.{Levels}
use Rattle.walk.specs.declared.role.Role.{Role}
use Rattle.walk.specs.declared.role.Role.TheVariants.{Entries as entries, Listed as listed, Mapped as mapped, Middle as middle, Own as own}
use Rattle.schema.specs.Words.{Spelled}
use Rattle.schema.specs.declared.basic.Repetition.{Repetition}
use Rattle.schema.specs.declared.element.Kind.{Kind}
use Rattle.schema.specs.declared.element.Kind.TheVariants.{Group as group, Leaf as leaf}
use Rattle.schema.specs.declared.refusal.Refusal.{Refusal}
use Rattle.tree.specs.Forest.{Forest, alone, count}
use Rattle.tree.specs.Forest.Forest.{bare, plant}

module _ (a b : ℕ → Bool) where
  abbrev Agree : Forest Read → Type 0
  Agree bare = Unit {0}
  Agree (plant x below after) = (is_leaf x.of.kind ≡ true → a x.of.leaf_number ≡ b x.of.leaf_number) × Agree below × Agree after

  yields_agree : (k : Kind) (role : Result Role Refusal) (l : ℕ) (s z : Bool) → (is_leaf k ≡ true → a l ≡ b l) → yields_by a k role l s z ≡ yields_by b k role l s z
  yields_agree (leaf c) role l s z h = h refl
  yields_agree (group n) (Ok own) l s z h = refl
  yields_agree (group n) (Ok listed) l s z h = refl
  yields_agree (group n) (Ok middle) l s z h = refl
  yields_agree (group n) (Ok mapped) l s z h = refl
  yields_agree (group n) (Ok entries) l s z h = refl
  yields_agree (group n) (Err r) l s z h = refl

  one_agree : (x : Read) (s t z w : Bool) → (is_leaf x.of.kind ≡ true → a x.of.leaf_number ≡ b x.of.leaf_number) → s ≡ t → z ≡ w
      → yields_by a x.of.kind x.role x.of.leaf_number s z ≡ yields_by b x.of.kind x.role x.of.leaf_number t w
  one_agree x s t z w h e k =
      yields_agree x.of.kind x.role x.of.leaf_number s z h
      ∙ ap₂ (λ (p q : Bool). yields_by b x.of.kind x.role x.of.leaf_number p q) e k

  mutual
    some_agree : (f : Forest Read) → Agree f → some_yield a f ≡ some_yield b f
    some_agree bare h = refl
    some_agree (plant x below after) h =
        ap₂ (λ (p q : Bool). p || q)
        (one_agree x (some_yield a below) (some_yield b below) (both_yield a below) (both_yield b below) h.0 (some_agree below h.1) (both_agree below h.1))
        (some_agree after h.2)

    both_agree : (f : Forest Read) → Agree f → both_yield a f ≡ both_yield b f
    both_agree bare h = refl
    both_agree (plant x below after) h = every_agree below h.1

    every_agree : (f : Forest Read) → Agree f → every_yield a f ≡ every_yield b f
    every_agree bare h = refl
    every_agree (plant x below after) h =
        ap₂ (λ (p q : Bool). p && q)
        (one_agree x (some_yield a below) (some_yield b below) (both_yield a below) (both_yield b below) h.0 (some_agree below h.1) (both_agree below h.1))
        (every_agree after h.2)

  rows_agree : (k : Kind) (x : Read) (role : Result Role Refusal) (r : Repetition) (v : Levels) (p s t : Bool) (f g : Forest Made)
      → (is_leaf k ≡ true → a x.of.leaf_number ≡ b x.of.leaf_number) → s ≡ t → f ≡ g
      → element_rows a k x role r v p s f ≡ element_rows b k x role r v p t g
  rows_agree (leaf c) x role r v p s t f g h e k = ap (λ (z : Bool). over (wrap x of_list r v p) (leaf_part z x r v)) (h refl)
  rows_agree (group n) x role r v p s t f g h e k = ap₂ (λ (z : Bool) (y : Forest Made). element_rows b (group n) x role r v p z y) e k

  shape_agree : (v : Levels) (p : Bool) (f : Forest Read) → Agree f → shape a v p f ≡ shape b v p f
  unfolding shape
  shape_agree v p bare h = refl
  shape_agree v p (plant x below after) h =
      let r = x.of.repetition in
      let o = passes_null (has_own x.role) r in
      ap₂ (λ (y z : Forest Made). beside y z)
      (rows_agree x.of.kind x x.role r (raised v r) p (both_yield a below) (both_yield b below) (shape a (raised v r) o below) (shape b (raised v r) o below)
      h.0 (both_agree below h.1) (shape_agree (raised v r) o below h.1))
      (shape_agree v p after h.2)

  module _ (typing : Typing) where
    own_agree : (k : Kind) (x : Read) (w : Bool) (m : ℕ) → (is_leaf k ≡ true → a x.of.leaf_number ≡ b x.of.leaf_number)
        → own_checks typing a k x w m ≡ own_checks typing b k x w m
    own_agree (leaf l) x w m h =
        ap (λ (c : Bool). cond c (wrap_checks x.of.number w x.given.hint ++ type_checks x.of.number (typing l (leaf_hint x))) []) (h refl)
    own_agree (group n) x w m h = refl

    below_agree : (k : Kind) (rs qs : List Refusal) → rs ≡ qs → below_group typing a k rs ≡ below_group typing b k qs
    below_agree (leaf l) rs qs e = refl
    below_agree (group n) rs qs e = e

    refusals_agree : (f : Forest Read) → Agree f → refusals typing a f ≡ refusals typing b f
    unfolding refusals
    refusals_agree bare h = refl
    refusals_agree (plant x below after) h =
        ap₂ (λ (p q : List Refusal). p ++ q)
        (ap₂ (λ (p q : List Refusal). (name_checks x.of.number x.given.named x.of.name x.given.hint ++ p) ++ q)
        (own_agree x.of.kind x (wrapped x.part x.of.repetition) (trees below) h.0)
        (below_agree x.of.kind (refusals typing a below) (refusals typing b below) (refusals_agree below h.1)))
        (refusals_agree after h.2)

  -- ── Agreement below the count of leaves ──

  agrees : (n : Bool) (u h : Forest Hint) (t : Part) (g : Holder) (i k : ℕ) (s : Forest Spelled) → LeavesEnd s
      → ((j : ℕ) → k ≤ j → j < k + leaf_count s → a j ≡ b j) → Agree (hinting n u h (reading t g (numbered i k s)))
  unfolding hinting reading
  agrees n u h t g i k bare p f = tt
  agrees n u h t g i k (plant e below after) p f =
      let x = numbered_as i k e in
      let bs = numbered (i + 1) k below in
      let role = role_of t x bs in
      let mine = cond (is_leaf e.kind) 1 (leaf_count below) in (
        (λ (q : is_leaf e.kind ≡ true).
            let c : mine ≡ 1 = ap (λ (z : Bool). cond z 1 (leaf_count below)) q in
            f k (omega arith) (omega arith)),
        inside_of (is_leaf e.kind) refl (compares_names role) (field_hint t u (sole h)) (hands_on role (wrapped t x.repetition) (sole h)) (child_part role x.name bs) (held_by t g x)
            (agrees (compares_names role) (field_hint t u (sole h)) (hands_on role (wrapped t x.repetition) (sole h)) (child_part role x.name bs) (held_by t g x) (i + 1) k below p.1),
        agrees n u (others h) (next_part t) g (i + 1 + count below) (k + mine) after p.2 (λ j lo hi. f j (omega arith) (omega arith)),
      )
    where
      inside_of : (c : Bool) → is_leaf e.kind ≡ c → (n : Bool) (u h : Forest Hint) (t : Part) (g : Holder)
          → (((j : ℕ) → k ≤ j → j < k + leaf_count below → a j ≡ b j) → Agree (hinting n u h (reading t g (numbered (i + 1) k below))))
          → Agree (hinting n u h (reading t g (numbered (i + 1) k below)))
      inside_of true q n u h t g more = subst (λ (z : Forest Spelled). Agree (hinting n u h (reading t g (numbered (i + 1) k z)))) (sym (p.0 q)) tt
      inside_of false q n u h t g more =
          let c : cond (is_leaf e.kind) 1 (leaf_count below) ≡ leaf_count below = ap (λ (z : Bool). cond z 1 (leaf_count below)) q in
          more (λ j lo hi. f j lo (omega arith))

pub same_selection : SameSelection
same_selection typing a b hints t p f =
    let agree = agrees a b false bare hints as_root nobody 0 0 (alone t) p (λ j lo hi. f j (omega arith)) in
    ap₂ (λ (rs : List Refusal) (g : Forest Made). unless_refused rs (relabel (full_of typing) g))
    (refusals_agree a b typing (handed hints t) agree) (shape_agree a b base false (handed hints t) agree)
