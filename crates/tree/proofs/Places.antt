-- The children of a row by the sizes: a step, how many there are, and that in a tree they are the tree's.
use Rattle.std.proofs.Common.{◌≡◌, ℕ, zero, suc, ◌+◌, ◌-◌, ◌<◌, ◌≤◌, Bool, true, false, cond, List, [], ◌∷◌, length, drop, Some, None, Option, MatchOption, sym, refl, ap, ◌∙◌, add-one, arith}
use Rattle.std.specs.List.{slice_get}
use Rattle.std.specs.Option.{SomeIff}
use Rattle.std.proofs.lemmas.Bool.Decides.{nat_tests}
use Rattle.std.proofs.lemmas.List.{drop_all}
use Rattle.tree.specs.Forest.{Forest, Lists, size_at, children, HasChild, HasNext}
use Rattle.tree.specs.Walk.{eldest, sibling, siblings, children_from, children_by_size}
use Rattle.tree.proofs.Trees.{checked_same, first_in_tree, next_in_tree}

pub nth_none : {X : Type 0} (xs : List X) (k : ℕ) → slice_get xs k ≡ None → length xs ≤ k
nth_none [] k e = omega arith
nth_none (y ∷ xs) zero e = absurd (let z : ◌≡◌ {A = ℕ} 0 1 = cc in omega arith)
nth_none (y ∷ xs) (suc k) e = let r = nth_none xs k e in omega arith

by_test : (b : Bool) (P : Type 0) (v : ℕ) → (b ≡ true → P) → (b ≡ false → P → ⊥) → SomeIff (cond b (Some v) None) P v
by_test true P v h k = (h refl, refl)
by_test false P v h k = k refl

-- what is left of a list from one of its items on
drop_at : {A : Type 0} (xs : List A) (k : ℕ) (x : A) → slice_get xs k ≡ Some x → drop k xs ≡ x ∷ drop (suc k) xs
drop_at [] k x e = absurd (let z : ◌≡◌ {A = ℕ} 0 1 = cc in omega arith)
drop_at (y ∷ xs) zero x e = cc
drop_at (y ∷ xs) (suc k) x e = drop_at xs k x e

module _ {A : Type 0} (span : A → ℕ) (rows : List A) (p : ℕ) where
  -- the child after a child, told by the test and told by the sizes' facts
  pub sibling_told : (c : ℕ) → SomeIff (sibling span rows p c) (HasNext span rows c p) (c + size_at span rows c)
  sibling_told c = by_test _ _ _ (λ e. grind (arith, nat_tests)) (λ e h. grind (arith, nat_tests))

  eldest_told : SomeIff (eldest span rows p) (HasChild span rows p) (p + 1)
  eldest_told = by_test _ _ _ (λ e. grind (arith, nat_tests)) (λ e h. grind (arith, nat_tests))

  pub children_told : (r : Option ℕ) → SomeIff r (HasChild span rows p) (p + 1) → children_from span rows p r ≡ children_by_size span rows p
  children_told r x = ap (children_from span rows p) (checked_same span r (eldest span rows p) (HasChild span rows p) (p + 1) x eldest_told)

  -- at most so many children come
  abbrev pub room : Option ℕ → ℕ
  room None = 0
  room (Some c) = suc (length rows - c)

  room_falls : (c : ℕ) (o : Option ℕ) → SomeIff o (HasNext span rows c p) (c + size_at span rows c) → (room o ≤ length rows) × (room o < room (Some c))
  room_falls c None x = (omega arith, omega arith)
  room_falls c (Some d) x = (omega (arith, x.1, x.0.0, x.0.2), omega (arith, x.1, x.0.1, x.0.2))

  -- more than there is room for changes nothing
  enough : (n : ℕ) (o : Option ℕ) → room o ≤ n → siblings span rows p n o ≡ siblings span rows p (suc n) o
  enough zero None h = refl
  enough zero (Some c) h = absurd (omega arith)
  enough (suc n) None h = refl
  enough (suc n) (Some c) h =
      let r = room_falls c (sibling span rows p c) (sibling_told c) in
      ap (λ xs. c ∷ xs) (enough n (sibling span rows p c) (omega (arith, r.1)))

  -- one child, and what comes after it
  pub children_step : (next : Option ℕ) (c : ℕ) (r : Option ℕ) → next ≡ Some c → SomeIff r (HasNext span rows c p) (c + size_at span rows c) → children_from span rows p next ≡ c ∷ children_from span rows p r
  children_step next c r e x =
      let same : r ≡ sibling span rows p c = checked_same span r (sibling span rows p c) (HasNext span rows c p) (c + size_at span rows c) x (sibling_told c) in
      let f = room_falls c (sibling span rows p c) (sibling_told c) in
      ap (children_from span rows p) e ∙ ap (λ xs. c ∷ xs) (enough (length rows) (sibling span rows p c) f.0 ∙ ap (children_from span rows p) (sym same))

  few : (n : ℕ) (o : Option ℕ) → length (siblings span rows p n o) ≤ room o
  few zero o = omega arith
  few (suc n) None = omega arith
  few (suc n) (Some c) =
      let r = room_falls c (sibling span rows p c) (sibling_told c) in
      omega (arith, few n (sibling span rows p c), r.1)

  first_room : (r : Option ℕ) → SomeIff r (HasChild span rows p) (p + 1) → room r ≤ length rows
  first_room None x = omega arith
  first_room (Some c) x = omega (arith, x.1, x.0.1)

  -- there are no more children than rows
  pub few_children : (r : Option ℕ) → SomeIff r (HasChild span rows p) (p + 1) → length (children_from span rows p r) ≤ length rows
  few_children r x = omega (arith, few (suc (length rows)) r, first_room r x)

  first_inside : (r : Option ℕ) → SomeIff r (HasChild span rows p) (p + 1) → MatchOption r (Unit {0}) (λ c. (p < c) × (c < length rows))
  first_inside None x = record {}
  first_inside (Some c) x = (omega (arith, x.1), omega (arith, x.1, x.0.1))

  next_inside : (q d : ℕ) (o : Option ℕ) → (q < d) × (d < length rows) → SomeIff o (HasNext span rows d p) (d + size_at span rows d) → MatchOption o (Unit {0}) (λ c. (suc q < c) × (c < length rows))
  next_inside q d None h x = record {}
  next_inside q d (Some c) h x = (omega (arith, h.0, x.1, x.0.1), omega (arith, x.1, x.0.2))

  each_inside : (n q : ℕ) (o : Option ℕ) → MatchOption o (Unit {0}) (λ c. (q < c) × (c < length rows)) → (k c : ℕ) → slice_get (siblings span rows p n o) k ≡ Some c → (q + k < c) × (c < length rows)
  each_inside zero q o h k c e = absurd (let z : ◌≡◌ {A = ℕ} 0 1 = cc in omega arith)
  each_inside (suc n) q None h k c e = absurd (let z : ◌≡◌ {A = ℕ} 0 1 = cc in omega arith)
  each_inside (suc n) q (Some d) h zero c e =
      let same : d ≡ c = cc in
      (omega (arith, h.0, same), omega (arith, h.1, same))
  each_inside (suc n) q (Some d) h (suc k) c e =
      let r = each_inside n (suc q) (sibling span rows p d) (next_inside q d (sibling span rows p d) h (sibling_told d)) k c e in
      (omega (arith, r.0), r.1)

  after : (d : ℕ) (o : Option ℕ) → d < length rows → SomeIff o (HasNext span rows d p) (d + size_at span rows d) → MatchOption o (Unit {0}) (λ c. (d < c) × (c < length rows))
  after d None h x = record {}
  after d (Some c) h x = (omega (arith, x.1, x.0.1), omega (arith, x.1, x.0.2))

  place_of : (d : ℕ) (o : Option ℕ) → SomeIff o (HasNext span rows d p) (d + size_at span rows d) → MatchOption o (Unit {0}) (λ c. c < length rows)
  place_of d None x = record {}
  place_of d (Some c) x = omega (arith, x.1, x.0.2)

  first_place : (r : Option ℕ) → SomeIff r (HasChild span rows p) (p + 1) → MatchOption r (Unit {0}) (λ c. c < length rows)
  first_place None x = record {}
  first_place (Some c) x = omega (arith, x.1, x.0.1)

  each_rises : (n : ℕ) (o : Option ℕ) → MatchOption o (Unit {0}) (λ c. c < length rows) → (j k b c : ℕ) → j < k → slice_get (siblings span rows p n o) j ≡ Some b → slice_get (siblings span rows p n o) k ≡ Some c → b < c
  each_rises zero o h j k b c lt e f = absurd (let z : ◌≡◌ {A = ℕ} 0 1 = cc in omega arith)
  each_rises (suc n) None h j k b c lt e f = absurd (let z : ◌≡◌ {A = ℕ} 0 1 = cc in omega arith)
  each_rises (suc n) (Some d) h j zero b c lt e f = absurd (omega arith)
  each_rises (suc n) (Some d) h zero (suc k) b c lt e f =
      let same : d ≡ b = cc in
      let r = each_inside n d (sibling span rows p d) (after d (sibling span rows p d) h (sibling_told d)) k c f in
      omega (arith, r.0, same)
  each_rises (suc n) (Some d) h (suc j) (suc k) b c lt e f =
      each_rises n (sibling span rows p d) (place_of d (sibling span rows p d) (sibling_told d)) j k b c (omega arith) e f

  -- the children's places rise
  pub children_rise : (r : Option ℕ) → SomeIff r (HasChild span rows p) (p + 1) → (j k b c : ℕ) → j < k → slice_get (children_from span rows p r) j ≡ Some b → slice_get (children_from span rows p r) k ≡ Some c → b < c
  children_rise r x = each_rises (suc (length rows)) r (first_place r x)

  -- the children's places lie past the parent's, and are places of rows
  pub children_inside : (r : Option ℕ) → SomeIff r (HasChild span rows p) (p + 1) → (k c : ℕ) → slice_get (children_from span rows p r) k ≡ Some c → (p + k < c) × (c < length rows)
  children_inside r x = each_inside (suc (length rows)) p r (first_inside r x)

  module _ (f : Forest A) (l : Lists span f rows) where
    from_tree : (n k : ℕ) (o : Option ℕ) → slice_get (children f p) k ≡ o → room o ≤ n → siblings span rows p n o ≡ drop k (children f p)
    from_tree zero k None e h = sym (drop_all k (children f p) (nth_none (children f p) k e))
    from_tree zero k (Some c) e h = absurd (omega arith)
    from_tree (suc n) k None e h = sym (drop_all k (children f p) (nth_none (children f p) k e))
    from_tree (suc n) k (Some c) e h =
        let r = room_falls c (sibling span rows p c) (sibling_told c) in
        let next = next_in_tree span f rows l c p (sibling span rows p c) (sibling_told c) k e in
        ap (λ xs. c ∷ xs) (from_tree n (k + 1) (sibling span rows p c) (sym next) (omega (arith, r.1))) ∙ ap (λ m. c ∷ drop m (children f p)) (add-one k) ∙ sym (drop_at (children f p) k c e)

    -- in a tree the children by the sizes are the tree's
    pub children_in_tree : (r : Option ℕ) → SomeIff r (HasChild span rows p) (p + 1) → children_from span rows p r ≡ children f p
    children_in_tree r x = from_tree (suc (length rows)) 0 r (sym (first_in_tree span f rows l p r x)) (omega (arith, first_room r x))
