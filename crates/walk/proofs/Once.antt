-- One alone among many lists that are joined.
use Rattle.std.proofs.Common.{◌≡◌, ℕ, zero, suc, Bool, true, false, cond, List, [], ◌∷◌, ◌++◌, filter, sym, refl, ap, ◌∙◌, subst, inl, inr}
use mathlib.Core.List.{nil≢cons}
use Rattle.std.specs.List.{flat_map}
use Rattle.std.proofs.lemmas.List.Elements.{filter-append}
use Rattle.walk.specs.Levels.{Among, At}

module _ {Z : Type 0} where
  pub among_left : (y : Z) (xs ys : List Z) → Among y xs → Among y (xs ++ ys)
  among_left y [] ys a = absurd a
  among_left y (x ∷ xs) ys (inl e) = inl e
  among_left y (x ∷ xs) ys (inr a) = inr (among_left y xs ys a)

  pub among_right : (y : Z) (xs ys : List Z) → Among y ys → Among y (xs ++ ys)
  among_right y [] ys a = a
  among_right y (x ∷ xs) ys a = inr (among_right y xs ys a)

  among_nothing : (y : Z) (xs : List Z) → xs ≡ [] → Among y xs → ⊥
  among_nothing y xs e a = subst (λ (l : List Z). Among y l) e a

  module _ (t : Z → Bool) where
    among_kept : (y : Z) (xs : List Z) → t y ≡ true → Among y xs → Among y (filter t xs)
    among_kept y [] h a = a
    among_kept y (x ∷ xs) h (inl e) =
        let k : t x ≡ true = ap t (sym e) ∙ h in
        rw k (inl e)
    among_kept y (x ∷ xs) h (inr a) = go (t x) (among_kept y xs h a)
      where
        go : (b : Bool) → Among y (filter t xs) → Among y (cond b (x ∷ filter t xs) (filter t xs))
        go true r = inr r
        go false r = r

    pub kept_among : (y : Z) (xs : List Z) → Among y (filter t xs) → Among y xs
    kept_among y [] a = a
    kept_among y (x ∷ xs) a = go (t x) (kept_among y xs) a
      where
        go : (b : Bool) → (Among y (filter t xs) → Among y xs) → Among y (cond b (x ∷ filter t xs) (filter t xs)) → Among y (x ∷ xs)
        go true r (inl e) = inl e
        go true r (inr m) = inr (r m)
        go false r m = inr (r m)

    pub record Once {X : Type 0} (g : X → List Z) (z : Z) (xs : List X) : Type 0 where
      pub place : ℕ
      pub holds : At (λ x. Among z (g x)) xs place
      pub alone : (i : ℕ) (y : Z) → t y ≡ true → At (λ x. Among y (g x)) xs i → (i ≡ place) × (y ≡ z)

    module _ {X : Type 0} (g : X → List Z) (z : Z) where
      at_joined : (y : Z) (xs : List X) (i : ℕ) → At (λ x. Among y (g x)) xs i → Among y (flat_map g xs)
      at_joined y [] i a = a
      at_joined y (x ∷ xs) zero a = among_left y (g x) (flat_map g xs) a
      at_joined y (x ∷ xs) (suc i) a = among_right y (g x) (flat_map g xs) (at_joined y xs i a)

      -- the one is further on
      later : (x : X) (xs : List X) → filter t (g x) ≡ [] → Once g z xs → Once g z (x ∷ xs)
      later x xs e o = record { place = suc o.place; holds = o.holds; alone = others }
        where
          others : (i : ℕ) (y : Z) → t y ≡ true → At (λ x. Among y (g x)) (x ∷ xs) i → (i ≡ suc o.place) × (y ≡ z)
          others zero y h a = absurd (among_nothing y (filter t (g x)) e (among_kept y (g x) h a))
          others (suc i) y h a = let r = o.alone i y h a in (ap suc r.0, r.1)

      -- the one is here
      first : (x : X) (xs : List X) → filter t (g x) ≡ z ∷ [] → filter t (flat_map g xs) ≡ [] → Once g z (x ∷ xs)
      first x xs e n =
          record { place = zero; holds = kept_among z (g x) (subst (λ (l : List Z). Among z l) (sym e) (inl refl)); alone = others }
        where
          same : (y : Z) → Among y (z ∷ []) → y ≡ z
          same y (inl h) = h
          same y (inr a) = absurd a

          others : (i : ℕ) (y : Z) → t y ≡ true → At (λ x. Among y (g x)) (x ∷ xs) i → (i ≡ zero) × (y ≡ z)
          others zero y h a = (refl, same y (subst (λ (l : List Z). Among y l) e (among_kept y (g x) h a)))
          others (suc i) y h a = absurd (among_nothing y (filter t (flat_map g xs)) n (among_kept y (flat_map g xs) h (at_joined y xs i a)))

      nothing_left : (us vs : List Z) → us ++ vs ≡ [] → (us ≡ []) × (vs ≡ [])
      nothing_left [] vs e = (refl, e)
      nothing_left (u ∷ us) vs e = absurd (nil≢cons (sym e))

      pub once : (xs : List X) → filter t (flat_map g xs) ≡ z ∷ [] → Once g z xs
      once [] e = absurd (nil≢cons e)
      once (x ∷ xs) e = go (filter t (g x)) refl (once xs) (sym (filter-append t (g x) (flat_map g xs)) ∙ e)
        where
          go : (us : List Z) → filter t (g x) ≡ us → (filter t (flat_map g xs) ≡ z ∷ [] → Once g z xs)
              → filter t (g x) ++ filter t (flat_map g xs) ≡ z ∷ [] → Once g z (x ∷ xs)
          go [] h r k = later x xs h (r (ap (λ (l : List Z). l ++ filter t (flat_map g xs)) (sym h) ∙ k))
          go (u ∷ us) h r k =
              let m : u ∷ (us ++ filter t (flat_map g xs)) ≡ z ∷ [] = ap (λ (l : List Z). l ++ filter t (flat_map g xs)) (sym h) ∙ k in
              let head : u ≡ z = cc in
              let tail : us ++ filter t (flat_map g xs) ≡ [] = cc in
              let n = nothing_left us (filter t (flat_map g xs)) tail in
              first x xs (h ∙ (λ i. head i ∷ n.0 i)) n.1
