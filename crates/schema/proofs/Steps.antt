-- The steps of the loops over rows: which rows are a schema, and their sizes.
use Rattle.std.proofs.Common.{◌≡◌, ℕ, zero, suc, ◌+◌, ◌<◌, ◌≤◌, Bool, true, false, cond, ◌&&◌, eqb, ltb, List, [], ◌∷◌, ◌++◌, length, get_or, take, drop, set, sym, refl, ap, ◌∙◌, subst, ap₂, inl, inr, add-one, arith}
use Rattle.std.proofs.Math.Bool.{and-true}
use Rattle.std.proofs.lemmas.Bool.{cond-true, cond-false, lt-ltb, le-ltb, le-leb, and_right, and_from, and_parts, eqb-true, eq-eqb, cases_lt}
use Rattle.std.proofs.lemmas.List.{drop_more, at_drop_more, length-map, length-drop, drop-drop}
use Rattle.std.specs.Bool.{MatchBool}
use Rattle.std.specs.List.{zip, AllWithin, HoldsAt}
use Rattle.schema.specs.declared.element.Element.{Element}
use Rattle.schema.specs.Elements.{empty}
use Rattle.schema.specs.Rows.{root_kept, next_kept, rest_kept, rows_kept, deeper, depths_of, sized, with_size, sizes_kept}

-- Whether rows are a schema.

-- the first row is the root, and each later row may come after the one before it: so, or at some row not
pub rows_from_pairs : (bytes : ℕ) (rows rest : List Element) (root : Element) (r : Bool) → rows ≡ root ∷ rest → length rows ≤ 4096 → true ≡ root_kept bytes root
    → MatchBool r (AllWithin (λ p. next_kept bytes p.0 p.1 ≡ true) (zip rows rest) 0 (length (zip rows rest))) ((k : ℕ) × (k < length (zip rows rest)) × HoldsAt (λ p. next_kept bytes p.0 p.1 ≡ false) (zip rows rest) k)
    → r ≡ rows_kept bytes rows
rows_from_pairs bytes rows rest root r e l k p =
    rw (e, le-leb (length rest) 4095 (omega (arith, ap length e, l)), ← k) (pairs root rest r (subst (λ xs. MatchBool r (AllWithin (λ p. next_kept bytes p.0 p.1 ≡ true) (zip xs rest) 0 (length (zip xs rest))) ((k : ℕ) × (k < length (zip xs rest)) × HoldsAt (λ p. next_kept bytes p.0 p.1 ≡ false) (zip xs rest) k)) e p))
  where
    all : (x : Element) (xs : List Element) → AllWithin (λ p. next_kept bytes p.0 p.1 ≡ true) (zip (x ∷ xs) xs) 0 (length (zip (x ∷ xs) xs)) → rest_kept bytes x xs ≡ true
    all x [] h = refl
    all x (y ∷ ys) h =
        and_from (next_kept bytes x y) (rest_kept bytes y ys) (h 0 (x, y) (omega arith) (omega arith)) (all y ys (λ k d low high. h (suc k) d (omega arith) (omega (arith, high))))

    not_all : (x : Element) (xs : List Element) (k : ℕ) → k < length (zip (x ∷ xs) xs) → HoldsAt (λ p. next_kept bytes p.0 p.1 ≡ false) (zip (x ∷ xs) xs) k → rest_kept bytes x xs ≡ false
    not_all x [] k l h = absurd (omega (arith, l))
    not_all x (y ∷ ys) zero l h = ap (λ b. b && rest_kept bytes y ys) (h (x, y))
    not_all x (y ∷ ys) (suc k) l h = and_right (next_kept bytes x y) (rest_kept bytes y ys) (not_all y ys k (omega (arith, l)) h)

    pairs : (x : Element) (xs : List Element) (r : Bool) → MatchBool r (AllWithin (λ p. next_kept bytes p.0 p.1 ≡ true) (zip (x ∷ xs) xs) 0 (length (zip (x ∷ xs) xs))) ((k : ℕ) × (k < length (zip (x ∷ xs) xs)) × HoldsAt (λ p. next_kept bytes p.0 p.1 ≡ false) (zip (x ∷ xs) xs) k)
        → r ≡ rest_kept bytes x xs
    pairs x xs true h = sym (all x xs h)
    pairs x xs false h = sym (not_all x xs h.0 h.1 h.2)

-- Sizes.

-- rows that have their sizes
abbrev pub Known : List Element → Type 0
Known xs = xs ≡ sized xs

pub known_tail : (x : Element) (xs : List Element) → Known (x ∷ xs) → Known xs
known_tail x xs e = cc

pub known_drop : (k : ℕ) (xs : List Element) → Known xs → Known (drop k xs)
known_drop zero xs e = e
known_drop (suc k) [] e = e
known_drop (suc k) (x ∷ xs) e = known_drop k xs (known_tail x xs e)

-- the deeper rows at the front are a front
pub deeper_within : (d : ℕ) (xs : List ℕ) → deeper d xs ≤ length xs
deeper_within d [] = omega arith
deeper_within d (x ∷ xs) = elim (ltb d x) as (λ b. cond b (deeper d xs + 1) 0 ≤ suc (length xs)) [ true ↦ omega (arith, deeper_within d xs) | false ↦ omega arith ]

-- past all that is deeper than x, which is deeper than d, goes on what is deeper than d
pub deeper_jump : (d x : ℕ) (xs : List ℕ) → d < x → deeper d xs ≡ deeper x xs + deeper d (drop (deeper x xs) xs)
deeper_jump d x [] h = refl
deeper_jump d x (y ∷ xs) h =
    elim (cases_lt x y) [
      | inl l ↦
          let a : deeper x (y ∷ xs) ≡ suc (deeper x xs) = cond-true (ltb x y) _ _ (lt-ltb x y l) ∙ omega arith in
          let b : deeper d (y ∷ xs) ≡ deeper d xs + 1 = cond-true (ltb d y) _ _ (lt-ltb d y (omega arith)) in
          let r = deeper_jump d x xs h in
          let e : deeper d (drop (deeper x (y ∷ xs)) (y ∷ xs)) ≡ deeper d (drop (deeper x xs) xs) = ap (λ n. deeper d (drop n (y ∷ xs))) a in
          omega (arith, a, b, r, e)
      | inr g ↦
          let a : deeper x (y ∷ xs) ≡ 0 = cond-false (ltb x y) _ _ (le-ltb x y g) in
          let e : deeper d (drop (deeper x (y ∷ xs)) (y ∷ xs)) ≡ deeper d (y ∷ xs) = ap (λ n. deeper d (drop n (y ∷ xs))) a in
          omega (arith, a, e)
    ]

depths_drop : (k : ℕ) (xs : List Element) → depths_of (drop k xs) ≡ drop k (depths_of xs)
depths_drop zero xs = refl
depths_drop (suc k) [] = refl
depths_drop (suc k) (x ∷ xs) = depths_drop k xs

-- from one child to the next by its size
module _ (xs : List Element) (j d : ℕ) (h : j < length xs) (known : Known (drop j xs)) where
  abbrev here : Element
  here = get_or xs j empty

  abbrev rest : List ℕ
  rest = depths_of (drop (j + 1) xs)

  pub size_known : here.size ≡ deeper here.depth rest + 1
  size_known =
      let e : here ∷ drop (j + 1) xs ≡ sized (here ∷ drop (j + 1) xs) = subst Known (drop_more xs j empty h) known in
      cc

  pub size_fits : j + here.size ≤ length xs
  size_fits = omega (arith, size_known, deeper_within here.depth rest, length-map (drop (j + 1) xs) (λ (e : Element). e.depth), length-drop (j + 1) xs)

  pub jump : d < here.depth → deeper d (depths_of (drop j xs)) ≡ here.size + deeper d (depths_of (drop (j + here.size) xs))
  jump l =
      let a : deeper d (depths_of (drop j xs)) ≡ deeper d rest + 1 =
      ap (λ ys. deeper d (depths_of ys)) (drop_more xs j empty h) ∙ cond-true (ltb d here.depth) _ _ (lt-ltb d here.depth l) in
      let b = deeper_jump d here.depth rest l in
      let n : j + here.size ≡ deeper here.depth rest + (j + 1) = omega (arith, size_known) in
      let c : drop (deeper here.depth rest) rest ≡ depths_of (drop (j + here.size) xs) =
      sym (depths_drop (deeper here.depth rest) (drop (j + 1) xs)) ∙ ap depths_of (drop-drop (deeper here.depth rest) (j + 1) xs ∙ ap (λ m. drop m xs) (omega (arith, n))) in
      omega (arith, a, b, ap (deeper d) c, size_known)

depths_sized : (xs : List Element) → depths_of (sized xs) ≡ depths_of xs
depths_sized [] = refl
depths_sized (x ∷ xs) = ap (λ ys. x.depth ∷ ys) (depths_sized xs)

pub length_sized : (xs : List Element) → length (sized xs) ≡ length xs
length_sized [] = refl
length_sized (x ∷ xs) = ap suc (length_sized xs)

pub known_sized : (xs : List Element) → Known (sized xs)
known_sized [] = refl
known_sized (x ∷ xs) =
    let a = known_sized xs in
    let b = depths_sized xs in
    cc

-- the rows before i as they were, and those from i on with their sizes
abbrev pub done_from : ℕ → List Element → List Element
done_from i xs = take i xs ++ sized (drop i xs)

pub done_rest : (i : ℕ) (xs : List Element) → i ≤ length xs → drop i (done_from i xs) ≡ sized (drop i xs)
done_rest zero xs h = refl
done_rest (suc i) [] h = absurd (omega (arith, h))
done_rest (suc i) (x ∷ xs) h = done_rest i xs (omega (arith, h))

pub done_known : (i : ℕ) (xs ys : List Element) → i ≤ length xs → ys ≡ done_from i xs → Known (drop i ys)
done_known i xs ys h e = subst Known (sym (ap (drop i) e ∙ done_rest i xs h)) (known_sized (drop i xs))

-- one row more has its size
done_more : (i : ℕ) (xs : List Element) → i < length xs
    → (z : ℕ) → z ≡ deeper (get_or (done_from (suc i) xs) i empty).depth (depths_of (drop (suc i) (done_from (suc i) xs))) + 1
    → set (done_from (suc i) xs) i (with_size (get_or (done_from (suc i) xs) i empty) z) ≡ done_from i xs
done_more i [] h z e = absurd (omega (arith, h))
done_more zero (x ∷ xs) h z e = ap (λ n. with_size x n ∷ sized xs) (e ∙ ap (λ ys. deeper x.depth ys + 1) (depths_sized xs))
done_more (suc i) (x ∷ xs) h z e = ap (λ ys. x ∷ ys) (done_more i xs (omega (arith, h)) z e)

pub fill_more : (i : ℕ) (xs ys : List Element) → i < length xs → ys ≡ done_from (i + 1) xs → (z : ℕ) → z ≡ deeper (get_or ys i empty).depth (depths_of (drop (i + 1) ys)) + 1
    → set ys i (with_size (get_or ys i empty) z) ≡ done_from i xs
fill_more i xs ys h e z f =
    let g : ys ≡ done_from (suc i) xs = e ∙ ap (λ n. done_from n xs) (add-one i) in
    ap (λ zs. set zs i (with_size (get_or zs i empty) z)) g
    ∙ done_more i xs h z (f ∙ ap (λ n. deeper (get_or ys i empty).depth (depths_of (drop n ys)) + 1) (add-one i) ∙ ap (λ zs. deeper (get_or zs i empty).depth (depths_of (drop (suc i) zs)) + 1) g)

pub fill_none : (xs : List Element) → xs ≡ done_from (length xs) xs
fill_none [] = refl
fill_none (x ∷ xs) = ap (λ ys. x ∷ ys) (fill_none xs)

-- Rows that tell the sizes that their depths give.

pub known_from_kept : (xs : List Element) → sizes_kept xs ≡ true → Known xs
known_from_kept [] e = refl
known_from_kept (x ∷ xs) e =
    let p = and_parts (eqb x.size (deeper x.depth (depths_of xs) + 1)) (sizes_kept xs) e in
    let q = eqb-true x.size (deeper x.depth (depths_of xs) + 1) p.0 in
    let r = known_from_kept xs p.1 in
    ap₂ (λ n ys. with_size x n ∷ ys) q r

pub kept_from_known : (xs : List Element) → Known xs → sizes_kept xs ≡ true
kept_from_known [] e = refl
kept_from_known (x ∷ xs) e =
    let q : x.size ≡ deeper x.depth (depths_of xs) + 1 = cc in
    and_from (eqb x.size (deeper x.depth (depths_of xs) + 1)) (sizes_kept xs) (eq-eqb x.size (deeper x.depth (depths_of xs) + 1) q) (kept_from_known xs (known_tail x xs e))

-- a wrong size from some row on is a wrong size
pub sizes_wrong : (i : ℕ) (xs : List Element) → sizes_kept (drop i xs) ≡ false → sizes_kept xs ≡ false
sizes_wrong zero xs e = e
sizes_wrong (suc i) [] e = e
sizes_wrong (suc i) (x ∷ xs) e = and_right (eqb x.size (deeper x.depth (depths_of xs) + 1)) (sizes_kept xs) (sizes_wrong i xs e)

-- one row more
pub sizes_step : (i : ℕ) (xs : List Element) → i < length xs → sizes_kept (drop (i + 1) xs) ≡ true → sizes_kept (drop i xs) ≡ eqb (get_or xs i empty).size (deeper (get_or xs i empty).depth (depths_of (drop (i + 1) xs)) + 1)
sizes_step i xs h e =
    at_drop_more sizes_kept xs i empty h
    ∙ ap (λ b. eqb (get_or xs i empty).size (deeper (get_or xs i empty).depth (depths_of (drop (i + 1) xs)) + 1) && b) e
    ∙ and-true (eqb (get_or xs i empty).size (deeper (get_or xs i empty).depth (depths_of (drop (i + 1) xs)) + 1))
