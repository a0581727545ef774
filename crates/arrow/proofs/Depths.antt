-- How deep the rows of a hint lie.
use Rattle.std.proofs.Common.{◌≡◌, ℕ, zero, suc, ◌+◌, ◌-◌, ◌<◌, Bool, true, false, cond, ltb, ◌&&◌, List, [], ◌∷◌, length, get_or, drop, Some, None, Option, is_some, sym, refl, ap, ap₂, ◌∙◌, subst, inl, inr, arith, length-append}
use Rattle.std.specs.List.{slice_get}
use Rattle.std.proofs.lemmas.Bool.{false≢true, cases_lt, lt-ltb, le-ltb, and_parts, and_from, cond-true, cond-false}
use Rattle.std.proofs.Math.Bool.{and-true}
use Rattle.tree.specs.Forest.{Forest, Lists, listing, count, tops, below_at, children, depth}
use Rattle.tree.specs.Forest.Forest.{bare, plant}
use Rattle.tree.proofs.Depths.{below_fits}
use Rattle.arrow.specs.declared.hint.HintRow.{HintRow}
use Rattle.arrow.specs.Kinds.{hint_span}
use Rattle.arrow.specs.HintTrees.{empty_hint, shallow, tree_at}

-- the first row of what is left
pub getD_first : {A : Type 0} (xs : List A) (i : ℕ) (d x : A) (ys : List A) → drop i xs ≡ x ∷ ys → get_or xs i d ≡ x
getD_first [] zero d x ys e = absurd (omega (arith, ap length e))
getD_first [] (suc i) d x ys e = absurd (omega (arith, ap length e))
getD_first (y ∷ xs) zero d x ys e = cc
getD_first (y ∷ xs) (suc i) d x ys e = getD_first xs i d x ys e

-- What lies below a row that is itself below another.
below_below : (f : Forest HintRow) (p j i : ℕ) → i ≡ p + 1 + j → j < count (below_at f p) → below_at f i ≡ below_at (below_at f p) j
below_below bare p j i e h = absurd (omega arith)
below_below (plant r v w) p j zero e h = absurd (omega arith)
below_below (plant r v w) zero j (suc i) e h =
    let n : i ≡ j = omega arith in
    cond-true (ltb i (count v)) (below_at v i) (below_at w (i - count v)) (lt-ltb i (count v) (omega arith)) ∙ ap (below_at v) n
below_below (plant r v w) (suc p) j (suc i) e h =
    elim (cases_lt p (count v)) [
      | inl lt ↦ let k : j < count (below_at v p) = subst (λ b. j < count (cond b (below_at v p) (below_at w (p - count v)))) (lt-ltb p (count v) lt) h in
          cond-true (ltb i (count v)) (below_at v i) (below_at w (i - count v)) (lt-ltb i (count v) (omega (arith, below_fits v p lt)))
          ∙ below_below v p j i (omega arith) k
          ∙ ap (λ u. below_at u j) (sym (cond-true (ltb p (count v)) (below_at v p) (below_at w (p - count v)) (lt-ltb p (count v) lt)))
      | inr ge ↦ let k : j < count (below_at w (p - count v)) = subst (λ b. j < count (cond b (below_at v p) (below_at w (p - count v)))) (le-ltb p (count v) ge) h in
          cond-false (ltb i (count v)) (below_at v i) (below_at w (i - count v)) (le-ltb i (count v) (omega arith))
          ∙ below_below w (p - count v) j (i - count v) (omega arith) k
          ∙ ap (λ u. below_at u j) (sym (cond-false (ltb p (count v)) (below_at v p) (below_at w (p - count v)) (le-ltb p (count v) ge)))
    ]

-- The first tree, and those after it.
shallow_first : (d : ℕ) (r s : HintRow) (v w : Forest HintRow) → shallow d (plant r v w) ≡ (shallow d (plant s v bare) && shallow d w)
shallow_first zero r s v w = refl
shallow_first (suc d) r s v w = elim (shallow d v) as (λ b. (b && shallow (suc d) w) ≡ ((b && true) && shallow (suc d) w)) [ true ↦ refl | false ↦ refl ]

-- whether each place passes
abbrev pub every : (ℕ → Bool) → List ℕ → Bool
every p [] = true
every p (x ∷ xs) = p x && every p xs

-- A forest is shallow where each of its trees is.
each_shallow : (f : Forest HintRow) (rows : List HintRow) (d : ℕ) (b : Forest HintRow) (q : ℕ) → ((j : ℕ) → j < count b → below_at f (q + j) ≡ below_at b j) → shallow d b ≡ every (λ c. shallow d (tree_at f rows c)) (tops q b)
each_shallow f rows d bare q h = refl
each_shallow f rows d (plant r v w) q h =
    let first : below_at f q ≡ v = ap (below_at f) (let e : q ≡ q + 0 = omega arith in e) ∙ h 0 (omega arith) in
    let n = length-append (listing v) (listing w) in
    let after = each_shallow f rows d w (q + suc (count v)) (λ j k.
    ap (below_at f) (let e : q + suc (count v) + j ≡ q + suc (count v + j) = omega arith in e) ∙ h (suc (count v + j)) (omega (arith, n))
    ∙ cond-false (ltb (count v + j) (count v)) (below_at v (count v + j)) (below_at w (count v + j - count v)) (le-ltb (count v + j) (count v) (omega arith))
    ∙ ap (below_at w) (let e : count v + j - count v ≡ j = omega arith in e)) in
    shallow_first d r (get_or rows q empty_hint) v w ∙ ap₂ (λ x y. x && y) (ap (λ u. shallow d (plant (get_or rows q empty_hint) u bare)) (sym first)) after

-- The loop over the children of a row: those left decide.
abbrev pub Left : List HintRow → ℕ → ℕ → List ℕ → Type 0
Left rows at levels cs = (f : Forest HintRow) → Lists hint_span f rows → shallow levels (tree_at f rows at) ≡ every (λ c. shallow (levels - 1) (tree_at f rows c)) cs

pub begins : (rows : List HintRow) (at levels : ℕ) → 0 < levels → (cs : List ℕ) → ((f : Forest HintRow) → Lists hint_span f rows → cs ≡ children f at) → Left rows at levels cs
begins rows at levels h cs e f l =
    ap (λ n. shallow n (tree_at f rows at)) (let n : levels ≡ suc (levels - 1) = omega arith in n)
    ∙ and-true (shallow (levels - 1) (below_at f at))
    ∙ each_shallow f rows (levels - 1) (below_at f at) (at + 1) (λ j k. below_below f at j (at + 1 + j) refl k)
    ∙ ap (every (λ c. shallow (levels - 1) (tree_at f rows c))) (sym (e f l))

-- A row with no child is one deep.
bare_shallow : (r : HintRow) (q d : ℕ) (b : Forest HintRow) → slice_get (tops q b) 0 ≡ None → shallow (suc d) (plant r b bare) ≡ true
bare_shallow r q d bare e = refl
bare_shallow r q d (plant s v w) e = absurd (let z : ◌≡◌ {A = ℕ} 0 1 = cc in omega arith)

alone_shallow : (f : Forest HintRow) (rows : List HintRow) (c d : ℕ) → 0 < d → slice_get (children f c) 0 ≡ None → shallow d (tree_at f rows c) ≡ true
alone_shallow f rows c zero h e = absurd (omega arith)
alone_shallow f rows c (suc d) h e = bare_shallow (get_or rows c empty_hint) (c + 1) d (below_at f c) e

found_none : {A : Type 0} (r : Option A) → is_some r ≡ false → r ≡ None
found_none None e = refl
found_none (Some x) e = absurd (false≢true (sym e))

-- So a child with no child of its own is passed over.
pub passes_alone : (rows : List HintRow) (at levels c : ℕ) (cs rest : List ℕ) → Left rows at levels cs → cs ≡ c ∷ rest → 1 < levels → (r : Option ℕ) → is_some r ≡ false → ((f : Forest HintRow) → Lists hint_span f rows → r ≡ slice_get (children f c) 0) → Left rows at levels rest
passes_alone rows at levels c cs rest left e h r n first f l =
    left f l
    ∙ ap (every (λ x. shallow (levels - 1) (tree_at f rows x))) e
    ∙ ap (λ b. b && every (λ x. shallow (levels - 1) (tree_at f rows x)) rest) (alone_shallow f rows c (levels - 1) (omega arith) (sym (first f l) ∙ found_none r n))

-- At most d rows one above another: each row has fewer than d above it.

pub depth_below : (d : ℕ) (f : Forest HintRow) → shallow d f ≡ true → (i : ℕ) → i < count f → depth f i < d
depth_below d bare s i h = absurd (omega arith)
depth_below zero (plant r v w) s i h = absurd (false≢true s)
depth_below (suc d) (plant r v w) s zero h = omega arith
depth_below (suc d) (plant r v w) s (suc i) h =
    let n = length-append (listing v) (listing w) in
    let parts = and_parts (shallow d v) (shallow (suc d) w) s in
    elim (cases_lt i (count v)) [
      | inl lt ↦ rw (lt-ltb i (count v) lt) (omega (arith, depth_below d v parts.0 i lt))
      | inr ge ↦ rw (le-ltb i (count v) ge) (depth_below (suc d) w parts.1 (i - count v) (omega arith))
    ]

inside_depth : (d : ℕ) (r : HintRow) (v w : Forest HintRow) → ((i : ℕ) → i < count (plant r v w) → depth (plant r v w) i < suc d) → (i : ℕ) → i < count v → depth v i < d
inside_depth d r v w h i lt =
    let n = length-append (listing v) (listing w) in
    let at : suc (depth v i) < suc d = rw (lt-ltb i (count v) lt) at (h (suc i) (omega arith)) in
    omega arith

after_depth : (d : ℕ) (r : HintRow) (v w : Forest HintRow) → ((i : ℕ) → i < count (plant r v w) → depth (plant r v w) i < d) → (i : ℕ) → i < count w → depth w i < d
after_depth d r v w h i lt =
    let n = length-append (listing v) (listing w) in
    let back : count v + i - count v ≡ i = omega arith in
    let at : depth w (count v + i - count v) < d = rw (le-ltb (count v + i) (count v) (omega arith)) at (h (suc (count v + i)) (omega arith)) in
    subst (λ j. depth w j < d) back at

pub below_depth : (d : ℕ) (f : Forest HintRow) → ((i : ℕ) → i < count f → depth f i < d) → shallow d f ≡ true
below_depth d bare h = refl
below_depth zero (plant r v w) h = absurd (omega (arith, h 0 (omega arith)))
below_depth (suc d) (plant r v w) h =
    and_from (shallow d v) (shallow (suc d) w) (below_depth d v (inside_depth d r v w h)) (below_depth (suc d) w (after_depth (suc d) r v w h))
