-- The rows whose stretch holds a place are its row and those above it.
use Rattle.std.proofs.Common.{◌≡◌, ℕ, zero, suc, ◌+◌, ◌-◌, ◌<◌, ◌≤◌, Bool, true, false, ltb, leb, List, [], ◌∷◌, ◌++◌, length, drop, Decides, filter, sym, refl, ap, ◌∙◌, subst, inl, inr, append_assoc, append-nil, zero-add, add-one, arith, length-append, drop-drop}
use Rattle.std.specs.List.{range_with_len, ContainsAt as Has}
use Rattle.std.proofs.lemmas.List.FromFn.{length-range_with_len, get_or-range_with_len}
use Rattle.std.proofs.ByRecursion.{all-has, has_append_right, kept_by_passes}
use Rattle.std.proofs.lemmas.Bool.{cases_lt, leb-true, lt-ltb, le-ltb, le-leb, and_parts, and_from, and_right, cond-true, cond-false, cond_both}
use Rattle.tree.specs.Forest.{Forest, Lists, listing, count, Sized, size_at, below_at}
use Rattle.tree.specs.Forest.Forest.{bare, plant}
use Rattle.tree.specs.Around.{holds_place, around, line_from, line}
use Rattle.tree.proofs.Trees.{seen, size_here, drop_next, drop_past}
use Rattle.tree.proofs.Depths.{below_fits}

-- A filter leaves out places where the test fails.
pub kept_by_skips : (test : ℕ → Bool) (a m n b k : ℕ) → a + m ≡ b → m + n ≡ k → ((j : ℕ) → a ≤ j → j < b → test j ≡ false) → filter test (range_with_len a k) ≡ filter test (range_with_len b n)
kept_by_skips test a zero n b k e s none =
    let there : a ≡ b = omega arith in
    let many : k ≡ n = omega arith in
    cc
kept_by_skips test a (suc m) n b k e s none =
    let many : k ≡ suc (m + n) = omega arith in
    let left = filter test (range_with_len (a + 1) (m + n)) in
    ap (λ t. filter test (range_with_len a t)) many ∙ cond-false (test a) (a ∷ left) left (none a (omega arith) (omega arith)) ∙ kept_by_skips test (a + 1) m n b (m + n) (omega arith) refl (λ j ge lt. none j (omega arith) lt)

-- What passes the test stays.
pub has_kept_by : {X : Type 0} (test : X → Bool) (xs : List X) (x : X) → Has xs x → test x ≡ true → Has (filter test xs) x
has_kept_by test [] x h passes = absurd (omega (arith, h.1))
has_kept_by test (y ∷ xs) x (zero, lt, at) passes =
    let l = filter test xs in
    let here : y ≡ x = at x in
    subst (λ t. Has t x) (sym (cond-true (test y) (y ∷ l) l (ap test here ∙ passes))) (0, omega arith, λ d. here)
has_kept_by test (y ∷ xs) x (suc k, lt, at) passes =
    let l = filter test xs in
    let r = has_kept_by test xs x (k, omega arith, at) passes in
    cond_both (test y) (y ∷ l) l (λ t. Has t x) (λ _. has_append_right (y ∷ []) l x r) (λ _. r)

module _ {A : Type 0} (span : A → ℕ) where
  pub holds_yes : (rows : List A) (i e : ℕ) → i ≤ e → e < i + size_at span rows i → holds_place span rows i e ≡ true
  holds_yes rows i e le lt = and_from (leb i e) (ltb e (i + size_at span rows i)) (le-leb i e le) (lt-ltb e (i + size_at span rows i) lt)

  pub holds_no : (rows : List A) (i e : ℕ) → i + size_at span rows i ≤ e → holds_place span rows i e ≡ false
  holds_no rows i e le = and_right (leb i e) (ltb e (i + size_at span rows i)) (le-ltb e (i + size_at span rows i) le)

  -- The subtree of a row ends within its forest, which stands in the rows from the place q on.
  pub ends_in_forest : (xs : List A) (f : Forest A) → Sized span f → (q : ℕ) (rest : List A) → drop q xs ≡ listing f ++ rest → (j : ℕ) → q ≤ j → j < q + count f → j + size_at span xs j ≤ q + count f
  ends_in_forest xs f s q rest d j le lt =
      let i : ℕ = j - q in
      let at : j ≡ q + i = omega arith in
      let within : i < count f = omega arith in
      let r = seen span f s i within rest in
      let here = ap (λ n. drop n xs) at ∙ sym (drop-drop i q xs) ∙ ap (drop i) d ∙ r.split in
      let size = size_here span xs j r.row (listing (below_at f i) ++ r.rest) here in
      omega (arith, size, r.told, below_fits f i within)

  -- The same as `ancestors` below, where the forest's rows begin at the place q.
  pub line_kept : (xs : List A) (f : Forest A) → Sized span f → (q : ℕ) (rest : List A) → drop q xs ≡ listing f ++ rest → (i e : ℕ) → i < count f → q + i ≡ e → filter (λ j. holds_place span xs j e) (range_with_len q (suc i)) ≡ line_from q f i
  line_kept xs bare s q rest d i e h at = absurd (omega arith)
  line_kept xs (plant a v w) s q rest d zero e h at =
      let split : drop q xs ≡ a ∷ (listing v ++ (listing w ++ rest)) = d ∙ ap (λ l. a ∷ l) (append_assoc (listing v) (listing w) rest) in
      let size = size_here span xs q a (listing v ++ (listing w ++ rest)) split in
      cond-true (holds_place span xs q e) (q ∷ []) [] (holds_yes xs q e (omega arith) (omega (arith, size, s.0)))
  line_kept xs (plant a v w) s q rest d (suc i) e h at =
      let split : drop q xs ≡ a ∷ (listing v ++ (listing w ++ rest)) = d ∙ ap (λ l. a ∷ l) (append_assoc (listing v) (listing w) rest) in
      let size = size_here span xs q a (listing v ++ (listing w ++ rest)) split in
      let sum = length-append (listing v) (listing w) in
      let on : drop (q + 1) xs ≡ listing v ++ (listing w ++ rest) = ap (λ n. drop n xs) (add-one q) ∙ drop_next xs q a (listing v ++ (listing w ++ rest)) split in
      elim (cases_lt i (count v)) [
        | inl lt ↦ let left = filter (λ j. holds_place span xs j e) (range_with_len (q + 1) (suc i)) in
            let below = line_kept xs v s.1 (q + 1) (listing w ++ rest) on i e lt (omega arith) in
            rw (lt-ltb i (count v) lt) (cond-true (holds_place span xs q e) (q ∷ left) left (holds_yes xs q e (omega arith) (omega (arith, size, s.0))) ∙ ap (λ l. q ∷ l) below)
        | inr ge ↦ let past : drop (q + suc (count v)) xs ≡ listing w ++ rest = drop_past xs q (a ∷ listing v) (listing w ++ rest) split in
            let none : (j : ℕ) → q ≤ j → j < q + suc (count v) → holds_place span xs j e ≡ false = λ j le lt. holds_no xs j e (elim (cases_lt q j) [
              | inl more ↦ omega (arith, ends_in_forest xs v s.1 (q + 1) (listing w ++ rest) on j (omega arith) (omega arith))
              | inr same ↦ let here : j ≡ q = omega arith in omega (arith, ap (size_at span xs) here, size, s.0)
            ]) in
            rw (le-ltb i (count v) ge) (kept_by_skips (λ j. holds_place span xs j e) q (suc (count v)) (suc (i - count v)) (q + suc (count v)) (suc (suc i)) refl (omega arith) none ∙ line_kept xs w s.2 (q + suc (count v)) rest past (i - count v) e (omega arith) (omega arith))
      ]

  -- The places whose stretch holds e are e and those above it, from the top down.
  pub ancestors : (f : Forest A) (rows : List A) → Lists span f rows → (e : ℕ) → e < length rows → around span rows e ≡ line f e
  ancestors f rows l e h = line_kept rows f l.sized 0 [] (sym (append-nil (listing f) ∙ l.lists)) e e (omega (arith, ap length l.lists)) (zero-add e)

  -- A stretch holds e exactly where its row is e or stands above it.
  pub on_line : (f : Forest A) (rows : List A) → Lists span f rows → (i e : ℕ) → e < length rows → Decides (holds_place span rows i e) (Has (line f e) i)
  on_line f rows l i e h =
      let same = ancestors f rows l e h in
      let test : ℕ → Bool = λ j. holds_place span rows j e in (
        λ passes.
            let parts = and_parts (leb i e) (ltb e (i + size_at span rows i)) passes in
            let le = leb-true i e parts.0 in
            let counted : Has (range_with_len 0 (suc e)) i = (i, simp length-range_with_len (omega arith), λ d. get_or-range_with_len 0 (suc e) i d (omega arith) ∙ zero-add i) in
            subst (λ l. Has l i) same (has_kept_by test (range_with_len 0 (suc e)) i counted passes),
        λ has. all-has (λ j. test j ≡ true) (around span rows e) i (kept_by_passes test (range_with_len 0 (suc e))) (subst (λ l. Has l i) (sym same) has),
      )
