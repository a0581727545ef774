-- Ways and paths, on flat tables and in trees.
use Rattle.std.proofs.Common.{◌≡◌, ℕ, zero, suc, ◌+◌, ◌-◌, ◌<◌, ◌≤◌, Bool, true, false, cond, ltb, ◌⊎◌, List, [], ◌∷◌, ◌++◌, map, get_or, drop, sym, refl, ap, ◌∙◌, subst, ap₂, inl, inr, append_assoc, add-one, arith, get_or-drop}
use Rattle.std.proofs.lemmas.Bool.{cases_lt, lt-ltb, le-ltb}
use Rattle.tree.proofs.Trees.{drop_next, drop_past}
use Rattle.walk.proofs.Lists.{Ends, count_plant, count_relabel}
use Rattle.walk.proofs.Numbers.{count_numbered}
use Rattle.walk.proofs.Once.{among_left, among_right}
use Rattle.walk.specs.Forests.{Way, along, relabel, straight, under, ways}
use Rattle.walk.specs.Labels.{Numbered, is_leaf, leaf_count, leaf_node, numbered, numbered_as}
use Rattle.walk.specs.Laws.{Paired}
use Rattle.walk.specs.Levels.{Among}
use Rattle.schema.specs.Words.{Spelled}
use Rattle.tree.specs.Around.{line_from}
use Rattle.tree.specs.Forest.{Forest, count, listing}
use Rattle.tree.specs.Forest.Forest.{bare, plant}

-- ── The labels from a root down to a place ──

abbrev pub trail : {A : Type 0} → Forest A → ℕ → List A
trail bare e = []
trail (plant a below after) zero = a ∷ []
trail (plant a below after) (suc e) = cond (ltb e (count below)) (a ∷ trail below e) (trail after (e - count below))

-- the label at a place
abbrev pub label_at : {A : Type 0} → A → Forest A → ℕ → A
label_at d bare e = d
label_at d (plant a below after) zero = a
label_at d (plant a below after) (suc e) = cond (ltb e (count below)) (label_at d below e) (label_at d after (e - count below))

pub trail_relabel : {A B : Type 0} (f : A → B) (g : Forest A) (e : ℕ) → trail (relabel f g) e ≡ map f (trail g e)
trail_relabel f bare e = refl
trail_relabel f (plant a below after) zero = refl
trail_relabel {A} {B} f (plant a below after) (suc e) =
    ap (λ (m : ℕ). cond (ltb e m) (f a ∷ trail (relabel f below) e) (trail (relabel f after) (e - m))) (count_relabel f below)
    ∙ go (ltb e (count below)) (trail_relabel f below e) (trail_relabel f after (e - count below))
  where
    go : (b : Bool) → trail (relabel f below) e ≡ map f (trail below e) → trail (relabel f after) (e - count below) ≡ map f (trail after (e - count below))
        → cond b (f a ∷ trail (relabel f below) e) (trail (relabel f after) (e - count below)) ≡ map f (cond b (a ∷ trail below e) (trail after (e - count below)))
    go true p q = ap {B = List B} (λ (l : List B). f a ∷ l) p
    go false p q = q

-- ── Places of the line, and what stands there ──

module _ {A : Type 0} (xs : List A) (d : A) where
  -- where a tree's rows begin, its root stands, and the rows below it and then those after it come next
  pub laid : (a : A) (v w : Forest A) (q : ℕ) (rest : List A) → drop q xs ≡ listing (plant a v w) ++ rest
      → (get_or xs q d ≡ a) × (drop (q + 1) xs ≡ listing v ++ (listing w ++ rest)) × (drop (q + suc (count v)) xs ≡ listing w ++ rest)
  laid a v w q rest e =
      let split : drop q xs ≡ a ∷ (listing v ++ (listing w ++ rest)) = e ∙ ap {B = List A} (λ (l : List A). a ∷ l) (append_assoc (listing v) (listing w) rest) in (
        ap (λ (n : ℕ). get_or xs n d) (let z : q ≡ q + 0 = omega arith in z) ∙ sym (get_or-drop q xs 0 d) ∙ ap (λ (l : List A). get_or l 0 d) split,
        ap (λ (n : ℕ). drop n xs) (add-one q) ∙ drop_next xs q a (listing v ++ (listing w ++ rest)) split,
        drop_past xs q (a ∷ listing v) (listing w ++ rest) split,
      )

  pub line_trail : (f : Forest A) (q : ℕ) (rest : List A) → drop q xs ≡ listing f ++ rest → (i : ℕ) → i < count f
      → map (λ j. get_or xs j d) (line_from q f i) ≡ trail f i
  line_trail bare q rest e i h = absurd (omega arith)
  line_trail (plant a v w) q rest e zero h = ap {B = List A} (λ (z : A). z ∷ []) (laid a v w q rest e).0
  line_trail (plant a v w) q rest e (suc i) h =
      let lies = laid a v w q rest e in
      let size = count_plant a v w in
      elim (cases_lt i (count v)) [
        | inl lt ↦ rw (lt-ltb i (count v) lt)
            (ap₂ {C = List A} (λ (z : A) (l : List A). z ∷ l) lies.0 (line_trail v (q + 1) (listing w ++ rest) lies.1 i lt))
        | inr ge ↦ rw (le-ltb i (count v) ge) (line_trail w (q + suc (count v)) rest lies.2 (i - count v) (omega arith))
      ]

  pub here_label : (f : Forest A) (q : ℕ) (rest : List A) → drop q xs ≡ listing f ++ rest → (i : ℕ) → i < count f → get_or xs (q + i) d ≡ label_at d f i
  here_label bare q rest e i h = absurd (omega arith)
  here_label (plant a v w) q rest e zero h = ap (λ (n : ℕ). get_or xs n d) (let z : q + 0 ≡ q = omega arith in z) ∙ (laid a v w q rest e).0
  here_label (plant a v w) q rest e (suc i) h =
      let lies = laid a v w q rest e in
      let size = count_plant a v w in
      elim (cases_lt i (count v)) [
        | inl lt ↦ rw (lt-ltb i (count v) lt)
            (ap (λ (n : ℕ). get_or xs n d) (let z : q + suc i ≡ q + 1 + i = omega arith in z) ∙ here_label v (q + 1) (listing w ++ rest) lies.1 i lt)
        | inr ge ↦ rw (le-ltb i (count v) ge)
            (ap (λ (n : ℕ). get_or xs n d) (let z : q + suc i ≡ q + suc (count v) + (i - count v) = omega arith in z)
            ∙ here_label w (q + suc (count v)) rest lies.2 (i - count v) (omega arith))
      ]

-- ── Among lists ──

pub among_map : {A B : Type 0} (f : A → B) (x : A) (xs : List A) → Among x xs → Among (f x) (map f xs)
among_map f x [] a = a
among_map f x (y ∷ xs) (inl e) = inl (ap f e)
among_map f x (y ∷ xs) (inr a) = inr (among_map f x xs a)

pub map_among : {A B : Type 0} (f : A → B) (y : B) (xs : List A) → Among y (map f xs) → (x : A) × (Among x xs × (y ≡ f x))
map_among f y [] a = absurd a
map_among f y (x ∷ xs) (inl e) = (x, (inl refl, e))
map_among f y (x ∷ xs) (inr a) = let r = map_among f y xs a in (r.0, (inr r.1.0, r.1.1))

pub among_split : {A : Type 0} (x : A) (xs ys : List A) → Among x (xs ++ ys) → Among x xs ⊎ Among x ys
among_split x [] ys a = inr a
among_split x (y ∷ xs) ys (inl e) = inl (inl e)
among_split x (y ∷ xs) ys (inr a) = elim (among_split x xs ys a) [ inl b ↦ inl (inr b) | inr b ↦ inr b ]

pub partner : {A B : Type 0} (R : A → B → Type 0) (xs : List A) (ys : List B) → Paired R xs ys → (x : A) → Among x xs → (y : B) × (Among y ys × R x y)
partner R [] [] p x a = absurd a
partner R [] (y ∷ ys) p x a = absurd a
partner R (z ∷ xs) [] p x a = absurd p
partner R (z ∷ xs) (y ∷ ys) p x (inl e) = (y, (inl refl, subst (λ w. R w y) (sym e) p.0))
partner R (z ∷ xs) (y ∷ ys) p x (inr a) = let r = partner R xs ys p.1 x a in (r.0, (inr r.1.0, r.1.1))

-- ── From a leaf's place to its way ──

pub record Leads {A : Type 0} (is : A → Bool) (d : A) (f : Forest A) (i : ℕ) : Type 0 where
  pub way : Way A
  pub among : Among way (ways is f)
  pub goes : along way ≡ trail f i
  pub ends : way.end ≡ label_at d f i

pub leads : {A : Type 0} (is : A → Bool) (d : A) (f : Forest A) → Ends is f → (i : ℕ) → i < count f → is (label_at d f i) ≡ true → Leads is d f i
leads is d bare t i h e = absurd (omega arith)
leads is d (plant a v w) t zero h e =
    record {
      way = straight a;
      among = subst (λ (b : Bool). Among (straight a) (cond b (straight a ∷ []) (map (under a) (ways is v)) ++ ways is w)) (sym e) (inl refl);
      goes = refl;
      ends = refl;
    }
leads {A} is d (plant a v w) t (suc i) h e =
    elim (cases_lt i (count v)) [
      | inl lt ↦ down lt (is a) refl (leads is d v t.1 i lt (simp (lt-ltb i (count v) lt) at e))
      | inr ge ↦ past ge (leads is d w t.2 (i - count v) (omega (arith, count_plant a v w)) (simp (le-ltb i (count v) ge) at e))
    ]
  where
    down : i < count v → (b : Bool) → is a ≡ b → Leads is d v i → Leads is d (plant a v w) (suc i)
    down lt true k r = absurd (let z : count v ≡ 0 = ap count (t.0 k) in omega arith)
    down lt false k r =
        record {
          way = under a r.way;
          among = subst (λ (b : Bool). Among (under a r.way) (cond b (straight a ∷ []) (map (under a) (ways is v)) ++ ways is w)) (sym k)
              (among_left (under a r.way) (map (under a) (ways is v)) (ways is w) (among_map (under a) r.way (ways is v) r.among));
          goes = rw (lt-ltb i (count v) lt) (ap {B = List A} (λ (l : List A). a ∷ l) r.goes);
          ends = rw (lt-ltb i (count v) lt) r.ends;
        }

    past : count v ≤ i → Leads is d w (i - count v) → Leads is d (plant a v w) (suc i)
    past ge r =
        record {
          way = r.way;
          among = among_right r.way (cond (is a) (straight a ∷ []) (map (under a) (ways is v))) (ways is w) r.among;
          goes = rw (le-ltb i (count v) ge) r.goes;
          ends = rw (le-ltb i (count v) ge) r.ends;
        }

-- ── From a leaf's way to its number ──

pub record Placed (n : ℕ) (f : Forest Numbered) (w : Way Numbered) : Type 0 where
  pub low : n ≤ w.end.number
  pub high : w.end.number < n + count f
  pub goes : along w ≡ trail f (w.end.number - n)

module _ {A : Type 0} (a : A) (v u : Forest A) where
  trail_in : (i : ℕ) → i < count v → trail (plant a v u) (suc i) ≡ a ∷ trail v i
  trail_in i h = rw (lt-ltb i (count v) h) refl

  trail_past : (i : ℕ) → count v ≤ i → trail (plant a v u) (suc i) ≡ trail u (i - count v)
  trail_past i h = rw (le-ltb i (count v) h) refl

module _ (n : ℕ) (x : Numbered) (v u : Forest Numbered) (at : x.number ≡ n) where
  placed_here : Placed n (plant x v u) (straight x)
  placed_here =
      record {
        low = omega arith;
        high = omega (arith, count_plant x v u);
        goes = ap (trail (plant x v u)) (let z : 0 ≡ x.number - n = omega arith in z);
      }

  placed_below : (w : Way Numbered) → Placed (n + 1) v w → Placed n (plant x v u) (under x w)
  placed_below w r =
      let i = w.end.number - (n + 1) in
      let on : suc i ≡ w.end.number - n = omega (arith, r.low) in
      record {
        low = omega (arith, r.low);
        high = omega (arith, r.high, count_plant x v u);
        goes = ap {B = List Numbered} (λ (l : List Numbered). x ∷ l) r.goes ∙ sym (trail_in x v u i (omega (arith, r.low, r.high))) ∙ ap (trail (plant x v u)) on;
      }

  placed_after : (m : ℕ) (w : Way Numbered) → m ≡ n + 1 + count v → Placed m u w → Placed n (plant x v u) w
  placed_after m w e r =
      let i = w.end.number - (n + 1) in
      let on : suc i ≡ w.end.number - n = omega (arith, r.low) in
      let off : w.end.number - m ≡ i - count v = omega (arith, r.low) in
      record {
        low = omega (arith, r.low);
        high = omega (arith, r.high, count_plant x v u);
        goes = r.goes ∙ ap (trail u) off ∙ sym (trail_past x v u i (omega (arith, r.low))) ∙ ap (trail (plant x v u)) on;
      }

pub placed : (n k : ℕ) (s : Forest Spelled) (w : Way Numbered) → Among w (ways leaf_node (numbered n k s)) → Placed n (numbered n k s) w
placed n k bare w a = absurd a
placed n k (plant e below after) w a =
    let x = numbered_as n k e in
    let k' = k + cond (is_leaf e.kind) 1 (leaf_count below) in
    let v = numbered (n + 1) k below in
    let u = numbered (n + 1 + count below) k' after in
    elim (among_split w (cond (is_leaf e.kind) (straight x ∷ []) (map (under x) (ways leaf_node v))) (ways leaf_node u) a) [
      | inl b ↦ here x v u refl (is_leaf e.kind) b (λ z c. placed (n + 1) k below z c)
      | inr b ↦ placed_after n x v u refl (n + 1 + count below) w (omega (arith, count_numbered (n + 1) k below)) (placed (n + 1 + count below) k' after w b)
    ]
  where
    here : (x : Numbered) (v u : Forest Numbered) → x.number ≡ n → (b : Bool) → Among w (cond b (straight x ∷ []) (map (under x) (ways leaf_node v)))
        → ((z : Way Numbered) → Among z (ways leaf_node v) → Placed (n + 1) v z) → Placed n (plant x v u) w
    here x v u at true (inl c) more = subst (λ (z : Way Numbered). Placed n (plant x v u) z) (sym c) (placed_here n x v u at)
    here x v u at true (inr c) more = absurd c
    here x v u at false c more =
        let r = map_among (under x) w (ways leaf_node v) c in
        subst (λ (z : Way Numbered). Placed n (plant x v u) z) (sym r.1.1) (placed_below n x v u at r.0 (more r.0 r.1.0))
