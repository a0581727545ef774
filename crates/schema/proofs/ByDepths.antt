-- Rows that keep the steps are the rows of a tree by depth, and the other way round; and their sizes are the tree's.
use Rattle.std.proofs.Common.{◌≡◌, ℕ, zero, suc, ◌+◌, ◌-◌, ◌<◌, ◌≤◌, Bool, true, false, cond, ◌&&◌, eqb, ltb, leb, ◌⊎◌, List, [], ◌∷◌, ◌++◌, length, get_or, is_some, is_none, sym, refl, ap, ◌∙◌, subst, ap₂, inl, inr, append_assoc, append-nil, arith}
use Rattle.std.specs.List.{AllByRecursion}
use Rattle.std.proofs.lemmas.Bool.{cond-true, cond-false, lt-ltb, le-ltb, le-leb, leb-true, eqb-true, and_from, and_parts, cases_lt}
use Rattle.std.proofs.lemmas.List.{length-append, get_or_append_left, get_or-append_right}
use Rattle.std.proofs.ByRecursion.{All-get_or}
use Rattle.tree.specs.Forest.{Forest, alone, listing, count, depth, below_at, size_at, Sized, IsFlatTree}
use Rattle.tree.specs.Forest.Forest.{bare, plant}
use Rattle.schema.specs.declared.element.Element.{Element}
use Rattle.tree.proofs.Trees.{below_rows}
use Rattle.schema.specs.Elements.{element_span, empty, is_group}
use Rattle.schema.proofs.Steps.{Known, known_tail, known_sized, length_sized, known_from_kept, kept_from_known}
use Rattle.schema.specs.Rows.{plain_group, kind_kept, named_inside, root_kept, row_kept, deepest_after, may_follow, next_kept, rest_kept, rows_kept, ByDepth, IsSchema, IsFinished, sizes_kept, finished_kept, deeper, depths_of, sized, with_size}

-- From steps to a tree. From the last row back, the trees so far stand one after the other, each root at most as deep as
-- the root before it; a new row takes those that are deeper as its children.

-- the trees at the front whose roots are deeper than d, and the others
abbrev taken : ℕ → Forest Element → Forest Element
taken d bare = bare
taken d (plant e below after) = cond (ltb d e.depth) (plant e below (taken d after)) bare

abbrev left : ℕ → Forest Element → Forest Element
left d bare = bare
left d (plant e below after) = cond (ltb d e.depth) (left d after) (plant e below after)

-- a forest whose roots are at most m deep, each at most as deep as the one before it
abbrev Falling : ℕ → Forest Element → Type 0
Falling m bare = Unit {0}
Falling m (plant e below after) =
    (e.depth ≤ m) × (is_group e.kind ≡ false → below ≡ bare) × ByDepth (e.depth + 1) below × Falling e.depth after

-- the rows, as such a forest
abbrev falls : List Element → Forest Element
falls [] = bare
falls (e ∷ es) = plant e (taken e.depth (falls es)) (left e.depth (falls es))

taken_left : (d : ℕ) (f : Forest Element) → listing (taken d f) ++ listing (left d f) ≡ listing f
taken_left d bare = refl
taken_left d (plant e below after) =
    elim (ltb d e.depth) as (λ b. listing (cond b (plant e below (taken d after)) bare) ++ listing (cond b (left d after) (plant e below after)) ≡ listing (plant e below after)) [
      | true ↦ ap (λ xs. e ∷ xs) (append_assoc (listing below) (listing (taken d after)) (listing (left d after)) ∙ ap (λ xs. listing below ++ xs) (taken_left d after))
      | false ↦ refl
    ]

falls_lists : (es : List Element) → listing (falls es) ≡ es
falls_lists [] = refl
falls_lists (e ∷ es) = ap (λ xs. e ∷ xs) (taken_left e.depth (falls es) ∙ falls_lists es)

-- what falls from d + 1 and is deeper than d lies at d + 1
taken_deep : (d : ℕ) (f : Forest Element) (m : ℕ) → m ≤ d + 1 → Falling m f → ByDepth (d + 1) (taken d f)
taken_deep d bare m h x = tt
taken_deep d (plant e below after) m h x =
    elim (cases_lt d e.depth) [
      | inl l ↦
          let at : e.depth ≡ d + 1 = omega (arith, l, h, x.0) in
          rw (lt-ltb d e.depth l) (at, x.1, subst (λ n. ByDepth (n + 1) below) at x.2, taken_deep d after e.depth (omega (arith, at)) x.3)
      | inr g ↦ rw (le-ltb d e.depth g) tt
    ]

left_falls : (d : ℕ) (f : Forest Element) (m : ℕ) → Falling m f → Falling d (left d f)
left_falls d bare m x = tt
left_falls d (plant e below after) m x =
    elim (cases_lt d e.depth) [
      | inl l ↦ rw (lt-ltb d e.depth l) (left_falls d after e.depth x.3)
      | inr g ↦ rw (le-ltb d e.depth g) (g, x.1, x.2, x.3)
    ]

-- nothing is taken where the first root is not deeper
none_taken : (d : ℕ) (f : Forest Element) → Falling d f → taken d f ≡ bare
none_taken d bare x = refl
none_taken d (plant e below after) x = cond-false (ltb d e.depth) _ _ (le-ltb d e.depth x.0)

rest_falls : (bytes : ℕ) (before : Element) (es : List Element) → rest_kept bytes before es ≡ true → Falling (deepest_after before) (falls es)
rest_falls bytes before [] k = tt
rest_falls bytes before (e ∷ es) k =
    let p = and_parts (next_kept bytes before e) (rest_kept bytes e es) k in
    let q = and_parts (may_follow before e) (row_kept bytes e) p.0 in
    let low : e.depth ≤ deepest_after before = leb-true e.depth (deepest_after before) q.0 in
    let below = rest_falls bytes e es p.1 in (
      low,
      (λ (g : is_group e.kind ≡ false). none_taken e.depth (falls es) (subst (λ n. Falling n (falls es)) (leaf_after e g) below)),
      taken_deep e.depth (falls es) (deepest_after e) (deepest_most e) below,
      left_falls e.depth (falls es) (deepest_after e) below,
    )
  where
    leaf_after : (e : Element) → is_group e.kind ≡ false → deepest_after e ≡ e.depth
    leaf_after e g = ap (λ b. e.depth + cond b 1 0) g ∙ omega arith

    deepest_most : (e : Element) → deepest_after e ≤ e.depth + 1
    deepest_most e = elim (is_group e.kind) as (λ b. e.depth + cond b 1 0 ≤ e.depth + 1) [ true ↦ omega arith | false ↦ omega arith ]

rest_all : (bytes : ℕ) (before : Element) (es : List Element) → rest_kept bytes before es ≡ true → AllByRecursion (λ e. row_kept bytes e ≡ true) es
rest_all bytes before [] k = tt
rest_all bytes before (e ∷ es) k =
    let p = and_parts (next_kept bytes before e) (rest_kept bytes e es) k in
    ((and_parts (may_follow before e) (row_kept bytes e) p.0).1, rest_all bytes e es p.1)

row_deep : (bytes : ℕ) (e : Element) → row_kept bytes e ≡ true → 0 < e.depth
row_deep bytes e k = omega (arith, leb-true 1 e.depth (and_parts (leb 1 e.depth) (leb e.depth 64 && (is_some e.repetition && (kind_kept e.kind && named_inside bytes e))) k).0)

-- all rows but the root are deeper than 0
all_taken : (bytes : ℕ) (f : Forest Element) (m : ℕ) → Falling m f → AllByRecursion (λ e. row_kept bytes e ≡ true) (listing f) → left 0 f ≡ bare
all_taken bytes bare m x a = refl
all_taken bytes (plant e below after) m x a =
    cond-true (ltb 0 e.depth) _ _ (lt-ltb 0 e.depth (row_deep bytes e a.0)) ∙ all_taken bytes after e.depth x.3 (all_right (listing below) (listing after) a.1)
  where
    all_right : (xs ys : List Element) → AllByRecursion (λ e. row_kept bytes e ≡ true) (xs ++ ys) → AllByRecursion (λ e. row_kept bytes e ≡ true) ys
    all_right [] ys a = a
    all_right (x ∷ xs) ys a = all_right xs ys a.1

pub tree_from_steps : (bytes : ℕ) (rows : List Element) → rows_kept bytes rows ≡ true → IsSchema bytes rows
tree_from_steps bytes [] k = cc
tree_from_steps bytes (e ∷ es) k =
    let p = and_parts (leb (length es) 4095 && root_kept bytes e) (rest_kept bytes e es) k in
    let q = and_parts (leb (length es) 4095) (root_kept bytes e) p.0 in
    let top : e.depth ≡ 0 = eqb-true e.depth 0 (and_parts (eqb e.depth 0) (is_none e.repetition && (plain_group e.kind && named_inside bytes e)) q.1).0 in
    let f = falls es in
    let x = rest_falls bytes e es p.1 in
    let a = rest_all bytes e es p.1 in
    let y : ByDepth 0 (plant e (taken e.depth f) bare) = (top, rest_leaf e f x, subst (λ n. ByDepth (n + 1) (taken e.depth f)) top (taken_deep e.depth f (deepest_after e) (most e) x), tt) in
    let gone : left e.depth f ≡ bare = ap (λ n. left n f) top ∙ all_taken bytes f (deepest_after e) x (subst (AllByRecursion (λ e. row_kept bytes e ≡ true)) (sym (falls_lists es)) a) in
    let same : listing (taken e.depth f) ≡ es =
    sym (append-nil (listing (taken e.depth f))) ∙ ap (λ g. listing (taken e.depth f) ++ listing g) (sym gone) ∙ taken_left e.depth f ∙ falls_lists es in (
      record { root = e; under = taken e.depth f },
      record {
        lists = ap (λ xs. e ∷ xs) (append-nil (listing (taken e.depth f)) ∙ same);
        depths = y;
        few = omega (arith, leb-true (length es) 4095 q.0);
        root = q.1;
        others = subst (AllByRecursion (λ e. row_kept bytes e ≡ true)) (sym same) a;
      },
    )
  where
    most : (e : Element) → deepest_after e ≤ e.depth + 1
    most e = elim (is_group e.kind) as (λ b. e.depth + cond b 1 0 ≤ e.depth + 1) [ true ↦ omega arith | false ↦ omega arith ]

    rest_leaf : (e : Element) (f : Forest Element) → Falling (deepest_after e) f → is_group e.kind ≡ false → taken e.depth f ≡ bare
    rest_leaf e f x g = none_taken e.depth f (subst (λ n. Falling n f) (ap (λ b. e.depth + cond b 1 0) g ∙ omega arith) x)

-- From a tree to steps.

which : (b : Bool) → (b ≡ true) ⊎ (b ≡ false)
which true = inl refl
which false = inr refl

module _ (bytes : ℕ) where
  abbrev Rows : List Element → Type 0
  Rows xs = AllByRecursion (λ e. row_kept bytes e ≡ true) xs

  rows_left : (xs ys : List Element) → Rows (xs ++ ys) → Rows xs × Rows ys
  rows_left [] ys a = (tt, a)
  rows_left (x ∷ xs) ys a = let r = rows_left xs ys a.1 in ((a.0, r.0), r.1)

  steps : (f : Forest Element) (d : ℕ) → ByDepth d f → Rows (listing f) → (before : Element) → d ≤ deepest_after before → (rest : List Element)
      → ((q : Element) → (q ≡ before) ⊎ (d ≤ q.depth) → rest_kept bytes q rest ≡ true) → rest_kept bytes before (listing f ++ rest) ≡ true
  steps bare d x a before h rest on = on before (inl refl)
  steps (plant e below after) d x a before h rest on =
      let parts = rows_left (listing below) (listing after) a.1 in
      let first : next_kept bytes before e ≡ true = and_from _ _ (le-leb e.depth (deepest_after before) (omega (arith, x.0, h))) a.0 in
      let then : (q : Element) → (q ≡ e) ⊎ (d + 1 ≤ q.depth) → rest_kept bytes q (listing after ++ rest) ≡ true =
      λ q s.
      let deep : d ≤ q.depth = elim s [ inl same ↦ omega (arith, ap (λ (y : Element). y.depth) same, x.0) | inr more ↦ omega (arith, more) ] in
      steps after d x.3 parts.1 q (omega (arith, deep)) rest
      (λ z w. on z (elim w [ inl same ↦ inr (omega (arith, ap (λ (y : Element). y.depth) same, deep)) | inr more ↦ inr more ])) in
      let under : rest_kept bytes e (listing below ++ (listing after ++ rest)) ≡ true =
      elim (which (is_group e.kind)) [
        | inl group ↦ steps below (d + 1) x.2 parts.0 e (omega (arith, x.0, ap (λ b. e.depth + cond b 1 0) group)) (listing after ++ rest) then
        | inr leaf ↦ rw (x.1 leaf) (then e (inl refl))
      ] in
      and_from _ _ first (ap (rest_kept bytes e) (append_assoc (listing below) (listing after) rest) ∙ under)

  pub steps_from_tree : (rows : List Element) → IsSchema bytes rows → rows_kept bytes rows ≡ true
  steps_from_tree rows (t, s) =
      let e = t.root in
      let f = t.under in
      let whole : e ∷ listing f ≡ rows = ap (λ xs. e ∷ xs) (sym (append-nil (listing f))) ∙ s.lists in
      let under : rest_kept bytes e (listing f ++ []) ≡ true =
      elim (which (is_group e.kind)) [
        | inl group ↦ steps f 1 s.depths.2 s.others e (omega (arith, ap (λ b. e.depth + cond b 1 0) group)) [] (λ q w. refl)
        | inr leaf ↦ rw (s.depths.1 leaf) refl
      ] in
      subst (λ xs. rows_kept bytes xs ≡ true) whole
      (and_from _ _ (and_from _ _ (le-leb (length (listing f)) 4095 (omega (arith, ap length whole, s.few))) s.root) (ap (rest_kept bytes e) (sym (append-nil (listing f))) ∙ under))

-- Sizes by depth are the tree's sizes.

deeper_below : (f : Forest Element) (d n : ℕ) → ByDepth n f → d < n → (xs : List Element) → deeper d (depths_of (listing f ++ xs)) ≡ count f + deeper d (depths_of xs)
deeper_below bare d n x h xs = omega arith
deeper_below (plant e below after) d n x h xs =
    let a = deeper_below below d (n + 1) x.2 (omega (arith, h)) (listing after ++ xs) in
    let b = deeper_below after d n x.3 h xs in
    let c : deeper d (depths_of ((e ∷ (listing below ++ listing after)) ++ xs)) ≡ deeper d (depths_of (listing below ++ (listing after ++ xs))) + 1 =
    cond-true (ltb d e.depth) _ _ (lt-ltb d e.depth (omega (arith, h, x.0))) ∙ ap (λ ys. deeper d (depths_of ys) + 1) (append_assoc (listing below) (listing after) xs) in
    omega (arith, a, b, c, length-append (listing below) (listing after))

deeper_after : (f : Forest Element) (d : ℕ) → ByDepth d f → (xs : List Element) → deeper d (depths_of xs) ≡ 0 → deeper d (depths_of (listing f ++ xs)) ≡ 0
deeper_after bare d x xs z = z
deeper_after (plant e below after) d x xs z = cond-false (ltb d e.depth) _ _ (le-ltb d e.depth (omega (arith, x.0)))

none_deeper : (d : ℕ) (ds : List ℕ) → deeper d ds ≡ 0 → deeper (d + 1) ds ≡ 0
none_deeper d [] z = refl
none_deeper d (y ∷ ds) z =
    elim (cases_lt d y) [
      | inl l ↦ absurd (omega (arith, z, cond-true (ltb d y) (deeper d ds + 1) 0 (lt-ltb d y l)))
      | inr g ↦ cond-false (ltb (d + 1) y) _ _ (le-ltb (d + 1) y (omega (arith, g)))
    ]

sized_forest : (f : Forest Element) (d : ℕ) → ByDepth d f → (xs : List Element) → deeper d (depths_of xs) ≡ 0 → (zs : List Element) → zs ≡ listing f ++ xs → Known zs → Sized element_span f
sized_forest bare d x xs z zs e k = tt
sized_forest (plant e below after) d x xs z zs same k =
    let rest : List Element = listing below ++ (listing after ++ xs) in
    let shape : zs ≡ e ∷ rest = same ∙ ap (λ ys. e ∷ ys) (append_assoc (listing below) (listing after) xs) in
    let known : Known (e ∷ rest) = subst Known shape k in
    let size : e.size ≡ deeper e.depth (depths_of rest) + 1 = cc in
    let tail : Known rest = cc in
    let a = deeper_below below d (d + 1) x.2 (omega arith) (listing after ++ xs) in
    let b = deeper_after after d x.3 xs z in
    let c : deeper e.depth (depths_of rest) ≡ deeper d (depths_of rest) = ap (λ n. deeper n (depths_of rest)) x.0 in
    let low : deeper (d + 1) (depths_of (listing after ++ xs)) ≡ 0 = none_deeper d (depths_of (listing after ++ xs)) b in (
      omega (arith, size, a, b, c),
      sized_forest below (d + 1) x.2 (listing after ++ xs) low rest refl tail,
      sized_forest after d x.3 xs z (listing after ++ xs) refl (known_past (listing below) (listing after ++ xs) tail),
    )
  where
    known_past : (ys ws : List Element) → Known (ys ++ ws) → Known ws
    known_past [] ws k = k
    known_past (y ∷ ys) ws k = known_past ys ws (known_tail y (ys ++ ws) k)

-- rows with their sizes keep the steps just where they did
pub sized_kept : (bytes : ℕ) (rows : List Element) → rows_kept bytes (sized rows) ≡ rows_kept bytes rows
sized_kept bytes [] = refl
sized_kept bytes (e ∷ es) = ap₂ (λ n b. (leb n 4095 && root_kept bytes e) && b) (length_sized es) (same bytes (with_size e (deeper e.depth (depths_of es) + 1)) e refl refl es)
  where
    same : (bytes : ℕ) (x y : Element) → x.depth ≡ y.depth → x.kind ≡ y.kind → (es : List Element) → rest_kept bytes x (sized es) ≡ rest_kept bytes y es
    same bytes x y d k [] = refl
    same bytes x y d k (e ∷ es) =
        let a : deepest_after x ≡ deepest_after y = ap₂ (λ n g. n + cond (is_group g) 1 0) d k in
        ap₂ (λ n b. (leb e.depth n && row_kept bytes e) && b) a (same bytes (with_size e (deeper e.depth (depths_of es) + 1)) e refl refl es)

-- a schema's rows, each with its size, are a flat tree that is the same by depth
pub sized_tree : (bytes : ℕ) (rows : List Element) → IsSchema bytes rows → IsFinished bytes (sized rows)
sized_tree bytes rows s =
    let r = tree_from_steps bytes (sized rows) (sized_kept bytes rows ∙ steps_from_tree bytes rows s) in (
      r.0,
      r.1,
      record {
        lists = r.1.lists;
        sized = sized_forest (alone r.0) 0 r.1.depths [] refl (sized rows) (sym r.1.lists ∙ sym (append-nil (listing (alone r.0)))) (known_sized rows);
      },
    )

-- Finished rows, as a test and as a tree.

pub finished_from_kept : (bytes : ℕ) (rows : List Element) → finished_kept bytes rows ≡ true → IsFinished bytes rows
finished_from_kept bytes rows k =
    let p = and_parts (rows_kept bytes rows) (sizes_kept rows) k in
    subst (IsFinished bytes) (sym (known_from_kept rows p.1)) (sized_tree bytes rows (tree_from_steps bytes rows p.0))

known_forest : (f : Forest Element) (d : ℕ) → ByDepth d f → Sized element_span f → (xs : List Element) → deeper d (depths_of xs) ≡ 0 → Known xs → Known (listing f ++ xs)
known_forest bare d x s xs z k = k
known_forest (plant e below after) d x s xs z k =
    let rest : List Element = listing below ++ (listing after ++ xs) in
    let b = deeper_after after d x.3 xs z in
    let low : deeper (d + 1) (depths_of (listing after ++ xs)) ≡ 0 = none_deeper d (depths_of (listing after ++ xs)) b in
    let tail : Known rest = known_forest below (d + 1) x.2 s.1 (listing after ++ xs) low (known_forest after d x.3 s.2 xs z k) in
    let a = deeper_below below d (d + 1) x.2 (omega arith) (listing after ++ xs) in
    let c : deeper e.depth (depths_of rest) ≡ deeper d (depths_of rest) = ap (λ n. deeper n (depths_of rest)) x.0 in
    let size : e.size ≡ deeper e.depth (depths_of rest) + 1 = omega (arith, a, b, c, s.0) in
    let whole : Known (e ∷ rest) = ap₂ (λ n ys. with_size e n ∷ ys) size tail in
    subst (λ ys. Known (e ∷ ys)) (sym (append_assoc (listing below) (listing after) xs)) whole

pub kept_from_finished : (bytes : ℕ) (rows : List Element) → IsFinished bytes rows → finished_kept bytes rows ≡ true
kept_from_finished bytes rows (t, s, l) =
    let known : Known rows = subst Known (append-nil (listing (alone t)) ∙ l.lists) (known_forest (alone t) 0 s.depths l.sized [] refl refl) in
    and_from (rows_kept bytes rows) (sizes_kept rows) (steps_from_tree bytes rows (t, s)) (kept_from_known rows known)

-- rows that are no flat tree are no finished schema
pub not_flat : (bytes : ℕ) (rows : List Element) → (length rows ≤ 4096 → IsFlatTree element_span rows → ⊥) → finished_kept bytes rows ≡ false
not_flat bytes rows no' =
    elim (which (finished_kept bytes rows)) [
      | inl yes' ↦ let f = finished_from_kept bytes rows yes' in absurd (no' f.1.few (f.0, f.2))
      | inr e ↦ e
    ]

-- Rows and their places in a finished schema's tree.

-- a row's depth is its depth in the tree
row_deep_from : (f : Forest Element) (d : ℕ) → ByDepth d f → (i : ℕ) → i < count f → (get_or (listing f) i empty).depth ≡ d + depth f i
row_deep_from bare d x i h = absurd (omega (arith, h))
row_deep_from (plant e below after) d x zero h = x.0 ∙ omega arith
row_deep_from (plant e below after) d x (suc i) h =
    elim (cases_lt i (count below)) [
      | inl l ↦ rw (lt-ltb i (count below) l)
          (ap (λ (y : Element). y.depth) (get_or_append_left (listing below) (listing after) empty i l) ∙ row_deep_from below (d + 1) x.2 i l ∙ omega arith)
      | inr g ↦
          let n = length-append (listing below) (listing after) in
          rw (le-ltb i (count below) g)
          (ap (λ (y : Element). y.depth) (get_or-append_right (listing below) (listing after) (count below) i empty refl g) ∙ row_deep_from after d x.3 (i - count below) (omega (arith, n, h, g)))
    ]

-- nothing lies below a leaf
leaf_bare_from : (f : Forest Element) (d : ℕ) → ByDepth d f → (i : ℕ) → i < count f → is_group (get_or (listing f) i empty).kind ≡ false → below_at f i ≡ bare
leaf_bare_from bare d x i h k = refl
leaf_bare_from (plant e below after) d x zero h k = x.1 k
leaf_bare_from (plant e below after) d x (suc i) h k =
    elim (cases_lt i (count below)) [
      | inl l ↦ rw (lt-ltb i (count below) l) (leaf_bare_from below (d + 1) x.2 i l (ap (λ (y : Element). is_group y.kind) (sym (get_or_append_left (listing below) (listing after) empty i l)) ∙ k))
      | inr g ↦
          let n = length-append (listing below) (listing after) in
          rw (le-ltb i (count below) g)
          (leaf_bare_from after d x.3 (i - count below) (omega (arith, n, h, g)) (ap (λ (y : Element). is_group y.kind) (sym (get_or-append_right (listing below) (listing after) (count below) i empty refl g)) ∙ k))
    ]

row_within : (bytes : ℕ) (e : Element) → row_kept bytes e ≡ true → (1 ≤ e.depth) × (e.depth ≤ 64)
row_within bytes e k =
    let rest = is_some e.repetition && (kind_kept e.kind && named_inside bytes e) in
    let p = and_parts (leb 1 e.depth) (leb e.depth 64 && rest) k in
    let q = and_parts (leb e.depth 64) rest p.1 in
    (leb-true 1 e.depth p.0, leb-true e.depth 64 q.0)

module _ (bytes : ℕ) (rows : List Element) (fin : IsFinished bytes rows) where
  pub rows_long : count (alone fin.0) ≡ length rows
  rows_long = ap length fin.1.lists

  pub row_depth : (i : ℕ) → i < length rows → (get_or rows i empty).depth ≡ depth (alone fin.0) i
  row_depth i h =
      ap (λ xs. (get_or xs i empty).depth) (sym fin.1.lists) ∙ row_deep_from (alone fin.0) 0 fin.1.depths i (omega (arith, h, rows_long)) ∙ omega arith

  pub leaf_size : (i : ℕ) → i < length rows → is_group (get_or rows i empty).kind ≡ false → size_at element_span rows i ≡ 1
  leaf_size i h k =
      let none = leaf_bare_from (alone fin.0) 0 fin.1.depths i (omega (arith, h, rows_long)) (ap (λ xs. is_group (get_or xs i empty).kind) fin.1.lists ∙ k) in
      (below_rows element_span (alone fin.0) rows fin.2 i h).2 ∙ ap (λ b. suc (count b)) none

  -- the first row is the root
  pub root_depth : (get_or rows 0 empty).depth ≡ 0
  root_depth = ap (λ xs. (get_or xs 0 empty).depth) (sym fin.1.lists) ∙ fin.1.depths.0

  -- every row but the first is one below the root
  pub row_below : (i : ℕ) → suc i < length rows → row_kept bytes (get_or rows (suc i) empty) ≡ true
  row_below i h =
      let t = fin.0 in
      let e : get_or rows (suc i) empty ≡ get_or (listing t.under) i empty = ap (λ xs. get_or xs (suc i) empty) (sym fin.1.lists) ∙ ap (λ xs. get_or xs i empty) (append-nil (listing t.under)) in
      ap (row_kept bytes) e ∙ All-get_or (λ (x : Element). row_kept bytes x ≡ true) (listing t.under) i empty (omega (arith, h, rows_long, length-append (listing t.under) [])) fin.1.others

  -- it lies at depth 1 to 64
  pub depth_within : (i : ℕ) → suc i < length rows → (1 ≤ (get_or rows (suc i) empty).depth) × ((get_or rows (suc i) empty).depth ≤ 64)
  depth_within i h = row_within bytes (get_or rows (suc i) empty) (row_below i h)

  -- no row lies deeper than 64
  pub depth_most : (i : ℕ) → i < length rows → (get_or rows i empty).depth ≤ 64
  depth_most zero h = omega (arith, root_depth)
  depth_most (suc i) h = (depth_within i h).1
