-- Hints by their rows.
use Rattle.std.proofs.Common.{◌≡◌, ℕ, suc, ◌+◌, ◌<◌, ◌≤◌, Bool, true, false, ◌&&◌, eqb, List, ◌∷◌, ◌++◌, length, ℤ, Some, None, Option, sym, refl, ap, ◌∙◌, subst, ap₂, arith, length-append, length-drop}
use Rattle.std.specs.Option.{MatchOption, SomeIff, is_some}
use Rattle.std.specs.Bool.{IsTrue}
use Rattle.walk.specs.Forests.{trees, planted}
use Rattle.tree.specs.Forest.{Forest, count, listing, size_at, children, Lists, HasChild, HasNext}
use Rattle.tree.specs.Forest.Forest.{bare, plant}
use Rattle.schema.specs.declared.element.Leaf.{Leaf}
use Rattle.schema.specs.declared.refusal.Refusal.TheVariants as no
use Rattle.arrow.specs.declared.hint.HintRow.{HintRow}
use Rattle.arrow.specs.Kinds.{hint_span}
use Rattle.arrow.specs.Convert.{converted_leaf}
use Rattle.walk.specs.Hints.{Hint, hints_of, has_children, sole, inside, others, fits, over_two, any_struct, any_map}
use Rattle.walk.specs.Faults.{unless, struct_checks, map_checks}
use Rattle.walk.specs.Walk.{by_number, by_id, metadata_of}
use Rattle.convert.specs.Table.{Lies}
use Rattle.convert.specs.Handed.{hint_as, Hinted, HintsLeft, Sees, typing_of}
use Rattle.convert.proofs.Trees.{count_plant, size_told, inside as fits_inside, below, beyond, same_top, same_below, children_trees}

all_inside : (rows : List HintRow) (j : ℕ) (f : Forest HintRow) → Lies hint_span rows j f → 0 < count f → j + count f ≤ length rows
all_inside rows j f p h = omega (arith, ap length p.here, length-drop j rows, length-append (listing f) p.after)

module _ (rows : List HintRow) (text : List ℕ) where
  -- the first child
  first_by : (p : ℕ) (h : HintRow) (b n : Forest HintRow) → Lies hint_span rows p (plant h b n) → (r : Option ℕ) → SomeIff r (HasChild hint_span rows p) (p + 1)
      → HintsLeft rows text (Some p) r (hints_of text (p + 1) b)
  first_by p h bare n q None c = refl
  first_by p h (plant x y z) n q None c =
      absurd (c (omega (arith, size_told hint_span rows p h (plant x y z) n q, count_plant x y z), omega (arith, fits_inside hint_span rows p h (plant x y z) n q, count_plant x y z)))
  first_by p h bare n q (Some j) c = absurd (omega (arith, c.0.0, size_told hint_span rows p h bare n q))
  first_by p h (plant x y z) n q (Some j) c =
      subst (λ (m : ℕ). HintsLeft rows text (Some p) (Some m) (hints_of text (p + 1) (plant x y z))) (sym c.1)
      (x, y, z, below hint_span rows p h (plant x y z) n q, refl, omega arith, omega (arith, size_told hint_span rows p h (plant x y z) n q))

  pub first_left : (o : Option ℕ) (p : ℕ) → o ≡ Some p → (hs : Forest Hint) → Hinted rows text o hs → (r : Option ℕ) → SomeIff r (HasChild hint_span rows p) (p + 1)
      → HintsLeft rows text o r (inside hs)
  first_left o p i hs x r c = subst (λ (q : Option ℕ). HintsLeft rows text q r (inside hs)) (sym i) (at (subst (λ (q : Option ℕ). Hinted rows text q hs) i x))
    where
      at : Hinted rows text (Some p) hs → HintsLeft rows text (Some p) r (inside hs)
      at (h, b, n, q, e) = subst (λ (f : Forest Hint). HintsLeft rows text (Some p) r (inside f)) (sym e) (first_by p h b n q r c)

  -- the next child
  next_by : (p j : ℕ) (h : HintRow) (b n : Forest HintRow) → Lies hint_span rows j (plant h b n) → p < j → j + count (plant h b n) ≡ p + size_at hint_span rows p
      → (p + size_at hint_span rows p ≤ length rows) → (r : Option ℕ) → SomeIff r (HasNext hint_span rows j p) (j + size_at hint_span rows j)
      → HintsLeft rows text (Some p) r (hints_of text (j + 1 + count b) n)
  next_by p j h b bare q l w fit None c = refl
  next_by p j h b (plant x y z) q l w fit None c =
      let s = size_told hint_span rows j h b (plant x y z) q in
      let m = count_plant h b (plant x y z) in
      let k = count_plant x y z in
      absurd (c (l, omega (arith, s), omega (arith, s, m, k), omega (arith, s, m, k)))
  next_by p j h b bare q l w fit (Some d) c =
      absurd (omega (arith, c.0.3, size_told hint_span rows j h b bare q, count_plant h b bare))
  next_by p j h b (plant x y z) q l w fit (Some d) c =
      let s = size_told hint_span rows j h b (plant x y z) q in
      let m = count_plant h b (plant x y z) in
      let e : j + (1 + count b) ≡ d = omega (arith, c.1, s) in
      let g : j + 1 + count b ≡ d = omega (arith, e) in
      subst (λ (i : ℕ). HintsLeft rows text (Some p) (Some d) (hints_of text i (plant x y z))) (sym g)
      (x, y, z, subst (λ (i : ℕ). Lies hint_span rows i (plant x y z)) e (beyond hint_span rows j h b (plant x y z) q), refl, omega (arith, e), omega (arith, e, m))

  pub next_left : (above o : Option ℕ) (p j : ℕ) → above ≡ Some p → o ≡ Some j → (hs : Forest Hint) → HintsLeft rows text above o hs
      → (r : Option ℕ) → SomeIff r (HasNext hint_span rows j p) (j + size_at hint_span rows j) → HintsLeft rows text above r (others hs)
  next_left above o p j i k hs x r c =
      subst (λ (q : Option ℕ). HintsLeft rows text q r (others hs)) (sym i) (at (subst (λ (q : Option ℕ). HintsLeft rows text q (Some j) hs) i (subst (λ (q : Option ℕ). HintsLeft rows text above q hs) k x)))
    where
      at : HintsLeft rows text (Some p) (Some j) hs → HintsLeft rows text (Some p) r (others hs)
      at (h, b, n, q, e, l, w) =
          let fit : p + size_at hint_span rows p ≤ length rows = omega (arith, w, all_inside rows j (plant h b n) q (omega arith)) in
          subst (λ (f : Forest Hint). HintsLeft rows text (Some p) r (others f)) (sym e) (next_by p j h b n q l w fit r c)

  -- the first of those that are left, alone
  pub left_sole : (p r : Option ℕ) (hs : Forest Hint) → HintsLeft rows text p r hs → Hinted rows text r (sole hs)
  left_sole p None hs e = ap sole e
  left_sole None (Some j) hs e = absurd e
  left_sole (Some p) (Some j) hs (h, b, n, q, e, l, w) = (h, b, n, q, ap sole e)

  -- a row has one hint
  pub hinted_unique : (r : Option ℕ) (hs gs : Forest Hint) → Hinted rows text r hs → Hinted rows text r gs → hs ≡ gs
  hinted_unique None hs gs e f = e ∙ sym f
  hinted_unique (Some j) hs gs (h, b, n, q, e) (g, d, m, p, f) =
      e ∙ ap₂ (λ (x : HintRow) (y : Forest HintRow). plant (hint_as text j x) (hints_of text (j + 1) y) bare) (same_top hint_span rows j h g b d n m q p) (same_below hint_span rows j h g b d n m q p) ∙ sym f

  pub typing_here : (f : Leaf) (r : Option ℕ) (hs : Forest Hint) → Hinted rows text r hs → typing_of rows text f hs ≡ converted_leaf f rows text r
  typing_here f None hs e = ap (typing_of rows text f) e
  typing_here f (Some j) hs (h, b, n, q, e) = ap (typing_of rows text f) e

-- ── Metadata ──

module _ (text : List ℕ) where
  pub metadata_none : (hs : Forest Hint) (i : Option ℤ) → Sees text None hs → by_id i ≡ metadata_of hs i
  metadata_none hs i e = sym (ap (λ (f : Forest Hint). metadata_of f i) e)

  pub metadata_row : (h : HintRow) (hs : Forest Hint) (i : Option ℤ) → Sees text (Some h) hs → by_number h.metadata ≡ metadata_of hs i
  metadata_row h hs i (j, b, e) = sym (ap (λ (f : Forest Hint). metadata_of f i) e)

-- ── Children ──

pub trees_hints : (text : List ℕ) (n : ℕ) (f : Forest HintRow) → trees (hints_of text n f) ≡ trees f
trees_hints text n bare = refl
trees_hints text n (plant h b c) = ap suc (trees_hints text (n + 1 + count b) c)

pub children_by : (rows : List HintRow) (text : List ℕ) (n : ℕ) (o : Option ℕ) (hs : Forest Hint) → Hinted rows text o hs → (f : Forest HintRow) → Lists hint_span f rows
    → (r : Bool) → MatchOption o (IsTrue r) (λ j. r ≡ eqb (length (children f j)) n) → r ≡ has_children n hs
children_by rows text n None hs e f l r m = m ∙ sym (ap (has_children n) e)
children_by rows text n (Some j) hs (h, b, x, q, e) f l r m =
    m ∙ ap (λ (y : ℕ). eqb y n) (children_trees hint_span rows j f l h b x q ∙ sym (trees_hints text (j + 1) b)) ∙ sym (ap (has_children n) e)

-- ── Checks ──

module _ (e n : ℕ) (hs : Forest Hint) where
  pub struct_other : fits any_struct hs ≡ false → struct_checks e hs n ≡ no.HintKind e ∷ unless (has_children n hs) (no.HintFieldCount e)
  struct_other h = ap (λ (b : Bool). unless b (no.HintKind e) ++ unless (has_children n hs) (no.HintFieldCount e)) h

  pub struct_by : fits any_struct hs ≡ true → (b : Bool) → has_children n hs ≡ b → struct_checks e hs n ≡ unless b (no.HintFieldCount e)
  struct_by h b k = ap₂ (λ (x y : Bool). unless x (no.HintKind e) ++ unless y (no.HintFieldCount e)) h k

module _ (e : ℕ) (hs : Forest Hint) where
  pub map_other : fits any_map hs ≡ false → map_checks e hs ≡ no.HintKind e ∷ unless (over_two hs) (no.HintMap e)
  map_other h = ap (λ (b : Bool). unless b (no.HintKind e) ++ unless (over_two hs) (no.HintMap e)) h

-- over a struct of two, by what is inside
two_inside : (h : Hint) (f : Forest Hint) → over_two (plant h f bare) ≡ (planted f && (fits any_struct (sole f) && has_children 2 (sole f)))
two_inside h bare = refl
two_inside h (plant x b c) = refl

pub over_by : (rows : List HintRow) (text : List ℕ) (o : Option ℕ) (hs : Forest Hint) → is_some o ≡ true → Hinted rows text o hs
    → over_two hs ≡ (planted (sole (inside hs)) && (fits any_struct (sole (inside hs)) && has_children 2 (sole (inside hs))))
over_by rows text None hs k x = absurd cc
over_by rows text (Some j) hs k (h, b, n, q, e) =
    ap over_two e ∙ two_inside (hint_as text j h) (hints_of text (j + 1) b) ∙ ap (λ (x : Bool). x && (fits any_struct (sole (hints_of text (j + 1) b)) && has_children 2 (sole (hints_of text (j + 1) b)))) (sym (planted_sole (hints_of text (j + 1) b)))
    ∙ sym (ap (λ (f : Forest Hint). planted (sole (inside f)) && (fits any_struct (sole (inside f)) && has_children 2 (sole (inside f)))) e)
  where
    planted_sole : (f : Forest Hint) → planted (sole f) ≡ planted f
    planted_sole bare = refl
    planted_sole (plant h b c) = refl
