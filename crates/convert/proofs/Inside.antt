-- The loop over the fields of a struct.
use Rattle.std.proofs.Common.{◌≡◌, ℕ, suc, ◌+◌, ◌<◌, ◌≤◌, max, true, false, cond, List, [], ◌∷◌, ◌++◌, map, length, take, Ok, Err, Option, sym, refl, ap, ◌∙◌, subst, ap₂, append_assoc, arith, length-append}
use Rattle.std.proofs.lemmas.List.{append-nil}
use Rattle.tree.specs.Forest.{Forest, Lists, count, size_at, tops, children}
use Rattle.tree.specs.Forest.Forest.{bare, plant}
use Rattle.schema.specs.declared.element.Element.{Element}
use Rattle.schema.specs.declared.refusal.Refusal.{Refusal}
use Rattle.schema.specs.Elements.{element_span}
use Rattle.arrow.specs.declared.row.ResultRow.{ResultRow}
use Rattle.walk.specs.Forests.{height}
use Rattle.walk.specs.Labels.{is_leaf, leaf_count}
use Rattle.walk.specs.Hints.{Hint, sole, others, inside}
use Rattle.walk.specs.declared.levels.Levels.{Levels}
use Rattle.convert.specs.declared.context.Cursor.{Cursor}
use Rattle.convert.specs.declared.context.Task.{Task}
use Rattle.convert.specs.Table.{Stands, element_at, spelled_by}
use Rattle.convert.specs.Handed.{Hinted, HintsLeft}
use Rattle.walk.specs.Results.{Line, line_of}
use Rattle.convert.specs.Outcome.{Outcome, followed}
use Rattle.convert.specs.Visit.{Input, Wrote}
use Rattle.convert.specs.Walked.{Inside, next_leaf, own_role, gives_field, gives_all, HasHint, Ready, ReadyBelow, Dispatches, Fields}
use Rattle.convert.proofs.Trees.{count_plant, size_told, below, beyond, below_whole, rooted, sized, any_tree}
use Rattle.convert.proofs.Handing.{left_sole, hinted_unique}
use Rattle.convert.proofs.Turns.{gives_turn, gives_none, field_few}

-- ── What is left ──

-- the first of the places is the first tree's, and the others those of the trees after it
taken : {A : Type 0} (j : ℕ) (f : Forest A) (c : ℕ) (cs : List ℕ) → tops j f ≡ c ∷ cs
    → (h : A) × (b : Forest A) × (n : Forest A) × (f ≡ plant h b n) × (j ≡ c) × (cs ≡ tops (j + (1 + count b)) n)
taken j bare c cs e = absurd cc
taken j (plant h b n) c cs e =
    let one : suc (count b) ≡ 1 + count b = omega arith in
    (h, b, n, refl, cc, (let z : cs ≡ tops (j + suc (count b)) n = cc in z) ∙ ap (λ (m : ℕ). tops (j + m) n) one)

no_more : {A : Type 0} (j : ℕ) (f : Forest A) → tops j f ≡ [] → f ≡ bare
no_more j bare e = refl
no_more j (plant h b n) e = absurd cc

followed_nil : (o : Outcome) → o ≡ followed (Ok []) o
followed_nil (Err e) = refl
followed_nil (Ok xs) = refl

followed_more : (xs ys : List Line) (o : Outcome) → followed (Ok xs) (followed (Ok ys) o) ≡ followed (Ok (xs ++ ys)) o
followed_more xs ys (Err e) = refl
followed_more xs ys (Ok zs) = ap Ok (sym (append_assoc xs ys zs))

map-append : {A B : Type 0} (f : A → B) (xs ys : List A) → map f (xs ++ ys) ≡ map f xs ++ map f ys
map-append f [] ys = refl
map-append f (x ∷ xs) ys = ap (λ l. f x ∷ l) (map-append f xs ys)

length-map : {A B : Type 0} (f : A → B) (xs : List A) → length (map f xs) ≡ length xs
length-map f [] = refl
length-map f (x ∷ xs) = ap suc (length-map f xs)

leaves_few : (names : List ℕ) (f : Forest Element) → leaf_count (spelled_by names f) ≤ count f
leaves_few names bare = omega arith
leaves_few names (plant e b c) =
    let n = count_plant e b c in
    elim (is_leaf e.kind) as (λ x. cond x 1 (leaf_count (spelled_by names b)) + leaf_count (spelled_by names c) ≤ count (plant e b c))
    [ true ↦ omega (arith, leaves_few names c, n) | false ↦ omega (arith, leaves_few names b, leaves_few names c, n) ]

pub next_few : (names : List ℕ) (k : ℕ) (e : Element) (b : Forest Element) → next_leaf names k e b ≤ k + (1 + count b)
next_few names k e b =
    elim (is_leaf e.kind) as (λ x. k + cond x 1 (leaf_count (spelled_by names b)) ≤ k + (1 + count b))
    [ true ↦ omega arith | false ↦ omega (arith, leaves_few names b) ]

-- ── The loop ──

module _ {s : Input} {i : ℕ} {v : Levels} {hint : Option ℕ} {start : Cursor} {before : List ResultRow} where
  -- as it begins
  pub begins : ReadyBelow s.elements i v start (length before) → HasHint s hint → (places : List ℕ) → ((f : Forest Element) → Lists element_span f s.elements → places ≡ children f i) → (given : Option ℕ)
      → ((bytes : List ℕ) (hs : Forest Hint) → Hinted s.hints bytes hint hs → HintsLeft s.hints bytes hint given (inside hs))
      → Inside s i v hint start before places given start before
  begins h (hs, p) places comes given g =
      let t = h.root in
      record {
        whole = t.whole;
        lists = t.lists;
        top = t.top;
        all = t.below;
        after = t.after;
        lies = t.lies;
        at = i + 1;
        rest = t.below;
        left = below element_span s.elements i t.top t.below t.after t.lies;
        past = omega arith;
        filled = omega (arith, size_told element_span s.elements i t.top t.below t.after t.lies);
        comes = comes t.whole t.lists ∙ ap (tops (i + 1)) (below_whole element_span s.elements i t.whole t.lists t.top t.below t.after t.lies);
        long = refl;
        fits = h.fits;
        few_left = h.few;
        rep_low = h.rep_low;
        def_low = h.def_low;
        rows = [];
        counts = refl;
        ends = omega arith;
        kept = sym (append-nil (take start.row before));
        hs = hs;
        hinted = p;
        more = inside hs;
        more_left = g s.text hs p;
        is = followed_nil (gives_all s (i + 1) start.leaf v true (inside hs) t.below);
      }

  module _ {places : List ℕ} {given : Option ℕ} {cursor : Cursor} {out : List ResultRow} (h : Inside s i v hint start before places given cursor out) where
    -- the next child, and the places that come after it
    pub record Next (child : ℕ) (more : List ℕ) : Type 0 where
      pub head : Element
      pub under : Forest Element
      pub others_left : Forest Element
      pub lies : Stands s.elements child (plant head under others_left)
      pub here : h.at ≡ child
      pub rest_is : h.rest ≡ plant head under others_left
      pub past : i < child
      pub ending : child + count (plant head under others_left) ≡ i + size_at element_span s.elements i
      pub on : more ≡ tops (child + (1 + count under)) others_left
      pub counted : count h.rest ≡ 1 + (count under + count others_left)
      pub high : height h.rest ≡ max (suc (height under)) (height others_left)

    pub next_child : (child : ℕ) (more : List ℕ) → places ≡ child ∷ more → Next child more
    next_child child more e =
        let (x, b, n, r, a, on) = taken h.at h.rest child more (sym h.comes ∙ e) in
        record {
          head = x;
          under = b;
          others_left = n;
          lies = subst (λ (m : ℕ). Stands s.elements m (plant x b n)) a (subst (Stands s.elements h.at) r h.left);
          here = a;
          rest_is = r;
          past = omega (arith, h.past, a);
          ending = omega (arith, h.filled, a, ap count r);
          on = on ∙ ap (λ (m : ℕ). tops (m + (1 + count b)) n) a;
          counted = ap count r ∙ count_plant x b n;
          high = ap height r;
        }

    pub next_ready : (child : ℕ) (more : List ℕ) → places ≡ child ∷ more → Ready s.elements child v cursor (length out)
    next_ready child more e =
        let n = next_child child more e in
        record {
          root = rooted s.elements child h.whole h.lists n.head n.under n.others_left n.lies;
          fits = omega (arith, h.fits, n.counted);
          few = omega (arith, h.few_left, n.counted);
          rep_low = omega (arith, h.rep_low, n.high);
          def_low = omega (arith, h.def_low, n.high);
        }

    -- the child is smaller than the struct
    abbrev pub task : Task
    task = record { levels = v; hint = given; named = true; key = false }

    -- what is given, with the first of the fields that are left apart
    apart : (child : ℕ) (more : List ℕ) (n : Next child more)
        → gives_all s (i + 1) start.leaf v true (inside h.hs) h.all
        ≡ followed (Ok (map (line_of s.names) h.rows)) (followed (gives_field s child cursor.leaf v true false (sole h.more) n.head n.under)
        (gives_all s (child + (1 + count n.under)) (next_leaf s.names cursor.leaf n.head n.under) v true (others h.more) n.others_left))
    apart child more n =
        h.is
        ∙ ap₂ (λ (m : ℕ) (f : Forest Element). followed (Ok (map (line_of s.names) h.rows)) (gives_all s m cursor.leaf v true h.more f)) n.here n.rest_is
        ∙ ap (followed (Ok (map (line_of s.names) h.rows))) (gives_turn s child cursor.leaf v true h.more n.head n.under n.others_left)

    abbrev pub next_hinted : HasHint s given
    next_hinted = (sole h.more, left_sole s.hints s.text hint given h.more h.more_left)

    -- whatever tree and hint are said to stand there
    anyway : (P : Outcome → ℕ → Type 0) → P (gives_all s (i + 1) start.leaf v true (inside h.hs) h.all) (start.leaf + leaf_count (spelled_by s.names h.all))
        → (e : Element) (b m : Forest Element) → Stands s.elements i (plant e b m) → (hs : Forest Hint) → Hinted s.hints s.text hint hs
        → P (gives_all s (i + 1) start.leaf v true (inside hs) b) (start.leaf + leaf_count (spelled_by s.names b))
    anyway P w e b m q hs p =
        subst (λ (x : Forest Hint). P (gives_all s (i + 1) start.leaf v true (inside x) b) (start.leaf + leaf_count (spelled_by s.names b))) (hinted_unique s.hints s.text hint h.hs hs h.hinted p)
        (any_tree element_span s.elements i (λ _ f. P (gives_all s (i + 1) start.leaf v true (inside h.hs) f) (start.leaf + leaf_count (spelled_by s.names f))) h.top h.all h.after h.lies w e b m q)

    -- a field that is refused
    pub broken_off : (child : ℕ) (more : List ℕ) → places ≡ child ∷ more → (x : Refusal) (out' : List ResultRow) → Dispatches s child task cursor out out' (Err x) → Fields s i v hint start before out' (Err x)
    broken_off child more e x out' f =
        let n = next_child child more e in
        let y : gives_field s child cursor.leaf v true false (sole h.more) n.head n.under ≡ Err x =
        f n.head n.under n.others_left n.lies (sole h.more) next_hinted.1 in
        anyway (λ o _. o ≡ Err x)
        (apart child more n
        ∙ ap (λ (o : Outcome). followed (Ok (map (line_of s.names) h.rows)) (followed o (gives_all s (child + (1 + count n.under)) (next_leaf s.names cursor.leaf n.head n.under) v true (others h.more) n.others_left))) y)

    -- all fields were visited
    pub finished : places ≡ [] → Fields s i v hint start before out (Ok cursor)
    finished e =
        let z = no_more h.at h.rest (sym h.comes ∙ e) in
        anyway (λ o m. Wrote s.names o start.row m before out cursor)
        (record {
          rows = h.rows;
          is = h.is
              ∙ ap (λ (f : Forest Element). followed (Ok (map (line_of s.names) h.rows)) (gives_all s h.at cursor.leaf v true h.more f)) z
              ∙ ap (followed (Ok (map (line_of s.names) h.rows))) (gives_none s h.at cursor.leaf v true h.more)
              ∙ ap Ok (append-nil (map (line_of s.names) h.rows));
          ends = h.ends;
          counts = omega (arith, h.counts, ap (λ (f : Forest Element). leaf_count (spelled_by s.names f)) z);
          kept = h.kept;
        })

    -- after a field whose visit gave rows
    pub onward : (child : ℕ) (more : List ℕ) → places ≡ child ∷ more → (cursor' : Cursor) (out' : List ResultRow) → length out' ≡ length out → Dispatches s child task cursor out out' (Ok cursor')
        → (given' : Option ℕ)
        → ((bytes : List ℕ) (hs : Forest Hint) → HintsLeft s.hints bytes hint given hs → HintsLeft s.hints bytes hint given' (others hs))
        → Inside s i v hint start before more given' cursor' out'
    onward child more e cursor' out' l f given' g =
        let n = next_child child more e in
        let x = n.head in
        let b = n.under in
        let c = n.others_left in
        let k = cursor.leaf in
        let w : Wrote s.names (gives_field s child k v true false (sole h.more) x b) cursor.row (next_leaf s.names k x b) out out' cursor' =
        f x b c n.lies (sole h.more) next_hinted.1 in
        let d = field_few s (own_role s child k x b) child k v true false (sole h.more) x b (map (line_of s.names) w.rows) w.is in
        let d' = length-map (line_of s.names) w.rows in
        record {
          whole = h.whole;
          lists = h.lists;
          top = h.top;
          all = h.all;
          after = h.after;
          lies = h.lies;
          at = child + (1 + count b);
          rest = c;
          left = beyond element_span s.elements child x b c n.lies;
          past = omega (arith, n.past);
          filled = omega (arith, n.ending, count_plant x b c);
          comes = n.on;
          long = l ∙ h.long;
          fits = omega (arith, h.fits, n.counted, w.ends, d, d', l);
          few_left = omega (arith, h.few_left, n.counted, w.counts, next_few s.names k x b);
          rep_low = omega (arith, h.rep_low, n.high);
          def_low = omega (arith, h.def_low, n.high);
          rows = h.rows ++ w.rows;
          counts = omega (arith, h.counts, w.counts, ap (λ (y : Forest Element). leaf_count (spelled_by s.names y)) n.rest_is);
          ends = omega (arith, h.ends, w.ends, length-append h.rows w.rows);
          kept = w.kept ∙ ap (λ (ys : List ResultRow). ys ++ w.rows) h.kept ∙ append_assoc (take start.row before) h.rows w.rows;
          hs = h.hs;
          hinted = h.hinted;
          more = others h.more;
          more_left = g s.text h.more h.more_left;
          is = apart child more n
              ∙ ap (λ (o : Outcome). followed (Ok (map (line_of s.names) h.rows)) (followed o (gives_all s (child + (1 + count b)) (next_leaf s.names k x b) v true (others h.more) c))) w.is
              ∙ followed_more (map (line_of s.names) h.rows) (map (line_of s.names) w.rows) (gives_all s (child + (1 + count b)) (next_leaf s.names k x b) v true (others h.more) c)
              ∙ ap₂ (λ (ys : List Line) (m : ℕ). followed (Ok ys) (gives_all s (child + (1 + count b)) m v true (others h.more) c)) (sym (map-append (line_of s.names) h.rows w.rows)) (sym w.counts);
        }

    -- so that a visit of it ends
    pub next_measure : (child : ℕ) (more : List ℕ) → places ≡ child ∷ more → (element_at s.elements child).size < (element_at s.elements i).size
    next_measure child more e =
        let n = next_child child more e in
        omega (
          arith,
          sized s.elements child n.head n.under n.others_left n.lies,
          sized s.elements i h.top h.all h.after h.lies,
          size_told element_span s.elements i h.top h.all h.after h.lies,
          n.past,
          n.ending,
          count_plant n.head n.under n.others_left,
        )
