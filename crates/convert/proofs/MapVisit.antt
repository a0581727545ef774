-- The visit of a map of key and value.
use Rattle.std.proofs.Common.{◌≡◌, ℕ, suc, ◌+◌, ◌<◌, ◌≤◌, max, Bool, true, false, cond, ◌&&◌, ◌⊎◌, List, [], ◌∷◌, ◌++◌, map, length, Ok, Err, Option, Result, sym, refl, ap, ◌∙◌, subst, ap₂, inl, inr, arith}
use Rattle.tree.specs.Forest.{Forest, count}
use Rattle.tree.specs.Forest.Forest.{bare, plant}
use Rattle.schema.specs.declared.basic.Repetition.{Repetition}
use Rattle.schema.specs.declared.basic.Repetition.TheVariants.{Repeated as repeated}
use Rattle.schema.specs.declared.element.Element.{Element}
use Rattle.schema.specs.declared.element.Kind.{Kind}
use Rattle.schema.specs.declared.refusal.Refusal.{Refusal}
use Rattle.schema.specs.Elements.{element_span}
use Rattle.arrow.specs.declared.row.ResultRow.{ResultRow}
use Rattle.walk.specs.Forests.{height}
use Rattle.walk.specs.Labels.{is_leaf, is_optional, leaf_count, or_required}
use Rattle.walk.specs.Hints.{Hint, sole, others, inside}
use Rattle.walk.specs.Faults.{Typing, map_checks}
use Rattle.walk.specs.Shape.{raised}
use Rattle.walk.specs.Shape.Items.{of_map}
use Rattle.walk.specs.Walk.{Full}
use Rattle.walk.specs.declared.role.Role.TheVariants.{Mapped as mapped, Entries as entries}
use Rattle.walk.specs.declared.levels.Levels.{Levels}
use Rattle.convert.specs.declared.context.Cursor.{Cursor}
use Rattle.convert.specs.declared.context.Task.{Task}
use Rattle.convert.specs.Table.{Stands, Rooted, Reads, element_at, label, spelled_by}
use Rattle.convert.specs.Handed.{Hinted, HintsLeft, Passes, typing_of}
use Rattle.walk.specs.Results.{Line, shown_row, line_of}
use Rattle.convert.specs.Outcome.{Outcome, followed, within, kept_if, checked}
use Rattle.convert.specs.Visit.{Input, Wrote, Meets}
use Rattle.convert.specs.Walked.{next_leaf, field_as, own_role, gives_field, entries_told, items_full, Ready, VisitsAs, Dispatches}
use Rattle.convert.proofs.Trees.{count_plant, read_here, sized, rooted, below, beyond}
use Rattle.convert.proofs.Handing.{left_sole}
use Rattle.convert.proofs.Shapes.{AsMap, mapped_shape}
use Rattle.convert.proofs.Turns.{field_few}
use Rattle.convert.proofs.Inside.{next_few}
use Rattle.convert.proofs.Written.{wrote_both, wrote_dropped}
use Rattle.convert.proofs.Mapped.{some_row, none_or, some_or, whole, map_row, value_leaf, key_gives, value_gives, map_by_sides, whole_is}
use Rattle.convert.proofs.ListVisit.{raised_rep, raised_def, group_next}

kept_refused : (b : Bool) (x : Refusal) → kept_if b (Err x) ≡ Err x
kept_refused true x = refl
kept_refused false x = refl

kept_none : (r : Full) (xs : List Line) → kept_if false (within r (Ok xs)) ≡ Ok []
kept_none r [] = refl
kept_none r (x ∷ xs) = refl

and_no : (a b : Bool) → (a ≡ false) ⊎ (b ≡ false) → (a && (b && true)) ≡ false
and_no true true (inl h) = h
and_no true true (inr h) = h
and_no true false h = refl
and_no false b h = refl

length-map : {A B : Type 0} (f : A → B) (xs : List A) → length (map f xs) ≡ length xs
length-map f [] = refl
length-map f (x ∷ xs) = ap suc (length-map f xs)

module _ {e : Element} {b : Forest Element} (z : AsMap e b) where
  count_map : count b ≡ 3 + (count z.key_under + count z.value_under)
  count_map =
      let v : Forest Element = plant z.value z.value_under bare in
      let f : Forest Element = plant z.key z.key_under v in
      let c1 : count b ≡ 1 + (count f + 0) = ap count z.is ∙ count_plant z.child f bare in
      let c2 = count_plant z.key z.key_under v in
      let c3 : count v ≡ 1 + (count z.value_under + 0) = count_plant z.value z.value_under bare in
      omega (arith, c1, c2, c3)

  height_map : (height z.key_under + 2 ≤ height b) × (height z.value_under + 2 ≤ height b)
  height_map =
      let h : height b ≡ max (suc (max (suc (height z.key_under)) (max (suc (height z.value_under)) 0))) 0 = ap height z.is in
      (omega (arith, h), omega (arith, h))

-- ── What both sides give ──

module _ (s : Input) (i k : ℕ) (v : Levels) (key : Bool) (hs : Forest Hint) (e : Element) (b : Forest Element) (z : AsMap e b) (fine : map_checks i hs ≡ []) where
  abbrev K : Outcome
  K = key_gives s i k v key hs e b z

  abbrev V : Outcome
  V = value_gives s i k v key hs e b z

  abbrev row_here : Full
  row_here = map_row s i k v key hs e b z

  abbrev both : Bool
  both = whole s i k v key hs e b z

  abbrev leaf_then : ℕ
  leaf_then = value_leaf s i k v key hs e b z

  abbrev all_here : Forest Element
  all_here = plant z.key z.key_under (plant z.value z.value_under bare)

  fine_form : field_as s (Ok mapped) i k v false key hs e b ≡ kept_if both (within row_here (followed K V))
  fine_form = map_by_sides s i k v key hs e b z ∙ ap (λ es. checked es (kept_if both (within row_here (followed K V)))) fine

  pub key_refused : (x : Refusal) → K ≡ Err x → field_as s (Ok mapped) i k v false key hs e b ≡ Err x
  key_refused x h = fine_form ∙ ap (λ (y : Outcome). kept_if both (within row_here (followed y V))) h ∙ kept_refused both x

  pub value_refused : (xs : List Line) (x : Refusal) → K ≡ Ok xs → V ≡ Err x → field_as s (Ok mapped) i k v false key hs e b ≡ Err x
  value_refused xs x g h = fine_form ∙ ap₂ (λ (y w : Outcome). kept_if both (within row_here (followed y w))) g h ∙ kept_refused both x

  next_map : next_leaf s.names leaf_then z.value z.value_under ≡ next_leaf s.names k e b
  next_map =
      let f : Forest Element = plant z.child all_here bare in
      let x : k + leaf_count (spelled_by s.names f) ≡ next_leaf s.names k e f = group_next s.names k e f z.how z.kind in
      let y : leaf_count (spelled_by s.names all_here) ≡ cond (is_leaf z.child.kind) 1 (leaf_count (spelled_by s.names all_here)) =
      ap (λ (q : Kind). cond (is_leaf q) 1 (leaf_count (spelled_by s.names all_here))) (sym z.child_kind) in
      let w : next_leaf s.names leaf_then z.value z.value_under ≡ k + leaf_count (spelled_by s.names f) = omega (arith, y) in
      w ∙ x ∙ ap (λ (g : Forest Element). next_leaf s.names k e g) (sym z.is)

  module _ (start : ℕ) (before mid out : List ResultRow) (middle cursor : Cursor)
      (w : Wrote s.names K (start + 1) leaf_then before mid middle)
      (x : Wrote s.names V middle.row (next_leaf s.names leaf_then z.value z.value_under) mid out cursor) where
    abbrev shown : List ResultRow → List Line
    shown rows = map (line_of s.names) rows

    sides_wrote : Wrote s.names (followed K V) (start + 1) (next_leaf s.names k e b) before out cursor
    sides_wrote =
        subst (λ (n : ℕ). Wrote s.names (followed K V) (start + 1) n before out cursor) next_map
        (wrote_both s.names K V (start + 1) leaf_then (next_leaf s.names leaf_then z.value z.value_under) before mid out middle cursor w x)

    pub map_half : start < length before → (middle.row ≡ start + 1) ⊎ (cursor.row ≡ middle.row)
        → Wrote s.names (field_as s (Ok mapped) i k v false key hs e b) start (next_leaf s.names k e b) before out (record { row = start; leaf = cursor.leaf })
    map_half h c =
        let lw = length-map (line_of s.names) w.rows in
        let lx = length-map (line_of s.names) x.rows in
        let f : both ≡ false = whole_is s i k v key hs e b z (shown w.rows) (shown x.rows) w.is x.is
        ∙ and_no (some_row (shown w.rows)) (some_row (shown x.rows))
        (elim c [ inl y ↦ inl (none_or (shown w.rows) (omega (arith, w.ends, y, lw))) | inr y ↦ inr (none_or (shown x.rows) (omega (arith, x.ends, y, lx))) ]) in
        subst (λ (y : Outcome). Wrote s.names y start (next_leaf s.names k e b) before out (record { row = start; leaf = cursor.leaf }))
        (sym (fine_form
        ∙ ap₂ (λ (y u : Outcome). kept_if both (within row_here (followed y u))) w.is x.is
        ∙ ap (λ (y : Bool). kept_if y (within row_here (Ok (shown w.rows ++ shown x.rows)))) f
        ∙ kept_none row_here (shown w.rows ++ shown x.rows)))
        (wrote_dropped s.names (followed K V) start (next_leaf s.names k e b) before out cursor sides_wrote h)

    pub map_whole : (middle.row ≡ start + 1 → ⊥) → (cursor.row ≡ middle.row → ⊥) → (after : List ResultRow) (r : Cursor) → length before ≡ length out
        → (row : ResultRow) → shown_row s.names row ≡ row_here
        → ((bytes : List ℕ) (o : Outcome) (next : ℕ) (before : List ResultRow) → length before ≡ length out → Wrote bytes o (start + 1) next before out cursor
        → Wrote bytes (within (shown_row bytes row) o) start next before after r)
        → Wrote s.names (field_as s (Ok mapped) i k v false key hs e b) start (next_leaf s.names k e b) before after r
    map_whole h c after r long row is close =
        let lw = length-map (line_of s.names) w.rows in
        let lx = length-map (line_of s.names) x.rows in
        let f : both ≡ true = whole_is s i k v key hs e b z (shown w.rows) (shown x.rows) w.is x.is
        ∙ ap₂ (λ (y u : Bool). y && (u && true)) (some_or (shown w.rows) (λ y. h (omega (arith, w.ends, y, lw)))) (some_or (shown x.rows) (λ y. c (omega (arith, x.ends, y, lx)))) in
        subst (λ (y : Outcome). Wrote s.names y start (next_leaf s.names k e b) before after r)
        (sym (fine_form ∙ ap (λ (y : Bool). kept_if y (within row_here (followed K V))) f ∙ ap (λ (g : Full). within g (followed K V)) (sym is)))
        (close s.names (followed K V) (next_leaf s.names k e b) before long sides_wrote)

-- ── The visit ──

module _ (s : Input) (i : ℕ) (task : Task) (start : Cursor) (before : List ResultRow) (reads : Reads s.elements i (Ok mapped)) where
  two : (i + 1) + 1 ≡ i + 2
  two = omega arith

  abbrev rep_here : Repetition
  rep_here = or_required (element_at s.elements i).repetition

  abbrev pub inner : Cursor
  inner = record { row = start.row + 1; leaf = start.leaf }

  shape_here : (e : Element) (b n : Forest Element) → Stands s.elements i (plant e b n) → AsMap e b
  shape_here e b n q = mapped_shape [] i 0 e b (reads e b n q [] 0)

  child_here : (e : Element) (b n : Forest Element) (q : Stands s.elements i (plant e b n)) (z : AsMap e b)
      → Stands s.elements (i + 1) (plant z.child (plant z.key z.key_under (plant z.value z.value_under bare)) bare)
  child_here e b n q z = subst (Stands s.elements (i + 1)) z.is (below element_span s.elements i e b n q)

  key_here : (e : Element) (b n : Forest Element) (q : Stands s.elements i (plant e b n)) (z : AsMap e b)
      → Stands s.elements ((i + 1) + 1) (plant z.key z.key_under (plant z.value z.value_under bare))
  key_here e b n q z = below element_span s.elements (i + 1) z.child (plant z.key z.key_under (plant z.value z.value_under bare)) bare (child_here e b n q z)

  key_there : (e : Element) (b n : Forest Element) (q : Stands s.elements i (plant e b n)) (z : AsMap e b)
      → Stands s.elements (i + 2) (plant z.key z.key_under (plant z.value z.value_under bare))
  key_there e b n q z = subst (λ (x : ℕ). Stands s.elements x (plant z.key z.key_under (plant z.value z.value_under bare))) two (key_here e b n q z)

  value_here : (e : Element) (b n : Forest Element) (q : Stands s.elements i (plant e b n)) (z : AsMap e b)
      → Stands s.elements (((i + 1) + 1) + (1 + count z.key_under)) (plant z.value z.value_under bare)
  value_here e b n q z = beyond element_span s.elements ((i + 1) + 1) z.key z.key_under (plant z.value z.value_under bare) (key_here e b n q z)

  key_size : (e : Element) (b n : Forest Element) (q : Stands s.elements i (plant e b n)) (z : AsMap e b) → (element_at s.elements (i + 2)).size ≡ 1 + count z.key_under
  key_size e b n q z = sized s.elements (i + 2) z.key z.key_under (plant z.value z.value_under bare) (key_there e b n q z)

  abbrev pub value_spot : ℕ
  value_spot = (i + 2) + (element_at s.elements (i + 2)).size

  value_place : (e : Element) (b n : Forest Element) (q : Stands s.elements i (plant e b n)) (z : AsMap e b) → ((i + 1) + 1) + (1 + count z.key_under) ≡ value_spot
  value_place e b n q z = omega (arith, key_size e b n q z)

  value_there : (e : Element) (b n : Forest Element) (q : Stands s.elements i (plant e b n)) (z : AsMap e b) → Stands s.elements value_spot (plant z.value z.value_under bare)
  value_there e b n q z = subst (λ (x : ℕ). Stands s.elements x (plant z.value z.value_under bare)) (value_place e b n q z) (value_here e b n q z)

  -- the places are in the table
  pub places_in : Rooted s.elements i → (i + 1 < length s.elements) × (i + 2 < length s.elements) × (value_spot < i + (element_at s.elements i).size)
  places_in t =
      let z = shape_here t.top t.below t.after t.lies in
      let c1 = count_map z in
      let k = key_size t.top t.below t.after t.lies z in
      (omega (arith, t.inside, c1), omega (arith, t.inside, c1), omega (arith, t.sized, c1, k))

  -- a hint that is no map of two
  pub map_refused : (x : Refusal) → ((hs : Forest Hint) → Hinted s.hints s.text task.hint hs → Passes (map_checks i hs) (Err x)) → (after : List ResultRow)
      → VisitsAs (Ok mapped) s i task start before after (Err x)
  map_refused x w after e b n q hs p =
      let (rest, g) = w hs p in
      map_by_sides s i start.leaf task.levels task.key hs e b (shape_here e b n q)
      ∙ ap (λ es. checked es (kept_if (whole s i start.leaf task.levels task.key hs e b (shape_here e b n q)) (within (map_row s i start.leaf task.levels task.key hs e b (shape_here e b n q))
      (followed (key_gives s i start.leaf task.levels task.key hs e b (shape_here e b n q)) (value_gives s i start.leaf task.levels task.key hs e b (shape_here e b n q)))))) g

  module _ (parent given : Option ℕ)
      (from_parent : (bytes : List ℕ) (hs : Forest Hint) → Hinted s.hints bytes task.hint hs → HintsLeft s.hints bytes task.hint parent (inside hs))
      (from_given : (bytes : List ℕ) (hs : Forest Hint) → Hinted s.hints bytes parent hs → HintsLeft s.hints bytes parent given (inside hs))
      (mine : Levels) (l : mine ≡ raised task.levels rep_here)
      (deeper : Levels) (m : deeper ≡ raised mine (or_required (element_at s.elements (i + 1)).repetition)) where
    sides_left : (hs : Forest Hint) → Hinted s.hints s.text task.hint hs → HintsLeft s.hints s.text parent given (inside (sole (inside hs)))
    sides_left hs p = from_given s.text (sole (inside hs)) (left_sole s.hints s.text task.hint parent (inside hs) (from_parent s.text hs p))

    pub key_handed : (hs : Forest Hint) → Hinted s.hints s.text task.hint hs → Hinted s.hints s.text given (sole (inside (sole (inside hs))))
    key_handed hs p = left_sole s.hints s.text parent given (inside (sole (inside hs))) (sides_left hs p)

    abbrev pub key_task : Task
    key_task = record { levels = deeper; hint = given; named = false; key = true }

    deeper_here : (e : Element) (b n : Forest Element) (q : Stands s.elements i (plant e b n)) → deeper ≡ raised (raised task.levels (or_required e.repetition)) repeated
    deeper_here e b n q =
        let z = shape_here e b n q in
        m ∙ ap (λ (y : Element). raised mine (or_required y.repetition))
        (read_here s.elements (i + 1) z.child (plant z.key z.key_under (plant z.value z.value_under bare)) bare (child_here e b n q z))
        ∙ ap (raised mine) z.repeats
        ∙ ap (λ (v : Levels). raised v repeated) (l ∙ ap (λ (y : Element). raised task.levels (or_required y.repetition)) (read_here s.elements i e b n q))

    levels_low : (deeper.rep ≤ task.levels.rep + 2) × (deeper.def ≤ task.levels.def + 2)
    levels_low =
        let r1 = raised_rep task.levels rep_here in
        let r2 = raised_rep mine (or_required (element_at s.elements (i + 1)).repetition) in
        let d1 = raised_def task.levels rep_here in
        let d2 = raised_def mine (or_required (element_at s.elements (i + 1)).repetition) in
        let lr = ap (λ (x : Levels). x.rep) l in
        let ld = ap (λ (x : Levels). x.def) l in
        let mr = ap (λ (x : Levels). x.rep) m in
        let md = ap (λ (x : Levels). x.def) m in
        (omega (arith, r1, r2, lr, mr), omega (arith, d1, d2, ld, md))

    -- the key, as a visit of it needs it
    pub key_ready : (room : ℕ) → Ready s.elements i task.levels start room
        → ((element_at s.elements (i + 2)).size + 2 ≤ (element_at s.elements i).size) × Ready s.elements (i + 2) deeper inner room
    key_ready room y =
        let t = y.root in
        let z = shape_here t.top t.below t.after t.lies in
        let q = key_there t.top t.below t.after t.lies z in
        let c1 = count_map z in
        let h1 = (height_map z).0 in
        let low = levels_low in
        let size = key_size t.top t.below t.after t.lies z in (
          omega (arith, size, t.sized, c1),
          record {
            root = rooted s.elements (i + 2) t.whole t.lists z.key z.key_under (plant z.value z.value_under bare) q;
            fits = omega (arith, y.fits, c1);
            few = omega (arith, y.few, c1);
            rep_low = omega (arith, y.rep_low, h1, low.0);
            def_low = omega (arith, y.def_low, h1, low.1);
          },
        )

    -- what the visit of the key says, at the key of a tree
    at_key : (mid : List ResultRow) (r : Result Cursor Refusal) → Dispatches s (i + 2) key_task inner before mid r
        → (e : Element) (b n : Forest Element) (q : Stands s.elements i (plant e b n)) (z : AsMap e b) (hs : Forest Hint) → Hinted s.hints s.text task.hint hs
        → Meets s.names (key_gives s i start.leaf task.levels task.key hs e b z) (start.row + 1) (next_leaf s.names start.leaf z.key z.key_under) before mid r
    at_key mid r f e b n q z hs p =
        let g : Dispatches s ((i + 1) + 1) key_task inner before mid r = subst (λ (x : ℕ). Dispatches s x key_task inner before mid r) (sym two) f in
        subst (λ (v : Levels). Meets s.names (gives_field s ((i + 1) + 1) start.leaf v false true (sole (inside (sole (inside hs)))) z.key z.key_under) (start.row + 1) (next_leaf s.names start.leaf z.key z.key_under) before mid r)
        (deeper_here e b n q)
        (g z.key z.key_under (plant z.value z.value_under bare) (key_here e b n q z) (sole (inside (sole (inside hs)))) (key_handed hs p))

    module _ (fine : (hs : Forest Hint) → Hinted s.hints s.text task.hint hs → map_checks i hs ≡ []) where
      pub key_off : (mid : List ResultRow) (x : Refusal) → Dispatches s (i + 2) key_task inner before mid (Err x) → VisitsAs (Ok mapped) s i task start before mid (Err x)
      key_off mid x f e b n q hs p =
          let z = shape_here e b n q in
          key_refused s i start.leaf task.levels task.key hs e b z (fine hs p) x (at_key mid (Err x) f e b n q z hs p)

    module _ (next : Option ℕ) (from_next : (bytes : List ℕ) (hs : Forest Hint) → HintsLeft s.hints bytes parent given hs → HintsLeft s.hints bytes parent next (others hs))
        (mid : List ResultRow) (middle : Cursor) (f : Dispatches s (i + 2) key_task inner before mid (Ok middle)) where
      pub value_handed : (hs : Forest Hint) → Hinted s.hints s.text task.hint hs → Hinted s.hints s.text next (sole (others (inside (sole (inside hs)))))
      value_handed hs p = left_sole s.hints s.text parent next (others (inside (sole (inside hs)))) (from_next s.text (inside (sole (inside hs))) (sides_left hs p))

      abbrev pub value_task : Task
      value_task = record { levels = deeper; hint = next; named = false; key = false }

      key_wrote : (e : Element) (b n : Forest Element) (q : Stands s.elements i (plant e b n)) (z : AsMap e b) (hs : Forest Hint) → Hinted s.hints s.text task.hint hs
          → Wrote s.names (key_gives s i start.leaf task.levels task.key hs e b z) (start.row + 1) (next_leaf s.names start.leaf z.key z.key_under) before mid middle
      key_wrote e b n q z hs p = at_key mid (Ok middle) f e b n q z hs p

      -- the value, as a visit of it needs it
      pub value_ready : (room : ℕ) → Ready s.elements i task.levels start room → room ≡ length mid → (hs : Forest Hint) → Hinted s.hints s.text task.hint hs
          → ((element_at s.elements value_spot).size + 2 ≤ (element_at s.elements i).size) × Ready s.elements value_spot deeper middle (length mid)
      value_ready room y g hs p =
          let t = y.root in
          let e = t.top in
          let b = t.below in
          let n = t.after in
          let k = start.leaf in
          let z = shape_here e b n t.lies in
          let u = value_there e b n t.lies z in
          let w = key_wrote e b n t.lies z hs p in
          let bound = field_few s (own_role s ((i + 1) + 1) k z.key z.key_under) ((i + 1) + 1) k (raised (raised task.levels (or_required e.repetition)) repeated) false true (sole (inside (sole (inside hs)))) z.key z.key_under
          (map (line_of s.names) w.rows) w.is in
          let same = length-map (line_of s.names) w.rows in
          let more = next_few s.names k z.key z.key_under in
          let c1 = count_map z in
          let h1 = (height_map z).1 in
          let low = levels_low in
          let size = sized s.elements value_spot z.value z.value_under bare u in (
            omega (arith, size, t.sized, c1),
            record {
              root = rooted s.elements value_spot t.whole t.lists z.value z.value_under bare u;
              fits = omega (arith, y.fits, c1, g, w.ends, bound, same);
              few = omega (arith, y.few, c1, w.counts, more);
              rep_low = omega (arith, y.rep_low, h1, low.0);
              def_low = omega (arith, y.def_low, h1, low.1);
            },
          )

      -- what the visit of the value says, at the value of a tree
      at_value : (out : List ResultRow) (r : Result Cursor Refusal) → Dispatches s value_spot value_task middle mid out r
          → (e : Element) (b n : Forest Element) (q : Stands s.elements i (plant e b n)) (z : AsMap e b) (hs : Forest Hint) → Hinted s.hints s.text task.hint hs
          → Meets s.names (value_gives s i start.leaf task.levels task.key hs e b z) middle.row
          (next_leaf s.names (next_leaf s.names start.leaf z.key z.key_under) z.value z.value_under) mid out r
      at_value out r g e b n q z hs p =
          let w = key_wrote e b n q z hs p in
          let at : ℕ = ((i + 1) + 1) + (1 + count z.key_under) in
          let g' : Dispatches s at value_task middle mid out r = subst (λ (x : ℕ). Dispatches s x value_task middle mid out r) (sym (value_place e b n q z)) g in
          subst (λ (v : Levels). Meets s.names (gives_field s at (next_leaf s.names start.leaf z.key z.key_under) v false false (sole (others (inside (sole (inside hs))))) z.value z.value_under) middle.row
          (next_leaf s.names (next_leaf s.names start.leaf z.key z.key_under) z.value z.value_under) mid out r) (deeper_here e b n q)
          (subst (λ (k : ℕ). Meets s.names (gives_field s at k deeper false false (sole (others (inside (sole (inside hs))))) z.value z.value_under) middle.row
          (next_leaf s.names k z.value z.value_under) mid out r) w.counts
          (g' z.value z.value_under bare (value_here e b n q z) (sole (others (inside (sole (inside hs))))) (value_handed hs p)))

      -- the rows of both sides end in order
      pub rows_end : (out : List ResultRow) (cursor : Cursor) → Dispatches s value_spot value_task middle mid out (Ok cursor) → Rooted s.elements i → (hs : Forest Hint) → Hinted s.hints s.text task.hint hs
          → (start.row + 1 ≤ middle.row) × (middle.row ≤ cursor.row)
      rows_end out cursor g t hs p =
          let z = shape_here t.top t.below t.after t.lies in
          let w = key_wrote t.top t.below t.after t.lies z hs p in
          let y : Wrote s.names (value_gives s i start.leaf task.levels task.key hs t.top t.below z) middle.row
          (next_leaf s.names (next_leaf s.names start.leaf z.key z.key_under) z.value z.value_under) mid out cursor =
          at_value out (Ok cursor) g t.top t.below t.after t.lies z hs p in
          (omega (arith, w.ends), omega (arith, y.ends))

      module _ (fine : (hs : Forest Hint) → Hinted s.hints s.text task.hint hs → map_checks i hs ≡ []) where
        pub value_off : (out : List ResultRow) (x : Refusal) → Dispatches s value_spot value_task middle mid out (Err x) → VisitsAs (Ok mapped) s i task start before out (Err x)
        value_off out x g e b n q hs p =
            let z = shape_here e b n q in
            let w = key_wrote e b n q z hs p in
            value_refused s i start.leaf task.levels task.key hs e b z (fine hs p) (map (line_of s.names) w.rows) x w.is (at_value out (Err x) g e b n q z hs p)

        module _ (out : List ResultRow) (cursor : Cursor) (g : Dispatches s value_spot value_task middle mid out (Ok cursor)) where
          pub half_taken : start.row < length before → (middle.row ≡ start.row + 1) ⊎ (cursor.row ≡ middle.row)
              → VisitsAs (Ok mapped) s i task start before out (Ok (record { row = start.row; leaf = cursor.leaf }))
          half_taken h c e b n q hs p =
              let z = shape_here e b n q in
              map_half s i start.leaf task.levels task.key hs e b z (fine hs p) start.row before mid out middle cursor (key_wrote e b n q z hs p) (at_value out (Ok cursor) g e b n q z hs p) h c

          pub taken : (middle.row ≡ start.row + 1 → ⊥) → (cursor.row ≡ middle.row → ⊥) → (after : List ResultRow) (r : Cursor) → length before ≡ length out → (row : ResultRow)
              → ((a j k : ℕ) (hs : Forest Hint) → Hinted s.hints s.text task.hint hs → (typing : Typing)
              → shown_row s.names row ≡ items_full typing (entries_told task.key hs (label s.names a k (element_at s.elements i))) (Ok entries) of_map (label s.names j k (element_at s.elements (i + 1))) deeper (is_optional rep_here))
              → ((bytes : List ℕ) (o : Outcome) (next : ℕ) (before : List ResultRow) → length before ≡ length out → Wrote bytes o (start.row + 1) next before out cursor
              → Wrote bytes (within (shown_row bytes row) o) start.row next before after r)
              → VisitsAs (Ok mapped) s i task start before after (Ok r)
          taken h c after r long row shows close e b n q hs p =
              let z = shape_here e b n q in
              let k = start.leaf in
              let typing : Typing = typing_of s.hints s.text in
              let is : shown_row s.names row ≡ map_row s i k task.levels task.key hs e b z =
              shows i (i + 1) k hs p typing
              ∙ ap₂ (λ (x y : Element). items_full typing (entries_told task.key hs (label s.names i k x)) (Ok entries) of_map (label s.names (i + 1) k y) deeper (is_optional (or_required x.repetition)))
              (read_here s.elements i e b n q)
              (read_here s.elements (i + 1) z.child (plant z.key z.key_under (plant z.value z.value_under bare)) bare (child_here e b n q z))
              ∙ ap (λ (v : Levels). items_full typing (entries_told task.key hs (label s.names i k e)) (Ok entries) of_map (label s.names (i + 1) k z.child) v (is_optional (or_required e.repetition))) (deeper_here e b n q) in
              map_whole s i k task.levels task.key hs e b z (fine hs p) start.row before mid out middle cursor (key_wrote e b n q z hs p) (at_value out (Ok cursor) g e b n q z hs p) h c after r long row is close
