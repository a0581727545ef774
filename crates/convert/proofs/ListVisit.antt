-- The visit of a group that is read as a list.
use Rattle.std.proofs.Common.{◌≡◌, ℕ, suc, ◌+◌, ◌≤◌, max, Bool, true, false, cond, List, [], length, Ok, Err, Option, Result, sym, ap, ◌∙◌, subst, ap₂, arith}
use Rattle.tree.specs.Forest.{Forest, count}
use Rattle.tree.specs.Forest.Forest.{bare, plant}
use Rattle.schema.specs.declared.basic.Annotation.{Annotation}
use Rattle.schema.specs.declared.basic.Repetition.{Repetition}
use Rattle.schema.specs.declared.basic.Repetition.TheVariants.{Optional as optional, Repeated as repeated, Required as required}
use Rattle.schema.specs.declared.element.Element.{Element}
use Rattle.schema.specs.declared.element.Kind.{Kind}
use Rattle.schema.specs.declared.element.Kind.TheVariants.{Group as group}
use Rattle.schema.specs.declared.refusal.Refusal.{Refusal}
use Rattle.schema.specs.declared.refusal.Refusal.TheVariants as no
use Rattle.schema.specs.Elements.{part}
use Rattle.arrow.specs.declared.row.ResultRow.{ResultRow}
use Rattle.selection.specs.Sets.{in_flags}
use Rattle.walk.specs.Forests.{height}
use Rattle.walk.specs.Labels.{Numbered, is_leaf, is_optional, leaf_count, or_required}
use Rattle.walk.specs.Hints.{Hint, sole, inside, fits as hint_fits, any_list}
use Rattle.walk.specs.Reading.{first_is_element}
use Rattle.walk.specs.Faults.{Typing, unless, list_checks}
use Rattle.walk.specs.Shape.{raised}
use Rattle.walk.specs.Shape.Items.{of_list}
use Rattle.walk.specs.Walk.{Full}
use Rattle.walk.specs.declared.role.Role.TheVariants.{Own as own, Listed as listed, Middle as middle}
use Rattle.walk.specs.declared.levels.Levels.{Levels}
use Rattle.convert.specs.declared.context.Cursor.{Cursor}
use Rattle.convert.specs.declared.context.Seat.{Seat}
use Rattle.convert.specs.declared.context.Task.{Task}
use Rattle.convert.specs.Table.{Stands, Reads, element_at, label, spelled_by, kids}
use Rattle.convert.specs.Handed.{Hinted, typing_of}
use Rattle.walk.specs.Results.{shown_row}
use Rattle.convert.specs.Outcome.{Outcome, Told, outcome, within, checked, told_tree}
use Rattle.convert.specs.Visit.{Input, Wrote, Meets, Seats, gives_as}
use Rattle.convert.specs.Walked.{next_leaf, field_as, gives_field, element_told, middle_told, items_full, Ready, Visits, VisitsAs, Dispatches}
use Rattle.convert.proofs.Trees.{count_plant, read_here, sized, rooted}
use Rattle.convert.proofs.Shapes.{AsList, listed_shape, child_stands, child_is, under_stands}
use Rattle.convert.proofs.Listed.{Through, list_form, list_itself, list_through, list_item}

pub raised_rep : (v : Levels) (r : Repetition) → (raised v r).rep ≤ v.rep + 1
raised_rep v required = omega arith
raised_rep v optional = omega arith
raised_rep v repeated = omega arith

pub raised_def : (v : Levels) (r : Repetition) → (raised v r).def ≤ v.def + 1
raised_def v required = omega arith
raised_def v optional = omega arith
raised_def v repeated = omega arith

pub group_next : (names : List ℕ) (k : ℕ) (e : Element) (b : Forest Element) (n : Option Annotation) → e.kind ≡ group n → k + leaf_count (spelled_by names b) ≡ next_leaf names k e b
group_next names k e b n h = ap (λ (y : Kind). k + cond (is_leaf y) 1 (leaf_count (spelled_by names b))) (sym h)

-- a group counts the leaves of its one child
pub next_single : (names : List ℕ) (k : ℕ) (e : Element) (n : Option Annotation) → e.kind ≡ group n → (c : Element) (b : Forest Element) → next_leaf names k c b ≡ next_leaf names k e (plant c b bare)
next_single names k e n h c b = omega (arith, group_next names k e (plant c b bare) n h)

off_list : (i : ℕ) (hs : Forest Hint) → hint_fits any_list hs ≡ false → (o : Outcome) → checked (list_checks i hs) o ≡ Err (no.HintKind i)
off_list i hs h o = ap (λ (x : Bool). checked (unless x (no.HintKind i)) o) h

on_list : (i : ℕ) (hs : Forest Hint) → hint_fits any_list hs ≡ true → (o : Outcome) → checked (list_checks i hs) o ≡ o
on_list i hs h o = ap (λ (x : Bool). checked (unless x (no.HintKind i)) o) h

module _ (s : Input) (i : ℕ) (task : Task) (start : Cursor) (before : List ResultRow) (reads : Reads s.elements i (Ok listed)) where
  abbrev rep_here : Repetition
  rep_here = or_required (element_at s.elements i).repetition

  abbrev Decides : Bool → Type 0
  Decides d = (e : Element) (b n : Forest Element) → Stands s.elements i (plant e b n) → (k : ℕ) → first_is_element (part s.names e.name) (kids s.names i k b) ≡ d

  abbrev Given : Bool → Type 0
  Given d = (hs : Forest Hint) → Hinted s.hints s.text task.hint hs → hint_fits any_list hs ≡ d

  shape_here : (e : Element) (b n : Forest Element) → Stands s.elements i (plant e b n) → AsList e b
  shape_here e b n q = listed_shape [] i 0 e b (reads e b n q [] 0)

  -- a hint that is no list
  pub list_refused : Given false → (after : List ResultRow) → VisitsAs (Ok listed) s i task start before after (Err (no.HintKind i))
  list_refused w after e b n q hs p =
      list_form s i start.leaf task.levels task.key hs e b (shape_here e b n q) ∙ off_list i hs (w hs p) _

  level_here : (mine : Levels) → mine ≡ raised task.levels rep_here → (e : Element) (b n : Forest Element) → Stands s.elements i (plant e b n) → mine ≡ raised task.levels (or_required e.repetition)
  level_here mine l e b n q = l ∙ ap (λ (y : Element). raised task.levels (or_required y.repetition)) (read_here s.elements i e b n q)

  next_child : (k : ℕ) (e : Element) (b : Forest Element) (z : AsList e b) → next_leaf s.names k z.child z.under ≡ next_leaf s.names k e b
  next_child k e b z =
      next_single s.names k e z.how z.kind z.child z.under ∙ ap (λ (f : Forest Element). next_leaf s.names k e f) (sym z.is)

  next_item : (k : ℕ) (e : Element) (b : Forest Element) (z : AsList e b) (t : Through z.child z.under) → next_leaf s.names k t.item t.under ≡ next_leaf s.names k e b
  next_item k e b z t =
      next_single s.names k z.child t.how t.kind t.item t.under ∙ ap (λ (f : Forest Element). next_leaf s.names k z.child f) (sym t.is) ∙ next_child k e b z

  -- the child, as a visit of it needs it
  pub child_ready : (mine : Levels) → mine ≡ raised task.levels rep_here → (room : ℕ) → Ready s.elements i task.levels start room
      → ((element_at s.elements (i + 1)).size + 1 ≤ (element_at s.elements i).size) × Ready s.elements (i + 1) mine start room
  child_ready mine l room z =
      let t = z.root in
      let e = t.top in
      let b = t.below in
      let n = t.after in
      let a = shape_here e b n t.lies in
      let p = child_stands e b n t.lies a in
      let c1 : count b ≡ 1 + (count a.under + 0) = ap count a.is ∙ count_plant a.child a.under bare in
      let h1 : height b ≡ max (suc (height a.under)) 0 = ap height a.is in
      let r1 = raised_rep task.levels rep_here in
      let d1 = raised_def task.levels rep_here in
      let lr = ap (λ (x : Levels). x.rep) l in
      let ld = ap (λ (x : Levels). x.def) l in
      let size = sized s.elements (i + 1) a.child a.under bare p in (
        omega (arith, size, t.sized, c1),
        record {
          root = rooted s.elements (i + 1) t.whole t.lists a.child a.under bare p;
          fits = omega (arith, z.fits, c1);
          few = omega (arith, z.few, c1);
          rep_low = omega (arith, z.rep_low, h1, r1, lr);
          def_low = omega (arith, z.def_low, h1, d1, ld);
        },
      )

  -- the child is the element
  pub visits_itself : Given true → (d : Bool) → Decides d → d ≡ true → (seat : Seat) → seat.levels ≡ raised task.levels rep_here → seat.null_above ≡ is_optional rep_here
      → ((j k : ℕ) (hs : Forest Hint) → Hinted s.hints s.text task.hint hs → Seats s seat (element_told task.key hs (label s.names j k (element_at s.elements i))))
      → (after : List ResultRow) (r : Result Cursor Refusal) → Visits s (i + 1) seat start before after r → VisitsAs (Ok listed) s i task start before after r
  visits_itself fine d w h seat l o seats after r f e b n q hs p =
      let a = shape_here e b n q in
      let k = start.leaf in
      let told : Told = element_told task.key hs (label s.names i k e) in
      let same = read_here s.elements i e b n q in
      subst (λ (x : Outcome). Meets s.names x start.row (next_leaf s.names k e b) before after r)
      (sym (list_itself s i k task.levels task.key hs e b a (w e b n q k ∙ h) ∙ on_list i hs (fine hs p) _
      ∙ ap₂ (λ (v : Levels) (x : Bool). outcome (typing_of s.hints s.text) (in_flags s.flags) v x (told_tree told (Ok own) (label s.names (i + 1) k a.child) (kids s.names (i + 1) k a.under)))
      (sym (level_here seat.levels l e b n q)) (sym (o ∙ ap (λ (y : Element). is_optional (or_required y.repetition)) same))))
      (subst (λ (x : ℕ). Meets s.names (gives_as s (Ok own) (i + 1) k seat told a.child a.under) start.row x before after r) (next_child k e b a)
      (f a.child a.under bare (child_stands e b n q a) told
      (subst (λ (y : Element). Seats s seat (element_told task.key hs (label s.names i k y))) same (seats i k hs p))))

  module _ (d : Bool) (w : Decides d) (h : d ≡ false) (mine : Levels) (l : mine ≡ raised task.levels rep_here)
      (deeper : Levels) (m : deeper ≡ raised mine (or_required (element_at s.elements (i + 1)).repetition)) where
    deeper_here : (e : Element) (b n : Forest Element) (q : Stands s.elements i (plant e b n)) → deeper ≡ raised (raised task.levels (or_required e.repetition)) repeated
    deeper_here e b n q =
        let a = shape_here e b n q in
        m ∙ ap (λ (y : Element). raised mine (or_required y.repetition)) (child_is e b n q a) ∙ ap (raised mine) a.repeats
        ∙ ap (λ (v : Levels). raised v repeated) (level_here mine l e b n q)

    through_here : (e : Element) (b n : Forest Element) (q : Stands s.elements i (plant e b n)) → Through (shape_here e b n q).child (shape_here e b n q).under
    through_here e b n q = list_through s i start.leaf task.levels task.key bare e b (shape_here e b n q) (w e b n q start.leaf ∙ h)

    item_stands : (e : Element) (b n : Forest Element) (q : Stands s.elements i (plant e b n)) → Stands s.elements ((i + 1) + 1) (plant (through_here e b n q).item (through_here e b n q).under bare)
    item_stands e b n q = subst (Stands s.elements ((i + 1) + 1)) (through_here e b n q).is (under_stands e b n q (shape_here e b n q))

    abbrev pub inner : Cursor
    inner = record { row = start.row + 1; leaf = start.leaf }

    -- the element that is visited next
    pub item_ready : (room : ℕ) → Ready s.elements i task.levels start room
        → ((element_at s.elements ((i + 1) + 1)).size + 2 ≤ (element_at s.elements i).size) × Ready s.elements ((i + 1) + 1) deeper inner room
    item_ready room z =
        let t = z.root in
        let e = t.top in
        let b = t.below in
        let n = t.after in
        let q = t.lies in
        let a = shape_here e b n q in
        let y = through_here e b n q in
        let c1 : count b ≡ 1 + (count a.under + 0) = ap count a.is ∙ count_plant a.child a.under bare in
        let c2 : count a.under ≡ 1 + (count y.under + 0) = ap count y.is ∙ count_plant y.item y.under bare in
        let h1 : height b ≡ max (suc (height a.under)) 0 = ap height a.is in
        let h2 : height a.under ≡ max (suc (height y.under)) 0 = ap height y.is in
        let r1 = raised_rep task.levels rep_here in
        let r2 = raised_rep mine (or_required (element_at s.elements (i + 1)).repetition) in
        let d1 = raised_def task.levels rep_here in
        let d2 = raised_def mine (or_required (element_at s.elements (i + 1)).repetition) in
        let lr = ap (λ (x : Levels). x.rep) l in
        let ld = ap (λ (x : Levels). x.def) l in
        let mr = ap (λ (x : Levels). x.rep) m in
        let md = ap (λ (x : Levels). x.def) m in
        let size = sized s.elements ((i + 1) + 1) y.item y.under bare (item_stands e b n q) in (
          omega (arith, size, t.sized, c1, c2),
          record {
            root = rooted s.elements ((i + 1) + 1) t.whole t.lists y.item y.under bare (item_stands e b n q);
            fits = omega (arith, z.fits, c1, c2);
            few = omega (arith, z.few, c1, c2);
            rep_low = omega (arith, z.rep_low, h1, h2, r1, r2, lr, mr);
            def_low = omega (arith, z.def_low, h1, h2, d1, d2, ld, md);
          },
        )

    abbrev item_gives : (e : Element) (b n : Forest Element) → Stands s.elements i (plant e b n) → Forest Hint → Levels → Outcome
    item_gives e b n q hs v = gives_field s ((i + 1) + 1) start.leaf v false false (sole (inside hs)) (through_here e b n q).item (through_here e b n q).under

    abbrev row_of : (e : Element) (b n : Forest Element) → Stands s.elements i (plant e b n) → Forest Hint → Levels → Full
    row_of e b n q hs v =
        items_full (typing_of s.hints s.text) (middle_told task.key hs (label s.names i start.leaf e)) (Ok middle) of_list (label s.names (i + 1) start.leaf (shape_here e b n q).child) v
        (is_optional (or_required e.repetition))

    module _ (fine : Given true) where
      item_form : (e : Element) (b n : Forest Element) (q : Stands s.elements i (plant e b n)) (hs : Forest Hint) → Hinted s.hints s.text task.hint hs
          → field_as s (Ok listed) i start.leaf task.levels false task.key hs e b ≡ within (row_of e b n q hs deeper) (item_gives e b n q hs deeper)
      item_form e b n q hs p =
          list_item s i start.leaf task.levels task.key hs e b (shape_here e b n q) (w e b n q start.leaf ∙ h) (through_here e b n q)
          ∙ on_list i hs (fine hs p) _
          ∙ ap (λ (v : Levels). within (row_of e b n q hs v) (item_gives e b n q hs v)) (sym (deeper_here e b n q))

      module _ (given : Option ℕ) (handed : (hs : Forest Hint) → Hinted s.hints s.text task.hint hs → Hinted s.hints s.text given (sole (inside hs))) where
        abbrev pub item_task : Task
        item_task = record { levels = deeper; hint = given; named = false; key = false }

        pub item_off : (out : List ResultRow) (x : Refusal) → Dispatches s ((i + 1) + 1) item_task inner before out (Err x) → VisitsAs (Ok listed) s i task start before out (Err x)
        item_off out x f e b n q hs p =
            let y = through_here e b n q in
            let g : item_gives e b n q hs deeper ≡ Err x = f y.item y.under bare (item_stands e b n q) (sole (inside hs)) (handed hs p) in
            item_form e b n q hs p ∙ ap (within (row_of e b n q hs deeper)) g

        pub item_done : (out after : List ResultRow) (cursor r : Cursor) → Dispatches s ((i + 1) + 1) item_task inner before out (Ok cursor)
            → length before ≡ length out → (row : ResultRow)
            → ((j k : ℕ) (hs : Forest Hint) → Hinted s.hints s.text task.hint hs → (typing : Typing) (y : Numbered)
            → shown_row s.names row ≡ items_full typing (middle_told task.key hs (label s.names j k (element_at s.elements i))) (Ok middle) of_list y deeper (is_optional rep_here))
            → ((bytes : List ℕ) (o : Outcome) (next : ℕ) (before : List ResultRow) → length before ≡ length out → Wrote bytes o (start.row + 1) next before out cursor
            → Wrote bytes (within (shown_row bytes row) o) start.row next before after r)
            → VisitsAs (Ok listed) s i task start before after (Ok r)
        item_done out after cursor r f long row shows close e b n q hs p =
            let y = through_here e b n q in
            let k = start.leaf in
            let x : Numbered = label s.names (i + 1) k (shape_here e b n q).child in
            let typing : Typing = typing_of s.hints s.text in
            let shown : shown_row s.names row ≡ row_of e b n q hs deeper =
            shows i k hs p typing x
            ∙ ap (λ (g : Element). items_full typing (middle_told task.key hs (label s.names i k g)) (Ok middle) of_list x deeper (is_optional (or_required g.repetition))) (read_here s.elements i e b n q) in
            subst (λ (o : Outcome). Wrote s.names o start.row (next_leaf s.names k e b) before after r)
            (sym (item_form e b n q hs p ∙ ap (λ (g : Full). within g (item_gives e b n q hs deeper)) (sym shown)))
            (close s.names (item_gives e b n q hs deeper) (next_leaf s.names k e b) before long
            (subst (λ (z : ℕ). Wrote s.names (item_gives e b n q hs deeper) (start.row + 1) z before out cursor) (next_item k e b (shape_here e b n q) y)
            (f y.item y.under bare (item_stands e b n q) (sole (inside hs)) (handed hs p))))
