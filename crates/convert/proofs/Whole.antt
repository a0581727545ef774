-- The walk from the root.
use Rattle.std.proofs.Common.{◌≡◌, ℕ, ◌+◌, ◌*◌, ◌≤◌, Bool, true, false, ◌&&◌, eqb, List, [], ◌∷◌, map, length, take, is_none, Some, Ok, Err, Result, sym, refl, ap, ◌∙◌, subst, ap₂, append-nil, arith, None}
use lib.ListN.{length-map}
use Rattle.std.proofs.lemmas.List.{length-take}
use Rattle.std.proofs.lemmas.Bool.{and_parts}
use Rattle.tree.specs.Forest.{Forest, Lists, alone, count, listing}
use Rattle.tree.specs.Forest.Forest.{bare, plant}
use Rattle.schema.specs.declared.element.Element.{Element}
use Rattle.schema.specs.declared.element.Kind.{Kind}
use Rattle.schema.specs.declared.element.Kind.TheVariants.{Group as group, Leaf as leaf}
use Rattle.schema.specs.declared.element.Leaf.{Leaf}
use Rattle.schema.specs.declared.refusal.Refusal.{Refusal}
use Rattle.schema.specs.Rows.{IsFinished, named_inside, plain_group, root_kept}
use Rattle.arrow.specs.declared.hint.HintRow.{HintRow}
use Rattle.arrow.specs.declared.row.ResultRow.{ResultRow}
use Rattle.arrow.specs.Kinds.{hint_span}
use Rattle.selection.specs.Sets.{in_flags}
use Rattle.walk.specs.Forests.{height, relabel}
use Rattle.walk.specs.Handing.{hinting}
use Rattle.walk.specs.Hints.{Hint, hints_of, sole}
use Rattle.walk.specs.Labels.{Numbered, shown_tree}
use Rattle.walk.specs.Reading.{Read, by_annotation, nobody, reading}
use Rattle.walk.specs.Reading.Part.{as_root}
use Rattle.walk.specs.Faults.{Typing, refusals}
use Rattle.walk.specs.Results.{line_of, lines}
use Rattle.walk.specs.Shape.{base, shape}
use Rattle.walk.specs.Walk.{Full, full_of, leaf_typing, unless_refused, walk_under}
use Rattle.walk.specs.declared.levels.Levels.{Levels}
use Rattle.walk.specs.declared.role.Role.{Role}
use Rattle.walk.specs.declared.role.Role.TheVariants.{Own as own}
use Rattle.convert.specs.declared.context.Cursor.{Cursor}
use Rattle.convert.specs.declared.context.Seat.{Seat}
use Rattle.convert.specs.Handed.{Hinted, WholeHints, typing_of}
use Rattle.convert.specs.Outcome.{Outcome, outcome, told_below, told_label, told_tree}
use Rattle.convert.specs.Root.{Front, Walks, root_told}
use Rattle.convert.specs.Table.{Rooted, Stands, kids, label}
use Rattle.convert.specs.Visit.{Input, Seats, Wrote, gives_as}
use Rattle.convert.specs.Walked.{HasHint, Ready, Visits, next_leaf}
use Rattle.convert.proofs.Trees.{count_plant, sized}
use Rattle.promise.proofs.Rows.{length_lines}

-- ── The first hint ──

pub no_first : (text : List ℕ) (h : Forest HintRow) → listing h ≡ [] → sole (hints_of text 0 h) ≡ bare
no_first text bare e = refl
no_first text (plant x b c) e = absurd cc

pub first_hinted : (rows : List HintRow) (text : List ℕ) (h : Forest HintRow) → Lists hint_span h rows → (length rows ≡ 0 → ⊥) → Hinted rows text (Some 0) (sole (hints_of text 0 h))
first_hinted rows text bare l n = absurd (n (ap length (sym l.lists)))
first_hinted rows text (plant x b c) l n =
    (x, b, c, record { after = []; here = sym l.lists ∙ sym (append-nil (listing (plant x b c))); sized = l.sized }, refl)

-- ── The outcome from the root ──

abbrev lined_result : Result (Forest Full) Refusal → Outcome
lined_result (Ok f) = Ok (lines f)
lined_result (Err e) = Err e

lined : (es : List Refusal) (f : Forest Full) → unless_refused es (lines f) ≡ lined_result (unless_refused es f)
lined [] f = refl
lined (e ∷ es) f = refl

typing_same : (rows : List HintRow) (text : List ℕ) → typing_of rows text ≡ leaf_typing rows text
typing_same rows text = λ i l hint. go l hint i
  where
    go : (l : Leaf) (hint : Forest Hint) → typing_of rows text l hint ≡ leaf_typing rows text l hint
    go l bare = refl
    go l (plant h b c) = refl

root_read : (hints : Forest Hint) (x : Numbered) (below : Forest Numbered) → x.kind ≡ group None
    → hinting false bare hints (reading as_root nobody (plant x below bare)) ≡ told_tree (root_told hints) (Ok own) x below
unfolding reading hinting
root_read hints x below e =
    let F : Result Role Refusal → Forest Read = λ role. plant (told_label (root_told hints) role x) (told_below (root_told hints) role x below) bare in
    ap F (ap {B = Result Role Refusal} (λ (k : Kind). by_annotation x.number k x.repetition below) e)

plain_none : (k : Kind) → plain_group k ≡ true → k ≡ group None
plain_none (group None) e = refl
plain_none (group (Some how)) e = absurd cc
plain_none (leaf l) e = absurd cc

root_plain : (bytes : ℕ) (e : Element) → root_kept bytes e ≡ true → e.kind ≡ group None
root_plain bytes e k =
    let p = (and_parts (eqb e.depth 0) (is_none e.repetition && (plain_group e.kind && named_inside bytes e)) k).1 in
    let q = (and_parts (is_none e.repetition) (plain_group e.kind && named_inside bytes e) p).1 in
    plain_none e.kind (and_parts (plain_group e.kind) (named_inside bytes e) q).0

height_few : {A : Type 0} (f : Forest A) → height f ≤ count f
height_few bare = omega arith
height_few (plant x b c) = omega (arith, height_few b, height_few c, count_plant x b c)

module _ (s : Input) where
  module _ (bytes : ℕ) (tree : IsFinished bytes s.elements) where
    root_stands : Stands s.elements 0 (alone tree.0)
    root_stands = record { after = []; here = sym tree.2.lists ∙ sym (append-nil (listing (alone tree.0))); sized = tree.2.sized }

    root_many : length s.elements ≡ 1 + count tree.0.under
    root_many = let z = ap length tree.2.lists in let y = count_plant tree.0.root tree.0.under bare in omega arith

    abbrev rooted : Rooted s.elements 0
    rooted = record {
      whole = alone tree.0;
      lists = tree.2;
      top = tree.0.root;
      below = tree.0.under;
      after = bare;
      lies = root_stands;
      inside = omega (arith, root_many);
      sized = sized s.elements 0 tree.0.root tree.0.under bare root_stands;
    }

    -- what the visit of the root needs
    pub root_ready : (room : ℕ) → 2 * length s.elements ≤ room → (v : Levels) → v ≡ base → Ready s.elements 0 v (record { row = 0; leaf = 0 }) room
    root_ready room fits v e =
        let few = tree.1.few in
        let low = height_few tree.0.under in
        record {
          root = rooted;
          fits = omega (arith, root_many);
          few = omega (arith, root_many);
          rep_low = omega (arith, root_many, ap (λ (l : Levels). l.rep) e);
          def_low = omega (arith, root_many, ap (λ (l : Levels). l.def) e);
        }

    -- what it gives is what the walk gives
    module _ (h : Forest HintRow) (l : Lists hint_span h s.hints) where
      abbrev walked : Result (Forest Full) Refusal
      walked = walk_under s.text h (in_flags s.flags) (shown_tree s.names tree.0)

      root_outcome : (seat : Seat) → seat.levels ≡ base → seat.null_above ≡ false
          → gives_as s (Ok own) 0 0 seat (root_told (hints_of s.text 0 h)) tree.0.root tree.0.under ≡ lined_result walked
      root_outcome seat lv na =
          let hints : Forest Hint = hints_of s.text 0 h in
          let x : Numbered = label s.names 0 0 tree.0.root in
          let below : Forest Numbered = kids s.names 0 0 tree.0.under in
          let typing : Typing = leaf_typing (listing h) s.text in
          let read : Forest Read = hinting false bare hints (reading as_root nobody (plant x below bare)) in
          let chosen : ℕ → Bool = in_flags s.flags in
          let typings : typing_of s.hints s.text ≡ typing =
          typing_same s.hints s.text ∙ ap {B = Typing} (λ (rows : List HintRow). leaf_typing rows s.text) (sym l.lists) in
          ap₂ (λ (v : Levels) (b : Bool). outcome (typing_of s.hints s.text) chosen v b (told_tree (root_told hints) (Ok own) x below)) lv na
          ∙ ap₂ (λ (t : Typing) (f : Forest Read). outcome t chosen base false f) typings (sym (root_read hints x below (root_plain bytes tree.0.root tree.1.root)))
          ∙ lined (refusals typing chosen read) (relabel (full_of typing) (shape chosen base false read))

-- ── At the front of the table ──

module _ (names : List ℕ) (after : List ResultRow) where
  front_done : (w : Result (Forest Full) Refusal) (next : ℕ) (before : List ResultRow) (p : Cursor) → Wrote names (lined_result w) 0 next before after p → Front names w after (Ok p.row)
  front_done (Ok f) next before p q =
      let same : lines f ≡ map (line_of names) q.rows = let e = q.is in cc in
      let many : length q.rows ≡ count f = sym (length-map q.rows (line_of names)) ∙ ap length (sym same) ∙ length_lines f in
      let ends : p.row ≡ count f = omega (arith, q.ends) in
      let all : take (count f) after ≡ q.rows = ap (λ (n : ℕ). take n after) (sym ends) ∙ q.kept in
      let long : count f ≤ length after = let z = ap length all in let y = length-take (count f) after in omega arith in
      (ap {B = Result ℕ Refusal} Ok ends, long, ap (map (line_of names)) all ∙ sym same)
  front_done (Err e) next before p q = absurd (let i = q.is in let z : ◌≡◌ {A = ℕ} 0 1 = cc in omega arith)

  front_refused : (w : Result (Forest Full) Refusal) (e : Refusal) → lined_result w ≡ Err e → Front names w after (Err e)
  front_refused (Ok f) e i = absurd cc
  front_refused (Err d) e i = let same : d ≡ e = cc in ap {B = Result ℕ Refusal} Err (sym same)

-- ── The whole walk ──

module _ (s : Input) (seat : Seat) (lv : seat.levels ≡ base) (na : seat.null_above ≡ false)
    (seats : (h : Forest HintRow) → Lists hint_span h s.hints → Seats s seat (root_told (hints_of s.text 0 h))) (before after : List ResultRow) where
  pub root_hinted : WholeHints s.hints → HasHint s seat.hint
  root_hinted w = (sole (hints_of s.text 0 w.0), (seats w.0 w.1).hint)

  pub root_done : (p : Cursor) → Visits s 0 seat (record { row = 0; leaf = 0 }) before after (Ok p) → Walks s after (Ok p.row)
  root_done p v bytes tree h l =
      let next = next_leaf s.names 0 tree.0.root tree.0.under in
      front_done s.names after (walked s bytes tree h l) next before p
      (subst (λ (o : Outcome). Wrote s.names o 0 next before after p) (root_outcome s bytes tree h l seat lv na)
      (v tree.0.root tree.0.under bare (root_stands s bytes tree) (root_told (hints_of s.text 0 h)) (seats h l)))

  pub root_refused : (e : Refusal) → Visits s 0 seat (record { row = 0; leaf = 0 }) before after (Err e) → Walks s after (Err e)
  root_refused e v bytes tree h l =
      front_refused s.names after (walked s bytes tree h l) e
      (sym (root_outcome s bytes tree h l seat lv na) ∙ v tree.0.root tree.0.under bare (root_stands s bytes tree) (root_told (hints_of s.text 0 h)) (seats h l))
