-- Levels on flat tables.
use Rattle.std.proofs.Common.{◌≡◌, ℕ, zero, suc, ◌+◌, ◌-◌, ◌<◌, ◌≤◌, Bool, true, false, cond, ltb, List, [], ◌∷◌, ◌++◌, map, length, get_or, Some, None, Option, sym, refl, ap, ◌∙◌, subst, ap₂, append-nil, arith}
use mathlib.Core.List.{map-append}
use Rattle.std.proofs.lemmas.Bool.{cond-true, false≢true}
use Rattle.tree.proofs.Ancestors.{ancestors, holds_yes}
use Rattle.columns.proofs.Paths.{root_size}
use Rattle.arrow.specs.declared.row.LeafNumbers.{LeafNumbers}
use Rattle.columns.specs.Levels.{def_level, may_miss, path_of, rep_level, repeats, row_at}
use Rattle.walk.proofs.Bounds.{no_repetition}
use Rattle.walk.proofs.Flats.{among_map, here_label, label_at, leads, line_trail, partner, placed, trail, trail_relabel}
use Rattle.walk.proofs.Follow.{Sum}
use Rattle.walk.proofs.Hinted.{plain_shape}
use Rattle.walk.proofs.Lists.{Ends, count_relabel, map_twice}
use Rattle.walk.proofs.Main.{each_pair, levels_are, opens_each, reads_each}
use Rattle.walk.proofs.Numbers.{count_numbered, numbered_in_order, relabel_numbered}
use Rattle.walk.proofs.Once.{kept_among}
use Rattle.walk.proofs.Tidy.{Tidy, tidy_rows}
use Rattle.walk.specs.Flat.{LevelsRead, SizedRow, blank_row, path_repetitions, result_at, size_of, table_of, way_of, with_sizes}
use Rattle.walk.specs.Forests.{Spot, Way, along, on_way, relabel, ways}
use Rattle.walk.specs.Labels.{Numbered, is_repeated, numbered, numbered_as, or_required, shown_tree}
use Rattle.walk.specs.Laws.{FlatLevels, Paired, RowsLieFlat, full_row, kept_leaves, unnumbered}
use Rattle.walk.specs.Levels.{Among, Belongs, Meaning, OpensEach, OpensOnce, ReadsEach, ReadsOnce, Repeats, Says, definition_level, is_leaf_row, kept_leaf, leaf_row_at, leaf_row_of, leaves, path, repetition_level, row_leaf, spot_repetition}
use Rattle.walk.specs.Reading.{Read}
use Rattle.walk.specs.Shape.{Made, Row, made_row, plain_rows, rows}
use Rattle.walk.specs.Shape.RowKind.{leaf_row}
use Rattle.schema.specs.Elements.{element_span, empty}
use Rattle.schema.specs.Posts.{shown_as}
use Rattle.schema.specs.Rows.{IsFinished}
use Rattle.schema.specs.Words.{Spelled}
use Rattle.schema.specs.declared.basic.Repetition.{Repetition}
use Rattle.schema.specs.declared.basic.Repetition.TheVariants.{Optional as optional, Repeated as repeated, Required as required}
use Rattle.schema.specs.declared.element.Element.{Element}
use Rattle.tree.specs.Around.{around, holds_place, line}
use Rattle.tree.specs.Forest.{Forest, Sized, Tree, alone, count, listing}
use Rattle.tree.specs.Forest.Forest.{bare, plant}

-- ── Rows with their sizes ──

abbrev bare_row : SizedRow → Row
bare_row r = r.row

rows_same : (f : Forest Row) → relabel bare_row (with_sizes f) ≡ f
rows_same bare = refl
rows_same (plant r below after) = λ i. plant r (rows_same below i) (rows_same after i)

count_sizes : (f : Forest Row) → count (with_sizes f) ≡ count f
count_sizes f = sym (count_relabel bare_row (with_sizes f)) ∙ ap count (rows_same f)

true_sizes : (f : Forest Row) → Sized size_of (with_sizes f)
true_sizes bare = tt
true_sizes (plant r below after) = (ap suc (sym (count_sizes below)), true_sizes below, true_sizes after)

pub rows_lie_flat : RowsLieFlat
rows_lie_flat f = record { lists = refl; sized = true_sizes f }

label_relabel : {A B : Type 0} (g : A → B) (d : A) (f : Forest A) (i : ℕ) → label_at (g d) (relabel g f) i ≡ g (label_at d f i)
label_relabel g d bare i = refl
label_relabel g d (plant a below after) zero = refl
label_relabel {A} {B} g d (plant a below after) (suc i) =
    ap (λ (m : ℕ). cond (ltb i m) (label_at (g d) (relabel g below) i) (label_at (g d) (relabel g after) (i - m))) (count_relabel g below)
    ∙ go (ltb i (count below)) (label_relabel g d below i) (label_relabel g d after (i - count below))
  where
    go : (b : Bool) → label_at (g d) (relabel g below) i ≡ g (label_at d below i) → label_at (g d) (relabel g after) (i - count below) ≡ g (label_at d after (i - count below))
        → cond b (label_at (g d) (relabel g below) i) (label_at (g d) (relabel g after) (i - count below)) ≡ g (cond b (label_at d below i) (label_at d after (i - count below)))
    go true p q = p
    go false p q = q

module _ (f : Forest Row) (q : ℕ) (h : q < count f) where
  abbrev table : List SizedRow
  table = table_of f

  way_trail : way_of table q ≡ trail f q
  way_trail =
      let sizes = with_sizes f in
      let fits : q < count sizes = omega (arith, count_sizes f) in
      ap (map (result_at table)) (ancestors size_of sizes table (rows_lie_flat f) q fits)
      ∙ sym (map_twice bare_row (λ i. get_or table i blank_row) (result_at table) (λ i. refl) (line sizes q))
      ∙ ap (map bare_row) (line_trail table blank_row sizes 0 [] (sym (append-nil (listing sizes))) q fits)
      ∙ sym (trail_relabel bare_row sizes q)
      ∙ ap (λ (g : Forest Row). trail g q) (rows_same f)

  row_label : result_at table q ≡ label_at blank_row.row f q
  row_label =
      let sizes = with_sizes f in
      let fits : q < count sizes = omega (arith, count_sizes f) in
      ap bare_row (ap (λ (n : ℕ). get_or table n blank_row) (let z : q ≡ 0 + q = omega arith in z) ∙ here_label table blank_row sizes 0 [] (sym (append-nil (listing sizes))) q fits)
      ∙ sym (label_relabel bare_row blank_row sizes q)
      ∙ ap (λ (g : Forest Row). label_at blank_row.row g q) (rows_same f)

-- ── Paths ──

level_counts : (elements : List Element) (is : List ℕ)
    → (rep_level elements is ≡ repetition_level (map (λ i. or_required (row_at elements i).repetition) is))
    × (def_level elements is ≡ definition_level (map (λ i. or_required (row_at elements i).repetition) is))
level_counts elements [] = (refl, refl)
level_counts elements (i ∷ is) = go (row_at elements i).repetition (level_counts elements is)
  where
    rs : List Repetition
    rs = map (λ i. or_required (row_at elements i).repetition) is

    go : (o : Option Repetition)
        → (rep_level elements is ≡ repetition_level (map (λ i. or_required (row_at elements i).repetition) is))
        × (def_level elements is ≡ definition_level (map (λ i. or_required (row_at elements i).repetition) is))
        → (cond (repeats o) 1 0 + rep_level elements is ≡ repetition_level (or_required o ∷ map (λ i. or_required (row_at elements i).repetition) is))
        × (cond (may_miss o) 1 0 + def_level elements is ≡ definition_level (or_required o ∷ map (λ i. or_required (row_at elements i).repetition) is))
    go None p = (omega (arith, p.0), omega (arith, p.1))
    go (Some required) p = (omega (arith, p.0), omega (arith, p.1))
    go (Some optional) p = (omega (arith, p.0), omega (arith, p.1))
    go (Some repeated) p = (omega (arith, p.0), omega (arith, p.1))

-- the root, which counts as required, is left out
belongs_tail : (rs : List Repetition) (d : ℕ) (m : Meaning) → Belongs (required ∷ rs) d m → Belongs rs d m
belongs_tail rs d m b = go b.before b.splits b.level
  where
    go : (before : List Repetition) → required ∷ rs ≡ before ++ b.here ∷ b.after → definition_level before ≡ d → Belongs rs d m
    go [] e l = let same : b.here ≡ required = cc in absurd (subst (λ (r : Repetition). Says r m) same b.says)
    go (r ∷ before) e l =
        let same : r ≡ required = cc in
        let rest : rs ≡ before ++ b.here ∷ b.after = cc in
        record {
          before = before;
          here = b.here;
          after = b.after;
          splits = rest;
          level = ap (λ (z : Repetition). definition_level (z ∷ before)) (sym same) ∙ l;
          says = b.says;
        }

repeats_tail : (rs : List Repetition) (r d : ℕ) → Repeats (required ∷ rs) r d → Repeats rs r d
repeats_tail rs r d b = go b.before b.splits b.level b.stands
  where
    go : (before : List Repetition) → required ∷ rs ≡ before ++ repeated ∷ b.after → suc (repetition_level before) ≡ r → suc (definition_level before) ≡ d → Repeats rs r d
    go [] e l s = let same : required ≡ repeated = cc in absurd (false≢true (ap is_repeated same))
    go (q ∷ before) e l s =
        let same : q ≡ required = cc in
        let rest : rs ≡ before ++ repeated ∷ b.after = cc in
        record {
          before = before;
          after = b.after;
          splits = rest;
          level = ap (λ (z : Repetition). suc (repetition_level (z ∷ before))) (sym same) ∙ l;
          stands = ap (λ (z : Repetition). suc (definition_level (z ∷ before))) (sym same) ∙ s;
        }

abbrev element_repetition : Element → Repetition
element_repetition e = or_required e.repetition

-- the repetitions on the way down to an element, in the tree of labels and in the tree of the table's rows
labels_trail : (names : List ℕ) (f : Forest Element) (e : ℕ)
    → map (λ (x : Numbered). x.repetition) (trail (numbered 0 0 (relabel (shown_as names) f)) e) ≡ map element_repetition (trail f e)
labels_trail names f e =
    let s = relabel (shown_as names) f in
    let rep : Numbered → Repetition = λ x. x.repetition in
    sym (map_twice rep unnumbered rep (λ x. refl) (trail (numbered 0 0 s) e))
    ∙ ap (map rep) (sym (trail_relabel unnumbered (numbered 0 0 s) e) ∙ ap (λ (g : Forest Numbered). trail g e) (relabel_numbered 0 0 s) ∙ trail_relabel (numbered_as 0 0) s e)
    ∙ map_twice rep (numbered_as 0 0) (λ (x : Spelled). or_required x.repetition) (λ x. refl) (trail s e)
    ∙ ap (map (λ (x : Spelled). or_required x.repetition)) (trail_relabel (shown_as names) f e)
    ∙ map_twice (λ (x : Spelled). or_required x.repetition) (shown_as names) element_repetition (λ x. refl) (trail f e)

module _ (bytes : ℕ) (elements : List Element) (fin : IsFinished bytes elements) (e : ℕ) (h : e < length elements) where
  around_path : around element_span elements e ≡ 0 ∷ path_of elements e
  around_path = cond-true (holds_place element_span elements 0 e) _ _ (holds_yes element_span elements 0 e (omega arith) (omega (arith, h, root_size bytes elements fin)))

  root_row : or_required (row_at elements 0).repetition ≡ required
  root_row =
      ap (λ (l : List Element). or_required (get_or l 0 empty).repetition) (sym fin.2.lists)
      ∙ ap or_required (no_repetition bytes fin.0.root fin.1.root)

  path_trail : map element_repetition (trail (alone fin.0) e) ≡ required ∷ path_repetitions elements e
  path_trail =
      let f = alone fin.0 in
      let fits : e < count f = omega (arith, h, ap length fin.2.lists) in
      ap (map element_repetition) (sym (line_trail elements empty f 0 [] (sym fin.2.lists ∙ sym (append-nil (listing f))) e fits))
      ∙ map_twice element_repetition (row_at elements) (λ i. or_required (row_at elements i).repetition) (λ i. refl) (line f e)
      ∙ ap (map (λ i. or_required (row_at elements i).repetition)) (sym (ancestors element_span f elements fin.2 e h) ∙ around_path)
      ∙ ap {B = List Repetition} (λ (r : Repetition). r ∷ path_repetitions elements e) root_row

-- ── One leaf row ──

-- what is known of a leaf row's way and a leaf's path
abbrev Agrees : Way Row → Way (Spot Read) → Type 0
Agrees w q = (w.end ≡ leaf_row_of q) × ReadsEach w q × OpensEach w q

agrees : (chosen : ℕ → Bool) (t : Tree Spelled) → Paired Agrees (ways row_leaf (plain_rows chosen t)) (kept_leaves chosen t)
agrees =
    each_pair Agrees (λ w q e. (
      ap (λ (s : Sum). s.row) e ∙ ap (leaf_row_at q.end.node.of) (levels_are (path q)),
      reads_each w q e,
      opens_each w q e,
    ))

ends_rows : (f : Forest Made) → Tidy f → Ends row_leaf (relabel made_row f)
ends_rows bare t = tt
ends_rows (plant r below after) t = ((λ e. ap (relabel made_row) (t.0 e)), ends_rows below t.1, ends_rows after t.2)

-- a leaf's path in the tree is its path in the table, below the root
leaf_path : (names : List ℕ) (bytes : ℕ) (elements : List Element) (fin : IsFinished bytes elements) (p : Way (Spot Read)) → Among p (leaves (shown_tree names fin.0))
    → (p.end.node.of.number < length elements) × (path p ≡ required ∷ path_repetitions elements p.end.node.of.number)
leaf_path names bytes elements fin p a =
    let t = shown_tree names fin.0 in
    let n = p.end.node.of.number in
    let of : Spot Read → Numbered = λ s. s.node.of in
    let w = on_way of p in
    let r = placed 0 0 (alone t) w (subst (λ (ws : List (Way Numbered)). Among w ws) (numbered_in_order t).paths (among_map (on_way of) p (leaves t) a)) in
    let fits : n < length elements =
    omega (arith, r.high, count_numbered 0 0 (alone t), count_relabel (shown_as names) (alone fin.0), ap length fin.2.lists) in
    let rep : Numbered → Repetition = λ x. x.repetition in (
      fits,
      sym (map_twice rep of spot_repetition (λ s. refl) (along p))
          ∙ ap (map rep) (map-append of p.above (p.end ∷ []) ∙ r.goes ∙ ap (trail (numbered 0 0 (alone t))) (let z : n - 0 ≡ n = omega arith in z))
          ∙ labels_trail names (alone fin.0) n
          ∙ path_trail bytes elements fin n fits,
    )

module _ (chosen : ℕ → Bool) (names : List ℕ) (bytes : ℕ) (elements : List Element) (fin : IsFinished bytes elements) where
  abbrev shown : Tree Spelled
  shown = shown_tree names fin.0

  abbrev plain : Forest Row
  plain = plain_rows chosen shown

  read_levels : (q : ℕ) (n : LeafNumbers) → q < count plain → (result_at (table_of plain) q).kind ≡ leaf_row n → LevelsRead elements (table_of plain) q n.element
  read_levels q n h k =
      let label = row_label plain q h in
      let on = leads row_leaf blank_row.row plain (ends_rows (rows chosen shown) (tidy_rows chosen shown)) q h (ap row_leaf (sym label) ∙ ap is_leaf_row k) in
      let found = partner Agrees (ways row_leaf plain) (kept_leaves chosen shown) (agrees chosen shown) on.way on.among in
      let p = found.0 in
      let facts = found.1.1 in
      let row : result_at (table_of plain) q ≡ leaf_row_of p = label ∙ sym on.ends ∙ facts.0 in
      let at = leaf_path names bytes elements fin p (kept_among (kept_leaf chosen) p (leaves shown) found.1.0) in
      let kinds : leaf_row (record { element = p.end.node.of.number; leaf = p.end.node.of.leaf_number }) ≡ leaf_row n = ap (λ (r : Row). r.kind) (sym row) ∙ k in
      let same : p.end.node.of.number ≡ n.element = number_same n p.end.node.of.number p.end.node.of.leaf_number kinds in
      let e = p.end.node.of.number in
      let levels = level_counts elements (path_of elements e) in
      let here : along on.way ≡ way_of (table_of plain) q = on.goes ∙ sym (way_trail plain q h) in
      let reps : repetition_level (path p) ≡ rep_level elements (path_of elements e) = ap repetition_level at.1 ∙ sym levels.0 in
      let defs : definition_level (path p) ≡ def_level elements (path_of elements e) = ap definition_level at.1 ∙ sym levels.1 in
      subst (λ (m : ℕ). LevelsRead elements (table_of plain) q m) same
      (record {
        highest_levels = ap (λ (r : Row). r.levels) row ∙ ap₂ (λ (a b : ℕ). record { rep = a; def = b }) reps defs;
        reads_each = λ d lt.
            let r = facts.1 d (subst (λ (m : ℕ). d < m) (sym defs) lt) in (
              r.0,
              belongs_tail (path_repetitions elements e) d r.0 (subst (λ (rs : List Repetition). Belongs rs d r.0) at.1 r.1),
              subst (λ (rs : List Row). ReadsOnce rs d r.0) here r.2,
            );
        opens_each = λ l lo hi.
            let r = facts.2 l lo (subst (λ (m : ℕ). l ≤ m) (sym reps) hi) in (
              r.0,
              repeats_tail (path_repetitions elements e) l r.0 (subst (λ (rs : List Repetition). Repeats rs l r.0) at.1 r.1),
              subst (λ (rs : List Row). OpensOnce rs l r.0) here r.2,
            );
      })
    where
      number_same : (n : LeafNumbers) (e k : ℕ) → leaf_row (record { element = e; leaf = k }) ≡ leaf_row n → e ≡ n.element
      number_same n e k h = let z : record { element = e; leaf = k } ≡ n = cc in ap (λ (m : LeafNumbers). m.element) z

pub flat_levels : FlatLevels
flat_levels typing chosen hints names bytes elements fin f e q n h k =
    let t = shown_tree names fin.0 in
    let go : (g : Forest Row) → plain_rows chosen t ≡ g → q < count g → (result_at (table_of g) q).kind ≡ leaf_row n → LevelsRead elements (table_of g) q n.element =
    λ g eq. subst (λ (z : Forest Row). q < count z → (result_at (table_of z) q).kind ≡ leaf_row n → LevelsRead elements (table_of z) q n.element) eq (read_levels chosen names bytes elements fin q n) in
    go (relabel full_row f) (plain_shape typing chosen hints t f e) (omega (arith, h, count_relabel full_row f)) k
