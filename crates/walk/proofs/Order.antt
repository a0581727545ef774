-- No row's repetition level is above its definition level; and the elements that are read are the schema's.
use Rattle.std.proofs.Common.{◌≡◌, ℕ, suc, ◌+◌, ◌*◌, ◌≤◌, Bool, true, false, List, [], ◌∷◌, length, None, ap, arith, length-append, Result}
use Rattle.std.specs.List.{AllByRecursion}
use Rattle.walk.proofs.Lists.{all_append, all_back, all_front, count_plant, sides_either}
use Rattle.walk.proofs.Numbers.{count_numbered, count_reading, height_numbered, height_reading}
use Rattle.walk.specs.Forests.{beside, height, over}
use Rattle.walk.specs.Hints.{nothing}
use Rattle.walk.specs.Labels.{numbered, numbered_as, or_required}
use Rattle.walk.specs.Laws.{Low}
use Rattle.walk.specs.Reading.{Read, child_part, nobody, reading, role_of}
use Rattle.walk.specs.Reading.Part.{as_root}
use Rattle.walk.specs.Shape.{Items, Made, base, both_sides, element_rows, group_rows, has_own, items_of, leaf_part, passes_null, raised, read, rows, shape, struct_part, wrap}
use Rattle.walk.specs.Shape.Items.{of_list}
use Rattle.walk.specs.Yields.{both_yield}
use Rattle.walk.specs.declared.levels.Levels.{Levels}
use Rattle.schema.specs.declared.refusal.Refusal.{Refusal}
use Rattle.walk.specs.declared.role.Role.{Role}
use Rattle.schema.specs.Words.{Spelled}
use Rattle.schema.specs.declared.basic.Repetition.{Repetition}
use Rattle.schema.specs.declared.basic.Repetition.TheVariants.{Optional as optional, Repeated as repeated, Required as required}
use Rattle.schema.specs.declared.element.Kind.{Kind}
use Rattle.schema.specs.declared.element.Kind.TheVariants.{Group as group, Leaf as leaf}
use Rattle.tree.specs.Forest.{Forest, Tree, alone, count, listing}
use Rattle.tree.specs.Forest.Forest.{bare, plant}

abbrev pub Lows : ℕ → Made → Type 0
Lows most r = Low most r.row

module _ (most : ℕ) where
  abbrev AllLow : Forest Made → Type 0
  AllLow f = AllByRecursion (Lows most) (listing f)

  each_beside : (f g : Forest Made) → AllLow f → AllLow g → AllLow (beside f g)
  each_beside bare g a b = b
  each_beside (plant r below after) g a b = (
    a.0,
    all_append (Lows most) (listing below) (listing (beside after g)) (all_front (Lows most) (listing below) (listing after) a.1)
        (each_beside after g (all_back (Lows most) (listing below) (listing after) a.1) b),
  )

  each_over : (rs : List Made) (f : Forest Made) → AllByRecursion (Lows most) rs → AllLow f → AllLow (over rs f)
  each_over rs bare a b = tt
  each_over [] (plant x below after) a b = b
  each_over (r ∷ rs) (plant x below after) a b =
      (a.0, all_append (Lows most) (listing (over rs (plant x below after))) [] (each_over rs (plant x below after) a.1 b) tt)

  abbrev In : Levels → Type 0
  In v = (v.rep ≤ v.def) × (v.def ≤ most)

  each_wrap : (x : Read) (i : Items) (r : Repetition) (v : Levels) (p : Bool) → In v → AllByRecursion (Lows most) (wrap x i r v p)
  each_wrap x i required v p h = tt
  each_wrap x i optional v p h = tt
  each_wrap x i repeated v p h = (h, tt)

  each_struct : (x : Read) (o : Bool) (r : Repetition) (v : Levels) → In v → AllByRecursion (Lows most) (struct_part x o r v)
  each_struct x false r v h = tt
  each_struct x true r v h = (h, tt)

  each_leaf : (c : Bool) (x : Read) (r : Repetition) (v : Levels) → In v → AllLow (leaf_part c x r v)
  each_leaf true x r v h = (h, tt)
  each_leaf false x r v h = tt

  module _ (chosen : ℕ → Bool) where
    each_element : (k : Kind) (x : Read) (role : Result Role Refusal) (r : Repetition) (v : Levels) (p both : Bool) (inner : Forest Made)
        → In v → AllLow inner → AllLow (element_rows chosen k x role r v p both inner)
    each_element (leaf c) x role r v p both inner h a =
        each_over (wrap x of_list r v p) (leaf_part (chosen x.of.leaf_number) x r v) (each_wrap x of_list r v p h) (each_leaf (chosen x.of.leaf_number) x r v h)
    each_element (group n) x role r v p both inner h a =
        each_over (group_rows x (items_of role) (has_own role) r v p) (both_sides role both inner)
        (all_append (Lows most) (wrap x (items_of role) r v p) (struct_part x (has_own role) r v) (each_wrap x (items_of role) r v p h) (each_struct x (has_own role) r v h))
        (sides_either AllLow role both inner a tt)

low_raised : (v : Levels) (r : Repetition) → v.rep ≤ v.def → ((raised v r).rep ≤ (raised v r).def) × ((raised v r).def ≤ suc v.def)
low_raised v required h = (h, omega arith)
low_raised v optional h = (omega arith, omega arith)
low_raised v repeated h = (omega arith, omega arith)

module _ (most : ℕ) (chosen : ℕ → Bool) where
  ordered : (f : Forest Read) (v : Levels) (p : Bool) → v.rep ≤ v.def → v.def + height f ≤ most → AllLow most (shape chosen v p f)
  unfolding shape
  ordered bare v p h k = tt
  ordered (plant x below after) v p h k =
      let r = x.of.repetition in
      let o = passes_null (has_own x.role) r in
      let l = low_raised v r h in
      each_beside most
      (element_rows chosen x.of.kind x x.role r (raised v r) p (both_yield chosen below) (shape chosen (raised v r) o below))
      (shape chosen v p after)
      (each_element most chosen x.of.kind x x.role r (raised v r) p (both_yield chosen below) (shape chosen (raised v r) o below)
      (l.0, omega arith) (ordered below (raised v r) o l.0 (omega arith)))
      (ordered after v p h (omega arith))

-- the root, which is required, adds to no level
ordered_root : (most : ℕ) (chosen : ℕ → Bool) (x : Read) (below : Forest Read) (v : Levels) (p : Bool) → x.of.repetition ≡ required
    → v.rep ≤ v.def → v.def + height below ≤ most → AllLow most (shape chosen v p (plant x below bare))
unfolding shape
ordered_root most chosen x below v p e h k =
    let r = x.of.repetition in
    let o = passes_null (has_own x.role) r in
    let same : raised v r ≡ v = ap (raised v) e in
    let reps : (raised v r).rep ≡ v.rep = ap (λ (w : Levels). w.rep) same in
    let defs : (raised v r).def ≡ v.def = ap (λ (w : Levels). w.def) same in
    each_beside most
    (element_rows chosen x.of.kind x x.role r (raised v r) p (both_yield chosen below) (shape chosen (raised v r) o below))
    bare
    (each_element most chosen x.of.kind x x.role r (raised v r) p (both_yield chosen below) (shape chosen (raised v r) o below)
    (omega arith, omega arith) (ordered most chosen below (raised v r) o (omega arith) (omega arith)))
    tt

-- ── How many rows ──

count_beside : (f g : Forest Made) → count (beside f g) ≡ count f + count g
count_beside bare g = omega arith
count_beside (plant r below after) g = omega (arith, count_plant r below (beside after g), count_plant r below after, count_beside after g)

count_over : (rs : List Made) (f : Forest Made) → count (over rs f) ≤ length rs + count f
count_over rs bare = omega arith
count_over [] (plant r below after) = omega arith
count_over (q ∷ rs) (plant r below after) =
    omega (arith, count_plant q (over rs (plant r below after)) bare, count_over rs (plant r below after))

few_wrap : (x : Read) (i : Items) (r : Repetition) (v : Levels) (p : Bool) → length (wrap x i r v p) ≤ 1
few_wrap x i required v p = omega arith
few_wrap x i optional v p = omega arith
few_wrap x i repeated v p = omega arith

few_group : (x : Read) (i : Items) (o : Bool) (r : Repetition) (v : Levels) (p : Bool) → length (group_rows x i o r v p) ≤ 2
few_group x i true r v p = omega (arith, length-append (wrap x i r v p) (struct_part x true r v), few_wrap x i r v p)
few_group x i false r v p = omega (arith, length-append (wrap x i r v p) [], few_wrap x i r v p)

few_leaf : (c : Bool) (x : Read) (r : Repetition) (v : Levels) → count (leaf_part c x r v) ≤ 1
few_leaf true x r v = omega arith
few_leaf false x r v = omega arith

module _ (chosen : ℕ → Bool) where
  few_element : (k : Kind) (x : Read) (role : Result Role Refusal) (r : Repetition) (v : Levels) (p both : Bool) (inner : Forest Made)
      → count (element_rows chosen k x role r v p both inner) ≤ 2 + count inner
  few_element (leaf c) x role r v p both inner =
      omega (arith, count_over (wrap x of_list r v p) (leaf_part (chosen x.of.leaf_number) x r v), few_wrap x of_list r v p, few_leaf (chosen x.of.leaf_number) x r v)
  few_element (group n) x role r v p both inner =
      omega (
        arith,
        count_over (group_rows x (items_of role) (has_own role) r v p) (both_sides role both inner),
        few_group x (items_of role) (has_own role) r v p,
        sides_either (λ (f : Forest Made). count f ≤ count inner) role both inner (omega arith) (omega arith),
      )

  pub few : (f : Forest Read) (v : Levels) (p : Bool) → count (shape chosen v p f) ≤ 2 * count f
  unfolding shape
  few bare v p = omega arith
  few (plant x below after) v p =
      let r = x.of.repetition in
      let o = passes_null (has_own x.role) r in
      let inner = shape chosen (raised v r) o below in
      omega (
        arith,
        count_beside (element_rows chosen x.of.kind x x.role r (raised v r) p (both_yield chosen below) inner) (shape chosen v p after),
        few_element x.of.kind x x.role r (raised v r) p (both_yield chosen below) inner,
        few below (raised v r) o,
        few after v p,
        count_plant x below after,
      )

-- ── The whole schema ──

pub ordered_rows : (chosen : ℕ → Bool) (t : Tree Spelled) → t.root.repetition ≡ None → AllByRecursion (Lows (height t.under)) (listing (rows chosen t))
unfolding reading
ordered_rows chosen t e =
    let f = numbered 1 0 t.under in
    let x = numbered_as 0 0 t.root in
    let part = child_part (role_of as_root x f) x.name f in
    ordered_root (height t.under) chosen (record { of = x; role = role_of as_root x f; part = as_root; holder = nobody; given = nothing })
    (reading part nobody f) base false (ap or_required e) (omega arith)
    (omega (arith, height_reading part nobody f, height_numbered 1 0 t.under))

pub few_rows : (chosen : ℕ → Bool) (t : Tree Spelled) → count (rows chosen t) ≤ 2 * count (alone t)
few_rows chosen t =
    omega (arith, few chosen (read t) base false, count_reading as_root nobody (numbered 0 0 (alone t)), count_numbered 0 0 (alone t))
