-- Hints change no row, Arrow types and metadata aside.
use Rattle.std.proofs.Common.{◌≡◌, ℕ, Bool, true, false, cond, ◌&&◌, ◌||◌, List, [], ◌∷◌, map, Ok, sym, refl, ap, ◌∙◌, subst, ap₂, Err, Result}
use Rattle.schema.specs.Words.{Spelled}
use Rattle.walk.specs.Faults.{Typing}
use Rattle.walk.proofs.Lists.{count_relabel, listing_relabel}
use Rattle.walk.proofs.Main.{leveled}
use Rattle.walk.specs.Forests.{beside, over, relabel}
use Rattle.walk.specs.Handing.{compares_names, field_hint, hands_on, hinting, with_hint, wrapped}
use Rattle.walk.specs.Hints.{Hint, others, sole}
use Rattle.walk.specs.Laws.{HasShape, HintsKeepShape, Leveled, WalkLeveled, full_row, shaped_row}
use Rattle.walk.specs.Reading.{Read}
use Rattle.walk.specs.Shape.{Items, Made, Row, Shaped, base, both_sides, element_rows, group_rows, has_own, items_of, leaf_part, passes_null, plain_rows, raised, read, rows, shape, shaped_of, wrap}
use Rattle.walk.specs.Shape.Items.{of_list, of_map}
use Rattle.walk.specs.Walk.{Full, all_refusals, full_of, full_rows, handed, unless_refused, walk}
use Rattle.walk.specs.Yields.{both_yield, every_yield, some_yield, yields_by}
use Rattle.walk.specs.declared.levels.Levels.{Levels}
use Rattle.walk.specs.declared.role.Role.{Role}
use Rattle.walk.specs.declared.role.Role.TheVariants.{Entries as entries, Listed as listed, Mapped as mapped, Middle as middle, Own as own}
use Rattle.schema.specs.declared.basic.Repetition.{Repetition}
use Rattle.schema.specs.declared.basic.Repetition.TheVariants.{Optional as optional, Repeated as repeated, Required as required}
use Rattle.schema.specs.declared.element.Kind.{Kind}
use Rattle.schema.specs.declared.element.Kind.TheVariants.{Group as group, Leaf as leaf}
use Rattle.schema.specs.declared.refusal.Refusal.{Refusal}
use Rattle.tree.specs.Forest.{Forest, Tree, count, listing}
use Rattle.tree.specs.Forest.Forest.{bare, plant}

-- ── Other labels ──

pub relabel_beside : {A B : Type 0} (g : A → B) (x y : Forest A) → relabel g (beside x y) ≡ beside (relabel g x) (relabel g y)
relabel_beside g bare y = refl
relabel_beside g (plant a below after) y = ap (plant (g a) (relabel g below)) (relabel_beside g after y)

pub relabel_over : {A B : Type 0} (g : A → B) (rs : List A) (f : Forest A) → relabel g (over rs f) ≡ over (map g rs) (relabel g f)
relabel_over g rs bare = refl
relabel_over g [] (plant a below after) = refl
relabel_over {A} {B} g (r ∷ rs) (plant a below after) =
    ap (λ (f : Forest B). plant (g r) f bare) (relabel_over g rs (plant a below after))

pub relabel_twice : {A B C : Type 0} (g : B → C) (h : A → B) (f : Forest A) → relabel g (relabel h f) ≡ relabel (λ a. g (h a)) f
relabel_twice g h bare = refl
relabel_twice g h (plant a below after) = λ i. plant (g (h a)) (relabel_twice g h below i) (relabel_twice g h after i)

-- ── Hints change no row, Arrow types and metadata aside ──

module _ (chosen : ℕ → Bool) where
  mutual
    unfolding hinting

    some_same : (n : Bool) (u h : Forest Hint) (f : Forest Read) → some_yield chosen (hinting n u h f) ≡ some_yield chosen f
    some_same n u h bare = refl
    some_same n u h (plant x below after) =
        ap₂ (λ (a b : Bool). a || b)
        (ap₂ (λ (a b : Bool). yields_by chosen x.of.kind x.role x.of.leaf_number a b)
        (some_same (compares_names x.role) (field_hint x.part u (sole h)) (hands_on x.role (wrapped x.part x.of.repetition) (sole h)) below)
        (both_same (compares_names x.role) (field_hint x.part u (sole h)) (hands_on x.role (wrapped x.part x.of.repetition) (sole h)) below))
        (some_same n u (others h) after)

    both_same : (n : Bool) (u h : Forest Hint) (f : Forest Read) → both_yield chosen (hinting n u h f) ≡ both_yield chosen f
    both_same n u h bare = refl
    both_same n u h (plant x below after) =
        every_same (compares_names x.role) (field_hint x.part u (sole h)) (hands_on x.role (wrapped x.part x.of.repetition) (sole h)) below

    every_same : (n : Bool) (u h : Forest Hint) (f : Forest Read) → every_yield chosen (hinting n u h f) ≡ every_yield chosen f
    every_same n u h bare = refl
    every_same n u h (plant x below after) =
        ap₂ (λ (a b : Bool). a && b)
        (ap₂ (λ (a b : Bool). yields_by chosen x.of.kind x.role x.of.leaf_number a b)
        (some_same (compares_names x.role) (field_hint x.part u (sole h)) (hands_on x.role (wrapped x.part x.of.repetition) (sole h)) below)
        (both_same (compares_names x.role) (field_hint x.part u (sole h)) (hands_on x.role (wrapped x.part x.of.repetition) (sole h)) below))
        (every_same n u (others h) after)

  -- one element's rows, of two labels that differ in what is given alone
  module _ (n : Bool) (u h : Forest Hint) (x : Read) (v : Levels) where
    wrap_same : (i : Items) (r : Repetition) (p : Bool) → map shaped_of (wrap (with_hint x n u h) i r v p) ≡ map shaped_of (wrap x i r v p)
    wrap_same i required p = refl
    wrap_same i optional p = refl
    wrap_same of_list repeated p = refl
    wrap_same of_map repeated p = refl

    group_same : (i : Items) (o : Bool) (r : Repetition) (p : Bool) → map shaped_of (group_rows (with_hint x n u h) i o r v p) ≡ map shaped_of (group_rows x i o r v p)
    group_same i true required p = refl
    group_same i true optional p = refl
    group_same of_list true repeated p = refl
    group_same of_map true repeated p = refl
    group_same i false required p = refl
    group_same i false optional p = refl
    group_same of_list false repeated p = refl
    group_same of_map false repeated p = refl

    leaf_same : (c : Bool) (r : Repetition) → relabel shaped_of (leaf_part c (with_hint x n u h) r v) ≡ relabel shaped_of (leaf_part c x r v)
    leaf_same true r = refl
    leaf_same false r = refl

    sides_same : (role : Result Role Refusal) (a b : Bool) (f g : Forest Made) → a ≡ b → relabel shaped_of f ≡ relabel shaped_of g
        → relabel shaped_of (both_sides role a f) ≡ relabel shaped_of (both_sides role b g)
    sides_same (Ok own) a b f g e k = k
    sides_same (Ok listed) a b f g e k = k
    sides_same (Ok middle) a b f g e k = k
    sides_same (Ok entries) a b f g e k = k
    sides_same (Err m) a b f g e k = k
    sides_same (Ok mapped) a b f g e k = ap (λ (c : Bool). relabel shaped_of (cond c f bare)) e ∙ go b
      where
        go : (c : Bool) → relabel shaped_of (cond c f bare) ≡ relabel shaped_of (cond c g bare)
        go true = k
        go false = refl

    element_same : (k : Kind) (role : Result Role Refusal) (r : Repetition) (p a b : Bool) (f g : Forest Made) → a ≡ b → relabel shaped_of f ≡ relabel shaped_of g
        → relabel shaped_of (element_rows chosen k (with_hint x n u h) role r v p a f) ≡ relabel shaped_of (element_rows chosen k x role r v p b g)
    element_same (leaf l) role r p a b f g e k =
        let c = chosen x.of.leaf_number in
        relabel_over shaped_of (wrap (with_hint x n u h) of_list r v p) (leaf_part c (with_hint x n u h) r v)
        ∙ ap₂ (λ (rs : List Shaped) (z : Forest Shaped). over rs z) (wrap_same of_list r p) (leaf_same c r)
        ∙ sym (relabel_over shaped_of (wrap x of_list r v p) (leaf_part c x r v))
    element_same (group an) role r p a b f g e k =
        relabel_over shaped_of (group_rows (with_hint x n u h) (items_of role) (has_own role) r v p) (both_sides role a f)
        ∙ ap₂ (λ (rs : List Shaped) (z : Forest Shaped). over rs z) (group_same (items_of role) (has_own role) r p) (sides_same role a b f g e k)
        ∙ sym (relabel_over shaped_of (group_rows x (items_of role) (has_own role) r v p) (both_sides role b g))

  pub shape_same : (n : Bool) (u h : Forest Hint) (v : Levels) (p : Bool) (f : Forest Read)
      → relabel shaped_of (shape chosen v p (hinting n u h f)) ≡ relabel shaped_of (shape chosen v p f)
  unfolding hinting shape
  shape_same n u h v p bare = refl
  shape_same n u h v p (plant x below after) =
      let r = x.of.repetition in
      let o = passes_null (has_own x.role) r in
      let n' = compares_names x.role in
      let u' = field_hint x.part u (sole h) in
      let h' = hands_on x.role (wrapped x.part r) (sole h) in
      let k = x.of.kind in
      relabel_beside shaped_of
      (element_rows chosen k (with_hint x n u h) x.role r (raised v r) p (both_yield chosen (hinting n' u' h' below)) (shape chosen (raised v r) o (hinting n' u' h' below)))
      (shape chosen v p (hinting n u (others h) after))
      ∙ ap₂ (λ (a b : Forest Shaped). beside a b)
      (element_same n u h x (raised v r) k x.role r p (both_yield chosen (hinting n' u' h' below)) (both_yield chosen below)
      (shape chosen (raised v r) o (hinting n' u' h' below)) (shape chosen (raised v r) o below)
      (both_same n' u' h' below) (shape_same n' u' h' (raised v r) o below))
      (shape_same n u (others h) v p after)
      ∙ sym (relabel_beside shaped_of
      (element_rows chosen k x x.role r (raised v r) p (both_yield chosen below) (shape chosen (raised v r) o below))
      (shape chosen v p after))

-- ── What is accepted ──

pub accepted_rows : {A : Type 0} (rs : List Refusal) (x y : A) → unless_refused rs x ≡ Ok y → x ≡ y
accepted_rows [] x y e = cc
accepted_rows (r ∷ rs) x y e = cc

pub has_shape : HasShape
has_shape typing chosen hints t f e =
    ap (relabel shaped_row) (sym (accepted_rows (all_refusals typing chosen hints t) (full_rows typing chosen hints t) f e))
    ∙ relabel_twice shaped_row (full_of typing) (shape chosen base false (handed hints t))
    ∙ shape_same chosen false bare hints base false (read t)

pub hints_keep_shape : HintsKeepShape
hints_keep_shape one other chosen these those t f g ef eg =
    let same : relabel shaped_row f ≡ relabel shaped_row g = has_shape one chosen these t f ef ∙ sym (has_shape other chosen those t g eg) in
    record {
      trees = same;
      flat = sym (listing_relabel shaped_row f) ∙ ap listing same ∙ listing_relabel shaped_row g;
      counts = sym (count_relabel shaped_row f) ∙ ap count same ∙ count_relabel shaped_row g;
    }

-- so its rows, as levels are read by them, are those of the schema
pub plain_shape : (typing : Typing) (chosen : ℕ → Bool) (hints : Forest Hint) (t : Tree Spelled) (f : Forest Full)
    → walk typing chosen hints t ≡ Ok f → plain_rows chosen t ≡ relabel full_row f
plain_shape typing chosen hints t f e =
    let plain : Shaped → Row = λ s. s.row in
    sym (relabel_twice plain shaped_of (rows chosen t)) ∙ ap (relabel plain) (sym (has_shape typing chosen hints t f e)) ∙ relabel_twice plain shaped_row f

pub walk_leveled : WalkLeveled
walk_leveled typing chosen hints t f e = subst (Leveled chosen t) (plain_shape typing chosen hints t f e) (leveled chosen t)
