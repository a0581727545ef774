-- No rows lie below a leaf row; so the leaf rows of the flat result are the ends of the ways.
use Rattle.std.proofs.Common.{◌≡◌, ℕ, Bool, true, false, ◌&&◌, ◌||◌, List, [], ◌∷◌, sym, refl, ap, ◌∙◌, subst, ap₂, append-nil, Ok, Err, Result}
use Rattle.std.proofs.lemmas.Bool.{false≢true}
use Rattle.walk.proofs.Follow.{Groups, groups_of, made_leaf}
use Rattle.walk.proofs.Lists.{Ends, sides_either}
use Rattle.walk.specs.Forests.{beside, over, planted}
use Rattle.walk.specs.Laws.{YieldsRows}
use Rattle.walk.specs.Reading.{Read}
use Rattle.walk.specs.Shape.{Items, Made, base, both_sides, element_rows, group_rows, has_own, items_of, leaf_part, passes_null, raised, read, rows, shape, wrap}
use Rattle.walk.specs.Shape.Items.{of_list}
use Rattle.walk.specs.Yields.{both_yield, some_yield, yields_by}
use Rattle.walk.specs.declared.levels.Levels.{Levels}
use Rattle.schema.specs.declared.refusal.Refusal.{Refusal}
use Rattle.walk.specs.declared.role.Role.{Role}
use Rattle.walk.specs.declared.role.Role.TheVariants.{Entries as entries, Listed as listed, Mapped as mapped, Middle as middle, Own as own}
use Rattle.schema.specs.Words.{Spelled}
use Rattle.schema.specs.declared.basic.Repetition.{Repetition}
use Rattle.schema.specs.declared.element.Kind.{Kind}
use Rattle.schema.specs.declared.element.Kind.TheVariants.{Group as group, Leaf as leaf}
use Rattle.tree.specs.Forest.{Forest, Tree}
use Rattle.tree.specs.Forest.Forest.{bare, plant}

-- ── What yields ──

planted_beside : (f g : Forest Made) → planted (beside f g) ≡ (planted f || planted g)
planted_beside bare g = refl
planted_beside (plant r below after) g = refl

planted_over : (rs : List Made) (f : Forest Made) → planted (over rs f) ≡ planted f
planted_over rs bare = refl
planted_over [] (plant r below after) = refl
planted_over (q ∷ rs) (plant r below after) = refl

planted_leaf : (c : Bool) (x : Read) (r : Repetition) (v : Levels) → planted (leaf_part c x r v) ≡ c
planted_leaf true x r v = refl
planted_leaf false x r v = refl

planted_both : (b : Bool) (f : Forest Made) → planted (both_sides (Ok mapped) b f) ≡ (b && planted f)
planted_both true f = refl
planted_both false f = refl

module _ (chosen : ℕ → Bool) where
  planted_element : (k : Kind) (x : Read) (role : Result Role Refusal) (r : Repetition) (v : Levels) (p both some : Bool) (inner : Forest Made)
      → planted inner ≡ some
      → planted (element_rows chosen k x role r v p both inner) ≡ yields_by chosen k role x.of.leaf_number some both
  planted_element (leaf c) x role r v p both some inner e =
      planted_over (wrap x of_list r v p) (leaf_part (chosen x.of.leaf_number) x r v) ∙ planted_leaf (chosen x.of.leaf_number) x r v
  planted_element (group n) x (Ok own) r v p both some inner e = planted_over (group_rows x of_list true r v p) inner ∙ e
  planted_element (group n) x (Ok listed) r v p both some inner e = planted_over (group_rows x of_list false r v p) inner ∙ e
  planted_element (group n) x (Ok middle) r v p both some inner e = planted_over (group_rows x of_list false r v p) inner ∙ e
  planted_element (group n) x (Ok entries) r v p both some inner e = planted_over (group_rows x (items_of (Ok entries)) false r v p) inner ∙ e
  planted_element (group n) x (Err m) r v p both some inner e = planted_over (group_rows x of_list true r v p) inner ∙ e
  planted_element (group n) x (Ok mapped) r v p both some inner e =
      planted_over (group_rows x of_list false r v p) (both_sides (Ok mapped) both inner) ∙ planted_both both inner ∙ ap (λ (b : Bool). both && b) e

pub yields_rows : YieldsRows
unfolding shape
yields_rows chosen v p bare = refl
yields_rows chosen v p (plant x below after) =
    let r = x.of.repetition in
    let o = passes_null (has_own x.role) r in
    planted_beside
    (element_rows chosen x.of.kind x x.role r (raised v r) p (both_yield chosen below) (shape chosen (raised v r) o below))
    (shape chosen v p after)
    ∙ ap₂ (λ (a b : Bool). a || b)
    (planted_element chosen x.of.kind x x.role r (raised v r) p (both_yield chosen below) (some_yield chosen below)
    (shape chosen (raised v r) o below) (yields_rows chosen (raised v r) o below))
    (yields_rows chosen v p after)

-- ── Leaf rows in the flat result ──

abbrev pub Tidy : Forest Made → Type 0
Tidy f = Ends made_leaf f

tidy_beside : (f g : Forest Made) → Tidy f → Tidy g → Tidy (beside f g)
tidy_beside bare g a b = b
tidy_beside (plant r below after) g a b = (a.0, a.1, tidy_beside after g a.2 b)

tidy_over : (rs : List Made) → Groups rs → (f : Forest Made) → Tidy f → Tidy (over rs f)
tidy_over rs g bare t = tt
tidy_over [] g (plant r below after) t = t
tidy_over (q ∷ rs) g (plant r below after) t = ((λ e. absurd (false≢true (sym g.0 ∙ e))), tidy_over rs g.1 (plant r below after) t, tt)

tidy_leaf : (c : Bool) (x : Read) (r : Repetition) (v : Levels) → Tidy (leaf_part c x r v)
tidy_leaf true x r v = ((λ _. refl), tt, tt)
tidy_leaf false x r v = tt

groups_wrap : (x : Read) (i : Items) (r : Repetition) (v : Levels) (p : Bool) → Groups (wrap x i r v p)
groups_wrap x i r v p = subst Groups (append-nil (wrap x i r v p)) (groups_of x i false r v p)

module _ (chosen : ℕ → Bool) where
  tidy_element : (k : Kind) (x : Read) (role : Result Role Refusal) (r : Repetition) (v : Levels) (p both : Bool) (inner : Forest Made)
      → Tidy inner → Tidy (element_rows chosen k x role r v p both inner)
  tidy_element (leaf c) x role r v p both inner t =
      tidy_over (wrap x of_list r v p) (groups_wrap x of_list r v p) (leaf_part (chosen x.of.leaf_number) x r v) (tidy_leaf (chosen x.of.leaf_number) x r v)
  tidy_element (group n) x role r v p both inner t =
      tidy_over (group_rows x (items_of role) (has_own role) r v p) (groups_of x (items_of role) (has_own role) r v p)
      (both_sides role both inner) (sides_either Tidy role both inner t tt)

  tidy : (f : Forest Read) (v : Levels) (p : Bool) → Tidy (shape chosen v p f)
  unfolding shape
  tidy bare v p = tt
  tidy (plant x below after) v p =
      let r = x.of.repetition in
      let o = passes_null (has_own x.role) r in
      tidy_beside
      (element_rows chosen x.of.kind x x.role r (raised v r) p (both_yield chosen below) (shape chosen (raised v r) o below))
      (shape chosen v p after)
      (tidy_element x.of.kind x x.role r (raised v r) p (both_yield chosen below) (shape chosen (raised v r) o below)
      (tidy below (raised v r) o))
      (tidy after v p)

pub tidy_rows : (chosen : ℕ → Bool) (t : Tree Spelled) → Tidy (rows chosen t)
tidy_rows chosen t = tidy chosen (read t) base false
