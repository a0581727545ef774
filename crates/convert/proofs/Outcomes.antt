-- How the outcome of a forest comes from those of its parts.
use Rattle.std.proofs.Common.{◌≡◌, ℕ, suc, ◌<◌, Bool, true, false, cond, List, [], ◌∷◌, ◌++◌, map, length, Ok, Err, sym, refl, ap, ◌∙◌, append_assoc, append-nil, arith, length-append, Option, Result}
use Rattle.tree.specs.Forest.{Forest, count}
use Rattle.tree.specs.Forest.Forest.{bare, plant}
use Rattle.schema.specs.declared.basic.Annotation.{Annotation}
use Rattle.schema.specs.declared.basic.Repetition.{Repetition}
use Rattle.schema.specs.declared.element.Leaf.{Leaf}
use Rattle.schema.specs.declared.element.Kind.{Kind}
use Rattle.schema.specs.declared.element.Kind.TheVariants.{Leaf as leaf, Group as group}
use Rattle.schema.specs.declared.refusal.Refusal.{Refusal}
use Rattle.walk.specs.Forests.{beside, over, relabel, trees}
use Rattle.walk.specs.Handing.{wrapped}
use Rattle.walk.specs.Faults.{Typing, name_checks, wrap_checks, type_checks, group_checks, own_checks, checks, below_group, refusals, leaf_hint}
use Rattle.walk.specs.Reading.{Read}
use Rattle.walk.specs.Yields.{both_yield}
use Rattle.walk.specs.Shape.{Made, raised, has_own, items_of, wrap, leaf_part, group_rows, passes_null, both_sides, element_rows, shape}
use Rattle.walk.specs.Shape.Items.{of_list}
use Rattle.walk.specs.Walk.{Full, full_of, unless_refused}
use Rattle.walk.specs.declared.role.Role.{Role}
use Rattle.walk.specs.declared.role.Role.TheVariants.{Own as own, Listed as listed, Middle as middle, Mapped as mapped, Entries as entries}
use Rattle.walk.specs.declared.levels.Levels.{Levels}
use Rattle.walk.proofs.Hinted.{relabel_beside, relabel_over}
use Rattle.walk.specs.Results.{Line, lines}
use Rattle.convert.specs.Outcome.{Outcome, outcome, followed, within, within_all, kept_if, checked}
use Rattle.convert.proofs.Trees.{count_plant}

-- ── Rows, flat ──

pub lines_beside : (f g : Forest Full) → lines (beside f g) ≡ lines f ++ lines g
lines_beside bare g = refl
lines_beside (plant r b c) g =
    ap (λ (l : List Line). record { size = suc (count b); row = r } ∷ (lines b ++ l)) (lines_beside c g)
    ∙ ap (λ (l : List Line). record { size = suc (count b); row = r } ∷ l) (sym (append_assoc (lines b) (lines c) (lines g)))

pub length_lines : (f : Forest Full) → length (lines f) ≡ count f
length_lines bare = refl
length_lines (plant r b c) = omega (arith, length-append (lines b) (lines c), length_lines b, length_lines c, count_plant r b c)

count_over : (rs : List Full) (a : Full) (b c : Forest Full) → 0 < count (over rs (plant a b c))
count_over [] a b c = omega arith
count_over (r ∷ rs) a b c = omega arith

within_some : (r : Full) (xs : List Line) → 0 < length xs → within r (Ok xs) ≡ Ok (record { size = suc (length xs); row = r } ∷ xs)
within_some r [] h = absurd (omega arith)
within_some r (x ∷ xs) h = refl

lines_over : (rs : List Full) (f : Forest Full) → within_all rs (Ok (lines f)) ≡ Ok (lines (over rs f))
lines_over [] bare = refl
lines_over [] (plant a b c) = refl
lines_over (r ∷ rs) bare = ap (within r) (lines_over rs bare)
lines_over (r ∷ rs) (plant a b c) =
    let g : Forest Full = over rs (plant a b c) in
    let n : length (lines g) ≡ count g = length_lines g in
    ap (within r) (lines_over rs (plant a b c))
    ∙ within_some r (lines g) (omega (arith, count_over rs a b c))
    ∙ ap (λ (m : ℕ). Ok (record { size = suc m; row = r } ∷ lines g)) n
    ∙ ap (λ (l : List Line). Ok (record { size = suc (count g); row = r } ∷ l)) (sym (append-nil (lines g)))

beside_bare : {A : Type 0} (f : Forest A) → beside f bare ≡ f
beside_bare bare = refl
beside_bare (plant a b c) = ap (plant a b) (beside_bare c)

-- ── Outcomes ──

pub within_refused : (rs : List Full) (e : Refusal) → within_all rs (Err e) ≡ Err e
within_refused [] e = refl
within_refused (r ∷ rs) e = ap (within r) (within_refused rs e)

first_over : (es : List Refusal) (rs : List Full) (f : Forest Full) → unless_refused es (lines (over rs f)) ≡ within_all rs (unless_refused es (lines f))
first_over [] rs f = sym (lines_over rs f)
first_over (e ∷ es) rs f = sym (within_refused rs e)

first_nil : (es : List Refusal) (xs : List Line) → unless_refused (es ++ []) xs ≡ unless_refused es xs
first_nil [] xs = refl
first_nil (e ∷ es) xs = refl

first_both : (es fs : List Refusal) (xs ys : List Line) → unless_refused (es ++ fs) (xs ++ ys) ≡ followed (unless_refused es xs) (unless_refused fs ys)
first_both [] [] xs ys = refl
first_both [] (f ∷ fs) xs ys = refl
first_both (e ∷ es) fs xs ys = refl

first_checked : (es fs : List Refusal) (xs : List Line) → unless_refused (es ++ fs) xs ≡ checked es (unless_refused fs xs)
first_checked [] fs xs = refl
first_checked (e ∷ es) fs xs = refl

checked_both : (es fs : List Refusal) (o : Outcome) → checked (es ++ fs) o ≡ checked es (checked fs o)
checked_both [] fs o = refl
checked_both (e ∷ es) fs o = refl

first_half : (g : Made → Full) (es : List Refusal) (b : Bool) (f : Forest Made)
    → unless_refused es (lines (relabel g (cond b f bare))) ≡ kept_if b (unless_refused es (lines (relabel g f)))
first_half g es true f = refl
first_half g [] false f = refl
first_half g (e ∷ es) false f = refl

-- whether a map's rows are kept
abbrev pub halved : Result Role Refusal → Bool → Outcome → Outcome
halved (Ok own) both o = o
halved (Ok listed) both o = o
halved (Ok middle) both o = o
halved (Ok mapped) both o = kept_if both o
halved (Ok entries) both o = o
halved (Err n) both o = o

first_sides : (g : Made → Full) (role : Result Role Refusal) (es : List Refusal) (b : Bool) (f : Forest Made)
    → unless_refused es (lines (relabel g (both_sides role b f))) ≡ halved role b (unless_refused es (lines (relabel g f)))
first_sides g (Ok own) es b f = refl
first_sides g (Ok listed) es b f = refl
first_sides g (Ok middle) es b f = refl
first_sides g (Ok mapped) es b f = first_half g es b f
first_sides g (Ok entries) es b f = refl
first_sides g (Err n) es b f = refl

module _ (typing : Typing) (chosen : ℕ → Bool) where
  -- the rows of one element round those below it
  abbrev made_here : Levels → Bool → Read → Forest Read → Kind → Forest Made
  made_here v p x b k =
      element_rows chosen k x x.role x.of.repetition (raised v x.of.repetition) p (both_yield chosen b)
      (shape chosen (raised v x.of.repetition) (passes_null (has_own x.role) x.of.repetition) b)

  -- the first tree, and then the others
  pub in_turn : (v : Levels) (p : Bool) (x : Read) (b c : Forest Read)
      → outcome typing chosen v p (plant x b c) ≡ followed (outcome typing chosen v p (plant x b bare)) (outcome typing chosen v p c)
  unfolding shape refusals
  in_turn v p x b c =
      let es : List Refusal = checks typing chosen x (trees b) ++ below_group typing chosen x.of.kind (refusals typing chosen b) in
      let f : Forest Made = made_here v p x b x.of.kind in
      let g : Forest Full = relabel (full_of typing) (shape chosen v p c) in
      ap (λ (h : Forest Full). unless_refused (es ++ refusals typing chosen c) (lines h)) (relabel_beside (full_of typing) f (shape chosen v p c))
      ∙ ap (unless_refused (es ++ refusals typing chosen c)) (lines_beside (relabel (full_of typing) f) g)
      ∙ first_both es (refusals typing chosen c) (lines (relabel (full_of typing) f)) (lines g)
      ∙ ap (λ (o : Outcome). followed o (unless_refused (refusals typing chosen c) (lines g)))
      (ap (λ (h : Forest Made). unless_refused es (lines (relabel (full_of typing) h))) (sym (beside_bare f))
      ∙ sym (first_nil es (lines (relabel (full_of typing) (beside f bare)))))

  -- one tree: what is wrong with it and below it, and its rows
  alone_form : (v : Levels) (p : Bool) (x : Read) (b : Forest Read)
      → outcome typing chosen v p (plant x b bare)
      ≡ checked (checks typing chosen x (trees b)) (unless_refused (below_group typing chosen x.of.kind (refusals typing chosen b)) (lines (relabel (full_of typing) (made_here v p x b x.of.kind))))
  unfolding shape refusals
  alone_form v p x b =
      let es : List Refusal = checks typing chosen x (trees b) in
      let fs : List Refusal = below_group typing chosen x.of.kind (refusals typing chosen b) in
      first_nil (es ++ fs) _
      ∙ ap (λ (h : Forest Made). unless_refused (es ++ fs) (lines (relabel (full_of typing) h))) (beside_bare (made_here v p x b x.of.kind))
      ∙ first_checked es fs _

  -- a name that is compared, and then the element itself
  abbrev pub named_first : Read → Outcome → Outcome
  named_first x o = checked (name_checks x.of.number x.given.named x.of.name x.given.hint) o

  pub at_group : (v : Levels) (p : Bool) (x : Read) (n : Option Annotation) (b : Forest Read) → x.of.kind ≡ group n
      → outcome typing chosen v p (plant x b bare)
      ≡ named_first x (checked (group_checks x.of.number x.role (wrapped x.part x.of.repetition) x.given.hint (trees b))
      (within_all (map (full_of typing) (group_rows x (items_of x.role) (has_own x.role) x.of.repetition (raised v x.of.repetition) p))
      (halved x.role (both_yield chosen b) (outcome typing chosen (raised v x.of.repetition) (passes_null (has_own x.role) x.of.repetition) b))))
  at_group v p x n b e =
      let r : Repetition = x.of.repetition in
      let w : Bool = wrapped x.part r in
      let inner : Forest Made = shape chosen (raised v r) (passes_null (has_own x.role) r) b in
      let rs : List Made = group_rows x (items_of x.role) (has_own x.role) r (raised v r) p in
      let ns : List Refusal = name_checks x.of.number x.given.named x.of.name x.given.hint in
      let gs : List Refusal = group_checks x.of.number x.role w x.given.hint (trees b) in
      alone_form v p x b
      ∙ ap (λ (k : Kind). checked (ns ++ own_checks typing chosen k x w (trees b)) (unless_refused (below_group typing chosen k (refusals typing chosen b)) (lines (relabel (full_of typing) (made_here v p x b k))))) e
      ∙ checked_both ns gs _
      ∙ ap (λ (f : Forest Full). named_first x (checked gs (unless_refused (refusals typing chosen b) (lines f)))) (relabel_over (full_of typing) rs (both_sides x.role (both_yield chosen b) inner))
      ∙ ap (λ (o : Outcome). named_first x (checked gs o))
      (first_over (refusals typing chosen b) (map (full_of typing) rs) (relabel (full_of typing) (both_sides x.role (both_yield chosen b) inner))
      ∙ ap (within_all (map (full_of typing) rs)) (first_sides (full_of typing) x.role (refusals typing chosen b) (both_yield chosen b) inner))

  pub at_leaf : (v : Levels) (p : Bool) (x : Read) (l : Leaf) (b : Forest Read) → x.of.kind ≡ leaf l
      → outcome typing chosen v p (plant x b bare)
      ≡ named_first x (checked (cond (chosen x.of.leaf_number) (wrap_checks x.of.number (wrapped x.part x.of.repetition) x.given.hint ++ type_checks x.of.number (typing l (leaf_hint x))) [])
      (within_all (map (full_of typing) (wrap x of_list x.of.repetition (raised v x.of.repetition) p))
      (Ok (lines (relabel (full_of typing) (leaf_part (chosen x.of.leaf_number) x x.of.repetition (raised v x.of.repetition)))))))
  at_leaf v p x l b e =
      let r : Repetition = x.of.repetition in
      let w : Bool = wrapped x.part r in
      let rs : List Made = wrap x of_list r (raised v r) p in
      let f : Forest Made = leaf_part (chosen x.of.leaf_number) x r (raised v r) in
      let ns : List Refusal = name_checks x.of.number x.given.named x.of.name x.given.hint in
      let gs : List Refusal = cond (chosen x.of.leaf_number) (wrap_checks x.of.number w x.given.hint ++ type_checks x.of.number (typing l (leaf_hint x))) [] in
      alone_form v p x b
      ∙ ap (λ (k : Kind). checked (ns ++ own_checks typing chosen k x w (trees b)) (unless_refused (below_group typing chosen k (refusals typing chosen b)) (lines (relabel (full_of typing) (made_here v p x b k))))) e
      ∙ checked_both ns gs _
      ∙ ap (λ (f : Forest Full). named_first x (checked gs (Ok (lines f)))) (relabel_over (full_of typing) rs f)
      ∙ ap (λ (o : Outcome). named_first x (checked gs o)) (sym (lines_over (map (full_of typing) rs) (relabel (full_of typing) f)))
