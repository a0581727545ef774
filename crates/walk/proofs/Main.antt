-- The leaf rows agree with the leaves that are kept-leaf.
use Rattle.std.proofs.Common.{◌≡◌, ℕ, ◌*◌, ◌≤◌, Bool, false, List, [], ◌∷◌, map, filter, sym, refl, ap, ◌∙◌, subst, arith}
use Rattle.std.proofs.lemmas.List.Folds.{flat_map-map}
use mathlib.Core.List.{map-append, nil≢cons}
use Rattle.std.proofs.lemmas.Bool.{eq-eqb}
use Rattle.std.specs.List.{flat_map}
use Rattle.walk.proofs.Follow.{Sum, fact, follow, levels_from, made_leaf, openings_from, readings_from, sum_of}
use Rattle.walk.proofs.Lists.{count_relabel, ends_listing, kept_by_map, listing_relabel, map_twice, paired_map}
use Rattle.walk.proofs.Numbers.{ways_relabel}
use Rattle.walk.proofs.Once.{once}
use Rattle.walk.proofs.Order.{few_rows}
use Rattle.walk.proofs.Owed.{owing_none}
use Rattle.walk.proofs.Paths.{def_from, found, means, of_level, of_opening, opened, opening, rep_from}
use Rattle.walk.proofs.Tidy.{tidy_rows}
use Rattle.walk.specs.Forests.{Spot, Way, along, on_way, ways}
use Rattle.walk.specs.Labels.{numbered}
use Rattle.walk.specs.Laws.{DefinitionLevelsOnce, LeafRows, Leveled, Paired, RepetitionLevelsOnce, TwoRowsAnElement, kept_leaves}
use Rattle.walk.specs.Levels.{Meaning, Means, Opens, OpensEach, OpensOnce, ReadsEach, ReadsOnce, definition_level, leaf_row_at, leaf_row_of, opens, path, reads, repetition_level, row_leaf}
use Rattle.walk.specs.Reading.{Read, nobody}
use Rattle.walk.specs.Shape.{Made, Row, base, made_row, plain_rows, read, rows}
use Rattle.schema.specs.Words.{Spelled}
use Rattle.schema.specs.declared.basic.Repetition.{Repetition}
use Rattle.tree.specs.Forest.{Tree, alone, count, listing}

pub paired : {A B C : Type 0} (f : A → C) (g : B → C) (R : A → B → Type 0) → ((x : A) (y : B) → f x ≡ g y → R x y)
    → (xs : List A) (ys : List B) → map f xs ≡ map g ys → Paired R xs ys
paired f g R h [] [] e = tt
paired f g R h [] (y ∷ ys) e = absurd (nil≢cons e)
paired f g R h (x ∷ xs) [] e = absurd (nil≢cons (sym e))
paired f g R h (x ∷ xs) (y ∷ ys) e =
    let head : f x ≡ g y = cc in
    let tail : map f xs ≡ map g ys = cc in
    (h x y head, paired f g R h xs ys tail)

pub levels_are : (rs : List Repetition) → levels_from base rs ≡ record { rep = repetition_level rs; def = definition_level rs }
levels_are rs =
    let a : (levels_from base rs).rep ≡ repetition_level rs = omega (arith, rep_from base rs) in
    let b : (levels_from base rs).def ≡ definition_level rs = omega (arith, def_from base rs) in
    λ i. record { rep = a i; def = b i }

reads_once : (rs : List Row) (d : ℕ) (m : Meaning) → filter (of_level d) (flat_map reads rs) ≡ means d m ∷ [] → ReadsOnce rs d m
reads_once rs d m e =
    let o = once (of_level d) reads (means d m) rs e in
    record {
      place = o.place;
      reads_it = o.holds;
      alone = λ i n a. let r = o.alone i (means d n) (eq-eqb d d refl) a in (r.0, ap (λ (z : Means). z.meaning) r.1);
    }

opens_once : (rs : List Row) (r d : ℕ) → filter (of_opening r) (flat_map opens rs) ≡ opening r d ∷ [] → OpensOnce rs r d
opens_once rs r d e =
    let o = once (of_opening r) opens (opening r d) rs e in
    record {
      place = o.place;
      opens_it = o.holds;
      alone = λ i n a. let s = o.alone i (opening r n) (eq-eqb r r refl) a in (s.0, ap (λ (z : Opens). z.stands) s.1);
    }

module _ (w : Way Made) (q : Way (Spot Read)) (e : sum_of w ≡ fact base false q) where
  joined_along : {Z : Type 0} (g : Row → List Z) → flat_map g (along (on_way made_row w)) ≡ flat_map (λ (r : Made). g r.row) (along w)
  joined_along g = ap (flat_map g) (sym (map-append made_row w.above (w.end ∷ []))) ∙ flat_map-map g made_row (along w)

  pub reads_each : ReadsEach (on_way made_row w) q
  reads_each d h =
      let er : flat_map reads (along (on_way made_row w)) ≡ readings_from 0 (path q) = joined_along reads ∙ ap (λ (s : Sum). s.reads) e in
      let f = found 0 (path q) d (omega arith) (omega arith) in (
        f.meaning,
        record { before = f.before; here = f.here; after = f.after; splits = f.splits; level = omega (arith, f.level); says = f.says },
        reads_once (along (on_way made_row w)) d f.meaning (ap (filter (of_level d)) er ∙ f.sole),
      )

  pub opens_each : OpensEach (on_way made_row w) q
  opens_each r h k =
      let eo : flat_map opens (along (on_way made_row w)) ≡ openings_from base (path q) = joined_along opens ∙ ap (λ (s : Sum). s.opens) e in
      let f = opened base (path q) r h (omega arith) in (
        f.stands,
        record { before = f.before; after = f.after; splits = f.splits; level = omega (arith, f.level); stands = omega (arith, f.depth) },
        opens_once (along (on_way made_row w)) r f.stands (ap (filter (of_opening r)) eo ∙ f.sole),
      )

pub whole : (chosen : ℕ → Bool) (t : Tree Spelled) → map sum_of (ways made_leaf (rows chosen t)) ≡ map (fact base false) (kept_leaves chosen t)
whole chosen t = follow chosen (read t) base false (owing_none nobody (numbered 0 0 (alone t)))

-- what holds of each pair of a way and its path
pub each_pair : (R : Way Row → Way (Spot Read) → Type 0) → ((w : Way Made) (q : Way (Spot Read)) → sum_of w ≡ fact base false q → R (on_way made_row w) q)
    → (chosen : ℕ → Bool) (t : Tree Spelled) → Paired R (ways row_leaf (plain_rows chosen t)) (kept_leaves chosen t)
each_pair R h chosen t =
    subst (λ (ws : List (Way Row)). Paired R ws (kept_leaves chosen t))
    (ways_relabel row_leaf made_row (rows chosen t))
    (paired_map (on_way made_row) R (ways made_leaf (rows chosen t)) (kept_leaves chosen t)
    (paired sum_of (fact base false) (λ w q. R (on_way made_row w) q) h
    (ways made_leaf (rows chosen t)) (kept_leaves chosen t) (whole chosen t)))

pub definition_levels_once : DefinitionLevelsOnce
definition_levels_once = each_pair ReadsEach reads_each

pub repetition_levels_once : RepetitionLevelsOnce
repetition_levels_once = each_pair OpensEach opens_each

pub leaf_rows : LeafRows
leaf_rows chosen t =
    ap (filter row_leaf) (listing_relabel made_row (rows chosen t))
    ∙ kept_by_map row_leaf made_leaf made_row (λ r. refl) (listing (rows chosen t))
    ∙ ap (map made_row) (sym (ends_listing made_leaf (rows chosen t) (tidy_rows chosen t)))
    ∙ map_twice made_row (λ (w : Way Made). w.end) (λ (w : Way Made). w.end.row) (λ w. refl) (ways made_leaf (rows chosen t))
    ∙ sym (map_twice (λ (s : Sum). s.row) sum_of (λ (w : Way Made). w.end.row) (λ w. refl) (ways made_leaf (rows chosen t)))
    ∙ ap (map (λ (s : Sum). s.row)) (whole chosen t)
    ∙ map_twice (λ (s : Sum). s.row) (fact base false) leaf_row_of (λ q. ap (leaf_row_at q.end.node.of) (levels_are (path q)))
    (kept_leaves chosen t)

pub two_rows_an_element : TwoRowsAnElement
two_rows_an_element chosen t = subst (λ (n : ℕ). n ≤ 2 * count (alone t)) (sym (count_relabel made_row (rows chosen t))) (few_rows chosen t)

pub leveled : (chosen : ℕ → Bool) (t : Tree Spelled) → Leveled chosen t (plain_rows chosen t)
leveled chosen t =
    record {
      leaf_rows = leaf_rows chosen t;
      definition_levels = definition_levels_once chosen t;
      repetition_levels = repetition_levels_once chosen t;
      few = two_rows_an_element chosen t;
    }
