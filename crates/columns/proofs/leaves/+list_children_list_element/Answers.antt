use Rattle.std.proofs.Common.{◌≡◌, ℕ, zero, suc, ◌+◌, ◌-◌, ◌*◌, ◌<◌, ◌≤◌, cond, eqb, List, [], ◌∷◌, ◌++◌, length, drop, Some, Ok, sym, refl, ap, ◌∙◌, subst, add-one, arith, rules}
use Rattle.std.specs.List.{slice_get}
use Rattle.std.proofs.lemmas.List.{length-append}
use Rattle.std.proofs.lemmas.Result.{err_from_is_err_and}
use Rattle.std.proofs.lemmas.Bool.{cond-false, ne_eqb}
use Rattle.tree.specs.Forest.{Forest, Lists, alone, size_at, children}
use Rattle.tree.proofs.Trees.{drop_next, ends_within}
use Rattle.tree.proofs.Depths.{child_of}
use Rattle.schema.specs.declared.element.Element.{Element}
use Rattle.schema.specs.Elements.{element_span}
use Rattle.schema.specs.Rows.{IsFinished}
use Rattle.schema.proofs.ByDepths.{depth_within}
use Rattle.columns.specs.Levels.{path_of, roots_before, root_of, leaves_in}
use Rattle.columns.specs.Listing.{walked_path}
use Rattle.columns.specs.Walk.{LevelsOf, Wrote, leaves_at, leaves_below, place_of}
use Rattle.columns.proofs.Paths.{path_child, path_long, path_most, leaf_at, group_at, roots_past, first_place, next_place, rep_most, def_most}
use Rattle.columns.proofs.Writes.{restored_same, restored_on, left, levels_push, root_push, wrote_none, wrote_more, wrote_less, appended_wrote, split_at, split_on}
use Rattle.columns.proofs.leaves.+list_children_list_element.Goals as goal

-- The children of a parent.

-- where the loop has come: the child that is next, in the tree
record Next (rows : List Element) (bytes : ℕ) (fin : IsFinished bytes rows) (p n c : ℕ) (rest rest' : List ℕ) : Type 0 where
  pub child : slice_get (children (alone fin.0) p) n ≡ Some c
  pub within : c < length rows
  pub after : p < c
  pub ends : c + size_at element_span rows c ≤ p + size_at element_span rows p
  pub some : 0 < size_at element_span rows c
  pub path : path_of rows c ≡ path_of rows p ++ c ∷ []
  pub here : place_of rows p (slice_get rest 0) ≡ c
  pub next : place_of rows p (slice_get rest' 0) ≡ c + size_at element_span rows c

-- the first of what is left of a list
first_left : (xs : List ℕ) (n : ℕ) → slice_get (drop n xs) 0 ≡ slice_get xs n
first_left [] zero = refl
first_left [] (suc n) = refl
first_left (x ∷ xs) zero = refl
first_left (x ∷ xs) (suc n) = first_left xs n

next_child : (rows : List Element) (bytes : ℕ) (fin : IsFinished bytes rows) (p n c : ℕ) (rest rest' : List ℕ) → p < length rows
    → ((f : Forest Element) → Lists element_span f rows → rest ≡ drop n (children f p)) → rest ≡ c ∷ rest' → Next rows bytes fin p n c rest rest'
next_child rows bytes fin p n c rest rest' h comes step =
    let xs = children (alone fin.0) p in
    let left = sym (comes (alone fin.0) fin.2) ∙ step in
    let child : slice_get xs n ≡ Some c = sym (first_left xs n) ∙ ap (λ ys. slice_get ys 0) left in
    let place = next_place bytes rows fin p n c h child in
    let below = child_of element_span (alone fin.0) rows fin.2 p n c child in
    let within : c < length rows = omega (arith, below.1, (ends_within element_span (alone fin.0) rows fin.2 p h).1) in
    let on : slice_get rest' 0 ≡ slice_get xs (n + 1) = ap (λ ys. slice_get ys 0) (sym (drop_next xs n c rest' left)) ∙ first_left xs (suc n) ∙ ap (slice_get xs) (sym (add-one n)) in
    record {
      child = child;
      within = within;
      after = below.0;
      ends = place.1;
      some = (ends_within element_span (alone fin.0) rows fin.2 c within).0;
      path = path_child bytes rows fin p n c child h within;
      here = ap (λ ys. place_of rows p (slice_get ys 0)) step;
      next = ap (place_of rows p) on ∙ place.0;
    }

pub list_children-loop-number-init : goal.list_children-loop-number-init
list_children-loop-number-init t c =
    let rows = c.args.rows.now in
    let p = c.args.parent in
    let bytes = c.requires.walking.finished.0 in
    let fin = c.requires.walking.finished.1 in
    let it = c.into_iter-number-iterator.result in
    let count : it.count ≡ 0 = cc in
    let comes : (f : Forest Element) → Lists element_span f rows → it.iter ≡ children f p =
    λ f l. (let e : it.iter ≡ c.children.result = cc in e) ∙ c.children.ensures.in_tree f (subst (Lists element_span f) (sym c.new.ensures.rows) l) in
    let place : place_of rows p (slice_get it.iter 0) ≡ p + 1 = ap (λ ys. place_of rows p (slice_get ys 0)) (comes (alone fin.0) fin.2) ∙ first_place bytes rows fin p c.requires.parent in
    let none : leaves_in rows (p + 1) (place_of rows p (slice_get it.iter 0) - (p + 1)) ≡ [] = ap (leaves_in rows (p + 1)) (let z : place_of rows p (slice_get it.iter 0) - (p + 1) ≡ 0 = omega (arith, place) in z) in
    record {
      comes = λ f l. comes f l ∙ ap (λ n. drop n (children f p)) (sym count);
      restored = restored_same c.args.walked.now;
      after = omega (arith, place);
      ends = omega (arith, place, (ends_within element_span (alone fin.0) rows fin.2 p c.requires.parent).0);
      roots = λ e. count ∙ sym (ap (roots_before rows) (place ∙ ap (λ n. n + 1) e));
      wrote = wrote_none rows c.args.done c.args.columns.now c.args.paths.now c.requires.walking.numbers (leaves_in rows (p + 1) (place_of rows p (slice_get it.iter 0) - (p + 1))) none;
    }

-- the root number of a child
child_root : (rows : List Element) (bytes : ℕ) (fin : IsFinished bytes rows) (p n c root r : ℕ) (rest rest' : List ℕ) → p < length rows → Next rows bytes fin p n c rest rest' → r ≡ cond (eqb p 0) n root
    → (p ≡ 0 → n ≡ roots_before rows c) → (0 < p → root ≡ root_of rows (path_of rows p)) → r ≡ root_of rows (path_of rows c)
child_root rows bytes fin zero n c root r rest rest' h x e top deep = e ∙ top refl ∙ sym (ap (root_of rows) x.path)
child_root rows bytes fin (suc p) n c root r rest rest' h x e top deep =
    e ∙ cond-false (eqb (suc p) 0) n root (ne_eqb (suc p) 0 (λ z. omega (arith, z))) ∙ deep (omega arith)
    ∙ sym (ap (root_of rows) x.path ∙ root_push rows (path_of rows (suc p)) c (omega (arith, path_long bytes rows fin (suc p) h, (depth_within bytes rows fin p h).0)))

pub list_children-list_element-requires : goal.list_children-list_element-requires
list_children-list_element-requires t c =
    let rows = c.args.rows.now in
    let p = c.args.parent in
    let k = c.in-Some.child in
    let it = c.loop-number.number-iterator in
    let had = c.loop-number.invariant in
    let step = c.in-Some.ensures.steps in
    let bytes = c.requires.walking.finished.0 in
    let fin = c.requires.walking.finished.1 in
    let x = next_child rows bytes fin p it.count k it.iter c.next.new.self.iter c.requires.parent had.comes step.0 in
    let same : walked_path c.loop-number.walked ≡ path_of rows p = had.restored.path ∙ c.requires.walking.path in
    let small : 2 * size_at element_span rows k + 1 < 2 * size_at element_span rows p = omega (arith, x.after, x.ends) in
    let split = split_at rows p k (size_at element_span rows k) (omega (arith, x.after)) x.ends in
    let wrote : Wrote rows (leaves_in rows (p + 1) (k - (p + 1))) c.args.done c.args.columns.now c.args.paths.now c.loop-number.columns c.loop-number.paths (Ok c.loop-number.so_far) =
    subst (λ m. Wrote rows (leaves_in rows (p + 1) (m - (p + 1))) c.args.done c.args.columns.now c.args.paths.now c.loop-number.columns c.loop-number.paths (Ok c.loop-number.so_far)) x.here had.wrote in (
      (let m = c.decreases in omega (arith, m, small)),
      (
        record {
          finished = (bytes, fin);
          path = refl;
          long = had.restored.len ∙ c.requires.walking.long ∙ ap length (sym same);
          levels = subst (λ is. LevelsOf rows is c.args.levels) (sym same) c.requires.walking.levels;
          room = omega (arith, wrote.0, c.requires.walking.room, c.loop-number.auto.columns, ap length split, length-append (leaves_in rows (p + 1) (k - (p + 1)) ++ leaves_at rows k) (leaves_in rows (k + size_at element_span rows k) ((p + size_at element_span rows p) - (k + size_at element_span rows k))), length-append (leaves_in rows (p + 1) (k - (p + 1))) (leaves_at rows k));
          numbers = omega (arith, wrote.2, c.loop-number.auto.paths);
        },
        (
          x.within,
          (
            x.path ∙ ap (λ is. is ++ k ∷ []) (sym same),
            child_root rows bytes fin p it.count k c.args.root c.root_number-root.result it.iter c.next.new.self.iter c.requires.parent x (c.root_number-root.ensures ∙ ap (λ n. cond (eqb p 0) n c.args.root) step.1)
                (λ e. had.roots e ∙ ap (roots_before rows) x.here) c.requires.root,
          ),
        ),
      ),
    )

pub list_children-returns-in_err-so_far : goal.list_children-returns-in_err-so_far
list_children-returns-in_err-so_far t c =
    let rows = c.args.rows.now in
    let p = c.args.parent in
    let k = c.in-Some.child in
    let it = c.loop-number.number-iterator in
    let had = c.loop-number.invariant in
    let fin = c.requires.walking.finished.1 in
    let x = next_child rows c.requires.walking.finished.0 fin p it.count k it.iter c.next.new.self.iter c.requires.parent had.comes c.in-Some.ensures.steps.0 in
    let wrote : Wrote rows (leaves_in rows (p + 1) (k - (p + 1))) c.args.done c.args.columns.now c.args.paths.now c.loop-number.columns c.loop-number.paths (Ok c.loop-number.so_far) =
    subst (λ m. Wrote rows (leaves_in rows (p + 1) (m - (p + 1))) c.args.done c.args.columns.now c.args.paths.now c.loop-number.columns c.loop-number.paths (Ok c.loop-number.so_far)) x.here had.wrote in
    let e = err_from_is_err_and c.from_residual.result c.from_residual.ensures.1 in
    let w = wrote_less rows (leaves_in rows (p + 1) (k - (p + 1))) (leaves_at rows k) c.args.done c.loop-number.so_far c.args.columns.now c.args.paths.now c.loop-number.columns c.loop-number.paths c.list_element.new.columns c.list_element.new.paths
    c.loop-number.auto.paths wrote _ c.in_err-so_far.ensures.wrote (leaves_below rows p) _ (split_at rows p k (size_at element_span rows k) (omega (arith, x.after)) x.ends) in
    record {
      restored = restored_on c.args.walked.now c.loop-number.walked c.list_element.new.walked had.restored c.list_element.ensures.restored;
      wrote = rw (e.1, e.2) w;
    }

pub list_children-loop-number-preserved : goal.list_children-loop-number-preserved
list_children-loop-number-preserved t c =
    let rows = c.args.rows.now in
    let p = c.args.parent in
    let k = c.in-Some.child in
    let it = c.loop-number.number-iterator in
    let rest = c.next.new.self.iter in
    let had = c.loop-number.invariant in
    let step = c.in-Some.ensures.steps in
    let bytes = c.requires.walking.finished.0 in
    let fin = c.requires.walking.finished.1 in
    let x = next_child rows bytes fin p it.count k it.iter rest c.requires.parent had.comes step.0 in
    let place = place_of rows p (slice_get rest 0) in
    let wrote : Wrote rows (leaves_in rows (p + 1) (k - (p + 1))) c.args.done c.args.columns.now c.args.paths.now c.loop-number.columns c.loop-number.paths (Ok c.loop-number.so_far) =
    subst (λ m. Wrote rows (leaves_in rows (p + 1) (m - (p + 1))) c.args.done c.args.columns.now c.args.paths.now c.loop-number.columns c.loop-number.paths (Ok c.loop-number.so_far)) x.here had.wrote in
    record {
      comes = λ f l. sym (drop_next (children f p) it.count k rest (sym (had.comes f l) ∙ step.0)) ∙ ap (λ n. drop n (children f p)) (sym (add-one it.count) ∙ sym step.2);
      restored = restored_on c.args.walked.now c.loop-number.walked c.list_element.new.walked had.restored c.list_element.ensures.restored;
      after = omega (arith, x.next, x.after);
      ends = omega (arith, x.next, x.ends);
      roots = λ e. step.2 ∙ ap (λ m. m + 1) (had.roots e ∙ ap (roots_before rows) x.here)
          ∙ sym (ap (roots_before rows) x.next ∙ roots_past bytes rows fin it.count k (subst (λ q. slice_get (children (alone fin.0) q) it.count ≡ Some k) e x.child) x.within);
      wrote =
          wrote_more rows (leaves_in rows (p + 1) (k - (p + 1))) (leaves_at rows k) c.args.done c.loop-number.so_far c.args.columns.now c.args.paths.now c.loop-number.columns c.loop-number.paths c.list_element.new.columns c.list_element.new.paths
          c.loop-number.auto.paths wrote c.in_ok-so_far.so_far c.in_ok-so_far.ensures.wrote (leaves_in rows (p + 1) (place - (p + 1)))
          (ap (λ m. leaves_in rows (p + 1) (m - (p + 1))) x.next ∙ split_on rows p k (size_at element_span rows k) (omega (arith, x.after)));
    }

-- An element.

-- its path is one longer than the path walked, and at most 64 long
path_room : (rows : List Element) (bytes : ℕ) (fin : IsFinished bytes rows) (e : ℕ) (is : List ℕ) → e < length rows → path_of rows e ≡ is ++ e ∷ [] → length is < 64
path_room rows bytes fin e is h p = omega (arith, path_most bytes rows fin e h, ap length p, length-append is (e ∷ []))

pub list_element-below-levels-requires : goal.list_element-below-levels-requires
list_element-below-levels-requires t c =
    let rows = c.args.rows.now in
    let is = walked_path c.args.walked.now in
    let l = c.requires.walking.levels in
    let room = path_room rows c.requires.walking.finished.0 c.requires.walking.finished.1 c.args.element is c.requires.element c.requires.path in
    (omega (arith, l.repetition, rep_most rows is, def_most rows is, room), omega (arith, l.definition, def_most rows is, room))

pub list_element-enter-guard-requires : goal.list_element-enter-guard-requires
list_element-enter-guard-requires t c =
    omega (arith, c.requires.walking.long, path_room c.args.rows.now c.requires.walking.finished.0 c.requires.walking.finished.1 c.args.element (walked_path c.args.walked.now) c.requires.element c.requires.path)

pub list_element-list_children-requires : goal.list_element-list_children-requires
list_element-list_children-requires t c =
    let rows = c.args.rows.now in
    let e = c.args.element in
    let is = walked_path c.args.walked.now in
    let bytes = c.requires.walking.finished.0 in
    let fin = c.requires.walking.finished.1 in
    let group = group_at bytes rows fin e c.requires.element (sym c.if-is_group.ensures.group) in (
      (let m = c.decreases in omega (arith, m)),
      (
        record {
          finished = (bytes, fin);
          path = c.enter-guard.ensures.path ∙ sym c.requires.path;
          long = c.enter-guard.ensures.len ∙ ap (λ n. n + 1) c.requires.walking.long ∙ sym (ap length c.requires.path ∙ length-append is (e ∷ []));
          levels = levels_push rows is e c.args.levels c.below-levels.result c.requires.walking.levels c.below-levels.ensures.repetition c.below-levels.ensures.definition c.below-levels.ensures.repeated (path_of rows e) c.requires.path;
          room = omega (arith, c.requires.walking.room, ap length group);
          numbers = c.requires.walking.numbers;
        },
        (c.requires.element, λ _. c.requires.root),
      ),
    )

pub list_element-returns-then-is_group : goal.list_element-returns-then-is_group
list_element-returns-then-is_group t c =
    let rows = c.args.rows.now in
    let e = c.args.element in
    let group = group_at c.requires.walking.finished.0 rows c.requires.walking.finished.1 e c.requires.element (sym c.if-is_group.ensures.group) in
    record {
      restored = left c.args.walked.now c.enter-guard.result.walked.now c.list_children.new.walked _ e c.enter-guard.ensures.len c.enter-guard.ensures.numbers c.list_children.ensures.restored (search rules) (search rules);
      wrote = subst (λ es. Wrote rows es c.args.done c.args.columns.now c.args.paths.now c.list_children.new.columns c.list_children.new.paths c.list_children.result) (sym group) c.list_children.ensures.wrote;
    }

pub list_element-write_column-requires : goal.list_element-write_column-requires
list_element-write_column-requires t c =
    let rows = c.args.rows.now in
    let e = c.args.element in
    let leaf = leaf_at c.requires.walking.finished.0 rows c.requires.walking.finished.1 e c.requires.element (sym c.if-is_group.ensures.group) in
    let room = path_room rows c.requires.walking.finished.0 c.requires.walking.finished.1 e (walked_path c.args.walked.now) c.requires.element c.requires.path in
    (omega (arith, c.enter-guard.ensures.len, c.requires.walking.long, room), (omega (arith, c.requires.walking.room, ap length leaf), c.requires.walking.numbers))

pub list_element-returns : goal.list_element-returns
list_element-returns t c =
    let rows = c.args.rows.now in
    let e = c.args.element in
    let is = walked_path c.args.walked.now in
    let g = c.enter-guard.result.walked.now in
    let leaf = leaf_at c.requires.walking.finished.0 rows c.requires.walking.finished.1 e c.requires.element (sym c.if-is_group.ensures.group) in
    let same : path_of rows e ≡ walked_path g = c.requires.path ∙ sym c.enter-guard.ensures.path in
    let levels : LevelsOf rows (walked_path g) c.below-levels.result =
    levels_push rows is e c.args.levels c.below-levels.result c.requires.walking.levels c.below-levels.ensures.repetition c.below-levels.ensures.definition c.below-levels.ensures.repeated (walked_path g) c.enter-guard.ensures.path in
    let long : g.len ≡ length (walked_path g) = c.enter-guard.ensures.len ∙ ap (λ n. n + 1) c.requires.walking.long ∙ sym (ap length c.enter-guard.ensures.path ∙ length-append is (e ∷ [])) in
    record {
      restored = left c.args.walked.now g g _ e c.enter-guard.ensures.len c.enter-guard.ensures.numbers (restored_same g) (search rules) (search rules);
      wrote =
          appended_wrote rows (walked_path g) g.len e c.below-levels.result c.args.root c.args.done c.args.columns.now c.args.paths.now c.write_column.new.columns c.write_column.new.paths
          same long levels (c.requires.root ∙ ap (root_of rows) same) c.write_column.result c.write_column.ensures (leaves_at rows e) leaf;
    }
