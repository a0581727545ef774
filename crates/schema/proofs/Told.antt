-- What a history has come to holds what its accepted calls spelled.
use Rattle.std.proofs.Common.{◌≡◌, ℕ, ◌+◌, ◌<◌, ◌≤◌, Bool, true, false, cond, not, ◌&&◌, ◌||◌, eqb, ltb, leb, List, [], ◌∷◌, ◌++◌, map, length, take, drop, set, ℤ, is_some, is_none, is_ok, Some, None, Ok, Err, Decides, Option, Result, sym, refl, ap, ◌∙◌, subst, arith}
use Rattle.std.specs.List.{AllByRecursion}
use Rattle.std.proofs.lemmas.List.{drop-take, take-take, take-append-le, take_at, drop_at, length-take-le, length-take, length-set, take_more_set, map_push, length-append, length-drop}
use Rattle.std.proofs.lemmas.Bool.{not-true, not-false, and_parts, or_parts, and_from, or_from, leb-true, leb-false, ltb-false, le-leb, le-ltb, eq-eqb, ne_eqb, cond-true, cond-false}
use Rattle.schema.specs.declared.basic.Annotation.{Annotation}
use Rattle.schema.specs.declared.basic.Repetition.{Repetition}
use Rattle.schema.specs.declared.draft.Draft.{Draft}
use Rattle.schema.specs.declared.draft.Schema.{Schema}
use Rattle.schema.specs.declared.element.Element.{Element}
use Rattle.schema.specs.declared.element.Leaf.{Leaf}
use Rattle.schema.specs.declared.element.Kind.{Kind}
use Rattle.schema.specs.declared.element.Kind.TheVariants as k
use Rattle.schema.specs.declared.refusal.Refusal.{Refusal}
use Rattle.schema.specs.declared.refusal.Refusal.TheVariants as no
use Rattle.schema.specs.Elements.{empty, end_of}
use Rattle.schema.specs.Decimals.{keeps_leaf_rules}
use Rattle.schema.specs.Rows.{plain_group, kind_kept, named_inside, root_kept, row_kept, deepest_after, may_follow, next_kept, rest_kept, rows_kept, sized, finished_kept}
use Rattle.schema.specs.Words.{Spelled, Words, Event, Call, root_of, element_of, said, fewer, spelled, later, last_at, OpenIn, opens, adds, closes, finishes}
use Rattle.schema.specs.Posts.{first, or_else, short, shown, shown_as, no_room, blank, spell_refusal, Same, Spelt, Whole, Begun, Opened, Added, Closed, Finished, FinishMeans, memory_kept, IsMemory}
use Rattle.schema.specs.Reach.{Held, drafted, whole, count_of, bytes_of, held_after, event, Reached, begun, opened, added, closed, finished, listed, converted, lent, DraftHolds, SchemaHolds, Holds, FinishLaw}
use Rattle.schema.proofs.Steps.{length_sized}
use Rattle.schema.proofs.ByDepths.{tree_from_steps, steps_from_tree, sized_tree, finished_from_kept, kept_from_finished}

-- Names that lie inside the bytes in use.

abbrev Inside : ℕ → Element → Type 0
Inside u e = end_of e.name ≤ u

and3 : (p q r x y : Bool) → (x ≡ true → y ≡ true) → (p && (q && (r && x))) ≡ true → (p && (q && (r && y))) ≡ true
and3 true true true x y f h = f h
and3 true true false x y f h = h
and3 true false r x y f h = h
and3 false q r x y f h = h

and4 : (p q r s x y : Bool) → (x ≡ true → y ≡ true) → (p && (q && (r && (s && x)))) ≡ true → (p && (q && (r && (s && y)))) ≡ true
and4 true q r s x y f h = and3 q r s x y f h
and4 false q r s x y f h = h

last3 : (p q r x : Bool) → (p && (q && (r && x))) ≡ true → x ≡ true
last3 true true true x h = h
last3 true true false x h = cc
last3 true false r x h = cc
last3 false q r x h = cc

last4 : (p q r s x : Bool) → (p && (q && (r && (s && x)))) ≡ true → x ≡ true
last4 true q r s x h = last3 q r s x h
last4 false q r s x h = cc

module _ (u v : ℕ) (h : u ≤ v) where
  inside_more : (e : Element) → named_inside u e ≡ true → named_inside v e ≡ true
  inside_more e i = le-leb (end_of e.name) v (omega (arith, leb-true (end_of e.name) u i, h))

  root_more : (e : Element) → root_kept u e ≡ true → root_kept v e ≡ true
  root_more e k = and3 (eqb e.depth 0) (is_none e.repetition) (plain_group e.kind) (named_inside u e) (named_inside v e) (inside_more e) k

  row_more : (e : Element) → row_kept u e ≡ true → row_kept v e ≡ true
  row_more e k = and4 (leb 1 e.depth) (leb e.depth 64) (is_some e.repetition) (kind_kept e.kind) (named_inside u e) (named_inside v e) (inside_more e) k

rest_inside : (u : ℕ) (before : Element) (es : List Element) → rest_kept u before es ≡ true → AllByRecursion (Inside u) es
rest_inside u before [] k = tt
rest_inside u before (e ∷ es) k =
    let p = and_parts (next_kept u before e) (rest_kept u e es) k in
    let q = and_parts (may_follow before e) (row_kept u e) p.0 in
    (leb-true (end_of e.name) u (last4 (leb 1 e.depth) (leb e.depth 64) (is_some e.repetition) (kind_kept e.kind) (named_inside u e) q.1), rest_inside u e es p.1)

rows_inside : (u : ℕ) (es : List Element) → rows_kept u es ≡ true → AllByRecursion (Inside u) es
rows_inside u [] k = tt
rows_inside u (e ∷ es) k =
    let p = and_parts (leb (length es) 4095 && root_kept u e) (rest_kept u e es) k in
    let q = and_parts (leb (length es) 4095) (root_kept u e) p.0 in
    (leb-true (end_of e.name) u (last3 (eqb e.depth 0) (is_none e.repetition) (plain_group e.kind) (named_inside u e) q.1), rest_inside u e es p.1)

-- One row more keeps the steps.

abbrev last_of : Element → List Element → Element
last_of before [] = before
last_of before (e ∷ es) = last_of e es

abbrev last_row : List Element → Element
last_row [] = empty
last_row (e ∷ es) = last_of e es

last_of_push : (before : Element) (es : List Element) (e : Element) → last_of before (es ++ e ∷ []) ≡ e
last_of_push before [] e = refl
last_of_push before (x ∷ es) e = last_of_push x es e

last_row_push : (es : List Element) (e : Element) → last_row (es ++ e ∷ []) ≡ e
last_row_push [] e = refl
last_row_push (x ∷ es) e = last_of_push x es e

rest_push : (u v : ℕ) → u ≤ v → (before : Element) (es : List Element) (e : Element) → rest_kept u before es ≡ true → next_kept v (last_of before es) e ≡ true → rest_kept v before (es ++ e ∷ []) ≡ true
rest_push u v h before [] e k n = and_from (next_kept v before e) true n refl
rest_push u v h before (x ∷ es) e k n =
    let p = and_parts (next_kept u before x) (rest_kept u x es) k in
    let q = and_parts (may_follow before x) (row_kept u x) p.0 in
    and_from (next_kept v before x) (rest_kept v x (es ++ e ∷ [])) (and_from (may_follow before x) (row_kept v x) q.0 (row_more u v h x q.1)) (rest_push u v h x es e p.1 n)

rows_push : (u v : ℕ) → u ≤ v → (es : List Element) (e : Element) → rows_kept u es ≡ true → length es < 4096 → next_kept v (last_row es) e ≡ true → rows_kept v (es ++ e ∷ []) ≡ true
rows_push u v h [] e k l n = cc
rows_push u v h (x ∷ es) e k l n =
    let p = and_parts (leb (length es) 4095 && root_kept u x) (rest_kept u x es) k in
    let q = and_parts (leb (length es) 4095) (root_kept u x) p.0 in
    and_from (leb (length (es ++ e ∷ [])) 4095 && root_kept v x) (rest_kept v x (es ++ e ∷ []))
    (and_from (leb (length (es ++ e ∷ [])) 4095) (root_kept v x) (le-leb (length (es ++ e ∷ [])) 4095 (omega (arith, l, length-append es (e ∷ [])))) (root_more u v h x q.1))
    (rest_push u v h x es e p.1 n)

-- What a draft that a history came to keeps.

pub record DraftTells (w : Words) (d : Draft) (els : List Element) (ns : List ℕ) : Type 0 where
  pub fits : d.count ≤ length els
  pub room : d.bytes ≤ length ns
  pub shows : shown d.count els ns ≡ w.elements
  pub kept : rows_kept d.bytes (take d.count els) ≡ true
  pub next : d.groups ≤ deepest_after (last_row (take d.count els))
  pub some : 1 ≤ d.groups
  pub groups : d.groups ≡ length w.opened
  pub opened : OpenIn w.elements w.opened

abbrev pub Tells : Words → Held → List Element → List ℕ → Type 0
Tells w (drafted d) els ns = DraftTells w d els ns
Tells w (whole s) els ns = SchemaHolds w s els ns

pub draft_holds : {w : Words} {d : Draft} {els : List Element} {ns : List ℕ} → DraftTells w d els ns → DraftHolds w d els ns
draft_holds {w} {d} {els} {ns} t = record {
  fits = t.fits;
  room = t.room;
  elements = t.shows;
  groups = t.groups;
  opened = t.opened;
  tree = tree_from_steps d.bytes (take d.count els) t.kept;
}

-- The same elements, and the same bytes of their names, show the same.

kept_part : (ns ns' : List ℕ) (u p l : ℕ) → p + l ≤ u → take u ns' ≡ take u ns → take l (drop p ns') ≡ take l (drop p ns)
kept_part ns ns' u p l h e =
    sym (drop-take p l ns') ∙ ap (drop p) (sym (take-take (p + l) u ns' h) ∙ ap (take (p + l)) e ∙ take-take (p + l) u ns h) ∙ drop-take p l ns

kept_shown : (ns ns' : List ℕ) (u : ℕ) (els : List Element) → take u ns' ≡ take u ns → AllByRecursion (Inside u) els → map (shown_as ns') els ≡ map (shown_as ns) els
kept_shown ns ns' u [] e h = refl
kept_shown ns ns' u (x ∷ els) e h =
    let p = kept_part ns ns' u x.name.start x.name.length h.0 e in
    let q = kept_shown ns ns' u els e h.1 in
    cc

long_enough : {X : Type 0} (n : ℕ) (xs ys : List X) → take n ys ≡ take n xs → n ≤ length xs → n ≤ length ys
long_enough n xs ys e h = omega (arith, ap length e, length-take n xs, length-take n ys, h)

-- One element more.

module _ {q : Option Repetition} {i : Option ℤ} {kind : Kind} {name : List ℕ} {d : Draft} {els : List Element} {ns : List ℕ} {d' : Draft} {els' : List Element} {ns' : List ℕ} (s : Spelt q i kind name d els ns d' els' ns') where
  new_row : Element
  new_row = record { name = record { start = s.start; length = length name }; depth = d.groups; repetition = q; field_id = i; size = 0; kind = kind }

  front_long : length (take s.start ns) ≡ s.start
  front_long = length-take-le s.start ns (omega (arith, s.within, s.room))

  spelt_below : take d.bytes ns' ≡ take d.bytes ns
  spelt_below =
      ap (take d.bytes) s.names ∙ take-append-le d.bytes (take s.start ns) _ (omega (arith, front_long, s.fresh)) ∙ take-take d.bytes s.start ns s.fresh

  spelt_name : take (length name) (drop s.start ns') ≡ name
  spelt_name =
      ap (λ xs. take (length name) (drop s.start xs)) s.names ∙ ap (take (length name)) (drop_at (take s.start ns) _ s.start front_long) ∙ take_at name _ (length name) refl

  spelt_long : length ns' ≡ length ns
  spelt_long =
      omega (arith, ap length s.names, length-append (take s.start ns) (name ++ drop (s.start + length name) ns), length-append name (drop (s.start + length name) ns), length-drop (s.start + length name) ns, front_long, s.within, s.room)

  spelt_front : take d'.count els' ≡ take d.count els ++ new_row ∷ []
  unfolding new_row
  spelt_front = ap (take d'.count) s.elements ∙ ap (λ n. take n (set els d.count new_row)) s.count ∙ take_more_set els d.count new_row s.more

  spelt_fits : d'.count ≤ length els'
  unfolding new_row
  spelt_fits = omega (arith, ap length s.elements, length-set els d.count new_row, s.more, s.count)

  spelt_shows : (ws : List Spelled) (n : ℕ) → n ≡ d.groups → shown d.count els ns ≡ ws → AllByRecursion (Inside d.bytes) (take d.count els)
      → shown d'.count els' ns' ≡ ws ++ record { name = name; depth = n; repetition = q; fieldId = i; kind = kind } ∷ []
  unfolding new_row
  spelt_shows ws n e shows inside =
      ap (map (shown_as ns')) spelt_front ∙ map_push (shown_as ns') (take d.count els) new_row ∙
      (let x = kept_shown ns ns' d.bytes (take d.count els) spelt_below inside ∙ shows in
      let y = spelt_name in
      cc)

  spelt_inside : named_inside d'.bytes new_row ≡ true
  unfolding new_row
  spelt_inside = le-leb (s.start + length name) d'.bytes s.within

  spelt_next : d'.groups ≤ deepest_after (last_row (take d'.count els'))
  unfolding new_row
  spelt_next = subst (λ e. d'.groups ≤ deepest_after e) (sym (ap last_row spelt_front ∙ last_row_push (take d.count els) new_row)) (omega (arith, s.groups))

  -- below the root
  spelt_row : is_some q ≡ true → kind_kept kind ≡ true → 1 ≤ d.groups → d.groups ≤ 64 → row_kept d'.bytes new_row ≡ true
  unfolding new_row spelt_inside
  spelt_row some kk l u =
      and_from (leb 1 d.groups) (leb d.groups 64 && (is_some q && (kind_kept kind && named_inside d'.bytes new_row))) (le-leb 1 d.groups l)
      (and_from (leb d.groups 64) (is_some q && (kind_kept kind && named_inside d'.bytes new_row)) (le-leb d.groups 64 u)
      (and_from (is_some q) (kind_kept kind && named_inside d'.bytes new_row) some
      (and_from (kind_kept kind) (named_inside d'.bytes new_row) kk spelt_inside)))

  spelt_kept : is_some q ≡ true → kind_kept kind ≡ true → 1 ≤ d.groups → d.groups ≤ 64 → d.count < 4096 → d.count ≤ length els
      → d.groups ≤ deepest_after (last_row (take d.count els)) → rows_kept d.bytes (take d.count els) ≡ true → rows_kept d'.bytes (take d'.count els') ≡ true
  unfolding new_row
  spelt_kept some kk l u few fits next kept =
      ap (rows_kept d'.bytes) spelt_front ∙
      rows_push d.bytes d'.bytes (omega (arith, s.fresh, s.within)) (take d.count els) new_row kept (omega (arith, few, length-take-le d.count els fits))
      (and_from (may_follow (last_row (take d.count els)) new_row) (row_kept d'.bytes new_row) (le-leb d.groups (deepest_after (last_row (take d.count els))) next) (spelt_row some kk l u))

-- The open groups.

push_other : (n : ℕ) (ws : List Spelled) (x : Spelled) → (x.depth ≡ n → ⊥) → last_at n (ws ++ x ∷ []) ≡ last_at n ws
push_other n [] x h = cond-false (eqb x.depth n) _ _ (ne_eqb x.depth n h)
push_other n (y ∷ ws) x h = ap (λ o. cond (eqb y.depth n) (later y o) o) (push_other n ws x h)

push_same : (n : ℕ) (ws : List Spelled) (x : Spelled) → x.depth ≡ n → last_at n (ws ++ x ∷ []) ≡ Some x
push_same n [] x h = cond-true (eqb x.depth n) _ _ (eq-eqb x.depth n h)
push_same n (y ∷ ws) x h = ap (λ o. cond (eqb y.depth n) (later y o) o) (push_same n ws x h) ∙ either (eqb y.depth n)
  where
    either : (b : Bool) → cond b (later y (Some x)) (Some x) ≡ Some x
    either true = refl
    either false = refl

open_push : (ws os : List Spelled) (x : Spelled) → length os ≤ x.depth → OpenIn ws os → OpenIn (ws ++ x ∷ []) os
open_push ws [] x h o = tt
open_push ws (y ∷ os) x h o = (push_other (length os) ws x (λ e. omega (arith, e, h)) ∙ o.0, open_push ws os x (omega (arith, h)) o.1)

open_fewer : (ws os : List Spelled) → OpenIn ws os → OpenIn ws (fewer os)
open_fewer ws [] o = tt
open_fewer ws (y ∷ os) o = o.1

length_fewer : (os : List Spelled) (n : ℕ) → length os ≡ n + 1 → length (fewer os) ≡ n
length_fewer [] n e = absurd (omega (arith, e))
length_fewer (x ∷ os) n e = omega (arith, e)

-- What an accepted call was not refused for.

not_first : (b : Bool) (x : Refusal) (o : Option Refusal) → None ≡ first b x o → (b ≡ false) × (None ≡ o)
not_first true x o e = cc
not_first false x o e = (refl, e)

not_or_else : (o p : Option Refusal) → None ≡ or_else o p → (None ≡ o) × (None ≡ p)
not_or_else None p e = (refl, e)
not_or_else (Some x) p e = cc

-- so many elements, and so deep, that one more may be spelled
spelt_room : (name : List ℕ) (d : Draft) (els : List Element) (ns : List ℕ) → None ≡ spell_refusal name d els ns → (d.count < 4096) × (d.groups ≤ 64)
spelt_room name d els ns e =
    let p = not_first (short d.count d.bytes els ns) no.Memory _ e in
    let q = not_first (no_room d.count els) no.ElementsFull _ p.1 in
    let r = not_first (ltb 64 d.groups) no.TooDeep _ q.1 in
    let s = or_parts (leb (length els) d.count) (leb 4096 d.count) q.0 in
    (leb-false 4096 d.count s.1, ltb-false 64 d.groups r.0)

-- Call by call.

tells_same : {w : Words} {d : Draft} {els : List Element} {ns : List ℕ} {d' : Draft} {els' : List Element} {ns' : List ℕ}
    → Same d els ns d' els' ns' → DraftTells w d els ns → DraftTells w d' els' ns'
tells_same s t = rw (s.draft, s.elements, s.names) t

-- the two lists after a call
abbrev after : Call → Bool → Words → Words
after call ok w = cond ok (said call w) w

root_alone : {name : List ℕ} {i : Option ℤ} {els : List Element} {ns : List ℕ} {d : Draft} {els' : List Element} {ns' : List ℕ}
    (s : Spelt None i (k.Group None) name blank els ns d els' ns') → rows_kept d.bytes (new_row s ∷ []) ≡ true
unfolding new_row
root_alone {d = d} s = and_from (root_kept d.bytes (new_row s)) true (spelt_inside s) refl

tells_begun : {name : List ℕ} {i : Option ℤ} {els : List Element} {ns : List ℕ} {d : Draft} {els' : List Element} {ns' : List ℕ} → Begun name i els ns (Ok d) els' ns'
    → DraftTells (record { elements = root_of name i ∷ []; opened = root_of name i ∷ [] }) d els' ns'
tells_begun {name} {i} {els} {ns} {d} {els'} {ns'} b =
    let s = b.after in
    let one : take d.count els' ≡ new_row s ∷ [] = spelt_front s in
    record {
      fits = spelt_fits s;
      room = omega (arith, s.room, spelt_long s);
      shows = spelt_shows s [] 0 refl refl tt;
      kept = ap (rows_kept d.bytes) one ∙ root_alone s;
      next = spelt_next s;
      some = omega (arith, s.groups);
      groups = omega (arith, s.groups);
      opened = (refl, tt);
    }

module _ (w : Words) {d : Draft} {els : List Element} {ns : List ℕ} {d' : Draft} {els' : List Element} {ns' : List ℕ} (t : DraftTells w d els ns) where
  tells_opened : {name : List ℕ} {q : Repetition} {n : Option Annotation} {i : Option ℤ} (r : Result ℕ Refusal) → Opened name q n i d els ns r d' els' ns' → DraftTells (after (opens name q n i) (is_ok r) w) d' els' ns'
  tells_opened {name} {q} {n} {i} (Ok m) o =
      let s = o.after.1 in
      let room = spelt_room name d els ns o.answer in
      record {
        fits = spelt_fits s;
        room = omega (arith, s.room, spelt_long s);
        shows = spelt_shows s w.elements (length w.opened) (sym t.groups) t.shows (rows_inside d.bytes (take d.count els) t.kept);
        kept = spelt_kept s refl refl t.some room.1 room.0 t.fits t.next t.kept;
        next = spelt_next s;
        some = omega (arith, s.groups);
        groups = omega (arith, s.groups, t.groups);
        opened = (push_same (length w.opened) w.elements _ refl, open_push w.elements w.opened (element_of w name q i (k.Group n)) (omega arith) t.opened);
      }
  tells_opened (Err x) o = tells_same o.after t

  tells_added : {name : List ℕ} {q : Repetition} {l : Leaf} {i : Option ℤ} (r : Result ℕ Refusal) → Added name q l i d els ns r d' els' ns' → DraftTells (after (adds name q l i) (is_ok r) w) d' els' ns'
  tells_added {name} {q} {l} {i} (Ok m) o =
      let s = o.after.1 in
      let parts = not_or_else (spell_refusal name d els ns) _ o.answer in
      let room = spelt_room name d els ns parts.0 in
      let leaf : keeps_leaf_rules l ≡ true = not-false (keeps_leaf_rules l) (not_first (not (keeps_leaf_rules l)) no.LeafRule None parts.1).0 in
      record {
        fits = spelt_fits s;
        room = omega (arith, s.room, spelt_long s);
        shows = spelt_shows s w.elements (length w.opened) (sym t.groups) t.shows (rows_inside d.bytes (take d.count els) t.kept);
        kept = spelt_kept s refl leaf t.some room.1 room.0 t.fits t.next t.kept;
        next = spelt_next s;
        some = omega (arith, s.groups, t.some);
        groups = omega (arith, s.groups, t.groups);
        opened = open_push w.elements w.opened (element_of w name q i (k.Leaf l)) (omega arith) t.opened;
      }
  tells_added (Err x) o = tells_same o.after t

tells_closed : (w : Words) {d : Draft} {els : List Element} {ns : List ℕ} {d' : Draft} → DraftTells w d els ns
    → (r : Result (Unit {0}) Refusal) → Closed d r d' → DraftTells (after closes (is_ok r) w) d' els ns
tells_closed w {d} {els} {ns} {d'} t (Ok x) o =
    let s = o.after in
    let more : 1 < d.groups = leb-false d.groups 1 (not_first (leb d.groups 1) no.NoGroupOpen None o.answer).0 in
    record {
      fits = omega (arith, s.count, t.fits);
      room = omega (arith, s.bytes, t.room);
      shows = ap (λ n. shown n els ns) s.count ∙ t.shows;
      kept = rw (s.count, s.bytes) t.kept;
      next = rw s.count (omega (arith, s.groups, t.next));
      some = omega (arith, s.groups, more);
      groups = sym (length_fewer w.opened d'.groups (sym t.groups ∙ s.groups));
      opened = open_fewer w.elements w.opened t.opened;
    }
tells_closed w {d} {els} {ns} {d'} t (Err x) o = rw o.after t

-- Sizes change nothing that is shown.

sized_shown : (ns : List ℕ) (es : List Element) → map (shown_as ns) (sized es) ≡ map (shown_as ns) es
sized_shown ns [] = refl
sized_shown ns (e ∷ es) = ap (λ xs. shown_as ns e ∷ xs) (sized_shown ns es)

-- the counted rows after an accepted finish
pub whole_rows : {d : Draft} {els : List Element} {s : Schema} {els' : List Element} → Whole d els s els' → d.count ≤ length els → take s.count els' ≡ sized (take d.count els)
whole_rows {d} {els} {s} {els'} o h =
    ap (λ n. take n els') o.count ∙ ap (take d.count) o.elements
    ∙ take_at (sized (take d.count els)) (drop d.count els) d.count (length_sized (take d.count els) ∙ length-take-le d.count els h)

pub whole_long : {d : Draft} {els : List Element} {s : Schema} {els' : List Element} → Whole d els s els' → length els' ≡ length els
whole_long {d} {els} {s} {els'} o =
    omega (arith, ap length o.elements, length-append (sized (take d.count els)) (drop d.count els), length_sized (take d.count els), length-take d.count els, length-drop d.count els)

tells_finished : (w : Words) {d : Draft} {els : List Element} {ns : List ℕ} {els' : List Element} → DraftTells w d els ns
    → (r : Result Schema (Draft × Refusal)) → Finished d els ns r els' → Tells (after finishes (is_ok r) w) (held_after r) els' ns
tells_finished w {d} {els} {ns} {els'} t (Ok s) o =
    let rows = whole_rows o.after t.fits in
    let z = sized_tree d.bytes (take d.count els) (tree_from_steps d.bytes (take d.count els) t.kept) in
    record {
      fits = omega (arith, whole_long o.after, o.after.count, t.fits);
      room = omega (arith, o.after.bytes, t.room);
      elements = ap (map (shown_as ns)) rows ∙ sized_shown ns (take d.count els) ∙ t.shows;
      root = z.0;
      tree = rw (rows, o.after.bytes) z.1;
      sizes = rw rows z.2;
    }
tells_finished w t (Err e) o = rw (o.after.0, o.after.1) t

tells_moved : (w : Words) (s : Held) (els : List Element) (ns : List ℕ) (els' : List Element) (ns' : List ℕ) → Tells w s els ns
    → take (count_of s) els' ≡ take (count_of s) els → take (bytes_of s) ns' ≡ take (bytes_of s) ns → Tells w s els' ns'
tells_moved w (drafted d) els ns els' ns' t e f = record {
  fits = long_enough d.count els els' e t.fits;
  room = long_enough d.bytes ns ns' f t.room;
  shows = ap (map (shown_as ns')) e ∙ kept_shown ns ns' d.bytes (take d.count els) f (rows_inside d.bytes (take d.count els) t.kept) ∙ t.shows;
  kept = ap (rows_kept d.bytes) e ∙ t.kept;
  next = rw e t.next;
  some = t.some;
  groups = t.groups;
  opened = t.opened;
}
tells_moved w (whole s) els ns els' ns' t e f = record {
  fits = long_enough s.count els els' e t.fits;
  room = long_enough s.bytes ns ns' f t.room;
  elements =
      ap (map (shown_as ns')) e
      ∙ kept_shown ns ns' s.bytes (take s.count els) f (rows_inside s.bytes (take s.count els) (steps_from_tree s.bytes (take s.count els) (t.root, t.tree)))
      ∙ t.elements;
  root = t.root;
  tree = rw e t.tree;
  sizes = rw e t.sizes;
}

-- a call that says nothing
unsaid : (ok : Bool) (w : Words) → w ≡ cond ok w w
unsaid true w = refl
unsaid false w = refl

reached_tells : {h : List Event} {s : Held} {els : List Element} {ns : List ℕ} → Reached h s els ns → Tells (spelled h) s els ns
reached_tells (begun b) = tells_begun b
reached_tells (opened {h = h} {r = r} p o) = tells_opened (spelled h) (reached_tells p) r o
reached_tells (added {h = h} {r = r} p o) = tells_added (spelled h) (reached_tells p) r o
reached_tells (closed {h = h} {r = r} p o) = tells_closed (spelled h) (reached_tells p) r o
reached_tells (finished {h = h} {r = r} p o) = tells_finished (spelled h) (reached_tells p) r o
reached_tells (listed {h = h} {s = s} {els = els} {ns = ns} ok p) = subst (λ w. Tells w s els ns) (unsaid ok (spelled h)) (reached_tells p)
reached_tells (converted {h = h} {s = s} {els = els} {ns = ns} ok p) = subst (λ w. Tells w s els ns) (unsaid ok (spelled h)) (reached_tells p)
reached_tells (lent {h = h} {s = s} {els = els} {ns = ns} {els' = els'} {ns' = ns'} p e f) = tells_moved (spelled h) s els ns els' ns' (reached_tells p) e f

-- The law: what is held holds what the accepted calls spelled.
pub reached_holds : {h : List Event} (s : Held) {els : List Element} {ns : List ℕ} → Reached h s els ns → Holds (spelled h) s els ns
reached_holds (drafted d) p = draft_holds (reached_tells p)
reached_holds (whole s) p = reached_tells p

pub finish_law : {h : List Event} {d : Draft} {els : List Element} {ns : List ℕ} {r : Result Schema (Draft × Refusal)} {els' : List Element}
    → Reached h (drafted d) els ns → Finished d els ns r els' → FinishLaw h d els ns r els'
finish_law {h} {d} {els} {ns} {r} {els'} p o =
    let t = reached_tells p in
    let enough : short d.count d.bytes els ns ≡ false = or_from _ _ (le-ltb (length els) d.count t.fits) (le-ltb (length ns) d.bytes t.room) in
    let right : (short d.count d.bytes els ns || not (rows_kept d.bytes (take d.count els))) ≡ false = or_from _ _ enough (ap not t.kept) in
    record {
      before = draft_holds t;
      answer =
          o.answer ∙ ap (λ b. first b no.Memory (first (not (eqb d.groups 1)) no.GroupOpen None)) right ∙ ap (λ n. first (not (eqb n 1)) no.GroupOpen None) t.groups;
      after = after_finish r (reached_holds (held_after r) (finished p o));
    }
  where
    after_finish : (r : Result Schema (Draft × Refusal)) → Holds (spelled (event finishes (is_ok r) ∷ h)) (held_after r) els' ns → Holds (spelled h) (held_after r) els' ns
    after_finish (Ok s) x = x
    after_finish (Err e) x = x

-- An accepted finish in a tree's words, whatever the memory holds.

pub finish_means : {d : Draft} {els : List Element} {ns : List ℕ} (r : Result Schema (Draft × Refusal)) {els' : List Element} → Finished d els ns r els' → FinishMeans d els ns r els'
finish_means {d} {els} {ns} (Ok s) {els'} o =
    let p = not_first (short d.count d.bytes els ns || not (rows_kept d.bytes (take d.count els))) no.Memory _ o.answer in
    let q = or_parts (short d.count d.bytes els ns) (not (rows_kept d.bytes (take d.count els))) p.0 in
    let long = ltb-false (length els) d.count (or_parts (ltb (length els) d.count) (ltb (length ns) d.bytes) q.0).0 in
    let tree = tree_from_steps d.bytes (take d.count els) (not-false _ q.1) in
    let z = sized_tree d.bytes (take d.count els) tree in
    let rows = whole_rows o.after long in
    (tree, (z.0, rw (rows, o.after.bytes) z.1, rw rows z.2))
finish_means {d} {els} {ns} (Err e) {els'} o = λ is fits room tree.
    let enough : short d.count d.bytes els ns ≡ false = or_from _ _ (le-ltb (length els) d.count fits) (le-ltb (length ns) d.bytes room) in
    let right : (short d.count d.bytes els ns || not (rows_kept d.bytes (take d.count els))) ≡ false = or_from _ _ enough (ap not (steps_from_tree d.bytes (take d.count els) tree)) in
    let got : Some e.1 ≡ first (not (eqb d.groups 1)) no.GroupOpen None = o.answer ∙ ap (λ b. first b no.Memory (first (not (eqb d.groups 1)) no.GroupOpen None)) right in
    not_memory (not (eqb d.groups 1)) (ap Some (sym is) ∙ got)
  where
    not_memory : (b : Bool) → Some no.Memory ≡ first b no.GroupOpen None → ⊥
    not_memory true x = cc
    not_memory false x = cc

-- Lent memory.

pub memory_decides : (s : Schema) (els : List Element) (ns : List ℕ) (r : Bool) → r ≡ memory_kept s els ns → Decides r (IsMemory s els ns)
memory_decides s els ns r e = (
  (λ t.
      let p = and_parts (not (short s.count s.bytes els ns)) (finished_kept s.bytes (take s.count els)) (sym e ∙ t) in
      let q = or_parts (ltb (length els) s.count) (ltb (length ns) s.bytes) (not-true (short s.count s.bytes els ns) p.0) in
      record {
        fits = ltb-false (length els) s.count q.0;
        room = ltb-false (length ns) s.bytes q.1;
        tree = finished_from_kept s.bytes (take s.count els) p.1;
      }),
  (λ m.
      e ∙ and_from (not (short s.count s.bytes els ns)) (finished_kept s.bytes (take s.count els))
      (ap not (or_from _ _ (le-ltb (length els) s.count m.fits) (le-ltb (length ns) s.bytes m.room)))
      (kept_from_finished s.bytes (take s.count els) m.tree)),
)

pub memory_law : {h : List Event} {s : Schema} {els : List Element} {ns : List ℕ} → Reached h (whole s) els ns → (r : Bool) → r ≡ memory_kept s els ns → r ≡ true
memory_law {h} {s} {els} {ns} p r e =
    let t = reached_tells p in
    (memory_decides s els ns r e).1 (record { fits = t.fits; room = t.room; tree = (t.root, t.tree, t.sizes) })
