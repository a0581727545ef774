-- A conversion's tables, before and after they are cleared.
use Rattle.std.proofs.Common.{◌≡◌, ℕ, ◌-◌, ◌*◌, ◌/◌, ◌<◌, ◌≤◌, Bool, true, false, ◌&&◌, ltb, List, ◌++◌, map, length, take, drop, replicate, None, Ok, Err, Option, Result, sym, refl, ap, ◌∙◌, subst, ap₂, arith}
use borrow.Rule.Slice.PartMut.{put_mid}
use Rattle.std.specs.List.{range_with_len}
use Rattle.std.specs.Result.{is_err, result_unwrap_or}
use Rattle.std.proofs.lemmas.Grind.{common_steps}
use Rattle.std.proofs.lemmas.List.FromFn.{fill_by_all}
use Rattle.std.proofs.lemmas.Bool.{le-ltb, lt-ltb, or_from}
use Rattle.tree.specs.Forest.{Forest, alone, count, listing}
use Rattle.schema.specs.declared.draft.Schema.{Schema}
use Rattle.schema.specs.declared.element.Element.{Element}
use Rattle.schema.specs.declared.refusal.Refusal.{Refusal}
use Rattle.schema.specs.declared.refusal.Refusal.TheVariants as no
use Rattle.schema.specs.Posts.{first, memory_kept}
use Rattle.schema.specs.Reach.{Reached, whole}
use Rattle.schema.specs.Rows.{IsFinished}
use Rattle.schema.specs.Words.{Event}
use Rattle.columns.specs.Levels.{leaves_of}
use Rattle.arrow.specs.declared.hint.HintRow.{HintRow}
use Rattle.arrow.specs.declared.row.ResultRow.{ResultRow}
use Rattle.arrow.specs.HintTrees.{IsHint}
use Rattle.selection.specs.Choosing.{Chosen}
use Rattle.selection.specs.Sets.{below, in_flags}
use Rattle.walk.specs.Hints.{hints_of}
use Rattle.walk.specs.Labels.{shown_tree}
use Rattle.walk.specs.Walk.{Full, leaf_typing, walk_under}
use Rattle.walk.proofs.Chosen.{same_selection}
use Rattle.promise.specs.Conversion.{Conversion, Converts, Refused, Settled, conversion, empty_row, leaves}
use Rattle.promise.specs.Conversion.Converts.{no_hint as told_hint, no_room as told_room, other_memory as told_memory, walked as told_walk}
use Rattle.promise.specs.Promise.{Promised}
use Rattle.promise.proofs.Kept.{promise_kept}
use Rattle.promise.proofs.Leaves.{leaf_count_is, leaves_end}
use Rattle.convert.specs.Handed.{WholeHints}
use Rattle.convert.specs.Root.{Front, Walks}
use Rattle.convert.specs.Uncleared.{Uncleared, flags_after, rows_after}
use Rattle.convert.specs.Uncleared.Uncleared.{no_hint, no_room, other_memory, walked}
use Rattle.convert.specs.Visit.{Input}

-- ── What is walked fits ──

front_fits : (names : List ℕ) (w : Result (Forest Full) Refusal) (after : List ResultRow) (r : Result ℕ Refusal) → Front names w after r → result_unwrap_or r 0 ≤ length after
front_fits names (Ok f) after r q = subst (λ (x : Result ℕ Refusal). result_unwrap_or x 0 ≤ length after) (sym q.0) q.1
front_fits names (Err e) after r q = subst (λ (x : Result ℕ Refusal). result_unwrap_or x 0 ≤ length after) (sym q) (omega arith)

pub walks_fit : (s : Input) (after : List ResultRow) (r : Result ℕ Refusal) → Walks s after r → (bytes : ℕ) × IsFinished bytes s.elements → WholeHints s.hints → result_unwrap_or r 0 ≤ length after
walks_fit s after r w t h = front_fits s.names (walk_under s.text h.0 (in_flags s.flags) (shown_tree s.names t.1.0)) after r (w t.0 t.1 h.0 h.1)

-- ── Chosen leaves ──

pub accepted_long : (n m : ℕ) → ◌≡◌ {A = Option Refusal} None (first (ltb n m) no.Table None) → ltb n m ≡ false
accepted_long n m q = go (ltb n m) q
  where
    go : (b : Bool) → ◌≡◌ {A = Option Refusal} None (first b no.Table None) → b ≡ false
    go true p = absurd cc
    go false p = refl

pub chosen_flags : (set : ℕ → Bool) (n : ℕ) (room : ℕ) (flags : List Bool) → length flags ≡ room → ((k : ℕ) → in_flags flags k ≡ below n set k) → flags ≡ map (below n set) (range_with_len 0 room)
chosen_flags set n room flags l e = fill_by_all (below n set) flags room false l (λ k h. e k)

-- the walk by the flags is the walk by the set
module _ (names text : List ℕ) (bytes : ℕ) (elements : List Element) (tree : IsFinished bytes elements) (h : Forest HintRow) (flags : List Bool) (set : ℕ → Bool) where
  pub walk_by_set : ((k : ℕ) → in_flags flags k ≡ below (length (leaves_of elements)) set k)
      → walk_under text h (in_flags flags) (shown_tree names tree.0) ≡ walk_under text h set (shown_tree names tree.0)
  walk_by_set e =
      same_selection (leaf_typing (listing h) text) (in_flags flags) set (hints_of text 0 h) (shown_tree names tree.0) (leaves_end names 0 (alone tree.0) tree.1.depths)
      (λ k l. e k ∙ ap (λ (b : Bool). b && set k) (lt-ltb k (length (leaves_of elements)) (subst (λ (n : ℕ). k < n) (leaf_count_is names bytes elements tree) l)))

-- ── Cleared ──

module _ (s : Schema) (els : List Element) (ns : List ℕ) (set : ℕ → Bool) (hints : List HintRow) (text : List ℕ) (room flag_room : ℕ) (r : Result ℕ Refusal) (rows : List ResultRow) (flags : List Bool)
    (long : length rows ≡ room) (many : length flags ≡ flag_room) where
  abbrev cleared : Conversion
  cleared = conversion s els ns set hints text room flag_room r (rows_after r rows) (flags_after r flags)

  refused : (e : Refusal) → r ≡ Err e → Refused cleared e
  refused e q = record {
    answer = q;
    rows =
        ap (λ (x : Result ℕ Refusal). rows_after x rows) q
        ∙ ap (λ (n : ℕ). replicate n empty_row) (let z : length rows - 0 ≡ room = omega arith in z);
    flags = ap (λ (x : Result ℕ Refusal). flags_after x flags) q ∙ ap (λ (n : ℕ). replicate n false) many;
  }

  settled : (w : Result (Forest Full) Refusal) → flags ≡ map (below (leaves cleared) set) (range_with_len 0 flag_room) → Front ns w rows r → Settled cleared w
  settled (Ok f) e q = record {
    answer = q.0;
    used = take (count f) rows;
    rows =
        ap (λ (x : Result ℕ Refusal). rows_after x rows) q.0
        ∙ ap (λ (n : ℕ). take (count f) rows ++ replicate (n - count f) empty_row) long;
    shown = q.2;
    flags = ap (λ (x : Result ℕ Refusal). flags_after x flags) q.0 ∙ e;
  }
  settled (Err d) e q = refused d q

  pub converts : Uncleared (conversion s els ns set hints text room flag_room r rows flags) → Converts cleared
  converts (other_memory k a) = told_memory k (refused no.Memory a)
  converts (no_hint k h a) = told_hint k h (refused no.Hint a)
  converts (no_room k h t a) = told_room k h t (refused no.Table a)
  converts (walked k h t f w) = told_walk k h t (λ tree hs l. settled (walk_under text hs set (shown_tree ns tree.0)) f (w tree hs l))

  pub kept_as : (rows' : List ResultRow) (flags' : List Bool) → rows' ≡ rows_after r rows → flags' ≡ flags_after r flags
      → Uncleared (conversion s els ns set hints text room flag_room r rows flags)
      → record {
        told : Converts (conversion s els ns set hints text room flag_room r rows' flags');
        promise : (h : List Event) → Reached h (whole s) els ns → Promised h (conversion s els ns set hints text room flag_room r rows' flags');
      }
  kept_as rows' flags' e f u =
      let told : Converts (conversion s els ns set hints text room flag_room r rows' flags') =
      subst Converts (ap₂ (λ (x : List ResultRow) (y : List Bool). conversion s els ns set hints text room flag_room r x y) (sym e) (sym f)) (converts u) in
      record { told = told; promise = promise_kept (conversion s els ns set hints text room flag_room r rows' flags') told }

-- refused, every flag is cleared, and else none
pub flags_kept : (r : Result ℕ Refusal) (flags : List Bool) → false ≡ is_err r → flags ≡ flags_after r flags
flags_kept (Ok n) flags e = refl
flags_kept (Err d) flags e = absurd cc

pub flags_gone : (r : Result ℕ Refusal) (flags flags' : List Bool) → true ≡ is_err r → flags' ≡ replicate (length flags) false → flags' ≡ flags_after r flags
flags_gone (Ok n) flags flags' e f = absurd cc
flags_gone (Err d) flags flags' e f = f

-- a fill of all past a place
filled : (rows fill : List ResultRow) (n : ℕ) → fill ≡ replicate (length (take (length rows - n) (drop n rows))) empty_row
    → put_mid n (length rows - n) rows fill ≡ take n rows ++ replicate (length rows - n) empty_row
filled rows fill n f = grind (arith, common_steps)

-- the rows past the used ones, filled
pub rows_cleared : (r : Result ℕ Refusal) (n : ℕ) (rows fill : List ResultRow) → n ≡ result_unwrap_or r 0
    → fill ≡ replicate (length (take (length rows - n) (drop n rows))) empty_row → put_mid n (length rows - n) rows fill ≡ rows_after r rows
rows_cleared r n rows fill e f = filled rows fill n f ∙ ap (λ (k : ℕ). take k rows ++ replicate (length rows - k) empty_row) e

-- ── The steps ──

-- the elements that are lent on are the counted ones
pub lent_on : (els : List Element) (n m : ℕ) → n ≡ m → take (n - 0) els ≡ take m els
lent_on els n m e = ap (λ (k : ℕ). take k els) (let z : n - 0 ≡ m = omega (arith, e) in z)

module _ (s : Schema) (els : List Element) (ns : List ℕ) (set : ℕ → Bool) (hints : List HintRow) (text : List ℕ) (room flag_room : ℕ) where
  module _ (k : true ≡ memory_kept s els ns) (d : IsHint (length text) hints) (n : ℕ) (e : n ≡ s.count) where
    module _ (flags flags' : List Bool) (many : length flags ≡ flag_room) (m : ℕ) (c : m ≡ length (leaves_of (take (n - 0) els))) where
      counts : m ≡ length (leaves_of (take s.count els))
      counts = c ∙ ap (λ (l : List Element). length (leaves_of l)) (lent_on els n s.count e)

      pub step_walk : n ≤ room / 2 → (u : Unit {0}) → Chosen set m flags (Ok u) flags' → (r : Result ℕ Refusal) (rows : List ResultRow)
          → Walks (record { elements = take (n - 0) els; names = ns; hints = hints; text = text; flags = flags' }) rows r
          → Uncleared (conversion s els ns set hints text room flag_room r rows flags')
      step_walk h u o r rows w =
          let L = length (leaves_of (take s.count els)) in
          let by : (i : ℕ) → in_flags flags' i ≡ below L set i = (λ i. o.after i ∙ ap (λ (l : ℕ). below l set i) counts) in
          let w' : Walks (record { elements = take s.count els; names = ns; hints = hints; text = text; flags = flags' }) rows r =
          subst (λ (l : List Element). Walks (record { elements = l; names = ns; hints = hints; text = text; flags = flags' }) rows r) (lent_on els n s.count e) w in
          walked (sym k) d
          (or_from (ltb room (2 * s.count)) (ltb flag_room L) (le-ltb room (2 * s.count) (omega (arith, e))) (sym (ap₂ ltb many counts) ∙ accepted_long (length flags) m o.answer))
          (chosen_flags set L flag_room flags' (o.count ∙ many) by)
          (λ tree hs l. subst (λ (x : Result (Forest Full) Refusal). Front ns x rows r) (walk_by_set ns text s.bytes (take s.count els) tree hs flags' set by) (w' s.bytes tree hs l))
