-- The walking order is the order of the table, and the faults of one element come by rank.
use Rattle.std.proofs.Common.{◌≡◌, ℕ, ◌+◌, ◌≤◌, Bool, true, false, cond, not, ◌&&◌, ◌||◌, List, [], ◌∷◌, ◌++◌, map, Some, sym, refl, ap, ◌∙◌, subst, ap₂, arith, length-append, None, Ok, Err, Result}
use Rattle.walk.proofs.Lists.{all_append}
use mathlib.Core.List.{map-append}
use Rattle.std.specs.List.{range_with_len, AllByRecursion}
use Rattle.walk.proofs.Numbers.{counting_append}
use Rattle.walk.specs.Faults.{Typing, leaf_hint}
use Rattle.walk.specs.Forests.{Spot, first_below, one_tree, some_root, trees, two_trees}
use Rattle.walk.specs.Handing.{compares_names, field_hint, hands_on, hinting, unwrap, wrapped}
use Rattle.walk.specs.Hints.{Hint, any_list, any_map, any_struct, others, plain_list, sole}
use Rattle.walk.specs.Labels.{is_leaf, is_repeated, leaf_count, numbered, numbered_as}
use Rattle.walk.specs.Laws.{LeavesEnd, Rising, WalkedInOrder}
use Rattle.walk.specs.Reading.{Holder, Part, Read, child_part, held_by, next_part, nobody, reading, role_of}
use Rattle.walk.specs.Reading.Part.{as_root}
use Rattle.walk.specs.Refusing.{below_groups, by_itself, faults_at, group_faults, hint_faults, map_faults, miscounted, misnamed, no_such, not_over_two, rank, repeated_group, repeated_label, rule_faults, untyped, walked, when}
use Rattle.walk.specs.declared.role.Role.{Role}
use Rattle.walk.specs.declared.role.Role.TheVariants.{Entries as entries, Listed as listed, Mapped as mapped, Middle as middle, Own as own}
use Rattle.schema.specs.Refusals.{element_of}
use Rattle.schema.specs.Words.{Spelled}
use Rattle.schema.specs.declared.basic.Repetition.{Repetition}
use Rattle.schema.specs.declared.element.Kind.{Kind}
use Rattle.schema.specs.declared.element.Kind.TheVariants.{Group as group, Leaf as leaf}
use Rattle.schema.specs.declared.refusal.Refusal.{Refusal}
use Rattle.tree.specs.Forest.{Forest, alone, count, listing}
use Rattle.tree.specs.Forest.Forest.{bare, plant}
use Rattle.schema.specs.declared.basic.Annotation.TheVariants as a
use Rattle.schema.specs.declared.refusal.Refusal.TheVariants as no

-- ── The elements walked ──

abbrev spot_number : Spot Read → ℕ
spot_number p = p.node.of.number

below_counted : (k : Kind) (ps : List (Spot Read)) (from : ℕ) (s : Forest Spelled) → (is_leaf k ≡ true → s ≡ bare)
    → map spot_number ps ≡ range_with_len from (count s) → map spot_number (below_groups k ps) ≡ range_with_len from (count s)
below_counted (leaf l) ps from s h e = ap (λ (z : Forest Spelled). range_with_len from (count z)) (sym (h refl))
below_counted (group a) ps from s h e = e

walked_counted : (b : Bool) (u h : Forest Hint) (t : Part) (g : Holder) (n k : ℕ) (s : Forest Spelled) → LeavesEnd s
    → map spot_number (walked (hinting b u h (reading t g (numbered n k s)))) ≡ range_with_len n (count s)
unfolding hinting reading
walked_counted b u h t g n k bare l = refl
walked_counted b u h t g n k (plant e below after) l =
    let x = numbered_as n k e in
    let bs = numbered (n + 1) k below in
    let role = role_of t x bs in
    let k' = k + cond (is_leaf e.kind) 1 (leaf_count below) in
    let f = hinting (compares_names role) (field_hint t u (sole h)) (hands_on role (wrapped t x.repetition) (sole h)) (reading (child_part role x.name bs) (held_by t g x) bs) in
    let rest = hinting b u (others h) (reading (next_part t) g (numbered (n + 1 + count below) k' after)) in
    ap {B = List ℕ} (λ (ns : List ℕ). n ∷ ns)
    (map-append spot_number (below_groups e.kind (walked f)) (walked rest)
    ∙ ap₂ (λ (x y : List ℕ). x ++ y)
    (below_counted e.kind (walked f) (n + 1) below l.0
    (walked_counted (compares_names role) (field_hint t u (sole h)) (hands_on role (wrapped t x.repetition) (sole h)) (child_part role x.name bs) (held_by t g x) (n + 1) k below l.1))
    (walked_counted b u (others h) (next_part t) g (n + 1 + count below) k' after l.2)
    ∙ counting_append (n + 1) (count below) (count after)
    ∙ ap (range_with_len (n + 1)) (sym (length-append (listing below) (listing after))))

-- ── The faults of one element ──

-- ranks that rise between two bounds
abbrev Between : ℕ → ℕ → List ℕ → Type 0
Between low high [] = low ≤ high
Between low high (n ∷ ns) = (low ≤ n) × Between n high ns

between_append : (a b c : ℕ) (xs ys : List ℕ) → Between a b xs → Between b c ys → Between a c (xs ++ ys)
between_append a b c [] ys p q = lower a b c ys p q
  where
    lower : (a b c : ℕ) (ys : List ℕ) → a ≤ b → Between b c ys → Between a c ys
    lower a b c [] p q = omega (arith, q)
    lower a b c (y ∷ ys) p q = (omega (arith, q.0), q.1)
between_append a b c (x ∷ xs) ys p q = (p.0, between_append x b c xs ys p.1 q)

rising : (a b : ℕ) (ns : List ℕ) → Between a b ns → Rising a ns
rising a b [] p = tt
rising a b (n ∷ ns) p = (p.0, rising n b ns p.1)

-- refusals that name e, and whose ranks rise between two bounds
record Fine (e a b : ℕ) (rs : List Refusal) : Type 0 where
  pub ranked : Between a b (map rank rs)
  pub names : AllByRecursion (λ r. element_of r ≡ Some e) rs

one : (e a b : ℕ) (x : Bool) (r : Refusal) → element_of r ≡ Some e → a ≤ rank r → rank r ≤ b → Fine e a b (when x r)
one e a b true r n p q = record { ranked = (p, q); names = (n, tt) }
one e a b false r n p q = record { ranked = omega (arith, p, q); names = tt }

both : {e a b c : ℕ} {xs ys : List Refusal} → Fine e a b xs → Fine e b c ys → Fine e a c (xs ++ ys)
both {e} {a} {b} {c} {xs} {ys} p q =
    record {
      ranked = subst (λ (ns : List ℕ). Between a c ns) (sym (map-append rank xs ys)) (between_append a b c (map rank xs) (map rank ys) p.ranked q.ranked);
      names = all_append (λ r. element_of r ≡ Some e) xs ys p.names q.names;
    }

none : (e a b : ℕ) → a ≤ b → Fine e a b []
none e a b p = record { ranked = p; names = tt }

list_fine : (e : ℕ) (x y z : Bool) → Fine e 0 17 (when x (no.ListChildren e) ++ (when y (no.ListChildNotRepeated e) ++ when z (no.ListRepeated e)))
list_fine e x y z =
    both (one e 0 10 x (no.ListChildren e) refl (omega arith) (omega arith))
    (both (one e 10 11 y (no.ListChildNotRepeated e) refl (omega arith) (omega arith)) (one e 11 17 z (no.ListRepeated e) refl (omega arith) (omega arith)))

map_fine : (e : ℕ) (x y z u v : Bool)
    → Fine e 0 17 (when x (no.MapRepeated e) ++ (when y (no.MapChildren e) ++ (when z (no.MapChildNotRepeatedGroup e) ++ (when u (no.EntriesChildren e) ++ when v (no.EntryRepeated e)))))
map_fine e x y z u v =
    both (one e 0 13 x (no.MapRepeated e) refl (omega arith) (omega arith))
    (both (one e 13 14 y (no.MapChildren e) refl (omega arith) (omega arith))
    (both (one e 14 15 z (no.MapChildNotRepeatedGroup e) refl (omega arith) (omega arith))
    (both (one e 15 16 u (no.EntriesChildren e) refl (omega arith) (omega arith)) (one e 16 17 v (no.EntryRepeated e) refl (omega arith) (omega arith)))))

map_rules : (e : ℕ) (rep : Repetition) (below : Forest Read) → Fine e 0 17 (map_faults e rep below)
map_rules e rep below =
    map_fine e (is_repeated rep) (not (one_tree below)) (one_tree below && not (some_root repeated_group below))
    (one_tree below && not (one_tree (first_below below) || two_trees (first_below below)))
    (one_tree below && (two_trees (first_below below) && some_root repeated_label (first_below below)))

rules_fine : (e : ℕ) (k : Kind) (rep : Repetition) (below : Forest Read) → Fine e 0 17 (rule_faults e k rep below)
rules_fine e (leaf l) rep below = none e 0 17 (omega arith)
rules_fine e (group None) rep below = none e 0 17 (omega arith)
rules_fine e (group (Some a.List)) rep below =
    list_fine e (not (one_tree below)) (one_tree below && not (some_root repeated_label below)) (is_repeated rep)
rules_fine e (group (Some a.Map)) rep below = map_rules e rep below
rules_fine e (group (Some a.MapKeyValue)) rep below = map_rules e rep below

itself_fine : (e : ℕ) (b : Bool) (rs : List Refusal) → Fine e 0 17 rs → Fine e 0 17 (cond b rs [])
itself_fine e true rs p = p
itself_fine e false rs p = none e 0 17 (omega arith)

group_fine : (e : ℕ) (role : Result Role Refusal) (w : Bool) (hint : Forest Hint) (n : ℕ) → Fine e 17 22 (group_faults e role w hint n)
group_fine e (Ok own) w hint n =
    both (one e 17 18 (w && no_such plain_list hint) (no.HintKind e) refl (omega arith) (omega arith))
    (both (one e 18 18 (no_such any_struct (unwrap w hint)) (no.HintKind e) refl (omega arith) (omega arith))
    (one e 18 22 (miscounted n (unwrap w hint)) (no.HintFieldCount e) refl (omega arith) (omega arith)))
group_fine e (Ok listed) w hint n = one e 17 22 (no_such any_list hint) (no.HintKind e) refl (omega arith) (omega arith)
group_fine e (Ok middle) w hint n = none e 17 22 (omega arith)
group_fine e (Ok mapped) w hint n =
    both (one e 17 18 (no_such any_map hint) (no.HintKind e) refl (omega arith) (omega arith))
    (one e 18 22 (not_over_two hint) (no.HintMap e) refl (omega arith) (omega arith))
group_fine e (Ok entries) w hint n = none e 17 22 (omega arith)
group_fine e (Err r) w hint n = none e 17 22 (omega arith)

module _ (typing : Typing) (chosen : ℕ → Bool) where
  hints_fine : (k : Kind) (x : Read) (w : Bool) (n : ℕ) → Fine x.of.number 17 22 (hint_faults typing chosen k x w n)
  hints_fine (leaf l) x w n =
      both (one x.of.number 17 18 (chosen x.of.leaf_number && (w && no_such plain_list x.given.hint)) (no.HintKind x.of.number) refl (omega arith) (omega arith))
      (one x.of.number 18 22 (chosen x.of.leaf_number && untyped (typing l (leaf_hint x))) (no.LeafType x.of.number) refl (omega arith) (omega arith))
  hints_fine (group a) x w n = group_fine x.of.number x.role w x.given.hint n

  fine_at : (p : Spot Read) → Fine p.node.of.number 0 22 (faults_at typing chosen p)
  fine_at p =
      let x = p.node in
      let e = x.of.number in
      let rules = rule_faults e x.of.kind x.of.repetition p.below in
      both (one e 0 0 (misnamed x.given.named x.of.name x.given.hint) (no.HintFieldName e) refl (omega arith) (omega arith))
      (both (itself_fine e (by_itself x.part) rules (rules_fine e x.of.kind x.of.repetition p.below))
      (hints_fine x.of.kind x (wrapped x.part x.of.repetition) (trees p.below)))

pub walked_in_order : WalkedInOrder
walked_in_order typing chosen hints t =
    record {
      elements = λ l. walked_counted false bare hints as_root nobody 0 0 (alone t) l;
      ranks = λ p. rising 0 22 (map rank (faults_at typing chosen p)) (fine_at typing chosen p).ranked;
      names = λ p. (fine_at typing chosen p).names;
    }
