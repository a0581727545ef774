-- The laws of leaf types.
use Rattle.std.proofs.Common.{◌≡◌, ℕ, zero, suc, ◌+◌, ◌<◌, ◌≤◌, Bool, true, false, cond, ◌&&◌, eqb, ltb, leb, ◌⊎◌, List, [], ◌∷◌, ◌++◌, length, drop, ℤ, pos, negsuc, Some, None, Option, sym, refl, ap, ◌∙◌, subst, inl, inr, append_assoc, append-nil, add-one, arith, length-append}
use lib.Signed.{le_z}
use Rattle.std.proofs.lemmas.List.{drop_all}
use Rattle.std.proofs.lemmas.Bool.{false≢true, true≢false, cases_Bool, and_parts, and_from, and_right, leb-true, le-leb, ne_eqb, eq-eqb}
use Rattle.tree.specs.Forest.{Forest, listing, count, Sized, Lists, below_at}
use Rattle.tree.specs.Forest.Forest.{bare, plant}
use Rattle.tree.proofs.Trees.{drop_next, seen_at}
use Rattle.schema.specs.declared.basic.PhysicalType.{PhysicalType}
use Rattle.schema.specs.declared.basic.PhysicalType.TheVariants as p
use Rattle.schema.specs.declared.basic.TimeUnit.{TimeUnit as ParquetUnit}
use Rattle.schema.specs.declared.basic.TimeUnit.TheVariants.{Millis, Micros, Nanos}
use Rattle.schema.specs.declared.basic.LogicalType.{LogicalType}
use Rattle.schema.specs.declared.basic.LogicalType.TheVariants as l
use Rattle.schema.specs.declared.basic.ConvertedType.{ConvertedType}
use Rattle.schema.specs.declared.basic.ConvertedType.TheVariants as c
use Rattle.schema.specs.declared.element.Leaf.{Leaf}
use Rattle.schema.specs.Decimals.{digits, in_bytes, within_limit, fits, annotated, decimal_of, kept_by, keeps_decimal_rule}
use Rattle.arrow.specs.declared.types.ArrowType.{ArrowType}
use Rattle.arrow.specs.declared.types.ArrowType.TheVariants as a
use Rattle.arrow.specs.declared.hint.HintRow.{HintRow}
use Rattle.arrow.specs.Kinds.{hint_span}
use Rattle.arrow.specs.Same.{meaning}
use Rattle.arrow.specs.HintTrees.{empty_hint}
use Rattle.arrow.specs.Annotations.{Annotation, annotation, first_told, converted_told, by_converted, plain, unknown, string, enum, json, bson, uuid, float16, date, interval, nested, decimal, integer, time, timestamp}
use Rattle.arrow.specs.Table.{Answer, unit_of, zone_by, int_on_32, int_on_64, time_on_32, time_on_64, tellable, decimal_128, decimal_256, decimal_by_length, at_length, row, row_of, column, known, leaf_type}
use Rattle.arrow.specs.Hints.{view, is_dictionary, only_child, told, takes, kept, hinted, hinted_by}
use Rattle.arrow.specs.Convert.{unit_fixed, under_hint, if_typed, converted_leaf, typed_under}
use Rattle.arrow.specs.Laws.{scale_of, stamp_unit, last_value, values, row_at, LeafLaws}
use Rattle.arrow.proofs.Depths.{getD_first}
use Rattle.arrow.proofs.Ways.{same_dictionary, same_scale, same_stamp_unit, takes_scale, takes_unit, way}

-- A property that the leaf's own type has, and every hint that is taken, holds of the values.

module _ (fixed : Bool) (text : List ℕ) (own : ArrowType) (plain_own : is_dictionary own ≡ false) (Q : ArrowType → Type 0) (begin : Q own) (taking : (t : ArrowType) → takes fixed (view own) (view t) ≡ true → Q t) (respects : (x y : ArrowType) → meaning text x ≡ meaning text y → Q x → Q y) where
  abbrev ValuesIn : List HintRow → ArrowType → Type 0
  ValuesIn rows t = Q (cond (is_dictionary t) (last_value rows) t)

  kept_value : (i : ℕ) (child : HintRow) (rest : List HintRow) (t : ArrowType) → meaning text t ≡ meaning text (told (i + 1) child) → ValuesIn (child ∷ rest) t → Q (last_value (child ∷ rest))
  kept_value i child rest t e q =
      elim (cases_Bool (is_dictionary t)) [
        | inl d ↦ subst (λ b. Q (cond b (last_value (child ∷ rest)) t)) d q
        | inr d ↦ let inner : Q t = subst (λ b. Q (cond b (last_value (child ∷ rest)) t)) d q in
            elim (cases_Bool (is_dictionary child.data_type)) [
              | inl k ↦ let same : is_dictionary t ≡ is_dictionary (told (i + 1) child) = same_dictionary text t (told (i + 1) child) e in
                  let yes : is_dictionary (told (i + 1) child) ≡ true = rw k refl in
                  absurd (true≢false (sym yes ∙ sym same ∙ d))
              | inr k ↦ let is : told (i + 1) child ≡ child.data_type = rw k refl in
                  rw k (subst Q is (respects t (told (i + 1) child) e inner))
            ]
      ]

  carried : (rows : List HintRow) (i : ℕ) → ValuesIn rows (hinted fixed text own i rows)
  carried [] i = rw plain_own begin
  carried (h ∷ rows) i =
      let inner = carried rows (i + 1) in
      elim (way fixed text own (h ∷ rows) i) [
        | inl e ↦ subst (λ t. ValuesIn (h ∷ rows) t) (sym e) (rw plain_own begin)
        | inr (inl k) ↦ subst (λ t. ValuesIn (h ∷ rows) t) (sym k.is) (rw k.plain (taking k.first.data_type k.taken))
        | inr (inr k) ↦ let head : h ≡ k.first = cc in
            let tail : rows ≡ k.child ∷ k.rest = cc in
            let dict : is_dictionary h.data_type ≡ true = ap (λ r. is_dictionary r.data_type) head ∙ k.dict in
            let below : ValuesIn (k.child ∷ k.rest) (hinted fixed text own (i + 1) (k.child ∷ k.rest)) = subst (λ xs. ValuesIn xs (hinted fixed text own (i + 1) xs)) tail inner in
            let all : Q (last_value rows) = subst (λ xs. Q (last_value xs)) (sym tail) (kept_value i k.child k.rest (hinted fixed text own (i + 1) (k.child ∷ k.rest)) k.means below) in
            subst (λ t. ValuesIn (h ∷ rows) t) (sym k.is) (rw dict all)
      ]

-- Answers.

typed_by : (g : ArrowType → ArrowType) (o : Answer) (t : ArrowType) → if_typed g o ≡ Some t → (own : ArrowType) × (o ≡ Some own) × (t ≡ g own)
typed_by g None t e = absurd (let q : ◌≡◌ {A = ℕ} 0 1 = cc in omega arith)
typed_by g (Some x) t e = (x, refl, cc)

never_untyped : (g : ArrowType → ArrowType) (o : Answer) → if_typed g o ≡ None → o ≡ None
never_untyped g None e = refl
never_untyped g (Some x) e = absurd (let q : ◌≡◌ {A = ℕ} 0 1 = cc in omega arith)

unchanged : (g : ArrowType → ArrowType) → ((t : ArrowType) → g t ≡ t) → (o : Answer) → if_typed g o ≡ o
unchanged g same None = refl
unchanged g same (Some x) = ap Some (same x)

some_is : {X : Type 0} (x y : X) → Some x ≡ Some y → x ≡ y
some_is x y e = cc

-- A leaf's own type is no dictionary.

abbrev Undictionary : Answer → Type 0
Undictionary None = Unit {0}
Undictionary (Some t) = is_dictionary t ≡ false

if_told : (b : Bool) (t : ArrowType) → is_dictionary t ≡ false → Undictionary (cond b (Some t) None)
if_told true t e = e
if_told false t e = tt

if_either : (b : Bool) (x y : Answer) → Undictionary x → Undictionary y → Undictionary (cond b x y)
if_either true x y u v = u
if_either false x y u v = v

signed_or_not : (g : Bool) (x y : ArrowType) → is_dictionary x ≡ false → is_dictionary y ≡ false → is_dictionary (cond g x y) ≡ false
signed_or_not true x y u v = u
signed_or_not false x y u v = v

int_32 : (w : ℤ) (g : Bool) → Undictionary (int_on_32 w g)
int_32 (pos n) g =
    if_either (eqb n 8) _ _ (signed_or_not g a.Int8 a.UInt8 refl refl) (if_either (eqb n 16) _ _ (signed_or_not g a.Int16 a.UInt16 refl refl) (if_told (eqb n 32) (cond g a.Int32 a.UInt32) (signed_or_not g a.Int32 a.UInt32 refl refl)))
int_32 (negsuc n) g = tt

int_64 : (w : ℤ) (g : Bool) → Undictionary (int_on_64 w g)
int_64 (pos n) g = if_told (eqb n 64) (cond g a.Int64 a.UInt64) (signed_or_not g a.Int64 a.UInt64 refl refl)
int_64 (negsuc n) g = tt

time_32 : (u : ParquetUnit) → Undictionary (time_on_32 u)
time_32 Millis = refl
time_32 Micros = tt
time_32 Nanos = tt

time_64 : (u : ParquetUnit) → Undictionary (time_on_64 u)
time_64 Millis = tt
time_64 Micros = refl
time_64 Nanos = refl

one_length : (k : ℕ) (n : ℤ) (t : ArrowType) → is_dictionary t ≡ false → Undictionary (at_length k n t)
one_length k (pos n) t e = if_told (eqb n k) t e
one_length k (negsuc n) t e = tt

narrow : (s d : ℤ) → Undictionary (decimal_128 s d)
narrow s d = if_told (tellable s d) (a.Decimal128 (digits d) s) refl

wide : (s d : ℤ) → Undictionary (decimal_256 s d)
wide s d = if_told (tellable s d) (a.Decimal256 (digits d) s) refl

by_length : (n s d : ℤ) → Undictionary (decimal_by_length n s d)
by_length n s d =
    if_either (le_z (pos 1) n && le_z n (pos 32)) _ None (if_either (le_z n (pos 16)) (decimal_128 s d) (decimal_256 s d) (narrow s d) (wide s d)) tt

abbrev AllFour : Answer × Answer × Answer × Answer → Type 0
AllFour w = Undictionary w.0 × Undictionary w.1 × Undictionary w.2 × Undictionary w.3

each_row : (n : ℤ) (x : Annotation) → AllFour (row n x)
each_row n plain = (refl, refl, refl, refl)
each_row n unknown = (tt, tt, tt, refl)
each_row n string = (tt, tt, refl, refl)
each_row n enum = (tt, tt, refl, refl)
each_row n json = (tt, tt, refl, refl)
each_row n bson = (tt, tt, refl, refl)
each_row n uuid = (tt, tt, tt, refl)
each_row n float16 = (tt, tt, tt, one_length 2 n a.Float16 refl)
each_row n date = (refl, tt, tt, refl)
each_row n interval = (tt, tt, tt, one_length 12 n _ refl)
each_row n nested = (tt, tt, tt, refl)
each_row n (decimal s d) = (narrow s d, narrow s d, if_either (le_z d (pos 38)) (decimal_128 s d) (decimal_256 s d) (narrow s d) (wide s d), by_length n s d)
each_row n (integer w g) = (int_32 w g, int_64 w g, tt, refl)
each_row n (time u) = (time_32 u, time_64 u, tt, refl)
each_row n (timestamp z u) = (tt, refl, tt, refl)

each_column : (x : PhysicalType) (w : Answer × Answer × Answer × Answer) → AllFour w → Undictionary (column x w)
each_column p.Boolean w u = refl
each_column p.Int32 w u = u.0
each_column p.Int64 w u = u.1
each_column p.Int96 w u = refl
each_column p.Float w u = refl
each_column p.Double w u = refl
each_column p.ByteArray w u = u.2
each_column p.FixedLenByteArray w u = u.3

each_known : (x : Annotation) (o : Answer) → Undictionary o → Undictionary (known x o)
each_known unknown o q = refl
each_known x o q = q

own_plain : (f : Leaf) (own : ArrowType) → leaf_type f ≡ Some own → is_dictionary own ≡ false
own_plain f own e =
    subst Undictionary e (each_known (annotation f) (column f.physical (row_of f)) (each_column f.physical (row_of f) (each_row f.type_length (annotation f))))

-- Decimals.

logical_decimal : (t : LogicalType) (n : Annotation) (s d : ℤ) (x : ℤ × ℤ) (cv : Option ConvertedType) → annotated (Some t) cv s d ≡ Some x → first_told (Some t) n ≡ decimal x.0 x.1
logical_decimal (l.Decimal s' d') n s d x cv e = ap (λ y. decimal y.0 y.1) (some_is (s', d') x e)
logical_decimal t n s d x cv e = absurd (let q : ◌≡◌ {A = ℕ} 0 1 = cc in omega arith)

converted_decimal : (cv : ConvertedType) (s d : ℤ) (x : ℤ × ℤ) → annotated None (Some cv) s d ≡ Some x → by_converted s d cv ≡ decimal x.0 x.1
converted_decimal c.Decimal s d x e = ap (λ y. decimal y.0 y.1) (some_is (s, d) x e)
converted_decimal k s d x e = absurd (let q : ◌≡◌ {A = ℕ} 0 1 = cc in omega arith)

annotated_decimal : (o : Option LogicalType) (cv : Option ConvertedType) (s d : ℤ) (x : ℤ × ℤ) → annotated o cv s d ≡ Some x → first_told o (converted_told s d cv) ≡ decimal x.0 x.1
annotated_decimal (Some t) cv s d x e = logical_decimal t (converted_told s d cv) s d x cv e
annotated_decimal None (Some cv) s d x e = converted_decimal cv s d x e
annotated_decimal None None s d x e = absurd (let q : ◌≡◌ {A = ℕ} 0 1 = cc in omega arith)

-- 1 ≤ d ≤ 76 and 0 ≤ s ≤ d
room : (s d : ℤ) → le_z (pos 1) d ≡ true → le_z d (pos 76) ≡ true → le_z (pos 0) s ≡ true → le_z s d ≡ true → tellable s d ≡ true
room (pos s) (pos d) h k m n =
    let short : d ≤ 76 = leb-true d 76 k in
    let under : s ≤ d = leb-true s d n in
    and_from (leb s 127 && leb 0 d) (leb d 255) (and_from (leb s 127) (leb 0 d) (le-leb s 127 (omega arith)) (le-leb 0 d (omega arith))) (le-leb d 255 (omega arith))
room (pos s) (negsuc d) h k m n = absurd (false≢true h)
room (negsuc s) d h k m n = absurd (false≢true m)

abbrev EitherWidth : ℤ → ℤ → Answer → Type 0
EitherWidth s d o = (o ≡ Some (a.Decimal128 (digits d) s)) ⊎ (o ≡ Some (a.Decimal256 (digits d) s))

width_if : (b : Bool) (s d : ℤ) → tellable s d ≡ true → EitherWidth s d (cond b (decimal_128 s d) (decimal_256 s d))
width_if true s d e = inl (rw e refl)
width_if false s d e = inr (rw e refl)

fixed_length : (n : ℤ) (k : ℕ) → in_bytes n k ≡ true → (le_z (pos 1) n && le_z n (pos 32)) ≡ true
fixed_length (pos n) k e = (and_parts (ltb 0 n && leb n 32) _ e).0
fixed_length (negsuc n) k e = absurd (false≢true e)

held : (x : PhysicalType) (n s d : ℤ) → within_limit x n (digits d) ≡ true → tellable s d ≡ true → EitherWidth s d (column x (row n (decimal s d)))
held p.Int32 n s d h e = inl (rw e refl)
held p.Int64 n s d h e = inl (rw e refl)
held p.ByteArray n s d h e = width_if (le_z d (pos 38)) s d e
held p.FixedLenByteArray n s d h e =
    subst (λ b. EitherWidth s d (cond b (cond (le_z n (pos 16)) (decimal_128 s d) (decimal_256 s d)) None)) (sym (fixed_length n (digits d) h)) (width_if (le_z n (pos 16)) s d e)
held x n s d h e = absurd (false≢true h)

fitting : (x : PhysicalType) (n s d : ℤ) → fits x n s d ≡ true → EitherWidth s d (column x (row n (decimal s d)))
fitting x n s d h =
    let limit = and_parts (le_z (pos 1) d && le_z d (pos 76) && le_z (pos 0) s && le_z s d) (within_limit x n (digits d)) h in
    let under = and_parts (le_z (pos 1) d && le_z d (pos 76) && le_z (pos 0) s) (le_z s d) limit.0 in
    let low = and_parts (le_z (pos 1) d && le_z d (pos 76)) (le_z (pos 0) s) under.0 in
    let long = and_parts (le_z (pos 1) d) (le_z d (pos 76)) low.0 in
    held x n s d limit.1 (room s d long.0 long.1 low.1 under.1)

decimal_leaf : (f : Leaf) (s d : ℤ) → keeps_decimal_rule f ≡ true → decimal_of f ≡ Some (s, d) → EitherWidth s d (leaf_type f)
decimal_leaf f s d h e =
    let rule : fits f.physical f.type_length s d ≡ true = subst (λ o. kept_by f.physical f.type_length o ≡ true) e h in
    let is : annotation f ≡ decimal s d = annotated_decimal f.logical f.converted f.scale f.precision (s, d) e in
    subst (λ x. EitherWidth s d (known x (column f.physical (row f.type_length x)))) (sym is) (fitting f.physical f.type_length s d rule)

-- In a tree.

module _ (fixed : Bool) (text : List ℕ) (own : ArrowType) where
  childless : (i : ℕ) (h : HintRow) (rest : List HintRow) → h.size ≡ 1 → hinted fixed text own i (h ∷ rest) ≡ hinted_by fixed text own i h bare
  childless i h [] e = refl
  childless i h (c ∷ rest) e =
      let no : only_child h c ≡ false = single h.size c.size e in
      rw no refl
    where
      single : (m n : ℕ) → m ≡ 1 → (leb 1 n && eqb m (n + 1)) ≡ false
      single m zero e = refl
      single m (suc n) e = and_right (leb 1 (suc n)) (eqb m (suc n + 1)) (ne_eqb m (suc n + 1) (λ q. omega arith))

  listed : (b : Forest HintRow) (i : ℕ) (h : HintRow) (rest : List HintRow) → h.size ≡ suc (count b) → Sized hint_span b → hinted fixed text own i (h ∷ (listing b ++ rest)) ≡ hinted_by fixed text own i h b
  listed bare i h rest e s = childless i h rest e
  listed (plant c v bare) i h rest e s =
      let flat : listing v ++ [] ≡ listing v = append-nil (listing v) in
      let yes : only_child h c ≡ true = and_from (leb 1 c.size) (eqb h.size (c.size + 1)) (le-leb 1 c.size (omega (arith, s.0))) (eq-eqb h.size (c.size + 1) (omega (arith, s.0, e, ap length flat))) in
      let inner : hinted fixed text own (i + 1) (c ∷ ((listing v ++ []) ++ rest)) ≡ hinted_by fixed text own (i + 1) c v = ap (λ xs. hinted fixed text own (i + 1) (c ∷ (xs ++ rest))) flat ∙ listed v (i + 1) c rest s.0 s.1 in
      rw yes (ap (λ t. cond (is_dictionary h.data_type) (kept text i (told (i + 1) c) t) (cond (takes fixed (view own) (view h.data_type)) h.data_type own)) inner)
  listed (plant c v (plant r u w)) i h rest e s =
      let n = length-append (listing v) (r ∷ (listing u ++ listing w)) in
      let no : only_child h c ≡ false = more h.size c.size (λ q. omega (arith, s.0, e, n, q)) in
      rw no refl
    where
      more : (m k : ℕ) → (m ≡ k + 1 → ⊥) → (leb 1 k && eqb m (k + 1)) ≡ false
      more m zero q = refl
      more m (suc k) q = and_right (leb 1 (suc k)) (eqb m (suc k + 1)) (ne_eqb m (suc k + 1) q)

  at_row : (f : Forest HintRow) (hints : List HintRow) → Lists hint_span f hints → (i : ℕ) → i < length hints → hinted fixed text own i (drop i hints) ≡ hinted_by fixed text own i (row_at hints i) (below_at f i)
  at_row f hints l i h =
      let r = seen_at hint_span f hints l i h in
      let b = below_at f i in
      ap (hinted fixed text own i) r.split ∙ listed b i r.row r.rest r.told r.sized ∙ ap (λ x. hinted_by fixed text own i x b) (sym (getD_first hints i empty_hint r.row (listing b ++ r.rest) r.split))

alike_typed : (g k : ArrowType → ArrowType) → ((t : ArrowType) → g t ≡ k t) → (o : Answer) → if_typed g o ≡ if_typed k o
alike_typed g k same None = refl
alike_typed g k same (Some x) = ap Some (same x)

-- Leaves under a hint.

module _ (f : Leaf) (hints : List HintRow) (text : List ℕ) (i : ℕ) where
  abbrev fixes : Bool
  fixes = unit_fixed f.physical

  abbrev under : ArrowType → ArrowType
  under t = hinted fixes text t i (drop i hints)

  known_as : (own t : ArrowType) → leaf_type f ≡ Some own → converted_leaf f hints text (Some i) ≡ Some t → t ≡ under own
  known_as own t e h = some_is t (under own) (sym h ∙ ap (if_typed under) e)

  unrowed : length hints < i + 1 → converted_leaf f hints text (Some i) ≡ leaf_type f
  unrowed h = unchanged under (λ t. ap (hinted fixes text t i) (drop_all i hints (omega arith))) (leaf_type f)

  two : (own t : ArrowType) → leaf_type f ≡ Some own → converted_leaf f hints text (Some i) ≡ Some t → (t ≡ own) ⊎ (t ≡ told i (row_at hints i))
  two own t e h =
      let is = known_as own t e h in
      elim (way fixes text own (drop i hints) i) [
        | inl q ↦ inl (is ∙ q)
        | inr (inl k) ↦ let here = getD_first hints i empty_hint k.first k.rest k.rows_are in
            let plain_row : told i k.first ≡ k.first.data_type = rw k.plain refl in
            inr (is ∙ k.is ∙ sym plain_row ∙ ap (told i) (sym here))
        | inr (inr k) ↦ let here = getD_first hints i empty_hint k.first (k.child ∷ k.rest) k.rows_are in
            let dict_row : told i k.first ≡ a.Dictionary i = rw k.dict refl in
            inr (is ∙ k.is ∙ sym dict_row ∙ ap (told i) (sym here))
      ]

  scale_stays : (own t : ArrowType) (s : ℤ) → leaf_type f ≡ Some own → scale_of own ≡ Some s → converted_leaf f hints text (Some i) ≡ Some t → scale_of (values hints i t) ≡ Some s
  scale_stays own t s e q h =
      subst (λ x. scale_of (values hints i x) ≡ Some s) (sym (known_as own t e h)) (carried fixes text own (own_plain f own e) (λ x. scale_of x ≡ Some s) q (λ x k. takes_scale fixes (view own) (view x) s k q) (λ x y m k. sym (same_scale text x y m) ∙ k) (drop i hints) i)

  unit_stays : (utc : Bool) (u : ParquetUnit) (t : ArrowType) → f.physical ≡ p.Int64 → annotation f ≡ timestamp utc u → converted_leaf f hints text (Some i) ≡ Some t → stamp_unit (values hints i t) ≡ Some (unit_of u)
  unit_stays utc u t phys note h =
      let own : ArrowType = a.Timestamp (unit_of u) (zone_by utc) in
      let typed : leaf_type f ≡ Some (a.Timestamp (unit_of u) (zone_by utc)) = ap (λ x. known x (column f.physical (row f.type_length x))) note ∙ ap (λ x. column x (row f.type_length (timestamp utc u))) phys in
      let set : fixes ≡ true = ap unit_fixed phys in
      subst (λ x. stamp_unit (values hints i x) ≡ Some (unit_of u)) (sym (known_as (a.Timestamp (unit_of u) (zone_by utc)) t typed h)) (carried fixes text (a.Timestamp (unit_of u) (zone_by utc)) refl (λ x. stamp_unit x ≡ Some (unit_of u)) refl (λ x k. takes_unit (view (a.Timestamp (unit_of u) (zone_by utc))) (view x) (unit_of u) (subst (λ b. takes b (view (a.Timestamp (unit_of u) (zone_by utc))) (view x) ≡ true) set k) refl) (λ x y m k. sym (same_stamp_unit text x y m) ∙ k) (drop i hints) i)

  kept_as : (j : ℕ) → converted_leaf f hints text (Some i) ≡ Some (a.Dictionary j) → (j ≡ i) × ((v : ArrowType) × (converted_leaf f hints text (Some (i + 1)) ≡ Some v) × (meaning text v ≡ meaning text (told (i + 1) (row_at hints (i + 1)))))
  kept_as j h =
      let o = typed_by under (leaf_type f) (a.Dictionary j) h in
      let own = o.0 in
      let plain_own = own_plain f o.0 o.1 in
      elim (way fixes text o.0 (drop i hints) i) [
        | inl q ↦ absurd (true≢false (ap is_dictionary (o.2 ∙ q) ∙ plain_own))
        | inr (inl k) ↦ absurd (true≢false (ap is_dictionary (o.2 ∙ k.is) ∙ k.plain))
        | inr (inr k) ↦ let numbers : a.Dictionary j ≡ a.Dictionary i = o.2 ∙ k.is in
            let below : drop (i + 1) hints ≡ k.child ∷ k.rest = ap (λ n. drop n hints) (add-one i) ∙ drop_next hints i k.first (k.child ∷ k.rest) k.rows_are in
            let here = getD_first hints (i + 1) empty_hint k.child k.rest below in
            (cc, (hinted fixes text o.0 (i + 1) (drop (i + 1) hints), ap (if_typed (λ t. hinted fixes text t (i + 1) (drop (i + 1) hints))) o.1, ap (λ xs. meaning text (hinted fixes text o.0 (i + 1) xs)) below ∙ k.means ∙ ap (λ r. meaning text (told (i + 1) r)) (sym here)))
      ]

  dropped_as : (t : ArrowType) → is_dictionary (row_at hints i).data_type ≡ true → converted_leaf f hints text (Some i) ≡ Some t → is_dictionary t ≡ false → leaf_type f ≡ Some t
  dropped_as t d h q =
      let o = typed_by under (leaf_type f) t h in
      elim (way fixes text o.0 (drop i hints) i) [
        | inl e ↦ o.1 ∙ ap Some (sym (o.2 ∙ e))
        | inr (inl k) ↦ let here = getD_first hints i empty_hint k.first k.rest k.rows_are in
            absurd (true≢false (sym d ∙ ap (λ r. is_dictionary r.data_type) here ∙ k.plain))
        | inr (inr k) ↦ absurd (true≢false (ap is_dictionary (sym (o.2 ∙ k.is)) ∙ q))
      ]

  first_tree : (h : HintRow) (below after : Forest HintRow) (rest : List HintRow) → drop i hints ≡ listing (plant h below after) ++ rest → Sized hint_span (plant h below after) → converted_leaf f hints text (Some i) ≡ typed_under f text i (plant h below after)
  first_tree h below after rest e s =
      let e' : drop i hints ≡ h ∷ (listing below ++ (listing after ++ rest)) = e ∙ ap (λ xs. h ∷ xs) (append_assoc (listing below) (listing after) rest) in
      alike_typed under (λ t. hinted_by fixes text t i h below) (λ t. ap (hinted fixes text t i) e' ∙ listed fixes text t below i h (listing after ++ rest) s.0 s.1) (leaf_type f)

  tree_at : (g : Forest HintRow) → Lists hint_span g hints → i < length hints → converted_leaf f hints text (Some i) ≡ typed_under f text i (plant (row_at hints i) (below_at g i) bare)
  tree_at g l h = alike_typed under (λ t. hinted_by fixes text t i (row_at hints i) (below_at g i)) (λ t. at_row fixes text t g hints l i h) (leaf_type f)

pub all_laws : LeafLaws
all_laws =
    record {
      unhinted = λ f hints text. unchanged (λ t. t) (λ t. refl) (leaf_type f);
      past = unrowed;
      typed = λ f hints text row e. ap (if_typed (under_hint f hints text row)) e;
      stays_typed = λ f hints text row e. never_untyped (under_hint f hints text row) (leaf_type f) e;
      one_of_two = two;
      scale = scale_stays;
      unit = unit_stays;
      kept = kept_as;
      dropped = dropped_as;
      decimals = decimal_leaf;
      in_forest = first_tree;
      in_tree = λ f hints text g l i h. tree_at f hints text i g l h;
    }
