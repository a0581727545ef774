-- When two types mean the same: the test decides whether their meanings are equal.
use Rattle.std.proofs.Common.{◌≡◌, ℕ, true, ◌&&◌, eqb, List, ℤ, Some, None, Decides, Option, refl, ap, subst, ap₂, rules}
use Rattle.std.specs.Str.{bytes_eq}
use Rattle.std.proofs.lemmas.Bool.{false≢true, and_parts}
use Rattle.std.proofs.lemmas.Slice.Eq.{bytes_eq-Decides}
use Rattle.std.proofs.lemmas.Bool.Decides.{Decides-like, Decides-and, Decides-eqb, Decides-int_eq}
use Rattle.std.specs.Cmp.{booleans_Decides}
use Rattle.std.specs.Ordering.{int_eq}
use Rattle.arrow.specs.declared.types.TimeUnit.{TimeUnit}
use Rattle.arrow.specs.declared.types.ArrowType.{ArrowType}
use Rattle.arrow.specs.declared.types.ArrowType.TheVariants as a
use Rattle.arrow.specs.contracts.types.ArrowTypePartialEq.TheImpl as derived
use Rattle.arrow.specs.contracts.types.ArrowTypeEq.TheImpl.Laws as laws
use Rattle.arrow.specs.Same.{spelled_if_any, alike_if_any, same_zone, zone_of, same, bared, meaning}
use Rattle.arrow.specs.Hints.{same_unit}

pairs_apart : (width : ℕ → ℤ → ArrowType) (p q : ℕ) (s t : ℤ) → (eqb p q && int_eq s t) ≡ true → width p s ≡ width q t
pairs_apart width p q s t e =
    let k = and_parts (eqb p q) (int_eq s t) e in
    ap₂ width ((Decides-eqb p q).0 k.0) ((Decides-int_eq s t).0 k.1)

alike_decides : (o p : Option (List ℕ)) → Decides (alike_if_any o p) (o ≡ p)
alike_decides None None = (λ _. refl, λ _. refl)
alike_decides None (Some y) = (λ e. absurd (false≢true e), λ e. cc)
alike_decides (Some x) None = (λ e. absurd (false≢true e), λ e. cc)
alike_decides (Some x) (Some y) = Decides-like (bytes_eq x y) (λ e. ap Some e) (λ e. cc) (bytes_eq-Decides x y)

pub unit_decides : (u v : TimeUnit) → Decides (same_unit u v) (u ≡ v)
unit_decides u v = search rules

-- types that the derived `==` calls equal are one
told_apart : (x y : ArrowType) → derived.ghosts.eq x y ≡ true → x ≡ y
told_apart (a.FixedSizeBinary n) (a.FixedSizeBinary m) e = ap a.FixedSizeBinary ((Decides-int_eq n m).0 e)
told_apart (a.Time32 u) (a.Time32 v) e = ap a.Time32 ((unit_decides u v).0 e)
told_apart (a.Time64 u) (a.Time64 v) e = ap a.Time64 ((unit_decides u v).0 e)
told_apart (a.Timestamp u z) (a.Timestamp v y) e =
    let k = and_parts (same_unit u v) _ e in
    ap₂ a.Timestamp ((unit_decides u v).0 k.0) (search (rules, k.1))
told_apart (a.Duration u) (a.Duration v) e = ap a.Duration ((unit_decides u v).0 e)
told_apart (a.Interval u) (a.Interval v) e = ap a.Interval (search (rules, e))
told_apart (a.Decimal32 p s) (a.Decimal32 q t) e = pairs_apart a.Decimal32 p q s t e
told_apart (a.Decimal64 p s) (a.Decimal64 q t) e = pairs_apart a.Decimal64 p q s t e
told_apart (a.Decimal128 p s) (a.Decimal128 q t) e = pairs_apart a.Decimal128 p q s t e
told_apart (a.Decimal256 p s) (a.Decimal256 q t) e = pairs_apart a.Decimal256 p q s t e
told_apart (a.FixedSizeList n) (a.FixedSizeList m) e = ap a.FixedSizeList ((Decides-int_eq n m).0 e)
told_apart (a.Map s) (a.Map t) e = ap a.Map ((booleans_Decides s t).0 e)
told_apart (a.Dictionary i) (a.Dictionary j) e = ap a.Dictionary ((Decides-eqb i j).0 e)
told_apart a.Null a.Null e = refl
told_apart a.Boolean a.Boolean e = refl
told_apart a.Int8 a.Int8 e = refl
told_apart a.Int16 a.Int16 e = refl
told_apart a.Int32 a.Int32 e = refl
told_apart a.Int64 a.Int64 e = refl
told_apart a.UInt8 a.UInt8 e = refl
told_apart a.UInt16 a.UInt16 e = refl
told_apart a.UInt32 a.UInt32 e = refl
told_apart a.UInt64 a.UInt64 e = refl
told_apart a.Float16 a.Float16 e = refl
told_apart a.Float32 a.Float32 e = refl
told_apart a.Float64 a.Float64 e = refl
told_apart a.Utf8 a.Utf8 e = refl
told_apart a.LargeUtf8 a.LargeUtf8 e = refl
told_apart a.Utf8View a.Utf8View e = refl
told_apart a.Binary a.Binary e = refl
told_apart a.LargeBinary a.LargeBinary e = refl
told_apart a.BinaryView a.BinaryView e = refl
told_apart a.Date32 a.Date32 e = refl
told_apart a.Date64 a.Date64 e = refl
told_apart a.List a.List e = refl
told_apart a.LargeList a.LargeList e = refl
told_apart a.ListView a.ListView e = refl
told_apart a.LargeListView a.LargeListView e = refl
told_apart a.Struct a.Struct e = refl
told_apart x y e = absurd (false≢true e)

type_decides : (x y : ArrowType) → Decides (derived.ghosts.eq x y) (x ≡ y)
type_decides x y = (told_apart x y, λ e. subst (λ z. derived.ghosts.eq x z ≡ true) e (laws.laws-law.refl x))

pub same_decides : (text : List ℕ) (x y : ArrowType) → Decides (same text x y) (meaning text x ≡ meaning text y)
same_decides text x y =
    Decides-like (same text x y) (λ p. ap₂ (λ t z. (t, z)) p.0 p.1) (λ e. (ap (λ m. m.0) e, ap (λ m. m.1) e)) (Decides-and (derived.ghosts.eq (bared x) (bared y)) (same_zone text (zone_of x) (zone_of y)) (type_decides (bared x) (bared y)) (alike_decides (spelled_if_any text (zone_of x)) (spelled_if_any text (zone_of y))))

pub same_refl : (text : List ℕ) (x : ArrowType) → same text x x ≡ true
same_refl text x = (same_decides text x x).1 refl
