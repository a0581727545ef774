-- A kind of logical type has no other kind's payload.
use Rattle.std.proofs.Common.{◌≡◌, ℕ, true, false, cond, List, ℤ, Some, None, codes, Option, sym, refl, ◌∙◌, subst, arith, w8, w32}
use Rattle.std.specs.Str.{bytes_eq}
use Rattle.std.proofs.lemmas.Slice.Eq.{bytes_eq-Decides}
use Rattle.schema.specs.declared.basic.LogicalType.{LogicalType}
use Rattle.schema.specs.declared.basic.LogicalType.TheVariants as l
use Rattle.schema.specs.declared.basic.TimeUnit.{TimeUnit}
use Rattle.script.specs.declared.words.Sign.{Sign}
use Rattle.script.specs.declared.words.Sign.TheVariants as s
use Rattle.script.specs.declared.words.Clock.{Clock}
use Rattle.script.specs.declared.words.Clock.TheVariants as k
use Rattle.script.specs.Cuts.{Parts}
use Rattle.script.specs.Spelling.{NumberSpelled, sign_word, clock_word, unit_word, PayloadSpelled, SpelledInParts, LogicalSpelled, Read}
use Rattle.script.proofs.Cutting.{same_parts}

differ : (a b : List ℕ) → bytes_eq a b ≡ false → a ≡ b → ⊥
differ a b apart e =
    let z : true ≡ false = sym ((bytes_eq-Decides a b).1 e) ∙ apart in
    let y : ◌≡◌ {A = ℕ} 0 1 = cc in
    omega arith

-- only four kinds of logical type have a payload
none_of_four : (kind first second : List ℕ) → ((a b : ℤ) → kind ≡ codes "decimal" → NumberSpelled w32 first a → NumberSpelled w32 second b → ⊥) → ((a : ℤ) (b : Sign) → kind ≡ codes "integer" → NumberSpelled w8 first a → second ≡ sign_word b → ⊥) → ((a : Clock) (b : TimeUnit) → kind ≡ codes "time" → first ≡ clock_word a → second ≡ unit_word b → ⊥) → ((a : Clock) (b : TimeUnit) → kind ≡ codes "timestamp" → first ≡ clock_word a → second ≡ unit_word b → ⊥) → (x : LogicalType) → PayloadSpelled kind first second x → ⊥
none_of_four kind first second if_decimal if_integer if_time if_timestamp l.Unknown h = h
none_of_four kind first second if_decimal if_integer if_time if_timestamp l.String h = h
none_of_four kind first second if_decimal if_integer if_time if_timestamp l.Enum h = h
none_of_four kind first second if_decimal if_integer if_time if_timestamp l.Json h = h
none_of_four kind first second if_decimal if_integer if_time if_timestamp l.Bson h = h
none_of_four kind first second if_decimal if_integer if_time if_timestamp l.Uuid h = h
none_of_four kind first second if_decimal if_integer if_time if_timestamp l.Float16 h = h
none_of_four kind first second if_decimal if_integer if_time if_timestamp l.Date h = h
none_of_four kind first second if_decimal if_integer if_time if_timestamp (l.Decimal scale precision) h = if_decimal scale precision h.0 h.1 h.2
none_of_four kind first second if_decimal if_integer if_time if_timestamp (l.Integer width signed) h = if_integer width (cond signed s.Signed s.Unsigned) h.0 h.1 h.2
none_of_four kind first second if_decimal if_integer if_time if_timestamp (l.Time utc unit) h = if_time (cond utc k.Utc k.Local) unit h.0 h.1 h.2
none_of_four kind first second if_decimal if_integer if_time if_timestamp (l.Timestamp utc unit) h = if_timestamp (cond utc k.Utc k.Local) unit h.0 h.1 h.2

pub no_decimal : (first second : List ℕ) → ((a b : ℤ) → NumberSpelled w32 first a → NumberSpelled w32 second b → ⊥) → (x : LogicalType) → PayloadSpelled (codes "decimal") first second x → ⊥
no_decimal first second none = none_of_four (codes "decimal") first second (λ a b _. none a b) (λ _ _ e _ _. differ (codes "decimal") (codes "integer") refl e) (λ _ _ e _ _. differ (codes "decimal") (codes "time") refl e) (λ _ _ e _ _. differ (codes "decimal") (codes "timestamp") refl e)

pub no_integer : (first second : List ℕ) → ((a : ℤ) (b : Sign) → NumberSpelled w8 first a → second ≡ sign_word b → ⊥) → (x : LogicalType) → PayloadSpelled (codes "integer") first second x → ⊥
no_integer first second none = none_of_four (codes "integer") first second (λ _ _ e _ _. differ (codes "integer") (codes "decimal") refl e) (λ a b _. none a b) (λ _ _ e _ _. differ (codes "integer") (codes "time") refl e) (λ _ _ e _ _. differ (codes "integer") (codes "timestamp") refl e)

pub no_time : (kind first second : List ℕ) → kind ≡ codes "time" → ((a : Clock) (b : TimeUnit) → first ≡ clock_word a → second ≡ unit_word b → ⊥) → (x : LogicalType) → PayloadSpelled kind first second x → ⊥
no_time kind first second is none = none_of_four kind first second (λ _ _ e _ _. differ (codes "time") (codes "decimal") refl (sym is ∙ e)) (λ _ _ e _ _. differ (codes "time") (codes "integer") refl (sym is ∙ e)) (λ a b _. none a b) (λ _ _ e _ _. differ (codes "time") (codes "timestamp") refl (sym is ∙ e))

pub no_timestamp : (kind first second : List ℕ) → kind ≡ codes "timestamp" → ((a : Clock) (b : TimeUnit) → first ≡ clock_word a → second ≡ unit_word b → ⊥) → (x : LogicalType) → PayloadSpelled kind first second x → ⊥
no_timestamp kind first second is none = none_of_four kind first second (λ _ _ e _ _. differ (codes "timestamp") (codes "decimal") refl (sym is ∙ e)) (λ _ _ e _ _. differ (codes "timestamp") (codes "integer") refl (sym is ∙ e)) (λ _ _ e _ _. differ (codes "timestamp") (codes "time") refl (sym is ∙ e)) (λ a b _. none a b)

-- a word in its parts is the logical type that the parts tell
pub of_parts : (w kind first second : List ℕ) → Parts w kind first second → (r : Option LogicalType) → Read (PayloadSpelled kind first second) r → Read (SpelledInParts w) r
of_parts w kind first second p (Some x) h = (kind, first, second, p, h)
of_parts w kind first second p None h =
    λ x q.
    let same = same_parts w q.0 q.1 q.2 kind first second q.3 p in
    h x (subst (λ t. PayloadSpelled kind first t x) same.2 (subst (λ t. PayloadSpelled kind t q.2 x) same.1 (subst (λ t. PayloadSpelled t q.1 q.2 x) same.0 q.4)))

in_parts_spelled : (w : List ℕ) (x : LogicalType) → SpelledInParts w x → LogicalSpelled w x
in_parts_spelled w l.Unknown h = absurd h.4
in_parts_spelled w l.String h = absurd h.4
in_parts_spelled w l.Enum h = absurd h.4
in_parts_spelled w l.Json h = absurd h.4
in_parts_spelled w l.Bson h = absurd h.4
in_parts_spelled w l.Uuid h = absurd h.4
in_parts_spelled w l.Float16 h = absurd h.4
in_parts_spelled w l.Date h = absurd h.4
in_parts_spelled w (l.Decimal scale precision) h = h
in_parts_spelled w (l.Integer width signed) h = h
in_parts_spelled w (l.Time utc unit) h = h
in_parts_spelled w (l.Timestamp utc unit) h = h

pub spelled : (w : List ℕ) → (w ≡ codes "unknown" → ⊥) → (w ≡ codes "string" → ⊥) → (w ≡ codes "enum" → ⊥) → (w ≡ codes "json" → ⊥) → (w ≡ codes "bson" → ⊥) → (w ≡ codes "uuid" → ⊥) → (w ≡ codes "float16" → ⊥) → (w ≡ codes "date" → ⊥) → (r : Option LogicalType) → Read (SpelledInParts w) r → Read (LogicalSpelled w) r
spelled w not_unknown not_string not_enum not_json not_bson not_uuid not_float16 not_date (Some x) h = in_parts_spelled w x h
spelled w not_unknown not_string not_enum not_json not_bson not_uuid not_float16 not_date None h =
    elim [
      | l.Unknown ↦ not_unknown
      | l.String ↦ not_string
      | l.Enum ↦ not_enum
      | l.Json ↦ not_json
      | l.Bson ↦ not_bson
      | l.Uuid ↦ not_uuid
      | l.Float16 ↦ not_float16
      | l.Date ↦ not_date
      | l.Decimal scale precision ↦ h (l.Decimal scale precision)
      | l.Integer width signed ↦ h (l.Integer width signed)
      | l.Time utc unit ↦ h (l.Time utc unit)
      | l.Timestamp utc unit ↦ h (l.Timestamp utc unit)
    ]
