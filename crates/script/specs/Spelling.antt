-- How the words of a script spell numbers and the words of the Parquet format.
use Rattle.std.specs.Prelude.{◌≡◌, ℕ, cond, List, ℤ, Some, None, codes, Option, MatchOption, FitsSigned, ◌≢◌}
use Rattle.std.specs.Int.{Width, w8, w32}
use Rattle.std.specs.Str.Parse.{IsNumeral, without_leading_sign, signed_digits_value}
use Rattle.schema.specs.declared.basic.Repetition.{Repetition}
use Rattle.schema.specs.declared.basic.Repetition.TheVariants as r
use Rattle.schema.specs.declared.basic.Annotation.{Annotation}
use Rattle.schema.specs.declared.basic.Annotation.TheVariants as a
use Rattle.schema.specs.declared.basic.PhysicalType.{PhysicalType}
use Rattle.schema.specs.declared.basic.PhysicalType.TheVariants as p
use Rattle.schema.specs.declared.basic.ConvertedType.{ConvertedType}
use Rattle.schema.specs.declared.basic.ConvertedType.TheVariants as c
use Rattle.schema.specs.declared.basic.LogicalType.{LogicalType}
use Rattle.schema.specs.declared.basic.LogicalType.TheVariants as l
use Rattle.schema.specs.declared.basic.TimeUnit.{TimeUnit}
use Rattle.schema.specs.declared.basic.TimeUnit.TheVariants as u
use Rattle.script.specs.Cuts.{Parts}
use Rattle.script.specs.declared.words.Sign.{Sign}
use Rattle.script.specs.declared.words.Sign.TheVariants as s
use Rattle.script.specs.declared.words.Clock.{Clock}
use Rattle.script.specs.declared.words.Clock.TheVariants as k

-- decimal digits, after a sign if there is one, for a number that fits its width
abbrev pub NumberSpelled : Width → List ℕ → ℤ → Type 0
NumberSpelled width w n = IsNumeral 10 (without_leading_sign w) × FitsSigned width n × (n ≡ signed_digits_value 10 w)

-- what is read is of P, and is none only where nothing is of P
abbrev pub Read : {T : Type 0} → (T → Type 0) → Option T → Type 0
Read {T} P r = MatchOption r ((x : T) → P x → ⊥) P

-- one word for what is absent, else a word of P
abbrev pub OptionalSpelled : {T : Type 0} → List ℕ → (List ℕ → T → Type 0) → List ℕ → Option T → Type 0
OptionalSpelled absent P w None = w ≡ absent
OptionalSpelled absent P w (Some x) = (w ≢ absent) × P w x

abbrev pub repetition_word : Repetition → List ℕ
repetition_word r.Required = codes "required"
repetition_word r.Optional = codes "optional"
repetition_word r.Repeated = codes "repeated"

abbrev pub annotation_word : Option Annotation → List ℕ
annotation_word None = codes "none"
annotation_word (Some a.List) = codes "list"
annotation_word (Some a.Map) = codes "map"
annotation_word (Some a.MapKeyValue) = codes "map_key_value"

abbrev pub physical_word : PhysicalType → List ℕ
physical_word p.Boolean = codes "boolean"
physical_word p.Int32 = codes "int32"
physical_word p.Int64 = codes "int64"
physical_word p.Int96 = codes "int96"
physical_word p.Float = codes "float"
physical_word p.Double = codes "double"
physical_word p.ByteArray = codes "byte_array"
physical_word p.FixedLenByteArray = codes "fixed_len_byte_array"

abbrev pub converted_word : ConvertedType → List ℕ
converted_word c.Utf8 = codes "utf8"
converted_word c.Map = codes "map"
converted_word c.MapKeyValue = codes "map_key_value"
converted_word c.List = codes "list"
converted_word c.Enum = codes "enum"
converted_word c.Decimal = codes "decimal"
converted_word c.Date = codes "date"
converted_word c.TimeMillis = codes "time_millis"
converted_word c.TimeMicros = codes "time_micros"
converted_word c.TimestampMillis = codes "timestamp_millis"
converted_word c.TimestampMicros = codes "timestamp_micros"
converted_word c.UInt8 = codes "uint_8"
converted_word c.UInt16 = codes "uint_16"
converted_word c.UInt32 = codes "uint_32"
converted_word c.UInt64 = codes "uint_64"
converted_word c.Int8 = codes "int_8"
converted_word c.Int16 = codes "int_16"
converted_word c.Int32 = codes "int_32"
converted_word c.Int64 = codes "int_64"
converted_word c.Json = codes "json"
converted_word c.Bson = codes "bson"
converted_word c.Interval = codes "interval"

abbrev pub unit_word : TimeUnit → List ℕ
unit_word u.Millis = codes "millis"
unit_word u.Micros = codes "micros"
unit_word u.Nanos = codes "nanos"

abbrev pub sign_word : Sign → List ℕ
sign_word s.Signed = codes "signed"
sign_word s.Unsigned = codes "unsigned"

abbrev pub clock_word : Clock → List ℕ
clock_word k.Utc = codes "utc"
clock_word k.Local = codes "local"

-- what stands in the parentheses of a logical type of this kind
abbrev pub PayloadSpelled : List ℕ → List ℕ → List ℕ → LogicalType → Type 0
PayloadSpelled kind first second l.Unknown = ⊥
PayloadSpelled kind first second l.String = ⊥
PayloadSpelled kind first second l.Enum = ⊥
PayloadSpelled kind first second l.Json = ⊥
PayloadSpelled kind first second l.Bson = ⊥
PayloadSpelled kind first second l.Uuid = ⊥
PayloadSpelled kind first second l.Float16 = ⊥
PayloadSpelled kind first second l.Date = ⊥
PayloadSpelled kind first second (l.Decimal scale precision) =
    (kind ≡ codes "decimal") × NumberSpelled w32 first scale × NumberSpelled w32 second precision
PayloadSpelled kind first second (l.Integer width signed) =
    (kind ≡ codes "integer") × NumberSpelled w8 first width × (second ≡ sign_word (cond signed s.Signed s.Unsigned))
PayloadSpelled kind first second (l.Time utc unit) =
    (kind ≡ codes "time") × (first ≡ clock_word (cond utc k.Utc k.Local)) × (second ≡ unit_word unit)
PayloadSpelled kind first second (l.Timestamp utc unit) =
    (kind ≡ codes "timestamp") × (first ≡ clock_word (cond utc k.Utc k.Local)) × (second ≡ unit_word unit)

-- a logical type as `kind(first,second)`
abbrev pub SpelledInParts : List ℕ → LogicalType → Type 0
SpelledInParts w x =
    (kind : List ℕ) × (first : List ℕ) × (second : List ℕ) × Parts w kind first second × PayloadSpelled kind first second x

abbrev pub LogicalSpelled : List ℕ → LogicalType → Type 0
LogicalSpelled w l.Unknown = w ≡ codes "unknown"
LogicalSpelled w l.String = w ≡ codes "string"
LogicalSpelled w l.Enum = w ≡ codes "enum"
LogicalSpelled w l.Json = w ≡ codes "json"
LogicalSpelled w l.Bson = w ≡ codes "bson"
LogicalSpelled w l.Uuid = w ≡ codes "uuid"
LogicalSpelled w l.Float16 = w ≡ codes "float16"
LogicalSpelled w l.Date = w ≡ codes "date"
LogicalSpelled w (l.Decimal scale precision) = SpelledInParts w (l.Decimal scale precision)
LogicalSpelled w (l.Integer width signed) = SpelledInParts w (l.Integer width signed)
LogicalSpelled w (l.Time utc unit) = SpelledInParts w (l.Time utc unit)
LogicalSpelled w (l.Timestamp utc unit) = SpelledInParts w (l.Timestamp utc unit)
