-- Which leaves are decimals, and which decimals a leaf may hold.
use Rattle.std.specs.Prelude.{ℕ, ◌-◌, ◌*◌, ◌^◌, Bool, true, false, ◌&&◌, ℤ, pos, negsuc, Some, None, Option, int_le, nat_le, nat_lt}
use Rattle.schema.specs.declared.basic.PhysicalType.{PhysicalType}
use Rattle.schema.specs.declared.basic.PhysicalType.TheVariants as p
use Rattle.schema.specs.declared.basic.ConvertedType.{ConvertedType}
use Rattle.schema.specs.declared.basic.ConvertedType.TheVariants as c
use Rattle.schema.specs.declared.basic.LogicalType.{LogicalType}
use Rattle.schema.specs.declared.basic.LogicalType.TheVariants as l
use Rattle.schema.specs.declared.element.Leaf.{Leaf}

-- the greatest signed number of n bytes
abbrev pub greatest : ℕ → ℕ
greatest n = 2 ^ (8 * n - 1) - 1

-- n bytes hold every number of d digits: 10^d ≤ 2^(8n−1) − 1
abbrev pub holds : ℕ → ℕ → Bool
holds n d = nat_le (10 ^ d) (greatest n)

-- a fixed length of 1 to 32 bytes holds d digits
abbrev pub in_bytes : ℤ → ℕ → Bool
in_bytes (pos n) d = nat_lt 0 n && nat_le n 32 && holds n d
in_bytes (negsuc n) d = false

-- the digits of a precision
abbrev pub digits : ℤ → ℕ
digits (pos d) = d
digits (negsuc d) = 0

-- the limit of a decimal's precision: 9 digits on INT32, 18 on INT64, 76 on BYTE_ARRAY, on FIXED_LEN_BYTE_ARRAY as
-- many as its bytes hold; no other physical type has decimals
abbrev pub within_limit : PhysicalType → ℤ → ℕ → Bool
within_limit p.Boolean n d = false
within_limit p.Int32 n d = nat_le d 9
within_limit p.Int64 n d = nat_le d 18
within_limit p.Int96 n d = false
within_limit p.Float n d = false
within_limit p.Double n d = false
within_limit p.ByteArray n d = nat_le d 76
within_limit p.FixedLenByteArray n d = in_bytes n d

-- 1 ≤ precision ≤ 76, which no limit passes; 0 ≤ scale ≤ precision; and precision ≤ the limit
abbrev pub fits : PhysicalType → ℤ → ℤ → ℤ → Bool
fits physical n scale precision =
    int_le (pos 1) precision && int_le precision (pos 76) && int_le (pos 0) scale && int_le scale precision && within_limit physical n (digits precision)

-- the scale and precision of a decimal by its converted type
abbrev pub by_converted : ConvertedType → ℤ → ℤ → Option (ℤ × ℤ)
by_converted c.Utf8 s d = None
by_converted c.Map s d = None
by_converted c.MapKeyValue s d = None
by_converted c.List s d = None
by_converted c.Enum s d = None
by_converted c.Decimal s d = Some (s, d)
by_converted c.Date s d = None
by_converted c.TimeMillis s d = None
by_converted c.TimeMicros s d = None
by_converted c.TimestampMillis s d = None
by_converted c.TimestampMicros s d = None
by_converted c.UInt8 s d = None
by_converted c.UInt16 s d = None
by_converted c.UInt32 s d = None
by_converted c.UInt64 s d = None
by_converted c.Int8 s d = None
by_converted c.Int16 s d = None
by_converted c.Int32 s d = None
by_converted c.Int64 s d = None
by_converted c.Json s d = None
by_converted c.Bson s d = None
by_converted c.Interval s d = None

-- the scale and precision of a decimal by its logical type
abbrev pub by_logical : LogicalType → Option (ℤ × ℤ)
by_logical l.Unknown = None
by_logical l.String = None
by_logical l.Enum = None
by_logical l.Json = None
by_logical l.Bson = None
by_logical l.Uuid = None
by_logical l.Float16 = None
by_logical l.Date = None
by_logical (l.Decimal s d) = Some (s, d)
by_logical (l.Integer w s) = None
by_logical (l.Time u t) = None
by_logical (l.Timestamp u t) = None

-- a logical type decides, by its own numbers; only without one does the converted type, by the leaf's
abbrev pub annotated : Option LogicalType → Option ConvertedType → ℤ → ℤ → Option (ℤ × ℤ)
annotated (Some t) c s d = by_logical t
annotated None (Some c) s d = by_converted c s d
annotated None None s d = None

abbrev pub decimal_of : Leaf → Option (ℤ × ℤ)
decimal_of f = annotated f.logical f.converted f.scale f.precision

-- a leaf that is no decimal has nothing to keep
abbrev pub kept_by : PhysicalType → ℤ → Option (ℤ × ℤ) → Bool
kept_by physical n None = true
kept_by physical n (Some x) = fits physical n x.0 x.1

abbrev pub keeps_decimal_rule : Leaf → Bool
keeps_decimal_rule f = kept_by f.physical f.type_length (decimal_of f)

-- the length of a FIXED_LEN_BYTE_ARRAY is not below 0; other types may carry any length
abbrev pub length_kept : PhysicalType → ℤ → Bool
length_kept p.Boolean n = true
length_kept p.Int32 n = true
length_kept p.Int64 n = true
length_kept p.Int96 n = true
length_kept p.Float n = true
length_kept p.Double n = true
length_kept p.ByteArray n = true
length_kept p.FixedLenByteArray n = int_le (pos 0) n

-- what a schema asks of a leaf
abbrev pub keeps_leaf_rules : Leaf → Bool
keeps_leaf_rules f = length_kept f.physical f.type_length && keeps_decimal_rule f
