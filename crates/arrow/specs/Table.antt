-- The Arrow type of a leaf that has no hint: a table by its annotation and its physical type.
use Rattle.std.specs.Prelude.{ℕ, Bool, true, false, cond, ◌&&◌, ℤ, pos, negsuc, Some, None, Option, ◌==◌, int_le}
use Rattle.schema.specs.declared.basic.PhysicalType.{PhysicalType}
use Rattle.schema.specs.declared.basic.PhysicalType.TheVariants as p
use Rattle.schema.specs.declared.basic.TimeUnit.{TimeUnit as ParquetUnit}
use Rattle.schema.specs.declared.basic.TimeUnit.TheVariants.{Millis, Micros, Nanos}
use Rattle.schema.specs.declared.element.Leaf.{Leaf}
use Rattle.schema.specs.Decimals.{digits}
use Rattle.arrow.specs.declared.types.TimeUnit.{TimeUnit}
use Rattle.arrow.specs.declared.types.TimeUnit.TheVariants.{Millisecond, Microsecond, Nanosecond}
use Rattle.arrow.specs.declared.types.IntervalUnit.TheVariants.{DayTime}
use Rattle.arrow.specs.declared.types.Zone.{Zone}
use Rattle.arrow.specs.declared.types.Zone.TheVariants.{Utc}
use Rattle.arrow.specs.declared.types.ArrowType.{ArrowType}
use Rattle.arrow.specs.declared.types.ArrowType.TheVariants as a
use Rattle.arrow.specs.Annotations.{Annotation, annotation, plain, unknown, string, enum, json, bson, uuid, float16, date, interval, nested, decimal, integer, time, timestamp}

-- a type, or none
abbrev pub Answer : Type 0
Answer = Option ArrowType

abbrev pub unit_of : ParquetUnit → TimeUnit
unit_of Millis = Millisecond
unit_of Micros = Microsecond
unit_of Nanos = Nanosecond

-- a time that is adjusted to UTC has that zone, a local one has none
abbrev pub zone_by : Bool → Option Zone
zone_by true = Some Utc
zone_by false = None

-- an integer of 8, 16 or 32 bits on INT32, of 64 on INT64
abbrev pub int_on_32 : ℤ → Bool → Answer
int_on_32 (pos n) s =
    cond (n == 8) (Some (cond s a.Int8 a.UInt8))
    (cond (n == 16) (Some (cond s a.Int16 a.UInt16)) (cond (n == 32) (Some (cond s a.Int32 a.UInt32)) None))
int_on_32 (negsuc n) s = None

abbrev pub int_on_64 : ℤ → Bool → Answer
int_on_64 (pos n) s = cond (n == 64) (Some (cond s a.Int64 a.UInt64)) None
int_on_64 (negsuc n) s = None

-- a time of milliseconds on INT32, of smaller units on INT64
abbrev pub time_on_32 : ParquetUnit → Answer
time_on_32 Millis = Some (a.Time32 Millisecond)
time_on_32 u = None

abbrev pub time_on_64 : ParquetUnit → Answer
time_on_64 Millis = None
time_on_64 Micros = Some (a.Time64 Microsecond)
time_on_64 Nanos = Some (a.Time64 Nanosecond)

-- Arrow keeps a precision in a byte and a scale in a signed byte
abbrev pub tellable : ℤ → ℤ → Bool
tellable scale precision =
    int_le (negsuc 127) scale && int_le scale (pos 127) && int_le (pos 0) precision && int_le precision (pos 255)

-- a decimal's precision and scale, as Arrow keeps them
abbrev pub decimal_parts : ℤ → ℤ → Option (ℕ × ℤ)
decimal_parts s p = cond (tellable s p) (Some (digits p, s)) None

-- a decimal of one width
abbrev pub decimal_by : (ℕ → ℤ → ArrowType) → ℤ → ℤ → Answer
decimal_by width s p = cond (tellable s p) (Some (width (digits p) s)) None

abbrev pub decimal_128 : ℤ → ℤ → Answer
decimal_128 = decimal_by a.Decimal128

abbrev pub decimal_256 : ℤ → ℤ → Answer
decimal_256 = decimal_by a.Decimal256

-- on BYTE_ARRAY by the digits: 128 bits up to 38
abbrev pub decimal_by_digits : ℤ → ℤ → Answer
decimal_by_digits s p = cond (int_le p (pos 38)) (decimal_128 s p) (decimal_256 s p)

-- on FIXED_LEN_BYTE_ARRAY by its length: 128 bits up to 16 bytes, 256 up to 32
abbrev pub decimal_by_length : ℤ → ℤ → ℤ → Answer
decimal_by_length n s p =
    cond (int_le (pos 1) n && int_le n (pos 32)) (cond (int_le n (pos 16)) (decimal_128 s p) (decimal_256 s p)) None

-- a type for one length only
abbrev pub at_length : ℕ → ℤ → ArrowType → Answer
at_length k (pos n) t = cond (n == k) (Some t) None
at_length k (negsuc n) t = None

-- By annotation: on INT32, on INT64, on BYTE_ARRAY, on FIXED_LEN_BYTE_ARRAY of n bytes. (What a leaf annotated as
-- unknown is, `known` says below, before the table is asked.)
abbrev pub row : ℤ → Annotation → Answer × Answer × Answer × Answer
row n plain = (Some a.Int32, Some a.Int64, Some a.Binary, Some (a.FixedSizeBinary n))
row n unknown = (None, None, None, Some (a.FixedSizeBinary n))
row n string = (None, None, Some a.Utf8, Some (a.FixedSizeBinary n))
row n enum = (None, None, Some a.Binary, Some (a.FixedSizeBinary n))
row n json = (None, None, Some a.Utf8, Some (a.FixedSizeBinary n))
row n bson = (None, None, Some a.Binary, Some (a.FixedSizeBinary n))
row n uuid = (None, None, None, Some (a.FixedSizeBinary n))
row n float16 = (None, None, None, at_length 2 n a.Float16)
row n date = (Some a.Date32, None, None, Some (a.FixedSizeBinary n))
row n interval = (None, None, None, at_length 12 n (a.Interval DayTime))
row n nested = (None, None, None, Some (a.FixedSizeBinary n))
row n (decimal s p) = (decimal_128 s p, decimal_128 s p, decimal_by_digits s p, decimal_by_length n s p)
row n (integer w s) = (int_on_32 w s, int_on_64 w s, None, Some (a.FixedSizeBinary n))
row n (time u) = (time_on_32 u, time_on_64 u, None, Some (a.FixedSizeBinary n))
row n (timestamp z u) = (None, Some (a.Timestamp (unit_of u) (zone_by z)), None, Some (a.FixedSizeBinary n))

-- the leaf's row of the table
abbrev pub row_of : Leaf → Answer × Answer × Answer × Answer
row_of f = row f.type_length (annotation f)

-- the other physical types have one type each, whatever the annotation
abbrev pub column : PhysicalType → Answer × Answer × Answer × Answer → Answer
column p.Boolean w = Some a.Boolean
column p.Int32 w = w.0
column p.Int64 w = w.1
column p.Int96 w = Some (a.Timestamp Nanosecond None)
column p.Float w = Some a.Float32
column p.Double w = Some a.Float64
column p.ByteArray w = w.2
column p.FixedLenByteArray w = w.3

-- on any physical type a leaf annotated as unknown is null
abbrev pub known : Annotation → Answer → Answer
known unknown t = Some a.Null
known x t = t

-- the type of a leaf that has no hint, if it has one
abbrev pub leaf_type : Leaf → Answer
leaf_type f = known (annotation f) (column f.physical (row_of f))
