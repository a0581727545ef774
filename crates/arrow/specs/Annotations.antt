-- What a leaf is annotated as: by its logical type, and only without one by its converted type.
use Rattle.std.specs.Prelude.{Bool, true, false, ℤ, pos, Some, None, Option}
use Rattle.schema.specs.declared.basic.TimeUnit.{TimeUnit}
use Rattle.schema.specs.declared.basic.TimeUnit.TheVariants.{Millis, Micros}
use Rattle.schema.specs.declared.basic.LogicalType.{LogicalType}
use Rattle.schema.specs.declared.basic.LogicalType.TheVariants as l
use Rattle.schema.specs.declared.basic.ConvertedType.{ConvertedType}
use Rattle.schema.specs.declared.basic.ConvertedType.TheVariants as c
use Rattle.schema.specs.declared.element.Leaf.{Leaf}

pub data Annotation : Type 0 where
  plain : Annotation
  unknown : Annotation
  string : Annotation
  enum : Annotation
  json : Annotation
  bson : Annotation
  uuid : Annotation
  float16 : Annotation
  date : Annotation
  interval : Annotation
  nested : Annotation
  decimal : (scale precision : ℤ) → Annotation
  integer : (bits : ℤ) (signed : Bool) → Annotation
  time : TimeUnit → Annotation
  timestamp : (utc : Bool) → TimeUnit → Annotation

abbrev pub by_logical : LogicalType → Annotation
by_logical l.Unknown = unknown
by_logical l.String = string
by_logical l.Enum = enum
by_logical l.Json = json
by_logical l.Bson = bson
by_logical l.Uuid = uuid
by_logical l.Float16 = float16
by_logical l.Date = date
by_logical (l.Decimal s p) = decimal s p
by_logical (l.Integer w s) = integer w s
by_logical (l.Time z u) = time u
by_logical (l.Timestamp z u) = timestamp z u

-- a converted DECIMAL has the leaf's own scale and precision
abbrev pub by_converted : ℤ → ℤ → ConvertedType → Annotation
by_converted s p c.Utf8 = string
by_converted s p c.Map = nested
by_converted s p c.MapKeyValue = nested
by_converted s p c.List = nested
by_converted s p c.Enum = enum
by_converted s p c.Decimal = decimal s p
by_converted s p c.Date = date
by_converted s p c.TimeMillis = time Millis
by_converted s p c.TimeMicros = time Micros
by_converted s p c.TimestampMillis = timestamp true Millis
by_converted s p c.TimestampMicros = timestamp true Micros
by_converted s p c.UInt8 = integer (pos 8) false
by_converted s p c.UInt16 = integer (pos 16) false
by_converted s p c.UInt32 = integer (pos 32) false
by_converted s p c.UInt64 = integer (pos 64) false
by_converted s p c.Int8 = integer (pos 8) true
by_converted s p c.Int16 = integer (pos 16) true
by_converted s p c.Int32 = integer (pos 32) true
by_converted s p c.Int64 = integer (pos 64) true
by_converted s p c.Json = json
by_converted s p c.Bson = bson
by_converted s p c.Interval = interval

-- without a converted type, a leaf has no annotation of the older kind
abbrev pub converted_told : ℤ → ℤ → Option ConvertedType → Annotation
converted_told s p (Some c) = by_converted s p c
converted_told s p None = plain

abbrev pub first_told : Option LogicalType → Annotation → Annotation
first_told (Some t) n = by_logical t
first_told None n = n

abbrev pub annotation : Leaf → Annotation
annotation f = first_told f.logical (converted_told f.scale f.precision f.converted)
