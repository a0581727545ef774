-- When two Arrow types mean the same: they are alike but for their zones, and the zones are spelled alike.
use Rattle.std.specs.Prelude.{ℕ, Bool, true, false, ◌&&◌, List, [], ◌∷◌, Some, None, Option}
use Rattle.std.specs.Str.{bytes_eq}
use Rattle.schema.specs.Elements.{part}
use Rattle.arrow.specs.declared.types.Zone.{Zone}
use Rattle.arrow.specs.declared.types.Zone.TheVariants.{Utc, Text}
use Rattle.arrow.specs.declared.types.ArrowType.{ArrowType}
use Rattle.arrow.specs.declared.types.ArrowType.TheVariants as a
use Rattle.arrow.specs.contracts.types.ArrowTypePartialEq.TheImpl as derived

-- Zones.

-- how a zone is spelled: UTC, or what lies at its place
abbrev pub spelled : List ℕ → Zone → List ℕ
spelled text Utc = 85 ∷ 84 ∷ 67 ∷ []
spelled text (Text p) = part text p

abbrev pub spelled_if_any : List ℕ → Option Zone → Option (List ℕ)
spelled_if_any text None = None
spelled_if_any text (Some z) = Some (spelled text z)

abbrev pub alike_if_any : Option (List ℕ) → Option (List ℕ) → Bool
alike_if_any None None = true
alike_if_any (Some x) (Some y) = bytes_eq x y
alike_if_any x y = false

-- two zones are spelled alike
abbrev pub same_zone : List ℕ → Option Zone → Option Zone → Bool
same_zone text x y = alike_if_any (spelled_if_any text x) (spelled_if_any text y)

-- a type's zone
abbrev pub zone_of : ArrowType → Option Zone
zone_of (a.Timestamp u z) = z
zone_of t = None

-- Types.

-- a type, its zone aside
abbrev pub bared : ArrowType → ArrowType
bared (a.Timestamp u z) = a.Timestamp u None
bared t = t

-- the test: alike but for the zones, by the `==` that the type derives, and the zones spelled alike
abbrev pub same : List ℕ → ArrowType → ArrowType → Bool
same text x y = derived.ghosts.eq (bared x) (bared y) && same_zone text (zone_of x) (zone_of y)

-- The meaning of a type, for the test to decide: the type with no zone, and how its zone is spelled.
abbrev pub meaning : List ℕ → ArrowType → ArrowType × Option (List ℕ)
meaning text t = (bared t, spelled_if_any text (zone_of t))
