-- What the rows of a schema's table tell.
use Rattle.std.specs.Prelude.{ℕ, ◌+◌, Bool, true, false, List, take, drop, None, nat_le}
use Rattle.schema.specs.declared.element.Element.{Element}
use Rattle.schema.specs.declared.element.PlaceOf.{PlaceOf}
use Rattle.schema.specs.declared.element.Kind.{Kind}
use Rattle.schema.specs.declared.element.Kind.TheVariants as k

-- how many rows an element's subtree has, as its row tells
abbrev pub element_span : Element → ℕ
element_span e = e.size

-- whether an element is a group
abbrev pub is_group : Kind → Bool
is_group (k.Group a) = true
is_group (k.Leaf l) = false

-- a place with its length as a number
abbrev pub counted : {N : Type 0} → (N → ℕ) → PlaceOf N → PlaceOf ℕ
counted f p = record { start = p.start; length = f p.length }

-- the end of a place, whether it lies inside a memory of so many bytes, and the bytes that lie there
abbrev pub end_of : PlaceOf ℕ → ℕ
end_of p = p.start + p.length

abbrev pub lies_inside : ℕ → PlaceOf ℕ → Bool
lies_inside bytes p = nat_le (end_of p) bytes

abbrev pub part : List ℕ → PlaceOf ℕ → List ℕ
part memory p = take p.length (drop p.start memory)

-- an empty row, and what is read past the last row of a table
abbrev pub empty : Element
empty = record { name = record { start = 0; length = 0 }; depth = 0; repetition = None; field_id = None; size = 0; kind = k.Group None }
