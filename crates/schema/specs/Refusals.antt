-- The refusals' numbers, and the elements that they name.
use Rattle.std.specs.Prelude.{ℕ, Some, None, Option}
use Rattle.schema.specs.declared.refusal.Refusal.{Refusal}
use Rattle.schema.specs.declared.refusal.Refusal.TheVariants as no

-- the number by which a refusal is told
abbrev pub number_of : Refusal → ℕ
number_of no.ElementsFull = 1
number_of no.TooDeep = 2
number_of no.NameTooLong = 3
number_of no.LeafRule = 4
number_of no.NoGroupOpen = 5
number_of no.GroupOpen = 6
number_of no.Memory = 7
number_of no.Hint = 8
number_of no.Table = 9
number_of (no.ListChildren e) = 10
number_of (no.ListChildNotRepeated e) = 11
number_of (no.ListRepeated e) = 12
number_of (no.MapRepeated e) = 13
number_of (no.MapChildren e) = 14
number_of (no.MapChildNotRepeatedGroup e) = 15
number_of (no.EntriesChildren e) = 16
number_of (no.EntryRepeated e) = 17
number_of (no.HintKind e) = 18
number_of (no.HintFieldCount e) = 19
number_of (no.HintFieldName e) = 20
number_of (no.HintMap e) = 21
number_of (no.LeafType e) = 22
number_of no.PathNumbersFull = 23
number_of no.FlagOutside = 24

-- the element that a refusal names
abbrev pub element_of : Refusal → Option ℕ
element_of no.ElementsFull = None
element_of no.TooDeep = None
element_of no.NameTooLong = None
element_of no.LeafRule = None
element_of no.NoGroupOpen = None
element_of no.GroupOpen = None
element_of no.Memory = None
element_of no.Hint = None
element_of no.Table = None
element_of (no.ListChildren e) = Some e
element_of (no.ListChildNotRepeated e) = Some e
element_of (no.ListRepeated e) = Some e
element_of (no.MapRepeated e) = Some e
element_of (no.MapChildren e) = Some e
element_of (no.MapChildNotRepeatedGroup e) = Some e
element_of (no.EntriesChildren e) = Some e
element_of (no.EntryRepeated e) = Some e
element_of (no.HintKind e) = Some e
element_of (no.HintFieldCount e) = Some e
element_of (no.HintFieldName e) = Some e
element_of (no.HintMap e) = Some e
element_of (no.LeafType e) = Some e
element_of no.PathNumbersFull = None
element_of no.FlagOutside = None
