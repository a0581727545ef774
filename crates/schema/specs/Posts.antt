-- What each call answers and leaves. Each of these stands in its call's contract and is a step of `Reached`.
use Rattle.std.specs.Prelude.{◌≡◌, ℕ, ◌+◌, ◌-◌, ◌<◌, ◌≤◌, Bool, cond, not, ◌&&◌, ◌||◌, List, ◌++◌, map, length, take, drop, ℤ, Some, None, Ok, Err, Option, Result, MatchResult, ◌==◌, nat_le, nat_lt, slice_set}
use Rattle.schema.specs.declared.basic.Annotation.{Annotation}
use Rattle.schema.specs.declared.basic.Repetition.{Repetition}
use Rattle.schema.specs.declared.draft.Draft.{Draft}
use Rattle.schema.specs.declared.draft.Schema.{Schema}
use Rattle.schema.specs.declared.element.Element.{Element}
use Rattle.schema.specs.declared.element.Leaf.{Leaf}
use Rattle.schema.specs.declared.element.Kind.{Kind}
use Rattle.schema.specs.declared.element.Kind.TheVariants as k
use Rattle.schema.specs.declared.refusal.Refusal.{Refusal}
use Rattle.schema.specs.declared.refusal.Refusal.TheVariants as no
use Rattle.schema.specs.Elements.{is_group, part}
use Rattle.schema.specs.Decimals.{keeps_leaf_rules}
use Rattle.schema.specs.Rows.{rows_kept, sized, IsSchema, IsFinished, finished_kept}
use Rattle.schema.specs.Words.{Spelled}

-- the refusal that a call answered
abbrev pub refusal : {X : Type 0} → Result X Refusal → Option Refusal
refusal (Ok x) = None
refusal (Err e) = Some e

-- the first ground that applies
abbrev pub first : Bool → Refusal → Option Refusal → Option Refusal
first applies refused others = cond applies (Some refused) others

-- an element as the memory shows it, and the elements shown
abbrev pub shown_as : List ℕ → Element → Spelled
shown_as ns e = record { name = part ns e.name; depth = e.depth; repetition = e.repetition; fieldId = e.field_id; kind = e.kind }

abbrev pub shown : ℕ → List Element → List ℕ → List Spelled
shown count els ns = map (shown_as ns) (take count els)

-- the memory lent is shorter than the counts
abbrev pub short : ℕ → ℕ → List Element → List ℕ → Bool
short count bytes els ns = nat_lt (length els) count || nat_lt (length ns) bytes

-- nothing changed
pub record Same (d : Draft) (els : List Element) (ns : List ℕ) (d' : Draft) (els' : List Element) (ns' : List ℕ) : Type 0 where
  pub draft : d' ≡ d
  pub elements : els' ≡ els
  pub names : ns' ≡ ns

-- one element more: its row is set, and all others are as they were; its name's bytes lie at `start`, past the bytes in
-- use, and all others are as they were; a group is open from now on
pub record Spelt (repetition : Option Repetition) (fieldId : Option ℤ) (kind : Kind) (name : List ℕ) (d : Draft) (els : List Element) (ns : List ℕ) (d' : Draft) (els' : List Element) (ns' : List ℕ) : Type 0 where
  pub start : ℕ
  pub fresh : d.bytes ≤ start
  pub within : start + length name ≤ d'.bytes
  pub bytes : d'.bytes ≡ d.bytes + length name
  pub room : d'.bytes ≤ length ns
  pub more : d.count < length els
  pub count : d'.count ≡ d.count + 1
  pub groups : d'.groups ≡ d.groups + cond (is_group kind) 1 0
  pub elements : els' ≡ slice_set els d.count (record { name = record { start = start; length = length name }; depth = d.groups; repetition = repetition; field_id = fieldId; size = 0; kind = kind })
  pub names : ns' ≡ take start ns ++ (name ++ drop (start + length name) ns)

-- the name is above 255 bytes, or above the memory left
abbrev pub long_name : List ℕ → ℕ → List ℕ → Bool
long_name name bytes ns = nat_lt 255 (length name) || nat_lt (length ns - bytes) (length name)

-- 4,096 elements, or the element memory, are used up
abbrev pub no_room : ℕ → List Element → Bool
no_room count els = nat_le (length els) count || nat_le 4096 count

-- begin: 1, 3

abbrev pub blank : Draft
blank = record { count = 0; bytes = 0; groups = 0 }

abbrev pub begin_refusal : List ℕ → List Element → List ℕ → Option Refusal
begin_refusal name els ns = first (no_room 0 els) no.ElementsFull (first (long_name name 0 ns) no.NameTooLong None)

pub record Begun (name : List ℕ) (fieldId : Option ℤ) (els : List Element) (ns : List ℕ) (r : Result Draft Refusal) (els' : List Element) (ns' : List ℕ) : Type 0 where
  pub answer : refusal r ≡ begin_refusal name els ns
  pub after : MatchResult r (λ d. Spelt None fieldId (k.Group None) name blank els ns d els' ns') (λ _. Same blank els ns blank els' ns')

-- open: 7, 1, 2, 3; it answers the element's number

abbrev pub spell_refusal : List ℕ → Draft → List Element → List ℕ → Option Refusal
spell_refusal name d els ns =
    first (short d.count d.bytes els ns) no.Memory
    (first (no_room d.count els) no.ElementsFull
    (first (nat_lt 64 d.groups) no.TooDeep
    (first (long_name name d.bytes ns) no.NameTooLong None)))

pub record Opened (name : List ℕ) (repetition : Repetition) (annotation : Option Annotation) (fieldId : Option ℤ) (d : Draft) (els : List Element) (ns : List ℕ) (r : Result ℕ Refusal) (d' : Draft) (els' : List Element) (ns' : List ℕ) : Type 0 where
  pub answer : refusal r ≡ spell_refusal name d els ns
  pub after : MatchResult r (λ n. (n ≡ d.count) × Spelt (Some repetition) fieldId (k.Group annotation) name d els ns d' els' ns') (λ _. Same d els ns d' els' ns')

-- add: 7, 1, 2, 3, 4; it answers the element's number

abbrev pub or_else : Option Refusal → Option Refusal → Option Refusal
or_else None others = others
or_else (Some e) others = Some e

abbrev pub add_refusal : List ℕ → Leaf → Draft → List Element → List ℕ → Option Refusal
add_refusal name leaf d els ns = or_else (spell_refusal name d els ns) (first (not (keeps_leaf_rules leaf)) no.LeafRule None)

pub record Added (name : List ℕ) (repetition : Repetition) (leaf : Leaf) (fieldId : Option ℤ) (d : Draft) (els : List Element) (ns : List ℕ) (r : Result ℕ Refusal) (d' : Draft) (els' : List Element) (ns' : List ℕ) : Type 0 where
  pub answer : refusal r ≡ add_refusal name leaf d els ns
  pub after : MatchResult r (λ n. (n ≡ d.count) × Spelt (Some repetition) fieldId (k.Leaf leaf) name d els ns d' els' ns') (λ _. Same d els ns d' els' ns')

-- close: 5

pub record Shut (d d' : Draft) : Type 0 where
  pub groups : d.groups ≡ d'.groups + 1
  pub count : d'.count ≡ d.count
  pub bytes : d'.bytes ≡ d.bytes

pub record Closed (d : Draft) (r : Result (Unit {0}) Refusal) (d' : Draft) : Type 0 where
  pub answer : refusal r ≡ first (nat_le d.groups 1) no.NoGroupOpen None
  pub after : MatchResult r (λ _. Shut d d') (λ _. d' ≡ d)

-- finish: 7, 6; refused, it hands the draft back

abbrev pub finish_refusal : Draft → List Element → List ℕ → Option Refusal
finish_refusal d els ns =
    first (short d.count d.bytes els ns || not (rows_kept d.bytes (take d.count els))) no.Memory
    (first (not (d.groups == 1)) no.GroupOpen None)

abbrev pub back_refusal : Result Schema (Draft × Refusal) → Option Refusal
back_refusal (Ok s) = None
back_refusal (Err e) = Some e.1

-- the counts stay, and each counted row has its size; all else is as it was
pub record Whole (d : Draft) (els : List Element) (s : Schema) (els' : List Element) : Type 0 where
  pub count : s.count ≡ d.count
  pub bytes : s.bytes ≡ d.bytes
  pub elements : els' ≡ sized (take d.count els) ++ drop d.count els

pub record Finished (d : Draft) (els : List Element) (ns : List ℕ) (r : Result Schema (Draft × Refusal)) (els' : List Element) : Type 0 where
  pub answer : back_refusal r ≡ finish_refusal d els ns
  pub after : MatchResult r (λ s. Whole d els s els') (λ e. (e.0 ≡ d) × (els' ≡ els))

-- Finish in a tree's words, whatever the memory holds: accepted, the rows were a schema by depth, and now each row's size
-- is the number of rows of its subtree; where they were one in memory long enough, it is not refused by 7.
abbrev pub FinishMeans : Draft → List Element → List ℕ → Result Schema (Draft × Refusal) → List Element → Type 0
FinishMeans d els ns (Ok s) els' =
    IsSchema d.bytes (take d.count els) × IsFinished s.bytes (take s.count els')
FinishMeans d els ns (Err e) els' = e.1 ≡ no.Memory → d.count ≤ length els → d.bytes ≤ length ns → IsSchema d.bytes (take d.count els) → ⊥

-- Lent memory that is the finished schema which its `Schema` counts: as a test, and in a tree's words.

abbrev pub memory_kept : Schema → List Element → List ℕ → Bool
memory_kept s els ns = not (short s.count s.bytes els ns) && finished_kept s.bytes (take s.count els)

pub record IsMemory (s : Schema) (els : List Element) (ns : List ℕ) : Type 0 where
  pub fits : s.count ≤ length els
  pub room : s.bytes ≤ length ns
  pub tree : IsFinished s.bytes (take s.count els)
