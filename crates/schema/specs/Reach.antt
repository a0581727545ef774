-- Which draft or schema, over which memory, a history of calls can have come to; and what that then holds.
use Rattle.std.specs.Prelude.{◌≡◌, ℕ, ◌≤◌, Bool, true, not, List, [], ◌∷◌, length, take, ℤ, is_ok, None, Ok, Err, Option, Result}
use Rattle.tree.specs.Forest.{Tree, alone, Lists}
use Rattle.schema.specs.declared.basic.Annotation.{Annotation}
use Rattle.schema.specs.declared.basic.Repetition.{Repetition}
use Rattle.schema.specs.declared.draft.Draft.{Draft}
use Rattle.schema.specs.declared.draft.Schema.{Schema}
use Rattle.schema.specs.declared.element.Element.{Element}
use Rattle.schema.specs.declared.element.Leaf.{Leaf}
use Rattle.schema.specs.declared.refusal.Refusal.{Refusal}
use Rattle.schema.specs.declared.refusal.Refusal.TheVariants as no
use Rattle.schema.specs.Elements.{element_span}
use Rattle.schema.specs.Rows.{IsSchema, SchemaTree}
use Rattle.schema.specs.Words.{Call, begins, opens, adds, closes, finishes, lists, converts, Event, Words, spelled, only_root, OpenIn}
use Rattle.schema.specs.Posts.{first, shown, back_refusal, Begun, Opened, Added, Closed, Finished}

-- what the caller holds
pub data Held : Type 0 where
  drafted : Draft → Held
  whole : Schema → Held

-- how many elements and name bytes are in use
abbrev pub count_of : Held → ℕ
count_of (drafted d) = d.count
count_of (whole s) = s.count

abbrev pub bytes_of : Held → ℕ
bytes_of (drafted d) = d.bytes
bytes_of (whole s) = s.bytes

-- what a finish leaves the caller with
abbrev pub held_after : Result Schema (Draft × Refusal) → Held
held_after (Ok s) = whole s
held_after (Err e) = drafted e.0

abbrev pub event : Call → Bool → Event
event c ok = record { call = c; accepted = ok }

-- A history, the latest call first, comes to what is held and the element and name memory. It starts with an accepted
-- begin, whatever the memory held; each step is what its call's contract ensures, accepted or refused.
pub data Reached : List Event → Held → List Element → List ℕ → Type 0 where
  begun : {name : List ℕ} {i : Option ℤ} {els : List Element} {ns : List ℕ} {d : Draft} {els' : List Element} {ns' : List ℕ}
      → Begun name i els ns (Ok d) els' ns' → Reached (event (begins name i) true ∷ []) (drafted d) els' ns'
  opened : {h : List Event} {d : Draft} {els : List Element} {ns : List ℕ} {name : List ℕ} {q : Repetition} {n : Option Annotation} {i : Option ℤ} {r : Result ℕ Refusal} {d' : Draft} {els' : List Element} {ns' : List ℕ}
      → Reached h (drafted d) els ns → Opened name q n i d els ns r d' els' ns' → Reached (event (opens name q n i) (is_ok r) ∷ h) (drafted d') els' ns'
  added : {h : List Event} {d : Draft} {els : List Element} {ns : List ℕ} {name : List ℕ} {q : Repetition} {l : Leaf} {i : Option ℤ} {r : Result ℕ Refusal} {d' : Draft} {els' : List Element} {ns' : List ℕ}
      → Reached h (drafted d) els ns → Added name q l i d els ns r d' els' ns' → Reached (event (adds name q l i) (is_ok r) ∷ h) (drafted d') els' ns'
  closed : {h : List Event} {d : Draft} {els : List Element} {ns : List ℕ} {r : Result (Unit {0}) Refusal} {d' : Draft}
      → Reached h (drafted d) els ns → Closed d r d' → Reached (event closes (is_ok r) ∷ h) (drafted d') els ns
  finished : {h : List Event} {d : Draft} {els : List Element} {ns : List ℕ} {r : Result Schema (Draft × Refusal)} {els' : List Element}
      → Reached h (drafted d) els ns → Finished d els ns r els' → Reached (event finishes (is_ok r) ∷ h) (held_after r) els' ns
  -- listing and converting, with any arguments, accepted or refused, change neither the schema nor its memory
  listed : {h : List Event} {s : Held} {els : List Element} {ns : List ℕ} (ok : Bool)
      → Reached h s els ns → Reached (event lists ok ∷ h) s els ns
  converted : {h : List Event} {s : Held} {els : List Element} {ns : List ℕ} (ok : Bool)
      → Reached h s els ns → Reached (event converts ok ∷ h) s els ns
  -- between two calls the caller may change memory that is not in use, or lend other memory that holds the same
  lent : {h : List Event} {s : Held} {els : List Element} {ns : List ℕ} {els' : List Element} {ns' : List ℕ}
      → Reached h s els ns → take (count_of s) els' ≡ take (count_of s) els → take (bytes_of s) ns' ≡ take (bytes_of s) ns → Reached h s els' ns'

-- The law over histories, in the words of what was spelled.

-- a draft's memory holds exactly the elements spelled, in order, names as bytes; the open groups are those spelled;
-- and the rows are a schema by their depths
pub record DraftHolds (w : Words) (d : Draft) (els : List Element) (ns : List ℕ) : Type 0 where
  pub fits : d.count ≤ length els
  pub room : d.bytes ≤ length ns
  pub elements : shown d.count els ns ≡ w.elements
  pub groups : d.groups ≡ length w.opened
  pub opened : OpenIn w.elements w.opened
  pub tree : IsSchema d.bytes (take d.count els)

-- a finished schema's memory holds exactly the elements spelled, and is a flat tree in which each row's depth is its
-- depth and each row's size is the number of rows of its subtree
pub record SchemaHolds (w : Words) (s : Schema) (els : List Element) (ns : List ℕ) : Type 0 where
  pub fits : s.count ≤ length els
  pub room : s.bytes ≤ length ns
  pub elements : shown s.count els ns ≡ w.elements
  pub root : Tree Element
  pub tree : SchemaTree s.bytes root (take s.count els)
  pub sizes : Lists element_span (alone root) (take s.count els)

abbrev pub Holds : Words → Held → List Element → List ℕ → Type 0
Holds w (drafted d) els ns = DraftHolds w d els ns
Holds w (whole s) els ns = SchemaHolds w s els ns

-- what a finish comes to after any history: it is refused just where a group other than the root is open, by 6 and by
-- nothing else, and what is held after it holds what was spelled
pub record FinishLaw (h : List Event) (d : Draft) (els : List Element) (ns : List ℕ) (r : Result Schema (Draft × Refusal)) (els' : List Element) : Type 0 where
  pub before : DraftHolds (spelled h) d els ns
  pub answer : back_refusal r ≡ first (not (only_root (spelled h).opened)) no.GroupOpen None
  pub after : Holds (spelled h) (held_after r) els' ns
