-- What calls spell: a schema is two lists, fed only the calls' arguments and whether each was accepted.
use Rattle.std.specs.Prelude.{◌≡◌, ℕ, Bool, cond, List, [], ◌∷◌, ◌++◌, length, ℤ, Some, None, Option, ◌==◌}
use Rattle.schema.specs.declared.basic.Annotation.{Annotation}
use Rattle.schema.specs.declared.basic.Repetition.{Repetition}
use Rattle.schema.specs.declared.element.Leaf.{Leaf}
use Rattle.schema.specs.declared.element.Kind.{Kind}
use Rattle.schema.specs.declared.element.Kind.TheVariants as k

-- an element as it was spelled, its name as bytes
pub record Spelled : Type 0 where
  pub name : List ℕ
  pub depth : ℕ
  pub repetition : Option Repetition
  pub fieldId : Option ℤ
  pub kind : Kind

-- the elements spelled so far, in order, and the groups that are open, the last opened first
pub record Words : Type 0 where
  pub elements : List Spelled
  pub opened : List Spelled

-- the calls, with their arguments; listing and converting have arguments that no list takes anything from
pub data Call : Type 0 where
  begins : (name : List ℕ) (fieldId : Option ℤ) → Call
  opens : (name : List ℕ) (repetition : Repetition) (annotation : Option Annotation) (fieldId : Option ℤ) → Call
  adds : (name : List ℕ) (repetition : Repetition) (leaf : Leaf) (fieldId : Option ℤ) → Call
  closes : Call
  finishes : Call
  lists : Call
  converts : Call

-- the named root
abbrev pub root_of : List ℕ → Option ℤ → Spelled
root_of name fieldId = record { name = name; depth = 0; repetition = None; fieldId = fieldId; kind = k.Group None }

-- an element below the root, at the depth that counts the open groups
abbrev pub element_of : Words → List ℕ → Repetition → Option ℤ → Kind → Spelled
element_of w name repetition fieldId kind = record { name = name; depth = length w.opened; repetition = Some repetition; fieldId = fieldId; kind = kind }

-- without the last open group
abbrev pub fewer : List Spelled → List Spelled
fewer [] = []
fewer (x ∷ xs) = xs

-- what an accepted call makes of the two lists
abbrev pub said : Call → Words → Words
said (begins name i) w = record { elements = root_of name i ∷ []; opened = root_of name i ∷ [] }
said (opens name r n i) w = record { elements = w.elements ++ element_of w name r i (k.Group n) ∷ []; opened = element_of w name r i (k.Group n) ∷ w.opened }
said (adds name r l i) w = record { elements = w.elements ++ element_of w name r i (k.Leaf l) ∷ []; opened = w.opened }
said closes w = record { elements = w.elements; opened = fewer w.opened }
said finishes w = w
said lists w = w
said converts w = w

-- a call and whether it was accepted
pub record Event : Type 0 where
  pub call : Call
  pub accepted : Bool

-- what the accepted calls of a history, the latest first, spelled; a refused call says nothing
abbrev pub spelled : List Event → Words
spelled [] = record { elements = []; opened = [] }
spelled (e ∷ before) = cond e.accepted (said e.call (spelled before)) (spelled before)

-- only the root is open
abbrev pub only_root : List Spelled → Bool
only_root xs = length xs == 1

-- the last of the elements that lies at a depth
abbrev pub later : Spelled → Option Spelled → Option Spelled
later x None = Some x
later x (Some y) = Some y

abbrev pub last_at : ℕ → List Spelled → Option Spelled
last_at d [] = None
last_at d (x ∷ xs) = cond (x.depth == d) (later x (last_at d xs)) (last_at d xs)

-- each open group is the last element at its depth, and the open groups lie one at each depth from 0 on
abbrev pub OpenIn : List Spelled → List Spelled → Type 0
OpenIn elements [] = Unit {0}
OpenIn elements (x ∷ xs) = (last_at (length xs) elements ≡ Some x) × OpenIn elements xs
