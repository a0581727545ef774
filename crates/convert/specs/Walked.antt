-- What the walk gives below an element, and what the visits that call each other answer.
use Rattle.std.specs.Prelude.{◌≡◌, ℕ, ◌+◌, ◌*◌, ◌^◌, ◌<◌, ◌≤◌, Bool, true, false, cond, List, ◌++◌, map, length, take, Ok, Option, Result}
use Rattle.schema.specs.Elements.{element_span}
use Rattle.tree.specs.Forest.{Forest, count, Lists, size_at, tops}
use Rattle.tree.specs.Forest.Forest.{bare, plant}
use Rattle.schema.specs.declared.element.Element.{Element}
use Rattle.schema.specs.declared.refusal.Refusal.{Refusal}
use Rattle.arrow.specs.declared.row.ResultRow.{ResultRow}
use Rattle.selection.specs.Sets.{in_flags}
use Rattle.walk.specs.Forests.{height}
use Rattle.walk.specs.Labels.{Numbered, is_leaf, leaf_count, numbered, or_required}
use Rattle.walk.specs.Hints.{Hint, inside, sole}
use Rattle.walk.specs.Reading.{Holder, reading, nobody, by_annotation}
use Rattle.walk.specs.Reading.Part.{as_field, as_key, as_element, as_middle, as_entries}
use Rattle.walk.specs.Faults.{Typing}
use Rattle.walk.specs.Shape.{Items}
use Rattle.walk.specs.Shape.RowKind.{items_row}
use Rattle.walk.specs.Walk.{Full, full_of}
use Rattle.walk.specs.Handing.{hinting}
use Rattle.walk.specs.declared.role.Role.{Role}
use Rattle.walk.specs.declared.role.Role.TheVariants.{Own as own}
use Rattle.walk.specs.declared.levels.Levels.{Levels}
use Rattle.convert.specs.declared.context.Cursor.{Cursor}
use Rattle.convert.specs.declared.context.Seat.{Seat}
use Rattle.convert.specs.declared.context.Task.{Task}
use Rattle.convert.specs.Table.{Stands, Rooted, label, spelled_by, kids}
use Rattle.convert.specs.Handed.{Hinted, HintsLeft, typing_of}
use Rattle.walk.specs.Results.{line_of}
use Rattle.convert.specs.Outcome.{Outcome, Told, outcome, followed, told_label, told_tree}
use Rattle.convert.specs.Visit.{Input, Meets, Seats, gives_as}

-- the number of the leaf that comes after a tree
abbrev pub next_leaf : List ℕ → ℕ → Element → Forest Element → ℕ
next_leaf names k e below = k + cond (is_leaf e.kind) 1 (leaf_count (spelled_by names below))

-- what is told of a field or a key: it stands in its own field
abbrev pub field_told : Bool → Bool → Forest Hint → Numbered → Told
field_told named key hs x = record {
  part = cond key as_key as_field;
  holder = record { name = x.name; field_id = x.field_id; key = key };
  field = hs;
  hint = hs;
  named = named;
}

-- what a field or a key at `i` gives, read by a role
abbrev pub field_as : Input → Result Role Refusal → ℕ → ℕ → Levels → Bool → Bool → Forest Hint → Element → Forest Element → Outcome
field_as s role i k v named key hs e below =
    outcome (typing_of s.hints s.text) (in_flags s.flags) v false
    (told_tree (field_told named key hs (label s.names i k e)) role (label s.names i k e) (kids s.names i k below))

-- by its own annotation
abbrev pub own_role : Input → ℕ → ℕ → Element → Forest Element → Result Role Refusal
own_role s i k e below = by_annotation i e.kind (or_required e.repetition) (kids s.names i k below)

abbrev pub gives_field : Input → ℕ → ℕ → Levels → Bool → Bool → Forest Hint → Element → Forest Element → Outcome
gives_field s i k v named key hs e below = field_as s (own_role s i k e below) i k v named key hs e below

-- what fields side by side give, the hints handed to them in turn
abbrev pub gives_all : Input → ℕ → ℕ → Levels → Bool → Forest Hint → Forest Element → Outcome
gives_all s n k v named hs f =
    outcome (typing_of s.hints s.text) (in_flags s.flags) v false (hinting named bare hs (reading as_field nobody (numbered n k (spelled_by s.names f))))

-- ── What a visit needs ──

-- there is a hint at the row, or none is given
abbrev pub HasHint : Input → Option ℕ → Type 0
HasHint s hint = (hs : Forest Hint) × Hinted s.hints s.text hint hs

-- an element's tree stands at `i`, with room for its rows, and its levels and leaf numbers do not pass their types
pub record Ready (table : List Element) (i : ℕ) (v : Levels) (start : Cursor) (room : ℕ) : Type 0 where
  pub root : Rooted table i
  pub fits : start.row + 2 * (1 + count root.below) ≤ room
  pub few : start.leaf + (1 + count root.below) < 2 ^ 64
  pub rep_low : v.rep + (1 + height root.below) ≤ 60000
  pub def_low : v.def + (1 + height root.below) ≤ 60000

-- the same for what is below it
pub record ReadyBelow (table : List Element) (i : ℕ) (v : Levels) (start : Cursor) (room : ℕ) : Type 0 where
  pub root : Rooted table i
  pub fits : start.row + 2 * count root.below ≤ room
  pub few : start.leaf + count root.below < 2 ^ 64
  pub rep_low : v.rep + height root.below ≤ 60000
  pub def_low : v.def + height root.below ≤ 60000

-- ── What a visit answers ──

-- of the element at `i`, which has a row of its own
abbrev pub Visits : Input → ℕ → Seat → Cursor → List ResultRow → List ResultRow → Result Cursor Refusal → Type 0
Visits s i c start before after r =
    (e : Element) (below next : Forest Element) → Stands s.elements i (plant e below next) → (t : Told) → Seats s c t
    → Meets s.names (gives_as s (Ok own) i start.leaf c t e below) start.row (next_leaf s.names start.leaf e below) before after r

-- of the field or key at `i`, read by a role, its name aside
abbrev pub VisitsAs : Result Role Refusal → Input → ℕ → Task → Cursor → List ResultRow → List ResultRow → Result Cursor Refusal → Type 0
VisitsAs role s i c start before after r =
    (e : Element) (below next : Forest Element) → Stands s.elements i (plant e below next) → (hs : Forest Hint) → Hinted s.hints s.text c.hint hs
    → Meets s.names (field_as s role i start.leaf c.levels false c.key hs e below) start.row (next_leaf s.names start.leaf e below) before after r

-- of the field or key at `i`
abbrev pub Dispatches : Input → ℕ → Task → Cursor → List ResultRow → List ResultRow → Result Cursor Refusal → Type 0
Dispatches s i c start before after r =
    (e : Element) (below next : Forest Element) → Stands s.elements i (plant e below next) → (hs : Forest Hint) → Hinted s.hints s.text c.hint hs
    → Meets s.names (gives_field s i start.leaf c.levels c.named c.key hs e below) start.row (next_leaf s.names start.leaf e below) before after r

-- of all fields below the element at `i`, whose hint is the struct
abbrev pub Fields : Input → ℕ → Levels → Option ℕ → Cursor → List ResultRow → List ResultRow → Result Cursor Refusal → Type 0
Fields s i v hint start before after r =
    (e : Element) (below next : Forest Element) → Stands s.elements i (plant e below next) → (hs : Forest Hint) → Hinted s.hints s.text hint hs
    → Meets s.names (gives_all s (i + 1) start.leaf v true (inside hs) below) start.row (start.leaf + leaf_count (spelled_by s.names below)) before after r

-- ── The loop over fields ──

-- how far the fields of the struct at `i` have been visited: `places` are those of the fields that are left, whose trees stand
-- from `at` on
pub record Inside (s : Input) (i : ℕ) (v : Levels) (hint : Option ℕ) (start : Cursor) (before : List ResultRow) (places : List ℕ) (given : Option ℕ) (cursor : Cursor) (out : List ResultRow) : Type 0 where
  pub whole : Forest Element
  pub lists : Lists element_span whole s.elements
  pub top : Element
  pub all : Forest Element
  pub after : Forest Element
  pub lies : Stands s.elements i (plant top all after)
  pub at : ℕ
  pub rest : Forest Element
  pub left : Stands s.elements at rest
  pub past : i < at
  pub filled : at + count rest ≡ i + size_at element_span s.elements i
  pub comes : places ≡ tops at rest
  pub long : length out ≡ length before
  pub fits : cursor.row + 2 * count rest ≤ length out
  pub few_left : cursor.leaf + count rest < 2 ^ 64
  pub rep_low : v.rep + height rest ≤ 60000
  pub def_low : v.def + height rest ≤ 60000
  pub rows : List ResultRow
  pub counts : cursor.leaf + leaf_count (spelled_by s.names rest) ≡ start.leaf + leaf_count (spelled_by s.names all)
  pub ends : cursor.row ≡ start.row + length rows
  pub kept : take cursor.row out ≡ take start.row before ++ rows
  -- the struct's hint, and those that are left for its fields
  pub hs : Forest Hint
  pub hinted : Hinted s.hints s.text hint hs
  pub more : Forest Hint
  pub more_left : HintsLeft s.hints s.text hint given more
  pub is : gives_all s (i + 1) start.leaf v true (inside hs) all ≡ followed (Ok (map (line_of s.names) rows)) (gives_all s at cursor.leaf v true more rest)

-- ── What a list's and a map's repeated child is told ──

abbrev pub group_holder : Bool → Numbered → Holder
group_holder key x = record { name = x.name; field_id = x.field_id; key = key }

-- by rules 1 to 4 the element itself
abbrev pub element_told : Bool → Forest Hint → Numbered → Told
element_told key hs x = record { part = as_element; holder = group_holder key x; field = hs; hint = sole (inside hs); named = false }

-- by rule 5 the element's parent
abbrev pub middle_told : Bool → Forest Hint → Numbered → Told
middle_told key hs x = record { part = as_middle; holder = group_holder key x; field = hs; hint = sole (inside hs); named = false }

-- a map's entries
abbrev pub entries_told : Bool → Forest Hint → Numbered → Told
entries_told key hs x = record { part = as_entries; holder = group_holder key x; field = hs; hint = sole (inside hs); named = false }

-- the row of a list or map, that of the repeated child y
abbrev pub items_full : Typing → Told → Result Role Refusal → Items → Numbered → Levels → Bool → Full
items_full typing t role i y v null = full_of typing (record { label = told_label t role y; inner = false; row = record { kind = items_row i; levels = v; nullable = null } })
