-- How levels are read: in the schema, by the elements on the path to a leaf, and in the rows, by those on the way to a leaf row.
use Rattle.std.specs.Prelude.{◌≡◌, ℕ, zero, suc, ◌<◌, ◌≤◌, Bool, true, false, not, ◌&&◌, ◌⊎◌, List, [], ◌∷◌, ◌++◌, map}
use Rattle.walk.specs.Forests.{Spot, Way, along, spots, ways}
use Rattle.walk.specs.Labels.{Numbered, is_leaf, is_optional}
use Rattle.walk.specs.Reading.{Read}
use Rattle.walk.specs.Shape.{Row, RowKind, read}
use Rattle.walk.specs.Shape.RowKind.{items_row, leaf_row, struct_row}
use Rattle.walk.specs.Yields.{half_taken}
use Rattle.walk.specs.declared.levels.Levels.{Levels}
use Rattle.schema.specs.Words.{Spelled}
use Rattle.schema.specs.declared.basic.Repetition.{Repetition}
use Rattle.schema.specs.declared.basic.Repetition.TheVariants.{Optional as optional, Repeated as repeated, Required as required}
use Rattle.tree.specs.Forest.{Tree}

-- ── The schema ──

-- A path's highest definition level counts its optional and repeated elements, its highest repetition level the repeated ones.
abbrev pub definition_level : List Repetition → ℕ
definition_level [] = 0
definition_level (required ∷ rs) = definition_level rs
definition_level (optional ∷ rs) = suc (definition_level rs)
definition_level (repeated ∷ rs) = suc (definition_level rs)

abbrev pub repetition_level : List Repetition → ℕ
repetition_level [] = 0
repetition_level (required ∷ rs) = repetition_level rs
repetition_level (optional ∷ rs) = repetition_level rs
repetition_level (repeated ∷ rs) = suc (repetition_level rs)

abbrev pub highest : List Repetition → Levels
highest rs = record { rep = repetition_level rs; def = definition_level rs }

-- what a definition level below the highest says of a value
pub data Meaning : Type 0 where
  absent no_items : Meaning

abbrev pub Says : Repetition → Meaning → Type 0
Says required m = ⊥
Says optional m = m ≡ absent
Says repeated m = m ≡ no_items

-- The definition level d belongs to the (d+1)-th optional or repeated element of the path: absent if that is optional, no items if it is repeated.
pub record Belongs (rs : List Repetition) (d : ℕ) (m : Meaning) : Type 0 where
  pub before : List Repetition
  pub here : Repetition
  pub after : List Repetition
  pub splits : rs ≡ before ++ here ∷ after
  pub level : definition_level before ≡ d
  pub says : Says here m

-- The repetition level r belongs to the r-th repeated element of the path, down to which d elements, itself counted, are optional or repeated.
pub record Repeats (rs : List Repetition) (r d : ℕ) : Type 0 where
  pub before : List Repetition
  pub after : List Repetition
  pub splits : rs ≡ before ++ repeated ∷ after
  pub level : suc (repetition_level before) ≡ r
  pub stands : suc (definition_level before) ≡ d

-- ── The rows ──

-- a definition level, and what it is read as
pub record Means : Type 0 where
  pub level : ℕ
  pub meaning : Meaning

-- a repetition level at which items are opened, and the definition level of the row that opens them
pub record Opens : Type 0 where
  pub level : ℕ
  pub stands : ℕ

abbrev pub less : ℕ → ℕ
less zero = zero
less (suc n) = n

-- A list or map row reads D − 1 as no items and, if nullable, D − 2 as absent. Any other nullable row reads D − 1 as absent.
abbrev pub reads_by : RowKind → Bool → ℕ → List Means
reads_by (leaf_row n) false d = []
reads_by (leaf_row n) true d = record { level = less d; meaning = absent } ∷ []
reads_by struct_row false d = []
reads_by struct_row true d = record { level = less d; meaning = absent } ∷ []
reads_by (items_row i) false d = record { level = less d; meaning = no_items } ∷ []
reads_by (items_row i) true d = record { level = less (less d); meaning = absent } ∷ record { level = less d; meaning = no_items } ∷ []

abbrev pub reads : Row → List Means
reads row = reads_by row.kind row.nullable row.levels.def

-- A list or map row opens items at its repetition level.
abbrev pub opens_by : RowKind → Levels → List Opens
opens_by (leaf_row n) v = []
opens_by struct_row v = []
opens_by (items_row i) v = record { level = v.rep; stands = v.def } ∷ []

abbrev pub opens : Row → List Opens
opens row = opens_by row.kind row.levels

abbrev pub Among : {A : Type 0} → A → List A → Type 0
Among a [] = ⊥
Among a (x ∷ xs) = (a ≡ x) ⊎ Among a xs

-- there is such a place in the list, and P holds of what stands at it
abbrev pub At : {A : Type 0} → (A → Type 0) → List A → ℕ → Type 0
At P [] i = ⊥
At P (x ∷ xs) zero = P x
At P (x ∷ xs) (suc i) = At P xs i

-- One row alone reads the definition level d, and it reads it as m.
pub record ReadsOnce (rows : List Row) (d : ℕ) (m : Meaning) : Type 0 where
  pub place : ℕ
  pub reads_it : At (λ row. Among (record { level = d; meaning = m }) (reads row)) rows place
  pub alone : (i : ℕ) (n : Meaning) → At (λ row. Among (record { level = d; meaning = n }) (reads row)) rows i → (i ≡ place) × (n ≡ m)

-- One row alone opens the repetition level r, and its definition level is d.
pub record OpensOnce (rows : List Row) (r d : ℕ) : Type 0 where
  pub place : ℕ
  pub opens_it : At (λ row. Among (record { level = r; stands = d }) (opens row)) rows place
  pub alone : (i : ℕ) (e : ℕ) → At (λ row. Among (record { level = r; stands = e }) (opens row)) rows i → (i ≡ place) × (e ≡ d)

-- ── The leaves kept ──

abbrev pub leaf_spot : Spot Read → Bool
leaf_spot p = is_leaf p.node.of.kind

-- the leaves of a schema, in order, each with its path from the root down
abbrev pub leaves : Tree Spelled → List (Way (Spot Read))
leaves t = ways leaf_spot (spots (read t))

abbrev pub spot_repetition : Spot Read → Repetition
spot_repetition p = p.node.of.repetition

-- the repetitions along the path, the leaf's own last
abbrev pub path : Way (Spot Read) → List Repetition
path q = map spot_repetition (along q)

-- below no half-taken map
abbrev pub clear : (ℕ → Bool) → List (Spot Read) → Bool
clear chosen [] = true
clear chosen (p ∷ ps) = not (half_taken chosen p) && clear chosen ps

-- A leaf is kept if it is chosen and below no half-taken map.
abbrev pub kept_leaf : (ℕ → Bool) → Way (Spot Read) → Bool
kept_leaf chosen q = clear chosen q.above && chosen q.end.node.of.leaf_number

-- the row of a leaf at its levels: with its numbers, null if it is optional
abbrev pub leaf_row_at : Numbered → Levels → Row
leaf_row_at x v = record { kind = leaf_row (record { element = x.number; leaf = x.leaf_number }); levels = v; nullable = is_optional x.repetition }

-- the row of a leaf: its levels are the highest of its path
abbrev pub leaf_row_of : Way (Spot Read) → Row
leaf_row_of q = leaf_row_at q.end.node.of (highest (path q))

-- ── Leaf rows ──

abbrev pub is_leaf_row : RowKind → Bool
is_leaf_row (leaf_row n) = true
is_leaf_row struct_row = false
is_leaf_row (items_row i) = false

abbrev pub row_leaf : Row → Bool
row_leaf row = is_leaf_row row.kind

-- Each definition level below the highest of a leaf's path is read by one row alone on the way to its row, as what it says in the schema.
abbrev pub ReadsEach : Way Row → Way (Spot Read) → Type 0
ReadsEach w q = (d : ℕ) → d < definition_level (path q) → (m : Meaning) × Belongs (path q) d m × ReadsOnce (along w) d m

-- Each repetition level up to the highest is opened by one row alone on the way, that of its repeated element.
abbrev pub OpensEach : Way Row → Way (Spot Read) → Type 0
OpensEach w q = (r : ℕ) → 0 < r → r ≤ repetition_level (path q) → (d : ℕ) × Repeats (path q) r d × OpensOnce (along w) r d
