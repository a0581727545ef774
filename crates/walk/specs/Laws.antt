-- The laws of the walk.
use Rattle.std.specs.Prelude.{◌≡◌, ℕ, ◌*◌, ◌<◌, ◌≤◌, Bool, true, ◌||◌, List, [], ◌∷◌, map, Some, Ok, Err, filter, ◌≢◌}
use Rattle.std.specs.List.{range_with_len, AllByRecursion}
use Rattle.arrow.specs.declared.row.LeafNumbers.{LeafNumbers}
use Rattle.columns.specs.Levels.{leaves_of}
use Rattle.walk.specs.Faults.{Typing}
use Rattle.walk.specs.Fields.{FieldsBelow, HandsOn, RootField, nth_hint}
use Rattle.walk.specs.Flat.{LevelsRead, result_at, size_of, table_of, with_sizes}
use Rattle.walk.specs.Forests.{Spot, Way, on_way, planted, relabel, roots, spots, ways}
use Rattle.walk.specs.Hints.{Hint}
use Rattle.walk.specs.Labels.{Numbered, is_leaf, leaf_count, leaf_node, numbered, numbered_as, shown_tree}
use Rattle.walk.specs.Levels.{OpensEach, ReadsEach, kept_leaf, leaf_row_of, leaves, row_leaf}
use Rattle.walk.specs.Published.{ElementType, KeyValue, ListAgrees, MapAgrees, MapAnnotated, Unannotated}
use Rattle.walk.specs.Reading.{Read}
use Rattle.walk.specs.Refusing.{Faultless, FirstFault, faults_at, rank, walked}
use Rattle.walk.specs.Shape.{Row, Shaped, plain_rows, shape, shape_of}
use Rattle.walk.specs.Shape.RowKind.{leaf_row}
use Rattle.walk.specs.Walk.{Full, full_rows, handed, walk}
use Rattle.walk.specs.Yields.{some_yield}
use Rattle.walk.specs.declared.levels.Levels.{Levels}
use Rattle.schema.specs.Posts.{shown_as}
use Rattle.schema.specs.Refusals.{element_of}
use Rattle.schema.specs.Rows.{IsFinished, SchemaTree}
use Rattle.schema.specs.Words.{Spelled}
use Rattle.schema.specs.declared.basic.Repetition.{Repetition}
use Rattle.schema.specs.declared.basic.Repetition.TheVariants.{Repeated as repeated}
use Rattle.schema.specs.declared.element.Element.{Element}
use Rattle.schema.specs.declared.element.Kind.TheVariants.{Group as group}
use Rattle.schema.specs.declared.refusal.Refusal.{Refusal}
use Rattle.tree.specs.Forest.{Forest, Lists, Tree, alone, count, listing}
use Rattle.tree.specs.Forest.Forest.{bare, plant}
use Rattle.schema.specs.declared.basic.Annotation.TheVariants as a

-- two lists, related place by place
abbrev pub Paired : {A B : Type 0} → (A → B → Type 0) → List A → List B → Type 0
Paired R [] [] = Unit {0}
Paired R [] (y ∷ ys) = ⊥
Paired R (x ∷ xs) [] = ⊥
Paired R (x ∷ xs) (y ∷ ys) = R x y × Paired R xs ys

-- ── Numbers ──

-- a label without its numbers
abbrev pub unnumbered : Numbered → Numbered
unnumbered x = record { number = 0; leaf_number = 0; name = x.name; repetition = x.repetition; field_id = x.field_id; kind = x.kind }

-- Elements are numbered in preorder from 0, leaves too; numbers aside, the labels are the elements; reading changes no path.
pub record Numbers (t : Tree Spelled) : Type 0 where
  pub numbers : map (λ (x : Numbered). x.number) (listing (numbered 0 0 (alone t))) ≡ range_with_len 0 (count (alone t))
  pub leaf_numbers : map (λ (w : Way Numbered). w.end.leaf_number) (ways leaf_node (numbered 0 0 (alone t))) ≡ range_with_len 0 (leaf_count (alone t))
  pub elements : relabel unnumbered (numbered 0 0 (alone t)) ≡ relabel (numbered_as 0 0) (alone t)
  pub paths : map (on_way (λ (p : Spot Read). p.node.of)) (leaves t) ≡ ways leaf_node (numbered 0 0 (alone t))

abbrev pub NumberedInOrder : Type 0
NumberedInOrder = (t : Tree Spelled) → Numbers t

-- ── Levels ──

-- the leaves that are chosen and below no half-taken map, in order
abbrev pub kept_leaves : (ℕ → Bool) → Tree Spelled → List (Way (Spot Read))
kept_leaves chosen t = filter (kept_leaf chosen) (leaves t)

-- R ≤ D, and D is at most so much
abbrev pub Low : ℕ → Row → Type 0
Low most row = (row.levels.rep ≤ row.levels.def) × (row.levels.def ≤ most)

-- Rows whose levels are the schema's.
pub record Leveled (chosen : ℕ → Bool) (t : Tree Spelled) (f : Forest Row) : Type 0 where
  -- the leaf rows, in order, are those of the leaves kept, with their numbers and the highest levels of their paths
  pub leaf_rows : filter row_leaf (listing f) ≡ map leaf_row_of (kept_leaves chosen t)
  -- each definition level of a leaf kept is read by one row on its way
  pub definition_levels : Paired ReadsEach (ways row_leaf f) (kept_leaves chosen t)
  -- each repetition level of a leaf kept is opened by one row on its way
  pub repetition_levels : Paired OpensEach (ways row_leaf f) (kept_leaves chosen t)
  -- at most two rows for each element
  pub few : count f ≤ 2 * count (alone t)

abbrev pub LeafRows : Type 0
LeafRows = (chosen : ℕ → Bool) (t : Tree Spelled) → filter row_leaf (listing (plain_rows chosen t)) ≡ map leaf_row_of (kept_leaves chosen t)

abbrev pub DefinitionLevelsOnce : Type 0
DefinitionLevelsOnce = (chosen : ℕ → Bool) (t : Tree Spelled) → Paired ReadsEach (ways row_leaf (plain_rows chosen t)) (kept_leaves chosen t)

abbrev pub RepetitionLevelsOnce : Type 0
RepetitionLevelsOnce = (chosen : ℕ → Bool) (t : Tree Spelled) → Paired OpensEach (ways row_leaf (plain_rows chosen t)) (kept_leaves chosen t)

abbrev pub TwoRowsAnElement : Type 0
TwoRowsAnElement = (chosen : ℕ → Bool) (t : Tree Spelled) → count (plain_rows chosen t) ≤ 2 * count (alone t)

-- Levels keep R ≤ D ≤ 64, where the schema's rows are a schema by their depths.
abbrev pub LevelsBounded : Type 0
LevelsBounded = (chosen : ℕ → Bool) (names : List ℕ) (bytes : ℕ) (t : Tree Element) (table : List Element) → SchemaTree bytes t table
    → AllByRecursion (Low 64) (listing (plain_rows chosen (shown_tree names t)))

-- There are rows exactly if something yields.
abbrev pub YieldsRows : Type 0
YieldsRows = (chosen : ℕ → Bool) (v : Levels) (null_above : Bool) (f : Forest Read) → planted (shape chosen v null_above f) ≡ some_yield chosen f

-- ── The walk with hints ──

-- a row of the walk, Arrow type and metadata aside; and what its levels are read by
abbrev pub shaped_row : Full → Shaped
shaped_row r = r.shaped

abbrev pub full_row : Full → Row
full_row r = r.shaped.row

-- An accepted walk has the shape, which takes no hints.
abbrev pub HasShape : Type 0
HasShape = (typing : Typing) (chosen : ℕ → Bool) (hints : Forest Hint) (t : Tree Spelled) (f : Forest Full)
    → walk typing chosen hints t ≡ Ok f → relabel shaped_row f ≡ shape_of chosen t

-- rows that are equal, Arrow types and metadata aside
pub record SameShape (f g : Forest Full) : Type 0 where
  pub trees : relabel shaped_row f ≡ relabel shaped_row g
  pub flat : map shaped_row (listing f) ≡ map shaped_row (listing g)
  pub counts : count f ≡ count g

-- So hints never change the shape.
abbrev pub HintsKeepShape : Type 0
HintsKeepShape = (one other : Typing) (chosen : ℕ → Bool) (these those : Forest Hint) (t : Tree Spelled) (f g : Forest Full)
    → walk one chosen these t ≡ Ok f → walk other chosen those t ≡ Ok g → SameShape f g

-- And the rows of an accepted walk have the schema's levels.
abbrev pub WalkLeveled : Type 0
WalkLeveled = (typing : Typing) (chosen : ℕ → Bool) (hints : Forest Hint) (t : Tree Spelled) (f : Forest Full)
    → walk typing chosen hints t ≡ Ok f → Leveled chosen t (relabel full_row f)

-- ── Refusals ──

-- a schema in which nothing lies below a leaf
abbrev pub LeavesEnd : Forest Spelled → Type 0
LeavesEnd bare = Unit {0}
LeavesEnd (plant e below after) = (is_leaf e.kind ≡ true → below ≡ bare) × LeavesEnd below × LeavesEnd after

-- The walk is refused with r exactly where r is the first fault in walking order, and accepted exactly where no element has a fault.
pub record RefusalLaw (typing : Typing) (chosen : ℕ → Bool) (hints : Forest Hint) (t : Tree Spelled) : Type 0 where
  pub refused : (r : Refusal) → walk typing chosen hints t ≡ Err r → FirstFault typing chosen (walked (handed hints t)) r
  pub first : (r : Refusal) → FirstFault typing chosen (walked (handed hints t)) r → walk typing chosen hints t ≡ Err r
  pub accepted : (f : Forest Full) → walk typing chosen hints t ≡ Ok f → AllByRecursion (Faultless typing chosen) (walked (handed hints t))
  pub faultless : AllByRecursion (Faultless typing chosen) (walked (handed hints t)) → walk typing chosen hints t ≡ Ok (full_rows typing chosen hints t)

abbrev pub RefusedFirst : Type 0
RefusedFirst = (typing : Typing) (chosen : ℕ → Bool) (hints : Forest Hint) (t : Tree Spelled) → RefusalLaw typing chosen hints t

-- numbers that rise, from a first one on
abbrev pub Rising : ℕ → List ℕ → Type 0
Rising from [] = Unit {0}
Rising from (n ∷ ns) = (from ≤ n) × Rising n ns

-- The walking order is the order of the table: every element once, by its number. And the faults of one element, which they all name, come by rank.
pub record OrderLaw (typing : Typing) (chosen : ℕ → Bool) (hints : Forest Hint) (t : Tree Spelled) : Type 0 where
  pub elements : LeavesEnd (alone t) → map (λ (p : Spot Read). p.node.of.number) (walked (handed hints t)) ≡ range_with_len 0 (count (alone t))
  pub ranks : (p : Spot Read) → Rising 0 (map rank (faults_at typing chosen p))
  pub names : (p : Spot Read) → AllByRecursion (λ r. element_of r ≡ Some p.node.of.number) (faults_at typing chosen p)

abbrev pub WalkedInOrder : Type 0
WalkedInOrder = (typing : Typing) (chosen : ℕ → Bool) (hints : Forest Hint) (t : Tree Spelled) → OrderLaw typing chosen hints t

-- ── Schemas that are alike ──

-- Finished tables that show the same elements, in any memory, have the same tree; so their walks are the same.
abbrev pub SameSchema : Type 0
SameSchema = (names others : List ℕ) (bytes more : ℕ) (elements table : List Element) (one : IsFinished bytes elements) (other : IsFinished more table)
    → map (shown_as names) elements ≡ map (shown_as others) table → shown_tree names one.0 ≡ shown_tree others other.0

-- ── Selections ──

-- Only the choice of the schema's own leaves plays a part: selections that agree on them have the same walk.
abbrev pub SameSelection : Type 0
SameSelection = (typing : Typing) (one other : ℕ → Bool) (hints : Forest Hint) (t : Tree Spelled) → LeavesEnd (alone t)
    → ((k : ℕ) → k < leaf_count (alone t) → one k ≡ other k) → walk typing one hints t ≡ walk typing other hints t

-- ── Hints and fields ──

-- every element of a schema with what is below it, hints handed out
abbrev pub hinted_spots : Forest Hint → Tree Spelled → List (Spot Read)
hinted_spots hints t = listing (spots (handed hints t))

pub record HintLaw (hints : Forest Hint) (t : Tree Spelled) : Type 0 where
  -- the root is given the first hint
  pub root : map (λ (x : Read). x.given.hint) (roots (handed hints t)) ≡ nth_hint 0 hints ∷ []
  pub others : AllByRecursion HandsOn (hinted_spots hints t)

abbrev pub HintsReach : Type 0
HintsReach = (hints : Forest Hint) (t : Tree Spelled) → HintLaw hints t

pub record FieldLaw (typing : Typing) (hints : Forest Hint) (t : Tree Spelled) : Type 0 where
  pub root : AllByRecursion (RootField typing) (roots (handed hints t))
  pub others : AllByRecursion (FieldsBelow typing) (hinted_spots hints t)

abbrev pub FieldsTold : Type 0
FieldsTold = (typing : Typing) (hints : Forest Hint) (t : Tree Spelled) → FieldLaw typing hints t

-- ── Lists and maps as published ──

-- The reading of a LIST group, optional or required, over one repeated field agrees with the published rules where that field has no annotation.
abbrev pub ListsAsPublished : Type 0
ListsAsPublished = (g c : Numbered) (cb : Forest Numbered) → g.kind ≡ group (Some a.List) → (g.repetition ≢ repeated)
    → c.repetition ≡ repeated → Unannotated c.kind → ListAgrees g c cb

-- The published rules say which element it is wherever the repeated field is no group without fields.
abbrev pub PublishedListsTold : Type 0
PublishedListsTold = (name : List ℕ) (c : Numbered) (cb : Forest Numbered) → is_leaf c.kind || planted cb ≡ true
    → (x : Numbered) × ((r : Repetition) × ElementType name c cb x r)

-- The reading of a MAP group, optional or required, agrees with the published rules where there is a required key and a value.
abbrev pub MapsAsPublished : Type 0
MapsAsPublished = (g e : Numbered) (sides : Forest Numbered) (k v : Numbered) → MapAnnotated g.kind → (g.repetition ≢ repeated)
    → KeyValue e sides k v → MapAgrees g e sides k v

-- ── Levels on flat tables ──

-- The rows lie flat, and each tells its true size.
abbrev pub RowsLieFlat : Type 0
RowsLieFlat = (f : Forest Row) → Lists size_of (with_sizes f) (table_of f)

-- On the tables of a finished schema and of an accepted walk over it, every level of every leaf row is read once.
abbrev pub FlatLevels : Type 0
FlatLevels = (typing : Typing) (chosen : ℕ → Bool) (hints : Forest Hint) (names : List ℕ) (bytes : ℕ) (elements : List Element) (fin : IsFinished bytes elements) (f : Forest Full)
    → walk typing chosen hints (shown_tree names fin.0) ≡ Ok f
    → (q : ℕ) (n : LeafNumbers) → q < count f → (result_at (table_of (relabel full_row f)) q).kind ≡ leaf_row n
    → LevelsRead elements (table_of (relabel full_row f)) q n.element

-- The leaves of a schema are those that a listing counts, in the same order; so a leaf's number is its place among the columns.
abbrev pub LeavesAsListed : Type 0
LeavesAsListed = (names : List ℕ) (bytes : ℕ) (elements : List Element) (fin : IsFinished bytes elements)
    → map (λ (q : Way (Spot Read)). q.end.node.of.number) (leaves (shown_tree names fin.0)) ≡ leaves_of elements
