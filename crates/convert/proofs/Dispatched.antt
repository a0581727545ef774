-- A field or key visited by its role.
use Rattle.std.proofs.Common.{◌≡◌, ℕ, Bool, true, false, cond, not, ◌&&◌, ◌||◌, List, [], ◌++◌, map, Ok, Err, Result, sym, refl, ap, ◌∙◌, subst, ap₂, arith, Some, None, Option, ◌⊎◌, inl, inr}
use Rattle.tree.specs.Forest.{Forest}
use Rattle.tree.specs.Forest.Forest.{bare, plant}
use Rattle.schema.specs.declared.basic.Annotation.{Annotation}
use Rattle.schema.specs.declared.basic.Annotation.TheVariants as a
use Rattle.schema.specs.declared.basic.Repetition.{Repetition}
use Rattle.schema.specs.declared.basic.Repetition.TheVariants.{Optional as optional, Repeated as repeated, Required as required}
use Rattle.schema.specs.declared.element.Element.{Element}
use Rattle.schema.specs.declared.element.Kind.{Kind}
use Rattle.schema.specs.declared.element.Kind.TheVariants.{Leaf as leaf, Group as group}
use Rattle.schema.specs.declared.refusal.Refusal.{Refusal}
use Rattle.schema.specs.declared.refusal.Refusal.TheVariants as no
use Rattle.schema.specs.Elements.{part}
use Rattle.arrow.specs.declared.row.ResultRow.{ResultRow}
use Rattle.selection.specs.Sets.{in_flags}
use Rattle.walk.specs.Forests.{relabel, trees}
use Rattle.walk.specs.Labels.{Numbered, is_leaf, is_repeated, repeated_element, or_required}
use Rattle.walk.specs.Hints.{Hint}
use Rattle.walk.specs.Reading.{Read, by_annotation, list_role, list_child, map_role, map_child, entries_role}
use Rattle.walk.specs.Handing.{wrapped, unwrap}
use Rattle.walk.specs.Faults.{Typing, name_checks, wrap_checks, type_checks, group_checks}
use Rattle.walk.specs.Yields.{both_yield}
use Rattle.walk.specs.Shape.{Items, raised, has_own, items_of, wrap, leaf_part, group_rows, passes_null}
use Rattle.walk.specs.Shape.Items.{of_list, of_map}
use Rattle.walk.specs.Walk.{Full, full_of}
use Rattle.walk.specs.declared.role.Role.{Role}
use Rattle.walk.specs.declared.role.Role.TheVariants.{Own as own, Listed as listed, Middle as middle, Mapped as mapped, Entries as entries}
use Rattle.walk.specs.declared.levels.Levels.{Levels}
use Rattle.convert.specs.declared.context.Cursor.{Cursor}
use Rattle.convert.specs.declared.context.Seat.{Seat}
use Rattle.convert.specs.declared.context.Task.{Task}
use Rattle.convert.specs.Table.{Stands, Rooted, Reads, element_at, label, kids}
use Rattle.convert.specs.Handed.{Hinted, Passes, typing_of}
use Rattle.walk.specs.Results.{lines}
use Rattle.convert.specs.Outcome.{Outcome, Told, outcome, within_all, checked, told_label, told_below, told_tree}
use Rattle.convert.specs.Visit.{Input, Seats, Meets}
use Rattle.convert.specs.Walked.{Visits, VisitsAs, Dispatches, next_leaf, field_told, field_as, own_role, gives_field}
use Rattle.convert.proofs.Trees.{read_here}
use Rattle.convert.proofs.Outcomes.{at_group, at_leaf, halved}

-- ── A name that is compared, apart ──

module _ (s : Input) (role : Result Role Refusal) (i k : ℕ) (v : Levels) (key : Bool) (hs : Forest Hint) (e : Element) (b : Forest Element) where
  abbrev typing : Typing
  typing = typing_of s.hints s.text

  abbrev chosen : ℕ → Bool
  chosen = in_flags s.flags

  abbrev shown : Numbered
  shown = label s.names i k e

  abbrev read_as : Bool → Read
  read_as named = told_label (field_told named key hs shown) role shown

  abbrev under : Forest Read
  under = told_below (field_told false key hs shown) role shown (kids s.names i k b)

  abbrev rep : Repetition
  rep = or_required e.repetition

  abbrev names : Bool → List Refusal
  names named = name_checks i named (part s.names e.name) hs

  -- no row depends on it
  group_same : (named : Bool) (items : Items) (o : Bool) (r : Repetition) (w : Levels) (p : Bool)
      → map (full_of typing) (group_rows (read_as named) items o r w p) ≡ map (full_of typing) (group_rows (read_as false) items o r w p)
  group_same named of_list true required w p = refl
  group_same named of_list true optional w p = refl
  group_same named of_list true repeated w p = refl
  group_same named of_list false required w p = refl
  group_same named of_list false optional w p = refl
  group_same named of_list false repeated w p = refl
  group_same named of_map true required w p = refl
  group_same named of_map true optional w p = refl
  group_same named of_map true repeated w p = refl
  group_same named of_map false required w p = refl
  group_same named of_map false optional w p = refl
  group_same named of_map false repeated w p = refl

  wrap_same : (named : Bool) (r : Repetition) (w : Levels) (p : Bool) → map (full_of typing) (wrap (read_as named) of_list r w p) ≡ map (full_of typing) (wrap (read_as false) of_list r w p)
  wrap_same named required w p = refl
  wrap_same named optional w p = refl
  wrap_same named repeated w p = refl

  leaf_same : (named c : Bool) (r : Repetition) (w : Levels) → relabel (full_of typing) (leaf_part c (read_as named) r w) ≡ relabel (full_of typing) (leaf_part c (read_as false) r w)
  leaf_same named false r w = refl
  leaf_same named true required w = refl
  leaf_same named true optional w = refl
  leaf_same named true repeated w = refl

  named_by : (named : Bool) (q : Kind) → e.kind ≡ q → field_as s role i k v named key hs e b ≡ checked (names named) (field_as s role i k v false key hs e b)
  named_by named (group n) q =
      at_group typing chosen v false (read_as named) n under q
      ∙ ap (λ (rs : List Full). checked (names named) (checked (group_checks i role (wrapped (read_as false).part rep) hs (trees under))
      (within_all rs (halved role (both_yield chosen under) (outcome typing chosen (raised v rep) (passes_null (has_own role) rep) under)))))
      (group_same named (items_of role) (has_own role) rep (raised v rep) false)
      ∙ ap (checked (names named)) (sym (at_group typing chosen v false (read_as false) n under q))
  named_by named (leaf l) q =
      at_leaf typing chosen v false (read_as named) l under q
      ∙ ap₂ (λ (rs : List Full) (f : Forest Full). checked (names named)
      (checked (cond (chosen k) (wrap_checks i (wrapped (read_as false).part rep) hs ++ type_checks i (typing l (unwrap (wrapped (read_as false).part rep) hs))) [])
      (within_all rs (Ok (lines f))))) (wrap_same named rep (raised v rep) false) (leaf_same named (chosen k) rep (raised v rep))
      ∙ ap (checked (names named)) (sym (at_leaf typing chosen v false (read_as false) l under q))

  pub named_apart : (named : Bool) → field_as s role i k v named key hs e b ≡ checked (names named) (field_as s role i k v false key hs e b)
  named_apart named = named_by named e.kind refl

  -- a group that breaks the rules
  pub broken_gives : (x : Refusal) → role ≡ Err x → (n : Option Annotation) → e.kind ≡ group n → field_as s role i k v false key hs e b ≡ Err x
  broken_gives x h n q =
      at_group typing chosen v false (read_as false) n under q
      ∙ ap (λ (y : Result Role Refusal). checked (group_checks i y (wrapped (read_as false).part rep) hs (trees under))
      (within_all (map (full_of typing) (group_rows (read_as false) (items_of role) (has_own role) rep (raised v rep) false))
      (halved role (both_yield chosen under) (outcome typing chosen (raised v rep) (passes_null (has_own role) rep) under)))) h

-- ── Roles that an annotation gives ──

abbrev by_parent : Result Role Refusal → ℕ
by_parent (Ok own) = 0
by_parent (Ok listed) = 0
by_parent (Ok middle) = 1
by_parent (Ok mapped) = 0
by_parent (Ok entries) = 1
by_parent (Err n) = 0

pub broken_kind : (i : ℕ) (q : Kind) (rep : Repetition) (f : Forest Numbered) (x : Refusal) → by_annotation i q rep f ≡ Err x → (n : Option Annotation) × (q ≡ group n)
broken_kind i (leaf l) rep f x h = absurd cc
broken_kind i (group n) rep f x h = (n, refl)

cond_parent : (b : Bool) (x y : Result Role Refusal) → by_parent x ≡ 0 → by_parent y ≡ 0 → by_parent (cond b x y) ≡ 0
cond_parent true x y p q = p
cond_parent false x y p q = q

list_child_own : (n : ℕ) (a b : Bool) → by_parent (list_child n a b) ≡ 0
list_child_own n false b = refl
list_child_own n true true = refl
list_child_own n true false = refl

list_own : (n : ℕ) (r : Repetition) (f : Forest Numbered) → by_parent (list_role n r f) ≡ 0
list_own n r bare = refl
list_own n r (plant c cb bare) = list_child_own n (repeated_element c) (is_repeated r)
list_own n r (plant c cb (plant d db z)) = refl

entries_own : (n : ℕ) (f : Forest Numbered) → by_parent (entries_role n f) ≡ 0
entries_own n bare = refl
entries_own n (plant x xb bare) = refl
entries_own n (plant x xb (plant y yb bare)) = cond_parent (repeated_element x || repeated_element y) (Err (no.EntryRepeated n)) (Ok mapped) refl refl
entries_own n (plant x xb (plant y yb (plant z zb w))) = refl

map_child_own : (n : ℕ) (f : Forest Numbered) → by_parent (map_child n f) ≡ 0
map_child_own n bare = refl
map_child_own n (plant c cb bare) = cond_parent (repeated_element c && not (is_leaf c.kind)) (entries_role n cb) (Err (no.MapChildNotRepeatedGroup n)) (entries_own n cb) refl
map_child_own n (plant c cb (plant d db z)) = refl

map_own : (n : ℕ) (r : Repetition) (f : Forest Numbered) → by_parent (map_role n r f) ≡ 0
map_own n r f = cond_parent (is_repeated r) (Err (no.MapRepeated n)) (map_child n f) refl (map_child_own n f)

own_annotation : (n : ℕ) (q : Kind) (r : Repetition) (f : Forest Numbered) → by_parent (by_annotation n q r f) ≡ 0
own_annotation n (leaf l) r f = refl
own_annotation n (group None) r f = refl
own_annotation n (group (Some a.List)) r f = list_own n r f
own_annotation n (group (Some a.Map)) r f = map_own n r f
own_annotation n (group (Some a.MapKeyValue)) r f = map_own n r f

reads_own : (table : List Element) (i : ℕ) (role : Result Role Refusal) → Reads table i role → Rooted table i → by_parent role ≡ 0
reads_own table i role h t =
    sym (ap by_parent (h t.top t.below t.after t.lies [] 0)) ∙ own_annotation i t.top.kind (or_required t.top.repetition) (kids [] i 0 t.below)

-- a role that is read, known by its variant
pub reads_as : {table : List Element} {i : ℕ} {role : Role} (r : Role) → role ≡ r → Reads table i (Ok role) → Reads table i (Ok r)
reads_as {table} {i} r e h = subst (λ (x : Role). Reads table i (Ok x)) e h

-- the roles of a repeated child are never read
pub never_below : (table : List Element) (i : ℕ) (role : Role) → Reads table i (Ok role) → Rooted table i → (role ≡ middle) ⊎ (role ≡ entries) → ⊥
never_below table i role h t (inl e) = omega (arith, reads_own table i (Ok middle) (reads_as middle e h) t)
never_below table i role h t (inr e) = omega (arith, reads_own table i (Ok entries) (reads_as entries e h) t)

-- ── The field or key at a place ──

module _ (s : Input) (i : ℕ) (c : Task) (start : Cursor) (before after : List ResultRow) where
  abbrev here : Element
  here = element_at s.elements i

  -- its name is another
  pub dispatch_misnamed : (x : Refusal)
      → ((hs : Forest Hint) → Hinted s.hints s.text c.hint hs → Passes (name_checks i c.named (part s.names here.name) hs) (Err x)) → Dispatches s i c start before after (Err x)
  dispatch_misnamed x f e b m q hs p =
      let z = f hs p in
      named_apart s (own_role s i start.leaf e b) i start.leaf c.levels c.key hs e b c.named
      ∙ ap (λ (y : Element). checked (name_checks i c.named (part s.names y.name) hs) (gives_field s i start.leaf c.levels false c.key hs e b)) (sym (read_here s.elements i e b m q))
      ∙ ap (λ (l : List Refusal). checked l (gives_field s i start.leaf c.levels false c.key hs e b)) z.1

  module _ (f : (hs : Forest Hint) → Hinted s.hints s.text c.hint hs → name_checks i c.named (part s.names here.name) hs ≡ []) (role : Result Role Refusal) (g : Reads s.elements i role) where
    role_form : (e : Element) (b m : Forest Element) → Stands s.elements i (plant e b m) → (hs : Forest Hint) → Hinted s.hints s.text c.hint hs
        → gives_field s i start.leaf c.levels c.named c.key hs e b ≡ field_as s role i start.leaf c.levels false c.key hs e b
    role_form e b m q hs p =
        named_apart s (own_role s i start.leaf e b) i start.leaf c.levels c.key hs e b c.named
        ∙ ap (λ (y : Element). checked (name_checks i c.named (part s.names y.name) hs) (gives_field s i start.leaf c.levels false c.key hs e b)) (sym (read_here s.elements i e b m q))
        ∙ ap (λ (l : List Refusal). checked l (gives_field s i start.leaf c.levels false c.key hs e b)) (f hs p)
        ∙ ap (λ (y : Result Role Refusal). field_as s y i start.leaf c.levels false c.key hs e b) (g e b m q s.names start.leaf)

    pub dispatch_by : (r : Result Cursor Refusal) → VisitsAs role s i c start before after r → Dispatches s i c start before after r
    dispatch_by r h e b m q hs p =
        subst (λ (o : Outcome). Meets s.names o start.row (next_leaf s.names start.leaf e b) before after r) (sym (role_form e b m q hs p)) (h e b m q hs p)

    pub dispatch_broken : (x : Refusal) → role ≡ Err x → Dispatches s i c start before after (Err x)
    dispatch_broken x h e b m q hs p =
        let n = broken_kind i e.kind (or_required e.repetition) (kids s.names i start.leaf b) x (g e b m q s.names start.leaf ∙ h) in
        role_form e b m q hs p ∙ broken_gives s role i start.leaf c.levels c.key hs e b x h n.0 n.1

  -- with a row of its own
  pub own_as : (seat : Seat) → seat.levels ≡ c.levels → seat.null_above ≡ false
      → ((j k : ℕ) (hs : Forest Hint) → Hinted s.hints s.text c.hint hs → Seats s seat (field_told false c.key hs (label s.names j k here)))
      → (r : Result Cursor Refusal) → Visits s i seat start before after r → VisitsAs (Ok own) s i c start before after r
  own_as seat l u f r h e b m q hs p =
      let t : Told = field_told false c.key hs (label s.names i start.leaf e) in
      subst (λ (o : Outcome). Meets s.names o start.row (next_leaf s.names start.leaf e b) before after r)
      (ap₂ (λ (v : Levels) (y : Bool). outcome (typing_of s.hints s.text) (in_flags s.flags) v y (told_tree t (Ok own) (label s.names i start.leaf e) (kids s.names i start.leaf b))) l u)
      (h e b m q t (subst (λ (x : Element). Seats s seat (field_told false c.key hs (label s.names i start.leaf x))) (read_here s.elements i e b m q) (f i start.leaf hs p)))
