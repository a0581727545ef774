-- Fields in turn, and a struct round its fields.
use Rattle.std.proofs.Common.{◌≡◌, ℕ, suc, ◌+◌, ◌*◌, ◌≤◌, Bool, true, false, not, ◌&&◌, List, [], ◌∷◌, ◌++◌, map, length, None, Ok, sym, refl, ap, ◌∙◌, ap₂, arith, Option, Result}
use Rattle.tree.specs.Forest.{Forest, count}
use Rattle.tree.specs.Forest.Forest.{bare, plant}
use Rattle.schema.specs.declared.basic.Annotation.{Annotation}
use Rattle.schema.specs.declared.basic.Repetition.{Repetition}
use Rattle.schema.specs.declared.basic.Repetition.TheVariants.{Optional as optional, Repeated as repeated, Required as required}
use Rattle.schema.specs.declared.element.Element.{Element}
use Rattle.schema.specs.declared.element.Kind.TheVariants.{Group as group}
use Rattle.schema.specs.declared.refusal.Refusal.{Refusal}
use Rattle.schema.specs.Elements.{part}
use Rattle.schema.specs.Posts.{shown_as}
use Rattle.arrow.specs.declared.types.ArrowType.TheVariants as a
use Rattle.selection.specs.Sets.{in_flags}
use Rattle.walk.specs.Forests.{relabel, trees}
use Rattle.walk.specs.Labels.{Numbered, is_repeated, numbered, or_required}
use Rattle.walk.specs.Hints.{Hint, sole, others, inside}
use Rattle.walk.specs.Reading.{Part, Holder, Read, reading, nobody, role_of, held_by, child_part, next_part}
use Rattle.walk.specs.Reading.Part.{as_field}
use Rattle.walk.specs.Handing.{hinting, wrapped, unwrap, with_hint, compares_names, hands_on, field_hint}
use Rattle.walk.specs.Faults.{Typing, name_checks, wrap_checks, struct_checks, group_checks, refusals}
use Rattle.walk.specs.Shape.{raised, group_rows, shape}
use Rattle.walk.specs.Shape.Items.{of_list}
use Rattle.walk.specs.Walk.{Full, full_of, unless_refused}
use Rattle.walk.specs.declared.role.Role.{Role}
use Rattle.walk.specs.declared.role.Role.TheVariants.{Own as own}
use Rattle.walk.specs.declared.levels.Levels.{Levels}
use Rattle.walk.proofs.Lists.{count_relabel}
use Rattle.walk.proofs.Order.{few}
use Rattle.walk.proofs.Numbers.{count_reading, count_numbered}
use Rattle.convert.specs.declared.context.Seat.{Seat}
use Rattle.convert.specs.Table.{label, spelled_by, kids}
use Rattle.convert.specs.Handed.{typing_of}
use Rattle.walk.specs.Results.{Line, lines, shown_row}
use Rattle.convert.specs.Outcome.{Outcome, Told, outcome, followed, within, within_all, checked, told_label, told_below, told_tree}
use Rattle.convert.specs.Visit.{Input, Seats, gives_as}
use Rattle.convert.specs.Own.{own_row, listed_if}
use Rattle.convert.specs.Walked.{next_leaf, field_told, field_as, own_role, gives_field, gives_all}
use Rattle.convert.proofs.Trees.{count_plant}
use Rattle.convert.proofs.Outcomes.{in_turn, at_group, length_lines}
use Rattle.convert.proofs.Seated.{wrapped_is, list_shown, own_shown}

-- ── Fields in turn ──

-- of fields neither whose field is above them nor that field's hint plays a part
pub free : (n : Bool) (u v : Forest Hint) (g h : Holder) (hs : Forest Hint) (f : Forest Numbered)
    → hinting n u hs (reading as_field g f) ≡ hinting n v hs (reading as_field h f)
unfolding hinting reading
free n u v g h hs bare = refl
free n u v g h hs (plant x b c) =
    ap (plant (with_hint (record { of = x; role = role_of as_field x b; part = as_field; holder = held_by as_field g x; given = record { named = false; hint = bare; field = bare } }) n u hs)
    (hinting (compares_names (role_of as_field x b)) (sole hs) (hands_on (role_of as_field x b) (wrapped as_field x.repetition) (sole hs))
    (reading (child_part (role_of as_field x b) x.name b) (held_by as_field g x) b)))
    (free n u v g h (others hs) c)

pub count_shown : (names : List ℕ) (f : Forest Element) → count (spelled_by names f) ≡ count f
count_shown names f = count_relabel (shown_as names) f

-- the first field, and then the others
pub gives_turn : (s : Input) (n k : ℕ) (v : Levels) (named : Bool) (hs : Forest Hint) (e : Element) (b c : Forest Element)
    → gives_all s n k v named hs (plant e b c)
    ≡ followed (gives_field s n k v named false (sole hs) e b) (gives_all s (n + (1 + count b)) (next_leaf s.names k e b) v named (others hs) c)
unfolding hinting reading
gives_turn s n k v named hs e b c =
    let m : n + 1 + count (spelled_by s.names b) ≡ n + (1 + count b) = omega (arith, count_shown s.names b) in
    let x : Numbered = label s.names n k e in
    let role : Result Role Refusal = own_role s n k e b in
    let t : Told = field_told named false (sole hs) x in
    in_turn (typing_of s.hints s.text) (in_flags s.flags) v false (told_label t role x) (told_below t role x (kids s.names n k b))
    (hinting named bare (others hs) (reading as_field nobody (numbered (n + 1 + count (spelled_by s.names b)) (next_leaf s.names k e b) (spelled_by s.names c))))
    ∙ ap (λ (z : ℕ). followed (gives_field s n k v named false (sole hs) e b) (gives_all s z (next_leaf s.names k e b) v named (others hs) c)) m

pub gives_none : (s : Input) (n k : ℕ) (v : Levels) (named : Bool) (hs : Forest Hint) → gives_all s n k v named hs bare ≡ Ok []
unfolding hinting reading shape refusals
gives_none s n k v named hs = refl

-- ── Counts ──

count_hinting : (n : Bool) (u hs : Forest Hint) (f : Forest Read) → count (hinting n u hs f) ≡ count f
unfolding hinting
count_hinting n u hs bare = refl
count_hinting n u hs (plant x b c) =
    let i = count_hinting (compares_names x.role) (field_hint x.part u (sole hs)) (hands_on x.role (wrapped x.part x.of.repetition) (sole hs)) b in
    let j = count_hinting n u (others hs) c in
    omega (arith, i, j, count_two x b c, count_two (with_hint x n u hs) (hinting (compares_names x.role) (field_hint x.part u (sole hs)) (hands_on x.role (wrapped x.part x.of.repetition) (sole hs)) b) (hinting n u (others hs) c))
  where
    count_two : (a : Read) (f g : Forest Read) → count (plant a f g) ≡ 1 + (count f + count g)
    count_two a f g = count_plant a f g

trees_hinting : (n : Bool) (u hs : Forest Hint) (f : Forest Read) → trees (hinting n u hs f) ≡ trees f
unfolding hinting
trees_hinting n u hs bare = refl
trees_hinting n u hs (plant x b c) = ap suc (trees_hinting n u (others hs) c)

trees_reading : (p : Part) (g : Holder) (f : Forest Numbered) → trees (reading p g f) ≡ trees f
unfolding reading
trees_reading p g bare = refl
trees_reading p g (plant x b c) = ap suc (trees_reading (next_part p) g c)

trees_kids : (names : List ℕ) (n k : ℕ) (f : Forest Element) → trees (numbered n k (spelled_by names f)) ≡ trees f
trees_kids names n k bare = refl
trees_kids names n k (plant e b c) = ap suc (trees_kids names (n + 1 + count (spelled_by names b)) (next_leaf names k e b) c)

pub first_rows : (es : List Refusal) (xs rows : List Line) → unless_refused es xs ≡ Ok rows → xs ≡ rows
first_rows [] xs rows h = cc
first_rows (e ∷ es) xs rows h = absurd cc

-- at most two rows for each element
outcome_few : (typing : Typing) (chosen : ℕ → Bool) (v : Levels) (p : Bool) (f : Forest Read) (rows : List Line) → outcome typing chosen v p f ≡ Ok rows → length rows ≤ 2 * count f
outcome_few typing chosen v p f rows h =
    let r : lines (relabel (full_of typing) (shape chosen v p f)) ≡ rows = first_rows (refusals typing chosen f) (lines (relabel (full_of typing) (shape chosen v p f))) rows h in
    omega (arith, ap length r, length_lines (relabel (full_of typing) (shape chosen v p f)), count_relabel (full_of typing) (shape chosen v p f), few chosen f v p)

pub field_few : (s : Input) (role : Result Role Refusal) (i k : ℕ) (v : Levels) (named key : Bool) (hs : Forest Hint) (e : Element) (b : Forest Element) (rows : List Line)
    → field_as s role i k v named key hs e b ≡ Ok rows → length rows ≤ 2 * (1 + count b)
field_few s role i k v named key hs e b rows h =
    let x : Numbered = label s.names i k e in
    let t : Told = field_told named key hs x in
    let f : Forest Read = told_below t role x (kids s.names i k b) in
    let g : Forest Read = reading (child_part role x.name (kids s.names i k b)) t.holder (kids s.names i k b) in
    let n : count f ≡ count g = count_hinting (compares_names role) t.field (hands_on role (wrapped t.part x.repetition) t.hint) g in
    omega (
      arith,
      outcome_few (typing_of s.hints s.text) (in_flags s.flags) v false (told_tree t role x (kids s.names i k b)) rows h,
      count_plant (told_label t role x) f bare,
      n,
      count_reading (child_part role x.name (kids s.names i k b)) t.holder (kids s.names i k b),
      count_numbered (i + 1) k (spelled_by s.names b),
      count_shown s.names b,
    )

-- ── A struct ──

module _ (s : Input) (c : Seat) (t : Told) (q : Seats s c t) (i k : ℕ) (e : Element) (n : Option Annotation) (kind : e.kind ≡ group n) (below : Forest Element) where
  abbrev rep : Repetition
  rep = or_required e.repetition

  abbrev alone : Bool
  alone = is_repeated rep && not c.element

  abbrev own_levels : Levels
  own_levels = raised c.levels rep

  abbrev pub struct_refused : List Refusal
  struct_refused = wrap_checks i alone t.hint ++ struct_checks i (unwrap alone t.hint) (trees below)

  abbrev pub struct_within : Levels → Outcome → Outcome
  struct_within v o = listed_if s.names c rep v (within (shown_row s.names (own_row c t.hint e.name rep v a.Struct None)) o)

  rows_form : (r : Repetition) (v : Levels) (o : Outcome)
      → within_all (map (full_of (typing_of s.hints s.text)) (group_rows (told_label t (Ok own) (label s.names i k e)) of_list true r v c.null_above)) o
      ≡ listed_if s.names c r v (within (shown_row s.names (own_row c t.hint e.name r v a.Struct None)) o)
  rows_form required v o = ap (λ (f : Full). within f o) (sym (own_shown s c t q (Ok own) (label s.names i k e) e.name refl required v a.Struct None))
  rows_form optional v o = ap (λ (f : Full). within f o) (sym (own_shown s c t q (Ok own) (label s.names i k e) e.name refl optional v a.Struct None))
  rows_form repeated v o =
      ap₂ (λ (f g : Full). within f (within g o)) (sym (list_shown s c t q (typing_of s.hints s.text) (Ok own) (label s.names i k e) v))
      (sym (own_shown s c t q (Ok own) (label s.names i k e) e.name refl repeated v a.Struct None))

  pub struct_form : gives_as s (Ok own) i k c t e below
      ≡ checked struct_refused (struct_within own_levels (gives_all s (i + 1) k own_levels true (inside (unwrap alone t.hint)) below))
  struct_form =
      let typing : Typing = typing_of s.hints s.text in
      let x : Numbered = label s.names i k e in
      let w : Bool = wrapped t.part rep in
      let f : Forest Read = told_below t (Ok own) x (kids s.names i k below) in
      let m : trees f ≡ trees below =
      trees_hinting true t.field (inside (unwrap w t.hint)) (reading as_field t.holder (kids s.names i k below))
      ∙ trees_reading as_field t.holder (kids s.names i k below) ∙ trees_kids s.names (i + 1) k below in
      at_group typing (in_flags s.flags) c.levels c.null_above (told_label t (Ok own) x) n f kind
      ∙ ap (λ (b : Bool). checked (name_checks i b (part s.names e.name) t.hint)
      (checked (group_checks i (Ok own) w t.hint (trees f))
      (within_all (map (full_of typing) (group_rows (told_label t (Ok own) x) of_list true rep own_levels c.null_above)) (outcome typing (in_flags s.flags) own_levels false f)))) q.unnamed
      ∙ ap (λ (z : ℕ). checked (group_checks i (Ok own) w t.hint z)
      (within_all (map (full_of typing) (group_rows (told_label t (Ok own) x) of_list true rep own_levels c.null_above)) (outcome typing (in_flags s.flags) own_levels false f))) m
      ∙ ap (checked (group_checks i (Ok own) w t.hint (trees below))) (rows_form rep own_levels (outcome typing (in_flags s.flags) own_levels false f))
      ∙ ap (λ (g : Forest Read). checked (group_checks i (Ok own) w t.hint (trees below)) (struct_within own_levels (outcome typing (in_flags s.flags) own_levels false g)))
      (free true t.field bare t.holder nobody (inside (unwrap w t.hint)) (kids s.names i k below))
      ∙ ap (λ (b : Bool). checked (wrap_checks i b t.hint ++ struct_checks i (unwrap b t.hint) (trees below)) (struct_within own_levels (gives_all s (i + 1) k own_levels true (inside (unwrap b t.hint)) below)))
      (wrapped_is t.part c.element q.element rep)
