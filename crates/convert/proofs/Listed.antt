-- A group that is read as a list.
use Rattle.std.proofs.Common.{◌≡◌, ℕ, ◌+◌, Bool, true, false, cond, List, [], map, Ok, Err, sym, refl, ap, ◌∙◌, ap₂, append-nil, Option, Result}
use Rattle.tree.specs.Forest.{Forest, count}
use Rattle.tree.specs.Forest.Forest.{bare, plant}
use Rattle.schema.specs.declared.basic.Annotation.{Annotation}
use Rattle.schema.specs.declared.basic.Repetition.{Repetition}
use Rattle.schema.specs.declared.basic.Repetition.TheVariants.{Optional as optional, Repeated as repeated, Required as required}
use Rattle.schema.specs.declared.element.Element.{Element}
use Rattle.schema.specs.declared.element.Kind.{Kind}
use Rattle.schema.specs.declared.element.Kind.TheVariants.{Leaf as leaf, Group as group}
use Rattle.schema.specs.Elements.{part}
use Rattle.selection.specs.Sets.{in_flags}
use Rattle.walk.specs.Labels.{Numbered, is_optional, is_repeated, or_required}
use Rattle.walk.specs.Hints.{Hint, sole, others, inside}
use Rattle.walk.specs.Reading.{Part, Read, reading, nobody, first_is_element, is_element}
use Rattle.walk.specs.Reading.Part.{as_element, as_middle}
use Rattle.walk.specs.Handing.{hinting}
use Rattle.walk.specs.Faults.{Typing, list_checks}
use Rattle.walk.specs.Shape.{Items, Made, raised, group_rows, passes_null}
use Rattle.walk.specs.Shape.Items.{of_list}
use Rattle.walk.specs.Shape.RowKind.{items_row}
use Rattle.walk.specs.Walk.{Full, full_of}
use Rattle.schema.specs.declared.refusal.Refusal.{Refusal}
use Rattle.walk.specs.declared.role.Role.{Role}
use Rattle.walk.specs.declared.role.Role.TheVariants.{Own as own, Listed as listed, Middle as middle}
use Rattle.walk.specs.declared.levels.Levels.{Levels}
use Rattle.convert.specs.Table.{label, kids}
use Rattle.convert.specs.Handed.{typing_of}
use Rattle.convert.specs.Outcome.{Outcome, Told, outcome, followed, within, within_all, checked, told_label, told_below, told_tree}
use Rattle.convert.specs.Visit.{Input}
use Rattle.convert.specs.Walked.{next_leaf, field_told, field_as, gives_field, gives_all}
use Rattle.convert.proofs.Outcomes.{at_group}
use Rattle.convert.proofs.Shapes.{AsList, differ}
use Rattle.convert.proofs.Turns.{free, gives_turn, gives_none}

-- a group with no row of its own
pub no_rows : (g : Made → Full) (x : Read) (i : Items) (r : Repetition) (v : Levels) (p : Bool) (o : Outcome) → is_repeated r ≡ false → within_all (map g (group_rows x i false r v p)) o ≡ o
no_rows g x i required v p o h = refl
no_rows g x i optional v p o h = refl
no_rows g x i repeated v p o h = differ h

-- a repeated child through which its one child is the element
pub record Through (c : Element) (f : Forest Element) : Type 0 where
  pub how : Option Annotation
  pub kind : c.kind ≡ group how
  pub item : Element
  pub under : Forest Element
  pub is : f ≡ plant item under bare

passes : (text : List ℕ) (n k : ℕ) (g m : List ℕ) (c : Element) (q : Kind) → c.kind ≡ q → (f : Forest Element) → is_element g m q (kids text n k f) ≡ false → Through c f
passes text n k g m c (leaf l) e f h = differ h
passes text n k g m c (group how) e bare h = differ h
passes text n k g m c (group how) e (plant x xb bare) h = record { how = how; kind = e; item = x; under = xb; is = refl }
passes text n k g m c (group how) e (plant x xb (plant y yb z)) h = differ h

followed_last : (o : Outcome) → followed o (Ok []) ≡ o
followed_last (Err e) = refl
followed_last (Ok xs) = ap Ok (append-nil xs)

-- one field alone
pub gives_single : (s : Input) (n k : ℕ) (v : Levels) (named : Bool) (hs : Forest Hint) (e : Element) (b : Forest Element)
    → gives_all s n k v named hs (plant e b bare) ≡ gives_field s n k v named false (sole hs) e b
gives_single s n k v named hs e b =
    gives_turn s n k v named hs e b bare
    ∙ ap (followed (gives_field s n k v named false (sole hs) e b)) (gives_none s (n + (1 + count b)) (next_leaf s.names k e b) v named (others hs))
    ∙ followed_last (gives_field s n k v named false (sole hs) e b)

pub sole_twice : (hs : Forest Hint) → sole (sole hs) ≡ sole hs
sole_twice bare = refl
sole_twice (plant h b c) = refl

module _ (s : Input) (i k : ℕ) (v : Levels) (key : Bool) (hs : Forest Hint) (e : Element) (b : Forest Element) (z : AsList e b) where
  abbrev typing : Typing
  typing = typing_of s.hints s.text

  abbrev rep : Repetition
  rep = or_required e.repetition

  abbrev this : Numbered
  this = label s.names i k e

  abbrev told : Told
  told = field_told false key hs this

  abbrev pub itself : Bool
  itself = first_is_element (part s.names e.name) (kids s.names i k b)

  abbrev inner_hint : Forest Hint
  inner_hint = sole (inside hs)

  -- what the list's element is told, where it is the repeated child
  abbrev pub element_told : Told
  element_told = record { part = as_element; holder = told.holder; field = hs; hint = inner_hint; named = false }

  abbrev below_read : Part → Forest Element → Forest Read
  below_read p f = hinting false hs inner_hint (reading p told.holder (kids s.names i k f))

  pub list_form : field_as s (Ok listed) i k v false key hs e b
      ≡ checked (list_checks i hs) (outcome typing (in_flags s.flags) (raised v rep) (is_optional rep) (below_read (cond itself as_element as_middle) b))
  list_form =
      let f : Forest Read = below_read (cond itself as_element as_middle) b in
      at_group typing (in_flags s.flags) v false (told_label told (Ok listed) this) z.how f z.kind
      ∙ ap (checked (list_checks i hs)) (no_rows (full_of typing) (told_label told (Ok listed) this) of_list rep (raised v rep) false (outcome typing (in_flags s.flags) (raised v rep) (is_optional rep) f) z.once)

  part_form : (p : Part) → cond itself as_element as_middle ≡ p → field_as s (Ok listed) i k v false key hs e b
      ≡ checked (list_checks i hs) (outcome typing (in_flags s.flags) (raised v rep) (is_optional rep) (below_read p (plant z.child z.under bare)))
  part_form p h =
      list_form
      ∙ ap₂ (λ (x : Part) (f : Forest Element). checked (list_checks i hs) (outcome typing (in_flags s.flags) (raised v rep) (is_optional rep) (below_read x f))) h z.is

  one_hint : (role : Result Role Refusal) (p : Part) → told_tree (record { part = p; holder = told.holder; field = hs; hint = sole inner_hint; named = false }) role (label s.names (i + 1) k z.child) (kids s.names (i + 1) k z.under)
      ≡ told_tree (record { part = p; holder = told.holder; field = hs; hint = inner_hint; named = false }) role (label s.names (i + 1) k z.child) (kids s.names (i + 1) k z.under)
  one_hint role p =
      ap (λ (g : Forest Hint). told_tree (record { part = p; holder = told.holder; field = hs; hint = g; named = false }) role (label s.names (i + 1) k z.child) (kids s.names (i + 1) k z.under))
      (sole_twice (inside hs))

  -- the repeated child is the element
  pub list_itself : itself ≡ true → field_as s (Ok listed) i k v false key hs e b
      ≡ checked (list_checks i hs) (outcome typing (in_flags s.flags) (raised v rep) (is_optional rep)
      (told_tree element_told (Ok own) (label s.names (i + 1) k z.child) (kids s.names (i + 1) k z.under)))
  unfolding hinting reading
  list_itself h =
      part_form as_element (ap (λ (x : Bool). cond x as_element as_middle) h)
      ∙ ap (λ (f : Forest Read). checked (list_checks i hs) (outcome typing (in_flags s.flags) (raised v rep) (is_optional rep) f)) (one_hint (Ok own) as_element)

  pub list_through : itself ≡ false → Through z.child z.under
  list_through h =
      passes s.names (i + 1) k (part s.names e.name) (part s.names z.child.name) z.child z.child.kind refl z.under
      (sym (ap (λ (f : Forest Element). first_is_element (part s.names e.name) (kids s.names i k f)) z.is) ∙ h)

  abbrev middle_told : Told
  middle_told = record { part = as_middle; holder = told.holder; field = hs; hint = inner_hint; named = false }

  middle_form : itself ≡ false → field_as s (Ok listed) i k v false key hs e b
      ≡ checked (list_checks i hs) (outcome typing (in_flags s.flags) (raised v rep) (is_optional rep)
      (told_tree middle_told (Ok middle) (label s.names (i + 1) k z.child) (kids s.names (i + 1) k z.under)))
  unfolding hinting reading
  middle_form h =
      part_form as_middle (ap (λ (x : Bool). cond x as_element as_middle) h)
      ∙ ap (λ (f : Forest Read). checked (list_checks i hs) (outcome typing (in_flags s.flags) (raised v rep) (is_optional rep) f)) (one_hint (Ok middle) as_middle)

  -- the row of the list, where its element is the child of the repeated child
  abbrev pub middle_row : Full
  middle_row = full_of typing (record {
    label = told_label middle_told (Ok middle) (label s.names (i + 1) k z.child);
    inner = false;
    row = record { kind = items_row of_list; levels = raised (raised v rep) repeated; nullable = is_optional rep };
  })

  pub list_item : itself ≡ false → (t : Through z.child z.under)
      → field_as s (Ok listed) i k v false key hs e b
      ≡ checked (list_checks i hs) (within middle_row
      (gives_field s ((i + 1) + 1) k (raised (raised v rep) repeated) false false inner_hint t.item t.under))
  list_item h t =
      let c : Element = z.child in
      let x : Numbered = label s.names (i + 1) k c in
      let w : Levels = raised v rep in
      let f : Forest Read = told_below middle_told (Ok middle) x (kids s.names (i + 1) k z.under) in
      middle_form h
      ∙ ap (checked (list_checks i hs))
      (at_group typing (in_flags s.flags) w (is_optional rep) (told_label middle_told (Ok middle) x) t.how f t.kind
      ∙ ap (λ (r : Repetition). within_all (map (full_of typing) (group_rows (told_label middle_told (Ok middle) x) of_list false r (raised w r) (is_optional rep)))
      (outcome typing (in_flags s.flags) (raised w r) (passes_null false r) f)) z.repeats
      ∙ ap (λ (g : Forest Read). within middle_row (outcome typing (in_flags s.flags) (raised w repeated) false g))
      (free false hs bare told.holder nobody inner_hint (kids s.names (i + 1) k z.under))
      ∙ ap (λ (g : Forest Element). within middle_row (gives_all s ((i + 1) + 1) k (raised w repeated) false inner_hint g)) t.is
      ∙ ap (within middle_row) (gives_single s ((i + 1) + 1) k (raised w repeated) false inner_hint t.item t.under
      ∙ ap (λ (g : Forest Hint). gives_field s ((i + 1) + 1) k (raised w repeated) false false g t.item t.under) (sole_twice (inside hs))))
