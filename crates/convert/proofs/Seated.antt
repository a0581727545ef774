-- What an element is told from above, and the rows that it has of its own.
use Rattle.std.proofs.Common.{◌≡◌, ℕ, Bool, true, false, cond, not, ◌&&◌, List, [], ◌∷◌, ◌++◌, map, Some, None, Ok, Err, Option, Result, sym, refl, ap, ◌∙◌, subst}
use Rattle.tree.specs.Forest.{Forest}
use Rattle.tree.specs.Forest.Forest.{bare, plant}
use Rattle.schema.specs.declared.basic.Repetition.{Repetition}
use Rattle.schema.specs.declared.basic.Repetition.TheVariants.{Optional as optional, Repeated as repeated, Required as required}
use Rattle.schema.specs.declared.element.Element.{Element}
use Rattle.schema.specs.declared.element.Leaf.{Leaf}
use Rattle.schema.specs.declared.element.PlaceOf.{PlaceOf}
use Rattle.schema.specs.declared.element.Kind.{Kind}
use Rattle.schema.specs.declared.element.Kind.TheVariants.{Leaf as leaf}
use Rattle.schema.specs.declared.refusal.Refusal.{Refusal}
use Rattle.schema.specs.declared.refusal.Refusal.TheVariants as no
use Rattle.schema.specs.Elements.{part}
use Rattle.arrow.specs.declared.types.ArrowType.{ArrowType}
use Rattle.arrow.specs.declared.row.LeafNumbers.{LeafNumbers}
use Rattle.arrow.specs.declared.row.Metadata.{Metadata}
use Rattle.arrow.specs.Convert.{answered}
use Rattle.selection.specs.Sets.{in_flags}
use Rattle.walk.specs.Forests.{relabel}
use Rattle.walk.specs.Labels.{Numbered, is_optional, is_repeated, or_required}
use Rattle.walk.specs.Hints.{Hint, Nesting, nesting}
use Rattle.walk.specs.Hints.Nesting.{a_list, a_list_view, a_struct, a_map, a_dictionary, a_value}
use Rattle.walk.specs.Reading.{Part, Read}
use Rattle.walk.specs.Reading.Part.{as_root, as_field, as_key, as_element, as_middle, as_entries}
use Rattle.walk.specs.Handing.{wrapped, unwrap}
use Rattle.walk.specs.Faults.{Typing, name_checks, wrap_checks, type_checks, leaf_hint}
use Rattle.walk.specs.Shape.{RowKind, raised, wrap, leaf_part, name_by, null_by}
use Rattle.walk.specs.Shape.Items.{of_list}
use Rattle.walk.specs.Shape.RowKind.{items_row}
use Rattle.walk.specs.Walk.{Full, full_of, list_or, hinted_list, list_type, leaf_type, type_or, inner_metadata, metadata_by}
use Rattle.walk.specs.declared.role.Role.{Role}
use Rattle.walk.specs.declared.role.Role.TheVariants.{Own as own}
use Rattle.walk.specs.declared.levels.Levels.{Levels}
use Rattle.convert.specs.declared.context.Seat.{Seat}
use Rattle.convert.specs.Table.{label, kids}
use Rattle.convert.specs.Handed.{typing_of}
use Rattle.walk.specs.Results.{lines, struct_or_list, kind_told, shown_row}
use Rattle.convert.specs.Outcome.{Outcome, Told, within, within_all, checked, told_label, told_below}
use Rattle.convert.specs.Visit.{Input, Seats, stands_as, gives_as}
use Rattle.convert.specs.Own.{inner_of, own_row, list_row, listed_if, leaf_outcome}
use Rattle.std.proofs.Math.Bool.{and-false}
use Rattle.convert.proofs.Shapes.{differ, again_is}
use Rattle.convert.proofs.Outcomes.{at_leaf}

and_true : (b : Bool) → (b && true) ≡ b
and_true true = refl
and_true false = refl

some_same : (x y : Bool) → Some x ≡ Some y → x ≡ y
some_same x y e = cc

none_some : {A : Type 0} (b : Bool) → None ≡ Some b → A
none_some b e = absurd cc

pub wrapped_is : (p : Part) (b : Bool) → stands_as p ≡ Some b → (r : Repetition) → wrapped p r ≡ (is_repeated r && not b)
wrapped_is as_root b h r = subst (λ (x : Bool). is_repeated r ≡ (is_repeated r && not x)) (some_same false b h) (sym (and_true (is_repeated r)))
wrapped_is as_field b h r = subst (λ (x : Bool). is_repeated r ≡ (is_repeated r && not x)) (some_same false b h) (sym (and_true (is_repeated r)))
wrapped_is as_key b h r = subst (λ (x : Bool). is_repeated r ≡ (is_repeated r && not x)) (some_same false b h) (sym (and_true (is_repeated r)))
wrapped_is as_element b h r = subst (λ (x : Bool). false ≡ (is_repeated r && not x)) (some_same true b h) (sym (and-false (is_repeated r)))
wrapped_is as_middle b h r = none_some b h
wrapped_is as_entries b h r = none_some b h

inner_is : (p : Part) (b : Bool) → stands_as p ≡ Some b → (hs : Forest Hint) → inner_of b hs ≡ inner_metadata p hs
inner_is as_root b h hs = ap (λ (x : Bool). inner_of x hs) (sym (some_same false b h))
inner_is as_field b h hs = ap (λ (x : Bool). inner_of x hs) (sym (some_same false b h))
inner_is as_key b h hs = ap (λ (x : Bool). inner_of x hs) (sym (some_same false b h))
inner_is as_element b h hs = ap (λ (x : Bool). inner_of x hs) (sym (some_same true b h))
inner_is as_middle b h hs = none_some b h
inner_is as_entries b h hs = none_some b h

-- the type of a list row is no struct
or_list : (x : ArrowType) (n : Nesting) → nesting x ≡ n → struct_or_list (nesting (list_or n x)) ≡ items_row of_list
or_list x a_list e = ap struct_or_list e
or_list x a_list_view e = ap struct_or_list e
or_list x a_struct e = refl
or_list x (a_map s) e = refl
or_list x a_dictionary e = refl
or_list x a_value e = refl

pub hinted_kind : (f : Forest Hint) → struct_or_list (nesting (hinted_list f)) ≡ items_row of_list
hinted_kind bare = refl
hinted_kind (plant h b c) = or_list h.type (nesting h.type) refl

list_kind : (p : Part) (f : Forest Hint) → struct_or_list (nesting (list_type p f)) ≡ items_row of_list
list_kind as_root f = hinted_kind f
list_kind as_field f = hinted_kind f
list_kind as_key f = hinted_kind f
list_kind as_element f = refl
list_kind as_middle f = hinted_kind f
list_kind as_entries f = refl

-- a row with no entries
abbrev pub mk : RowKind → Levels → Bool → List ℕ → Bool → ArrowType → Option Metadata → Full
mk k v null name field_null type metadata = record {
  shaped = record { row = record { kind = k; levels = v; nullable = null }; name = name; field_null = field_null; entries = [] };
  type = type;
  metadata = metadata;
  entries_metadata = 0;
}

pub full_is : {k k' : RowKind} {v : Levels} {null : Bool} {n n' : List ℕ} {f f' : Bool} {t t' : ArrowType} {m m' : Option Metadata}
    → k ≡ k' → n ≡ n' → f ≡ f' → t ≡ t' → m ≡ m' → mk k v null n f t m ≡ mk k' v null n' f' t' m'
full_is a b c d e = cc

module _ (s : Input) (c : Seat) (t : Told) (q : Seats s c t) where
  pub list_shown : (typing : Typing) (role : Result Role Refusal) (x : Numbered) (v : Levels)
      → shown_row s.names (list_row c v)
      ≡ full_of typing (record { label = told_label t role x; inner = false; row = record { kind = items_row of_list; levels = v; nullable = c.null_above } })
  list_shown typing role x v =
      full_is (ap (λ (y : ArrowType). struct_or_list (nesting y)) q.list ∙ list_kind t.part t.field) q.name
      (ap (λ (b : Bool). not b && c.null_above) q.key) q.list q.metadata

  pub own_shown : (role : Result Role Refusal) (x : Numbered) (name : PlaceOf ℕ) → part s.names name ≡ x.name → (r : Repetition) (v : Levels) (type : ArrowType) (n : Option LeafNumbers)
      → shown_row s.names (own_row c t.hint name r v type n)
      ≡ mk (kind_told n None (nesting type)) v (is_optional r) (name_by (is_repeated r) x.name t.holder.name) (null_by (is_repeated r) t.holder.key (is_optional r)) type
      (metadata_by (is_repeated r) (told_label t role x))
  own_shown role x name e required v type n = full_is refl q.name (ap (λ (b : Bool). not b && false) q.key) refl q.metadata
  own_shown role x name e optional v type n = full_is refl q.name (ap (λ (b : Bool). not b && true) q.key) refl q.metadata
  own_shown role x name e repeated v type n = full_is refl e refl refl (inner_is t.part c.element q.element t.hint)

  -- a list round what a repeated element gives
  pub listed_is : (typing : Typing) (role : Result Role Refusal) (x : Numbered) (r : Repetition) (v : Levels) (o : Outcome)
      → within_all (map (full_of typing) (wrap (told_label t role x) of_list r v c.null_above)) o ≡ listed_if s.names c r v o
  listed_is typing role x required v o = refl
  listed_is typing role x optional v o = refl
  listed_is typing role x repeated v o = ap (λ (f : Full). within f o) (sym (list_shown typing role x v))

within_nothing : (rs : List Full) → within_all rs (Ok []) ≡ Ok []
within_nothing [] = refl
within_nothing (r ∷ rs) = ap (within r) (within_nothing rs)

-- ── Leaves ──

module _ (s : Input) (c : Seat) (t : Told) (q : Seats s c t) (i k : ℕ) (e : Element) (l : Leaf) (kind : e.kind ≡ leaf l) (below : Forest Element) where
  abbrev typing : Typing
  typing = typing_of s.hints s.text

  abbrev rep : Repetition
  rep = or_required e.repetition

  abbrev levels : Levels
  levels = raised c.levels rep

  abbrev this : Read
  this = told_label t (Ok own) (label s.names i k e)

  abbrev alone : Bool
  alone = is_repeated rep && not c.element

  abbrev rows_of : Bool → Outcome
  rows_of b = within_all (map (full_of typing) (wrap this of_list rep levels c.null_above)) (Ok (lines (relabel (full_of typing) (leaf_part b this rep levels))))

  abbrev refused_of : Bool → Bool → Bool → List Refusal
  refused_of b w v = cond b (wrap_checks i w t.hint ++ type_checks i (typing l (unwrap v t.hint))) []

  alone_is : wrapped t.part rep ≡ alone
  alone_is = wrapped_is t.part c.element q.element rep

  leaf_form : gives_as s (Ok own) i k c t e below ≡ checked (refused_of (in_flags s.flags k) alone alone) (rows_of (in_flags s.flags k))
  leaf_form =
      at_leaf typing (in_flags s.flags) c.levels c.null_above this l (told_below t (Ok own) (label s.names i k e) (kids s.names i k below)) kind
      ∙ ap (λ (b : Bool). checked (name_checks i b (part s.names e.name) t.hint) (checked (refused_of (in_flags s.flags k) (wrapped t.part rep) (wrapped t.part rep)) (rows_of (in_flags s.flags k)))) q.unnamed
      ∙ ap (λ (w : Bool). checked (refused_of (in_flags s.flags k) w w) (rows_of (in_flags s.flags k))) alone_is

  pub leaf_unchosen : in_flags s.flags k ≡ false → gives_as s (Ok own) i k c t e below ≡ Ok []
  leaf_unchosen h =
      leaf_form ∙ ap (λ (b : Bool). checked (refused_of b alone alone) (rows_of b)) h
      ∙ within_nothing (map (full_of typing) (wrap this of_list rep levels c.null_above))

  module _ (h : in_flags s.flags k ≡ true) where
    chosen_form : gives_as s (Ok own) i k c t e below ≡ checked (wrap_checks i alone t.hint ++ type_checks i (typing l (unwrap alone t.hint))) (rows_of true)
    chosen_form = leaf_form ∙ ap (λ (b : Bool). checked (refused_of b alone alone) (rows_of b)) h

    pub leaf_misfit : (r : Refusal) → wrap_checks i alone t.hint ≡ r ∷ [] → gives_as s (Ok own) i k c t e below ≡ Err r
    leaf_misfit r w = chosen_form ∙ ap (λ (es : List Refusal). checked (es ++ type_checks i (typing l (unwrap alone t.hint))) (rows_of true)) w

    module _ (w : wrap_checks i alone t.hint ≡ []) where
      typed_form : (x : Option ArrowType) → typing l (unwrap alone t.hint) ≡ x → gives_as s (Ok own) i k c t e below ≡ checked (type_checks i x) (rows_of true)
      typed_form x z =
          chosen_form
          ∙ ap (λ (es : List Refusal). checked (es ++ type_checks i (typing l (unwrap alone t.hint))) (rows_of true)) w
          ∙ ap (λ (y : Option ArrowType). checked (type_checks i y) (rows_of true)) z

      pub leaf_untyped : typing l (unwrap alone t.hint) ≡ None → gives_as s (Ok own) i k c t e below ≡ Err (no.LeafType i)
      leaf_untyped z = typed_form None z

      pub leaf_typed : (v : Levels) → v ≡ levels → (type : ArrowType) → typing l (unwrap alone t.hint) ≡ Some type
          → leaf_outcome s.names c t.hint i k e.name rep v type ≡ gives_as s (Ok own) i k c t e below
      leaf_typed v u type z =
          let n : LeafNumbers = record { element = i; leaf = k } in
          let y : leaf_type typing e.kind (leaf_hint this) ≡ type =
          ap (λ (x : Kind). leaf_type typing x (leaf_hint this)) kind ∙ ap (λ (b : Bool). type_or (typing l (unwrap b t.hint))) alone_is ∙ ap type_or z in
          sym (typed_form (Some type) z
          ∙ listed_is s c t q typing (Ok own) (label s.names i k e) rep levels (Ok (lines (relabel (full_of typing) (leaf_part true this rep levels))))
          ∙ ap (λ (f : Full). listed_if s.names c rep levels (Ok (record { size = 1; row = f } ∷ [])))
          (full_is refl refl refl y refl ∙ sym (own_shown s c t q (Ok own) (label s.names i k e) e.name refl rep levels type (Some n)))
          ∙ ap (λ (x : Levels). leaf_outcome s.names c t.hint i k e.name rep x type) (sym u))

answered_some : (i : ℕ) (x : Option ArrowType) (type : ArrowType) → answered i x ≡ Ok type → x ≡ Some type
answered_some i (Some y) type e = cc
answered_some i None type e = absurd cc

pub typed_as : (i : ℕ) (x : Option ArrowType) (r : Result ArrowType Refusal) (type : ArrowType) → r ≡ answered i x → r ≡ Ok type → x ≡ Some type
typed_as i x r type e f = answered_some i x type (sym e ∙ f)

answered_none : (i : ℕ) (x : Option ArrowType) (r : Refusal) → answered i x ≡ Err r → (x ≡ None) × (r ≡ no.LeafType i)
answered_none i (Some y) r e = absurd cc
answered_none i None r e = (refl, cc)

pub untyped_as : (i : ℕ) (x : Option ArrowType) (r : Result ArrowType Refusal) (f : Refusal) → r ≡ answered i x → r ≡ Err f → (x ≡ None) × (f ≡ no.LeafType i)
untyped_as i x r f e g = answered_none i x f (sym e ∙ g)

-- ── Lists ──

pub listed_no : (names : List ℕ) (c : Seat) (r : Repetition) (v : Levels) (o : Outcome) → is_repeated r ≡ false → listed_if names c r v o ≡ o
listed_no names c required v o h = refl
listed_no names c optional v o h = refl
listed_no names c repeated v o h = differ h

pub listed_yes : (names : List ℕ) (c : Seat) (r : Repetition) (v : Levels) (o : Outcome) → is_repeated r ≡ true → listed_if names c r v o ≡ within (shown_row names (list_row c v)) o
listed_yes names c r v o h = ap (λ (x : Repetition). listed_if names c x v o) (again_is r h)
