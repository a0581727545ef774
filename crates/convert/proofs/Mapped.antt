-- A map of key and value.
use Rattle.std.proofs.Common.{◌≡◌, ℕ, ◌+◌, Bool, true, false, ◌&&◌, ◌||◌, List, [], ◌∷◌, map, length, Ok, sym, refl, ap, ◌∙◌, ap₂, arith, Result}
use Rattle.tree.specs.Forest.{Forest, count}
use Rattle.tree.specs.Forest.Forest.{bare, plant}
use Rattle.schema.specs.declared.basic.Repetition.{Repetition}
use Rattle.schema.specs.declared.basic.Repetition.TheVariants.{Repeated as repeated}
use Rattle.schema.specs.declared.element.Element.{Element}
use Rattle.selection.specs.Sets.{in_flags}
use Rattle.walk.specs.Forests.{planted, relabel}
use Rattle.walk.specs.Labels.{Numbered, is_optional, numbered, or_required}
use Rattle.walk.specs.Hints.{Hint, sole, others, inside}
use Rattle.walk.specs.Reading.{Read, reading, nobody}
use Rattle.walk.specs.Reading.Part.{as_field, as_key, as_entries}
use Rattle.walk.specs.Handing.{hinting}
use Rattle.walk.specs.Faults.{Typing, map_checks, refusals}
use Rattle.walk.specs.Yields.{yields_by, some_yield, both_yield, every_yield}
use Rattle.walk.specs.Shape.{Made, raised, group_rows, passes_null, shape}
use Rattle.walk.specs.Shape.Items.{of_list, of_map}
use Rattle.walk.specs.Shape.RowKind.{items_row}
use Rattle.walk.specs.Walk.{Full, full_of}
use Rattle.schema.specs.declared.refusal.Refusal.{Refusal}
use Rattle.walk.specs.declared.role.Role.{Role}
use Rattle.walk.specs.declared.role.Role.TheVariants.{Mapped as mapped, Entries as entries}
use Rattle.walk.specs.declared.levels.Levels.{Levels}
use Rattle.walk.proofs.Tidy.{yields_rows}
use Rattle.convert.specs.Table.{label, spelled_by, kids}
use Rattle.convert.specs.Handed.{typing_of}
use Rattle.walk.specs.Results.{Line, lines}
use Rattle.convert.specs.Outcome.{Outcome, Told, outcome, followed, within, within_all, kept_if, checked, told_label, told_below, told_tree}
use Rattle.convert.specs.Visit.{Input}
use Rattle.convert.specs.Walked.{next_leaf, field_told, field_as, own_role, gives_field, gives_all}
use Rattle.convert.proofs.Outcomes.{in_turn, at_group}
use Rattle.convert.proofs.Shapes.{AsMap}
use Rattle.convert.proofs.Turns.{free, count_shown, first_rows}
use Rattle.convert.proofs.Listed.{no_rows, gives_single, sole_twice}

-- ── What yields, by the rows ──

abbrev pub some_row : List Line → Bool
some_row [] = false
some_row (x ∷ xs) = true

lines_some : (g : Made → Full) (f : Forest Made) → some_row (lines (relabel g f)) ≡ planted f
lines_some g bare = refl
lines_some g (plant r b c) = refl

or_false : (b : Bool) → (b || false) ≡ b
or_false true = refl
or_false false = refl

pub none_or : (xs : List Line) → length xs ≡ 0 → some_row xs ≡ false
none_or [] h = refl
none_or (x ∷ xs) h = absurd (omega arith)

pub some_or : (xs : List Line) → (length xs ≡ 0 → ⊥) → some_row xs ≡ true
some_or [] h = absurd (h refl)
some_or (x ∷ xs) h = refl

module _ (typing : Typing) (chosen : ℕ → Bool) where
  yields_of : (v : Levels) (p : Bool) (f : Forest Read) (xs : List Line) → outcome typing chosen v p f ≡ Ok xs → some_yield chosen f ≡ some_row xs
  yields_of v p f xs h =
      sym (yields_rows chosen v p f) ∙ sym (lines_some (full_of typing) (shape chosen v p f))
      ∙ ap some_row (first_rows (refusals typing chosen f) (lines (relabel (full_of typing) (shape chosen v p f))) xs h)

  yields_one : (v : Levels) (p : Bool) (x : Read) (b : Forest Read) (xs : List Line) → outcome typing chosen v p (plant x b bare) ≡ Ok xs
      → yields_by chosen x.of.kind x.role x.of.leaf_number (some_yield chosen b) (both_yield chosen b) ≡ some_row xs
  yields_one v p x b xs h =
      sym (or_false (yields_by chosen x.of.kind x.role x.of.leaf_number (some_yield chosen b) (both_yield chosen b))) ∙ yields_of v p (plant x b bare) xs h

  -- key and value, if each gave rows
  pub both_yields : (v : Levels) (p : Bool) (x y : Read) (b c : Forest Read) (xs ys : List Line)
      → outcome typing chosen v p (plant x b bare) ≡ Ok xs → outcome typing chosen v p (plant y c bare) ≡ Ok ys
      → every_yield chosen (plant x b (plant y c bare)) ≡ (some_row xs && (some_row ys && true))
  both_yields v p x y b c xs ys h k = ap₂ (λ (m n : Bool). m && (n && true)) (yields_one v p x b xs h) (yields_one v p y c ys k)

-- ── The map ──

module _ (s : Input) (i k : ℕ) (v : Levels) (key : Bool) (hs : Forest Hint) (e : Element) (b : Forest Element) (z : AsMap e b) where
  abbrev typing : Typing
  typing = typing_of s.hints s.text

  abbrev chosen : ℕ → Bool
  chosen = in_flags s.flags

  abbrev rep : Repetition
  rep = or_required e.repetition

  abbrev this : Numbered
  this = label s.names i k e

  abbrev told : Told
  told = field_told false key hs this

  abbrev inner_hint : Forest Hint
  inner_hint = sole (inside hs)

  abbrev pub side_hints : Forest Hint
  side_hints = inside inner_hint

  abbrev pub sides_of : Forest Element
  sides_of = plant z.key z.key_under (plant z.value z.value_under bare)

  abbrev deeper : Levels
  deeper = raised (raised v rep) repeated

  abbrev pub entries_told : Told
  entries_told = record { part = as_entries; holder = told.holder; field = hs; hint = inner_hint; named = false }

  abbrev entry : Numbered
  entry = label s.names (i + 1) k z.child

  abbrev sides_read : Forest Read
  sides_read = hinting false hs side_hints (reading as_key told.holder (kids s.names (i + 1) k sides_of))

  abbrev pub whole : Bool
  whole = every_yield chosen sides_read

  abbrev below_read : Forest Element → Forest Read
  below_read f = hinting false hs inner_hint (reading as_entries told.holder (kids s.names i k f))

  map_group : field_as s (Ok mapped) i k v false key hs e b
      ≡ checked (map_checks i hs) (kept_if (both_yield chosen (below_read b)) (outcome typing chosen (raised v rep) (is_optional rep) (below_read b)))
  map_group =
      at_group typing chosen v false (told_label told (Ok mapped) this) z.how (below_read b) z.kind
      ∙ ap (checked (map_checks i hs)) (no_rows (full_of typing) (told_label told (Ok mapped) this) of_list rep (raised v rep) false _ z.once)

  entries_form : kept_if (both_yield chosen (below_read (plant z.child sides_of bare))) (outcome typing chosen (raised v rep) (is_optional rep) (below_read (plant z.child sides_of bare)))
      ≡ kept_if whole (outcome typing chosen (raised v rep) (is_optional rep) (told_tree entries_told (Ok entries) entry (kids s.names (i + 1) k sides_of)))
  unfolding hinting reading
  entries_form =
      ap (λ (g : Forest Hint). kept_if (every_yield chosen (hinting false hs (inside g) (reading as_key told.holder (kids s.names (i + 1) k sides_of))))
      (outcome typing chosen (raised v rep) (is_optional rep) (told_tree (record { part = as_entries; holder = told.holder; field = hs; hint = g; named = false }) (Ok entries) entry (kids s.names (i + 1) k sides_of))))
      (sole_twice (inside hs))

  abbrev pub map_row : Full
  map_row = full_of typing (record { label = told_label entries_told (Ok entries) entry; inner = false; row = record { kind = items_row of_map; levels = deeper; nullable = is_optional rep } })

  entries_row : outcome typing chosen (raised v rep) (is_optional rep) (told_tree entries_told (Ok entries) entry (kids s.names (i + 1) k sides_of)) ≡ within map_row (outcome typing chosen deeper false sides_read)
  entries_row =
      at_group typing chosen (raised v rep) (is_optional rep) (told_label entries_told (Ok entries) entry) z.inner sides_read z.child_kind
      ∙ ap (λ (r : Repetition). within_all (map (full_of typing) (group_rows (told_label entries_told (Ok entries) entry) of_map false r (raised (raised v rep) r) (is_optional rep)))
      (outcome typing chosen (raised (raised v rep) r) (passes_null false r) sides_read)) z.repeats

  abbrev pub key_at : ℕ
  key_at = (i + 1) + 1

  abbrev pub value_at : ℕ
  value_at = key_at + (1 + count z.key_under)

  abbrev pub value_leaf : ℕ
  value_leaf = next_leaf s.names k z.key z.key_under

  abbrev pub key_gives : Outcome
  key_gives = gives_field s key_at k deeper false true (sole side_hints) z.key z.key_under

  abbrev pub value_gives : Outcome
  value_gives = gives_field s value_at value_leaf deeper false false (sole (others side_hints)) z.value z.value_under

  abbrev value_numbered : ℕ → Forest Numbered
  value_numbered n = numbered n value_leaf (spelled_by s.names (plant z.value z.value_under bare))

  value_place : key_at + 1 + count (spelled_by s.names z.key_under) ≡ value_at
  value_place = omega (arith, count_shown s.names z.key_under)

  sides_form : outcome typing chosen deeper false sides_read ≡ followed key_gives value_gives
  unfolding hinting reading
  sides_form =
      let x : Numbered = label s.names key_at k z.key in
      let role : Result Role Refusal = own_role s key_at k z.key z.key_under in
      let t : Told = field_told false true (sole side_hints) x in
      in_turn typing chosen deeper false (told_label t role x) (told_below t role x (kids s.names key_at k z.key_under))
      (hinting false hs (others side_hints) (reading as_field told.holder (value_numbered (key_at + 1 + count (spelled_by s.names z.key_under)))))
      ∙ ap (λ (g : Forest Read). followed key_gives (outcome typing chosen deeper false g))
      (free false hs bare told.holder nobody (others side_hints) (value_numbered (key_at + 1 + count (spelled_by s.names z.key_under))))
      ∙ ap (λ (n : ℕ). followed key_gives (gives_all s n value_leaf deeper false (others side_hints) (plant z.value z.value_under bare))) value_place
      ∙ ap (followed key_gives) (gives_single s value_at value_leaf deeper false (others side_hints) z.value z.value_under)

  pub map_by_sides : field_as s (Ok mapped) i k v false key hs e b ≡ checked (map_checks i hs) (kept_if whole (within map_row (followed key_gives value_gives)))
  map_by_sides =
      map_group
      ∙ ap (λ (f : Forest Element). checked (map_checks i hs) (kept_if (both_yield chosen (below_read f)) (outcome typing chosen (raised v rep) (is_optional rep) (below_read f)))) z.is
      ∙ ap (checked (map_checks i hs)) (entries_form ∙ ap (kept_if whole) (entries_row ∙ ap (within map_row) sides_form))

  pub whole_is : (xs ys : List Line) → key_gives ≡ Ok xs → value_gives ≡ Ok ys → whole ≡ (some_row xs && (some_row ys && true))
  unfolding hinting reading
  whole_is xs ys g h =
      let x : Numbered = label s.names key_at k z.key in
      let y : Numbered = label s.names value_at value_leaf z.value in
      let role : Result Role Refusal = own_role s key_at k z.key z.key_under in
      let role' : Result Role Refusal = own_role s value_at value_leaf z.value z.value_under in
      let t : Told = field_told false true (sole side_hints) x in
      let t' : Told = field_told false false (sole (others side_hints)) y in
      ap (λ (n : ℕ). every_yield chosen (plant (told_label t role x) (told_below t role x (kids s.names key_at k z.key_under)) (hinting false hs (others side_hints) (reading as_field told.holder (value_numbered n))))) value_place
      ∙ both_yields typing chosen deeper false (told_label t role x) (told_label t' role' y) (told_below t role x (kids s.names key_at k z.key_under))
      (told_below t' role' y (kids s.names value_at value_leaf z.value_under)) xs ys g h
