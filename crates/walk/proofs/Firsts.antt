-- The first of what the roles and checks refuse is the first fault.
use Rattle.std.proofs.Common.{◌≡◌, ℕ, Bool, true, false, cond, not, ◌&&◌, ◌||◌, eqb, List, [], ◌∷◌, ◌++◌, Some, None, Option, sym, refl, ap, ◌∙◌, subst, ap₂, Ok, Err, Result}
use Rattle.std.specs.Str.{bytes_eq}
use Rattle.arrow.specs.declared.types.ArrowType.{ArrowType}
use Rattle.walk.specs.Faults.{Typing, checks, group_checks, leaf_hint, map_checks, name_checks, own_checks, struct_checks, type_checks, unless, wrap_checks}
use Rattle.walk.specs.Forests.{first_below, one_tree, relabel, some_root, trees, two_trees}
use Rattle.walk.specs.Handing.{unwrap, wrapped}
use Rattle.walk.specs.Hints.{Hint, Nesting, any_list, any_map, any_struct, fits, nesting, over_two, plain_list}
use Rattle.walk.specs.Labels.{Numbered, is_repeated}
use Rattle.walk.specs.Reading.{Part, Read, by_annotation, entries_role, list_child, list_role, map_child, map_role, role_of}
use Rattle.walk.specs.Reading.Part.{as_element, as_entries, as_field, as_key, as_middle, as_root}
use Rattle.walk.specs.Refusing.{by_itself, faults_at, group_faults, hint_faults, list_faults, map_faults, miscounted, misnamed, no_such, not_over_two, repeated_group, repeated_label, rule_faults, struct_faults, untyped, when}
use Rattle.walk.specs.declared.role.Role.{Role}
use Rattle.walk.specs.declared.role.Role.TheVariants.{Listed as listed, Mapped as mapped, Own as own}
use Rattle.schema.specs.declared.basic.Annotation.{Annotation}
use Rattle.schema.specs.declared.basic.Repetition.{Repetition}
use Rattle.schema.specs.declared.element.Kind.{Kind}
use Rattle.schema.specs.declared.element.Kind.TheVariants.{Group as group, Leaf as leaf}
use Rattle.schema.specs.declared.refusal.Refusal.{Refusal}
use Rattle.tree.specs.Forest.{Forest}
use Rattle.tree.specs.Forest.Forest.{bare, plant}
use Rattle.schema.specs.declared.basic.Annotation.TheVariants as a
use Rattle.schema.specs.declared.refusal.Refusal.TheVariants as no

abbrev pub of_label : Read → Numbered
of_label x = x.of

-- ── The first of a list ──

abbrev pub head : {A : Type 0} → List A → Option A
head [] = None
head (x ∷ xs) = Some x

pub heads : {A : Type 0} (xs ys us vs : List A) → head xs ≡ head ys → head us ≡ head vs → head (xs ++ us) ≡ head (ys ++ vs)
heads [] [] us vs e k = k
heads [] (y ∷ ys) us vs e k = cc
heads (x ∷ xs) [] us vs e k = cc
heads (x ∷ xs) (y ∷ ys) us vs e k = e

-- ── One element ──

unless_when : (b : Bool) (r : Refusal) → unless b r ≡ when (not b) r
unless_when true r = refl
unless_when false r = refl

fits_when : (test : Nesting → Bool) (hint : Forest Hint) (r : Refusal) → unless (fits test hint) r ≡ when (no_such test hint) r
fits_when test bare r = refl
fits_when test (plant h below after) r = unless_when (test (nesting h.type)) r

name_first : (e : ℕ) (named : Bool) (name : List ℕ) (hint : Forest Hint) → name_checks e named name hint ≡ when (misnamed named name hint) (no.HintFieldName e)
name_first e false name bare = refl
name_first e false name (plant h below after) = refl
name_first e true name bare = refl
name_first e true name (plant h below after) = unless_when (bytes_eq h.name name) (no.HintFieldName e)

wrap_first : (e : ℕ) (w : Bool) (hint : Forest Hint) → wrap_checks e w hint ≡ when (w && no_such plain_list hint) (no.HintKind e)
wrap_first e false hint = refl
wrap_first e true hint = fits_when plain_list hint (no.HintKind e)

-- of two checks the second counts only where the first holds
two_first : (b c : Bool) (r s : Refusal) → head (unless b r ++ unless c s) ≡ head (when (not b) r ++ when (b && not c) s)
two_first true true r s = refl
two_first true false r s = refl
two_first false c r s = refl

struct_first : (e : ℕ) (hint : Forest Hint) (n : ℕ)
    → head (struct_checks e hint n) ≡ head (when (no_such any_struct hint) (no.HintKind e) ++ when (miscounted n hint) (no.HintFieldCount e))
struct_first e bare n = refl
struct_first e (plant h below after) n = two_first (any_struct (nesting h.type)) (eqb (trees below) n) (no.HintKind e) (no.HintFieldCount e)

map_first : (e : ℕ) (hint : Forest Hint)
    → head (map_checks e hint) ≡ head (when (no_such any_map hint) (no.HintKind e) ++ when (not_over_two hint) (no.HintMap e))
map_first e bare = refl
map_first e (plant h below after) = two_first (any_map (nesting h.type)) (over_two (plant h below after)) (no.HintKind e) (no.HintMap e)

own_first : (e : ℕ) (w : Bool) (hint : Forest Hint) (n : ℕ) → head (group_checks e (Ok own) w hint n) ≡ head (struct_faults e w hint n)
own_first e w hint n =
    heads (wrap_checks e w hint) (when (w && no_such plain_list hint) (no.HintKind e)) (struct_checks e (unwrap w hint) n)
    (when (no_such any_struct (unwrap w hint)) (no.HintKind e) ++ when (miscounted n (unwrap w hint)) (no.HintFieldCount e))
    (ap head (wrap_first e w hint)) (struct_first e (unwrap w hint) n)

module _ (e : ℕ) (rep : Repetition) (w : Bool) (hint : Forest Hint) (n : ℕ) where
  -- the role's own refusal, or that of its hint, against the faults of the rules and of the hint
  abbrev Firsts : List Refusal → Result Role Refusal → Type 0
  Firsts rules role = head (group_checks e role w hint n) ≡ head (rules ++ group_faults e role w hint n)

  listed_first : Firsts [] (Ok listed)
  listed_first = ap head (fits_when any_list hint (no.HintKind e))

  list_first : (below : Forest Read) → Firsts (list_faults e rep below) (list_role e rep (relabel of_label below))
  list_first bare = refl
  list_first (plant c cb (plant d db after)) = refl
  list_first (plant c cb bare) = go (repeated_label c) (is_repeated rep)
    where
      go : (b g : Bool) → Firsts ([] ++ (when (true && not (b || false)) (no.ListChildNotRepeated e) ++ when g (no.ListRepeated e))) (list_child e b g)
      go false g = refl
      go true true = refl
      go true false = listed_first

  entries_first : (cb : Forest Read)
      → Firsts (when (true && not (one_tree cb || two_trees cb)) (no.EntriesChildren e) ++ when (true && (two_trees cb && some_root repeated_label cb)) (no.EntryRepeated e))
      (entries_role e (relabel of_label cb))
  entries_first bare = refl
  entries_first (plant k kb bare) = listed_first
  entries_first (plant k kb (plant v vb (plant u ub after))) = refl
  entries_first (plant k kb (plant v vb bare)) = go (repeated_label k) (repeated_label v)
    where
      go : (a b : Bool) → Firsts ([] ++ when (a || (b || false)) (no.EntryRepeated e)) (cond (a || b) (Err (no.EntryRepeated e)) (Ok mapped))
      go true b = refl
      go false true = refl
      go false false = map_first e hint

  map_child_first : (below : Forest Read)
      → Firsts
      (when (not (one_tree below)) (no.MapChildren e)
      ++ (when (one_tree below && not (some_root repeated_group below)) (no.MapChildNotRepeatedGroup e)
      ++ (when (one_tree below && not (one_tree (first_below below) || two_trees (first_below below))) (no.EntriesChildren e)
      ++ when (one_tree below && (two_trees (first_below below) && some_root repeated_label (first_below below))) (no.EntryRepeated e))))
      (map_child e (relabel of_label below))
  map_child_first bare = refl
  map_child_first (plant c cb (plant d db after)) = refl
  map_child_first (plant c cb bare) = go (repeated_group c)
    where
      go : (b : Bool)
          → Firsts
          ([]
          ++ (when (true && not (b || false)) (no.MapChildNotRepeatedGroup e)
          ++ (when (true && not (one_tree cb || two_trees cb)) (no.EntriesChildren e)
          ++ when (true && (two_trees cb && some_root repeated_label cb)) (no.EntryRepeated e))))
          (cond b (entries_role e (relabel of_label cb)) (Err (no.MapChildNotRepeatedGroup e)))
      go false = refl
      go true = entries_first cb

  abbrev map_rest : Forest Read → List Refusal
  map_rest below =
      when (not (one_tree below)) (no.MapChildren e)
      ++ (when (one_tree below && not (some_root repeated_group below)) (no.MapChildNotRepeatedGroup e)
      ++ (when (one_tree below && not (one_tree (first_below below) || two_trees (first_below below))) (no.EntriesChildren e)
      ++ when (one_tree below && (two_trees (first_below below) && some_root repeated_label (first_below below))) (no.EntryRepeated e)))

  map_role_first : (below : Forest Read) → Firsts (map_faults e rep below) (map_role e rep (relabel of_label below))
  map_role_first below = go (is_repeated rep)
    where
      go : (g : Bool) → Firsts (when g (no.MapRepeated e) ++ map_rest below) (cond g (Err (no.MapRepeated e)) (map_child e (relabel of_label below)))
      go true = refl
      go false = map_child_first below

  by_itself_first : (a : Option Annotation) (below : Forest Read)
      → Firsts (rule_faults e (group a) rep below) (by_annotation e (group a) rep (relabel of_label below))
  by_itself_first None below = own_first e w hint n
  by_itself_first (Some a.List) below = list_first below
  by_itself_first (Some a.Map) below = map_role_first below
  by_itself_first (Some a.MapKeyValue) below = map_role_first below

  same_first : (x : Numbered) (a : Option Annotation) (below : Forest Read) → x.number ≡ e → x.repetition ≡ rep → x.kind ≡ group a
      → Firsts (rule_faults e (group a) rep below) (by_annotation x.number x.kind x.repetition (relabel of_label below))
  same_first x a below en er ek =
      let bs = relabel of_label below in
      let same : by_annotation e (group a) rep bs ≡ by_annotation x.number x.kind x.repetition bs =
      ap (λ (m : ℕ). by_annotation m (group a) rep bs) (sym en)
      ∙ ap (λ (k : Kind). by_annotation x.number k rep bs) (sym ek)
      ∙ ap (λ (r : Repetition). by_annotation x.number x.kind r bs) (sym er) in
      subst (λ (role : Result Role Refusal). Firsts (rule_faults e (group a) rep below) role) same (by_itself_first a below)

  part_first : (t : Part) (x : Numbered) (a : Option Annotation) (below : Forest Read) → x.number ≡ e → x.repetition ≡ rep → x.kind ≡ group a
      → Firsts (cond (by_itself t) (rule_faults e (group a) rep below) []) (role_of t x (relabel of_label below))
  part_first as_root x a below en er ek = same_first x a below en er ek
  part_first as_field x a below en er ek = same_first x a below en er ek
  part_first as_key x a below en er ek = same_first x a below en er ek
  part_first as_element x a below en er ek = own_first e w hint n
  part_first as_middle x a below en er ek = refl
  part_first as_entries x a below en er ek = refl

module _ (typing : Typing) (chosen : ℕ → Bool) where
  type_first : (e : ℕ) (o : Option ArrowType) → type_checks e o ≡ when (untyped o) (no.LeafType e)
  type_first e None = refl
  type_first e (Some t) = refl

  kind_first : (k : Kind) (x : Read) (below : Forest Read) (w : Bool) (n : ℕ) → x.of.kind ≡ k → x.role ≡ role_of x.part x.of (relabel of_label below)
      → head (own_checks typing chosen k x w n)
      ≡ head (cond (by_itself x.part) (rule_faults x.of.number k x.of.repetition below) [] ++ hint_faults typing chosen k x w n)
  kind_first (leaf l) x below w n ek er = go (by_itself x.part) (chosen x.of.leaf_number)
    where
      go : (b c : Bool)
          → head (cond c (wrap_checks x.of.number w x.given.hint ++ type_checks x.of.number (typing l (leaf_hint x))) [])
          ≡ head (cond b [] [] ++ (when (c && (w && no_such plain_list x.given.hint)) (no.HintKind x.of.number) ++ when (c && untyped (typing l (leaf_hint x))) (no.LeafType x.of.number)))
      go true true = ap₂ (λ (p q : List Refusal). head (p ++ q)) (wrap_first x.of.number w x.given.hint) (type_first x.of.number (typing l (leaf_hint x)))
      go false true = ap₂ (λ (p q : List Refusal). head (p ++ q)) (wrap_first x.of.number w x.given.hint) (type_first x.of.number (typing l (leaf_hint x)))
      go true false = refl
      go false false = refl
  kind_first (group a) x below w n ek er =
      subst (λ (role : Result Role Refusal). Firsts x.of.number x.of.repetition w x.given.hint n (cond (by_itself x.part) (rule_faults x.of.number (group a) x.of.repetition below) []) role)
      (sym er) (part_first x.of.number x.of.repetition w x.given.hint n x.part x.of a below refl refl ek)

  pub element_first : (x : Read) (below : Forest Read) → x.role ≡ role_of x.part x.of (relabel of_label below)
      → head (checks typing chosen x (trees below)) ≡ head (faults_at typing chosen (record { node = x; below = below }))
  element_first x below er =
      let w = wrapped x.part x.of.repetition in
      heads
      (name_checks x.of.number x.given.named x.of.name x.given.hint)
      (when (misnamed x.given.named x.of.name x.given.hint) (no.HintFieldName x.of.number))
      (own_checks typing chosen x.of.kind x w (trees below))
      (cond (by_itself x.part) (rule_faults x.of.number x.of.kind x.of.repetition below) [] ++ hint_faults typing chosen x.of.kind x w (trees below))
      (ap head (name_first x.of.number x.given.named x.of.name x.given.hint))
      (kind_first x.of.kind x below w (trees below) refl er)
