-- A leaf's row, with a list round it where it is repeated.
use Rattle.std.proofs.Common.{◌≡◌, ℕ, ◌+◌, ◌<◌, ◌≤◌, Bool, true, false, cond, List, [], ◌∷◌, length, set, Some, None, Ok, sym, ap, ◌∙◌, subst, ap₂, arith, length-set}
use Rattle.tree.specs.Forest.{Forest}
use Rattle.schema.specs.declared.basic.Repetition.{Repetition}
use Rattle.schema.specs.declared.element.PlaceOf.{PlaceOf}
use Rattle.arrow.specs.declared.types.ArrowType.{ArrowType}
use Rattle.arrow.specs.declared.row.ResultRow.{ResultRow}
use Rattle.walk.specs.Labels.{is_repeated, or_required}
use Rattle.schema.specs.declared.element.Element.{Element}
use Rattle.arrow.specs.declared.types.ArrowType.TheVariants as a
use Rattle.walk.specs.Hints.{Hint}
use Rattle.walk.specs.declared.levels.Levels.{Levels}
use Rattle.convert.specs.declared.context.Cursor.{Cursor}
use Rattle.convert.specs.declared.context.Seat.{Seat}
use Rattle.walk.specs.Results.{shown_row, line_of}
use Rattle.convert.specs.Outcome.{Outcome, within}
use Rattle.convert.specs.Visit.{Wrote}
use Rattle.convert.specs.Own.{own_row, list_row, listed_if, leaf_outcome}
use Rattle.convert.proofs.Seated.{listed_no, listed_yes}
use Rattle.convert.proofs.Written.{wrote_one}

-- what `close` ensures
abbrev pub Closes : ResultRow → ℕ → Cursor → Cursor → List ResultRow → List ResultRow → Type 0
Closes row start cursor r out after =
    (names : List ℕ) (o : Outcome) (next : ℕ) (before : List ResultRow) → length before ≡ length out → Wrote names o (start + 1) next before out cursor
    → Wrote names (within (shown_row names row) o) start next before after r

module _ (names : List ℕ) (c : Seat) (hs : Forest Hint) (i k : ℕ) (name : PlaceOf ℕ) (r : Repetition) (v : Levels) (type : ArrowType)
    (row : ResultRow) (is : row ≡ own_row c hs name r v type (Some (record { element = i; leaf = k }))) (start next : ℕ) (before : List ResultRow) where
  pub leaf_alone : is_repeated r ≡ false → start < length before
      → Wrote names (leaf_outcome names c hs i k name r v type) start next before (set before start row) (record { row = start + 1; leaf = next })
  leaf_alone h m =
      subst (λ (o : Outcome). Wrote names o start next before (set before start row) (record { row = start + 1; leaf = next }))
      (ap (λ (x : ResultRow). Ok (line_of names x ∷ [])) is ∙ sym (listed_no names c r v _ h))
      (wrote_one names start next before row m)

  pub leaf_listed : is_repeated r ≡ true → start + 2 ≤ length before → (list : ResultRow) → list ≡ list_row c v → (after : List ResultRow) (p : Cursor)
      → Closes list start (record { row = start + 2; leaf = next }) p (set before (start + 1) row) after
      → Wrote names (leaf_outcome names c hs i k name r v type) start next before after p
  leaf_listed h m list l after p f =
      let e : (start + 1) + 1 ≡ start + 2 = omega arith in
      subst (λ (o : Outcome). Wrote names o start next before after p)
      (ap₂ (λ (x y : ResultRow). within (shown_row names x) (Ok (line_of names y ∷ []))) l is ∙ sym (listed_yes names c r v _ h))
      (f names (Ok (line_of names row ∷ [])) next before (sym (length-set before (start + 1) row))
      (subst (λ (n : ℕ). Wrote names (Ok (line_of names row ∷ [])) (start + 1) next before (set before (start + 1) row) (record { row = n; leaf = next })) e
      (wrote_one names (start + 1) next before row (omega arith))))

-- ── A struct's row ──

pub at_again : (n : ℕ) (b : Bool) → b ≡ true → n + cond b 1 0 ≡ n + 1
at_again n b h = ap (λ (x : Bool). n + cond x 1 0) h

pub at_once : (n : ℕ) (b : Bool) → b ≡ false → n + cond b 1 0 ≡ n
at_once n b h = ap (λ (x : Bool). n + cond x 1 0) h ∙ omega arith

module _ (names : List ℕ) (c : Seat) (hs : Forest Hint) (e : Element) (v : Levels)
    (row : ResultRow) (is : row ≡ own_row c hs e.name (or_required e.repetition) v a.Struct None) (start : ℕ) (o : Outcome) (next : ℕ) (before rows : List ResultRow) where
  abbrev again : Bool
  again = is_repeated (or_required e.repetition)

  abbrev closed : Outcome
  closed = listed_if names c (or_required e.repetition) v (within (shown_row names (own_row c hs e.name (or_required e.repetition) v a.Struct None)) o)

  pub struct_alone : (after : List ResultRow) (cursor r : Cursor) → again ≡ false → length before ≡ length rows → Closes row start cursor r rows after
      → Wrote names o ((start + cond again 1 0) + 1) next before rows cursor → Wrote names closed start next before after r
  struct_alone after cursor r h l f w =
      subst (λ (x : Outcome). Wrote names x start next before after r)
      (ap (λ (x : ResultRow). within (shown_row names x) o) is ∙ sym (listed_no names c (or_required e.repetition) v _ h))
      (f names o next before l (subst (λ (n : ℕ). Wrote names o (n + 1) next before rows cursor) (at_once start again h) w))

  pub struct_listed : (mid after : List ResultRow) (cursor inner r : Cursor) → again ≡ true → (list : ResultRow) → list ≡ list_row c v → length before ≡ length rows → length mid ≡ length rows
      → Closes row (start + 1) cursor inner rows mid → Closes list start inner r mid after
      → Wrote names o ((start + cond again 1 0) + 1) next before rows cursor → Wrote names closed start next before after r
  struct_listed mid after cursor inner r h list m l k f g w =
      subst (λ (x : Outcome). Wrote names x start next before after r)
      (ap₂ (λ (x y : ResultRow). within (shown_row names x) (within (shown_row names y) o)) m is ∙ sym (listed_yes names c (or_required e.repetition) v _ h))
      (g names (within (shown_row names row) o) next before (l ∙ sym k)
      (f names o next before l (subst (λ (n : ℕ). Wrote names o (n + 1) next before rows cursor) (at_again start again h) w)))
