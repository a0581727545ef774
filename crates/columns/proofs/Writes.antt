-- What the walk writes, step by step, and how it leaves the path record.
use Rattle.std.proofs.Common.{◌≡◌, ℕ, ◌+◌, ◌-◌, ◌<◌, ◌≤◌, cond, List, [], ◌∷◌, ◌++◌, length, take, set, Ok, Err, Result, sym, refl, ap, ◌∙◌, subst, ap₂, append_assoc, append-nil, arith}
use Rattle.std.proofs.lemmas.List.{length-append, take-take, take-set}
use Rattle.tree.specs.Forest.{size_at}
use Rattle.schema.specs.declared.element.Element.{Element}
use Rattle.schema.specs.declared.refusal.Refusal.{Refusal}
use Rattle.schema.specs.Elements.{element_span}
use Rattle.columns.specs.declared.column.Column.{Column}
use Rattle.columns.specs.declared.record.PathRecord.{PathRecord}
use Rattle.columns.specs.declared.leaves.Done.{Done}
use Rattle.columns.specs.declared.leaves.Levels.{Levels}
use Rattle.columns.specs.Levels.{row_at, path_of, repeats, may_miss, rep_level, def_level, repeated_def_level, root_of, leaves_in}
use Rattle.columns.specs.Listing.{Restored, columns_from, path_numbers}
use Rattle.columns.specs.Walk.{LevelsOf, Wrote, Appended, leaves_below}
use Rattle.columns.proofs.Paths.{leaves_split, columns_append, numbers_append, rep_push, def_push, nearest_push}

-- The record.

pub restored_same : (w : PathRecord) → Restored w w
restored_same w = record { len = refl; path = refl }

pub restored_on : (u v w : PathRecord) → Restored u v → Restored v w → Restored u w
restored_on u v w a b = record { len = b.len ∙ a.len; path = b.path ∙ a.path }

-- an element was entered, the record restored to that, and the element left
pub left : (w g e x : PathRecord) (n : ℕ) → g.len ≡ w.len + 1 → g.numbers ≡ set w.numbers w.len n → Restored g e → x.len ≡ e.len - 1 → x.numbers ≡ e.numbers → Restored w x
left w g e x n gl gn r xl xn =
    let long : e.len ≡ w.len + 1 = r.len ∙ gl in
    let back : x.len ≡ w.len = omega (arith, xl, long) in
    let whole : take (w.len + 1) e.numbers ≡ take (w.len + 1) (set w.numbers w.len n) =
    ap (λ m. take m e.numbers) (sym long) ∙ r.path ∙ ap₂ take gl gn in
    record {
      len = back;
      path =
          ap₂ take back xn ∙ sym (take-take w.len (w.len + 1) e.numbers (omega arith)) ∙ ap (take w.len) whole
          ∙ take-take w.len (w.len + 1) (set w.numbers w.len n) (omega arith) ∙ take-set w.numbers w.len n;
    }

-- The levels one element further down.

pub levels_push : (rows : List Element) (is : List ℕ) (c : ℕ) (l m : Levels) → LevelsOf rows is l
    → m.repetition ≡ l.repetition + cond (repeats (row_at rows c).repetition) 1 0
    → m.definition ≡ l.definition + cond (may_miss (row_at rows c).repetition) 1 0
    → m.repeated ≡ cond (repeats (row_at rows c).repetition) (l.definition + 1) l.repeated
    → (js : List ℕ) → js ≡ is ++ c ∷ [] → LevelsOf rows js m
levels_push rows is c l m h r d n js e = record {
  repetition = r ∙ ap (λ x. x + cond (repeats (row_at rows c).repetition) 1 0) h.repetition ∙ sym (ap (rep_level rows) e ∙ rep_push rows is c);
  definition = d ∙ ap (λ x. x + cond (may_miss (row_at rows c).repetition) 1 0) h.definition ∙ sym (ap (def_level rows) e ∙ def_push rows is c);
  repeated =
      n ∙ ap₂ (λ x y. cond (repeats (row_at rows c).repetition) (x + 1) y) h.definition h.repeated ∙ sym (ap (repeated_def_level rows) e ∙ nearest_push rows is c);
}

-- The root number.

pub root_push : (rows : List Element) (is : List ℕ) (c : ℕ) → 0 < length is → root_of rows (is ++ c ∷ []) ≡ root_of rows is
root_push rows [] c h = absurd (omega (arith, h))
root_push rows (i ∷ is) c h = refl

-- What is written.

module _ (rows : List Element) where
  pub wrote_none : (done : Done) (columns : List Column) (paths : List ℕ) → done.numbers ≤ length paths → (es : List ℕ) → es ≡ [] → Wrote rows es done columns paths columns paths (Ok done)
  wrote_none done columns paths h es e =
      let P : List ℕ → Type 0 = λ xs. Wrote rows xs done columns paths columns paths (Ok done) in
      subst P (sym e) (omega arith, omega arith, h, sym (append-nil (take done.columns columns)), sym (append-nil (take done.numbers paths)))

  module _ (es fs : List ℕ) (done d : Done) (columns : List Column) (paths : List ℕ) (columns₁ : List Column) (paths₁ : List ℕ) (columns₂ : List Column) (paths₂ : List ℕ)
      (same : length paths₁ ≡ length paths) (was : Wrote rows es done columns paths columns₁ paths₁ (Ok d)) where
    pub wrote_more : (d₂ : Done) → Wrote rows fs d columns₁ paths₁ columns₂ paths₂ (Ok d₂) → (gs : List ℕ) → gs ≡ es ++ fs → Wrote rows gs done columns paths columns₂ paths₂ (Ok d₂)
    wrote_more d₂ now' gs e =
        let P : List ℕ → Type 0 = λ xs. Wrote rows xs done columns paths columns₂ paths₂ (Ok d₂) in
        subst P (sym e) (
          omega (arith, was.0, now'.0, length-append es fs),
          omega (arith, was.1, now'.1, ap length (numbers_append rows es fs), length-append (path_numbers rows es) (path_numbers rows fs)),
          omega (arith, now'.2, same),
          now'.3 ∙ ap (λ xs. xs ++ columns_from rows d.numbers fs) was.3 ∙ append_assoc (take done.columns columns) (columns_from rows done.numbers es) (columns_from rows d.numbers fs)
              ∙ ap (λ n. take done.columns columns ++ (columns_from rows done.numbers es ++ columns_from rows n fs)) was.1
              ∙ ap (λ xs. take done.columns columns ++ xs) (sym (columns_append rows done.numbers es fs)),
          now'.4 ∙ ap (λ xs. xs ++ path_numbers rows fs) was.4 ∙ append_assoc (take done.numbers paths) (path_numbers rows es) (path_numbers rows fs)
              ∙ ap (λ xs. take done.numbers paths ++ xs) (sym (numbers_append rows es fs)),
        )

    pub wrote_less : (r : Refusal) → Wrote rows fs d columns₁ paths₁ columns₂ paths₂ (Err r) → (gs hs : List ℕ) → gs ≡ (es ++ fs) ++ hs → Wrote rows gs done columns paths columns₂ paths₂ (Err r)
    wrote_less r now' gs hs e = (
      now'.0,
      omega (arith, now'.1, was.1, same, ap (λ xs. length (path_numbers rows xs)) e, ap length (numbers_append rows (es ++ fs) hs), length-append (path_numbers rows (es ++ fs)) (path_numbers rows hs), ap length (numbers_append rows es fs), length-append (path_numbers rows es) (path_numbers rows fs)),
    )

  -- a leaf's column and path
  pub appended_wrote : (is : List ℕ) (n leaf : ℕ) (levels : Levels) (root : ℕ) (done : Done) (columns : List Column) (paths : List ℕ) (columns' : List Column) (paths' : List ℕ)
      → path_of rows leaf ≡ is → n ≡ length is → LevelsOf rows is levels → root ≡ root_of rows is
      → (r : Result Done Refusal) → Appended is n leaf levels root done columns paths columns' paths' r → (es : List ℕ) → es ≡ leaf ∷ [] → Wrote rows es done columns paths columns' paths' r
  appended_wrote is n leaf levels root done columns paths columns' paths' p long l q (Ok d) a es e =
      let P : List ℕ → Type 0 = λ xs. Wrote rows xs done columns paths columns' paths' (Ok d) in
      let one : length (path_numbers rows (leaf ∷ [])) ≡ length is = ap length (append-nil (path_of rows leaf) ∙ p) in
      let size : n ≡ length (path_of rows leaf) = long ∙ ap length (sym p) in
      let x = l.repetition ∙ ap (rep_level rows) (sym p) in
      let y = l.definition ∙ ap (def_level rows) (sym p) in
      let z = l.repeated ∙ ap (repeated_def_level rows) (sym p) in
      let v = q ∙ ap (root_of rows) (sym p) in
      subst P (sym e) (
        a.0,
        omega (arith, a.1, long, one),
        a.2,
        a.3 ∙ ap (λ c. take done.columns columns ++ c ∷ []) (cc),
        a.4 ∙ ap (λ xs. take done.numbers paths ++ xs) (sym (append-nil (path_of rows leaf) ∙ p)),
      )
  appended_wrote is n leaf levels root done columns paths columns' paths' p long l q (Err x) a es e =
      let P : List ℕ → Type 0 = λ xs. Wrote rows xs done columns paths columns' paths' (Err x) in
      subst P (sym e) (a.0, omega (arith, a.1, long, ap length (append-nil (path_of rows leaf) ∙ p)))

  -- A parent's leaves, split at a child.

  pub split_at : (p c z : ℕ) → p + 1 ≤ c → c + z ≤ p + size_at element_span rows p
      → leaves_below rows p ≡ (leaves_in rows (p + 1) (c - (p + 1)) ++ leaves_in rows c z) ++ leaves_in rows (c + z) ((p + size_at element_span rows p) - (c + z))
  split_at p c z l u =
      leaves_split rows (p + 1) (c + z) ((c + z) - (p + 1)) ((p + size_at element_span rows p) - (c + z)) (size_at element_span rows p - 1) (omega (arith, l)) (omega (arith, l, u))
      ∙ ap (λ xs. xs ++ leaves_in rows (c + z) ((p + size_at element_span rows p) - (c + z))) (leaves_split rows (p + 1) c (c - (p + 1)) z ((c + z) - (p + 1)) (omega (arith, l)) (omega (arith, l)))

  pub split_on : (p c z : ℕ) → p + 1 ≤ c → leaves_in rows (p + 1) ((c + z) - (p + 1)) ≡ leaves_in rows (p + 1) (c - (p + 1)) ++ leaves_in rows c z
  split_on p c z l = leaves_split rows (p + 1) c (c - (p + 1)) z ((c + z) - (p + 1)) (omega (arith, l)) (omega (arith, l))
