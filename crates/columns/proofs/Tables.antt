-- The caller's tables as a whole.
use Rattle.std.proofs.Common.{◌≡◌, ℕ, ◌+◌, Bool, true, false, cond, not, List, [], ◌∷◌, length, get_or, drop, Ok, Err, Result, sym, refl, ap, ◌∙◌, add-zero, add-one, arith, filter, count_by, MatchResult}
use Rattle.tree.proofs.Trees.{drop_next}
use Rattle.std.proofs.lemmas.List.Sums.{length-filter}
use Rattle.std.proofs.lemmas.List.{get_or-drop}
use Rattle.std.specs.Result.{IsOkAnd}
use Rattle.schema.specs.declared.element.Element.{Element}
use Rattle.schema.specs.declared.refusal.Refusal.{Refusal}
use Rattle.schema.specs.Elements.{is_group, empty}
use Rattle.schema.specs.Posts.{refusal}
use Rattle.schema.specs.Rows.{IsFinished}
use Rattle.columns.specs.declared.record.PathRecord.{PathRecord}
use Rattle.columns.specs.declared.leaves.Done.{Done}
use Rattle.columns.specs.Levels.{row_at, path_of, leaves_in, leaves_of}
use Rattle.columns.specs.Listing.{list_refusal, LevelsBounded}
use Rattle.columns.proofs.Paths.{path_most, rep_most, def_most}

-- the leaves from a place on, counted row by row
leaves_on : (rows rest : List Element) (i : ℕ) → drop i rows ≡ rest → length (leaves_in rows i (length rest)) ≡ length (filter (λ e. not (is_group e.kind)) rest)
leaves_on rows [] i e = refl
leaves_on rows (x ∷ xs) i e =
    let us = leaves_in rows (i + 1) (length xs) in
    let vs = filter (λ y. not (is_group y.kind)) xs in
    let here : row_at rows i ≡ x = ap (λ n. get_or rows n empty) (sym (add-zero i)) ∙ sym (get_or-drop i rows 0 empty) ∙ ap (λ ys. get_or ys 0 empty) e in
    let more = leaves_on rows xs (i + 1) (ap (λ n. drop n rows) (add-one i) ∙ drop_next rows i x xs e) in
    ap (λ b. length (cond b (i ∷ us) us)) (ap (λ y. not (is_group y.kind)) here) ∙ step (not (is_group x.kind)) us vs more
  where
    step : (b : Bool) (us : List ℕ) (vs : List Element) → length us ≡ length vs → length (cond b (i ∷ us) us) ≡ length (cond b (x ∷ vs) vs)
    step true us vs h = omega (arith, h)
    step false us vs h = h

pub leaves_counted : (rows : List Element) → length (leaves_of rows) ≡ count_by (λ e. not (is_group e.kind)) rows
leaves_counted rows = leaves_on rows rows 0 refl ∙ length-filter (λ e. not (is_group e.kind)) rows

-- the number of columns is refused as the walk was
pub refused_alike : (w : Result Done Refusal) (r : Result ℕ Refusal) (P : Done → ℕ → Type 0) → MatchResult w (λ d. IsOkAnd r (P d)) (λ e. r ≡ Err e) → refusal r ≡ refusal w
refused_alike (Ok d) (Ok n) P h = refl
refused_alike (Ok d) (Err e) P h = absurd h
refused_alike (Err e) r P h = ap refusal h

-- The levels.

module _ (bytes : ℕ) (rows : List Element) (fin : IsFinished bytes rows) where
  pub bounded : (r : Result ℕ Refusal) → LevelsBounded rows r
  bounded (Ok n) = λ e h. (rep_most rows (path_of rows e), omega (arith, def_most rows (path_of rows e), path_most bytes rows fin e h))
  bounded (Err e) = tt

-- an accepted listing's memory was right
pub bounded_accepted : (bytes : ℕ) (rows : List Element) (kept : Bool) → (kept ≡ true → IsFinished bytes rows) → (w : PathRecord) (columns paths : ℕ) (r : Result ℕ Refusal) → refusal r ≡ list_refusal kept rows w columns paths → LevelsBounded rows r
bounded_accepted bytes rows true fin w columns paths r e = bounded bytes rows (fin refl) r
bounded_accepted bytes rows false fin w columns paths (Ok n) e = absurd (let z : ◌≡◌ {A = ℕ} 0 1 = cc in omega arith)
bounded_accepted bytes rows false fin w columns paths (Err x) e = tt
