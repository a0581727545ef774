-- Rows are trees in one way at most.
use Rattle.std.proofs.Common.{◌≡◌, ℕ, suc, ◌<◌, List, ◌∷◌, ◌++◌, length, refl, sym, ap, ◌∙◌, append-nil}
use Rattle.std.proofs.Math.Logic.{∥∥₁_elim}
use Rattle.std.specs.Coded.{codes}
use Rattle.std.proofs.Props.{props}
use Rattle.tree.specs.Forest.{Forest, Lists, Sized, count, listing, below_at}
use Rattle.tree.specs.Forest.Forest.{bare, plant}
use Rattle.tree.proofs.Trees.{unique, seen_at}
use Rattle.schema.specs.declared.element.Element.{Element}
use Rattle.schema.specs.Elements.{element_span}
use Rattle.arrow.specs.declared.hint.HintRow.{HintRow}
use Rattle.arrow.specs.Kinds.{hint_span}
use Rattle.convert.specs.Handed.{WholeHints}
use Rattle.convert.specs.Table.{WholeElements, Rooted}
use Rattle.convert.proofs.Trees.{rooted}
use mathlib.Core.HLevel.{Σ_prop_path}

size_prop : (m n : ℕ) → IsProp (m ≡ n)
size_prop m n = Prim.hlevel props

module _ {A : Type 0} (span : A → ℕ) (rows_prop : (xs ys : List A) → IsProp (xs ≡ ys)) where
  sized_prop : (f : Forest A) → IsProp (Sized span f)
  sized_prop bare x y = refl
  sized_prop (plant h b n) x y = λ i. (size_prop (span h) (suc (count b)) x.0 y.0 i, sized_prop b x.1 y.1 i, sized_prop n x.2 y.2 i)

  lists_prop : (rows : List A) (f : Forest A) → IsProp (Lists span f rows)
  lists_prop rows f x y = λ i. record { lists = rows_prop (listing f) rows x.lists y.lists i; sized = sized_prop f x.sized y.sized i }

  whole_prop : (rows : List A) → IsProp ((f : Forest A) × Lists span f rows)
  whole_prop rows x y = Σ_prop_path (lists_prop rows) (unique span x.0 y.0 x.1.sized y.1.sized (x.1.lists ∙ sym y.1.lists))

hints_prop : (xs ys : List HintRow) → IsProp (xs ≡ ys)
hints_prop xs ys = Prim.hlevel (props, codes)

elements_prop : (xs ys : List Element) → IsProp (xs ≡ ys)
elements_prop xs ys = Prim.hlevel (props, codes)

-- what `Hints` keeps
pub whole : {rows : List HintRow} → ∥ WholeHints rows ∥₁ → WholeHints rows
whole {rows} h = ∥∥₁_elim h (whole_prop hint_span hints_prop rows) (λ w. w)

-- what `Node` keeps
pub root : {t : List Element} {i : ℕ} → ∥ WholeElements t ∥₁ → i < length t → Rooted t i
root {t} {i} h l =
    let w = ∥∥₁_elim h (whole_prop element_span elements_prop t) (λ w. w) in
    let s = seen_at element_span w.0 t w.1 i l in
    rooted t i w.0 w.1 s.row (below_at w.0 i) bare (record { after = s.rest; here = s.split ∙ ap (λ (xs : List Element). s.row ∷ (xs ++ s.rest)) (sym (append-nil (listing (below_at w.0 i)))); sized = (s.told, s.sized, tt) })
