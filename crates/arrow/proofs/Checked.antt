-- The check of hint rows answers whether they are a hint.
use Rattle.std.proofs.Common.{◌≡◌, ℕ, ◌≤◌, Bool, true, false, eqb, List, [], length, Decides, sym, ap, ◌∙◌, inl, inr, arith}
use Rattle.std.proofs.lemmas.Bool.{false≢true}
use Rattle.tree.specs.Forest.{Forest, Tree, alone, Lists, IsFlatTree}
use Rattle.arrow.specs.declared.hint.HintRow.{HintRow}
use Rattle.arrow.specs.Kinds.{hint_span}
use Rattle.arrow.specs.HintTrees.{HintsKept, IsHint, shallow, tree_at}
use Rattle.arrow.proofs.Depths.{depth_below, below_depth}

module _ (n : ℕ) (rows : List HintRow) where
  module _ (some : eqb (length rows) 0 ≡ false) where
    pub not_empty : rows ≡ [] → ⊥
    not_empty e = false≢true (sym some ∙ ap (λ xs. eqb (length xs) 0) e)

    -- what the walk down answers, at all rows
    module _ (s : Bool) (walked : (f : Forest HintRow) → Lists hint_span f rows → s ≡ shallow 129 (tree_at f rows 0)) where
      deep_enough : (t : Tree HintRow) → Lists hint_span (alone t) rows → s ≡ shallow 129 (alone t)
      deep_enough t l = walked (alone t) l

      pub too_deep : s ≡ false → Decides s (IsHint n rows)
      too_deep e = (
        λ t. absurd (false≢true (sym e ∙ t)),
        λ h. elim h [
          | inl z ↦ absurd (not_empty z)
          | inr p ↦ let l = p.1.lists in
              deep_enough p.0 l ∙ below_depth 129 (alone p.0) (λ i lt. omega (arith, p.1.deepest i (omega (arith, ap length l.lists))))
        ],
      )

      module _ (r : Bool) (kept : (f : Forest HintRow) → Lists hint_span f rows → Decides r (HintsKept n f rows)) where
        pub all_kept : s ≡ true → (length rows ≤ 4096) × IsFlatTree hint_span rows → Decides r (IsHint n rows)
        all_kept e flat = (
          λ t. let l = flat.1.1 in
              let f = alone flat.1.0 in
              inr (flat.1.0, record { lists = l; few = flat.0; deepest = λ i lt. omega (arith, depth_below 129 f (sym (deep_enough flat.1.0 l) ∙ e) i (omega (arith, ap length l.lists))); kept = (kept f l).0 t }),
          λ h. elim h [ inl z ↦ absurd (not_empty z) | inr p ↦ (kept (alone p.0) p.1.lists).1 p.1.kept ],
        )
