-- A word in its parts, from what `split_once` and `strip_suffix` say.
use Rattle.std.proofs.Common.{◌≡◌, ℕ, suc, List, [], ◌∷◌, ◌++◌, Some, None, sym, refl, ap, ◌∙◌, suc-le-suc, zero-le, lit<, Bor}
use Rattle.std.proofs.lemmas.List.{append_assoc, append_cancel_right}
use Rattle.std.proofs.lemmas.Str.Pattern.{IsSplitOnceResult, split_after, split_parts}
use Rattle.script.specs.Cuts.{Lacks, Parts}

pub no_kind : (w : List ℕ) → IsSplitOnceResult 40 w None → (kind first second : List ℕ) → Parts w kind first second → ⊥
no_kind w h kind first second (lk, lf, e) = split_after 40 w kind _ None h (lit< tt) e lk

-- what stands after the kind
tail_is : (w : List ℕ) (x : Bor (List ℕ) × Bor (List ℕ)) → IsSplitOnceResult 40 w (Some x) → (kind first second : List ℕ) → Parts w kind first second → x.1.now ≡ (first ++ (44 ∷ second)) ++ (41 ∷ [])
tail_is w x h kind first second (lk, lf, e) =
    (split_after 40 w kind _ (Some x) h (lit< tt) e lk).1 ∙ sym (append_assoc first (44 ∷ second) (41 ∷ []))

pub no_end : (w : List ℕ) (x : Bor (List ℕ) × Bor (List ℕ)) → IsSplitOnceResult 40 w (Some x) → ((front : List ℕ) → x.1.now ≡ front ++ (41 ∷ []) → ⊥) → (kind first second : List ℕ) → Parts w kind first second → ⊥
no_end w x h none kind first second p = none _ (tail_is w x h kind first second p)

pub no_comma : (w inner : List ℕ) (x : Bor (List ℕ) × Bor (List ℕ)) → IsSplitOnceResult 40 w (Some x) → x.1.now ≡ inner ++ (41 ∷ []) → IsSplitOnceResult 44 inner None → (kind first second : List ℕ) → Parts w kind first second → ⊥
no_comma w inner x h end g kind first second p =
    let same = append_cancel_right inner (first ++ (44 ∷ second)) (41 ∷ []) (sym end ∙ tail_is w x h kind first second p) in
    split_after 44 inner first second None g (lit< tt) same p.1

pub in_parts : (w inner : List ℕ) (x y : Bor (List ℕ) × Bor (List ℕ)) → IsSplitOnceResult 40 w (Some x) → x.1.now ≡ inner ++ (41 ∷ []) → IsSplitOnceResult 44 inner (Some y) → Parts w x.0.now y.0.now y.1.now
in_parts w inner x y h end g =
    let front = split_parts 40 w (Some x) h (lit< tt) in
    let back = split_parts 44 inner (Some y) g (lit< tt) in
    let tail : x.1.now ≡ y.0.now ++ (44 ∷ (y.1.now ++ (41 ∷ [])))
    = end ∙ (ap (λ t. t ++ (41 ∷ [])) back.0 ∙ append_assoc y.0.now (44 ∷ y.1.now) (41 ∷ [])) in
    (front.1, back.1, front.0 ∙ ap (λ t. x.0.now ++ (40 ∷ t)) tail)

lacks_tail : (b x : ℕ) (xs : List ℕ) → Lacks b (x ∷ xs) → Lacks b xs
lacks_tail b x xs h k below is = h (suc k) (suc-le-suc below) is

-- a text has one first b
same_cut : (b : ℕ) (xs ys xs' ys' : List ℕ) → Lacks b xs → Lacks b xs' → xs ++ (b ∷ ys) ≡ xs' ++ (b ∷ ys') → (xs ≡ xs') × (ys ≡ ys')
same_cut b [] ys [] ys' h h' e = (refl, cc)
same_cut b [] ys (x ∷ xs') ys' h h' e = let x-is : x ≡ b = cc in absurd (h' 0 (suc-le-suc zero-le) x-is)
same_cut b (x ∷ xs) ys [] ys' h h' e = let x-is : x ≡ b = cc in absurd (h 0 (suc-le-suc zero-le) x-is)
same_cut b (x ∷ xs) ys (x' ∷ xs') ys' h h' e =
    let rest : xs ++ (b ∷ ys) ≡ xs' ++ (b ∷ ys') = cc in
    let same_head : x ≡ x' = cc in
    let p = same_cut b xs ys xs' ys' (lacks_tail b x xs h) (lacks_tail b x' xs' h') rest in
    (cc, p.1)

-- a word is in parts in one way
pub same_parts : (w kind first second kind' first' second' : List ℕ) → Parts w kind first second → Parts w kind' first' second' → (kind ≡ kind') × (first ≡ first') × (second ≡ second')
same_parts w kind first second kind' first' second' (lk, lf, e) (lk', lf', e') =
    let outer = same_cut 40 kind _ kind' _ lk lk' (sym e ∙ e') in
    let inner = same_cut 44 first _ first' _ lf lf' outer.1 in
    (outer.0, inner.0, append_cancel_right second second' (41 ∷ []) inner.1)
