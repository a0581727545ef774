-- Flags, step by step.
use Rattle.std.proofs.Common.{◌≡◌, ℕ, ◌<◌, Bool, true, false, ◌||◌, leb, List, ◌∷◌, length, set, is_ok, None, Ok, Err, Result, sym, refl, ap, ◌∙◌, ⊎_elim, arith}
use Rattle.std.proofs.lemmas.List.{get_or-set_same, get_or-set_other}
use Rattle.std.proofs.lemmas.Bool.{cases_lt, cases_eq, eq-eqb, ne_eqb, le-leb, cond-true}
use Rattle.schema.specs.declared.refusal.Refusal.{Refusal}
use Rattle.schema.specs.declared.refusal.Refusal.TheVariants as no
use Rattle.schema.specs.Posts.{first}
use Rattle.selection.specs.Sets.{in_flags, union}
use Rattle.selection.specs.Flagging.{Flagging, in_accepted, Flag, Flagged, untouched, flagged}

or_none : (b : Bool) → b ≡ (b || false)
or_none true = refl
or_none false = refl

or_one : (b c : Bool) → true ≡ (b || (true || c))
or_one true c = refl
or_one false c = refl

-- an accepted number is one of a flag
in_range : (n m : ℕ) → None ≡ first (leb m n) no.FlagOutside None → n < m
in_range n m e = ⊎_elim (λ h. h) (λ h. let z : ◌≡◌ {A = ℕ} 0 1 = (let q = e ∙ cond-true (leb m n) _ _ (le-leb m n h) in cc) in omega arith) (cases_lt n m)

-- one flagging more
module _ (start : List Bool) (n : ℕ) (h : List Flagging) {flags : List Bool} {number : ℕ} {flags' : List Bool} (t : in_flags flags n ≡ union (in_flags start) (in_accepted h) n) where
  flagged_more : (r : Result (Unit {0}) Refusal) → Flag number flags r flags' → in_flags flags' n ≡ union (in_flags start) (in_accepted (record { number = number; accepted = is_ok r } ∷ h)) n
  flagged_more (Err e) f = ap (λ xs. in_flags xs n) f.after ∙ t
  flagged_more (Ok x) f =
      ap (λ xs. in_flags xs n) f.after ∙
      ⊎_elim
      (λ (q : number ≡ n). ap (in_flags (set flags number true)) (sym q) ∙ get_or-set_same flags number true false (in_range number (length flags) f.answer) ∙ or_one (in_flags start n) (in_accepted h n) ∙ ap (λ b. in_flags start n || (b || in_accepted h n)) (sym (eq-eqb number n q)))
      (λ (q : number ≡ n → ⊥). get_or-set_other flags number n true false (λ z. q (sym z)) ∙ t ∙ ap (λ b. in_flags start n || (b || in_accepted h n)) (sym (ne_eqb number n q)))
      (cases_eq number n)

-- flags hold what they began with and what was flagged
pub flagged_holds : (start : List Bool) (n : ℕ) {h : List Flagging} {flags : List Bool} → Flagged start h flags → in_flags flags n ≡ union (in_flags start) (in_accepted h) n
flagged_holds start n untouched = or_none (in_flags start n)
flagged_holds start n (flagged {h = h} {r = r} p f) = flagged_more start n h (flagged_holds start n p) r f
