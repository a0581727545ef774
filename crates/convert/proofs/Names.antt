-- Names compared, byte by byte.
use Rattle.std.proofs.Common.{◌≡◌, ℕ, ◌+◌, Bool, true, false, ◌&&◌, ◌||◌, eqb, List, [], ◌∷◌, ◌++◌, length, take, drop, codes, None, Some, Option, Bor, sym, refl, ap, ◌∙◌, ap₂}
use Rattle.std.proofs.Math.Bool.{and_assoc}
use Rattle.std.specs.Option.{MatchOption}
use Rattle.std.specs.Str.{bytes_eq}
use Rattle.walk.specs.Reading.{names_element}

same_parts : (xs ys zs : List ℕ) → bytes_eq xs (ys ++ zs) ≡ (bytes_eq (take (length ys) xs) ys && bytes_eq (drop (length ys) xs) zs)
same_parts xs [] zs = refl
same_parts [] (y ∷ ys) zs = refl
same_parts (x ∷ xs) (y ∷ ys) zs = ap (λ (b : Bool). eqb x y && b) (same_parts xs ys zs) ∙ sym (and_assoc (eqb x y) (bytes_eq (take (length ys) xs) ys) (bytes_eq (drop (length ys) xs) zs))

-- a name that is not `array`, by what is left of it after the group's
module _ (group name : List ℕ) (other : bytes_eq name (codes "array") ≡ false) where
  told : (b c : Bool) → bytes_eq (take (length group) name) group ≡ b → bytes_eq (drop (length group) name) (codes "_tuple") ≡ c → (b && c) ≡ names_element group name
  told b c e f = sym (ap₂ (λ (x y : Bool). x || y) other (same_parts name group (codes "_tuple") ∙ ap₂ (λ (x y : Bool). x && y) e f))

  pub by_rest : (o : Option (Bor (List ℕ))) → MatchOption o (bytes_eq (take (length group) name) group ≡ false) (λ x. (bytes_eq (take (length group) name) group ≡ true) × (x.now ≡ drop (length group) name) × (length x.now + length group ≡ length name))
      → (r : Bool) → MatchOption o (r ≡ false) (λ x. r ≡ bytes_eq x.now (codes "_tuple")) → r ≡ names_element group name
  by_rest None m r n = n ∙ told false (bytes_eq (drop (length group) name) (codes "_tuple")) m refl
  by_rest (Some x) (a, b, l) r n = n ∙ told true (bytes_eq x.now (codes "_tuple")) a (ap (λ (y : List ℕ). bytes_eq y (codes "_tuple")) (sym b))
