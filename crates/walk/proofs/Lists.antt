-- Lists and forests, whatever they hold.
use Rattle.schema.specs.declared.refusal.Refusal.{Refusal}
use Rattle.std.proofs.Common.{Ok, Err, Result, ◌≡◌, ℕ, suc, max, ◌+◌, Bool, true, false, cond, List, [], ◌∷◌, ◌++◌, map, length, filter, sym, refl, ap, ◌∙◌, ap₂, append_assoc, length-append}
use Rattle.std.proofs.lemmas.List.Elements.{filter-append}
use Rattle.std.specs.List.{AllByRecursion}
use mathlib.Core.List.{map-append}
use lib.ListN.{length-map}
use Rattle.walk.specs.Forests.{Spot, Way, beside, height, relabel, spots, straight, under, ways}
use Rattle.walk.specs.Shape.{both_sides}
use Rattle.walk.specs.declared.role.Role.{Role}
use Rattle.walk.specs.declared.role.Role.TheVariants.{Entries as entries, Listed as listed, Mapped as mapped, Middle as middle, Own as own}
use Rattle.walk.specs.Laws.{Paired}
use Rattle.tree.specs.Forest.{Forest, count, listing}
use Rattle.tree.specs.Forest.Forest.{bare, plant}

pub map_square : {A B C D : Type 0} (f : B → D) (g : A → B) (h : C → D) (k : A → C) → ((x : A) → f (g x) ≡ h (k x)) → (xs : List A)
    → map f (map g xs) ≡ map h (map k xs)
map_square f g h k e [] = refl
map_square f g h k e (x ∷ xs) = λ i. e x i ∷ map_square f g h k e xs i

module _ {A B : Type 0} (p : B → Bool) (q : A → Bool) (f : A → B) where
  kept_go : (x : A) (bs : List B) (us : List A) → bs ≡ map f us → (b : Bool) → cond b (f x ∷ bs) bs ≡ map f (cond b (x ∷ us) us)
  kept_go x bs us e true = ap {B = List B} (λ r. f x ∷ r) e
  kept_go x bs us e false = e

  pub kept_by_map : ((x : A) → p (f x) ≡ q x) → (xs : List A) → filter p (map f xs) ≡ map f (filter q xs)
  kept_by_map h [] = refl
  kept_by_map h (x ∷ xs) = rw (h x) (kept_go x (filter p (map f xs)) (filter q xs) (kept_by_map h xs) (q x))

pub kept_by_none : {A B : Type 0} (p : B → Bool) (f : A → B) → ((x : A) → p (f x) ≡ false) → (xs : List A) → filter p (map f xs) ≡ []
kept_by_none p f h [] = refl
kept_by_none p f h (x ∷ xs) = rw (h x) (kept_by_none p f h xs)

pub ways_beside : {A : Type 0} (is : A → Bool) (f g : Forest A) → ways is (beside f g) ≡ ways is f ++ ways is g
ways_beside is bare g = refl
ways_beside {A} is (plant a below after) g =
    ap (λ (r : List (Way A)). cond (is a) (straight a ∷ []) (map (under a) (ways is below)) ++ r) (ways_beside is after g)
    ∙ sym (append_assoc (cond (is a) (straight a ∷ []) (map (under a) (ways is below))) (ways is after) (ways is g))

pub map_twice : {A B C : Type 0} (f : B → C) (g : A → B) (h : A → C) → ((x : A) → f (g x) ≡ h x) → (xs : List A) → map f (map g xs) ≡ map h xs
map_twice f g h e [] = refl
map_twice f g h e (x ∷ xs) = λ i. e x i ∷ map_twice f g h e xs i

pub paired_map : {A B C : Type 0} (f : A → B) (R : B → C → Type 0) (xs : List A) (ys : List C) → Paired (λ x y. R (f x) y) xs ys → Paired R (map f xs) ys
paired_map f R [] [] p = tt
paired_map f R [] (y ∷ ys) p = p
paired_map f R (x ∷ xs) [] p = p
paired_map f R (x ∷ xs) (y ∷ ys) p = (p.0, paired_map f R xs ys p.1)

pub listing_relabel : {A B : Type 0} (f : A → B) (g : Forest A) → listing (relabel f g) ≡ map f (listing g)
listing_relabel f bare = refl
listing_relabel {A} {B} f (plant a below after) =
    ap {B = List B} (λ (l : List B). f a ∷ l)
    (ap₂ (λ (x y : List B). x ++ y) (listing_relabel f below) (listing_relabel f after) ∙ sym (map-append f (listing below) (listing after)))

pub count_plant : {A : Type 0} (a : A) (below after : Forest A) → count (plant a below after) ≡ suc (count below + count after)
count_plant a below after = ap suc (length-append (listing below) (listing after))

pub count_relabel : {A B : Type 0} (f : A → B) (g : Forest A) → count (relabel f g) ≡ count g
count_relabel f g = ap length (listing_relabel f g) ∙ length-map (listing g) f

pub height_relabel : {A B : Type 0} (f : A → B) (g : Forest A) → height (relabel f g) ≡ height g
height_relabel f bare = refl
height_relabel f (plant a below after) = ap₂ (λ (x y : ℕ). max (suc x) y) (height_relabel f below) (height_relabel f after)

pub relabel_spots : {A B : Type 0} (g : A → B) (f : Forest A) → relabel (λ (p : Spot A). g p.node) (spots f) ≡ relabel g f
relabel_spots g bare = refl
relabel_spots g (plant a below after) = λ i. plant (g a) (relabel_spots g below i) (relabel_spots g after i)

-- ── What holds of each of a list ──

-- The standard library has the first of these only in a file that is marked for deletion.

module _ {A : Type 0} (P : A → Type 0) where
  pub all_append : (xs ys : List A) → AllByRecursion P xs → AllByRecursion P ys → AllByRecursion P (xs ++ ys)
  all_append [] ys a b = b
  all_append (x ∷ xs) ys a b = (a.0, all_append xs ys a.1 b)

  pub all_front : (xs ys : List A) → AllByRecursion P (xs ++ ys) → AllByRecursion P xs
  all_front [] ys a = tt
  all_front (x ∷ xs) ys a = (a.0, all_front xs ys a.1)

  pub all_back : (xs ys : List A) → AllByRecursion P (xs ++ ys) → AllByRecursion P ys
  all_back [] ys a = a
  all_back (x ∷ xs) ys a = all_back xs ys a.1

-- ── The ends of ways ──

-- nothing lies below a leaf
abbrev pub Ends : {A : Type 0} → (A → Bool) → Forest A → Type 0
Ends is bare = Unit {0}
Ends is (plant a below after) = (is a ≡ true → below ≡ bare) × Ends is below × Ends is after

module _ {A : Type 0} (is : A → Bool) where
  pub ends_listing : (f : Forest A) → Ends is f → map (λ (w : Way A). w.end) (ways is f) ≡ filter is (listing f)
  ends_listing bare t = refl
  ends_listing (plant r below after) t =
      map-append (λ (w : Way A). w.end) (cond (is r) (straight r ∷ []) (map (under r) (ways is below))) (ways is after)
      ∙ go (is r) t.0 (ends_listing below t.1) (ends_listing after t.2)
      ∙ ap (λ (l : List A). cond (is r) (r ∷ l) l) (sym (filter-append is (listing below) (listing after)))
    where
      go : (b : Bool) → (b ≡ true → below ≡ bare) → map (λ (w : Way A). w.end) (ways is below) ≡ filter is (listing below)
          → map (λ (w : Way A). w.end) (ways is after) ≡ filter is (listing after)
          → map (λ (w : Way A). w.end) (cond b (straight r ∷ []) (map (under r) (ways is below))) ++ map (λ (w : Way A). w.end) (ways is after)
          ≡ cond b (r ∷ (filter is (listing below) ++ filter is (listing after))) (filter is (listing below) ++ filter is (listing after))
      go true e p q = ap₂ (λ (f : Forest A) (l : List A). r ∷ (filter is (listing f) ++ l)) (sym (e refl)) q
      go false e p q =
          ap₂ (λ (x y : List A). x ++ y) (map_twice (λ (w : Way A). w.end) (under r) (λ (w : Way A). w.end) (λ w. refl) (ways is below) ∙ p) q

-- ── A map's two sides ──

-- what holds of rows and of no rows holds of them also where a map leaves them out
pub sides_either : {A : Type 0} (P : Forest A → Type 0) (role : Result Role Refusal) (both : Bool) (f : Forest A) → P f → P bare → P (both_sides role both f)
sides_either P (Ok own) both f p q = p
sides_either P (Ok listed) both f p q = p
sides_either P (Ok middle) both f p q = p
sides_either P (Ok entries) both f p q = p
sides_either P (Err n) both f p q = p
sides_either P (Ok mapped) true f p q = p
sides_either P (Ok mapped) false f p q = q
