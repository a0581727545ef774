-- What the elements of a path say of its levels.
use Rattle.std.proofs.Common.{◌≡◌, ℕ, suc, ◌+◌, ◌<◌, ◌≤◌, Bool, false, cond, eqb, ◌⊎◌, List, [], ◌∷◌, ◌++◌, filter, refl, ap, ◌∙◌, inl, inr, arith}
use Rattle.std.proofs.lemmas.Bool.{eq-eqb, ne_eqb, cases_eq}
use Rattle.walk.proofs.Follow.{levels_from, openings_from, readings_from}
use Rattle.walk.specs.Levels.{Meaning, Means, Opens, Says, definition_level, repetition_level}
use Rattle.walk.specs.Levels.Meaning.{absent, no_items}
use Rattle.walk.specs.Shape.{raised}
use Rattle.walk.specs.declared.levels.Levels.{Levels}
use Rattle.schema.specs.declared.basic.Repetition.{Repetition}
use Rattle.schema.specs.declared.basic.Repetition.TheVariants.{Optional as optional, Repeated as repeated, Required as required}

pub rep_from : (v : Levels) (rs : List Repetition) → (levels_from v rs).rep ≡ v.rep + repetition_level rs
rep_from v [] = omega arith
rep_from v (required ∷ rs) = rep_from v rs
rep_from v (optional ∷ rs) = rep_from (raised v optional) rs
rep_from v (repeated ∷ rs) = omega (arith, rep_from (raised v repeated) rs)

pub def_from : (v : Levels) (rs : List Repetition) → (levels_from v rs).def ≡ v.def + definition_level rs
def_from v [] = omega arith
def_from v (required ∷ rs) = def_from v rs
def_from v (optional ∷ rs) = omega (arith, def_from (raised v optional) rs)
def_from v (repeated ∷ rs) = omega (arith, def_from (raised v repeated) rs)

-- ── Definition levels ──

abbrev pub of_level : ℕ → Means → Bool
of_level d z = eqb z.level d

abbrev pub means : ℕ → Meaning → Means
means d m = record { level = d; meaning = m }

-- a level below the first one read
past : (d n : ℕ) (rs : List Repetition) → d < n → filter (of_level d) (readings_from n rs) ≡ []
past d n [] h = refl
past d n (required ∷ rs) h = past d n rs h
past d n (optional ∷ rs) h =
    let e : eqb n d ≡ false = ne_eqb n d (λ e. omega arith) in rw e (past d (suc n) rs (omega arith))
past d n (repeated ∷ rs) h =
    let e : eqb n d ≡ false = ne_eqb n d (λ e. omega arith) in rw e (past d (suc n) rs (omega arith))

pub record Found (n : ℕ) (rs : List Repetition) (d : ℕ) : Type 0 where
  pub meaning : Meaning
  pub before : List Repetition
  pub here : Repetition
  pub after : List Repetition
  pub splits : rs ≡ before ++ here ∷ after
  pub level : n + definition_level before ≡ d
  pub says : Says here meaning
  pub sole : filter (of_level d) (readings_from n rs) ≡ means d meaning ∷ []

-- a level found further on
found_later : (n m : ℕ) (r : Repetition) (rs : List Repetition) (d : ℕ) → ((bs : List Repetition) → n + definition_level (r ∷ bs) ≡ m + definition_level bs)
    → filter (of_level d) (readings_from n (r ∷ rs)) ≡ filter (of_level d) (readings_from m rs) → Found m rs d → Found n (r ∷ rs) d
found_later n m r rs d c e f =
    record {
      meaning = f.meaning;
      before = r ∷ f.before;
      here = f.here;
      after = f.after;
      splits = ap {B = List Repetition} (λ l. r ∷ l) f.splits;
      level = c f.before ∙ f.level;
      says = f.says;
      sole = e ∙ f.sole;
    }

-- the element before the others reads one level, and a level is found at it or further on
level_found : (n d : ℕ) (r : Repetition) (m : Meaning) (rs : List Repetition) → Says r m
    → filter (of_level d) (readings_from n (r ∷ rs)) ≡ cond (eqb n d) (means n m ∷ filter (of_level d) (readings_from (suc n) rs)) (filter (of_level d) (readings_from (suc n) rs))
    → ((bs : List Repetition) → definition_level (r ∷ bs) ≡ suc (definition_level bs))
    → n ≤ d → (suc n ≤ d → Found (suc n) rs d) → Found n (r ∷ rs) d
level_found n d r m rs t k c h more = go (cases_eq n d)
  where
    go : (n ≡ d) ⊎ (n ≡ d → ⊥) → Found n (r ∷ rs) d
    go (inl e) =
        record {
          meaning = m;
          before = [];
          here = r;
          after = rs;
          splits = refl;
          level = omega arith;
          says = t;
          sole = k ∙ rw (eq-eqb n d e) (λ i. means (e i) m ∷ past d (suc n) rs (omega arith) i);
        }
    go (inr e) = found_later n (suc n) r rs d (λ bs. omega (arith, c bs)) (k ∙ rw (ne_eqb n d e) refl) (more (omega arith))

pub found : (n : ℕ) (rs : List Repetition) (d : ℕ) → n ≤ d → d < n + definition_level rs → Found n rs d
found n [] d h k = absurd (omega arith)
found n (required ∷ rs) d h k = found_later n n required rs d (λ bs. refl) refl (found n rs d h k)
found n (optional ∷ rs) d h k = level_found n d optional absent rs refl refl (λ bs. refl) h (λ l. found (suc n) rs d l (omega arith))
found n (repeated ∷ rs) d h k = level_found n d repeated no_items rs refl refl (λ bs. refl) h (λ l. found (suc n) rs d l (omega arith))

-- ── Repetition levels ──

abbrev pub of_opening : ℕ → Opens → Bool
of_opening r z = eqb z.level r

abbrev pub opening : ℕ → ℕ → Opens
opening r d = record { level = r; stands = d }

past_open : (r : ℕ) (v : Levels) (rs : List Repetition) → r ≤ v.rep → filter (of_opening r) (openings_from v rs) ≡ []
past_open r v [] h = refl
past_open r v (required ∷ rs) h = past_open r v rs h
past_open r v (optional ∷ rs) h = past_open r (raised v optional) rs h
past_open r v (repeated ∷ rs) h =
    let e : eqb (suc v.rep) r ≡ false = ne_eqb (suc v.rep) r (λ e. omega arith) in
    rw e (past_open r (raised v repeated) rs (omega arith))

pub record Opened (v : Levels) (rs : List Repetition) (r : ℕ) : Type 0 where
  pub stands : ℕ
  pub before : List Repetition
  pub after : List Repetition
  pub splits : rs ≡ before ++ repeated ∷ after
  pub level : suc (v.rep + repetition_level before) ≡ r
  pub depth : suc (v.def + definition_level before) ≡ stands
  pub sole : filter (of_opening r) (openings_from v rs) ≡ opening r stands ∷ []

-- an opening found further on, below levels w
opened_later : (v w : Levels) (q : Repetition) (rs : List Repetition) (r : ℕ) → ((bs : List Repetition) → v.rep + repetition_level (q ∷ bs) ≡ w.rep + repetition_level bs)
    → ((bs : List Repetition) → v.def + definition_level (q ∷ bs) ≡ w.def + definition_level bs)
    → filter (of_opening r) (openings_from v (q ∷ rs)) ≡ filter (of_opening r) (openings_from w rs) → Opened w rs r → Opened v (q ∷ rs) r
opened_later v w q rs r a b e f =
    record {
      stands = f.stands;
      before = q ∷ f.before;
      after = f.after;
      splits = ap {B = List Repetition} (λ l. q ∷ l) f.splits;
      level = ap suc (a f.before) ∙ f.level;
      depth = ap suc (b f.before) ∙ f.depth;
      sole = e ∙ f.sole;
    }

pub opened : (v : Levels) (rs : List Repetition) (r : ℕ) → v.rep < r → r ≤ v.rep + repetition_level rs → Opened v rs r
opened v [] r h k = absurd (omega arith)
opened v (required ∷ rs) r h k = opened_later v v required rs r (λ bs. refl) (λ bs. refl) refl (opened v rs r h k)
opened v (optional ∷ rs) r h k = opened_later v (raised v optional) optional rs r (λ bs. refl) (λ bs. omega arith) refl (opened (raised v optional) rs r h k)
opened v (repeated ∷ rs) r h k = go (cases_eq (suc v.rep) r) (opened (raised v repeated) rs r)
  where
    go : (suc v.rep ≡ r) ⊎ (suc v.rep ≡ r → ⊥) → (suc v.rep < r → r ≤ suc v.rep + repetition_level rs → Opened (raised v repeated) rs r) → Opened v (repeated ∷ rs) r
    go (inl e) ih =
        record {
          stands = suc v.def;
          before = [];
          after = rs;
          splits = refl;
          level = omega arith;
          depth = omega arith;
          sole = rw (eq-eqb (suc v.rep) r e) (λ i. opening (e i) (suc v.def) ∷ past_open r (raised v repeated) rs (omega arith) i);
        }
    go (inr e) ih =
        opened_later v (raised v repeated) repeated rs r (λ bs. omega arith) (λ bs. omega arith) (rw (ne_eqb (suc v.rep) r e) refl) (ih (omega arith) (omega arith))
