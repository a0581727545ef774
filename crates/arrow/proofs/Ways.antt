-- What a hint does to a leaf's own type: it leaves it, is taken as it stands, or is a dictionary that is kept.
use Rattle.std.proofs.Common.{◌≡◌, ℕ, ◌+◌, Bool, true, false, not, ◌&&◌, eqb, ◌⊎◌, List, [], ◌∷◌, ℤ, Some, None, sym, refl, ap, ◌∙◌, subst, inl, inr, arith}
use Rattle.std.proofs.lemmas.Bool.{false≢true, cases_Bool, and_parts, or_cases}
use Rattle.std.proofs.lemmas.Bool.Decides.{Decides-int_eq}
use Rattle.arrow.specs.declared.types.TimeUnit.{TimeUnit}
use Rattle.arrow.specs.declared.types.ArrowType.{ArrowType}
use Rattle.arrow.specs.declared.types.ArrowType.TheVariants as a
use Rattle.arrow.specs.declared.hint.HintRow.{HintRow}
use Rattle.arrow.specs.Same.{same, bared, meaning}
use Rattle.arrow.specs.Hints.{View, view, stamp, decimal, dictionary_seen, is_dictionary, only_child, told, takes, same_unit, zoneless, hinted}
use Rattle.arrow.specs.Laws.{scale_seen, unit_seen, scale_of, stamp_unit}
use Rattle.arrow.proofs.Meanings.{same_decides, same_refl, unit_decides}

-- What types of one meaning share.

abbrev bare_view : View → View
bare_view (stamp u z) = stamp u None
bare_view v = v

view_bared : (t : ArrowType) → view (bared t) ≡ bare_view (view t)
view_bared a.Null = refl
view_bared t = refl

view_same : (text : List ℕ) (x y : ArrowType) → meaning text x ≡ meaning text y → bare_view (view x) ≡ bare_view (view y)
view_same text x y e = sym (view_bared x) ∙ ap (λ m. view m.0) e ∙ view_bared y

dictionary_bare : (v : View) → dictionary_seen (bare_view v) ≡ dictionary_seen v
dictionary_bare (stamp u z) = refl
dictionary_bare v = refl

scale_bare : (v : View) → scale_seen (bare_view v) ≡ scale_seen v
scale_bare (stamp u z) = refl
scale_bare v = refl

unit_bare : (v : View) → unit_seen (bare_view v) ≡ unit_seen v
unit_bare (stamp u z) = refl
unit_bare v = refl

module _ (text : List ℕ) (x y : ArrowType) (e : meaning text x ≡ meaning text y) where
  pub same_dictionary : is_dictionary x ≡ is_dictionary y
  same_dictionary = sym (dictionary_bare (view x)) ∙ ap dictionary_seen (view_same text x y e) ∙ dictionary_bare (view y)

  pub same_scale : scale_of x ≡ scale_of y
  same_scale = sym (scale_bare (view x)) ∙ ap scale_seen (view_same text x y e) ∙ scale_bare (view y)

  pub same_stamp_unit : stamp_unit x ≡ stamp_unit y
  same_stamp_unit = sym (unit_bare (view x)) ∙ ap unit_seen (view_same text x y e) ∙ unit_bare (view y)

-- What a hint that is taken shares with the leaf's own type.

pub takes_scale : (fixed : Bool) (v w : View) (s : ℤ) → takes fixed v w ≡ true → scale_seen v ≡ Some s → scale_seen w ≡ Some s
takes_scale fixed (decimal b d r) (decimal c q t) s h e =
    let parts = and_parts (eqb b 128 && not (eqb c 128)) _ h in
    ap Some (sym ((Decides-int_eq r t).0 parts.1)) ∙ e
takes_scale fixed (decimal b d r) w s h e = absurd (false≢true h)
takes_scale fixed v w s h e = absurd (let q : ◌≡◌ {A = ℕ} 0 1 = cc in omega arith)

pub takes_unit : (v w : View) (u : TimeUnit) → takes true v w ≡ true → unit_seen v ≡ Some u → unit_seen w ≡ Some u
takes_unit (stamp m z) (stamp n y) u h e =
    elim (or_cases (same_unit m n && not (zoneless y)) false h) [
      | inl k ↦ ap Some (sym ((unit_decides m n).0 (and_parts (same_unit m n) (not (zoneless y)) k).0)) ∙ e
      | inr k ↦ absurd (false≢true k)
    ]
takes_unit (stamp m z) w u h e = absurd (false≢true h)
takes_unit v w u h e = absurd (let q : ◌≡◌ {A = ℕ} 0 1 = cc in omega arith)

-- Three ways.

module _ (fixed : Bool) (text : List ℕ) (own : ArrowType) where
  pub record Took (rows : List HintRow) (t : ArrowType) : Type 0 where
    pub first : HintRow
    pub rest : List HintRow
    pub rows_are : rows ≡ first ∷ rest
    pub plain : is_dictionary first.data_type ≡ false
    pub taken : takes fixed (view own) (view first.data_type) ≡ true
    pub is : t ≡ first.data_type

  pub record Kept (i : ℕ) (rows : List HintRow) (t : ArrowType) : Type 0 where
    pub first : HintRow
    pub child : HintRow
    pub rest : List HintRow
    pub rows_are : rows ≡ first ∷ (child ∷ rest)
    pub dict : is_dictionary first.data_type ≡ true
    pub means : meaning text (hinted fixed text own (i + 1) (child ∷ rest)) ≡ meaning text (told (i + 1) child)
    pub is : t ≡ a.Dictionary i

  abbrev pub Way : ℕ → List HintRow → ArrowType → Type 0
  Way i rows t = (t ≡ own) ⊎ (Took rows t ⊎ Kept i rows t)

  -- a row that is told as what it gives leaves no other way
  not_told : (i : ℕ) (child : HintRow) (rest : List HintRow) (t : ArrowType) → Way i (child ∷ rest) t → same text t (told i child) ≡ false → t ≡ own
  not_told i child rest t (inl e) h = e
  not_told i child rest t (inr (inl k)) h =
      let head : child ≡ k.first = cc in
      let plain : is_dictionary child.data_type ≡ false = ap (λ r. is_dictionary r.data_type) head ∙ k.plain in
      let e : told i child ≡ t = rw plain (ap (λ r. r.data_type) head ∙ sym k.is) in
      absurd (false≢true (sym (subst (λ v. same text t v ≡ false) e h) ∙ same_refl text t))
  not_told i child rest t (inr (inr k)) h =
      let head : child ≡ k.first = cc in
      let dict : is_dictionary child.data_type ≡ true = ap (λ r. is_dictionary r.data_type) head ∙ k.dict in
      let e : told i child ≡ t = rw dict (sym k.is) in
      absurd (false≢true (sym (subst (λ v. same text t v ≡ false) e h) ∙ same_refl text t))

  pub way : (rows : List HintRow) (i : ℕ) → Way i rows (hinted fixed text own i rows)
  way [] i = inl refl
  way (h ∷ []) i =
      elim (cases_Bool (is_dictionary h.data_type)) [
        | inl d ↦ inl (rw d refl)
        | inr d ↦ elim (cases_Bool (takes fixed (view own) (view h.data_type))) [
          | inl k ↦ inr (inl (record { first = h; rest = []; rows_are = refl; plain = d; taken = k; is = rw (d, k) refl }))
          | inr k ↦ inl (rw (d, k) refl)
        ]
      ]
  way (h ∷ (c ∷ rows)) i =
      let inner = way (c ∷ rows) (i + 1) in
      elim (cases_Bool (is_dictionary h.data_type)) [
        | inl d ↦ elim (cases_Bool (only_child h c)) [
          | inl o ↦ elim (cases_Bool (same text (hinted fixed text own (i + 1) (c ∷ rows)) (told (i + 1) c))) [
            | inl s ↦ inr (inr (record { first = h; child = c; rest = rows; rows_are = refl; dict = d; means = (same_decides text (hinted fixed text own (i + 1) (c ∷ rows)) (told (i + 1) c)).0 s; is = rw (d, o, s) refl }))
            | inr s ↦ inl (rw (d, o, s) (not_told (i + 1) c rows (hinted fixed text own (i + 1) (c ∷ rows)) inner s))
          ]
          | inr o ↦ inl (rw (d, o) refl)
        ]
        | inr d ↦ elim (cases_Bool (takes fixed (view own) (view h.data_type))) [
          | inl k ↦ inr (inl (record { first = h; rest = c ∷ rows; rows_are = refl; plain = d; taken = k; is = rw (d, k) refl }))
          | inr k ↦ inl (rw (d, k) refl)
        ]
      ]
