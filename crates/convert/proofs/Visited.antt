-- A group visited as a struct, whatever tree is said to stand there.
use Rattle.std.proofs.Common.{◌≡◌, ℕ, ◌+◌, ◌≤◌, Bool, true, false, cond, not, ◌&&◌, List, [], ◌∷◌, ◌++◌, length, Ok, Err, Option, Result, sym, refl, ap, ◌∙◌, subst, arith}
use Rattle.tree.specs.Forest.{Forest}
use Rattle.tree.specs.Forest.Forest.{plant}
use Rattle.schema.specs.declared.basic.Annotation.{Annotation}
use Rattle.schema.specs.declared.basic.Repetition.{Repetition}
use Rattle.schema.specs.declared.basic.Repetition.TheVariants.{Optional as optional, Repeated as repeated, Required as required}
use Rattle.schema.specs.declared.element.Element.{Element}
use Rattle.schema.specs.declared.element.Kind.{Kind}
use Rattle.schema.specs.declared.element.Kind.TheVariants.{Group as group}
use Rattle.schema.specs.declared.refusal.Refusal.{Refusal}
use Rattle.arrow.specs.declared.row.ResultRow.{ResultRow}
use Rattle.walk.specs.Forests.{trees}
use Rattle.walk.specs.Labels.{is_leaf, is_repeated, leaf_count, or_required}
use Rattle.walk.specs.Hints.{Hint, inside}
use Rattle.walk.specs.Handing.{unwrap}
use Rattle.walk.specs.Faults.{wrap_checks, struct_checks}
use Rattle.walk.specs.Shape.{raised}
use Rattle.walk.specs.declared.role.Role.TheVariants.{Own as own}
use Rattle.walk.specs.declared.levels.Levels.{Levels}
use Rattle.convert.specs.declared.context.Cursor.{Cursor}
use Rattle.convert.specs.declared.context.Seat.{Seat}
use Rattle.convert.specs.Table.{Stands, element_at, spelled_by}
use Rattle.convert.specs.Handed.{Hinted, Passes}
use Rattle.convert.specs.Outcome.{Outcome, Told, checked}
use Rattle.convert.specs.Visit.{Input, Seats, Wrote, Meets, gives_as}
use Rattle.convert.specs.Own.{StructClosed}
use Rattle.convert.specs.Walked.{Visits, Fields, HasHint, Ready, ReadyBelow, next_leaf, gives_all}
use Rattle.convert.proofs.Trees.{read_here}
use Rattle.convert.proofs.Turns.{struct_form, struct_within}

-- ── Levels ──

pub raised_rep : (v : Levels) (r : Repetition) → (raised v r).rep ≤ v.rep + 1
raised_rep v required = omega arith
raised_rep v optional = omega arith
raised_rep v repeated = omega arith

pub raised_def : (v : Levels) (r : Repetition) → (raised v r).def ≤ v.def + 1
raised_def v required = omega arith
raised_def v optional = omega arith
raised_def v repeated = omega arith

pub once_more : (b : Bool) → cond b 1 0 ≤ 1
once_more true = omega arith
once_more false = omega arith

-- ── A struct ──

module _ (s : Input) (i : ℕ) (c : Seat) (start : Cursor) where
  abbrev here : Element
  here = element_at s.elements i

  abbrev rep : Repetition
  rep = or_required here.repetition

  abbrev alone : Bool
  alone = is_repeated rep && not c.element

  -- what is needed of its fields' visit
  abbrev pub within_ready : (room : ℕ) (levels : Levels) (head : ℕ) → Ready s.elements i c.levels start room → levels ≡ raised c.levels rep
      → head ≡ start.row + cond (is_repeated rep) 1 0 → ReadyBelow s.elements i levels (record { row = head + 1; leaf = start.leaf }) room
  within_ready room levels head h l m =
      record {
        root = h.root;
        fits = omega (arith, h.fits, m, once_more (is_repeated rep));
        few = omega (arith, h.few);
        rep_low = omega (arith, h.rep_low, raised_rep c.levels rep, ap (λ (v : Levels). v.rep) l);
        def_low = omega (arith, h.def_low, raised_def c.levels rep, ap (λ (v : Levels). v.def) l);
      }

  -- its fields' rows stand after its own
  pub within_past : (room : ℕ) → Ready s.elements i c.levels start room → (hint : Option ℕ) → HasHint s hint → (levels : Levels) (inner cursor : Cursor) (before mid : List ResultRow)
      → Fields s i levels hint inner before mid (Ok cursor) → inner.row ≤ cursor.row
  within_past room h hint (hs, p) levels inner cursor before mid f =
      let w : Wrote s.names (gives_all s (i + 1) inner.leaf levels true (inside hs) h.root.below) inner.row (inner.leaf + leaf_count (spelled_by s.names h.root.below)) before mid cursor =
      f h.root.top h.root.below h.root.after h.root.lies hs p in
      omega (arith, w.ends)

  module _ (before after : List ResultRow) (n : Option Annotation) (kind : here.kind ≡ group n) where
    at_here : (r : Result Cursor Refusal)
        → ((b next : Forest Element) → Stands s.elements i (plant here b next) → (t : Told) → Seats s c t
        → Meets s.names (gives_as s (Ok own) i start.leaf c t here b) start.row (start.leaf + leaf_count (spelled_by s.names b)) before after r)
        → Visits s i c start before after r
    at_here r f e b m q t st =
        let p = read_here s.elements i e b m q in
        subst (λ (x : Element). Meets s.names (gives_as s (Ok own) i start.leaf c t x b) start.row (next_leaf s.names start.leaf x b) before after r) p
        (subst (λ (z : ℕ). Meets s.names (gives_as s (Ok own) i start.leaf c t here b) start.row z before after r)
        (ap (λ (y : Kind). start.leaf + cond (is_leaf y) 1 (leaf_count (spelled_by s.names b))) (sym kind))
        (f b m (subst (λ (x : Element). Stands s.elements i (plant x b m)) (sym p) q) t st))

    module _ (w : Bool) (w-is : w ≡ alone) where
      -- its hint is no list
      pub struct_misfit : (x : Refusal) → ((bytes : List ℕ) (hs : Forest Hint) → Hinted s.hints bytes c.hint hs → wrap_checks i w hs ≡ x ∷ []) → Visits s i c start before after (Err x)
      struct_misfit x f =
          at_here (Err x) (λ b m q t st.
          struct_form s c t st i start.leaf here n kind b
          ∙ ap (λ (l : List Refusal). checked (l ++ struct_checks i (unwrap alone t.hint) (trees b))
          (struct_within s c t st i start.leaf here n kind b (raised c.levels rep) (gives_all s (i + 1) start.leaf (raised c.levels rep) true (inside (unwrap alone t.hint)) b)))
          (ap (λ (y : Bool). wrap_checks i y t.hint) (sym w-is) ∙ f s.text t.hint st.hint))

      module _ (hint : Option ℕ) (f : (bytes : List ℕ) (hs : Forest Hint) → Hinted s.hints bytes c.hint hs → (wrap_checks i w hs ≡ []) × Hinted s.hints bytes hint (unwrap w hs)) where
        abbrev pub within_hinted : HasHint s c.hint → HasHint s hint
        within_hinted (hs, p) = (unwrap w hs, (f s.text hs p).1)

        -- what is left where the hint is unwrapped
        unwrapped_form : (t : Told) (st : Seats s c t) (b : Forest Element) → gives_as s (Ok own) i start.leaf c t here b
            ≡ checked (struct_checks i (unwrap w t.hint) (trees b))
            (struct_within s c t st i start.leaf here n kind b (raised c.levels rep) (gives_all s (i + 1) start.leaf (raised c.levels rep) true (inside (unwrap w t.hint)) b))
        unwrapped_form t st b =
            struct_form s c t st i start.leaf here n kind b
            ∙ ap (λ (y : Bool). checked (wrap_checks i y t.hint ++ struct_checks i (unwrap y t.hint) (trees b))
            (struct_within s c t st i start.leaf here n kind b (raised c.levels rep) (gives_all s (i + 1) start.leaf (raised c.levels rep) true (inside (unwrap y t.hint)) b))) (sym w-is)
            ∙ ap (λ (l : List Refusal). checked (l ++ struct_checks i (unwrap w t.hint) (trees b))
            (struct_within s c t st i start.leaf here n kind b (raised c.levels rep) (gives_all s (i + 1) start.leaf (raised c.levels rep) true (inside (unwrap w t.hint)) b)))
            (f s.text t.hint st.hint).0

        -- it is no struct, or of another number of fields
        pub struct_other : (x : Refusal)
            → ((e : Element) (b m : Forest Element) → Stands s.elements i (plant e b m) → (hs : Forest Hint) → Hinted s.hints s.text hint hs → Passes (struct_checks i hs (trees b)) (Err x))
            → Visits s i c start before after (Err x)
        struct_other x g =
            at_here (Err x) (λ b m q t st.
            let z = g here b m q (unwrap w t.hint) (f s.text t.hint st.hint).1 in
            unwrapped_form t st b
            ∙ ap (λ (l : List Refusal). checked l
            (struct_within s c t st i start.leaf here n kind b (raised c.levels rep) (gives_all s (i + 1) start.leaf (raised c.levels rep) true (inside (unwrap w t.hint)) b))) z.1)

        module _ (g : (e : Element) (b m : Forest Element) → Stands s.elements i (plant e b m) → (hs : Forest Hint) → Hinted s.hints s.text hint hs → struct_checks i hs (trees b) ≡ [])
            (levels : Levels) (l : levels ≡ raised c.levels rep) (head : ℕ) (h : head ≡ start.row + cond (is_repeated rep) 1 0) where
          checked_form : (t : Told) (st : Seats s c t) (b m : Forest Element) → Stands s.elements i (plant here b m) → gives_as s (Ok own) i start.leaf c t here b
              ≡ struct_within s c t st i start.leaf here n kind b levels (gives_all s (i + 1) start.leaf levels true (inside (unwrap w t.hint)) b)
          checked_form t st b m q =
              unwrapped_form t st b
              ∙ ap (λ (k : List Refusal). checked k
              (struct_within s c t st i start.leaf here n kind b (raised c.levels rep) (gives_all s (i + 1) start.leaf (raised c.levels rep) true (inside (unwrap w t.hint)) b)))
              (g here b m q (unwrap w t.hint) (f s.text t.hint st.hint).1)
              ∙ ap (λ (v : Levels). struct_within s c t st i start.leaf here n kind b v (gives_all s (i + 1) start.leaf v true (inside (unwrap w t.hint)) b)) (sym l)

          within_err : (t : Told) (st : Seats s c t) (b : Forest Element) (v : Levels) (r : Repetition) → or_required here.repetition ≡ r → (x : Refusal)
              → struct_within s c t st i start.leaf here n kind b v (Err x) ≡ Err x
          within_err t st b v required p x = rw p refl
          within_err t st b v optional p x = rw p refl
          within_err t st b v repeated p x = rw p refl

          -- a field is refused
          pub struct_broken : (x : Refusal) → Fields s i levels hint (record { row = head + 1; leaf = start.leaf }) before after (Err x) → Visits s i c start before after (Err x)
          struct_broken x k =
              at_here (Err x) (λ b m q t st.
              checked_form t st b m q
              ∙ ap (struct_within s c t st i start.leaf here n kind b levels) (k here b m q (unwrap w t.hint) (f s.text t.hint st.hint).1)
              ∙ within_err t st b levels rep refl x)

          pub struct_done : (mid : List ResultRow) (cursor r : Cursor) → length before ≡ length mid
              → Fields s i levels hint (record { row = head + 1; leaf = start.leaf }) before mid (Ok cursor) → StructClosed s.hints here c levels start.row cursor mid after r
              → Visits s i c start before after (Ok r)
          struct_done mid cursor r y k z =
              at_here (Ok r) (λ b m q t st.
              subst (λ (o : Outcome). Wrote s.names o start.row (start.leaf + leaf_count (spelled_by s.names b)) before after r) (sym (checked_form t st b m q))
              (z s.text s.names t.hint st.hint (gives_all s (i + 1) start.leaf levels true (inside (unwrap w t.hint)) b) (start.leaf + leaf_count (spelled_by s.names b)) before y
              (subst (λ (p : ℕ). Wrote s.names (gives_all s (i + 1) start.leaf levels true (inside (unwrap w t.hint)) b) (p + 1) (start.leaf + leaf_count (spelled_by s.names b)) before mid cursor) h
              (k here b m q (unwrap w t.hint) (f s.text t.hint st.hint).1))))
