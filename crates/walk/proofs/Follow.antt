-- The ways of the rows follow the paths of the schema: one equation between lists, by induction over the schema.
use Rattle.std.proofs.Common.{◌≡◌, ℕ, suc, Bool, true, false, cond, not, ◌&&◌, List, [], ◌∷◌, ◌++◌, map, ℤ, filter, Option, sym, refl, ap, ◌∙◌, ap₂, append_assoc, append-nil, Ok, Err, Result}
use Rattle.std.proofs.lemmas.List.{map-id}
use Rattle.std.proofs.lemmas.List.Concat.{flat_map-append}
use Rattle.std.proofs.lemmas.Bool.{or_parts}
use mathlib.Core.List.{map-append}
use Rattle.std.specs.List.{flat_map}
use Rattle.std.proofs.lemmas.List.Elements.{filter-append}
use Rattle.walk.proofs.Lists.{kept_by_map, kept_by_none, map_square, map_twice, ways_beside}
use Rattle.walk.specs.Forests.{Spot, Way, along, over, spots, straight, under, ways}
use Rattle.walk.specs.Hints.{Given}
use Rattle.walk.specs.Labels.{is_leaf}
use Rattle.walk.specs.Levels.{Means, Opens, clear, kept_leaf, leaf_row_at, leaf_spot, less, opens, path, reads, row_leaf}
use Rattle.walk.specs.Levels.Meaning.{absent, no_items}
use Rattle.walk.specs.Reading.{Holder, Part, Read}
use Rattle.walk.specs.Shape.{Items, Made, Row, both_sides, element_rows, group_rows, has_own, items_of, leaf_part, passes_null, raised, shape, wrap}
use Rattle.walk.specs.Shape.Items.{of_list}
use Rattle.walk.specs.Yields.{both_yield, half_by, half_taken, some_yield, yields_by}
use Rattle.walk.specs.declared.levels.Levels.{Levels}
use Rattle.schema.specs.declared.refusal.Refusal.{Refusal}
use Rattle.walk.specs.declared.role.Role.{Role}
use Rattle.walk.specs.declared.role.Role.TheVariants.{Entries as entries, Listed as listed, Mapped as mapped, Middle as middle, Own as own}
use Rattle.schema.specs.declared.basic.Annotation.{Annotation}
use Rattle.schema.specs.declared.basic.Repetition.{Repetition}
use Rattle.schema.specs.declared.basic.Repetition.TheVariants.{Optional as optional, Repeated as repeated, Required as required}
use Rattle.schema.specs.declared.element.Kind.{Kind}
use Rattle.schema.specs.declared.element.Kind.TheVariants.{Group as group, Leaf as leaf}
use Rattle.tree.specs.Forest.{Forest}
use Rattle.tree.specs.Forest.Forest.{bare, plant}

abbrev pub made_leaf : Made → Bool
made_leaf r = row_leaf r.row

abbrev pub made_reads : Made → List Means
made_reads r = reads r.row

abbrev pub made_opens : Made → List Opens
made_opens r = opens r.row

-- what a way of rows says in sum
pub record Sum : Type 0 where
  pub row : Row
  pub reads : List Means
  pub opens : List Opens

abbrev pub sum_of : Way Made → Sum
sum_of w = record { row = w.end.row; reads = flat_map made_reads (along w); opens = flat_map made_opens (along w) }

abbrev pub prefixed : List Made → Sum → Sum
prefixed rs s = record { row = s.row; reads = flat_map made_reads rs ++ s.reads; opens = flat_map made_opens rs ++ s.opens }

abbrev pub under_all : List Made → Way Made → Way Made
under_all rs w = record { above = rs ++ w.above; end = w.end }

-- the same by the path, from the levels of what is above it
abbrev pub levels_from : Levels → List Repetition → Levels
levels_from v [] = v
levels_from v (r ∷ rs) = levels_from (raised v r) rs

abbrev pub readings_from : ℕ → List Repetition → List Means
readings_from d [] = []
readings_from d (required ∷ rs) = readings_from d rs
readings_from d (optional ∷ rs) = record { level = d; meaning = absent } ∷ readings_from (suc d) rs
readings_from d (repeated ∷ rs) = record { level = d; meaning = no_items } ∷ readings_from (suc d) rs

abbrev pub openings_from : Levels → List Repetition → List Opens
openings_from v [] = []
openings_from v (required ∷ rs) = openings_from v rs
openings_from v (optional ∷ rs) = openings_from (raised v optional) rs
openings_from v (repeated ∷ rs) = record { level = suc v.rep; stands = suc v.def } ∷ openings_from (raised v repeated) rs

abbrev pub owed_part : Bool → ℕ → List Means
owed_part false d = []
owed_part true d = record { level = less d; meaning = absent } ∷ []

abbrev pub fact : Levels → Bool → Way (Spot Read) → Sum
fact v p q = record {
  row = leaf_row_at q.end.node.of (levels_from v (path q));
  reads = owed_part p v.def ++ readings_from v.def (path q);
  opens = openings_from v (path q);
}

-- Where a group's being absent is owed, what is below it is repeated.
abbrev pub Owing : Bool → Forest Read → Type 0
Owing p bare = Unit {0}
Owing p (plant x below after) =
    (p ≡ true → x.of.repetition ≡ repeated) × Owing (passes_null (has_own x.role) x.of.repetition) below × Owing p after

-- ── Rows round rows ──

abbrev pub Groups : List Made → Type 0
Groups [] = Unit {0}
Groups (r ∷ rs) = (made_leaf r ≡ false) × Groups rs

ways_over : (rs : List Made) → Groups rs → (f : Forest Made) → ways made_leaf (over rs f) ≡ map (under_all rs) (ways made_leaf f)
ways_over rs g bare = refl
ways_over [] g (plant a below after) = sym (map-id (ways made_leaf (plant a below after)))
ways_over (r ∷ rs) g (plant a below after) =
    rw g.0
    (append-nil _
    ∙ ap (map (under r)) (ways_over rs g.1 (plant a below after))
    ∙ map_twice (under r) (under_all rs) (under_all (r ∷ rs)) (λ w. refl) (ways made_leaf (plant a below after)))

sum_under : (rs : List Made) (w : Way Made) → sum_of (under_all rs w) ≡ prefixed rs (sum_of w)
sum_under rs w =
    let e : along (under_all rs w) ≡ rs ++ along w = append_assoc rs w.above (w.end ∷ []) in
    λ i. record {
      row = w.end.row;
      reads = (ap (flat_map made_reads) e ∙ flat_map-append made_reads rs (along w)) i;
      opens = (ap (flat_map made_opens) e ∙ flat_map-append made_opens rs (along w)) i;
    }

-- the sums of the ways of a forest with rows round it
pub sums_over : (rs : List Made) → Groups rs → (f : Forest Made)
    → map sum_of (ways made_leaf (over rs f)) ≡ map (prefixed rs) (map sum_of (ways made_leaf f))
sums_over rs g f =
    ap (map sum_of) (ways_over rs g f) ∙ map_square sum_of (under_all rs) (prefixed rs) sum_of (sum_under rs) (ways made_leaf f)

pub groups_of : (x : Read) (i : Items) (o : Bool) (r : Repetition) (v : Levels) (p : Bool) → Groups (group_rows x i o r v p)
groups_of x i false required v p = tt
groups_of x i true required v p = (refl, tt)
groups_of x i false optional v p = tt
groups_of x i true optional v p = (refl, tt)
groups_of x i false repeated v p = (refl, tt)
groups_of x i true repeated v p = (refl, (refl, tt))

-- ── One element ──

-- what a label holds besides
record Aside : Type 0 where
  pub name : List ℕ
  pub field_id : Option ℤ
  pub part : Part
  pub holder : Holder
  pub given : Given

abbrev made : ℕ → ℕ → Aside → Repetition → Kind → Result Role Refusal → Read
made n l a r k role =
    record {
      of = record { number = n; leaf_number = l; name = a.name; repetition = r; field_id = a.field_id; kind = k };
      role = role;
      part = a.part;
      holder = a.holder;
      given = a.given;
    }

abbrev aside : Read → Aside
aside x = record { name = x.of.name; field_id = x.of.field_id; part = x.part; holder = x.holder; given = x.given }

abbrev place : Read → Forest Read → Spot Read
place x below = record { node = x; below = below }

module _ (n l : ℕ) (a : Aside) (k : Kind) (role : Result Role Refusal) (below : Forest Read) (v : Levels) where
  abbrev here : Repetition → Spot Read
  here r = place (made n l a r k role) below

  -- a group's rows and the path of what is below it
  step : (i : Items) (o : Bool) (r : Repetition) (p : Bool) → (p ≡ true → r ≡ repeated) → (q : Way (Spot Read))
      → prefixed (group_rows (here r).node i o r (raised v r) p) (fact (raised v r) (passes_null o r) q) ≡ fact v p (under (here r) q)
  step i false required false h q = refl
  step i true required false h q = refl
  step i false optional false h q = refl
  step i true optional false h q = refl
  step i false repeated false h q = refl
  step i true repeated false h q = refl
  step i o required true h q = let e : required ≡ repeated = h refl in cc
  step i o optional true h q = let e : optional ≡ repeated = h refl in cc
  step i false repeated true h q = refl
  step i true repeated true h q = refl

  leaf_step : (c : Bool) (r : Repetition) (p : Bool) → (p ≡ true → r ≡ repeated)
      → map sum_of (ways made_leaf (over (wrap (here r).node of_list r (raised v r) p) (leaf_part c (here r).node r (raised v r))))
      ≡ map (fact v p) (cond c (straight (here r) ∷ []) [])
  leaf_step false r p h = refl
  leaf_step true required false h = refl
  leaf_step true optional false h = refl
  leaf_step true repeated false h = refl
  leaf_step true required true h = let e : required ≡ repeated = h refl in cc
  leaf_step true optional true h = let e : optional ≡ repeated = h refl in cc
  leaf_step true repeated true h = refl

module _ (chosen : ℕ → Bool) where
  abbrev kept : Forest Read → List (Way (Spot Read))
  kept f = filter (kept_leaf chosen) (ways leaf_spot (spots f))

  abbrev node_ways : Kind → Spot Read → List (Way (Spot Read))
  node_ways k p = cond (is_leaf k) (straight p ∷ []) (map (under p) (ways leaf_spot (spots p.below)))

  -- below what is not half-taken, and below what is
  kept_under : (p : Spot Read) → half_taken chosen p ≡ false → (ws : List (Way (Spot Read)))
      → filter (kept_leaf chosen) (map (under p) ws) ≡ map (under p) (filter (kept_leaf chosen) ws)
  kept_under p h = kept_by_map (kept_leaf chosen) (kept_leaf chosen) (under p) (λ w. ap (λ (b : Bool). (not b && clear chosen w.above) && chosen w.end.node.of.leaf_number) h)

  none_under : (p : Spot Read) → half_taken chosen p ≡ true → (ws : List (Way (Spot Read))) → filter (kept_leaf chosen) (map (under p) ws) ≡ []
  none_under p h = kept_by_none (kept_leaf chosen) (under p) (λ w. ap (λ (b : Bool). (not b && clear chosen w.above) && chosen w.end.node.of.leaf_number) h)

  -- ── What does not yield has no leaf that is kept ──

  module _ (p : Spot Read) where
    abbrev some : Bool
    some = some_yield chosen p.below

    abbrev both : Bool
    both = both_yield chosen p.below

    quiet_group : (role : Result Role Refusal) → half_taken chosen p ≡ half_by role some both → (some ≡ false → kept p.below ≡ [])
        → (n : Option Annotation) → yields_by chosen (group n) role p.node.of.leaf_number some both ≡ false
        → filter (kept_leaf chosen) (map (under p) (ways leaf_spot (spots p.below))) ≡ []
    quiet_group (Ok own) e ih n y = kept_under p e (ways leaf_spot (spots p.below)) ∙ ap (map (under p)) (ih y)
    quiet_group (Ok listed) e ih n y = kept_under p e (ways leaf_spot (spots p.below)) ∙ ap (map (under p)) (ih y)
    quiet_group (Ok middle) e ih n y = kept_under p e (ways leaf_spot (spots p.below)) ∙ ap (map (under p)) (ih y)
    quiet_group (Ok entries) e ih n y = kept_under p e (ways leaf_spot (spots p.below)) ∙ ap (map (under p)) (ih y)
    quiet_group (Err m) e ih n y = kept_under p e (ways leaf_spot (spots p.below)) ∙ ap (map (under p)) (ih y)
    quiet_group (Ok mapped) e ih n y = go some both refl refl y
      where
        go : (b c : Bool) → some ≡ b → both ≡ c → (c && b) ≡ false
            → filter (kept_leaf chosen) (map (under p) (ways leaf_spot (spots p.below))) ≡ []
        go true true es ec z = cc
        go true false es ec z = none_under p (e ∙ ap₂ (λ (a b : Bool). not a && b) ec es) (ways leaf_spot (spots p.below))
        go false true es ec z =
            kept_under p (e ∙ ap₂ (λ (a b : Bool). not a && b) ec es) (ways leaf_spot (spots p.below))
            ∙ ap (map (under p)) (ih es)
        go false false es ec z =
            kept_under p (e ∙ ap₂ (λ (a b : Bool). not a && b) ec es) (ways leaf_spot (spots p.below))
            ∙ ap (map (under p)) (ih es)

    quiet_node : (k : Kind) → half_taken chosen p ≡ half_by p.node.role some both → (some ≡ false → kept p.below ≡ [])
        → yields_by chosen k p.node.role p.node.of.leaf_number some both ≡ false
        → filter (kept_leaf chosen) (node_ways k p) ≡ []
    quiet_node (leaf c) e ih y = rw y
    quiet_node (group n) e ih y = quiet_group p.node.role e ih n y

  quiet : (f : Forest Read) → some_yield chosen f ≡ false → kept f ≡ []
  quiet bare e = refl
  quiet (plant x below after) e =
      let h = or_parts _ _ e in
      filter-append (kept_leaf chosen) (node_ways x.of.kind (place x below)) (ways leaf_spot (spots after))
      ∙ ap₂ (λ (a b : List (Way (Spot Read))). a ++ b)
      (quiet_node (place x below) x.of.kind refl (quiet below) h.0) (quiet after h.1)

  -- ── The whole ──

  module _ (n l : ℕ) (a : Aside) (below : Forest Read) (v : Levels) (p : Bool) where
    abbrev inner : Result Role Refusal → Repetition → Forest Made
    inner role r = shape chosen (raised v r) (passes_null (has_own role) r) below

    abbrev node : Repetition → Kind → Result Role Refusal → Spot Read
    node r k role = place (made n l a r k role) below

    -- a group that gives rows
    loud_group : (r : Repetition) (an : Option Annotation) (role : Result Role Refusal) → half_taken chosen (node r (group an) role) ≡ false
        → (p ≡ true → r ≡ repeated)
        → map sum_of (ways made_leaf (inner role r)) ≡ map (fact (raised v r) (passes_null (has_own role) r)) (kept below)
        → map sum_of (ways made_leaf (over (group_rows (node r (group an) role).node (items_of role) (has_own role) r (raised v r) p) (inner role r)))
        ≡ map (fact v p) (filter (kept_leaf chosen) (node_ways (group an) (node r (group an) role)))
    loud_group r an role h o ih =
        sums_over (group_rows (node r (group an) role).node (items_of role) (has_own role) r (raised v r) p) (groups_of (node r (group an) role).node (items_of role) (has_own role) r (raised v r) p) (inner role r)
        ∙ ap (map (prefixed (group_rows (node r (group an) role).node (items_of role) (has_own role) r (raised v r) p))) ih
        ∙ map_square (prefixed (group_rows (node r (group an) role).node (items_of role) (has_own role) r (raised v r) p)) (fact (raised v r) (passes_null (has_own role) r))
        (fact v p) (under (node r (group an) role))
        (step n l a (group an) role below v (items_of role) (has_own role) r p o) (kept below)
        ∙ ap (map (fact v p)) (sym (kept_under (node r (group an) role) h (ways leaf_spot (spots below))))

    follow_node : (r : Repetition) (k : Kind) (role : Result Role Refusal) → (p ≡ true → r ≡ repeated)
        → map sum_of (ways made_leaf (inner role r)) ≡ map (fact (raised v r) (passes_null (has_own role) r)) (kept below)
        → map sum_of (ways made_leaf (element_rows chosen k (node r k role).node role r (raised v r) p (both_yield chosen below) (inner role r)))
        ≡ map (fact v p) (filter (kept_leaf chosen) (node_ways k (node r k role)))
    follow_node r (leaf c) role o ih = leaf_step n l a (leaf c) role below v (chosen l) r p o
    follow_node r (group an) (Ok own) o ih = loud_group r an (Ok own) refl o ih
    follow_node r (group an) (Ok listed) o ih = loud_group r an (Ok listed) refl o ih
    follow_node r (group an) (Ok middle) o ih = loud_group r an (Ok middle) refl o ih
    follow_node r (group an) (Ok entries) o ih = loud_group r an (Ok entries) refl o ih
    follow_node r (group an) (Err m) o ih = loud_group r an (Err m) refl o ih
    follow_node r (group an) (Ok mapped) o ih = go (both_yield chosen below) refl
      where
        go : (b : Bool) → both_yield chosen below ≡ b
            → map sum_of (ways made_leaf (over (group_rows (node r (group an) (Ok mapped)).node of_list false r (raised v r) p) (both_sides (Ok mapped) b (inner (Ok mapped) r))))
            ≡ map (fact v p) (filter (kept_leaf chosen) (node_ways (group an) (node r (group an) (Ok mapped))))
        go true e = loud_group r an (Ok mapped) (ap (λ (b : Bool). not b && some_yield chosen below) e) o ih
        go false e = sym (ap (map (fact v p)) (quiet_group (node r (group an) (Ok mapped)) (Ok mapped) refl (quiet below) an (ap (λ (b : Bool). b && some_yield chosen below) e)))

  pub follow : (f : Forest Read) (v : Levels) (p : Bool) → Owing p f → map sum_of (ways made_leaf (shape chosen v p f)) ≡ map (fact v p) (kept f)
  unfolding shape
  follow bare v p o = refl
  follow (plant x below after) v p o =
      let r = x.of.repetition in
      let k = x.of.kind in
      let rows = element_rows chosen k x x.role r (raised v r) p (both_yield chosen below)
      (shape chosen (raised v r) (passes_null (has_own x.role) r) below) in
      let rest = shape chosen v p after in
      ap (map sum_of) (ways_beside made_leaf rows rest)
      ∙ map-append sum_of (ways made_leaf rows) (ways made_leaf rest)
      ∙ ap₂ (λ (a b : List Sum). a ++ b)
      (follow_node x.of.number x.of.leaf_number (aside x) below v p r k x.role o.0
      (follow below (raised v r) (passes_null (has_own x.role) r) o.1))
      (follow after v p o.2)
      ∙ sym (map-append (fact v p) (filter (kept_leaf chosen) (node_ways k (place x below))) (kept after))
      ∙ ap (map (fact v p)) (sym (filter-append (kept_leaf chosen) (node_ways k (place x below)) (ways leaf_spot (spots after))))
