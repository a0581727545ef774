-- What a tree that lies at a place says of the table, and that there is one at most.
use Rattle.std.proofs.Common.{◌≡◌, ℕ, suc, ◌+◌, ◌≤◌, List, ◌∷◌, ◌++◌, length, get_or, drop, sym, refl, ap, ◌∙◌, subst, append_assoc, add-zero, add-one, arith, length-append, length-drop}
use Rattle.std.proofs.lemmas.List.{get_or-drop}
use Rattle.tree.specs.Forest.{Forest, listing, count, Lists, size_at, tops, below_at, children}
use Rattle.tree.specs.Forest.Forest.{bare, plant}
use Rattle.tree.proofs.Trees.{Seen, seen_at, size_here, same_fronts, drop_next, drop_past, unique}
use Rattle.schema.specs.declared.element.Element.{Element}
use Rattle.schema.specs.Elements.{element_span, empty}
use Rattle.walk.specs.Forests.{trees}
use Rattle.convert.specs.Table.{Lies, Stands, element_at, Rooted}

pub count_plant : {A : Type 0} (a : A) (b c : Forest A) → count (plant a b c) ≡ 1 + (count b + count c)
count_plant a b c = omega (arith, length-append (listing b) (listing c))

module _ {A : Type 0} (span : A → ℕ) (t : List A) (i : ℕ) where
  seen_same : (b v : Forest A) → Seen span t i b → Seen span t i v → b ≡ v
  seen_same b v p q =
      let e : p.row ∷ (listing b ++ p.rest) ≡ q.row ∷ (listing v ++ q.rest) = sym p.split ∙ q.split in
      let heads : p.row ≡ q.row = cc in
      let tails : listing b ++ p.rest ≡ listing v ++ q.rest = cc in
      let parts = same_fronts (listing b) (listing v) p.rest q.rest (omega (arith, p.told, q.told, ap span heads)) tails in
      unique span b v p.sized q.sized parts.0

  module _ (e : A) (b c : Forest A) (p : Lies span t i (plant e b c)) where
    opened : drop i t ≡ e ∷ (listing b ++ (listing c ++ p.after))
    opened = p.here ∙ ap (λ (l : List A). e ∷ l) (append_assoc (listing b) (listing c) p.after)

    pub seen_here : Seen span t i b
    seen_here = record { row = e; rest = listing c ++ p.after; split = opened; told = p.sized.0; sized = p.sized.1 }

    pub size_told : size_at span t i ≡ 1 + count b
    size_told = size_here span t i e (listing b ++ (listing c ++ p.after)) opened ∙ p.sized.0 ∙ omega arith

    pub inside : i + (1 + count b) ≤ length t
    inside = omega (arith, ap length opened, length-drop i t, length-append (listing b) (listing c ++ p.after))

    pub below : Lies span t (i + 1) b
    below =
        record {
          after = listing c ++ p.after;
          here = ap (λ (n : ℕ). drop n t) (add-one i) ∙ drop_next t i e (listing b ++ (listing c ++ p.after)) opened;
          sized = p.sized.1;
        }

    pub beyond : Lies span t (i + (1 + count b)) c
    beyond =
        let n : i + (1 + count b) ≡ i + length (e ∷ listing b) = omega arith in
        record {
          after = p.after;
          here = ap (λ (m : ℕ). drop m t) n ∙ drop_past t i (e ∷ listing b) (listing c ++ p.after) opened;
          sized = p.sized.2;
        }

    pub read_row : (d : A) → get_or t i d ≡ e
    read_row d =
        ap (λ (k : ℕ). get_or t k d) (sym (add-zero i)) ∙ sym (get_or-drop i t 0 d) ∙ ap (λ (xs : List A). get_or xs 0 d) opened

  pub same_top : (e d : A) (b v c w : Forest A) → Lies span t i (plant e b c) → Lies span t i (plant d v w) → e ≡ d
  same_top e d b v c w p q = sym (read_row e b c p e) ∙ read_row d v w q e

  pub same_below : (e d : A) (b v c w : Forest A) → Lies span t i (plant e b c) → Lies span t i (plant d v w) → b ≡ v
  same_below e d b v c w p q = seen_same b v (seen_here e b c p) (seen_here d v w q)

  -- what holds of one tree that lies there holds of any
  pub any_tree : (P : A → Forest A → Type 0) (e : A) (b c : Forest A) → Lies span t i (plant e b c) → P e b
      → (d : A) (v w : Forest A) → Lies span t i (plant d v w) → P d v
  any_tree P e b c p h d v w q =
      subst (λ (x : A). P x v) (same_top e d b v c w p q) (subst (P e) (same_below e d b v c w p q) h)

  -- what the whole table's tree has below the place
  pub below_whole : (f : Forest A) → Lists span f t → (e : A) (b c : Forest A) → Lies span t i (plant e b c) → below_at f i ≡ b
  below_whole f l e b c p = seen_same (below_at f i) b (seen_at span f t l i (omega (arith, inside e b c p))) (seen_here e b c p)

tops_trees : {A : Type 0} (p : ℕ) (f : Forest A) → length (tops p f) ≡ trees f
tops_trees p bare = refl
tops_trees p (plant a b c) = ap suc (tops_trees (p + suc (count b)) c)

pub children_trees : {A : Type 0} (span : A → ℕ) (t : List A) (i : ℕ) (f : Forest A) → Lists span f t → (e : A) (b c : Forest A) → Lies span t i (plant e b c)
    → length (children f i) ≡ trees b
children_trees span t i f l e b c p = tops_trees (i + 1) (below_at f i) ∙ ap trees (below_whole span t i f l e b c p)

-- ── Elements ──

module _ (t : List Element) (i : ℕ) where
  pub read_here : (e : Element) (b c : Forest Element) → Stands t i (plant e b c) → element_at t i ≡ e
  read_here e b c p = read_row element_span t i e b c p empty

  pub sized : (e : Element) (b c : Forest Element) → Stands t i (plant e b c) → (element_at t i).size ≡ 1 + count b
  sized e b c p = ap element_span (read_here e b c p) ∙ p.sized.0 ∙ omega arith

  abbrev pub rooted : (f : Forest Element) → Lists element_span f t → (e : Element) (b c : Forest Element) → Stands t i (plant e b c) → Rooted t i
  rooted f l e b c p =
      record { whole = f; lists = l; top = e; below = b; after = c; lies = p; inside = inside element_span t i e b c p; sized = sized e b c p }
