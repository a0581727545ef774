-- The rows of lists and maps, as the code builds them.
use Rattle.std.proofs.Common.{◌≡◌, ℕ, Bool, List, Some, None, ◌∙◌, ap₂, Ok}
use Rattle.tree.specs.Forest.{Forest}
use Rattle.schema.specs.declared.element.Element.{Element}
use Rattle.arrow.specs.declared.types.ArrowType.TheVariants as a
use Rattle.arrow.specs.declared.row.Field.{Field}
use Rattle.arrow.specs.declared.row.ResultRow.{ResultRow}
use Rattle.walk.specs.Labels.{is_optional, or_required}
use Rattle.walk.specs.Hints.{Hint, sole, inside}
use Rattle.walk.specs.Faults.{Typing}
use Rattle.walk.specs.Shape.Items.{of_map}
use Rattle.walk.specs.Walk.{hinted_sorted, hinted_number}
use Rattle.walk.specs.declared.role.Role.TheVariants.{Entries as entries_role}
use Rattle.walk.specs.declared.levels.Levels.{Levels}
use Rattle.convert.specs.Table.{label}
use Rattle.walk.specs.Results.{shown_row}
use Rattle.convert.specs.Own.{group_field}
use Rattle.convert.specs.Walked.{entries_told, items_full}

module _ (names : List ℕ) (e : Element) (key : Bool) (hs : Forest Hint) (v : Levels) (null : Bool) (n : null ≡ is_optional (or_required e.repetition))
    (field : Field) (f : field ≡ group_field hs key e) (typing : Typing) (i k : ℕ) where
  abbrev map_made : Element → Bool → Bool → Field → ℕ → ResultRow
  map_made x b s g m = record { rep_level = v.rep; def_level = v.def; nullable = b; data_type = a.Map s; size = 1; field = g; leaf = None; entries = Some (record { name = x.name; metadata = m }) }

  pub map_shown : (x : Element) (j : ℕ) (sorted : Bool) → sorted ≡ hinted_sorted hs → (number : ℕ) → number ≡ hinted_number (sole (inside hs))
      → shown_row names (map_made x null sorted field number)
      ≡ items_full typing (entries_told key hs (label names i k e)) (Ok entries_role) of_map (label names j k x) v (is_optional (or_required e.repetition))
  map_shown x j sorted s number m =
      ap₂ (λ (b c : Bool). shown_row names (map_made x b c field number)) n s
      ∙ ap₂ (λ (g : Field) (y : ℕ). shown_row names (map_made x (is_optional (or_required e.repetition)) (hinted_sorted hs) g y)) f m
