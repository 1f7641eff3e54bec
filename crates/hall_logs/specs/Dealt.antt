-- Lists that get one item more each.
use Rattle.std.specs.Prelude.{List, [], ◌∷◌, ◌++◌}

module _ {A : Type 0} where
  -- each list with the item of its place behind it
  abbrev pub with_items : List (List A) → List A → List (List A)
  with_items [] items = []
  with_items (list ∷ lists) [] = list ∷ lists
  with_items (list ∷ lists) (item ∷ items) = (list ++ item ∷ []) ∷ with_items lists items
