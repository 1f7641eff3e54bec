-- What a list is whose last entry isn't known to be there.
use Rattle.std.specs.Prelude.{List, [], ◌∷◌, ◌++◌, Option, Some, None}

-- the list, with one more behind it where there is one
abbrev pub with_one_more : {A : Type 0} → List A → Option A → List A
with_one_more list None = list
with_one_more list (Some more) = list ++ more ∷ []
