-- Places in lists.
use Rattle.std.proofs.Common.{◌≡◌, ℕ, List, [], ◌∷◌, ◌++◌, length, map, get_or, refl, ap}
use Rattle.disk_model.specs.Past.{Past, began}
use Rattle.journal_upgrade.specs.Copies.{past_at}
use Rattle.directory_upgrade.specs.Sets.{itself}

pub at_middle : {A B : Type 0} (f : A → B) (front : List A) (here : A) (back : List A) (d : B) → get_or (map f (front ++ here ∷ back)) (length front) d ≡ f here
at_middle f [] here back d = refl
at_middle f (first ∷ front) here back d = at_middle f front here back d

pub itself_all : (pasts : List Past) → map itself pasts ≡ pasts
itself_all [] = refl
itself_all (past ∷ pasts) = ap (λ (l : List Past). past ∷ l) (itself_all pasts)

-- the past of a disk in a list
pub at_itself : {D : Type 0} (past : D → Past) (disks : List D) (i : ℕ) → past_at itself (map past disks) i ≡ past_at past disks i
at_itself past disks i = ap (λ (l : List Past). get_or l i (began [])) (itself_all (map past disks))
