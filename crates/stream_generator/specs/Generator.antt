-- A stream of any number of patches, made by rule: large input that is known.
use Rattle.std.specs.Prelude.{ℕ, zero, suc, pred, ◌+◌, ◌^◌, ◌/◌, ◌%◌}
use Rattle.std.specs.Prelude.{◌==◌, List, [], ◌++◌, codes, if◌then◌else◌}
use Rattle.std.specs.Fmt.{decimal}
use Rattle.delta_base.specs.Ids.{text_of}

-- the id of patch k: 00000000-0000-4000-8000-000000000000 plus k
abbrev pub patch_number : ℕ → ℕ
patch_number k = 2 ^ 78 + 2 ^ 63 + k

-- behind the number of the predicate: the object of the quad of patch k, and the row's dot
abbrev pub object_text : ℕ → List ℕ
object_text k = codes "> \"" ++ (decimal k ++ codes "\" .\n")

-- the quad of patch k, and the row's dot
abbrev pub quad_line : ℕ → List ℕ
quad_line k = codes " <http://g/s"
    ++ (decimal (k % 100) ++ (codes "> <http://g/p" ++ (decimal (k % 7) ++ object_text k)))

-- the row of this code with the quad of patch k
abbrev pub quad_row : List ℕ → ℕ → List ℕ
quad_row code k = code ++ quad_line k

abbrev pub id_line : ℕ → List ℕ
id_line k = codes "H id <uuid:" ++ (text_of (patch_number k) ++ codes "> .\n")

-- the first patch names none before it
abbrev pub prev_row : ℕ → List ℕ
prev_row k =
    if k == 1 then [] else codes "H prev <uuid:"
    ++ (text_of (patch_number (pred k)) ++ codes "> .\n")

-- each third patch deletes the quad of an earlier one
abbrev pub delete_row : ℕ → List ℕ
delete_row k = if k % 3 == 0 then quad_row (codes "D") (k / 3) else []

-- the one block of patch k
abbrev pub block_rows : ℕ → List ℕ
block_rows k = codes "TX .\n" ++ (quad_row (codes "A") k ++ (delete_row k ++ codes "TC .\n"))

-- patch k, in one block
unfoldable pub patch_text : ℕ → List ℕ
patch_text k = id_line k ++ (prev_row k ++ block_rows k)

-- so many patches from patch k on
abbrev pub patches_from : ℕ → ℕ → List ℕ
patches_from k zero = []
patches_from k (suc count) = patch_text k ++ patches_from (k + 1) count

-- the stream of so many patches
abbrev pub stream_text : ℕ → List ℕ
stream_text count = patches_from 1 count

-- how contracts see the stream as a source: what is left, and how often a read failed
pub record Generated : Type 0 where
  pub left : List ℕ
  pub faults : ℕ
