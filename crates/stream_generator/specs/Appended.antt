-- Bytes that are appended to a text.
use Rattle.std.specs.Prelude.{◌≡◌, ◌≤◌, ◌+◌, ℕ, List, ◌++◌, length, Result}
use Rattle.std.specs.Prelude.{IsOk, OnOk, Vec, vec_len, vec_capacity}
use Rattle.std.specs.declared.alloc.Global.{Global}

-- where the call is well the piece stands behind the text; with room for it no memory is needed,
-- and no room is lost
pub record AppendsPiece {T E : Type 0} (piece : List ℕ) (old new : Vec ℕ Global)
    (result : Result T E) : Type 0 where
  pub ok : OnOk result (new.items ≡ old.items ++ piece)
  pub longer : OnOk result (vec_len new ≡ vec_len old + length piece)
  pub ready : vec_len old + length piece ≤ vec_capacity old → IsOk result
  pub room : vec_capacity old ≤ vec_capacity new
