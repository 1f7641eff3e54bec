-- What images of the file beside the current one hold.
use Rattle.std.specs.Prelude.{◌≡◌, ◌⊎◌, ℕ, Bool, List, [], ◌∷◌, Option, None, Some}
use Rattle.zone_files.specs.Pair.{IsBehind, MayBeOther}

-- the first of payloads
abbrev pub only_in : List (List ℕ) → List ℕ
only_in [] = []
only_in (payload ∷ payloads) = payload

-- an image of it leaves the current file as it is; where the next payload is in doubt it may also
-- hold that alone
abbrev pub MayHoldBeside : Bool → ℕ → Option (List ℕ) → List ℕ → Type 0
MayHoldBeside second generation None image = IsBehind second generation image
MayHoldBeside second generation (Some next) image = MayBeOther second generation next image

-- what an image of it holds while the next payload is written into it
abbrev pub MayHoldWriting : Bool → ℕ → Option (List ℕ) → List ℕ → List ℕ → Type 0
MayHoldWriting second generation doubt next image =
    MayHoldBeside second generation doubt image ⊎ MayBeOther second generation next image

-- what is left in doubt behind a payload that wasn't written: what was, or that
abbrev pub IsLeftBehind : Option (List ℕ) → List ℕ → Option (List ℕ) → Type 0
IsLeftBehind doubt next left = (left ≡ doubt) ⊎ (left ≡ Some next)
