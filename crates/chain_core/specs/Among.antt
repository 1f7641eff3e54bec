-- Which patches stand in a list.
use Rattle.std.specs.Prelude.{◌≡◌, ◌⊎◌, List, [], ◌∷◌}
use Rattle.chain_core.specs.declared.chain.Patch.{Patch}

-- the patch is one of these
abbrev pub IsAmong : Patch → List Patch → Type 0
IsAmong patch [] = ⊥
IsAmong patch (one ∷ others) = (patch ≡ one) ⊎ IsAmong patch others

-- each of the patches is one of these
abbrev pub AreAmong : List Patch → List Patch → Type 0
AreAmong [] whole = Unit {0}
AreAmong (patch ∷ patches) whole = IsAmong patch whole × AreAmong patches whole
