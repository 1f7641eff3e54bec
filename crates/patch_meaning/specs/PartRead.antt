-- A patch of a stream of which some rows were taken.
use Rattle.std.specs.Prelude.{◌≡◌, ◌⊎◌, ℕ, ◌+◌, ◌≤◌, true, false, List, [], Some, IfSome}
use Rattle.log_base.specs.declared.limits.TheConstants.{PATCH_LIMIT}
use Rattle.rdf_terms.specs.declared.change.Change.{Change}
use Rattle.log_base.specs.declared.chain_link.ChainLink.{ChainLink}
use Rattle.patch_meaning.specs.declared.fault.PatchFault.{PatchFault}
use Rattle.patch_meaning.specs.declared.fault.PatchFault.TheVariants as faults
use Rattle.patch_meaning.specs.declared.fault.PatchKind.{PatchKind}
use Rattle.patch_meaning.specs.declared.fault.PatchKind.TheVariants as kinds
use Rattle.patch_meaning.specs.declared.part.Part.{Part as PartRead}
use Rattle.patch_meaning.specs.declared.role.Role.{Role}
use Rattle.patch_meaning.specs.Draft.{DraftStands}
use Rattle.patch_meaning.specs.Patch.{Meaning, IsWell, AreTaken, refusal, has_some, place_of}
use Rattle.patch_meaning.specs.Roles.{said, ids_of, changes_of, is_open}
use Rattle.patch_meaning.specs.Stream.{IsEndFault, within}
use Rattle.patch_reader.specs.declared.placed.PlacedRow.{PlacedRow}

-- what a patch with these ids and changes says
abbrev pub meaning_of : ChainLink → List Change → Meaning
meaning_of link changes = record { id = link.id; prev = link.prev; changes = changes }

-- these are its rows, and each of them was taken
pub record HasPart (rs : List PlacedRow) (p : PartRead) : Type 0 where
  pub stands : DraftStands (said rs) p.draft
  pub some : has_some rs ≡ p.has_rows

-- a row that says this may not stand at a place behind the others, and that is the fault
abbrev pub IsRefusedRow : PartRead → Role → ℕ → PatchFault → Type 0
IsRefusedRow p says at fault =
    (rs : List PlacedRow) → HasPart rs p
    → (kind : PatchKind) × (refusal (said rs) says ≡ Some kind) × (fault ≡ within p.from at kind)

-- the patch that stops there is complete, and has these ids
abbrev pub IsComplete : PartRead → ℕ → ChainLink → Type 0
IsComplete p stop link =
    (rs : List PlacedRow) → HasPart rs p
    → IsWell (said rs) (meaning_of link (changes_of (said rs))) × (stop ≤ p.from + PATCH_LIMIT)

-- the patch stops there, and that is its fault
abbrev pub IsIncomplete : PartRead → ℕ → PatchFault → Type 0
IsIncomplete p stop fault =
    (rs : List PlacedRow) → HasPart rs p
    → IsEndFault (record { from = p.from; rows_ = rs }) stop fault

-- the fault has no place, or this one
abbrev pub IsToldAt : ℕ → PatchFault → Type 0
IsToldAt at fault = IfSome (place_of fault) (λ place. place ≡ at)

-- all rows were taken, and yet it is no patch that ends here
abbrev pub LacksEnd : List Role → ℕ → PatchFault → Type 0
LacksEnd rs stop fault =
    AreTaken rs
    × (((is_open rs ≡ true) × (fault ≡ faults.At stop kinds.OpenBlock))
    ⊎ ((is_open rs ≡ false) × (ids_of rs ≡ []) × (fault ≡ faults.At stop kinds.NoId)))
