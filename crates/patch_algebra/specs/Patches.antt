-- The net patch of a run and the inverse of a patch, as they are written.
use Rattle.std.specs.Prelude.{◌≡◌, ◌<◌, ◌-◌, ◌^◌, List, [], ◌∷◌, Option, None, Some, length, min}
use Rattle.chain_core.specs.Links.{Follow}
use Rattle.delta_base.specs.declared.id.Id.{Id}
use Rattle.log_base.specs.declared.limits.TheConstants.{PATCH_LIMIT}
use Rattle.patch_meaning.specs.Checked.{CheckedPatch}
use Rattle.patch_meaning.specs.Patch.{Meaning}
use Rattle.patch_meaning.specs.Replay.{links_said}
use Rattle.rdf_terms.specs.Dataset.{Dataset}
use Rattle.patch_algebra.specs.declared.fault.NetFault.{NetFault}
use Rattle.patch_algebra.specs.declared.fault.NetFault.TheVariants as faults
use Rattle.patch_algebra.specs.Nets.{net, inverse_changes, run_changes}
use Rattle.patch_algebra.specs.Written.{patch_in_block}

-- there is a patch, and each later one names the one before it
abbrev pub FollowEachOther : List Meaning → Type 0
FollowEachOther [] = ⊥
FollowEachOther (m ∷ ms) = Follow (Some m.id) (links_said ms)

-- the id of the last of these patches
abbrev pub id_of_last : Meaning → List Meaning → Id
id_of_last m [] = m.id
id_of_last m (n ∷ ms) = id_of_last n ms

-- the net patch of a run: the last id, what the first patch names, and the net changes
abbrev pub net_patch_of : Dataset → List Meaning → Option CheckedPatch
net_patch_of d [] = None
net_patch_of d (m ∷ ms) =
    Some (patch_in_block (id_of_last m ms) m.prev (net d (run_changes (m ∷ ms))))

-- the inverse of a patch, of this id
abbrev pub inverse_of : Dataset → Meaning → Id → CheckedPatch
inverse_of d m id = patch_in_block id (Some m.id) (inverse_changes d m.changes)

-- why there is none: its text is longer than a patch may be, which is told up to the last value
-- of u64; want of memory is free
abbrev pub RefusesWritten : CheckedPatch → NetFault → Type 0
RefusesWritten p (faults.TooLong size limit) = (size ≡ min (length p.text) (2 ^ 64 - 1))
    × (limit ≡ PATCH_LIMIT) × (PATCH_LIMIT < length p.text)
RefusesWritten p faults.OutOfMemory = Unit {0}

abbrev pub RefusesNet : Option CheckedPatch → NetFault → Type 0
RefusesNet None fault = ⊥
RefusesNet (Some p) fault = RefusesWritten p fault
