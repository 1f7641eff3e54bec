use Rattle.std.proofs.Common.{ℕ, List, ⊎_elim, sym, ◌∙◌, subst}
use Rattle.patch_meaning.specs.Patch.{Meaning, IsPatch}
use Rattle.patch_meaning.proofs.Settled.{never_both}
use Rattle.patch_log.specs.Log.{bare}
use Rattle.zone_state.proofs.Sound.{one_sound}
use Rattle.world_core.proofs.zones.check.Goals as goal

pub returns-in-Ok : goal.returns-in-Ok
returns-in-Ok c =
    let checked = c.in-Ok.checked in
    let read : IsPatch checked.text checked.meaning = subst (λ (text : List ℕ). IsPatch text checked.meaning) (sym c.in-Ok.ensures.ok.0) c.in-Ok.ensures.ok.1 in
    one_sound (bare checked) c.args.patch.now (c.in-Ok.ensures.ok.0 ∙ c.as_slice.ensures) (checked.meaning.changes, read) c.requires

-- a text that is a patch has no fault
pub unreachable-requires : goal.unreachable-requires
unreachable-requires c =
    let patch = c.args.patch.now in
    let meaning : Meaning = record { id = patch.id; prev = patch.prev; changes = c.requires.0 } in
    let read : IsPatch c.as_slice.result.now meaning = subst (λ (text : List ℕ). IsPatch text meaning) (sym c.as_slice.ensures) c.requires.1 in
    ⊎_elim c.in_default.not-OutOfMemory (λ fault. never_both c.as_slice.result.now meaning c.in-Err.fault read fault) c.in-Err.ensures.fault
