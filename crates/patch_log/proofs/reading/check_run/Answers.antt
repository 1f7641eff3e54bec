use Rattle.std.proofs.Common.{◌≡◌, map, length, sym, ap, subst, ◌∙◌, rules, arith}
use Rattle.std.proofs.lemmas.List.{length-map}
use Rattle.chain_core.specs.Runs.{IsRun}
use Rattle.patch_log.specs.Log.{IsSoundRun, bare}
use Rattle.patch_log.specs.Opening.{IsRunRead, patch_linked}
use Rattle.patch_log.specs.RunFaults.{HasLinkFault, HasRunFault}
use Rattle.patch_log.specs.declared.run.RunFault.{RunFault}
use Rattle.patch_log.proofs.Checking.{few_patches, link_fault, unlinked}
use Rattle.patch_log.proofs.Openings.{run_read}
use Rattle.patch_log.proofs.Sound.{sound_of}
use Rattle.patch_log.proofs.reading.check_run.Goals as goal

pub check_links-requires : goal.check_links-requires
check_links-requires c =
    let read = c.in-Ok.ensures.split.0 in
    let patches_are : c.in_ok-patches.patches.items ≡ map bare read = c.in_ok-patches.ensures ∙ ap (map patch_linked) c.in-Ok.ensures.split.2 ∙ unlinked read in
    record { few = omega (arith, few_patches c.args.text.now read c.in-Ok.ensures.split.1, ap length c.as_slice.ensures, ap length patches_are, length-map read bare, c.if-length-gt-PATCH_LIMIT.false) }

pub returns-in_err-check_links-clause-fault : goal.returns-in_err-check_links-clause-fault
returns-in_err-check_links-clause-fault c =
    let read = c.in-Ok.ensures.split.0 in
    let patches_are : c.as_slice.result.now ≡ map bare read = c.as_slice.ensures ∙ c.in_ok-patches.ensures ∙ ap (map patch_linked) c.in-Ok.ensures.split.2 ∙ unlinked read in
    let of_links : (fault : RunFault) → HasLinkFault c.as_slice.result.now fault → HasRunFault c.args.text.now fault =
    λ fault has. link_fault c.args.text.now read c.as_slice.result.now fault (omega (arith, c.if-length-gt-PATCH_LIMIT.false)) c.in-Ok.ensures.split.1 patches_are has in
    search (rules, of_links)

pub invariant_of-result : goal.invariant_of-result
invariant_of-result c =
    let read = c.in-Ok.ensures.split.0 in
    let patches_are : c.in_ok-patches.patches.items ≡ map bare read = c.in_ok-patches.ensures ∙ ap (map patch_linked) c.in-Ok.ensures.split.2 ∙ unlinked read in
    let run = subst IsRun (c.as_slice.ensures ∙ patches_are) c.in_ok-check_links.ensures.ok in
    subst IsSoundRun (sym patches_are) (sound_of c.args.text.now read (record { short = omega (arith, c.if-length-gt-PATCH_LIMIT.false); split = c.in-Ok.ensures.split.1; run = run }))

pub returns-clause-ok : goal.returns-clause-ok
returns-clause-ok c =
    let read = c.in-Ok.ensures.split.0 in
    let patches_are : c.in_ok-patches.patches.items ≡ map bare read = c.in_ok-patches.ensures ∙ ap (map patch_linked) c.in-Ok.ensures.split.2 ∙ unlinked read in
    let run = subst IsRun (c.as_slice.ensures ∙ patches_are) c.in_ok-check_links.ensures.ok in
    subst (IsRunRead c.args.text.now) (sym patches_are) (run_read c.args.text.now read (record { short = omega (arith, c.if-length-gt-PATCH_LIMIT.false); split = c.in-Ok.ensures.split.1; run = run }))
