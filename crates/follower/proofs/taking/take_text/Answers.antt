use Rattle.std.proofs.Common.{◌≡◌, ◌≢◌, [], Result, sym, subst}
use Rattle.std.specs.Prelude.{OnOk, IfErr, IsErrOf}
use Rattle.patch_meaning.specs.Checked.{CheckedPatch}
use Rattle.zone_state.specs.Zone.{ZoneView}
use Rattle.follower.specs.declared.ends.TextRefusal.{TextRefusal}
use Rattle.follower.specs.declared.ends.TextRefusal.TheVariants.{DiskFault}
use Rattle.follower.specs.Footing.{DisksOf, ZoneWent}
use Rattle.follower.specs.Grown.{IsText, Stayed, Took}
use Rattle.follower.specs.Syncing.{RefusesText, taken_or_refused}
use Rattle.follower.specs.Taking.{TakesNext}
use Rattle.follower.proofs.Answered.{no_patch_ends, took_ok, took_err, took_stayed, took_untouched, took_went, no_disk_told, on_ok}
use Rattle.follower.proofs.Amid.{stayed_none}
use Rattle.follower.proofs.Footings.{went_none}
use Rattle.follower.proofs.taking.take_text.Goals as goal

pub returns-in-Err-clause-err : goal.returns-in-Err-clause-err
returns-in-Err-clause-err g c =
    let old : ZoneView (DisksOf g.Z.Follower.footing) = g.Z.Follower.zone c.args.zone.now in
    let why = no_patch_ends old c.args.text.now c.args.version c.requires c.in-Err.fault c.in-Err.ensures.fault in
    subst (λ (why : TextRefusal). RefusesText old.terms [] old c.args.text.now why) (sym c.no_patch.ensures) why

pub returns-in-Err-clause-stayed : goal.returns-in-Err-clause-stayed
returns-in-Err-clause-stayed g c = stayed_none g.Z.Follower.footing (g.Z.Follower.zone c.args.zone.now) c.args.text.now

pub returns-in-Err-clause-went : goal.returns-in-Err-clause-went
returns-in-Err-clause-went g c =
    let old : ZoneView (DisksOf g.Z.Follower.footing) = g.Z.Follower.zone c.args.zone.now in
    went_none g.Z.Follower.footing _ old.disk (no_disk_told old c.args.text.now c.args.version c.requires c.in-Err.fault c.no_patch.result c.no_patch.ensures)

pub returns : goal.returns
returns g c =
    let next : CheckedPatch = c.in-Ok.patch in
    let on = g.Z.Follower.footing in
    let old : ZoneView (DisksOf on) = g.Z.Follower.zone c.args.zone.now in
    let new : ZoneView (DisksOf on) = g.Z.Follower.zone c.take_next-answer.new.self in
    let answer = c.take_next-answer.result in
    let so : TakesNext on old new next answer = c.take_next-answer.ensures in
    let stands = c.version-mine.ensures.stands in
    let id = c.id-id.result in
    let mine = c.version-mine.result in
    let version : mine ≡ _ = c.version-mine.ensures.version in
    let ends : c.told.result ≡ taken_or_refused answer id mine = c.told.ensures in
    let text : IsText c.args.text.now next = c.in-Ok.ensures.ok in
    record {
      ok = subst (λ (r : Result (Unit {0}) TextRefusal). OnOk r ((one : CheckedPatch) × IsText c.args.text.now one × Took on old new one)) (sym ends)
          (on_ok (taken_or_refused answer id mine) (λ took. (next, text, took)) (took_ok on old new next answer id mine so));
      err = subst (λ (r : Result (Unit {0}) TextRefusal). IfErr r (λ why. RefusesText old.terms [] new c.args.text.now why)) (sym ends)
          (took_err on old new next c.args.text.now text id c.id-id.ensures mine version answer so);
      stayed = subst (λ (r : Result (Unit {0}) TextRefusal). IfErr r (λ _. Stayed on old new c.args.text.now)) (sym ends)
          (took_stayed on old new next c.args.text.now text stands.0 stands.1 answer id mine so);
      untouched = subst (λ (r : Result (Unit {0}) TextRefusal). IfErr r (λ why. why ≢ DiskFault → new ≡ record old { terms = new.terms })) (sym ends)
          (took_untouched on old new next answer id mine so);
      went = subst (λ (r : Result (Unit {0}) TextRefusal). ZoneWent on (IsErrOf r DiskFault) old.disk new.disk) (sym ends) (took_went on old new next answer id mine so);
      limits = so.limits;
    }
