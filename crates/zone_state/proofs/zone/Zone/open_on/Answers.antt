use Rattle.std.proofs.Common.{◌≡◌, ◌≤◌, ⊎_elim, ℕ, List, Option, None, Some, Err, sym, ◌∙◌, ap, subst, arith}
use Rattle.log_base.specs.Journals.{payloads_length}
use Rattle.disk_model.specs.Past.{reads}
use Rattle.chain_core.specs.Breaks.{BreaksAt}
use Rattle.log_journal.specs.File.{Holds}
use Rattle.zone_state.specs.Log.{AreChained}
use Rattle.zone_state.specs.declared.fault.ZoneFault.{ZoneFault}
use Rattle.zone_state.specs.Fault.{HasZoneFault, journal_part}
use Rattle.zone_state.specs.declared.fault.ZoneFault.TheVariants.{TermsFull}
use Rattle.log_journal.specs.declared.fault.JournalFault.{JournalFault}
use Rattle.zone_state.specs.Next.{AreFoundPatches}
use Rattle.zone_state.specs.State.{view_of, IsZoneKept}
use Rattle.zone_state.specs.Zone.{StandsForZone, zone_number}
use Rattle.patch_meaning.specs.Checked.{CheckedPatch}
use Rattle.log_journal.specs.StandsFor.{disk_of}
use Rattle.zone_state.proofs.Opened.{taken_found, length_opened, zone_opened, kept_opened}
use Rattle.zone_state.proofs.zone.Zone.open_on.Goals as goal

pub invariant_of-result : goal.invariant_of-result
invariant_of-result g c =
    let e = c.in-Ok.ensures in
    let payloads = e.received.0 in
    let read = c.in-Ok-finish.ensures.ok c.new-reading.result payloads e.received.1 in
    let are = subst (λ (n : ℕ). AreFoundPatches payloads n read.0) c.new-reading.ensures.most read.1 in
    subst (λ (doubt : Option CheckedPatch). IsZoneKept c.in-Ok.journal c.in-Ok-finish.kept c.args.limits doubt) (sym c.none.ensures)
    (kept_opened c.in-Ok.journal c.in-Ok-finish.kept c.args.limits payloads read.0 are read.2 e.received.2 e.received.3 e.within e.limit c.new-reading.ensures.countable c.in-Ok-finish.ensures.unstaged)

pub returns-in-Ok-finish-clause-taken : goal.returns-in-Ok-finish-clause-taken
returns-in-Ok-finish-clause-taken g c =
    let e = c.in-Ok.ensures in
    let payloads = e.received.0 in
    let read = c.in-Ok-finish.ensures.ok c.new-reading.result payloads e.received.1 in
    let are = subst (λ (n : ℕ). AreFoundPatches payloads n read.0) c.new-reading.ensures.most read.1 in (
      read.0,
      subst (λ (doubt : Option CheckedPatch). StandsForZone g.D.Disk.tells (g.D.Disk.past (disk_of c.in-Ok.journal)) (view_of c.in-Ok.journal c.in-Ok-finish.kept c.args.limits doubt) read.0 None) (sym c.none.ensures)
          (zone_opened c.in-Ok.journal c.in-Ok-finish.kept c.args.limits payloads read.0 are read.2 e.received.2 e.received.3 e.within),
      read.3,
      λ told. subst (λ (ts : List (List ℕ)). Holds (reads (g.D.Disk.past c.args.disk)) zone_number ts) (sym are.texts_are) (e.received.4 told),
    )

pub returns-in-Ok-finish-clause-reopened : goal.returns-in-Ok-finish-clause-reopened
returns-in-Ok-finish-clause-reopened g c =
    let e = c.in-Ok.ensures in
    let payloads = e.received.0 in
    let read = c.in-Ok-finish.ensures.ok c.new-reading.result payloads e.received.1 in
    let are = subst (λ (n : ℕ). AreFoundPatches payloads n read.0) c.new-reading.ensures.most read.1 in
    rw (← length_opened c.in-Ok.journal c.in-Ok-finish.kept c.args.limits payloads read.0 are read.2 e.received.2 e.received.3 e.within) e.reopened

pub returns-in-Err-finish-clause-fault : goal.returns-in-Err-finish-clause-fault
returns-in-Err-finish-clause-fault g c told =
    let file = reads (g.D.Disk.past c.args.disk) in
    let limits = c.args.limits in
    let e = c.in-Ok.ensures in
    let payloads = e.received.0 in
    let holds = e.received.4 told in
    let fits : payloads_length payloads ≤ limits.bytes = omega (arith, e.received.3, e.within) in
    let is = c.in-Err-finish.is in
    let most = c.new-reading.ensures.most in
    ⊎_elim
    (λ broken. subst (λ (fault : ZoneFault). HasZoneFault file limits fault) (sym broken.1) (
      payloads,
      holds,
      fits,
      subst (λ (n : ℕ). BreaksAt (AreChained n) payloads broken.0) most (c.finish.ensures.broken c.new-reading.result payloads e.received.1 broken.0 (is ∙ ap (λ (fault : ZoneFault). Err fault) broken.1)),
    ))
    (λ full.
    let found = c.finish.ensures.terms_full c.new-reading.result payloads e.received.1 (is ∙ ap (λ (fault : ZoneFault). Err fault) full) in
    let are = subst (λ (n : ℕ). AreFoundPatches payloads n found.0) most found.1 in
    subst (λ (fault : ZoneFault). HasZoneFault file limits fault) (sym full) (
      found.0,
      subst (λ (ts : List (List ℕ)). Holds file zone_number ts) (sym are.texts_are) holds,
      taken_found payloads limits found.0 are fits,
      found.2,
    ))
    c.in-Err-finish.ensures.faults

-- the patches have too many terms, whatever the disk tells
pub returns-in-Err-finish-clause-terms_full : goal.returns-in-Err-finish-clause-terms_full
returns-in-Err-finish-clause-terms_full g c full =
    let e = c.in-Ok.ensures in
    let payloads = e.received.0 in
    let found = c.finish.ensures.terms_full c.new-reading.result payloads e.received.1 (c.in-Err-finish.is ∙ ap (λ (fault : ZoneFault). Err fault) full) in
    let are = subst (λ (n : ℕ). AreFoundPatches payloads n found.0) c.new-reading.ensures.most found.1 in
    (found.0, taken_found payloads c.args.limits found.0 are (omega (arith, e.received.3, e.within)), found.2)

-- no fault of a journal is that
no_terms : (fault : ZoneFault) (journal : JournalFault) → journal_part fault ≡ Some journal → fault ≡ TermsFull → ⊥
no_terms fault journal part is = let none : None ≡ Some journal = ap journal_part (sym is) ∙ part in absurd (cc)

pub returns-in-Err-clause-terms_full : goal.returns-in-Err-clause-terms_full
returns-in-Err-clause-terms_full g c full = absurd (no_terms c.from.result _ c.from.ensures full)
