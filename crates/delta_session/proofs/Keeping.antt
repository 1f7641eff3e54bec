-- What the steps of a session told is kept.
use Rattle.std.proofs.Common.{◌≡◌, ℕ, ◌+◌, List, [], ◌∷◌, Option, Some, sym, subst, ⊎_elim, slice_get}
use Rattle.disk_model.specs.declared.disk.Disk.{Ghosts}
use Rattle.chain_core.specs.declared.chain.Patch.{Patch}
use Rattle.chain_core.specs.declared.answer.LogAnswer.TheVariants.{Accepted, AcceptedRun}
use Rattle.chain_core.specs.Replies.{LogCall, append, append_run, fetch_version, fetch_id, LogReply, answered, found}
use Rattle.patch_log.specs.State.{LogView}
use Rattle.turn_cell.specs.Turns.{IsIn}
use Rattle.turn_cell.specs.Sights.{Made}
use Rattle.turn_cell.specs.Calls.{IsReplied}
use Rattle.shared_log.specs.History.{LogSight, SeesWhole}
use Rattle.shared_log.specs.Calls.{CallOnLog, IsCalledOnLog, MayWant}
use Rattle.shared_log.specs.Stays.{CalledOnLog, IsOnDisk}
use Rattle.shared_log.proofs.OnDisk.{told_on_disk, stays_in_sight}
use Rattle.shared_log.proofs.Adding.{add_up}
use Rattle.hall_logs.specs.Visits.{Visit, IsVisit, asked_at}
use Rattle.hall_logs.proofs.Visiting.{here, asked_here}
use Rattle.delta_session.specs.Kept.{TellsInRun, TellsPatch, ServesById, IsKept, KeepsWhatItTells}
use Rattle.delta_session.specs.Steps.{HallView, Lists, Step, of_log, visits_of, IsStep, AreSteps}
use Rattle.delta_session.proofs.Stepping.{visits_taken}

module _ {D : Type 0} (disks : Ghosts D) (hall : HallView D) where
  -- a call with this reply, by the call and the reply that it was made with
  called_so : (origin : LogView D) (p q : LogSight) (made : CallOnLog) (call : LogCall) (reply : LogReply) → made.call ≡ call → made.reply ≡ Some reply → IsCalledOnLog disks origin p made q → CalledOnLog disks origin p call reply q
  called_so origin p q made call reply call_is reply_is is = subst (λ (z : LogCall × Option LogReply). IsReplied (CalledOnLog disks origin) MayWant p z.0 z.1 q) (λ i. (call_is i, reply_is i)) is.replied

  -- what is on the disk of a log behind one step, the pass sees there behind all that follow
  kept : (slot place version : ℕ) (patch : Patch) (log : Made (LogView D)) (told : LogSight) (mid after : Lists) (more : List Step) → slot ≡ place + 1 → slice_get hall.logs.logs place ≡ Some log → slice_get mid.logs place ≡ Some told → IsOnDisk disks log.origin version patch told
      → AreSteps disks hall mid more after → IsKept disks hall slot version patch after
  kept slot place version patch log told mid after more slot_is log_is at on are =
      let a = asked_here disks hall.logs.logs place log log_is told mid.logs after.logs (visits_of more) at (visits_taken disks hall mid after more are) in
      let seen = (add_up disks log.origin told a.0 (asked_at (place + 1) (visits_of more)) a.2).adds.seen in record {
        place = place;
        slot_is = slot_is;
        log = log;
        log_is = log_is;
        told = told;
        on_disk = on;
        now = a.0;
        now_is = a.1;
        sees_on = seen;
        still_there = stays_in_sight disks log.origin told a.0 seen version patch on;
      }

  module _ (p next after : Lists) (more : List Step) (visit : Visit) (v : IsVisit disks hall.logs.logs p.logs visit next.logs) (are : AreSteps disks hall next more after) where
    abbrev behind : (q : LogSight) × (slice_get next.logs v.place ≡ Some q) × IsCalledOnLog disks v.log.origin v.old visit.asked q × SeesWhole q
    behind = here disks hall.logs.logs v.place v.log v.log_is v.old p.logs next.logs visit v.old_is v.slot_is v

    called : (call : LogCall) (reply : LogReply) → visit.asked.call ≡ call → visit.asked.reply ≡ Some reply → CalledOnLog disks v.log.origin v.old call reply behind.0
    called call reply call_is reply_is = called_so v.log.origin v.old behind.0 visit.asked call reply call_is reply_is behind.2

    told_in_run : (version : ℕ) (patch : Patch) → TellsInRun visit.asked version patch → IsOnDisk disks v.log.origin version patch behind.0
    told_in_run version patch tells =
        let called = called (append_run tells.run) (answered (AcceptedRun tells.first tells.last)) tells.call_is tells.reply_is in
        let on = ((told_on_disk disks v.log.origin v.old behind.0).accepted_run tells.first tells.last tells.run called tells.before patch tells.patch_is).0 in
        subst (λ (n : ℕ). IsOnDisk disks v.log.origin n patch behind.0) (sym tells.version_is) on

    one_told : (version : ℕ) (patch : Patch) → TellsPatch visit.asked version patch → IsKept disks hall visit.slot version patch after
    one_told version patch tells =
        let told = told_on_disk disks v.log.origin v.old behind.0 in
        let on : IsOnDisk disks v.log.origin version patch behind.0 = ⊎_elim
        (λ (z : (visit.asked.call ≡ append patch) × (visit.asked.reply ≡ Some (answered (Accepted version)))). (told.accepted version patch (called (append patch) (answered (Accepted version)) z.0 z.1)).0)
        (λ z. ⊎_elim (told_in_run version patch)
        (λ (z : (visit.asked.call ≡ fetch_version version) × (visit.asked.reply ≡ Some (found patch))). (told.served version patch (called (fetch_version version) (found patch) z.0 z.1)).0) z) tells in
        kept visit.slot v.place version patch v.log behind.0 next after more v.slot_is v.log_is behind.1 on are

    one_served : (patch : Patch) → ServesById visit.asked patch → (version : ℕ) × IsKept disks hall visit.slot version patch after
    one_served patch serves =
        let s = (told_on_disk disks v.log.origin v.old behind.0).served_by_id serves.0 patch (called (fetch_id serves.0) (found patch) serves.1 serves.2) in
        (s.0, kept visit.slot v.place s.0 patch v.log behind.0 next after more v.slot_is v.log_is behind.1 s.2.0 are)

  visit_of : (p next : Lists) (step : Step) (visit : Visit) → of_log visit ≡ step → IsStep disks hall p step next → IsVisit disks hall.logs.logs p.logs visit next.logs
  visit_of p next step visit e is = (subst (λ (s : Step). IsStep disks hall p s next) (sym e) is).0

  all_told : (p after : Lists) (steps : List Step) → AreSteps disks hall p steps after → (visit : Visit) → IsIn (of_log visit) steps → (version : ℕ) (patch : Patch) → TellsPatch visit.asked version patch → IsKept disks hall visit.slot version patch after
  all_told p after [] are visit there version patch tells = absurd there
  all_told p after (step ∷ more) are visit there version patch tells = ⊎_elim
      (λ (e : of_log visit ≡ step). one_told p are.0 after more visit (visit_of p are.0 step visit e are.1) are.2 version patch tells)
      (λ (i : IsIn (of_log visit) more). all_told are.0 after more are.2 visit i version patch tells) there

  all_served : (p after : Lists) (steps : List Step) → AreSteps disks hall p steps after → (visit : Visit) → IsIn (of_log visit) steps → (patch : Patch) → ServesById visit.asked patch → (version : ℕ) × IsKept disks hall visit.slot version patch after
  all_served p after [] are visit there patch serves = absurd there
  all_served p after (step ∷ more) are visit there patch serves = ⊎_elim
      (λ (e : of_log visit ≡ step). one_served p are.0 after more visit (visit_of p are.0 step visit e are.1) are.2 patch serves)
      (λ (i : IsIn (of_log visit) more). all_served are.0 after more are.2 visit i patch serves) there

  pub keeps : (p after : Lists) (steps : List Step) → AreSteps disks hall p steps after → KeepsWhatItTells disks hall steps after
  keeps p after steps are = record { told = all_told p after steps are; served_by_id = all_served p after steps are }
