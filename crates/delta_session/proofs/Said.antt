-- Answers one after another are calls of one pass.
use Rattle.std.proofs.Common.{ℕ, ◌+◌, sym, ap, List, [], ◌∷◌}
use Rattle.http_session.specs.Output.{Exchange, AnswerChain}
use Rattle.disk_model.specs.declared.disk.Disk.{Ghosts}
use Rattle.patch_log.specs.State.{LogView}
use Rattle.shared_log.specs.Laws.{CallsAddUp}
use Rattle.hall_logs.specs.Laws.{VisitsAreCalls}
use Rattle.hall_logs.specs.Visits.{asked_at}
use Rattle.shared_registry.specs.Lookups.{RegistryLookup, AreLookups, RegistryAddsUp}
use Rattle.shared_registry.specs.History.{RegistrySight}
use Rattle.delta_session.specs.Answered.{Answered}
use Rattle.delta_session.specs.Sessions.{AreSaid, ServedSession, all_of}
use Rattle.delta_session.specs.Steps.{HallView, HallSight, Step, AreSteps, visits_of, lookups_of}
use Rattle.delta_session.proofs.Keeping.{keeps}
use Rattle.delta_session.proofs.Faulting.{all_said, all_rose}
use Rattle.delta_session.proofs.Stepping.{compose_steps, visits_taken, lookups_taken}

module _ {D : Type 0} (disks : Ghosts D) (hall : HallView D) where
  pub steps_said : (before after : HallSight) (exchanges : List Exchange) → AnswerChain (Answered disks hall) before exchanges after
      → (steps : List (List Step)) × AreSaid before.dice exchanges steps after.dice × AreSteps disks hall before.lists (all_of steps) after.lists
  steps_said before after [] same = ([], sym (ap (λ (s : HallSight). s.dice) same), sym (ap (λ (s : HallSight). s.lists) same))
  steps_said before after (e ∷ exchanges) a =
      let others = steps_said a.0 after exchanges a.2 in
      (a.1.0 ∷ others.0, (a.0.dice, a.1.2, others.1), compose_steps disks hall before.lists a.0.lists after.lists a.1.0 (all_of others.0) a.1.1 others.2)

  pub served : ((origin : LogView D) → CallsAddUp disks origin) → VisitsAreCalls disks hall.logs.logs → ((slots : ℕ) (p q : RegistrySight) (asked : List RegistryLookup) → AreLookups slots p asked q → RegistryAddsUp p asked q)
      → (before after : HallSight) (exchanges : List Exchange) → AnswerChain (Answered disks hall) before exchanges after → ServedSession disks hall before exchanges after
  served calls visits lookups before after exchanges chain =
      let said = steps_said before after exchanges chain in
      let all = all_of said.0 in record {
        steps = said.0;
        said = said.1;
        taken = said.2;
        registry = lookups hall.registry.origin.slots before.lists.registry after.lists.registry (lookups_of all) (lookups_taken disks hall before.lists after.lists all said.2);
        logs = λ place log p at is.
            let one = visits before.lists.logs after.lists.logs (visits_of all) (visits_taken disks hall before.lists after.lists all said.2) place log p at is in
            (one.0, one.1, calls log.origin p one.0 (asked_at (place + 1) (visits_of all)) one.2);
        fewer_said = all_said before.dice exchanges said.0 after.dice said.1;
        faults = all_rose disks hall before.lists after.lists all said.2;
        kept = keeps disks hall before.lists after.lists all said.2;
      }
