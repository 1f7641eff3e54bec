-- Steps one after another are calls on each list.
use Rattle.std.proofs.Common.{ap, subst, List, [], ◌∷◌, ◌++◌, Option, Some, None}
use Rattle.disk_model.specs.declared.disk.Disk.{Ghosts}
use Rattle.log_registry.specs.State.{StateView}
use Rattle.registry_core.specs.Replies.{RegistryCall, RegistryReply}
use Rattle.turn_cell.specs.Calls.{IsReplied}
use Rattle.shared_log.specs.History.{LogSight}
use Rattle.shared_registry.specs.History.{RegistrySight}
use Rattle.shared_registry.specs.Stays.{CalledOnRegistry}
use Rattle.shared_registry.specs.Lookups.{AreLookups, IsLookupReply, MayWantNames}
use Rattle.hall_logs.specs.Visits.{AreVisits}
use Rattle.delta_session.specs.Steps.{HallView, Lists, Step, of_registry, of_log, lookups_of, visits_of, AreSteps}

-- a call with its stay is a legal call
legal_lookup : {D : Type 0} (disks : Ghosts D) (origin : StateView D) (p q : RegistrySight) (call : RegistryCall) (reply : Option RegistryReply) → IsReplied (CalledOnRegistry disks origin) MayWantNames p call reply q → IsLookupReply origin.slots p call reply q
legal_lookup disks origin p q call (Some reply) is = is.legal
legal_lookup disks origin p q call None is = is

module _ {D : Type 0} (disks : Ghosts D) (hall : HallView D) where
  pub compose_steps : (p mid q : Lists) (first then : List Step) → AreSteps disks hall p first mid → AreSteps disks hall mid then q → AreSteps disks hall p (first ++ then) q
  compose_steps p mid q [] then a b = subst (λ (s : Lists). AreSteps disks hall s then q) a b
  compose_steps p mid q (step ∷ more) then a b = (a.0, a.1, compose_steps a.0 mid q more then a.2 b)

  pub visits_taken : (p q : Lists) (steps : List Step) → AreSteps disks hall p steps q → AreVisits disks hall.logs.logs p.logs (visits_of steps) q.logs
  visits_taken p q [] same = ap (λ (s : Lists). s.logs) same
  visits_taken p q (of_log visit ∷ more) a = (a.0.logs, a.1.0, visits_taken a.0 q more a.2)
  visits_taken p q (of_registry asked ∷ more) a = subst (λ (l : List LogSight). AreVisits disks hall.logs.logs l (visits_of more) q.logs) a.1.1 (visits_taken a.0 q more a.2)

  pub lookups_taken : (p q : Lists) (steps : List Step) → AreSteps disks hall p steps q → AreLookups hall.registry.origin.slots p.registry (lookups_of steps) q.registry
  lookups_taken p q [] same = ap (λ (s : Lists). s.registry) same
  lookups_taken p q (of_registry asked ∷ more) a =
      let is = a.1.0 in
      (a.0.registry, record { replied = legal_lookup disks hall.registry.origin p.registry a.0.registry asked.call asked.reply is.replied; mine = is.mine; failed = is.failed }, lookups_taken a.0 q more a.2)
  lookups_taken p q (of_log visit ∷ more) a = subst (λ (r : RegistrySight). AreLookups hall.registry.origin.slots r (lookups_of more) q.registry) a.1.1 (lookups_taken a.0 q more a.2)
