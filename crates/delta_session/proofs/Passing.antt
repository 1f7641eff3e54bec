-- Passes stay those of their hall, whatever they ask.
use Rattle.std.proofs.Common.{◌≡◌, ℕ, suc, refl, sym, ap, ◌∙◌, subst, ⊎_elim, inl, inr, List, [], ◌∷◌, length, Option, Some, None}
use Rattle.std.specs.List.{AllZip}
use Rattle.registry_core.specs.Replies.{RegistryCall, RegistryReply}
use Rattle.turn_cell.specs.Turns.{AllOf, IsIn}
use Rattle.turn_cell.specs.Knowing.{SeesOn, pass_number}
use Rattle.disk_model.specs.declared.disk.Disk.{Ghosts}
use Rattle.log_registry.specs.State.{StateView}
use Rattle.turn_cell.specs.Sharing.{IsPassOf}
use Rattle.turn_cell.specs.Calls.{IsReplied, IsCalled}
use Rattle.shared_log.specs.History.{LogSight}
use Rattle.shared_registry.specs.History.{RegistrySight, shared_registry}
use Rattle.shared_registry.specs.Stays.{CalledOnRegistry}
use Rattle.shared_registry.specs.Lookups.{RegistryLookup, MayWantNames}
use Rattle.hall_logs.specs.Slots.{ArePartsOf}
use Rattle.hall_logs.specs.Visits.{Visit, IsVisit, AreVisits}
use Rattle.hall_logs.proofs.Visiting.{parts_stay, numbers_stay}
use Rattle.delta_session.specs.Halls.{IsHallPass, AreHallPasses}
use Rattle.delta_session.specs.Sessions.{HasAsked}
use Rattle.delta_session.specs.Steps.{HallView, HallSight, Lists, Step, of_registry, of_log, IsStep, AreSteps}

-- whether it found memory or not, the pass sees on
sees : {D : Type 0} (disks : Ghosts D) (origin : StateView D) (p q : RegistrySight) (call : RegistryCall) (reply : Option RegistryReply) → IsReplied (CalledOnRegistry disks origin) MayWantNames p call reply q → SeesOn p q
sees disks origin p q call (Some reply) is = is.legal.0
sees disks origin p q call None is = is.1.0

module _ {D : Type 0} (disks : Ghosts D) (hall : HallView D) where
  -- the pass is one of the hall still, by its number
  abbrev Stays : Lists → Lists → Type 0
  Stays p q = IsHallPass disks hall q × (pass_number q.registry ≡ pass_number p.registry)

  by_lookup : (p q : Lists) (asked : RegistryLookup) → IsHallPass disks hall p → IsCalled (CalledOnRegistry disks hall.registry.origin) MayWantNames p.registry asked q.registry → q.logs ≡ p.logs → Stays p q
  by_lookup p q asked is legal same =
      let on = sees disks hall.registry.origin p.registry q.registry asked.call asked.reply legal.replied in
      let number : pass_number q.registry ≡ pass_number p.registry = on.0.2 in (
        record {
          registry = (on.0.0 ∙ is.registry.0, on.1, on.0.3 ∙ is.registry.2);
          logs = subst (ArePartsOf disks hall.logs.logs) (sym same) is.logs;
          one = subst (λ (z : List LogSight × ℕ). AllOf (λ (part : LogSight). pass_number part ≡ z.1) z.0) (λ i. (sym same i, sym number i)) is.one;
        },
        number,
      )

  by_visit : (p q : Lists) (asked : Visit) → IsHallPass disks hall p → IsVisit disks hall.logs.logs p.logs asked q.logs → q.registry ≡ p.registry → Stays p q
  by_visit p q asked is visit same =
      let number : pass_number q.registry ≡ pass_number p.registry = ap (λ (r : RegistrySight). pass_number r) same in
      let visits : AreVisits disks hall.logs.logs p.logs (asked ∷ []) q.logs = (q.logs, visit, refl) in (
        record {
          registry = subst (IsPassOf (shared_registry disks) hall.registry) (sym same) is.registry;
          logs = parts_stay disks hall.logs.logs p.logs q.logs (asked ∷ []) visits is.logs;
          one = subst (λ (n : ℕ). AllOf (λ (part : LogSight). pass_number part ≡ n) q.logs) (sym number)
              (numbers_stay disks hall.logs.logs (pass_number p.registry) p.logs q.logs (asked ∷ []) visits is.one);
        },
        number,
      )

  one_stays : (p q : Lists) (step : Step) → IsHallPass disks hall p → IsStep disks hall p step q → Stays p q
  one_stays p q (of_registry asked) is step = by_lookup p q asked is step.0 step.1
  one_stays p q (of_log asked) is step = by_visit p q asked is step.0 step.1

  pub stays : (p q : Lists) (steps : List Step) → IsHallPass disks hall p → AreSteps disks hall p steps q → Stays p q
  stays p q [] is same = (subst (IsHallPass disks hall) (sym same) is, ap (λ (s : Lists). pass_number s.registry) same)
  stays p q (step ∷ more) is are =
      let first = one_stays p are.0 step is are.1 in
      let rest = stays are.0 q more first.0 are.2 in
      (rest.0, rest.1 ∙ first.1)

  pub still_ready : (p q : Lists) (steps : List Step) → IsHallPass disks hall p → AreSteps disks hall p steps q → IsHallPass disks hall q
  still_ready p q steps is are = (stays p q steps is are).0

  pub has_stayed : (p q : HallSight) → HasAsked disks hall p q → IsHallPass disks hall p.lists → Stays p.lists q.lists
  has_stayed p q asked is = stays p.lists q.lists asked.0 is asked.1

  all_stay : (before after : List HallSight) → AllZip (HasAsked disks hall) before after → AllOf (λ (pass : HallSight). IsHallPass disks hall pass.lists) before → AllOf (λ (pass : HallSight). IsHallPass disks hall pass.lists) after
  all_stay [] [] asked all = tt
  all_stay [] (y ∷ after) asked all = absurd asked
  all_stay (x ∷ before) [] asked all = absurd asked
  all_stay (x ∷ before) (y ∷ after) asked all = ((has_stayed x y asked.0 all.0).0, all_stay before after asked.1 all.1)

  as_many : (before after : List HallSight) → AllZip (HasAsked disks hall) before after → length after ≡ length before
  as_many [] [] asked = refl
  as_many [] (y ∷ after) asked = absurd asked
  as_many (x ∷ before) [] asked = absurd asked
  as_many (x ∷ before) (y ∷ after) asked = ap (λ (n : ℕ). suc n) (as_many before after asked.1)

  one_left : (n : ℕ) (before after : List HallSight) → AllZip (HasAsked disks hall) before after → AllOf (λ (pass : HallSight). IsHallPass disks hall pass.lists) before
      → (pass : HallSight) → IsIn pass before → pass_number pass.lists.registry ≡ n → (left : HallSight) × IsIn left after × (pass_number left.lists.registry ≡ n)
  one_left n [] after asked all pass there is = absurd there
  one_left n (x ∷ before) [] asked all pass there is = absurd asked
  one_left n (x ∷ before) (y ∷ after) asked all pass there is =
      ⊎_elim (λ (e : pass ≡ x). (y, inl refl, (has_stayed x y asked.0 all.0).1 ∙ sym (ap (λ (s : HallSight). pass_number s.lists.registry) e) ∙ is))
      (λ (i : IsIn pass before). let more = one_left n before after asked.1 all.1 pass i is in (more.0, inr more.1, more.2)) there

  pub passes_stay : (before after : List HallSight) → AllZip (HasAsked disks hall) before after → AreHallPasses disks hall before → AreHallPasses disks hall after
  passes_stay before after asked are = record {
    of = all_stay before after asked are.of;
    count = as_many before after asked ∙ are.count;
    all = λ n positive high. let one = are.all n positive high in one_left n before after asked are.of one.0 one.1 one.2;
  }
