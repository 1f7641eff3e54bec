-- A hall is opened, shared and closed.
use Rattle.std.proofs.Common.{◌≡◌, ◌≢◌, ℕ, suc, ◌+◌, ◌<◌, ◌≤◌, refl, sym, ap, ◌∙◌, subst, ⊎_elim, inl, inr, append_assoc, arith, List, [], ◌∷◌, ◌++◌, length, map, Some, slice_get}
use mathlib.Core.Logic.{dite}
use native.Mathlib.Decide.{ℕ_discrete}
use Rattle.std.specs.Prelude.{reverse}
use Rattle.std.specs.List.{AllZip}
use Rattle.std.proofs.lemmas.List.{reverse-append, reverse-reverse}
use Rattle.log_base.specs.declared.limits.LogLimits.{LogLimits}
use Rattle.log_base.specs.declared.limits.TheConstants.{LOG_LIMITS}
use Rattle.disk_model.specs.Past.{reads, MayLeave}
use Rattle.disk_model.specs.declared.disk.Disk.{Ghosts}
use Rattle.log_registry.specs.State.{StateView}
use Rattle.patch_log.specs.State.{LogView}
use Rattle.patch_log.specs.declared.fault.LogFault.{LogFault}
use Rattle.patch_log.specs.declared.fault.LogFault.TheVariants as log
use Rattle.turn_cell.specs.Turns.{AllOf, IsIn}
use Rattle.turn_cell.specs.Sights.{Made}
use Rattle.turn_cell.specs.Knowing.{pass_number}
use Rattle.turn_cell.specs.Sharing.{IsPassOf, IsNewPassOf, AreAllPassesOf, IsClosedOf}
use Rattle.shared_log.specs.History.{LogSight, shared_log}
use Rattle.shared_registry.specs.History.{RegistrySight, shared_registry}
use Rattle.hall_logs.proofs.Opens.{as_many, left_refused}
use Rattle.hall_logs.specs.Files.{AreOpened, AreRefusedAt, AreSameDisks}
use Rattle.hall_logs.specs.Slots.{ArePartsOf, AreNew, AreAllHallPasses}
use Rattle.delta_session.specs.Ends.{EndsRegistry}
use Rattle.delta_session.specs.Halls.{IsHallPass, AreHallPasses, AreNewPasses, paired_sights}
use Rattle.delta_session.specs.Opening.{WasOpened, IsHallRefused, IsRefusedHall, log_refused, wanting, hall_fault_of_log}
use Rattle.delta_session.specs.declared.fault.HallFault.{HallFault}
use Rattle.delta_session.specs.Steps.{HallView, HallSight}

module _ {D : Type 0} where
  -- the first of a list, which is the last of its reverse
  pub first_of : (all rest : List D) (first : D) → reverse all ≡ rest ++ first ∷ [] → all ≡ first ∷ reverse rest
  first_of all rest first is = sym (reverse-reverse all) ∙ ap (λ (l : List D). reverse l) is ∙ reverse-append rest (first ∷ [])

  pub put_in_front : (disks : List D) (first : D) → reverse (reverse disks ++ first ∷ []) ≡ first ∷ disks
  put_in_front disks first = reverse-append (reverse disks) (first ∷ []) ∙ ap (λ (l : List D). first ∷ l) (reverse-reverse disks)

-- ---- passes are joined

abbrev pub pair : RegistrySight → List LogSight → HallSight
pair sight part = record { lists = record { registry = sight; logs = part }; dice = 0 }

joined_more : (sights : List RegistrySight) (parts : List (List LogSight)) (sight : RegistrySight) (part : List LogSight) → length sights ≡ length parts
    → paired_sights (sights ++ sight ∷ []) (parts ++ part ∷ []) ≡ paired_sights sights parts ++ pair sight part ∷ []
joined_more [] [] sight part same = refl
joined_more [] (y ∷ parts) sight part same = absurd (omega (arith, same))
joined_more (x ∷ sights) [] sight part same = absurd (omega (arith, same))
joined_more (x ∷ sights) (y ∷ parts) sight part same = ap (λ (l : List HallSight). pair x y ∷ l) (joined_more sights parts sight part (omega (arith, same)))

-- the last of both lists are joined, and stand behind the others in reverse
pub joins_one : (all : List HallSight) (sights rest : List RegistrySight) (parts others : List (List LogSight)) (passes : List HallSight) (sight : RegistrySight) (part : List LogSight)
    → all ≡ paired_sights sights parts ++ reverse passes → sights ≡ rest ++ sight ∷ [] → parts ≡ others ++ part ∷ [] → length rest ≡ length others
    → all ≡ paired_sights rest others ++ reverse (passes ++ pair sight part ∷ [])
joins_one all sights rest parts others passes sight part is popped taken same =
    is ∙ (λ i. paired_sights (popped i) (taken i) ++ reverse passes) ∙ ap (λ (l : List HallSight). l ++ reverse passes) (joined_more rest others sight part same)
    ∙ append_assoc (paired_sights rest others) (pair sight part ∷ []) (reverse passes) ∙ ap (λ (l : List HallSight). paired_sights rest others ++ l) (sym (reverse-append passes (pair sight part ∷ [])))

pub joined_length : (sights : List RegistrySight) (parts : List (List LogSight)) → length sights ≡ length parts → length (paired_sights sights parts) ≡ length parts
joined_length [] [] same = refl
joined_length [] (y ∷ parts) same = absurd (omega (arith, same))
joined_length (x ∷ sights) [] same = absurd (omega (arith, same))
joined_length (x ∷ sights) (y ∷ parts) same = ap (λ (n : ℕ). suc n) (joined_length sights parts (omega (arith, same)))

module _ {A B : Type 0} (f : A → B) where
  in_map : (x : A) (xs : List A) → IsIn x xs → IsIn (f x) (map f xs)
  in_map x [] there = absurd there
  in_map x (y ∷ xs) there = ⊎_elim (λ (e : x ≡ y). inl (ap f e)) (λ (i : IsIn x xs). inr (in_map x xs i)) there

  all_map : (P : A → Type 0) (Q : B → Type 0) → ((x : A) → P x → Q (f x)) → (xs : List A) → AllOf P xs → AllOf Q (map f xs)
  all_map P Q g [] all = tt
  all_map P Q g (x ∷ xs) all = (g x all.0, all_map P Q g xs all.1)

  length_map : (xs : List A) → length (map f xs) ≡ length xs
  length_map [] = refl
  length_map (x ∷ xs) = ap (λ (n : ℕ). suc n) (length_map xs)

in_all : {A : Type 0} (P : A → Type 0) (xs : List A) (x : A) → AllOf P xs → IsIn x xs → P x
in_all P [] x all there = absurd there
in_all P (y ∷ xs) x all there = ⊎_elim (λ (e : x ≡ y). subst P (sym e) all.0) (λ (i : IsIn x xs). in_all P xs x all.1 i) there

module _ {D : Type 0} (disks : Ghosts D) (hall : HallView D) where
  -- ---- new passes

  pub joined_new : (number : ℕ) (sights : List RegistrySight) (parts : List (List LogSight)) → length sights ≡ length parts
      → ((k : ℕ) (p : RegistrySight) → slice_get sights k ≡ Some p → IsNewPassOf (shared_registry disks) hall.registry (k + number) p) → AreNew disks hall.logs.logs number parts → AreNewPasses disks hall number (paired_sights sights parts)
  joined_new number [] [] same each new = tt
  joined_new number [] (y ∷ parts) same each new = tt
  joined_new number (x ∷ sights) [] same each new = absurd (omega (arith, same))
  joined_new number (x ∷ sights) (y ∷ parts) same each new = (
    subst (λ (n : ℕ). IsNewPassOf (shared_registry disks) hall.registry n x) (omega arith) (each 0 x refl),
    new.0,
    joined_new (number + 1) sights parts (omega (arith, same)) (λ k p at. subst (λ (n : ℕ). IsNewPassOf (shared_registry disks) hall.registry n p) (omega arith) (each (suc k) p at)) new.1,
  )

  new_parts : (number : ℕ) (logs : List (Made (LogView D))) (parts : List LogSight) → AllZip (λ log part. IsNewPassOf (shared_log disks) log number part) logs parts
      → AllZip (IsPassOf (shared_log disks)) logs parts × AllOf (λ (part : LogSight). pass_number part ≡ number) parts
  new_parts number [] [] all = (tt, tt)
  new_parts number [] (y ∷ parts) all = absurd all
  new_parts number (x ∷ logs) [] all = absurd all
  new_parts number (x ∷ logs) (y ∷ parts) all = let rest = new_parts number logs parts all.1 in ((all.0.0, rest.0), (all.0.1, rest.1))

  one_new : (number : ℕ) (pass : HallSight) → IsNewPassOf (shared_registry disks) hall.registry number pass.lists.registry → AllZip (λ log part. IsNewPassOf (shared_log disks) log number part) hall.logs.logs pass.lists.logs
      → IsHallPass disks hall pass.lists
  one_new number pass registry logs =
      let parts = new_parts number hall.logs.logs pass.lists.logs logs in record {
        registry = registry.0;
        logs = parts.0;
        one = subst (λ (n : ℕ). AllOf (λ (part : LogSight). pass_number part ≡ n) pass.lists.logs) (sym registry.1) parts.1;
      }

  new_passes : (number : ℕ) (passes : List HallSight) → AreNewPasses disks hall number passes → AllOf (λ (pass : HallSight). IsHallPass disks hall pass.lists) passes
  new_passes number [] new = tt
  new_passes number (pass ∷ passes) new = (one_new number pass new.0 new.1, new_passes (number + 1) passes new.2)

  find_new : (number : ℕ) (passes : List HallSight) → AreNewPasses disks hall number passes → (n : ℕ) → number ≤ n → n < number + length passes
      → (pass : HallSight) × IsIn pass passes × (pass_number pass.lists.registry ≡ n)
  find_new number [] new n low high = absurd (omega (arith, low, high))
  find_new number (pass ∷ passes) new n low high = dite (ℕ_discrete number n)
      (λ e. (pass, inl refl, new.0.1 ∙ e))
      (λ ne. let rest = find_new (number + 1) passes new.2 n (omega (arith, low, ne)) (omega (arith, high)) in (rest.0, inr rest.1, rest.2))

  pub all_new : (passes : List HallSight) → AreNewPasses disks hall 1 passes → length passes ≡ hall.logs.seats → AreHallPasses disks hall passes
  all_new passes new count = record {
    of = new_passes 1 passes new;
    count = count;
    all = λ n positive high. find_new 1 passes new n positive (omega (arith, high, count));
  }

  -- ---- the passes of each list

  module _ (passes : List HallSight) (are : AreHallPasses disks hall passes) where
    pub registry_passes : hall.registry.seats ≡ hall.logs.seats → AreAllPassesOf (shared_registry disks) hall.registry (map (λ (pass : HallSight). pass.lists.registry) passes)
    registry_passes same = (
      all_map (λ (pass : HallSight). pass.lists.registry) (λ pass. IsHallPass disks hall pass.lists) (IsPassOf (shared_registry disks) hall.registry) (λ pass is. is.registry) passes are.of,
      λ n positive high.
          let one = are.all n positive (omega (arith, high, same)) in
          (one.0.lists.registry, in_map (λ (pass : HallSight). pass.lists.registry) one.0 passes one.1, one.2),
    )

    pub logs_passes : AreAllHallPasses disks hall.logs.logs hall.logs.seats (map (λ (pass : HallSight). pass.lists.logs) passes)
    logs_passes = record {
      of = all_map (λ (pass : HallSight). pass.lists.logs) (λ pass. IsHallPass disks hall pass.lists) (ArePartsOf disks hall.logs.logs) (λ pass is. is.logs) passes are.of;
      count = length_map (λ (pass : HallSight). pass.lists.logs) passes ∙ are.count;
      all = λ n positive high.
          let one = are.all n positive high in
          let is : IsHallPass disks hall one.0.lists = in_all (λ (pass : HallSight). IsHallPass disks hall pass.lists) passes one.0 are.of one.1 in (
            one.0.lists.logs,
            in_map (λ (pass : HallSight). pass.lists.logs) one.0 passes one.1,
            subst (λ (m : ℕ). AllOf (λ (part : LogSight). pass_number part ≡ m) one.0.lists.logs) one.2 is.one,
          );
    }

module _ {D : Type 0} (disks : Ghosts D) where
  -- ---- refusals

  pub logs_refused : (disk after : D) (more left : List D) (file : ℕ) (why : LogFault) → WasOpened disks (length more) disk after
      → (why ≢ log.OutOfMemory → AreRefusedAt disks LOG_LIMITS 1 more file why left) → (why ≡ log.OutOfMemory → AreSameDisks disks more left)
      → IsHallRefused disks disk more (hall_fault_of_log file why) after left
  logs_refused disk after more left file log.OutOfMemory opened refused kept = wanting refl opened (kept refl)
  logs_refused disk after more left file log.Failed opened refused kept = log_refused file log.Failed refl (λ e. cc) opened (refused (λ e. cc))
  logs_refused disk after more left file (log.Damaged at) opened refused kept = log_refused file (log.Damaged at) refl (λ e. cc) opened (refused (λ e. cc))
  logs_refused disk after more left file log.OldFormat opened refused kept = log_refused file log.OldFormat refl (λ e. cc) opened (refused (λ e. cc))
  logs_refused disk after more left file (log.WrongNumber found) opened refused kept = log_refused file (log.WrongNumber found) refl (λ e. cc) opened (refused (λ e. cc))
  logs_refused disk after more left file (log.OverLimit long limit) opened refused kept = log_refused file (log.OverLimit long limit) refl (λ e. cc) opened (refused (λ e. cc))
  logs_refused disk after more left file (log.BrokenChain version) opened refused kept = log_refused file (log.BrokenChain version) refl (λ e. cc) opened (refused (λ e. cc))

  -- as many disks come back as were given
  left_count : (before after : List D) → AreSameDisks disks before after → length after ≡ length before
  left_count [] [] are = refl
  left_count [] (a ∷ after) are = absurd are
  left_count (b ∷ before) [] are = absurd are
  left_count (b ∷ before) (a ∷ after) are = ap (λ (n : ℕ). suc n) (left_count before after are.1)

  pub refused_count : (limits : LogLimits) (more left : List D) (file : ℕ) (why : LogFault)
      → (why ≢ log.OutOfMemory → AreRefusedAt disks limits 1 more file why left) → (why ≡ log.OutOfMemory → AreSameDisks disks more left) → length left ≡ length more
  refused_count limits more left file log.OutOfMemory refused kept = left_count more left (kept refl)
  refused_count limits more left file log.Failed refused kept = left_count more left (left_refused disks limits 1 file log.Failed more left (refused (λ e. cc)))
  refused_count limits more left file (log.Damaged at) refused kept = left_count more left (left_refused disks limits 1 file (log.Damaged at) more left (refused (λ e. cc)))
  refused_count limits more left file log.OldFormat refused kept = left_count more left (left_refused disks limits 1 file log.OldFormat more left (refused (λ e. cc)))
  refused_count limits more left file (log.WrongNumber found) refused kept = left_count more left (left_refused disks limits 1 file (log.WrongNumber found) more left (refused (λ e. cc)))
  refused_count limits more left file (log.OverLimit long limit) refused kept = left_count more left (left_refused disks limits 1 file (log.OverLimit long limit) more left (refused (λ e. cc)))
  refused_count limits more left file (log.BrokenChain version) refused kept = left_count more left (left_refused disks limits 1 file (log.BrokenChain version) more left (refused (λ e. cc)))

  -- the logs of files are as many
  pub opened_count : (limits : LogLimits) (number : ℕ) (more : List D) (logs : List (Made (LogView D))) → AreOpened disks limits number more (map (λ (log : Made (LogView D)). log.origin) logs) → length logs ≡ length more
  opened_count limits number more logs are = sym (length_map (λ (log : Made (LogView D)). log.origin) logs) ∙ as_many disks limits number more (map (λ (log : Made (LogView D)). log.origin) logs) are

  -- the disks of a refusal, in their places
  pub refused_hall : (disk after : D) (more left given : List D) (fault told : HallFault) → given ≡ after ∷ left → told ≡ fault → IsHallRefused disks disk more fault after left → IsRefusedHall disks (disk ∷ more) told given
  refused_hall disk after more left given fault told given_is told_is refused =
      subst (λ (z : HallFault × List D). IsRefusedHall disks (disk ∷ more) z.0 z.1) (λ i. (sym told_is i, sym given_is i)) refused

  -- ---- the end of a registry

  pub registry_ended : (made : Made (StateView D)) (passes : List RegistrySight) (registry : StateView D) (disk : D) → disk ≡ registry.disk → IsClosedOf (shared_registry disks) made passes registry
      → (disks.tells → MayLeave (disks.past disk) (reads (disks.past disk))) → EndsRegistry disks made passes disk
  registry_ended made passes registry disk is closed left = record {
    registry = registry;
    closed = closed;
    disk_is = is;
    file = λ told. (closed.stands told).each (reads (disks.past disk)) (subst (λ (d : D). MayLeave (disks.past d) (reads (disks.past disk))) is (left told));
  }
