-- Files are opened one after another.
use Rattle.std.proofs.Common.{◌≡◌, ℕ, ◌+◌, List, [], ◌∷◌, ◌++◌, map, length, refl, sym, ap, ◌∙◌, subst, ⊎_elim, inl, inr, length-append, append_assoc, arith}
use Rattle.std.specs.Prelude.{reverse}
use Rattle.std.specs.List.{AllZip}
use Rattle.std.proofs.lemmas.List.{append-nil, reverse-append, reverse-reverse}
use Rattle.disk_model.specs.declared.disk.Disk.{Ghosts}
use Rattle.disk_model.proofs.Moments.{kept}
use Rattle.log_base.specs.declared.limits.LogLimits.{LogLimits}
use Rattle.patch_log.specs.declared.fault.LogFault.{LogFault}
use Rattle.patch_log.specs.State.{LogView}
use Rattle.turn_cell.specs.Turns.{AllOf}
use Rattle.turn_cell.proofs.Views.{all_append}
use Rattle.hall_logs.specs.Files.{IsSameDisk, IsOpened, AreOpened, IsRefusedLog, WasLogOpened, AreRefusedAt, IsFresh, IsDiskOf, AreSameDisks}

module _ {D : Type 0} (disks : Ghosts D) (limits : LogLimits) where
  opened_one : (number file : ℕ) (firsts : List D) (logs : List (LogView D)) (disk : D) (log : LogView D) → file ≡ number + length firsts → AreOpened disks limits number firsts logs → IsOpened disks limits file disk log
      → AreOpened disks limits number (firsts ++ disk ∷ []) (logs ++ log ∷ [])
  opened_one number file [] [] disk log is are one = (subst (λ n. IsOpened disks limits n disk log) (omega (arith, is)) one, tt)
  opened_one number file [] (l ∷ logs) disk log is are one = absurd are
  opened_one number file (d ∷ firsts) [] disk log is are one = absurd are
  opened_one number file (d ∷ firsts) (l ∷ logs) disk log is are one = (are.0, opened_one (number + 1) file firsts logs disk log (omega (arith, is)) are.1 one)

  refused_at : (number file : ℕ) (firsts : List D) (logs : List (LogView D)) (disk after : D) (rest : List D) (fault : LogFault) → file ≡ number + length firsts → AreOpened disks limits number firsts logs → IsRefusedLog disks limits file disk fault after
      → AreRefusedAt disks limits number (firsts ++ (disk ∷ rest)) file fault (map (λ (log : LogView D). log.disk) logs ++ (after ∷ rest))
  refused_at number file [] [] disk after rest fault is are one = let same : file ≡ number = omega (arith, is) in inl (same, subst (λ n. IsRefusedLog disks limits n disk fault after) same one, refl)
  refused_at number file [] (l ∷ logs) disk after rest fault is are one = absurd are
  refused_at number file (d ∷ firsts) [] disk after rest fault is are one = absurd are
  refused_at number file (d ∷ firsts) (l ∷ logs) disk after rest fault is are one = inr ((l, are.0, refl), refused_at (number + 1) file firsts logs disk after rest fault (omega (arith, is)) are.1 one)

  pub all_fresh : (number : ℕ) (firsts : List D) (logs : List (LogView D)) → AreOpened disks limits number firsts logs → AllOf (IsFresh disks) logs
  all_fresh number [] [] are = tt
  all_fresh number [] (l ∷ logs) are = absurd are
  all_fresh number (d ∷ firsts) [] are = absurd are
  all_fresh number (d ∷ firsts) (l ∷ logs) are = ((are.0.by_nobody, are.0.settled.0), all_fresh (number + 1) firsts logs are.1)

  pub as_many : (number : ℕ) (firsts : List D) (logs : List (LogView D)) → AreOpened disks limits number firsts logs → length logs ≡ length firsts
  as_many number [] [] are = refl
  as_many number [] (l ∷ logs) are = absurd are
  as_many number (d ∷ firsts) [] are = absurd are
  as_many number (d ∷ firsts) (l ∷ logs) are = let more = as_many (number + 1) firsts logs are.1 in omega (arith, more)

  opened_same : (number : ℕ) (disk : D) (log : LogView D) → IsOpened disks limits number disk log → IsSameDisk disks disk log.disk
  opened_same number disk log one = record { mark = one.reopened.mark; kept = one.reopened.kept }

  -- the disks of logs that were opened
  pub left_still : (number : ℕ) (before : List D) (logs : List (LogView D)) (after : List D) → AreOpened disks limits number before logs → AllZip (IsDiskOf disks) logs after → AreSameDisks disks before after
  left_still number [] [] [] are still = tt
  left_still number [] [] (a ∷ after) are still = absurd still
  left_still number [] (l ∷ logs) after are still = absurd are
  left_still number (d ∷ before) [] after are still = absurd are
  left_still number (d ∷ before) (l ∷ logs) [] are still = absurd still
  left_still number (d ∷ before) (l ∷ logs) (a ∷ after) are still = (subst (IsSameDisk disks d) (sym still.0) (opened_same number d l are.0), left_still (number + 1) before logs after are.1 still.1)

  is_kept : (disk : D) → IsSameDisk disks disk disk
  is_kept disk = record { mark = refl; kept = λ told. kept (disks.past disk) }

  pub left_same : (before : List D) → AreSameDisks disks before before
  left_same [] = tt
  left_same (d ∷ before) = (is_kept d, left_same before)

  -- where a file was refused
  pub left_refused : (number file : ℕ) (fault : LogFault) (before after : List D) → AreRefusedAt disks limits number before file fault after → AreSameDisks disks before after
  left_refused number file fault [] [] are = absurd are
  left_refused number file fault [] (a ∷ after) are = absurd are
  left_refused number file fault (d ∷ before) [] are = absurd are
  left_refused number file fault (d ∷ before) (a ∷ after) are =
      ⊎_elim (λ (z : (file ≡ number) × IsRefusedLog disks limits number d fault a × (after ≡ before)). (record { mark = z.1.refused.mark; kept = z.1.refused.kept }, subst (AreSameDisks disks before) (sym z.2) (left_same before)))
      (λ (z : WasLogOpened disks limits number d a × AreRefusedAt disks limits (number + 1) before file fault after). (subst (IsSameDisk disks d) (sym z.0.2) (opened_same number d z.0.0 z.0.1), left_refused (number + 1) file fault before after z.1)) are

  -- some files are opened; the disks of the others stand in reverse
  pub record Opening (all : List D) (opened : List (LogView D)) (others : List D) (file : ℕ) : Type 0 where
    pub firsts : List D
    pub all_is : all ≡ firsts ++ reverse others
    pub are : AreOpened disks limits 1 firsts opened
    pub count : length firsts ≡ file

  pub opens_none : (all : List D) → Opening all [] (reverse all) 0
  opens_none all = record { firsts = []; all_is = sym (reverse-reverse all); are = tt; count = refl }

  pub opens_all : (all : List D) (opened : List (LogView D)) (file : ℕ) → Opening all opened [] file → AreOpened disks limits 1 all opened
  opens_all all opened file o = subst (λ l. AreOpened disks limits 1 l opened) (sym (o.all_is ∙ append-nil o.firsts)) o.are

  module _ (all : List D) (opened : List (LogView D)) (rest : List D) (disk : D) (file : ℕ) (o : Opening all opened (rest ++ disk ∷ []) file) where
    all_are : all ≡ o.firsts ++ (disk ∷ reverse rest)
    all_are = o.all_is ∙ ap (λ l. o.firsts ++ l) (reverse-append rest (disk ∷ []))

    number_is : file + 1 ≡ 1 + length o.firsts
    number_is = omega (arith, o.count)

    pub opens_one : (log : LogView D) → IsOpened disks limits (file + 1) disk log → Opening all (opened ++ log ∷ []) rest (file + 1)
    opens_one log one = record {
      firsts = o.firsts ++ disk ∷ [];
      all_is = all_are ∙ sym (append_assoc o.firsts (disk ∷ []) (reverse rest));
      are = opened_one 1 (file + 1) o.firsts opened disk log number_is o.are one;
      count = omega (arith, o.count, length-append o.firsts (disk ∷ []));
    }

    pub refused_here : (fault : LogFault) (after : D) (left : List D) → IsRefusedLog disks limits (file + 1) disk fault after → left ≡ map (λ (log : LogView D). log.disk) opened ++ reverse (rest ++ after ∷ []) → AreRefusedAt disks limits 1 all (file + 1) fault left
    refused_here fault after left one left_is =
        let again = left_is ∙ ap (λ l. map (λ (log : LogView D). log.disk) opened ++ l) (reverse-append rest (after ∷ [])) in
        subst (λ (z : List D × List D). AreRefusedAt disks limits 1 z.0 (file + 1) fault z.1) (λ i. (sym all_are i, sym again i)) (refused_at 1 (file + 1) o.firsts opened disk after (reverse rest) fault number_is o.are one)

pub all_reverse : {A : Type 0} (P : A → Type 0) (xs : List A) → AllOf P xs → AllOf P (reverse xs)
all_reverse P [] all = tt
all_reverse P (x ∷ xs) all = subst (AllOf P) (sym (reverse-append (x ∷ []) xs)) (all_append P (reverse xs) (x ∷ []) (all_reverse P xs all.1) (all.0, tt))
