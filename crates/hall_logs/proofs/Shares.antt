-- Logs are shared one after another.
use Rattle.std.proofs.Common.{◌≡◌, ℕ, zero, suc, ◌+◌, ◌<◌, ◌≤◌, List, [], ◌∷◌, ◌++◌, map, length, refl, sym, ap, ◌∙◌, subst, inl, inr, append_assoc, arith, Some, slice_get}
use Rattle.std.specs.Prelude.{reverse}
use Rattle.std.specs.List.{AllZip}
use Rattle.std.proofs.lemmas.List.{append-nil, map-append, reverse-append}
use Rattle.std.proofs.lemmas.Slice.Zip.{AllZip-long}
use mathlib.Core.Logic.{dite}
use native.Mathlib.Decide.{ℕ_discrete}
use Rattle.disk_model.specs.declared.disk.Disk.{Ghosts}
use Rattle.patch_log.specs.State.{LogView}
use Rattle.turn_cell.specs.Turns.{IsIn, AllOf}
use Rattle.turn_cell.specs.Sights.{Made}
use Rattle.turn_cell.specs.Knowing.{pass_number}
use Rattle.turn_cell.specs.Sharing.{IsPassOf, IsNewPassOf}
use Rattle.shared_log.specs.History.{LogSight, shared_log}
use Rattle.hall_logs.specs.Dealt.{with_items}
use Rattle.hall_logs.specs.Slots.{LogsOfHall, ArePartsOf, AreNew, IsShared, AreAllHallPasses}

module _ {A B : Type 0} (R : A → B → Type 0) where
  pub zip_one : (xs : List A) (ys : List B) (x : A) (y : B) → AllZip R xs ys → R x y → AllZip R (xs ++ x ∷ []) (ys ++ y ∷ [])
  zip_one [] [] x y all one = (one, tt)
  zip_one [] (b ∷ ys) x y all one = absurd all
  zip_one (a ∷ xs) [] x y all one = absurd all
  zip_one (a ∷ xs) (b ∷ ys) x y all one = (all.0, zip_one xs ys x y all.1 one)

  zip_implies : (S : A → B → Type 0) → ((x : A) (y : B) → R x y → S x y) → (xs : List A) (ys : List B) → AllZip R xs ys → AllZip S xs ys
  zip_implies S f [] [] all = tt
  zip_implies S f [] (y ∷ ys) all = absurd all
  zip_implies S f (x ∷ xs) [] all = absurd all
  zip_implies S f (x ∷ xs) (y ∷ ys) all = (f x y all.0, zip_implies S f xs ys all.1)

module _ {D : Type 0} (disks : Ghosts D) where
  abbrev IsNewAt : ℕ → Made (LogView D) → LogSight → Type 0
  IsNewAt number log part = IsNewPassOf (shared_log disks) log number part

  new_one : (logs : List (Made (LogView D))) (log : Made (LogView D)) (number : ℕ) (passes : List (List LogSight)) (parts : List LogSight) → AreNew disks logs number passes → length parts ≡ length passes
      → ((k : ℕ) (part : LogSight) → slice_get parts k ≡ Some part → IsNewPassOf (shared_log disks) log (number + k) part) → AreNew disks (logs ++ log ∷ []) number (with_items passes parts)
  new_one logs log number [] parts are many new = tt
  new_one logs log number (pass ∷ passes) [] are many new = absurd (omega (arith, many))
  new_one logs log number (pass ∷ passes) (part ∷ parts) are many new =
      let here : IsNewPassOf (shared_log disks) log number part = subst (λ n. IsNewPassOf (shared_log disks) log n part) (omega arith) (new zero part refl) in (
        zip_one (IsNewAt number) logs pass log part are.0 here,
        new_one logs log (number + 1) passes parts are.1 (omega (arith, many)) (λ k p at. subst (λ n. IsNewPassOf (shared_log disks) log n p) (omega arith) (new (suc k) p at)),
      )

  joined_length : (passes : List (List LogSight)) (parts : List LogSight) → length (with_items passes parts) ≡ length passes
  joined_length [] parts = refl
  joined_length (pass ∷ passes) [] = refl
  joined_length (pass ∷ passes) (part ∷ parts) = ap (λ (n : ℕ). suc n) (joined_length passes parts)

  pub lengths_new : (logs : List (Made (LogView D))) (number : ℕ) (passes : List (List LogSight)) → AreNew disks logs number passes → AllOf (λ (parts : List LogSight). length parts ≡ length logs) passes
  lengths_new logs number [] are = tt
  lengths_new logs number (pass ∷ passes) are = (AllZip-long (IsNewAt number) logs pass are.0, lengths_new logs (number + 1) passes are.1)

  parts_new : (logs : List (Made (LogView D))) (number : ℕ) (passes : List (List LogSight)) → AreNew disks logs number passes → AllOf (ArePartsOf disks logs) passes
  parts_new logs number [] are = tt
  parts_new logs number (pass ∷ passes) are =
      (zip_implies (IsNewAt number) (IsPassOf (shared_log disks)) (λ log part new. new.0) logs pass are.0, parts_new logs (number + 1) passes are.1)

  numbers_new : (logs : List (Made (LogView D))) (number : ℕ) (pass : List LogSight) → AllZip (IsNewAt number) logs pass → AllOf (λ (part : LogSight). pass_number part ≡ number) pass
  numbers_new [] number [] all = tt
  numbers_new [] number (p ∷ pass) all = absurd all
  numbers_new (l ∷ logs) number [] all = absurd all
  numbers_new (l ∷ logs) number (p ∷ pass) all = (all.0.1, numbers_new logs number pass all.1)

  find_new : (logs : List (Made (LogView D))) (number : ℕ) (passes : List (List LogSight)) → AreNew disks logs number passes → (n : ℕ) → number ≤ n → n < number + length passes
      → (parts : List LogSight) × IsIn parts passes × AllOf (λ (part : LogSight). pass_number part ≡ n) parts
  find_new logs number [] are n low high = absurd (omega (arith, low, high))
  find_new logs number (pass ∷ passes) are n low high = dite (ℕ_discrete n number)
      (λ e. (pass, inl refl, subst (λ k. AllOf (λ (part : LogSight). pass_number part ≡ k) pass) (sym e) (numbers_new logs number pass are.0)))
      (λ ne. let more = find_new logs (number + 1) passes are.1 n (omega (arith, low, ne)) (omega (arith, high)) in (more.0, inr more.1, more.2))

  pub all_new : (logs : List (Made (LogView D))) (seats : ℕ) (passes : List (List LogSight)) → AreNew disks logs 1 passes → length passes ≡ seats → AreAllHallPasses disks logs seats passes
  all_new logs seats passes are count = record { of = parts_new logs 1 passes are; count = count; all = λ n positive high. find_new logs 1 passes are n positive (omega (arith, high, count)) }

  -- some logs are shared; the others stand in reverse
  pub record Sharing (all : List (LogView D)) (hall : LogsOfHall D) (opened : List (LogView D)) (passes : List (List LogSight)) : Type 0 where
    pub order : map (λ (log : Made (LogView D)). log.origin) hall.logs ++ reverse opened ≡ all
    pub new : AreNew disks hall.logs 1 passes
    pub count : length passes ≡ hall.seats

  none_new : (number : ℕ) (passes : List (List LogSight)) → AllOf (λ (parts : List LogSight). parts ≡ []) passes → AreNew disks [] number passes
  none_new number [] all = tt
  none_new number (pass ∷ passes) all = (subst (AllZip (IsNewAt number) []) (sym all.0) tt, none_new (number + 1) passes all.1)

  pub shares_none : (hall : LogsOfHall D) (opened : List (LogView D)) (passes : List (List LogSight)) → hall.logs ≡ [] → AllOf (λ (parts : List LogSight). parts ≡ []) passes → length passes ≡ hall.seats → Sharing (reverse opened) hall opened passes
  shares_none hall opened passes none empty count = record {
    order = ap (λ (logs : List (Made (LogView D))). map (λ (log : Made (LogView D)). log.origin) logs ++ reverse opened) none;
    new = subst (λ (logs : List (Made (LogView D))). AreNew disks logs 1 passes) (sym none) (none_new 1 passes empty);
    count = count;
  }

  pub shares_one : (all : List (LogView D)) (hall next : LogsOfHall D) (opened rest : List (LogView D)) (log : LogView D) (passes after : List (List LogSight)) → opened ≡ rest ++ log ∷ [] → Sharing all hall opened passes → IsShared disks log hall passes next after
      → Sharing all next rest after
  shares_one all hall next opened rest log passes after popped s one =
      let origin = λ (log : Made (LogView D)). log.origin in
      record {
        order = (λ i. map origin (one.logs_are i) ++ reverse rest) ∙ ap (λ l. l ++ reverse rest) (map-append origin hall.logs (one.log ∷ [])) ∙ append_assoc (map origin hall.logs) (one.log.origin ∷ []) (reverse rest)
            ∙ (λ i. map origin hall.logs ++ (one.origin_is i ∷ reverse rest)) ∙ ap (λ l. map origin hall.logs ++ l) (sym (reverse-append rest (log ∷ []))) ∙ ap (λ l. map origin hall.logs ++ reverse l) (sym popped) ∙ s.order;
        new = subst (λ (z : List (Made (LogView D)) × List (List LogSight)). AreNew disks z.0 1 z.1) (λ i. (sym one.logs_are i, sym one.dealt i))
            (new_one hall.logs one.log 1 passes one.parts s.new one.count (λ k part at. subst (λ n. IsNewPassOf (shared_log disks) one.log n part) (omega arith) (one.new_parts k part at)));
        count = ap length one.dealt ∙ joined_length passes one.parts ∙ s.count ∙ sym one.seats_are;
      }

  pub shares_all : (all : List (LogView D)) (hall : LogsOfHall D) (passes : List (List LogSight)) → Sharing all hall [] passes → map (λ (log : Made (LogView D)). log.origin) hall.logs ≡ all
  shares_all all hall passes s = sym (append-nil (map (λ (log : Made (LogView D)). log.origin) hall.logs)) ∙ s.order
