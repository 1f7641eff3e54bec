-- The parts of one log, of all passes.
use Rattle.std.proofs.Common.{◌≡◌, ℕ, zero, suc, ◌+◌, ◌<◌, List, [], ◌∷◌, ◌++◌, map, length, take, refl, sym, ap, ◌∙◌, subst, ⊎_elim, inl, inr, add-one, arith, Option, Some, None, slice_get}
use Rattle.std.specs.List.{filter_map, cons_option}
use Rattle.std.proofs.lemmas.Slice.Zip.{AllZip-long}
use Rattle.disk_model.specs.declared.disk.Disk.{Ghosts}
use Rattle.patch_log.specs.State.{LogView}
use Rattle.turn_cell.specs.Turns.{IsIn, AllOf}
use Rattle.turn_cell.specs.Sights.{Made, AreAll}
use Rattle.turn_cell.specs.Knowing.{pass_number}
use Rattle.turn_cell.proofs.Views.{all_map}
use Rattle.turn_cell.proofs.Ends.{all_in}
use Rattle.turn_cell.specs.Sharing.{IsPassOf, AreAllPassesOf}
use Rattle.shared_log.specs.History.{LogSight, shared_log}
use Rattle.hall_logs.specs.Dealt.{with_items}
use Rattle.hall_logs.specs.Ends.{parts_at}
use Rattle.hall_logs.specs.Slots.{ArePartsOf, AreAllHallPasses}
use Rattle.hall_logs.proofs.Parts.{zip_at}

module _ {A : Type 0} where
  -- the last item of a front
  take_last : (list front : List A) (item : A) (n : ℕ) → n < length list → take (suc n) list ≡ front ++ item ∷ [] → (front ≡ take n list) × (slice_get list n ≡ Some item)
  take_last [] front item n low is = absurd (omega (arith, low))
  take_last (x ∷ list) [] item zero low is = (refl, let same : x ≡ item = cc in ap Some same)
  take_last (x ∷ []) [] item (suc n) low is = absurd (omega (arith, low))
  take_last (x ∷ y ∷ list) [] item (suc n) low is = let c = is in cc
  take_last (x ∷ list) (y ∷ []) item zero low is = let c = is in cc
  take_last (x ∷ list) (y ∷ z ∷ front) item zero low is = let c = is in cc
  take_last (x ∷ list) (y ∷ front) item (suc n) low is =
      let head : x ≡ y = cc in
      let rest : take (suc n) list ≡ front ++ item ∷ [] = cc in
      let more = take_last list front item n (omega (arith, low)) rest in
      ((λ i. sym head i ∷ more.0 i), more.1)

  -- the last items of fronts
  pub take_lasts : (lists fronts : List (List A)) (items : List A) (n : ℕ) → AllOf (λ (list : List A). n < length list) lists → length fronts ≡ length lists → length items ≡ length lists → map (take (n + 1)) lists ≡ with_items fronts items
      → (fronts ≡ map (take n) lists) × (items ≡ filter_map (λ (list : List A). slice_get list n) lists)
  take_lasts [] [] [] n long count many is = (refl, refl)
  take_lasts [] [] (item ∷ items) n long count many is = absurd (omega (arith, many))
  take_lasts [] (front ∷ fronts) items n long count many is = absurd (omega (arith, count))
  take_lasts (list ∷ lists) [] items n long count many is = absurd (omega (arith, count))
  take_lasts (list ∷ lists) (front ∷ fronts) [] n long count many is = absurd (omega (arith, many))
  take_lasts (list ∷ lists) (front ∷ fronts) (item ∷ items) n long count many is =
      let head : take (n + 1) list ≡ front ++ item ∷ [] = cc in
      let rest : map (take (n + 1)) lists ≡ with_items fronts items = cc in
      let one = take_last list front item n long.0 (ap (λ k. take k list) (sym (add-one n)) ∙ head) in
      let more = take_lasts lists fronts items n long.1 (omega (arith, count)) (omega (arith, many)) rest in
      ((λ i. one.0 i ∷ more.0 i), (λ i. item ∷ more.1 i) ∙ ap (λ o. cons_option o (filter_map (λ (list : List A). slice_get list n) lists)) (sym one.1))

  all_at : (P : A → Type 0) (xs : List A) (k : ℕ) (x : A) → AllOf P xs → slice_get xs k ≡ Some x → P x
  all_at P [] k x all is = let c = is in cc
  all_at P (y ∷ xs) zero x all is = let same : y ≡ x = cc in subst P same all.0
  all_at P (y ∷ xs) (suc k) x all is = all_at P xs k x all.1 is

  in_column : (lists : List (List A)) (list : List A) (item : A) (n : ℕ) → IsIn list lists → slice_get list n ≡ Some item → IsIn item (filter_map (λ (l : List A). slice_get l n) lists)
  in_column [] list item n there is = absurd there
  in_column (l ∷ lists) list item n there is =
      ⊎_elim (λ (e : list ≡ l). here l lists (sym (ap (λ x. slice_get x n) e) ∙ is)) (λ (i : IsIn list lists). behind (slice_get l n) (filter_map (λ (l : List A). slice_get l n) lists) (in_column lists list item n i is)) there
    where
      here : (l : List A) (lists : List (List A)) → slice_get l n ≡ Some item → IsIn item (filter_map (λ (l : List A). slice_get l n) (l ∷ lists))
      here l lists is = subst (λ o. IsIn item (cons_option o (filter_map (λ (l : List A). slice_get l n) lists))) (sym is) (inl refl)

      behind : (o : Option A) (rest : List A) → IsIn item rest → IsIn item (cons_option o rest)
      behind None rest i = i
      behind (Some x) rest i = inr i

module _ {D : Type 0} (disks : Ghosts D) (logs : List (Made (LogView D))) where
  some_part : (parts : List LogSight) (place : ℕ) → place < length parts → (part : LogSight) × (slice_get parts place ≡ Some part)
  some_part [] place low = absurd (omega (arith, low))
  some_part (part ∷ parts) zero low = (part, refl)
  some_part (part ∷ parts) (suc place) low = some_part parts place (omega (arith, low))

  pub lengths : (passes : List (List LogSight)) → AllOf (ArePartsOf disks logs) passes → AllOf (λ (parts : List LogSight). length parts ≡ length logs) passes
  lengths passes all = all_map (ArePartsOf disks logs) (λ (parts : List LogSight). length parts ≡ length logs) (λ parts of. AllZip-long (IsPassOf (shared_log disks)) logs parts of) passes all

  module _ (place : ℕ) (log : Made (LogView D)) (at : slice_get logs place ≡ Some log) (low : place < length logs) where
    -- the parts of one log are passes of it
    column_of : (passes : List (List LogSight)) → AllOf (ArePartsOf disks logs) passes → AllOf (IsPassOf (shared_log disks) log) (parts_at place passes)
    column_of [] all = tt
    column_of (parts ∷ passes) all =
        let some = some_part parts place (omega (arith, low, AllZip-long (IsPassOf (shared_log disks)) logs parts all.0)) in
        let of : IsPassOf (shared_log disks) log some.0 = zip_at (IsPassOf (shared_log disks)) logs parts place log some.0 all.0 at some.1 in
        subst (λ o. AllOf (IsPassOf (shared_log disks) log) (cons_option o (parts_at place passes))) (sym some.1) (of, column_of passes all.1)

    column_all : (seats : ℕ) (passes : List (List LogSight)) → AreAllHallPasses disks logs seats passes → AreAll seats (parts_at place passes)
    column_all seats passes are n positive high =
        let one = are.all n positive high in
        let of : ArePartsOf disks logs one.0 = all_in (ArePartsOf disks logs) passes one.0 are.of one.1 in
        let some = some_part one.0 place (omega (arith, low, AllZip-long (IsPassOf (shared_log disks)) logs one.0 of)) in
        (some.0, in_column passes one.0 some.0 place one.1 some.1, all_at (λ (part : LogSight). pass_number part ≡ n) one.0 place some.0 one.2 some.1)

    -- all passes have all parts of it
    pub column : (seats : ℕ) (passes : List (List LogSight)) → AllOf (λ (log : Made (LogView D)). log.seats ≡ seats) logs → AreAllHallPasses disks logs seats passes → AreAllPassesOf (shared_log disks) log (parts_at place passes)
    column seats passes alike are =
        (column_of passes are.of, subst (λ n. AreAll n (parts_at place passes)) (sym (all_at (λ (log : Made (LogView D)). log.seats ≡ seats) logs place log alike at)) (column_all seats passes are))
