-- Logs are closed from the last one on.
use Rattle.std.proofs.Common.{◌≡◌, ℕ, ◌+◌, ◌<◌, List, [], ◌∷◌, ◌++◌, map, length, length-append, length-take, take, refl, sym, ap, ◌∙◌, subst, append_assoc, arith, Some, slice_get}
use Rattle.std.specs.Prelude.{reverse}
use Rattle.std.proofs.lemmas.List.{append-nil, length-map, reverse-append, take_all}
use Rattle.disk_model.specs.declared.disk.Disk.{Ghosts}
use Rattle.disk_model.specs.Past.{reads, MayLeave}
use Rattle.patch_log.specs.State.{LogView}
use Rattle.turn_cell.specs.Turns.{AllOf}
use Rattle.turn_cell.specs.Sights.{Made}
use Rattle.shared_log.specs.History.{LogSight, shared_log}
use Rattle.turn_cell.specs.Sharing.{AreAllPassesOf, IsClosedOf}
use Rattle.hall_logs.specs.Dealt.{with_items}
use Rattle.hall_logs.specs.Ends.{parts_at, Ends, AreEnded}
use Rattle.hall_logs.specs.Slots.{AreAllHallPasses}
use Rattle.hall_logs.proofs.Parts.{get_middle}
use Rattle.hall_logs.proofs.Columns.{take_lasts, lengths, column}

module _ {D : Type 0} (disks : Ghosts D) where
  pub ended : (log : Made (LogView D)) (parts : List LogSight) (state : LogView D) (disk : D) → disk ≡ state.disk → IsClosedOf (shared_log disks) log parts state
      → (disks.tells → MayLeave (disks.past disk) (reads (disks.past disk))) → Ends disks log parts disk
  ended log parts state disk is closed left = record {
    log = state;
    closed = closed;
    disk_is = is;
    file = λ told. (closed.stands.stands told).each (reads (disks.past disk)) (subst (λ (d : D). MayLeave (disks.past d) (reads (disks.past disk))) is (left told));
  }

  -- some logs are closed, and the passes have their parts of the others still
  pub record Closing (all : List (Made (LogView D))) (seats : ℕ) (whole : List (List LogSight)) (logs : List (Made (LogView D))) (passes : List (List LogSight)) (given : List D) : Type 0 where
    pub are : AreAllHallPasses disks all seats whole
    pub alike : AllOf (λ (log : Made (LogView D)). log.seats ≡ seats) all
    pub closed : List (Made (LogView D))
    pub all_is : all ≡ logs ++ closed
    pub ends : AreEnded disks (length logs) closed whole (reverse given)
    pub left : passes ≡ map (take (length logs)) whole
    pub many : length given + length logs ≡ length all

  all_left : (n : ℕ) (whole : List (List LogSight)) → AllOf (λ (parts : List LogSight). length parts ≡ n) whole → whole ≡ map (take n) whole
  all_left n [] all = refl
  all_left n (parts ∷ whole) all = λ i. sym (take_all n parts (omega (arith, all.0))) i ∷ all_left n whole all.1 i

  pub begins : (all : List (Made (LogView D))) (seats : ℕ) (whole : List (List LogSight)) → AreAllHallPasses disks all seats whole → AllOf (λ (log : Made (LogView D)). log.seats ≡ seats) all → Closing all seats whole all whole []
  begins all seats whole are alike = record { are = are; alike = alike; closed = []; all_is = sym (append-nil all); ends = tt; left = all_left (length all) whole (lengths disks all whole are.of); many = omega arith }

  -- before the last of the logs that are left
  module _ (all : List (Made (LogView D))) (seats : ℕ) (whole : List (List LogSight)) (rest : List (Made (LogView D))) (log : Made (LogView D)) (passes : List (List LogSight)) (given : List D) (before : Closing all seats whole (rest ++ log ∷ []) passes given) where
    one_less : length (rest ++ log ∷ []) ≡ length rest + 1
    one_less = length-append rest (log ∷ [])

    long : AllOf (λ (parts : List LogSight). length parts ≡ length all) whole
    long = lengths disks all whole before.are.of

    log_at : slice_get all (length rest) ≡ Some log
    log_at = ap (λ l. slice_get l (length rest)) (before.all_is ∙ append_assoc rest (log ∷ []) before.closed) ∙ get_middle rest log before.closed

    within : length rest < length all
    within = omega (arith, before.many, one_less, ap length before.all_is, length-append (rest ++ log ∷ []) before.closed)

    -- no pass is missing, and each has a part of the log
    pub counted : length passes ≡ seats
    counted = ap length before.left ∙ length-map whole (take (length (rest ++ log ∷ []))) ∙ before.are.count

    pub longs : AllOf (λ (parts : List LogSight). 0 < length parts) passes
    longs = subst (AllOf (λ (parts : List LogSight). 0 < length parts)) (sym before.left) (each whole long)
      where
        each : (l : List (List LogSight)) → AllOf (λ (parts : List LogSight). length parts ≡ length all) l → AllOf (λ (parts : List LogSight). 0 < length parts) (map (take (length (rest ++ log ∷ []))) l)
        each [] a = tt
        each (parts ∷ l) a = (omega (arith, a.0, within, one_less, length-take (length (rest ++ log ∷ [])) parts), each l a.1)

    -- and behind it
    module _ (after : List (List LogSight)) (parts : List LogSight) (gathered : passes ≡ with_items after parts) (count : length after ≡ length passes) (many : length parts ≡ length passes) where
      lasts : (after ≡ map (take (length rest)) whole) × (parts ≡ parts_at (length rest) whole)
      lasts =
          let same = ap length before.left ∙ length-map whole (take (length (rest ++ log ∷ []))) in
          take_lasts whole after parts (length rest) (longer whole long) (count ∙ same) (many ∙ same) (ap (λ n. map (take n) whole) (sym one_less) ∙ sym before.left ∙ gathered)
        where
          longer : (l : List (List LogSight)) → AllOf (λ (parts : List LogSight). length parts ≡ length all) l → AllOf (λ (parts : List LogSight). length rest < length parts) l
          longer [] a = tt
          longer (parts ∷ l) a = (omega (arith, within, a.0), longer l a.1)

      pub parts_are : AreAllPassesOf (shared_log disks) log parts
      parts_are = subst (AreAllPassesOf (shared_log disks) log) (sym lasts.1) (column disks all (length rest) log log_at within seats whole before.alike before.are)

      pub one_more : (disk : D) → Ends disks log parts disk → Closing all seats whole rest after (given ++ disk ∷ [])
      one_more disk end = record {
        are = before.are;
        alike = before.alike;
        closed = log ∷ before.closed;
        all_is = before.all_is ∙ append_assoc rest (log ∷ []) before.closed;
        ends = rw (reverse-append given (disk ∷ [])) (subst (λ r. Ends disks log r disk) lasts.1 end, subst (λ n. AreEnded disks n before.closed whole (reverse given)) one_less before.ends);
        left = lasts.0;
        many = omega (arith, before.many, one_less, length-append given (disk ∷ []));
      }

  pub all_closed : (all : List (Made (LogView D))) (seats : ℕ) (whole passes : List (List LogSight)) (given : List D) → Closing all seats whole [] passes given → AreEnded disks 0 all whole (reverse given)
  all_closed all seats whole passes given c = subst (λ l. AreEnded disks 0 l whole (reverse given)) (sym c.all_is) c.ends
