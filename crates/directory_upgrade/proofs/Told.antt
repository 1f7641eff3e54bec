-- The number of slots that a payload tells.
use Rattle.std.proofs.Common.{◌≡◌, ◌⊎◌, inl, inr, ℕ, suc, ◌+◌, ◌-◌, ◌^◌, ◌<◌, ◌≤◌, min, cond, Ok, Err, List, [], ◌∷◌, length, take, get_or, refl, sym, ◌∙◌, ap, subst, arith}
use Rattle.std.specs.Fmt.{decimal}
use Rattle.std.specs.Prelude.{Result, IfOk, IfErr, slice_index, slice_index_or}
use Rattle.std.proofs.Math.Seq.{take-nil}
use Rattle.std.proofs.lemmas.Fmt.{length-decimal-le}
use Rattle.std.proofs.lemmas.List.{take_all}
use Rattle.std.proofs.lemmas.List.Sums.{get_or-le-sum_by}
use Rattle.disk_model.specs.Past.{Past, reads}
use Rattle.log_journal.specs.File.{HoldsIn, Holds}
use Rattle.log_journal.specs.Front.{HasFirst}
use Rattle.log_journal.specs.declared.at_front.FrontFault.{FrontFault}
use Rattle.log_journal.specs.declared.at_front.FrontFault.TheVariants as front
use Rattle.log_journal.specs.declared.fault.JournalFault.{JournalFault}
use Rattle.log_journal.specs.declared.form.Form.{Form}
use Rattle.log_journal.specs.declared.form.Form.TheVariants.{Old, New}
use Rattle.journal_upgrade.specs.Copies.{past_at, count_old, is_old}
use Rattle.journal_upgrade.specs.Faults.{HasFirstFault, IsFaulty, IsFileFault, IsUpgradeFault}
use Rattle.journal_upgrade.specs.declared.fault.UpgradeFault.{UpgradeFault}
use Rattle.journal_upgrade.specs.declared.fault.UpgradeFault.TheVariants as upgrade
use Rattle.slot_checks.specs.Faults.{check_fault_of_front}
use Rattle.slot_checks.specs.declared.fault.CheckFault.{CheckFault}
use Rattle.slot_checks.specs.declared.fault.CheckFault.TheVariants as check
use Rattle.directory_upgrade.specs.Faults.{check_fault_of_upgrade}
use Rattle.directory_upgrade.proofs.Fronts.{first_of, front_is_well, none_of}
use Rattle.registry_core.specs.declared.event.Event.{Event}
use Rattle.registry_core.specs.Events.{IsRegistryFile, BreaksAtEvent}
use Rattle.registry_core.specs.Texts.{slots_payload}
use Rattle.directory_upgrade.specs.Slots.{TellsSlots, LacksSlots, FrontTells, FrontStops, FileTells, FileStops, faulty, untold, faulty_file, untold_file}

pub registry_tells : (payload : List ℕ) (slots : ℕ) (events : List Event) → IsRegistryFile (payload ∷ []) slots events → TellsSlots payload slots
registry_tells payload slots events file = (file.1.is_slot, sym (ap (λ (l : List (List ℕ)). get_or l 0 []) file.0))

pub broken_lacks : (payload : List ℕ) (place : ℕ) → BreaksAtEvent (payload ∷ []) place → LacksSlots (payload ∷ [])
broken_lacks payload place breaks slots tells =
    let e : place + 1 ≡ suc place = omega arith in
    let whole : take (place + 1) (payload ∷ []) ≡ payload ∷ [] = ap (λ (n : ℕ). take n (payload ∷ [])) e ∙ ap (λ (l : List (List ℕ)). payload ∷ l) (take-nil place) in
    breaks.broken slots [] (ap (λ (p : List ℕ). p ∷ []) (sym tells.1) ∙ sym whole, record { is_slot = tells.0; are_next = tt })

-- one that tells it is short
pub long_lacks : (payload : List ℕ) → 64 < length payload → LacksSlots (payload ∷ [])
long_lacks payload long slots tells =
    let few : slots < 2 ^ 64 = omega (arith, tells.0.1) in
    let short : length (decimal slots) ≤ 2 = length-decimal-le 2 slots (omega arith) (omega (arith, tells.0.1)) few in
    absurd (omega (arith, long, ap length tells.1, short))

-- ---- what is shown of it

pub shown_whole : (payload shown : List ℕ) (size : ℕ) → size ≤ 64 → size ≡ length payload → shown ≡ take 64 payload → shown ≡ payload
shown_whole payload shown size low long is = is ∙ take_all 64 payload (omega (arith, low, long))

pub told_of_shown : (payload shown : List ℕ) (size : ℕ) (r : Result ℕ CheckFault) → size ≤ 64 → size ≡ length payload → shown ≡ take 64 payload → IfOk r (TellsSlots shown) → IfOk r (TellsSlots payload)
told_of_shown payload shown size (Ok slots) low long is tells = subst (λ (p : List ℕ). TellsSlots p slots) (shown_whole payload shown size low long is) tells
told_of_shown payload shown size (Err fault) low long is tells = tt

abbrev LacksTold : List ℕ → CheckFault → Type 0
LacksTold payload fault = (fault ≡ check.OutOfMemory) ⊎ ((fault ≡ check.BrokenEvent 0) × LacksSlots (payload ∷ []))

pub lacking_of_shown : (payload shown : List ℕ) (size : ℕ) (r : Result ℕ CheckFault) → size ≤ 64 → size ≡ length payload → shown ≡ take 64 payload → IfErr r (LacksTold shown) → IfErr r (LacksTold payload)
lacking_of_shown payload shown size (Ok slots) low long is lacks = tt
lacking_of_shown payload shown size (Err fault) low long is lacks = subst (λ (p : List ℕ). LacksTold p fault) (shown_whole payload shown size low long is) lacks

-- ---- at the front of a file

module _ (file : List ℕ) (number : ℕ) (payload : List ℕ) (r : Result ℕ CheckFault) (has : HasFirst file number payload) where
  pub shown_tells : IfOk r (TellsSlots payload) → IfOk r (FrontTells file number)
  shown_tells tells = by r tells
    where
      by : (r : Result ℕ CheckFault) → IfOk r (TellsSlots payload) → IfOk r (FrontTells file number)
      by (Ok slots) tells = (tells.0, subst (HasFirst file number) tells.1 has)
      by (Err fault) tells = tt

  pub shown_stops : IfErr r (LacksTold payload) → IfErr r (FrontStops file number)
  shown_stops lacks = by r lacks
    where
      by : (r : Result ℕ CheckFault) → IfErr r (LacksTold payload) → IfErr r (FrontStops file number)
      by (Ok slots) lacks = tt
      by (Err fault) (inl short) = subst (FrontStops file number) (sym short) (faulty front.OutOfMemory tt)
      by (Err fault) (inr broken) = subst (FrontStops file number) (sym broken.0) (untold (inr (payload, has, broken.1)))

-- ---- in a file that holds payloads as they are written, which another one holds in either form

module _ (file other : List ℕ) (number : ℕ) (form : Form) (payloads : List (List ℕ)) (fits : number < 2 ^ 32) (held : HoldsIn form file 0 payloads) (holds : Holds other number payloads) where
  pub tells_of : (slots : ℕ) → FrontTells other number slots → FileTells file slots
  tells_of slots tells =
      let first = first_of other number payloads (slots_payload slots) holds tells.1 in
      record { payload = slots_payload slots; more = first.0; holds = (form, subst (HoldsIn form file 0) first.1 held); tells = (tells.0, refl) }

  free_of : (why : FrontFault) → (why ≡ front.Failed) ⊎ (why ≡ front.OutOfMemory) → FileStops file (check_fault_of_front number why)
  free_of why (inl is) = subst (λ (w : FrontFault). FileStops file (check_fault_of_front number w)) (sym is) (faulty_file upgrade.Failed tt)
  free_of why (inr is) = subst (λ (w : FrontFault). FileStops file (check_fault_of_front number w)) (sym is) (faulty_file upgrade.OutOfMemory tt)

  pub stops_of : (fault : CheckFault) → FrontStops other number fault → FileStops file fault
  stops_of fault (faulty why is) = free_of why (front_is_well other number payloads fits holds why is)
  stops_of fault (untold (inl nothing)) = untold_file payloads (form, held) (subst LacksSlots (sym (none_of other number payloads holds nothing)) tt)
  stops_of fault (untold (inr first)) =
      let one = first_of other number payloads first.0 holds first.1 in
      untold_file payloads (form, held) (subst LacksSlots (sym one.1) first.2)

  pub tells_all : (r : Result ℕ CheckFault) → IfOk r (FrontTells other number) → IfOk r (FileTells file)
  tells_all (Ok slots) tells = tells_of slots tells
  tells_all (Err fault) tells = tt

  pub stops_all : (r : Result ℕ CheckFault) → IfErr r (FrontStops other number) → IfErr r (FileStops file)
  stops_all (Ok slots) stops = tt
  stops_all (Err fault) stops = stops_of fault stops

-- ---- where the registry's file is the only one

form_is : (form : Form) → cond (is_old form) 1 0 ≤ 0 → form ≡ New
form_is Old none = absurd (omega (arith, none))
form_is New none = refl

-- the only form isn't the old one
pub only_new : (forms : List Form) → length forms ≡ 1 → 0 ≡ min (count_old forms) (2 ^ 32 - 1) → slice_index_or forms 0 New ≡ New
only_new forms one none =
    let zero_old : count_old forms ≡ 0 = omega (arith, none) in
    form_is (get_or forms 0 New) (omega (arith, zero_old, get_or-le-sum_by (λ (f : Form). cond (is_old f) 1 0) forms 0 New (omega (arith, one))))

module _ {D : Type 0} (past : D → Past) (files : List D) where
  only_fault : (file : ℕ) (fault : JournalFault) → HasFirstFault past 0 (0 ∷ []) files file fault → (file ≡ 0) × IsFaulty 0 (reads (past_at past files 0)) 0 fault
  only_fault file fault first =
      let at : first.place ≡ 0 = omega (arith, first.within) in
      let is : file ≡ 0 = first.file_is ∙ ap (λ (n : ℕ). slice_index (0 ∷ []) n + 0) at in
      (is, subst (λ (h : ℕ). IsFaulty 0 (reads (past_at past files 0)) h fault) is (subst (λ (n : ℕ). IsFaulty (slice_index (0 ∷ []) n) (reads (past_at past files n)) file fault) at first.faulty))

  only_stops : (fault : UpgradeFault) → IsUpgradeFault past 0 (0 ∷ []) files fault → IsFileFault 0 0 (reads (past_at past files 0)) fault
  only_stops (upgrade.Damaged file at) first = only_fault file _ first
  only_stops (upgrade.WrongNumber file found) first = only_fault file _ first
  only_stops (upgrade.OverLimit file size limit) first = only_fault file _ first
  only_stops upgrade.Failed first = tt
  only_stops upgrade.OutOfMemory first = tt

  pub file_stops : (fault : UpgradeFault) → IsUpgradeFault past 0 (0 ∷ []) files fault → FileStops (reads (past_at past files 0)) (check_fault_of_upgrade fault)
  file_stops fault has = faulty_file fault (only_stops fault has)
