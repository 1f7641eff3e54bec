-- How far a pass over files has come.
use Rattle.std.proofs.Common.{◌≡◌, ◌≢◌, ℕ, ◌+◌, ◌-◌, ◌^◌, ◌<◌, min, cond, List, [], ◌∷◌, ◌++◌, length, get_or, drop, map, sym, ◌∙◌, ap, subst, arith, below_more}
use Rattle.std.specs.Prelude.{slice_index, slice_index_or}
use Rattle.std.proofs.Math.ListN.{set}
use Rattle.std.proofs.lemmas.List.{length-map, map-set, set-get_or, get_or-map, get_or-drop, get_or-set_same, drop-drop, drop-set-lt, get_or_append_left, get_or_push}
use Rattle.std.proofs.lemmas.List.Sums.{sum_by-append}
use Rattle.delta_base.specs.Outside.{Rose}
use Rattle.disk_model.specs.Past.{Past, began, reads, synced, EveryImage, Keeps}
use Rattle.log_journal.specs.declared.form.Form.{Form}
use Rattle.log_journal.specs.declared.form.Form.TheVariants.{New}
use Rattle.journal_upgrade.specs.Copies.{past_at, IsWell, IsCopy, IsBrought, AreKept, OneRose, is_old, count_old}
use Rattle.log_journal.specs.declared.fault.JournalFault.{JournalFault}
use Rattle.log_journal.specs.declared.fault.JournalFault.TheVariants as journal
use Rattle.journal_upgrade.specs.Faults.{IsFaulty, IsFileFault, HasFirstFault, IsUpgradeFault}
use Rattle.journal_upgrade.specs.declared.fault.UpgradeFault.{UpgradeFault}
use Rattle.journal_upgrade.specs.declared.fault.UpgradeFault.TheVariants.{Failed, Damaged, WrongNumber, OverLimit, OutOfMemory}
use Rattle.journal_upgrade.proofs.Sets.{at_place, elsewhere, one_kept}

-- of the files before a place each is whole, and in this form
abbrev pub WellBelow : {D : Type 0} → (D → Past) → ℕ → List ℕ → List D → List Form → ℕ → Type 0
WellBelow past more numbers disks forms i = (j : ℕ) → j < i → IsWell (slice_index_or forms j New) (slice_index numbers j) (reads (past_at past disks j)) (slice_index numbers j + more)

-- each is synced
abbrev pub SyncedBelow : {D : Type 0} → (D → Past) → List D → ℕ → Type 0
SyncedBelow past disks i = (j : ℕ) → j < i → EveryImage (past_at past disks j) (λ image. image ≡ reads (past_at past disks j))

-- each is copied
abbrev pub CopiesBelow : {D : Type 0} → (D → Past) → ℕ → ℕ → List ℕ → List D → List D → ℕ → Type 0
CopiesBelow past from_more to_more numbers froms tos i = (j : ℕ) → j < i → IsCopy (slice_index numbers j + from_more) (slice_index numbers j + to_more) (past_at past froms j) (past_at past tos j)

-- each is brought to its copy
abbrev pub BroughtBelow : {D : Type 0} → (D → Past) → ℕ → ℕ → List ℕ → List D → List Form → List D → ℕ → Type 0
BroughtBelow past from_more to_more numbers olds forms news i = (j : ℕ) → j < i → IsBrought (slice_index_or forms j New) (slice_index numbers j) (slice_index numbers j + from_more) (slice_index numbers j + to_more) (reads (past_at past olds j)) (past_at past news j)

-- what is brought was whole
pub were_well : {D : Type 0} (past : D → Past) (from_more to_more : ℕ) (numbers : List ℕ) (olds : List D) (forms : List Form) (news : List D) (i : ℕ) → BroughtBelow past from_more to_more numbers olds forms news i → WellBelow past from_more numbers olds forms i
were_well past from_more to_more numbers olds forms news i so_far j before = let b = so_far j before in record { payloads = b.payloads; holds = b.held; within = b.within }

-- what stands behind a place stands at it
same_item : {D : Type 0} (old mid : List D) (i : ℕ) (d : D) → drop i mid ≡ drop i old → get_or mid i d ≡ get_or old i d
same_item {D = D} old mid i d behind =
    let here : i + 0 ≡ i = omega arith in
    ap (λ (n : ℕ). get_or mid n d) (sym here)
    ∙ sym (get_or-drop i mid 0 d)
    ∙ ap (λ (l : List D). get_or l 0 d) behind
    ∙ get_or-drop i old 0 d
    ∙ ap (λ (n : ℕ). get_or old n d) here

pub behind_more : {D : Type 0} (old mid : List D) (i : ℕ) (disk : D) → drop i mid ≡ drop i old → drop (i + 1) (set mid i disk) ≡ drop (i + 1) old
behind_more {D = D} old mid i disk behind = drop-set-lt (i + 1) mid i disk (omega arith) ∙ sym (drop-drop 1 i mid) ∙ ap (λ (l : List D). drop 1 l) behind ∙ drop-drop 1 i old

-- what no call changes
pub same_all : {D X : Type 0} (f : D → X) (old mid : List D) (i : ℕ) (d disk : D) → i < length mid → map f mid ≡ map f old → f disk ≡ f (get_or mid i d) → map f (set mid i disk) ≡ map f old
same_all f old mid i d disk within so_far same =
    map-set f mid i disk
    ∙ ap (λ x. set (map f mid) i x) (same ∙ sym (get_or-map f mid i d (f d) within))
    ∙ set-get_or (map f mid) i (f d)
    ∙ so_far

-- one step over disks of which those from a place on are untouched
module _ {D : Type 0} (past : D → Past) (old mid : List D) (i : ℕ) (d disk : D) (within : i < length mid) (many : length mid ≡ length old) (behind : drop i mid ≡ drop i old) where
  abbrev item : D
  item = get_or mid i d

  item_within : i < length old
  item_within = omega (arith, within, many)

  -- what is said of each disk is said of the one at this place
  at_first : {X : Type 0} (f : D → X) (e : X) → get_or (map f old) i e ≡ f item
  at_first f e = get_or-map f old i d e item_within ∙ ap f (sym (same_item old mid i d behind))

  pub here : past_at past old i ≡ past item
  here = at_first past (began [])

  pub kept_more : AreKept past old mid → Keeps (past item) (past disk) → AreKept past old (set mid i disk)
  kept_more so_far keeps = one_kept past old mid i disk so_far within (subst (λ (p : Past). Keeps p (past disk)) (sym (get_or-map past mid i d (began []) within)) keeps)

  pub rose : (faults : D → ℕ) → Rose (faults item) (faults disk) → OneRose faults old (set mid i disk)
  rose faults risen =
      let before = at_first faults 0 in
      let after : get_or (map faults (set mid i disk)) i 0 ≡ faults disk = ap (λ (l : List ℕ). get_or l i 0) (map-set faults mid i disk) ∙ get_or-set_same (map faults mid) i (faults disk) 0 (omega (arith, within, length-map mid faults)) in
      (i, item_within, subst (λ (n : ℕ). Rose n (get_or (map faults (set mid i disk)) i 0)) (sym before) (subst (λ (n : ℕ). Rose (faults item) n) (sym after) risen))

  pub well_more : (more : ℕ) (numbers : List ℕ) (forms : List Form) (form : Form) → length forms ≡ i → WellBelow past more numbers old forms i → IsWell form (slice_index numbers i) (reads (past item)) (slice_index numbers i + more) → WellBelow past more numbers old (forms ++ form ∷ []) (i + 1)
  well_more more numbers forms form count so_far well =
      below_more (λ j. IsWell (slice_index_or (forms ++ form ∷ []) j New) (slice_index numbers j) (reads (past_at past old j)) (slice_index numbers j + more)) i
      (λ j before. subst (λ (f : Form). IsWell f (slice_index numbers j) (reads (past_at past old j)) (slice_index numbers j + more)) (sym (get_or_append_left forms (form ∷ []) New j (omega (arith, before, count)))) (so_far j before))
      (subst (λ (f : Form). IsWell f (slice_index numbers i) (reads (past_at past old i)) (slice_index numbers i + more)) (sym (get_or_push forms form New i count))
      (subst (λ (p : Past). IsWell form (slice_index numbers i) (reads p) (slice_index numbers i + more)) (sym here) well))

  pub brought_more : (from_more to_more : ℕ) (numbers : List ℕ) (forms : List Form) (form : Form) (news : List D) (to : D) → length forms ≡ i → i < length news → BroughtBelow past from_more to_more numbers old forms news i → IsBrought form (slice_index numbers i) (slice_index numbers i + from_more) (slice_index numbers i + to_more) (reads (past item)) (past to) → BroughtBelow past from_more to_more numbers old (forms ++ form ∷ []) (set news i to) (i + 1)
  brought_more from_more to_more numbers forms form news to count to_within so_far brought =
      let is = λ (j : ℕ) (f : Form) (a b : Past). IsBrought f (slice_index numbers j) (slice_index numbers j + from_more) (slice_index numbers j + to_more) (reads a) b in
      below_more (λ j. is j (slice_index_or (forms ++ form ∷ []) j New) (past_at past old j) (past_at past (set news i to) j)) i
      (λ j before. let other : j ≢ i = omega (arith, before) in subst (λ (f : Form). is j f (past_at past old j) (past_at past (set news i to) j)) (sym (get_or_append_left forms (form ∷ []) New j (omega (arith, before, count)))) (subst (λ (p : Past). is j (slice_index_or forms j New) (past_at past old j) p) (sym (elsewhere past news i j to other)) (so_far j before)))
      (subst (λ (f : Form). is i f (past_at past old i) (past_at past (set news i to) i)) (sym (get_or_push forms form New i count))
      (subst (λ (p : Past). is i form p (past_at past (set news i to) i)) (sym here) (subst (λ (p : Past). is i form (past item) p) (sym (at_place past news i to to_within)) brought)))

  pub synced_more : SyncedBelow past mid i → past disk ≡ synced (past item) → SyncedBelow past (set mid i disk) (i + 1)
  synced_more so_far is_synced =
      below_more (λ j. EveryImage (past_at past (set mid i disk) j) (λ image. image ≡ reads (past_at past (set mid i disk) j))) i
      (λ j before. let other : j ≢ i = omega (arith, before) in subst (λ (p : Past). EveryImage p (λ image. image ≡ reads p)) (sym (elsewhere past mid i j disk other)) (so_far j before))
      (subst (λ (p : Past). EveryImage p (λ image. image ≡ reads p)) (sym (at_place past mid i disk within ∙ is_synced)) (λ image left. left))

  -- the first file that isn't whole is the one at this place
  module _ (more number header : ℕ) (numbers : List ℕ) (forms : List Form) (there : i < length numbers) (is_number : number ≡ slice_index numbers i) (is_header : header ≡ slice_index numbers i + more) (so_far : WellBelow past more numbers old forms i) where
    found : (file : ℕ) (fault : JournalFault) → file ≡ header → IsFaulty number (reads (past item)) header fault → HasFirstFault past more numbers old file fault
    found file fault named faulty = record {
      place = i;
      within = there;
      file_is = named ∙ is_header;
      faulty = subst (λ (n : ℕ). IsFaulty n (reads (past_at past old i)) file fault) is_number (subst (λ (p : Past). IsFaulty number (reads p) file fault) (sym here) (subst (λ (h : ℕ). IsFaulty number (reads (past item)) h fault) (sym named) faulty));
      before = λ j before. (slice_index_or forms j New, so_far j before);
    }

    pub first_fault : (fault : UpgradeFault) → IsFileFault number header (reads (past item)) fault → IsUpgradeFault past more numbers old fault
    first_fault Failed free = tt
    first_fault OutOfMemory free = tt
    first_fault (Damaged file at) faulty = found file (journal.Damaged at) faulty.0 faulty.1
    first_fault (WrongNumber file shown) faulty = found file (journal.WrongNumber shown) faulty.0 faulty.1
    first_fault (OverLimit file length limit) faulty = found file (journal.OverLimit length limit) faulty.0 faulty.1

-- one file more is copied
pub copies_more : {D : Type 0} (past : D → Past) (from_more to_more : ℕ) (numbers : List ℕ) (froms tos : List D) (i : ℕ) (from to : D) → i < length froms → i < length tos → CopiesBelow past from_more to_more numbers froms tos i → IsCopy (slice_index numbers i + from_more) (slice_index numbers i + to_more) (past from) (past to) → CopiesBelow past from_more to_more numbers (set froms i from) (set tos i to) (i + 1)
copies_more past from_more to_more numbers froms tos i from to from_within to_within so_far copy =
    let is_copy = λ (j : ℕ) (p q : Past). IsCopy (slice_index numbers j + from_more) (slice_index numbers j + to_more) p q in
    below_more (λ j. is_copy j (past_at past (set froms i from) j) (past_at past (set tos i to) j)) i
    (λ j before. let other : j ≢ i = omega (arith, before) in subst (λ (p : Past). is_copy j p (past_at past (set tos i to) j)) (sym (elsewhere past froms i j from other)) (subst (λ (q : Past). is_copy j (past_at past froms j) q) (sym (elsewhere past tos i j to other)) (so_far j before)))
    (subst (λ (p : Past). is_copy i p (past_at past (set tos i to) i)) (sym (at_place past froms i from from_within)) (subst (λ (q : Past). is_copy i (past from) q) (sym (at_place past tos i to to_within)) copy))

-- one file more is counted
pub count_more : (forms : List Form) (form : Form) (count next : ℕ) → count ≡ min (count_old forms) (2 ^ 32 - 1) → next ≡ min (count + count_old (form ∷ [])) (2 ^ 32 - 1) → next ≡ min (count_old (forms ++ form ∷ [])) (2 ^ 32 - 1)
count_more forms form count next before is = omega (arith, before, is, sum_by-append (λ (f : Form). cond (is_old f) 1 0) forms (form ∷ []))
