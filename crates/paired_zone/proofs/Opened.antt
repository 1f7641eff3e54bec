-- A zone on two files as it was opened.
use Rattle.std.proofs.Common.{◌≡◌, inl, inr, ⊎_elim, ℕ, ◌+◌, ◌^◌, ◌<◌, ◌≤◌, Bool, true, false, cond, List, [], ◌∷◌, length, Option, Some, None, refl, sym, ◌∙◌, ap, subst, arith, length-append}
use Rattle.std.specs.Prelude.{if◌then◌else◌, not, sum_by}
use Rattle.std.proofs.lemmas.List.Sums.{sum_by-cons}
use Rattle.log_base.specs.Journals.{payloads_length}
use Rattle.log_base.specs.declared.limits.LogLimits.{LogLimits}
use Rattle.log_base.specs.declared.limits.TheConstants.{PAYLOAD_FRAME, LOG_BYTES, ZONE_FILE_LIMIT}
use Rattle.disk_model.specs.declared.disk.Disk.{Ghosts}
use Rattle.disk_model.specs.Past.{Past, MayLeave, Keeps, reads}
use Rattle.delta_base.specs.Outside.{Rose}
use Rattle.disk_model.proofs.Moments.{weaker, joined, leaves}
use Rattle.log_journal.specs.File.{Holds}
use Rattle.log_journal.specs.StandsFor.{StandsFor, length_of, limit_of, disk_of}
use Rattle.log_journal.specs.Written.{Reopened, RefusedOpening}
use Rattle.log_journal.specs.declared.journal.Journal.{Journal}
use Rattle.patch_meaning.specs.Checked.{CheckedPatch, checked_texts}
use Rattle.checkpoint_text.specs.Brief.{Brief, file_length}
use Rattle.checkpoint_text.specs.Text.{checkpoint, IsCheckpoint}
use Rattle.zone_files.specs.Generation.{number_of, unmarked, IsInGeneration, PayloadsShow}
use Rattle.zone_beside.specs.Finding.{IsCurrent}
use Rattle.zone_beside.specs.StandsBehind.{StandsBehind}
use Rattle.zone_beside.specs.declared.beside.Beside.{Beside}
use Rattle.zone_pairs.specs.Briefs.{with_patch}
use Rattle.zone_pairs.specs.Pair.{payloads_at, start_brief, current_payloads, IsStart, TakeTo, StandFor, ZoneHolds}
use Rattle.zone_state.specs.State.{brief_in}
use Rattle.paired_journal.specs.declared.files.Files.{Files}
use Rattle.paired_journal.specs.Files.{beside_of, on_second, generation_of, disk_or, OtherStands}
use Rattle.paired_reading.specs.Payloads.{AreUnmarked, BeginWith}
use Rattle.paired_reading.specs.Received.{shown_by, HoldsZone}
use Rattle.paired_reading.specs.declared.limit.TheConstants.{CHECKPOINT_FILE_LIMIT}
use Rattle.paired_reading.specs.declared.reading.FoundZone.{FoundZone}
use Rattle.log_journal.specs.Reading.{HasFault}
use Rattle.log_journal.specs.declared.fault.JournalFault.{JournalFault}
use Rattle.log_journal.specs.declared.fault.JournalFault.TheVariants as journal
use Rattle.zone_files.proofs.Generations.{one_generation, shown_by as shown_by_payloads}
use Rattle.zone_pairs.proofs.Together.{checkpoint_begins}
use Rattle.log_journal.specs.declared.at_front.FrontFault.{FrontFault}
use Rattle.log_journal.specs.declared.at_front.FrontFault.TheVariants as front
use Rattle.zone_beside.specs.declared.fault.FindFault.{FindFault}
use Rattle.zone_beside.specs.declared.fault.FindFault.TheVariants as find
use Rattle.paired_reading.specs.Fault.{HasPayloadsFault}
use Rattle.paired_reading.specs.declared.fault.PayloadsFault.{PayloadsFault}
use Rattle.paired_reading.specs.declared.fault.PayloadsFault.TheVariants as broken
use Rattle.paired_zone.specs.declared.fault.PairFault.TheVariants.{Failed}
use Rattle.paired_zone.specs.declared.fault.PairFault.{PairFault}
use Rattle.paired_zone.specs.Fault.{at_front, of_finding, of_journal, of_payloads, HasJournalFault, HoldsFault, HasPairFault, no_journal, no_payloads}
use Rattle.paired_zone.specs.Zone.{PairedView}
use Rattle.paired_zone.proofs.Standing.{stands_at}
use Rattle.paired_zone.specs.Opening.{FailsAtOne, IsInFile, IsOpened, RefusedDisk, OpensCurrent, RefusesCurrent}
use Rattle.paired_zone.specs.State.{view_of, IsPairKept}

-- ---- how long journals are

-- with patches behind a brief
taken_sizes : (before after : Brief) (patches : List CheckedPatch) → TakeTo before patches after
    → file_length after.ids after.bytes ≡ file_length before.ids before.bytes + sum_by (λ (p : List ℕ). PAYLOAD_FRAME + length p) (checked_texts patches)
taken_sizes before after [] taken = omega (arith, ap (λ (b : Brief). file_length b.ids b.bytes) taken)
taken_sizes before after (patch ∷ patches) taken =
    omega (arith, taken_sizes (with_patch before patch) after patches taken.1, length-append before.ids (patch.meaning.id ∷ []), sum_by-cons (λ (p : List ℕ). PAYLOAD_FRAME + length p) patch.text (checked_texts patches))

-- ---- what the payloads begin with

record IsBegun (generation : ℕ) (start : Option Brief) (patches : List CheckedPatch) (brief : Brief) (on_second : Bool) (payloads : List (List ℕ)) : Type 0 where
  pub start_is : IsStart generation start
  pub in_first : start ≡ None → on_second ≡ false
  pub payloads_are : payloads ≡ current_payloads generation start patches
  pub room : payloads_length payloads ≤ CHECKPOINT_FILE_LIMIT + file_length brief.ids brief.bytes

begun : (shown : Option ℕ) (start : Option Brief) (from generation : ℕ) (on_second : Bool) (texts payloads : List (List ℕ)) (patches : List CheckedPatch) (brief : Brief) → shown ≡ shown_by start from → IsInFile shown on_second generation → BeginWith from start texts payloads
    → checked_texts patches ≡ texts → TakeTo (start_brief start) patches brief → IsBegun generation start patches brief on_second payloads
begun shown None from generation on_second texts payloads patches brief shown_is in_file begins same taken =
    let here = subst (λ (s : Option ℕ). IsInFile s on_second generation) shown_is in_file in
    record {
      start_is = here.1;
      in_first = λ none. here.0;
      payloads_are = begins.2 ∙ sym same;
      room = omega (arith, taken_sizes (start_brief None) brief patches taken, ap payloads_length (begins.2 ∙ sym same));
    }
begun shown (Some start) from generation on_second texts payloads patches brief shown_is in_file begins same taken =
    let here = subst (λ (s : Option ℕ). IsInFile s on_second generation) shown_is in_file in
    let are : payloads ≡ checkpoint from start ∷ checked_texts patches = begins.2 ∙ ap (λ (ts : List (List ℕ)). checkpoint from start ∷ ts) (sym same) in
    record {
      start_is = subst (λ (g : ℕ). IsCheckpoint (checkpoint g start) g start) here begins.0;
      in_first = λ none. absurd (cc);
      payloads_are = are ∙ ap (λ (g : ℕ). checkpoint g start ∷ checked_texts patches) here;
      room = omega (arith, begins.1, taken_sizes start brief patches taken, ap payloads_length are, sum_by-cons (λ (p : List ℕ). PAYLOAD_FRAME + length p) (checkpoint from start) (checked_texts patches));
    }

-- ---- disks

-- a read after a read
keeps_on : (a b c : Past) → Keeps a b → Keeps b c → Keeps a c
keeps_on a b c one other = record {
  images = joined (MayLeave a) a b c one.images (weaker (MayLeave b) (MayLeave a) (λ image left. leaves_at image left) b c other.images);
  reads_same = other.reads_same ∙ one.reads_same;
}
  where
    leaves_at : (image : List ℕ) → MayLeave b image → MayLeave a image
    leaves_at image left = leaves (MayLeave a) a b one.images image left

module _ {D : Type 0} (disks : Ghosts D) where
  pub reopened_on : (a b c : D) (n m : ℕ) → Reopened disks a b n → Reopened disks b c m → Reopened disks a c (m + n)
  reopened_on a b c n m one other = record {
    kept = λ told. keeps_on (disks.past a) (disks.past b) (disks.past c) (one.kept told) (other.kept told);
    few = λ told. omega (arith, one.few told, other.few told);
    faults = other.faults ∙ one.faults;
    long = λ plans. other.long plans ∙ one.long plans;
    mark = other.mark ∙ one.mark;
  }

  pub refused_then : (failed : Type 0) (a b c : D) (n : ℕ) → Reopened disks a b n → RefusedOpening disks failed b c → RefusedDisk disks failed a c
  refused_then failed a b c n one other = record {
    kept = λ told. keeps_on (disks.past a) (disks.past b) (disks.past c) (one.kept told) (other.kept told);
    cause = λ is. subst (λ (f : ℕ). Rose f (disks.faults c)) one.faults (other.cause is);
    never_falls = subst (λ (f : ℕ). f ≤ disks.faults c) one.faults other.never_falls;
    well = λ not. other.well not ∙ one.faults;
    mark = other.mark ∙ one.mark;
  }

  pub refused_as : (failed told : Type 0) (a c : D) → (told → failed) → (failed → told) → RefusedDisk disks failed a c → RefusedDisk disks told a c
  refused_as failed told a c is was went = record {
    kept = went.kept;
    cause = λ t. went.cause (is t);
    never_falls = went.never_falls;
    well = λ not. went.well (λ f. not (was f));
    mark = went.mark;
  }

  pub refused_first : (failed : Type 0) (a c : D) → RefusedOpening disks failed a c → RefusedDisk disks failed a c
  refused_first failed a c went = record { kept = went.kept; cause = went.cause; never_falls = went.never_falls; well = went.well; mark = went.mark }

  -- it was only read
  pub refused_never : (failed : Type 0) (a c : D) (n : ℕ) → (failed → ⊥) → Reopened disks a c n → RefusedDisk disks failed a c
  refused_never failed a c n never one = record { kept = one.kept; cause = λ is. absurd (never is); never_falls = omega (arith, one.faults); well = λ not. one.faults; mark = one.mark }

module _ {D : Type 0} {disks : Ghosts D} (files : Files D disks) (beside : Beside D disks) (found : FoundZone) (limits : LogLimits) (payloads : List (List ℕ)) (small : limits.bytes ≤ LOG_BYTES) (countable : limits.patches < 2 ^ 32) (holds : HoldsZone payloads limits.patches limits.bytes found)
    (in_file : IsInFile found.generation beside.on_second beside.generation) (unstaged : found.kept.contents.staged ≡ None) (beside_is : beside_of files ≡ Some beside) (behind : StandsBehind beside None)
    (stands : StandsFor files.current (number_of beside.on_second) payloads) (length_is : length_of files.current ≡ payloads_length payloads) (limit_is : limit_of files.current ≡ ZONE_FILE_LIMIT) where
  is_begun : IsBegun beside.generation holds.start holds.patches (brief_in found.kept) beside.on_second payloads
  is_begun = begun found.generation holds.start holds.generation beside.generation beside.on_second holds.texts payloads holds.patches (brief_in found.kept) holds.shown_is in_file holds.begins holds.chained.texts_are holds.chained.take_to

  pub kept_opened : IsPairKept files found.kept limits None
  kept_opened = record {
    unstaged = unstaged;
    small = small;
    countable = countable;
    point = record { second = beside.on_second; generation = beside.generation; start = holds.start; patches = holds.patches; doubt = None };
    is_point = record {
      start_is = is_begun.start_is;
      in_first = is_begun.in_first;
      checked = holds.chained.checked;
      take = holds.chained.take_to;
      within = record { few = holds.chained.few; room = holds.within };
      doubtful = tt;
    };
    doubt_is = refl;
    second_is = sym (ap on_second beside_is);
    generation_is = sym (ap generation_of beside_is);
    limit_is = limit_is;
    length_is = length_is ∙ ap payloads_length is_begun.payloads_are;
    room = omega (arith, length_is, is_begun.room);
    on_current = subst (λ (ps : List (List ℕ)). StandsFor files.current (number_of beside.on_second) ps) is_begun.payloads_are stands;
    next = None;
    next_is = tt;
    on_other = subst (λ o. OtherStands (disk_of files.current) o None) (sym beside_is) behind;
  }

  pub payloads_opened : payloads ≡ current_payloads beside.generation holds.start holds.patches
  payloads_opened = is_begun.payloads_are

  pub stand_for : StandFor beside.generation payloads (brief_in found.kept)
  stand_for = record { start = holds.start; patches = holds.patches; payloads_are = is_begun.payloads_are; start_is = is_begun.start_is; checked = holds.chained.checked; take = holds.chained.take_to }

  -- the zone that the current file is
  pub opens : (current : D) → Reopened disks current (disk_of files.current) (length_of files.current) → (disks.tells → Holds (reads (disks.past current)) (number_of beside.on_second) payloads)
      → OpensCurrent disks current beside.on_second beside.generation beside.disk limits (view_of files found.kept limits None)
  unfolding kept_opened
  opens current reopened file = record {
    second_is = ap on_second beside_is;
    generation_is = ap generation_of beside_is;
    other_is = ap (disk_or (disk_of files.current)) beside_is;
    limits_are = refl;
    settled = refl;
    point = kept_opened.point;
    stands = stands_at files found.kept limits None kept_opened;
    holds = λ told. subst (λ (ps : List (List ℕ)). Holds (reads (disks.past current)) (number_of beside.on_second) ps) is_begun.payloads_are (file told);
    stand_for = subst (λ (ps : List (List ℕ)). StandFor beside.generation ps (brief_in found.kept)) is_begun.payloads_are stand_for;
    met = holds.met;
    reopened = subst (λ (n : ℕ). Reopened disks current (disk_of files.current) n) (length_is ∙ ap payloads_length is_begun.payloads_are) reopened;
  }

-- ---- the generation of what was read

somes : (a b : ℕ) → Some a ≡ Some b → a ≡ b
somes a b same = cc

unmarked_so : (second : Bool) (payloads : List (List ℕ)) → AreUnmarked payloads → PayloadsShow second payloads (unmarked second)
unmarked_so second [] are = refl
unmarked_so second (payload ∷ payloads) are = inl (are, refl)

first_in_0 : (second : Bool) (generation : ℕ) → unmarked second ≡ Some generation → (second ≡ false) × (generation ≡ 0)
first_in_0 true generation same = absurd (cc)
first_in_0 false generation same = (refl, sym (somes 0 generation same))

-- a file is in the generation that its payloads show
pub in_file : (file : List ℕ) (second : Bool) (generation from : ℕ) (start : Option Brief) (texts payloads : List (List ℕ)) → IsInGeneration file second (Some generation) → Holds file (number_of second) payloads → BeginWith from start texts payloads → IsInFile (shown_by start from) second generation
in_file file second generation from None texts payloads is holds begins =
    first_in_0 second generation (one_generation file second (unmarked second) (Some generation) (shown_by_payloads file second payloads (unmarked second) holds (unmarked_so second payloads begins.1)) is)
in_file file second generation from (Some start) texts payloads is holds begins =
    let shows = subst (λ (ps : List (List ℕ)). PayloadsShow second ps (Some from)) (sym begins.2) (inr (from, checkpoint_begins from start begins.0, refl)) in
    somes from generation (one_generation file second (Some from) (Some generation) (shown_by_payloads file second payloads (Some from) holds shows) is)

-- ---- faults

numbers_differ : (b : Bool) → number_of b ≡ number_of (not b) → ⊥
numbers_differ true same = omega (arith, same)
numbers_differ false same = omega (arith, same)

pub never_failed : (file other : ℕ) (fault : PayloadsFault) → of_payloads file fault ≡ Failed other → ⊥
never_failed file other broken.BrokenCheckpoint same = cc
never_failed file other (broken.BrokenChain version) same = cc
never_failed file other (broken.OverLimit length limit) same = cc
never_failed file other broken.TermsFull same = cc

file_failed : (a b : ℕ) → Failed a ≡ Failed b → a ≡ b
file_failed a b same = cc

pub journal_failed : (file other : ℕ) (fault : JournalFault) → of_journal file fault ≡ Failed other → (fault ≡ journal.Failed) × (file ≡ other)
journal_failed file other journal.Failed same = (refl, file_failed file other same)
journal_failed file other (journal.Damaged at) same = absurd (cc)
journal_failed file other journal.OldFormat same = absurd (cc)
journal_failed file other (journal.WrongNumber found) same = absurd (cc)
journal_failed file other (journal.OverLimit length limit) same = absurd (cc)
journal_failed file other journal.OutOfMemory same = absurd (cc)

front_failed : (second : Bool) (fault : FrontFault) (file : ℕ) → at_front (number_of second) fault ≡ Failed file → file ≡ number_of second
front_failed second front.Failed file same = sym (file_failed (number_of second) file same)
front_failed second (front.Damaged at) file same = absurd (cc)
front_failed second front.OldFormat file same = absurd (cc)
front_failed second (front.WrongNumber found) file same = absurd (cc)
front_failed second front.OutOfMemory file same = absurd (cc)

pub finding_failed : (fault : FindFault) → FailsAtOne (of_finding fault)
finding_failed (find.AtFront second fault) file same = (second, front_failed second fault file same)
finding_failed (find.BrokenCheckpoint second) file same = absurd (cc)

module _ {D : Type 0} (disks : Ghosts D) (current : D) (second : Bool) (limits : LogLimits) where
  -- of the journal
  pub refuses_journal : (found : JournalFault) (refused : D) → RefusedOpening disks (found ≡ journal.Failed) current refused → (disks.tells → HasFault (reads (disks.past current)) (number_of second) ZONE_FILE_LIMIT found)
      → RefusesCurrent disks current second limits (of_journal (number_of second) found) refused
  refuses_journal found refused went has = record {
    went = refused_as disks (found ≡ journal.Failed) (of_journal (number_of second) found ≡ Failed (number_of second)) current refused (λ told. (journal_failed (number_of second) (number_of second) found told).0) (λ is. ap (of_journal (number_of second)) is) (refused_first disks (found ≡ journal.Failed) current refused went);
    other_went = λ same. numbers_differ second (journal_failed (number_of second) (number_of (not second)) found same).1;
    in_current = λ file is. sym (journal_failed (number_of second) file found is).1;
    has = λ told. inl (record { found = found; fault_is = refl; has = has told });
  }

  -- of its payloads
  pub refuses_payloads : (found : PayloadsFault) (held : List (List ℕ)) (refused : D) (n : ℕ) → Reopened disks current refused n → (disks.tells → Holds (reads (disks.past current)) (number_of second) held) → payloads_length held ≤ ZONE_FILE_LIMIT
      → HasPayloadsFault held limits.patches limits.bytes found → RefusesCurrent disks current second limits (of_payloads (number_of second) found) refused
  refuses_payloads found held refused n reopened holds short has = record {
    went = refused_never disks (of_payloads (number_of second) found ≡ Failed (number_of second)) current refused n (never_failed (number_of second) (number_of second) found) reopened;
    other_went = never_failed (number_of second) (number_of (not second)) found;
    in_current = λ file is. absurd (never_failed (number_of second) file found is);
    has = λ told. inr (record { payloads = held; holds = holds told; short = short; found = found; fault_is = refl; has = has });
  }

  -- the file isn't what it was, which no disk that tells of itself comes to
  pub refuses_changed : (refused : D) (n : ℕ) → Reopened disks current refused n → (disks.tells → ⊥) → RefusesCurrent disks current second limits (of_payloads (number_of second) broken.BrokenCheckpoint) refused
  refuses_changed refused n reopened never = record {
    went = refused_never disks (of_payloads (number_of second) broken.BrokenCheckpoint ≡ Failed (number_of second)) current refused n (never_failed (number_of second) (number_of second) broken.BrokenCheckpoint) reopened;
    other_went = never_failed (number_of second) (number_of (not second)) broken.BrokenCheckpoint;
    in_current = λ file is. absurd (never_failed (number_of second) file broken.BrokenCheckpoint is);
    has = λ told. absurd (never told);
  }

-- ---- roles

pub role_reopened : {D : Type 0} (disks : Ghosts D) (b : Bool) (first other here beside : D) → Reopened disks first (cond b beside here) 81 → Reopened disks other (cond b here beside) 81 → Reopened disks (cond b other first) here 81 × Reopened disks (cond b first other) beside 81
role_reopened disks true first other here beside one two = (two, one)
role_reopened disks false first other here beside one two = (one, two)

-- ---- what the two files hold together

-- the current file in its role
pub held_together : (first second : List ℕ) (on_second_ : Bool) (generation : ℕ) (payloads : List (List ℕ)) (brief : Brief) → IsCurrent first second on_second_ generation
    → Holds (if on_second_ then second else first) (number_of on_second_) payloads → StandFor generation payloads brief → ZoneHolds first second brief
held_together first second on_second_ generation payloads brief is holds stands = record {
  of_first = is.of_first;
  of_second = is.of_second;
  first_is = is.first_is;
  second_is = is.second_is;
  generation = generation;
  payloads = payloads;
  in_generation = subst (λ (b : Bool). (if b then is.of_second else is.of_first) ≡ Some generation) (sym is.chosen) is.in_generation;
  holds = subst (λ (b : Bool). Holds (if b then second else first) (number_of b) payloads) (sym is.chosen) holds;
  stands = stands;
}

-- ---- as it is made

module _ {D : Type 0} {disks : Ghosts D} (files : Files D disks) (beside : Beside D disks) (found : FoundZone) (limits : LogLimits) (held : List (List ℕ)) (small : limits.bytes ≤ LOG_BYTES) (countable : limits.patches < 2 ^ 32) (most : ℕ) (most_is : most ≡ limits.patches)
    (holds : HoldsZone held most limits.bytes found) (in_its : IsInFile found.generation beside.on_second beside.generation) (unstaged : found.kept.contents.staged ≡ None) (beside_is : beside_of files ≡ Some beside) (behind : StandsBehind beside None) (journal_ : Journal D disks) (current_is : files.current ≡ journal_)
    (number : ℕ) (number_is : number ≡ number_of beside.on_second) (stands : StandsFor journal_ number held) (length_is : length_of journal_ ≡ payloads_length held) (limit_is : limit_of journal_ ≡ ZONE_FILE_LIMIT) (doubt : Option CheckedPatch) (none : doubt ≡ None) where
  holds_so : HoldsZone held limits.patches limits.bytes found
  holds_so = subst (λ (n : ℕ). HoldsZone held n limits.bytes found) most_is holds

  stands_so : StandsFor files.current (number_of beside.on_second) held
  stands_so = subst (λ (j : Journal D disks). StandsFor j (number_of beside.on_second) held) (sym current_is) (subst (λ (n : ℕ). StandsFor journal_ n held) number_is stands)

  length_so : length_of files.current ≡ payloads_length held
  length_so = ap (λ (j : Journal D disks). length_of j) current_is ∙ length_is

  limit_so : limit_of files.current ≡ ZONE_FILE_LIMIT
  limit_so = ap (λ (j : Journal D disks). limit_of j) current_is ∙ limit_is

  pub kept_made : IsPairKept files found.kept limits doubt
  kept_made = subst (λ (d : Option CheckedPatch). IsPairKept files found.kept limits d) (sym none) (kept_opened files beside found limits held small countable holds_so in_its unstaged beside_is behind stands_so length_so limit_so)

  pub opens_made : (current : D) → Reopened disks current (disk_of journal_) (length_of journal_) → (disks.tells → Holds (reads (disks.past current)) number held)
      → OpensCurrent disks current beside.on_second beside.generation beside.disk limits (view_of files found.kept limits doubt)
  opens_made current reopened file = subst (λ (d : Option CheckedPatch). OpensCurrent disks current beside.on_second beside.generation beside.disk limits (view_of files found.kept limits d)) (sym none)
      (opens files beside found limits held small countable holds_so in_its unstaged beside_is behind stands_so length_so limit_so current
      (subst (λ (j : Journal D disks). Reopened disks current (disk_of j) (length_of j)) (sym current_is) reopened) (λ told. subst (λ (n : ℕ). Holds (reads (disks.past current)) n held) number_is (file told)))

-- ---- both files

module _ {D : Type 0} (disks : Ghosts D) (b : Bool) (first other here beside : D) (one : Reopened disks first (cond b beside here) 81) (two : Reopened disks other (cond b here beside) 81) where
  roles : Reopened disks (cond b other first) here 81 × Reopened disks (cond b first other) beside 81
  roles = role_reopened disks b first other here beside one two

  reads_cond : (b : Bool) → cond b (reads (disks.past other)) (reads (disks.past first)) ≡ reads (disks.past (cond b other first))
  reads_cond true = refl
  reads_cond false = refl

  same_reads : disks.tells → reads (disks.past here) ≡ cond b (reads (disks.past other)) (reads (disks.past first))
  same_reads told = (roles.0.kept told).reads_same ∙ sym (reads_cond b)

  current_in : (b : Bool) (generation : ℕ) → IsCurrent (reads (disks.past first)) (reads (disks.past other)) b generation → IsInGeneration (cond b (reads (disks.past other)) (reads (disks.past first))) b (Some generation)
  current_in true generation is = subst (λ (o : Option ℕ). IsInGeneration (reads (disks.past other)) true o) is.in_generation is.second_is
  current_in false generation is = subst (λ (o : Option ℕ). IsInGeneration (reads (disks.past first)) false o) is.in_generation is.first_is

  pub here_in : (generation : ℕ) → (disks.tells → IsCurrent (reads (disks.past first)) (reads (disks.past other)) b generation) → disks.tells → IsInGeneration (reads (disks.past here)) b (Some generation)
  here_in generation is told = subst (λ (file : List ℕ). IsInGeneration file b (Some generation)) (sym (same_reads told)) (current_in b generation (is told))

  module _ (generation : ℕ) (limits : LogLimits) (zone : PairedView D) (o : OpensCurrent disks here b generation beside limits zone) where
    pub is_opened : IsOpened disks (cond zone.second other first) (cond zone.second first other) zone
    is_opened = subst (λ (s : Bool). IsOpened disks (cond s other first) (cond s first other) zone) (sym o.second_is) (record {
      point = o.point;
      stands = o.stands;
      settled = o.settled;
      holds = λ told. subst (λ (s : Bool). Holds (reads (disks.past (cond b other first))) (number_of s) (payloads_at o.point)) (sym o.second_is)
          (subst (λ (file : List ℕ). Holds file (number_of b) (payloads_at o.point)) ((roles.0.kept told).reads_same) (o.holds told));
      met = o.met;
      reopened = reopened_on disks (cond b other first) here zone.current 81 (payloads_length (payloads_at o.point)) roles.0 o.reopened;
      other_reopened = subst (λ (d : D). Reopened disks (cond b first other) d 81) (sym o.other_is) roles.1;
    })

    pub is_held : (disks.tells → IsCurrent (reads (disks.past first)) (reads (disks.past other)) b generation) → disks.tells → ZoneHolds (reads (disks.past first)) (reads (disks.past other)) zone.brief
    is_held is told = held_together (reads (disks.past first)) (reads (disks.past other)) b generation (payloads_at o.point) zone.brief (is told)
        (subst (λ (file : List ℕ). Holds file (number_of b) (payloads_at o.point)) (same_reads told) (o.holds told)) o.stand_for

  module _ (limits : LogLimits) (fault : PairFault) (refused : D) (r : RefusesCurrent disks here b limits fault refused) where
    pub has_fault : (generation : ℕ) → (disks.tells → IsCurrent (reads (disks.past first)) (reads (disks.past other)) b generation) → disks.tells → HasPairFault (reads (disks.past first)) (reads (disks.past other)) limits fault
    has_fault generation is told = ⊎_elim
        (λ journal_fault. no_journal b generation (is told) (subst (λ (file : List ℕ). HasJournalFault file (number_of b) fault) (same_reads told) journal_fault))
        (λ payloads_fault. no_payloads b generation (is told) (subst (λ (file : List ℕ). HoldsFault file (number_of b) limits fault) (same_reads told) payloads_fault))
        (r.has told)

    behind_reading : (failed : Type 0) (a c d : D) → Reopened disks a c 81 → RefusedDisk disks failed c d → RefusedDisk disks failed a d
    behind_reading failed a c d reopened went = record {
      kept = λ told. keeps_on (disks.past a) (disks.past c) (disks.past d) (reopened.kept told) (went.kept told);
      cause = λ is. subst (λ (f : ℕ). Rose f (disks.faults d)) reopened.faults (went.cause is);
      never_falls = subst (λ (f : ℕ). f ≤ disks.faults d) reopened.faults went.never_falls;
      well = λ not. went.well not ∙ reopened.faults;
      mark = went.mark ∙ reopened.mark;
    }

    pub both_refused : RefusedDisk disks (fault ≡ Failed (number_of false)) first (cond b beside refused) × RefusedDisk disks (fault ≡ Failed (number_of true)) other (cond b refused beside)
    both_refused = by b one two r.went r.other_went
      where
        by : (b : Bool) → Reopened disks first (cond b beside here) 81 → Reopened disks other (cond b here beside) 81 → RefusedDisk disks (fault ≡ Failed (number_of b)) here refused → (fault ≡ Failed (number_of (not b)) → ⊥)
            → RefusedDisk disks (fault ≡ Failed (number_of false)) first (cond b beside refused) × RefusedDisk disks (fault ≡ Failed (number_of true)) other (cond b refused beside)
        by true one two went never = (refused_never disks (fault ≡ Failed (number_of false)) first beside 81 never one, behind_reading (fault ≡ Failed (number_of true)) other here refused two went)
        by false one two went never = (behind_reading (fault ≡ Failed (number_of false)) first here refused one went, refused_never disks (fault ≡ Failed (number_of true)) other beside 81 never two)

-- the two disks in their order
abbrev pub in_order_by : {D : Type 0} → Bool → D → D → D × D
in_order_by b beside current = cond b (beside, current) (current, beside)

order_first : {D : Type 0} (b : Bool) (beside current : D) → (in_order_by b beside current).0 ≡ cond b beside current
order_first true beside current = refl
order_first false beside current = refl

order_second : {D : Type 0} (b : Bool) (beside current : D) → (in_order_by b beside current).1 ≡ cond b current beside
order_second true beside current = refl
order_second false beside current = refl

pub in_order_so : {D : Type 0} {disks : Ghosts D} (before after : Beside D disks) (current : D) (result : D × D) → after ≡ before → result ≡ in_order_by after.on_second after.disk current
    → (result.0 ≡ cond before.on_second before.disk current) × (result.1 ≡ cond before.on_second current before.disk)
in_order_so {D} {disks} before after current result same is =
    let here : result ≡ in_order_by before.on_second before.disk current = is ∙ ap (λ (b : Beside D disks). in_order_by b.on_second b.disk current) same in
    (ap (λ (r : D × D). r.0) here ∙ order_first before.on_second before.disk current, ap (λ (r : D × D). r.1) here ∙ order_second before.on_second before.disk current)
