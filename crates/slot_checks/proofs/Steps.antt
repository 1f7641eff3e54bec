-- Files checked one after another.
use Rattle.std.proofs.Common.{◌≡◌, inl, inr, ℕ, ◌+◌, ◌<◌, ◌≤◌, List, [], ◌∷◌, ◌++◌, length, take, get_or, Option, Some, None, Result, Ok, Err, IfErr, refl, sym, ◌∙◌, ap, subst, arith, length-append, append-nil}
use Rattle.std.specs.Prelude.{unwrap_or, IsErrAnd}
use Rattle.std.proofs.lemmas.Grind.{flat_map-append}
use Rattle.std.proofs.lemmas.List.{take_more}
use Rattle.disk_model.specs.Shelf.{SameOthers}
use Rattle.disk_model.specs.declared.shelf.ShelfFault.{ShelfFault}
use Rattle.disk_model.specs.declared.shelf.ShelfFault.TheVariants as shelf
use Rattle.log_journal.specs.declared.at_front.FrontFault.TheVariants as front
use Rattle.log_registry.specs.declared.fault.RegistryFault.TheVariants as registry
use Rattle.patch_log.specs.declared.fault.LogFault.TheVariants as log
use Rattle.slot_files.specs.Files.{Files, IsKept, bytes_at}
use Rattle.slot_files.proofs.Steps.{other_number, other_dir, at_or_not}
use Rattle.slot_checks.specs.declared.fault.CheckFault.{CheckFault}
use Rattle.slot_checks.specs.declared.lines.FileLine.{FileLine}
use Rattle.slot_checks.specs.declared.lines.FileLine.TheVariants as line
use Rattle.slot_checks.specs.Checks.{HasFileLines, StopsAtLog, StopsInLogs, CheckStops, at_log, AreKept}
use Rattle.slot_checks.specs.Faults.{of_shelf, HasFileFault, HasMarkerFault, HasRegistryFileFault}
use Rattle.slot_checks.specs.Lines.{line_text, lines_text}
use Rattle.slot_checks.specs.Sound.{IsLogLine, HoldsRegistry, AreLogLines}

-- ---- files that are kept

pub kept_bytes : (old new : Option (List ℕ)) → IsKept old new → unwrap_or new [] ≡ unwrap_or old []
kept_bytes old new (inl same) = ap (λ (file : Option (List ℕ)). unwrap_or file []) same
kept_bytes old new (inr made) = ap (λ (file : Option (List ℕ)). unwrap_or file []) (made.1 ∙ sym (ap (λ (file : Option (List ℕ)). Some (unwrap_or file [])) made.0))

-- one visit behind another
pub kept_twice : (old mid new : Option (List ℕ)) → IsKept old mid → IsKept mid new → IsKept old new
kept_twice old mid new (inl same) second = subst (λ (file : Option (List ℕ)). IsKept file new) same second
kept_twice old mid new (inr made) (inl same) = inr (made.0, same ∙ made.1)
kept_twice old mid new (inr made) (inr again) = inr (made.0, again.1)

-- a file that was opened, with its bytes as they were
pub opened_kept : (old new : Option (List ℕ)) → new ≡ Some (unwrap_or old []) → IsKept old new
opened_kept None new is = inr (refl, is)
opened_kept (Some bytes) new is = inl is

pub all_kept : (dir : List ℕ) (end : ℕ) (files : Files) → AreKept dir end files files
all_kept dir end files = record { elsewhere = λ other number apart. refl; here = λ number. inl refl; beyond = λ number far. refl }

pub visit_kept : (dir : List ℕ) (number : ℕ) (old mid new : Files) → AreKept dir number old mid → IsKept (mid dir number) (new dir number) → SameOthers (Some (dir, number)) mid new → AreKept dir (number + 1) old new
visit_kept dir number old mid new kept here others = record {
  elsewhere = λ other n apart. other_dir dir number mid new others other n apart ∙ kept.elsewhere other n apart;
  here = at_or_not (λ n. IsKept (old dir n) (new dir n)) number
      (kept_twice (old dir number) (mid dir number) (new dir number) (kept.here number) here)
      (λ n differs. subst (λ (file : Option (List ℕ)). IsKept (old dir n) file) (sym (other_number dir number mid new others n differs)) (kept.here n));
  beyond = λ n far. other_number dir number mid new others n (λ same. absurd (omega (arith, same, far))) ∙ kept.beyond n (omega (arith, far));
}

pub all_twice : (dir : List ℕ) (sooner later : ℕ) (old mid new : Files) → sooner ≤ later → AreKept dir sooner old mid → AreKept dir later mid new → AreKept dir later old new
all_twice dir sooner later old mid new within first second = record {
  elsewhere = λ other n apart. second.elsewhere other n apart ∙ first.elsewhere other n apart;
  here = λ n. kept_twice (old dir n) (mid dir n) (new dir n) (first.here n) (second.here n);
  beyond = λ n far. second.beyond n far ∙ first.beyond n (omega (arith, within, far));
}

pub same_bytes : (dir : List ℕ) (end : ℕ) (old mid : Files) (number : ℕ) → AreKept dir end old mid → bytes_at mid dir number ≡ bytes_at old dir number
same_bytes dir end old mid number kept = kept_bytes (old dir number) (mid dir number) (kept.here number)

-- ---- lines

lines-push : (files : Files) (dir : List ℕ) (from : ℕ) (lines : List FileLine) (line_ : FileLine) → AreLogLines files dir from lines → IsLogLine (bytes_at files dir (from + length lines)) (from + length lines) line_ → AreLogLines files dir from (lines ++ line_ ∷ [])
lines-push files dir from [] line_ are is = (subst (λ (n : ℕ). IsLogLine (bytes_at files dir n) n line_) (omega arith) is, tt)
lines-push files dir from (first ∷ lines) line_ are is =
    (are.0, lines-push files dir (from + 1) lines line_ are.1 (subst (λ (n : ℕ). IsLogLine (bytes_at files dir n) n line_) (omega arith) is))

pub no_lines : (files : Files) (dir : List ℕ) (records : ℕ) (report : List FileLine) → report ≡ line.Registry records ∷ [] → HasFileLines files dir records 1 report
no_lines files dir records report is = record { lines = []; report_is = is; logs = tt; count = omega arith }

pub one_more : (files : Files) (dir : List ℕ) (records number : ℕ) (old new : List FileLine) (line_ : FileLine) → HasFileLines files dir records number old → IsLogLine (bytes_at files dir number) number line_ → new ≡ old ++ line_ ∷ [] → HasFileLines files dir records (number + 1) new
one_more files dir records number old new line_ has is pushed = record {
  lines = has.lines ++ line_ ∷ [];
  report_is = pushed ∙ ap (λ (l : List FileLine). l ++ line_ ∷ []) has.report_is;
  logs = lines-push files dir 1 has.lines line_ has.logs (subst (λ (n : ℕ). IsLogLine (bytes_at files dir n) n line_) (let at : number ≡ 1 + length has.lines = omega (arith, has.count) in at) is);
  count = omega (arith, has.count, length-append has.lines (line_ ∷ []));
}

pub stops_at : (files : Files) (dir : List ℕ) (records slots number : ℕ) (report : List FileLine) (fault : CheckFault) → HasFileLines files dir records number report → number ≤ slots → HasFileFault (bytes_at files dir number) number fault → StopsAtLog files dir slots number fault
stops_at files dir records slots number report fault has within is = record {
  lines = has.lines;
  logs = has.logs;
  file_is = sym has.count;
  within = within;
  fault_is = is;
}

-- ---- texts

pub text_more : (lines : List FileLine) (place : ℕ) (line_ : FileLine) → place < length lines → line_ ≡ get_or lines place line_ → lines_text (take (place + 1) lines) ≡ lines_text (take place lines) ++ line_text line_
text_more lines place line_ within is =
    ap lines_text (take_more lines place line_ within ∙ ap (λ (l : FileLine). take place lines ++ l ∷ []) (sym is))
    ∙ flat_map-append line_text (take place lines) (line_ ∷ []) ∙ ap (λ (l : List ℕ). lines_text (take place lines) ++ l) (append-nil (line_text line_))

-- ---- files with the same bytes

lines_same : (old mid : Files) (dir : List ℕ) (from : ℕ) (lines : List FileLine) → ((n : ℕ) → bytes_at mid dir n ≡ bytes_at old dir n) → AreLogLines mid dir from lines → AreLogLines old dir from lines
lines_same old mid dir from [] same are = tt
lines_same old mid dir from (first ∷ lines) same are = (subst (λ (bytes : List ℕ). IsLogLine bytes from first) (same from) are.0, lines_same old mid dir (from + 1) lines same are.1)

pub has_same : (old mid : Files) (dir : List ℕ) (records end : ℕ) (report : List FileLine) → AreKept dir 1 old mid → HasFileLines mid dir records end report → HasFileLines old dir records end report
has_same old mid dir records end report kept has = record { lines = has.lines; report_is = has.report_is; logs = lines_same old mid dir 1 has.lines (λ n. same_bytes dir 1 old mid n kept) has.logs; count = has.count }

pub stops_same : (old mid : Files) (dir : List ℕ) (slots file : ℕ) (fault : CheckFault) → AreKept dir 1 old mid → StopsAtLog mid dir slots file fault → StopsAtLog old dir slots file fault
stops_same old mid dir slots file fault kept stops = record {
  lines = stops.lines;
  logs = lines_same old mid dir 1 stops.lines (λ n. same_bytes dir 1 old mid n kept) stops.logs;
  file_is = stops.file_is;
  within = stops.within;
  fault_is = subst (λ (bytes : List ℕ). HasFileFault bytes file fault) (same_bytes dir 1 old mid file kept) stops.fault_is;
}

-- the first visit, and the visits of the logs behind it
module _ (dir : List ℕ) (old mid new : Files) (first : AreKept dir 1 old mid) where
  pub stops_behind : (slots records : ℕ) (fault : CheckFault) → HoldsRegistry (bytes_at old dir 0) slots records → StopsInLogs dir slots mid new fault → CheckStops dir old new fault
  stops_behind slots records fault registry stops = record {
    file = stops.file;
    stops = at_log slots records registry (stops_same old mid dir slots stops.file fault first stops.stops);
    kept = all_twice dir 1 (stops.file + 1) old mid new (omega arith) first stops.kept;
  }

  pub kept_behind : (slots records : ℕ) (report : List FileLine) → HasFileLines mid dir records (slots + 1) report → AreKept dir (slots + 1) mid new → AreKept dir (length report) old new
  kept_behind slots records report has kept =
      let count : slots + 1 ≡ length report = omega (arith, has.count, ap length has.report_is) in
      subst (λ (end : ℕ). AreKept dir end old new) count (all_twice dir 1 (slots + 1) old mid new (omega arith) first kept)

-- a failure of the shelf and want of memory are free
pub log_failed : (file : List ℕ) (number : ℕ) (fault : ShelfFault) → HasFileFault file number (of_shelf fault)
log_failed file number shelf.Failed = (log.Failed, refl, tt)
log_failed file number shelf.OutOfMemory = (log.OutOfMemory, refl, tt)

pub registry_failed : (file : List ℕ) (fault : ShelfFault) → HasRegistryFileFault file (of_shelf fault)
registry_failed file shelf.Failed = (registry.Failed, refl, tt)
registry_failed file shelf.OutOfMemory = (registry.OutOfMemory, refl, tt)

pub marker_failed : (file : List ℕ) (number : ℕ) (fault : ShelfFault) → HasMarkerFault file number (of_shelf fault)
marker_failed file number shelf.Failed = inr (front.Failed, refl, tt)
marker_failed file number shelf.OutOfMemory = inr (front.OutOfMemory, refl, tt)

-- a fault that is handed on
pub told_err : {T : Type 0} (P : CheckFault → Type 0) (result : Result T CheckFault) (fault : CheckFault) → IsErrAnd result (λ e. e ≡ fault) → P fault → IfErr result P
told_err P (Ok value) fault is here = tt
told_err P (Err other) fault is here = subst P (sym is) here
