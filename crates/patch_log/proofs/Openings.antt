-- Reading a log goes on from payload to payload.
use Rattle.std.proofs.Common.{◌≡◌, ℕ, ◌+◌, ◌-◌, ◌^◌, ◌<◌, ◌≤◌, List, [], ◌∷◌, ◌++◌, length, map, take, None, refl, sym, ◌∙◌, ap, subst, arith, length-append, append_assoc}
use Rattle.std.specs.List.{AllByRecursion}
use Rattle.std.proofs.lemmas.List.{length-map, map-append, take_at}
use Rattle.log_base.specs.declared.limits.LogLimits.{LogLimits}
use Rattle.log_base.specs.declared.limits.TheConstants.{PATCH_LIMIT}
use Rattle.chain_core.specs.declared.chain.Patch.{Patch}
use Rattle.chain_core.specs.declared.chain.Entry.{Entry}
use Rattle.chain_core.specs.declared.answer.Decision.TheVariants.{Accept}
use Rattle.chain_core.specs.Chain.{IsBoundedChain}
use Rattle.chain_core.specs.Links.{IsChain}
use Rattle.chain_core.specs.Patches.{patch_of, patches_of, links_of, journal_length}
use Rattle.chain_core.specs.Runs.{IsRun, headless, entries_of, patches_in, run_text, run_texts, runs_of}
use Rattle.chain_core.specs.Decision.{run_decision}
use Rattle.chain_core.proofs.Decided.{accepted, accepts}
use Rattle.chain_core.proofs.Fronts.{entries_kept}
use Rattle.chain_core.proofs.Versions.{links_of-entries}
use Rattle.chain_core.proofs.Patches.{length_bound}
use Rattle.chain_core.proofs.Runs.{framed_sum, journal-append, length-run, patches_in-push, patches_in-runs, patches_of-run, run_behind, run_goes_on, run_length, runs_of-push, short_run, whole-push}
use Rattle.disk_model.specs.declared.disk.Disk.{Ghosts}
use Rattle.log_base.specs.Journals.{payloads_length}
use Rattle.log_journal.specs.declared.journal.Journal.{Journal}
use Rattle.log_journal.specs.StandsFor.{StandsFor, length_of, limit_of}
use Rattle.patch_log.specs.State.{JournalKeepsChain}
use Rattle.patch_log.specs.Log.{IsRunOf, IsSoundRun, IsSoundLog, AreChained, BreaksBehind, bare}
use Rattle.patch_log.specs.Opening.{IsRunRead, IsNextInLog, AreFoundEntries}
use Rattle.patch_log.specs.RunFaults.{HasRunFault, IsBadAt, none, breaks}
use Rattle.patch_log.specs.declared.run.RunFault.{RunFault}
use Rattle.patch_log.specs.declared.run.RunFault.TheVariants as faults
use Rattle.rdf_terms.specs.declared.change.Change.{Change}
use Rattle.log_base.specs.declared.chain_link.ChainLink.{ChainLink}
use Rattle.patch_meaning.specs.Checked.{CheckedPatch, meanings}
use Rattle.patch_meaning.specs.PartRead.{meaning_of}
use Rattle.patch_meaning.specs.Patch.{IsPatch}
use Rattle.patch_meaning.specs.Stream.{IsSplit}
use Rattle.patch_meaning.proofs.Alone.{one_split}
use Rattle.patch_meaning.proofs.OneStream.{stream_or_fault}
use Rattle.chain_core.proofs.Fronts.{chain-take}
use Rattle.patch_log.proofs.Sound.{heads, one_run, one_list, run_is, sound_alone, sound_of, sound-push, sound-front, text_is, texts_of-push}

-- ---- one payload

-- the run that was read of a text is the one that may be next
pub only_next : (patches : List Patch) (text : List ℕ) (most : ℕ) (run other : List Patch) → IsRunRead text run → IsNextInLog patches text most other → IsNextInLog patches text most run
only_next patches text most run other is next =
    let read = next.read in
    subst (λ (r : List Patch). IsNextInLog patches text most r) (one_run other run (read.text_is ∙ sym is.text_is) read.sound is.sound) next

abbrev pub no_limit : ℕ → LogLimits
no_limit most = record { patches = most; bytes = 2 ^ 64 - 1 }

-- a run that is accepted is next
pub is_next : (patches : List Patch) (text : List ℕ) (most version : ℕ) (run : List Patch) → IsRunRead text run → run_decision patches run (no_limit most) ≡ Accept version → IsNextInLog patches text most run
is_next patches text most version run is taken =
    let could = (accepted patches run (no_limit most) version taken).0 in
    record { read = is; follows = could.follows; few = could.places; new = could.new }

-- a patch by itself
pub alone_read : (text : List ℕ) (link : ChainLink) (run : List Patch) → (changes : List Change) × IsPatch text (meaning_of link changes) → run ≡ record { id = link.id; prev = link.prev; text = text } ∷ [] → IsRunRead text run
alone_read text link run is one =
    let patch : CheckedPatch = record { text = text; meaning = meaning_of link is.0 } in
    subst (IsRunRead text) (sym one) (record { text_is = refl; sound = sound_alone patch is.1 })

-- a run whose patches were made
pub run_read : (text : List ℕ) (read : List CheckedPatch) → IsRunOf text read → IsRunRead text (map bare read)
run_read text read is = record { text_is = text_is text read is; sound = sound_of text read is }

-- a run that is next is accepted
pub next_taken : (entries : List Entry) (text : List ℕ) (most : ℕ) (run : List Patch) → IsBoundedChain entries → most < 2 ^ 32 → IsNextInLog (patches_of entries) text most run
    → run_decision (patches_of entries) run (no_limit most) ≡ Accept (length (patches_of entries) + length run)
next_taken entries text most run kept fits next =
    accepts (patches_of entries) run (no_limit most) (record {
      new = next.new;
      follows = next.follows;
      places = next.few;
      room = omega (arith, journal-append (patches_of entries) run, length_bound entries kept.short, kept.few, framed_sum run, run_length run, next.read.sound.read.short, next.few, fits);
    })

-- a text with a fault is no run
pub no_run : (text : List ℕ) (fault : RunFault) → HasRunFault text fault → (fault ≡ faults.OutOfMemory → ⊥) → (run : List Patch) → IsRunRead text run → ⊥
no_run text (faults.TooLong have limit) has told run is = let short = is.sound.read.short in absurd (omega (arith, has.0, short, ap length is.text_is))
no_run text (faults.Patch fault) has told run is =
    let split : IsSplit text is.sound.patches = subst (λ (t : List ℕ). IsSplit t is.sound.patches) is.text_is is.sound.read.split in
    stream_or_fault text (meanings is.sound.patches) fault (record { rows_ = split.rows_; reads = split.reads; stream = split.stream }) has.1
no_run text (faults.BadRun at) has told run is =
    let split : IsSplit text is.sound.patches = subst (λ (t : List ℕ). IsSplit t is.sound.patches) is.text_is is.sound.read.split in
    let one : has.1.0 ≡ is.sound.patches = one_split text has.1.0 is.sound.patches has.1.1 split in
    not_bad (map bare is.sound.patches) at is.sound.read.run (subst (λ (ps : List CheckedPatch). IsBadAt (map bare ps) at) one has.1.2)
  where
    not_bad : (patches : List Patch) (at : ℕ) → IsRun patches → IsBadAt patches at → ⊥
    not_bad patches at is (none empty zero_is) = let some = is.some in let no : length patches ≡ 0 = ap length empty in absurd (omega (arith, some, no))
    not_bad patches at is (breaks broken) = broken.broken (chain-take (headless (links_of patches)) at is.chain)
no_run text faults.OutOfMemory has told run is = absurd (told refl)

-- ---- the chain grows

patches_of-append : (entries more : List Entry) → patches_of (entries ++ more) ≡ patches_of entries ++ patches_of more
patches_of-append entries more = map-append patch_of entries more

longer_is : (entries : List Entry) (run : List Patch) (by : ℕ) → patches_of (entries ++ entries_of run by) ≡ patches_of entries ++ run
longer_is entries run by = patches_of-append entries (entries_of run by) ∙ ap (λ (ps : List Patch). patches_of entries ++ ps) (patches_of-run run by)

short_append : (entries more : List Entry) → AllByRecursion (λ (e : Entry). length e.patch.text ≤ PATCH_LIMIT) entries → AllByRecursion (λ (p : Patch). length p.text ≤ PATCH_LIMIT) (patches_of more) → AllByRecursion (λ (p : Patch). length p.text ≤ PATCH_LIMIT) (patches_of (entries ++ more))
short_append [] more short then = then
short_append (e ∷ entries) more short then = (short.0, short_append entries more short.1 then)

-- the chain can take the next run
pub next_kept : (entries : List Entry) (text : List ℕ) (most : ℕ) (run : List Patch) → IsBoundedChain entries → IsNextInLog (patches_of entries) text most run → most < 2 ^ 32 → IsBoundedChain (entries ++ entries_of run 0)
next_kept entries text most run kept next fits =
    let chain : IsChain (links_of (patches_of entries)) = subst IsChain (sym (links_of-entries entries)) kept.chain in
    let more = run_goes_on (patches_of entries) run chain (run_is run next.read.sound) next.follows next.new in
    entries_kept (entries ++ entries_of run 0) (subst (λ (ps : List Patch). IsChain (links_of ps)) (sym (longer_is entries run 0)) more)
    (omega (arith, next.few, fits, length-append entries (entries_of run 0), length-run run 0, length-map entries patch_of))
    (short_append entries (entries_of run 0) kept.short (subst (λ (ps : List Patch). AllByRecursion (λ (p : Patch). length p.text ≤ PATCH_LIMIT) ps) (sym (patches_of-run run 0)) (short_run run next.read.sound.read.short)))

-- ---- what was found

by_nobody-append : (entries more : List Entry) → AllByRecursion (λ (entry : Entry). entry.by ≡ 0) entries → AllByRecursion (λ (entry : Entry). entry.by ≡ 0) more → AllByRecursion (λ (entry : Entry). entry.by ≡ 0) (entries ++ more)
by_nobody-append [] more all then = then
by_nobody-append (first ∷ entries) more all then = (all.0, by_nobody-append entries more all.1 then)

by_nobody-run : (run : List Patch) → AllByRecursion (λ (entry : Entry). entry.by ≡ 0) (entries_of run 0)
by_nobody-run [] = tt
by_nobody-run (patch ∷ run) = (refl, by_nobody-run run)

count_of : (entries : List Entry) → length (patches_in (runs_of entries)) ≡ length entries
count_of entries = ap length (patches_in-runs entries) ∙ length-map entries patch_of

-- one payload more
pub found_more : (texts : List (List ℕ)) (text : List ℕ) (most : ℕ) (entries new : List Entry) (run : List Patch) → AreFoundEntries texts most entries → IsNextInLog (patches_of entries) text most run
    → new ≡ entries ++ entries_of run 0 → AreFoundEntries (texts ++ text ∷ []) most new
found_more texts text most entries new run found next pushed =
    let runs : runs_of new ≡ runs_of entries ++ run ∷ [] = ap runs_of pushed ∙ runs_of-push entries run 0 found.whole (run_is run next.read.sound).some in
    let patches : patches_of new ≡ patches_of entries ++ run = ap patches_of pushed ∙ longer_is entries run 0 in
    record {
      texts_are = ap run_texts runs ∙ texts_of-push (runs_of entries) run ∙ ap (λ (ts : List (List ℕ)). ts ++ run_text run ∷ []) found.texts_are ∙ ap (λ (t : List ℕ). texts ++ t ∷ []) next.read.text_is;
      sound = subst (λ (rs : List (List Patch)). AllByRecursion IsSoundRun rs) (sym runs) (sound-push (runs_of entries) run found.sound next.read.sound);
      whole = rw pushed (whole-push entries run 0 found.whole);
      chain = subst (λ (ps : List Patch). IsChain (links_of ps)) (sym patches) (run_goes_on (patches_of entries) run found.chain (run_is run next.read.sound) next.follows next.new);
      few = omega (arith, next.few, ap length pushed, length-append entries (entries_of run 0), length-run run 0, length-map entries patch_of);
      by_nobody = subst (λ (es : List Entry). AllByRecursion (λ (entry : Entry). entry.by ≡ 0) es) (sym pushed) (by_nobody-append entries (entries_of run 0) found.by_nobody (by_nobody-run run));
    }

pub found_none : (most : ℕ) (entries : List Entry) → entries ≡ [] → AreFoundEntries [] most entries
found_none most entries is = subst (λ (es : List Entry). AreFoundEntries [] most es) (sym is) (record {
  texts_are = refl;
  sound = tt;
  whole = tt;
  chain = record { follow = tt; differ = tt };
  few = omega arith;
  by_nobody = tt;
})

-- ---- where no run is next

-- the last of some runs whose texts end with a text
record HasLast (runs : List (List Patch)) (texts : List (List ℕ)) (text : List ℕ) : Type 0 where
  front : List (List Patch)
  last : List Patch
  parts : runs ≡ front ++ last ∷ []
  front_texts : run_texts front ≡ texts
  last_text : run_text last ≡ text

has_last : (runs : List (List Patch)) (texts : List (List ℕ)) (text : List ℕ) → run_texts runs ≡ texts ++ text ∷ [] → HasLast runs texts text
has_last [] [] text same = absurd (cc)
has_last [] (t ∷ texts) text same = absurd (cc)
has_last (run ∷ []) [] text same = record { front = []; last = run; parts = refl; front_texts = refl; last_text = (heads (run_text run) text [] [] same).0 }
has_last (run ∷ (next ∷ runs)) [] text same = let parts = heads (run_text run) text (run_texts (next ∷ runs)) [] same in let no : run_text next ∷ run_texts runs ≡ [] = parts.1 in absurd (cc)
has_last (run ∷ runs) (t ∷ texts) text same =
    let parts = heads (run_text run) t (run_texts runs) (texts ++ text ∷ []) same in
    let rest = has_last runs texts text parts.1 in
    record { front = run ∷ rest.front; last = rest.last; parts = ap (λ (rs : List (List Patch)). run ∷ rs) rest.parts; front_texts = ap (λ (t : List ℕ). t ∷ run_texts rest.front) parts.0 ∙ ap (λ (ts : List (List ℕ)). t ∷ ts) rest.front_texts; last_text = rest.last_text }

-- where no run is next, the texts are no chain
no_chain : (texts : List (List ℕ)) (text : List ℕ) (most : ℕ) (entries : List Entry) → AreFoundEntries texts most entries
    → ((run : List Patch) → IsNextInLog (patches_of entries) text most run → ⊥) → AreChained most (texts ++ text ∷ []) → ⊥
no_chain texts text most entries found never are =
    let last = has_last are.runs texts text are.texts_are in
    let sound = sound-front last.front last.last (subst (λ (rs : List (List Patch)). AllByRecursion IsSoundRun rs) last.parts are.sound) in
    let whole : patches_in are.runs ≡ patches_in last.front ++ last.last = ap patches_in last.parts ∙ patches_in-push last.front last.last in
    let behind = run_behind (patches_in last.front) last.last (subst (λ (ps : List Patch). IsChain (links_of ps)) whole are.chain) (run_is last.last sound.1).some in
    let same : patches_in last.front ≡ patches_of entries = ap patches_in (one_list last.front (runs_of entries) (last.front_texts ∙ sym found.texts_are) sound.0 found.sound) ∙ patches_in-runs entries in
    never last.last (subst (λ (ps : List Patch). IsNextInLog ps text most last.last) same (record {
      read = record { text_is = last.last_text; sound = sound.1 };
      follows = behind.0;
      few = omega (arith, are.few, ap length whole, length-append (patches_in last.front) last.last);
      new = behind.1;
    }))

-- no run is the next one
pub breaks_at : (texts : List (List ℕ)) (text : List ℕ) (rest : List (List ℕ)) (most : ℕ) (entries : List Entry) → AreFoundEntries texts most entries
    → ((run : List Patch) → IsNextInLog (patches_of entries) text most run → ⊥) → BreaksBehind most (texts ++ text ∷ rest) (length entries + 1)
breaks_at texts text rest most entries found never =
    let here : take (length texts + 1) (texts ++ text ∷ rest) ≡ texts ++ text ∷ [] =
    ap (λ (ts : List (List ℕ)). take (length texts + 1) ts) (sym (append_assoc texts (text ∷ []) rest)) ∙ take_at (texts ++ text ∷ []) rest (length texts + 1) (omega (arith, length-append texts (text ∷ []))) in
    record {
      count = length texts;
      runs = runs_of entries;
      version_is = omega (arith, count_of entries);
      within = omega (arith, length-append texts (text ∷ rest));
      texts_are = found.texts_are ∙ sym (take_at texts (text ∷ rest) (length texts) refl);
      sound = found.sound;
      chain = subst (λ (ps : List Patch). IsChain (links_of ps)) (sym (patches_in-runs entries)) found.chain;
      few = omega (arith, found.few, count_of entries);
      broken = λ whole. no_chain texts text most entries found never (subst (λ (ts : List (List ℕ)). AreChained most ts) here whole);
    }

-- ---- the whole journal

-- what was found is a chain
pub chained : (texts : List (List ℕ)) (most : ℕ) (entries : List Entry) → AreFoundEntries texts most entries → AreChained most texts
chained texts most entries found = record {
  runs = runs_of entries;
  texts_are = found.texts_are;
  sound = found.sound;
  chain = subst (λ (ps : List Patch). IsChain (links_of ps)) (sym (patches_in-runs entries)) found.chain;
  few = omega (arith, found.few, count_of entries);
}

pub chained_runs : (texts : List (List ℕ)) (most : ℕ) (entries : List Entry) (found : AreFoundEntries texts most entries) → patches_in (chained texts most entries found).runs ≡ patches_of entries
unfolding chained
chained_runs texts most entries found = patches_in-runs entries

-- with a journal within its limit it is a log
pub found_log : (texts : List (List ℕ)) (limits : LogLimits) (entries : List Entry) → AreFoundEntries texts limits.patches entries → IsBoundedChain entries → journal_length (patches_of entries) ≤ limits.bytes → IsSoundLog limits (runs_of entries)
found_log texts limits entries found kept fits = record {
  log = rw (patches_in-runs entries) (record {
    chain = found.chain;
    few = omega (arith, found.few, length-map entries patch_of);
    room = fits;
    short = short_all entries kept.short;
  });
  sound = found.sound;
}
  where
    short_all : (es : List Entry) → AllByRecursion (λ (e : Entry). length e.patch.text ≤ PATCH_LIMIT) es → AllByRecursion (λ (p : Patch). length p.text ≤ PATCH_LIMIT) (patches_of es)
    short_all [] short = tt
    short_all (e ∷ es) short = (short.0, short_all es short.1)

-- so the journal keeps the chain, with nothing in doubt
pub opened_kept : {D : Type 0} {disks : Ghosts D} (journal : Journal D disks) (number : ℕ) (limits : LogLimits) (payloads : List (List ℕ)) (entries : List Entry) → StandsFor journal number payloads → length_of journal ≡ payloads_length payloads
    → limit_of journal ≡ limits.bytes → limits.patches < 2 ^ 32 → AreFoundEntries payloads limits.patches entries → IsSoundLog limits (runs_of entries) → JournalKeepsChain journal entries None number limits
opened_kept journal number limits payloads entries stands length_is limit_is countable found log = record {
  whole = found.whole;
  stands = subst (λ (texts : List (List ℕ)). StandsFor journal number texts) (sym found.texts_are) stands;
  without = log;
  having = log;
  length_is = omega (arith, length_is, ap payloads_length found.texts_are);
  limit_is = limit_is;
  countable = countable;
}
