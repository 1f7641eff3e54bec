-- What catching up makes of what a peer said, and which end that has.
use Rattle.std.specs.Prelude.{◌≡◌, ◌≢◌, ℕ, ◌+◌, ◌<◌, List, [], ◌∷◌}
use Rattle.std.specs.Prelude.{◌++◌, Option, Result, Ok, Err, length}
use Rattle.delta_base.specs.declared.id.Id.{Id}
use Rattle.rdf_terms.specs.declared.term.Term.{Term}
use Rattle.term_table.specs.Table.{most}
use Rattle.dataset_tx.specs.Held.{AreMore}
use Rattle.patch_meaning.specs.Checked.{CheckedPatch}
use Rattle.patch_meaning.specs.Patch.{IsPatchFault}
use Rattle.patch_meaning.specs.declared.fault.PatchFault.{PatchFault}
use Rattle.patch_meaning.specs.declared.fault.PatchFault.TheVariants as patches
use Rattle.delta_client.specs.declared.fault.AskFault.{AskFault}
use Rattle.delta_client.specs.Exchanges.{WasSaid}
use Rattle.rpc_answers.specs.declared.answer.Answer.{Answer}
use Rattle.rpc_answers.specs.declared.answer.Answer.TheVariants as answer
use Rattle.zone_state.specs.declared.answer.TakeAnswer.{TakeAnswer}
use Rattle.zone_state.specs.declared.answer.TakeAnswer.TheVariants as take
use Rattle.chain_core.specs.Ids.{last_of}
use Rattle.zone_state.specs.Brief.{changes_taken}
use Rattle.zone_state.specs.Stay.{decided}
use Rattle.zone_state.specs.Zone.{ZoneView}
use Rattle.catch_up.specs.declared.end.RunEnd.{RunEnd}
use Rattle.catch_up.specs.declared.end.RunEnd.TheVariants as run
use Rattle.catch_up.specs.Ends.{LogEnds, FetchRefuses, Compares, GoesBefore, end_of_fault}
use Rattle.follower.specs.declared.ends.SyncEnd.{SyncEnd}
use Rattle.follower.specs.declared.ends.SyncEnd.TheVariants as sync
use Rattle.follower.specs.declared.ends.TextRefusal.{TextRefusal}
use Rattle.follower.specs.declared.ends.TextRefusal.TheVariants.{BadPatch, Diverged, Repeated}
use Rattle.follower.specs.declared.ends.TextRefusal.TheVariants.{Full, TermsFull, DiskFault}
use Rattle.follower.specs.declared.ends.TextRefusal.TheVariants.{OutOfMemory}
use Rattle.follower.specs.Calls.{came}
use Rattle.follower.specs.Grown.{IsText, IsNextForZone}

-- ---- ends

abbrev pub end_of_refusal : TextRefusal → SyncEnd
end_of_refusal (BadPatch version fault) = sync.BadPatch version fault
end_of_refusal (Diverged version have theirs) = sync.Diverged version have theirs
end_of_refusal (Repeated version id) = sync.Repeated version id
end_of_refusal (Full what have limit) = sync.Full what have limit
end_of_refusal TermsFull = sync.TermsFull
end_of_refusal DiskFault = sync.DiskFault
end_of_refusal OutOfMemory = sync.OutOfMemory

-- the end of a run, as that of `sync`
abbrev pub sync_end : RunEnd TextRefusal → SyncEnd
sync_end (run.CaughtUp version) = sync.CaughtUp version
sync_end run.NoSuchName = sync.NoSuchName
sync_end (run.PeerBehind mine theirs) = sync.PeerBehind mine theirs
sync_end (run.HeadsDiffer version have theirs) = sync.Diverged version have theirs
sync_end (run.NoPatch version) = sync.NoPatch version
sync_end (run.PeerRefused status body) = sync.PeerRefused status body
sync_end run.LinkFault = sync.LinkFault
sync_end run.CutShort = sync.CutShort
sync_end (run.NotUnderstood at) = sync.NotUnderstood at
sync_end run.OutOfMemory = sync.OutOfMemory
sync_end (run.Refused refusal) = end_of_refusal refusal

-- ---- a text

-- what a zone of this version answers to the patch of this id: it is taken, or refused
abbrev pub taken_or_refused : TakeAnswer → Id → ℕ → Result (Unit {0}) TextRefusal
taken_or_refused (take.Applied version) id mine = Ok tt
taken_or_refused (take.Diverged have prev) id mine = Err (Diverged mine have prev)
taken_or_refused (take.Repeated version) id mine = Err (Repeated version id)
taken_or_refused (take.Full what have limit) id mine = Err (Full what have limit)
taken_or_refused take.TermsFull id mine = Err TermsFull
taken_or_refused take.OutOfMemory id mine = Err OutOfMemory
taken_or_refused take.DiskFault id mine = Err DiskFault

-- a text that is no patch, or want of memory
abbrev pub no_patch_at : ℕ → PatchFault → TextRefusal
no_patch_at version patches.OutOfMemory = OutOfMemory
no_patch_at version other = BadPatch version other

-- a zone that took these patches, before which it knew these terms
module _ {D : Type 0} (known : List Term) (more : List CheckedPatch) (zone : ZoneView D) where
  -- Why the text of the next version isn't taken. Want of memory is free, and what is said of a
  -- failing disk is that the patch is the next one.
  abbrev pub RefusesText : List ℕ → TextRefusal → Type 0
  RefusesText text (BadPatch version fault) =
      (version ≡ length zone.brief.ids + 1) × IsPatchFault text fault
  RefusesText text (Diverged version have theirs) =
      (next : CheckedPatch) × IsText text next × (version ≡ length zone.brief.ids)
      × (have ≡ last_of zone.brief.ids) × (theirs ≡ next.meaning.prev) × (theirs ≢ have)
  RefusesText text (Repeated version id) =
      (next : CheckedPatch) × IsText text next × (id ≡ next.meaning.id)
      × (decided zone next ≡ take.Repeated version)
  RefusesText text (Full what have limit) =
      (next : CheckedPatch) × IsText text next × (decided zone next ≡ take.Full what have limit)
  RefusesText text TermsFull =
      (next : CheckedPatch) × IsText text next × IsNextForZone zone next
      × AreMore most (changes_taken (more ++ next ∷ [])) known
  RefusesText text DiskFault =
      (next : CheckedPatch) × IsText text next × IsNextForZone zone next
  RefusesText text OutOfMemory = Unit {0}

  -- how what was said to the fetch of the next version ends it, or that no memory was found for the
  -- call
  pub data NextEnds (said : List WasSaid) (end : RunEnd TextRefusal) : Type 0 where
    refused : (text : List ℕ) (refusal : TextRefusal) → said ≡ Ok (answer.Patch text) ∷ []
        → RefusesText text refusal → end ≡ run.Refused refusal → NextEnds said end
    answered : (a : Answer) → said ≡ Ok a ∷ []
        → FetchRefuses (length zone.brief.ids + 1) a end → NextEnds said end
    faulty : (fault : AskFault) → said ≡ Err fault ∷ [] → end ≡ end_of_fault fault
        → NextEnds said end
    not_asked : said ≡ [] → end ≡ run.OutOfMemory → NextEnds said end

-- ---- a whole run

module _ {D : Type 0} (old new : ZoneView D) (said : List WasSaid) (more : List CheckedPatch) where
  -- Why a run ended, by what was said and the patches taken of it: the log's call told no log; or
  -- one that the zone doesn't go before; or the zone goes before it, and a fetch behind the patches
  -- taken ended it, or none was left.
  pub data RunEnds (end : RunEnd TextRefusal) : Type 0 where
    unanswered : more ≡ [] → new ≡ old → LogEnds said end → RunEnds end
    compared : (theirs : ℕ) (head : Option Id) → said ≡ came theirs head [] [] → more ≡ []
        → new ≡ old → Compares (length old.brief.ids) (last_of old.brief.ids) theirs head end
        → RunEnds end
    stopped : (theirs : ℕ) (head : Option Id) (last : List WasSaid)
        → said ≡ came theirs head more last
        → GoesBefore (length old.brief.ids) (last_of old.brief.ids) theirs head
        → length new.brief.ids < theirs → NextEnds old.terms more new last end → RunEnds end
    caught_up : (theirs : ℕ) (head : Option Id) → said ≡ came theirs head more []
        → GoesBefore (length old.brief.ids) (last_of old.brief.ids) theirs head
        → theirs ≡ length new.brief.ids → end ≡ run.CaughtUp theirs → RunEnds end

  -- the end is that of such a run
  abbrev pub EndIs : SyncEnd → Type 0
  EndIs end = (of_run : RunEnd TextRefusal) × (end ≡ sync_end of_run) × RunEnds of_run
