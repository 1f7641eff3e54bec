-- The ends of catching up, each with its cause.
use Rattle.std.specs.Prelude.{◌≡◌, ◌≢◌, ◌⊎◌, ℕ, ◌+◌, ◌<◌, List, [], ◌∷◌, ◌++◌, Option}
use Rattle.std.specs.Prelude.{Ok, Err, length}
use Rattle.delta_base.specs.declared.id.Id.{Id}
use Rattle.term_table.specs.Table.{most}
use Rattle.dataset_tx.specs.Held.{AreMore}
use Rattle.patch_meaning.specs.Checked.{CheckedPatch}
use Rattle.patch_meaning.specs.Patch.{IsPatchFault}
use Rattle.delta_client.specs.declared.fault.AskFault.TheVariants as ask
use Rattle.delta_client.specs.Exchanges.{WasSaid}
use Rattle.rpc_answers.specs.declared.answer.Answer.{Answer}
use Rattle.rpc_answers.specs.declared.answer.Answer.TheVariants as answer
use Rattle.rpc_answers.specs.Answers.{status_of, body_of}
use Rattle.rpc_answers.specs.Prints.{compact}
use Rattle.zone_state.specs.declared.answer.TakeAnswer.TheVariants as take
use Rattle.chain_core.specs.Ids.{last_of}
use Rattle.zone_state.specs.Brief.{changes_taken}
use Rattle.zone_state.specs.Stay.{decided}
use Rattle.zone_state.specs.Zone.{ZoneView}
use Rattle.catch_up.specs.Ends.{TellsNoLog, TellsNoPatch}
use Rattle.follower.specs.declared.ends.SyncEnd.{SyncEnd}
use Rattle.follower.specs.declared.ends.SyncEnd.TheVariants.{CaughtUp, NoSuchName, PeerBehind}
use Rattle.follower.specs.declared.ends.SyncEnd.TheVariants.{NoPatch, PeerRefused, Diverged}
use Rattle.follower.specs.declared.ends.SyncEnd.TheVariants.{Repeated, BadPatch, LinkFault}
use Rattle.follower.specs.declared.ends.SyncEnd.TheVariants.{CutShort, NotUnderstood, Full}
use Rattle.follower.specs.declared.ends.SyncEnd.TheVariants.{TermsFull, DiskFault, OutOfMemory}
use Rattle.follower.specs.Calls.{came}
use Rattle.follower.specs.Grown.{Fetched, IsNextForZone, SaidToFetch}

module _ {D : Type 0} (old new : ZoneView D) (said : List WasSaid) (more : List CheckedPatch) where
  -- this was said to the log's call and nothing else, and the zone is as it was
  abbrev pub SaidToLog : WasSaid → Type 0
  SaidToLog one = (said ≡ one ∷ []) × (more ≡ []) × (new ≡ old)

  -- this was said last, to the log's call or to the fetch of the zone's next version
  abbrev pub WasSaidLast : WasSaid → Type 0
  WasSaidLast one = SaidToLog one ⊎ SaidToFetch new more said one

  -- What was said, and the zone as it is then. Want of memory is free.
  abbrev pub Cause : SyncEnd → Type 0
  Cause (CaughtUp version) =
      (version ≡ length new.brief.ids)
      × ((head : Option Id) × (said ≡ came version head more []))
  Cause NoSuchName = WasSaidLast (Ok answer.NoSource)
  Cause (PeerBehind mine theirs) =
      (mine ≡ length old.brief.ids) × (theirs < mine)
      × ((head : Option Id) × SaidToLog (Ok (answer.Info theirs head)))
  Cause (NoPatch version) =
      (version ≡ length new.brief.ids + 1)
      × ((has : ℕ) × SaidToFetch new more said (Ok (answer.NoPatch has)))
  Cause (PeerRefused status body) =
      (a : Answer) × (status ≡ status_of a) × (body ≡ compact (body_of a))
      × ((SaidToLog (Ok a) × TellsNoLog a) ⊎ (SaidToFetch new more said (Ok a) × TellsNoPatch a))
  Cause (Diverged version have theirs) =
      (version ≡ length new.brief.ids) × (have ≡ last_of new.brief.ids) × (theirs ≢ have)
      × (SaidToLog (Ok (answer.Info version theirs))
      ⊎ ((next : CheckedPatch) × Fetched new more said next × (theirs ≡ next.meaning.prev)))
  Cause (Repeated version id) =
      (next : CheckedPatch) × Fetched new more said next × (id ≡ next.meaning.id)
      × (decided new next ≡ take.Repeated version)
  Cause (BadPatch version fault) =
      (version ≡ length new.brief.ids + 1)
      × ((text : List ℕ) × SaidToFetch new more said (Ok (answer.Patch text))
      × IsPatchFault text fault)
  Cause LinkFault = WasSaidLast (Err ask.LinkFault)
  Cause CutShort = WasSaidLast (Err ask.CutShort)
  Cause (NotUnderstood at) = WasSaidLast (Err (ask.NotUnderstood at))
  Cause (Full what have limit) =
      (next : CheckedPatch) × Fetched new more said next
      × (decided new next ≡ take.Full what have limit)
  Cause TermsFull =
      (next : CheckedPatch) × Fetched new more said next × IsNextForZone new next
      × AreMore most (changes_taken (more ++ next ∷ [])) old.terms
  Cause DiskFault =
      (next : CheckedPatch) × Fetched new more said next × IsNextForZone new next
  Cause OutOfMemory = Unit {0}
