-- The ends of following, each with its cause.
use Rattle.std.specs.Prelude.{◌≡◌, ◌≢◌, ◌⊎◌, ℕ, ◌+◌, ◌<◌, ◌≤◌, List, [], ◌∷◌, Option, Ok, Err}
use Rattle.delta_base.specs.declared.id.Id.{Id}
use Rattle.delta_base.specs.Outside.{Rose}
use Rattle.disk_model.specs.declared.disk.Disk.{Ghosts}
use Rattle.term_table.specs.Table.{most}
use Rattle.dataset_tx.specs.Held.{AreMore}
use Rattle.patch_meaning.specs.Checked.{CheckedPatch}
use Rattle.patch_meaning.specs.Patch.{IsPatch, IsPatchFault}
use Rattle.delta_client.specs.declared.fault.AskFault.TheVariants as ask
use Rattle.delta_client.specs.Exchanges.{WasSaid}
use Rattle.rpc_answers.specs.declared.answer.Answer.{Answer}
use Rattle.rpc_answers.specs.declared.answer.Answer.TheVariants as answer
use Rattle.rpc_answers.specs.Answers.{status_of, body_of}
use Rattle.rpc_answers.specs.Prints.{compact}
use Rattle.zone_state.specs.declared.answer.TakeAnswer.{TakeAnswer}
use Rattle.zone_state.specs.declared.answer.TakeAnswer.TheVariants as take
use Rattle.turn_cell.specs.Knowing.{own_faults_of, seen_of}
use Rattle.shared_zone.specs.History.{SharedZone, ZoneSight, ZoneStandsInTurn}
use Rattle.shared_zone.specs.History.{brief_seen, version_seen, head_seen}
use Rattle.shared_zone.specs.Legal.{IsNextSeen, decided_of}
use Rattle.catch_up.specs.Ends.{TellsNoLog, TellsNoPatch}
use Rattle.catch_up.specs.Runs.{Run, TakenText}
use Rattle.follower.specs.declared.ends.SyncEnd.{SyncEnd}
use Rattle.follower.specs.declared.ends.SyncEnd.TheVariants.{CaughtUp, NoSuchName, PeerBehind}
use Rattle.follower.specs.declared.ends.SyncEnd.TheVariants.{NoPatch, PeerRefused, Diverged}
use Rattle.follower.specs.declared.ends.SyncEnd.TheVariants.{Repeated, BadPatch, LinkFault}
use Rattle.follower.specs.declared.ends.SyncEnd.TheVariants.{CutShort, NotUnderstood, Full}
use Rattle.follower.specs.declared.ends.SyncEnd.TheVariants.{TermsFull, DiskFault, OutOfMemory}
use Rattle.zone_follower.specs.Following.{Followed}

-- up to which version there were patches behind these texts
abbrev pub reached_by : ℕ → List TakenText → ℕ
reached_by from [] = from
reached_by from (step ∷ steps) = reached_by step.reached steps

-- A zone whose pass was the first sight before the run, and is the second one behind it.
module _ {D : Type 0} (disks : Ghosts D) (origin : SharedZone D) (p : ZoneSight) (run : Run)
    (q : ZoneSight) where
  -- this was said to the log's call, and no patch was fetched
  abbrev pub SaidFirst : WasSaid → Type 0
  SaidFirst one = (run.log ≡ one ∷ []) × (run.steps ≡ []) × (run.last ≡ [])

  -- This was said to the last fetch, which was of the version behind those that the pass knows of
  -- then; the log has that version.
  abbrev pub SaidBehind : WasSaid → Type 0
  SaidBehind one =
      (theirs : ℕ) × (head : Option Id) × (run.log ≡ Ok (answer.Info theirs head) ∷ [])
      × (run.last ≡ one ∷ []) × (reached_by run.mine run.steps ≡ version_seen origin.base q)
      × (version_seen origin.base q < theirs)

  -- this was said last
  abbrev pub EndsSaying : WasSaid → Type 0
  EndsSaying one = SaidFirst one ⊎ SaidBehind one

  -- the last fetch gave the text of this patch
  abbrev pub GivesPatch : CheckedPatch → Type 0
  GivesPatch next = SaidBehind (Ok (answer.Patch next.text)) × IsPatch next.text next.meaning

  -- the zone that the pass knows of then makes this of it
  abbrev pub GivesDecided : CheckedPatch → TakeAnswer → Type 0
  GivesDecided next decided =
      GivesPatch next
      × (decided_of origin.base origin.zone.limits (brief_seen origin.base q) next ≡ decided)

  -- it is the zone's next one
  abbrev pub GivesNext : CheckedPatch → Type 0
  GivesNext next = GivesPatch next × IsNextSeen origin.base origin.zone.limits next q

  -- the zone lay in the turn with just the patches that the pass knows of, and the terms that it
  -- had met and those of this patch are more than there are numbers
  pub record FoundTermsFull (next : CheckedPatch) : Type 0 where
    pub found : SharedZone D
    pub stands : ZoneStandsInTurn disks found
    pub sees : seen_of q ≡ found.history
    pub terms : AreMore most next.meaning.changes found.zone.terms

  -- What was said, and what the pass knows of the zone then. Want of memory is free.
  abbrev pub FollowCause : SyncEnd → Type 0
  FollowCause (CaughtUp version) =
      (version ≤ version_seen origin.base q)
      × ((head : Option Id) × (run.log ≡ Ok (answer.Info version head) ∷ [])) × (run.last ≡ [])
  FollowCause NoSuchName = EndsSaying (Ok answer.NoSource)
  FollowCause (PeerBehind mine theirs) =
      (mine ≡ version_seen origin.base q) × (theirs < mine)
      × ((head : Option Id) × SaidFirst (Ok (answer.Info theirs head)))
  FollowCause (NoPatch version) =
      (version ≡ version_seen origin.base q + 1)
      × ((has : ℕ) × SaidBehind (Ok (answer.NoPatch has)))
  FollowCause (PeerRefused status body) =
      (a : Answer) × (status ≡ status_of a) × (body ≡ compact (body_of a))
      × ((SaidFirst (Ok a) × TellsNoLog a) ⊎ (SaidBehind (Ok a) × TellsNoPatch a))
  FollowCause (Diverged version have theirs) =
      (version ≡ version_seen origin.base q) × (have ≡ head_seen origin.base q)
      × (theirs ≢ have)
      × (SaidFirst (Ok (answer.Info version theirs))
      ⊎ ((next : CheckedPatch) × GivesPatch next × (theirs ≡ next.meaning.prev)))
  FollowCause (Repeated version id) =
      (next : CheckedPatch) × GivesDecided next (take.Repeated version)
      × (id ≡ next.meaning.id)
  FollowCause (BadPatch version fault) =
      (version ≡ version_seen origin.base q + 1)
      × ((text : List ℕ) × SaidBehind (Ok (answer.Patch text)) × IsPatchFault text fault)
  FollowCause LinkFault = EndsSaying (Err ask.LinkFault)
  FollowCause CutShort = EndsSaying (Err ask.CutShort)
  FollowCause (NotUnderstood at) = EndsSaying (Err (ask.NotUnderstood at))
  FollowCause (Full what have limit) =
      (next : CheckedPatch) × GivesDecided next (take.Full what have limit)
  FollowCause TermsFull = (next : CheckedPatch) × GivesNext next × FoundTermsFull next
  FollowCause DiskFault =
      (next : CheckedPatch) × GivesNext next × Rose (own_faults_of p) (own_faults_of q)
  FollowCause OutOfMemory = Unit {0}

abbrev pub FollowingsHaveCauses : {D : Type 0} → Ghosts D → SharedZone D → Type 0
FollowingsHaveCauses disks origin =
    (p q : ZoneSight) (run : Run) (end : SyncEnd) → Followed disks origin p run end q
    → FollowCause disks origin p run q end
