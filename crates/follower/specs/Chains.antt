-- What a peer says that has a log of this chain, and how catching up with it ends.
use Rattle.std.specs.Prelude.{◌≡◌, ℕ, ◌+◌, ◌≤◌, List, ◌∷◌, ◌++◌, Option, None, Ok}
use Rattle.std.specs.Prelude.{length, map}
use mathlib.Core.List.{IsPrefix}
use Rattle.log_base.specs.OneMore.{with_one_more}
use Rattle.chain_core.specs.Ids.{last_of}
use Rattle.chain_core.specs.Links.{IsChain}
use Rattle.chain_core.specs.Patches.{links_of}
use Rattle.patch_log.specs.Log.{bare}
use Rattle.patch_meaning.specs.Checked.{AreChecked, CheckedPatch}
use Rattle.delta_client.specs.Exchanges.{WasSaid}
use Rattle.delta_client.specs.Serving.{AllSaid, IsSaidBy, Serves}
use Rattle.rpc_answers.specs.declared.answer.Answer.{Answer}
use Rattle.rpc_answers.specs.declared.answer.Answer.TheVariants as answer
use Rattle.rpc_calls.specs.declared.call.Call.{Call}
use Rattle.rpc_calls.specs.declared.call.Call.TheVariants as calls
use Rattle.zone_state.specs.Brief.{brief_of, id_taken}
use Rattle.zone_state.specs.Zone.{ZoneView}
use Rattle.follower.specs.declared.ends.SyncEnd.{SyncEnd}
use Rattle.follower.specs.declared.ends.SyncEnd.TheVariants.{CaughtUp, Full, TermsFull}
use Rattle.follower.specs.declared.ends.SyncEnd.TheVariants.{LinkFault, DiskFault, OutOfMemory}
use Rattle.follower.specs.Calls.{calls_of, fetches}
use Rattle.follower.specs.Causes.{Cause}
use Rattle.follower.specs.Footing.{Footing, DisksOf, HasTaken}
use Rattle.follower.specs.Grown.{GrewBy}
use Rattle.follower.specs.Syncing.{EndIs}

-- ---- texts

-- the chain has this text at this version, counted from 1
pub record HasTextAt (chain : List CheckedPatch) (version : ℕ) (text : List ℕ) : Type 0 where
  pub before : List CheckedPatch
  pub patch : CheckedPatch
  pub behind : List CheckedPatch
  pub chain_is : chain ≡ before ++ patch ∷ behind
  pub version_is : version ≡ length before + 1
  pub text_is : patch.text ≡ text

-- a text that is said to the fetch of a version is the one that the chain has there
abbrev pub TextIsOf : List CheckedPatch → Call → WasSaid → Type 0
TextIsOf chain (calls.FetchVersion name version) (Ok (answer.Patch text)) =
    HasTextAt chain version text
TextIsOf chain call one = Unit {0}

abbrev pub TextsAreOf : List CheckedPatch → List Call → List WasSaid → Type 0
TextsAreOf chain calls said = AllSaid (TextIsOf chain) calls said

-- ---- a zone that follows a chain

module _ (on : Footing) (chain : List CheckedPatch) where
  -- the zone took patches that begin the chain, also with the one in doubt, and its dataset is
  -- their replay
  pub record FollowsChain (zone : ZoneView (DisksOf on)) (taken : List CheckedPatch)
      : Type 0 where
    pub stands : HasTaken on zone taken
    pub begins : IsPrefix (with_one_more taken zone.doubt) chain
    pub replayed : zone.brief ≡ brief_of taken

  -- A zone that follows the chain caught up with a peer, each text of which was that of the chain
  -- at its version.
  pub record IsToldTexts (old new : ZoneView (DisksOf on)) (taken more : List CheckedPatch)
      (name : List ℕ) (said : List WasSaid) (end : SyncEnd) : Type 0 where
    pub checked : AreChecked chain
    pub stands : HasTaken on old taken
    pub begins : IsPrefix (with_one_more taken old.doubt) chain
    pub grew : GrewBy on old new more said
    pub ended : EndIs old new said more end
    pub texts : TextsAreOf chain (calls_of name (length taken) said) said

-- ---- answers

-- a log whose patches begin the chain gives this answer: to the call for it its version and its
-- head, and to the fetch of a version the text that stands there
abbrev pub IsAnswerOf : List CheckedPatch → Call → Answer → Type 0
IsAnswerOf chain (calls.Log name) a =
    (front : List CheckedPatch) × IsPrefix front chain
    × (a ≡ answer.Info (length front) (last_of (map id_taken front)))
IsAnswerOf chain (calls.FetchVersion name version) a =
    (text : List ℕ) × (a ≡ answer.Patch text) × HasTextAt chain version text
IsAnswerOf chain call a = ⊥

-- a call has such an answer, or its link fails, or memory is wanting
abbrev pub IsSaidOf : List CheckedPatch → Call → WasSaid → Type 0
IsSaidOf chain call one = IsSaidBy (IsAnswerOf chain) call one

abbrev pub AreAnswersOf : List CheckedPatch → List Call → List WasSaid → Type 0
AreAnswersOf chain calls said = AllSaid (IsSaidOf chain) calls said

-- where the answer tells how long a log is, that has so many patches or more
abbrev pub TellsNoFewer : ℕ → Answer → Type 0
TellsNoFewer mine (answer.Info version head) = mine ≤ version
TellsNoFewer mine other = Unit {0}

-- so it is of the answer that is told first
abbrev pub IsNoShorter : ℕ → List WasSaid → Type 0
IsNoShorter mine (Ok a ∷ said) = TellsNoFewer mine a
IsNoShorter mine said = Unit {0}

-- an answer of such a log, which has so many patches or more
abbrev pub IsAnswerBehind : ℕ → List CheckedPatch → Call → Answer → Type 0
IsAnswerBehind mine chain call a = IsAnswerOf chain call a × TellsNoFewer mine a

-- The connections to come answer a zone that took these patches as a server does whose log goes on
-- with the rest: the call for the log, and the fetch of each version of the rest.
abbrev pub ServesRest : {L : Type 0} → (L → Option (List ℕ)) → List ℕ → List CheckedPatch
    → List CheckedPatch → List L → Type 0
ServesRest left name taken rest to_come =
    Serves left (IsAnswerBehind (length taken) (taken ++ rest))
    (calls.Log name ∷ fetches name (length taken + 1) rest) None to_come

-- ---- ends

-- the ends that are left where each answer is that of a log with the chain
abbrev pub MayEndWell : SyncEnd → Type 0
MayEndWell (CaughtUp version) = Unit {0}
MayEndWell (Full what have limit) = Unit {0}
MayEndWell TermsFull = Unit {0}
MayEndWell LinkFault = Unit {0}
MayEndWell DiskFault = Unit {0}
MayEndWell OutOfMemory = Unit {0}
MayEndWell other = ⊥

-- The zone caught up with the version that was answered first; or one of its limits is reached, or
-- numbers for terms are wanting, by its cause; or the link or disk failed, or memory is wanting.
pub record Completes {D : Type 0} (old new : ZoneView D) (said : List WasSaid)
    (more : List CheckedPatch) (end : SyncEnd) : Type 0 where
  pub one_of : MayEndWell end
  pub cause : Cause old new said more end

module _ {D : Type 0} (chain : List CheckedPatch) where
  -- A zone whose patches begin a chain caught up with a peer, each answer of which is that of a log
  -- with that chain, which is no shorter than the zone.
  pub record IsWellAnswered (old new : ZoneView D) (taken more : List CheckedPatch) (name : List ℕ)
      (said : List WasSaid) : Type 0 where
    pub checked : AreChecked chain
    pub is_chain : IsChain (links_of (map bare chain))
    pub begins : IsPrefix taken chain
    pub was : old.brief ≡ brief_of taken
    pub is : new.brief ≡ brief_of (taken ++ more)
    pub are_checked : AreChecked (taken ++ more)
    pub answers : AreAnswersOf chain (calls_of name (length taken) said) said
    pub no_shorter : IsNoShorter (length taken) said
