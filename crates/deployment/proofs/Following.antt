-- Followers: from what was told to what a zone holds.
use Rattle.std.proofs.Common.{◌≡◌, inl, inr, ⊎_elim, ℕ, zero, suc, ◌+◌, Bool, true, false, not, if◌then◌else◌, List, [], ◌∷◌, ◌++◌, length, map, Option, Some, None, Ok, Err, refl, sym, ◌∙◌, ap, subst, arith}
use Rattle.std.specs.List.{AllByRecursion}
use Rattle.std.specs.Prelude.{slice_get}
use Rattle.std.proofs.lemmas.List.{map-append, length-map}
use mathlib.Core.List.{IsPrefix}
use Rattle.disk_model.specs.declared.disk.Disk.{Ghosts}
use Rattle.disk_model.specs.Past.{Past, MayHaveLeft}
use Rattle.disk_model.proofs.Moments.{starts}
use Rattle.log_base.specs.OneMore.{with_one_more}
use Rattle.log_base.specs.declared.limits.LogLimits.{LogLimits}
use Rattle.log_journal.specs.File.{Holds}
use Rattle.log_journal.specs.declared.form.Form.TheVariants.{New}
use Rattle.log_journal.proofs.OneReading.{one_list as one_reading}
use Rattle.chain_core.specs.declared.chain.Patch.{Patch}
use Rattle.chain_core.specs.Patches.{patch_at}
use Rattle.chain_core.specs.Runs.{patches_in}
use Rattle.checkpoint_text.specs.Brief.{Brief}
use Rattle.patch_log.specs.Log.{IsSoundRun, bare}
use Rattle.patch_meaning.specs.Checked.{CheckedPatch, AreChecked, checked_texts}
use Rattle.patch_meaning.specs.Patch.{IsPatch}
use Rattle.patch_meaning.proofs.Joined.{checked_by_itself}
use Rattle.patch_meaning.proofs.Settled.{one_meaning}
use Rattle.turn_cell.specs.Turns.{AllOf, IsIn}
use Rattle.delta_client.specs.Exchanges.{WasSaid}
use Rattle.delta_client.specs.Serving.{AllSaid}
use Rattle.rpc_answers.specs.declared.answer.Answer.{Answer}
use Rattle.rpc_answers.specs.declared.answer.Answer.TheVariants as answer
use Rattle.rpc_calls.specs.declared.call.Call.{Call}
use Rattle.rpc_calls.specs.declared.call.Call.TheVariants as calls
use Rattle.zone_files.specs.Generation.{number_of}
use Rattle.zone_pairs.specs.Pair.{PairPoint, payloads_at, FileHolds, IsNextBrief, MayBeBeside, MayHoldPayloads, ZoneHolds, ZoneHoldsByRole}
use Rattle.zone_pairs.proofs.OneZone.{one_zone}
use Rattle.zone_pairs.proofs.Together.{without_new}
use Rattle.zone_state.specs.Brief.{brief_of, id_taken, with_patch}
use Rattle.zone_state.specs.Zone.{ZoneView, DiskHolds, zone_number}
use Rattle.zone_state.proofs.Growing.{brief-push}
use Rattle.zone_state.proofs.Sound.{heads}
use Rattle.paired_zone.specs.declared.answer.CheckEnd.{CheckEnd}
use Rattle.paired_zone.specs.Checkpointing.{MakesCheckpoint, disk_in, point_made}
use Rattle.paired_zone.specs.Zone.{PairedView, first_in, second_in}
use Rattle.follower.specs.declared.ends.SyncEnd.{SyncEnd}
use Rattle.follower.specs.Calls.{calls_of}
use Rattle.follower.specs.Chains.{HasTextAt, TextIsOf, TextsAreOf, FollowsChain, IsToldTexts}
use Rattle.follower.specs.Footing.{Footing, one_file, two_files, DisksOf, PairDisks, Tells, of_pair, HoldsFront, PairHoldsFront}
use Rattle.follower.proofs.Fronts.{checked_both, checked_front, shorter_prefix, follows_on}
use Rattle.follower.proofs.Images.{leaves_fronts}
use Rattle.world_core.proofs.Growing.{GrowsTo}
use Rattle.deployment.specs.History.{ServerRun}
use Rattle.deployment.specs.Promise.{KeepsPromise}
use Rattle.deployment.specs.Followers.{WasTold, TextWasTold, Images, AreNew, OpensOn, MayLeaveImages, ZoneAct, catches_up, makes_checkpoint, zone_behind, ZoneRun, Acts, AreActs, CatchesUp, StopsIn, IsZoneRun, AreZoneRuns, ReplaysFront, HoldFront, FollowsOn}

-- ---- the patches of a chain, as they are read

-- what the texts of runs say
record IsReadOf (patches : List Patch) : Type 0 where
  read : List CheckedPatch
  are_checked : AreChecked read
  bare_is : map bare read ≡ patches

read_of : (runs : List (List Patch)) → AllByRecursion IsSoundRun runs → IsReadOf (patches_in runs)
read_of [] sound = record { read = []; are_checked = tt; bare_is = refl }
read_of (run ∷ runs) sound =
    let rest = read_of runs sound.1 in
    let first = sound.0 in
    record {
      read = first.patches ++ rest.read;
      are_checked = checked_both first.patches rest.read (checked_by_itself _ first.patches first.read.split) rest.are_checked;
      bare_is = map-append bare first.patches rest.read ∙ (λ i. first.bare_is i ++ rest.bare_is i);
    }

-- texts are those of one list of patches
one_patch : (p q : CheckedPatch) → IsPatch p.text p.meaning → IsPatch q.text q.meaning → p.text ≡ q.text → p ≡ q
one_patch p q is other same =
    let meaning : p.meaning ≡ q.meaning = one_meaning q.text p.meaning q.meaning (subst (λ (t : List ℕ). IsPatch t p.meaning) same is) other in
    (λ i. record { text = same i; meaning = meaning i })

one_read : (ps qs : List CheckedPatch) → checked_texts ps ≡ checked_texts qs → AreChecked ps → AreChecked qs → ps ≡ qs
one_read [] [] same one other = refl
one_read [] (q ∷ qs) same one other = absurd (cc)
one_read (p ∷ ps) [] same one other = absurd (cc)
one_read (p ∷ ps) (q ∷ qs) same one other =
    let parts = heads p.text q.text (checked_texts ps) (checked_texts qs) same in
    let first = one_patch p q one.0 other.0 parts.0 in
    let rest = one_read ps qs parts.1 one.1 other.1 in
    (λ i. first i ∷ rest i)

-- a front of them is one of the patches
front_bare : (front whole : List CheckedPatch) → IsPrefix front whole → GrowsTo (map bare front) (map bare whole)
front_bare front whole begins = (map bare begins.0, ap (map bare) (sym begins.1) ∙ map-append bare front begins.0)

-- what stands at a place
record StandsIn (whole : List CheckedPatch) (place : ℕ) (patch : Patch) : Type 0 where
  before : List CheckedPatch
  here : CheckedPatch
  behind : List CheckedPatch
  parts : whole ≡ before ++ here ∷ behind
  place_is : place ≡ length before
  patch_is : bare here ≡ patch

stands_in : (whole : List CheckedPatch) (place : ℕ) (patch : Patch) → slice_get (map bare whole) place ≡ Some patch → StandsIn whole place patch
stands_in [] place patch is = absurd (cc)
stands_in (p ∷ whole) zero patch is = record { before = []; here = p; behind = whole; parts = refl; place_is = refl; patch_is = cc }
stands_in (p ∷ whole) (suc place) patch is =
    let there = stands_in whole place patch is in
    let further : suc place ≡ length (p ∷ there.before) = omega (arith, there.place_is) in
    record { before = p ∷ there.before; here = there.here; behind = there.behind; parts = ap (λ (ps : List CheckedPatch). p ∷ ps) there.parts; place_is = further; patch_is = there.patch_is }

text_at : (whole : List CheckedPatch) (version : ℕ) (patch : Patch) (text : List ℕ) → patch_at (map bare whole) version ≡ Some patch → patch.text ≡ text → HasTextAt whole version text
text_at whole zero patch text is same = absurd (cc)
text_at whole (suc place) patch text is same =
    let there = stands_in whole place patch is in
    let count : suc place ≡ length there.before + 1 = omega (arith, there.place_is) in
    record { before = there.before; patch = there.here; behind = there.behind; chain_is = there.parts; version_is = count; text_is = ap (λ (p : Patch). p.text) there.patch_is ∙ same }

-- ---- two files by their role

-- the image of the file that is the second, or the first
abbrev image_in : Bool → List ℕ × List ℕ → List ℕ
image_in true images = images.1
image_in false images = images.0

module _ {D : Type 0} (disks : Ghosts D) where
  -- from the current file and the other to the same two files later
  by_role : (second : Bool) (current other : D) (new : PairedView D) (images : List ℕ × List ℕ)
      → MayHaveLeft (disks.past (if second then other else current)) (disks.past (first_in new)) images.0 → MayHaveLeft (disks.past (if second then current else other)) (disks.past (second_in new)) images.1
      → MayHaveLeft (disks.past current) (disks.past (disk_in new second)) (image_in second images) × MayHaveLeft (disks.past other) (disks.past (disk_in new (not second))) (image_in (not second) images)
  by_role true current other new images first last = (last, first)
  by_role false current other new images first last = (first, last)

  -- where the same file is current
  current_still : (second : Bool) (new : PairedView D) → new.second ≡ second → disk_in new second ≡ new.current
  current_still true new same = ap (λ (b : Bool). if b then new.current else new.other) same
  current_still false new same = ap (λ (b : Bool). if b then new.other else new.current) same

  other_still : (second : Bool) (new : PairedView D) → new.second ≡ second → disk_in new (not second) ≡ new.other
  other_still true new same = ap (λ (b : Bool). if b then new.other else new.current) same
  other_still false new same = ap (λ (b : Bool). if b then new.current else new.other) same

-- images of a zone by role are those of its two files
in_files : (second : Bool) (images : List ℕ × List ℕ) (brief : Brief) → ZoneHoldsByRole second (image_in second images) (image_in (not second) images) brief → ZoneHolds images.0 images.1 brief
in_files true images brief held = held
in_files false images brief held = held

-- in every image of a file with nothing in doubt stand the payloads
holds_now : (past : Past) (number : ℕ) (payloads : List (List ℕ)) (doubt : Option CheckedPatch) → doubt ≡ None → FileHolds past number payloads doubt → (image : List ℕ) → MayHaveLeft past past image → MayHoldPayloads number payloads doubt image
holds_now past number payloads None none held image left = (starts (λ (it : List ℕ). Holds it number payloads) past held.each).each image left
holds_now past number payloads (Some one) none held image left = absurd (cc)

one_now : (past : Past) (end : ℕ) (taken : List CheckedPatch) (doubt : Option CheckedPatch) → doubt ≡ None → DiskHolds past end taken doubt → (image : List ℕ) → MayHaveLeft past past image → Holds image zone_number (checked_texts taken)
one_now past end taken None none held image left = (starts (λ (it : List ℕ). Holds it zone_number (checked_texts taken)) past held.each).each image left
one_now past end taken (Some one) none held image left = absurd (cc)

module _ {D : Type 0} (number : ℕ) (limits : LogLimits) (image : List ℕ) (runs : List (ServerRun D)) (log : List (List Patch)) (keeps : KeepsPromise number limits image runs log) (whole : List CheckedPatch) (checked : AreChecked whole) (bare_is : map bare whole ≡ patches_in log) where
  -- ---- what was told stands in the chain

  told_is : (version : ℕ) (text : List ℕ) → WasTold runs version text → HasTextAt whole version text
  told_is version text told =
      let given = keeps.replies told.run told.of_runs told.pass told.of_run told.seen told.of_pass in
      let at = given.served told.patch version told.call_is told.reply_is in
      text_at whole version told.patch text (subst (λ (ps : List Patch). patch_at ps version ≡ Some told.patch) (sym bare_is) at) told.text_is

  answer_is_of : (source : List ℕ) (version : ℕ) (a : Answer) → TextWasTold runs (calls.FetchVersion source version) (Ok a) → TextIsOf whole (calls.FetchVersion source version) (Ok a)
  answer_is_of source asked answer.Pong told = tt
  answer_is_of source asked (answer.Sources it) told = tt
  answer_is_of source asked (answer.Source it) told = tt
  answer_is_of source asked (answer.Info version head) told = tt
  answer_is_of source asked (answer.Version version) told = tt
  answer_is_of source asked (answer.Run first version) told = tt
  answer_is_of source asked (answer.Patch text) told = told_is asked text told
  answer_is_of source asked answer.NoRoute told = tt
  answer_is_of source asked answer.NoSource told = tt
  answer_is_of source asked (answer.NoPatch version) told = tt
  answer_is_of source asked answer.BadMethod told = tt
  answer_is_of source asked answer.Media told = tt
  answer_is_of source asked answer.BadJson told = tt
  answer_is_of source asked (answer.BadCall member) told = tt
  answer_is_of source asked (answer.BadPatch at kind) told = tt
  answer_is_of source asked (answer.BadRun at) told = tt
  answer_is_of source asked (answer.BadName at) told = tt
  answer_is_of source asked (answer.BadUri at) told = tt
  answer_is_of source asked (answer.Known version same) told = tt
  answer_is_of source asked (answer.Conflict version head prev_version) told = tt
  answer_is_of source asked (answer.NameTaken id) told = tt
  answer_is_of source asked (answer.IdTaken name) told = tt
  answer_is_of source asked (answer.Full what have limit) told = tt
  answer_is_of source asked answer.DiskFault told = tt
  answer_is_of source asked answer.OutOfMemory told = tt
  answer_is_of source asked (answer.BadRequest kind) told = tt

  text_is_of : (call : Call) (one : WasSaid) → TextWasTold runs call one → TextIsOf whole call one
  text_is_of calls.Ping one told = tt
  text_is_of calls.List one told = tt
  text_is_of (calls.Source name) one told = tt
  text_is_of (calls.SourceById id) one told = tt
  text_is_of (calls.SourceByUri uri) one told = tt
  text_is_of (calls.Log name) one told = tt
  text_is_of (calls.Version name) one told = tt
  text_is_of (calls.Remove name) one told = tt
  text_is_of (calls.Create name uri id) one told = tt
  text_is_of (calls.Rename name new_name) one told = tt
  text_is_of (calls.Append name patch) one told = tt
  text_is_of (calls.AppendRun name patches) one told = tt
  text_is_of (calls.FetchVersion name version) (Ok a) told = answer_is_of name version a told
  text_is_of (calls.FetchVersion name version) (Err fault) told = tt
  text_is_of (calls.FetchId name id) one told = tt

  texts_are_of : (asked : List Call) (said : List WasSaid) → AllSaid (TextWasTold runs) asked said → TextsAreOf whole asked said
  texts_are_of [] said told = tt
  texts_are_of (call ∷ asked) [] told = tt
  texts_are_of (call ∷ asked) (one ∷ said) told = (text_is_of call one told.0, texts_are_of asked said told.1)

  -- ---- what images hold

  -- the images are those of a zone that took a front of the patches
  abbrev InFront : (on : Footing) → Images on → Type 0
  InFront (one_file disks) image = HoldsFront whole image
  InFront (two_files disks) images = (front : List CheckedPatch) × IsPrefix front whole × ZoneHolds images.0 images.1 (brief_of front)

  begins : (taken : List CheckedPatch) (doubt : Option CheckedPatch) → doubt ≡ None → IsPrefix taken whole → IsPrefix (with_one_more taken doubt) whole
  begins taken None none is = is
  begins taken (Some one) none is = absurd (cc)

  without : (taken : List CheckedPatch) (doubt : Option CheckedPatch) → IsPrefix (with_one_more taken doubt) whole → IsPrefix taken whole
  without taken None is = is
  without taken (Some one) is = shorter_prefix taken (one ∷ []) whole is

  doubtful : (taken : List CheckedPatch) (doubt : Option CheckedPatch) (one : CheckedPatch) → doubt ≡ Some one → IsPrefix (with_one_more taken doubt) whole → IsPrefix (taken ++ one ∷ []) whole
  doubtful taken doubt one is begun = subst (λ (it : Option CheckedPatch). IsPrefix (with_one_more taken it) whole) is begun

  -- what a file holds is one list
  held_front : (file : List ℕ) (taken : List CheckedPatch) → AreChecked taken → Holds file zone_number (checked_texts taken) → HoldsFront whole file → IsPrefix taken whole
  held_front file taken are holds held =
      let front : IsPrefix held.0 whole = held.1 in
      let texts = one_reading New file zone_number (checked_texts taken) (checked_texts held.0) holds held.2 in
      subst (λ (ps : List CheckedPatch). IsPrefix ps whole) (sym (one_read taken held.0 texts are (front_checked held.0 whole front checked))) front
    where
      front_checked : (front all : List CheckedPatch) → IsPrefix front all → AreChecked all → AreChecked front
      front_checked front all is every = checked_front front is.0 (subst AreChecked (sym is.1) every)

  -- ---- a zone

  -- the zone follows the chain with some patches
  abbrev Follows : (on : Footing) → ZoneView (DisksOf on) → Type 0
  Follows on zone = (taken : List CheckedPatch) × FollowsChain on whole zone taken

  -- it was opened on images
  opens : (on : Footing) (images : Images on) (zone : ZoneView (DisksOf on)) → InFront on images → OpensOn on images zone → Follows on zone
  opens (one_file disks) image zone held is = (
    is.0,
    record {
      stands = is.2;
      begins = begins is.0 zone.doubt is.3 (held_front image is.0 is.2.without.checked is.1 held);
      replayed = is.2.brief_is;
    },
  )
  opens (two_files disks) images zone held is =
      let brief : zone.brief ≡ brief_of held.0 = one_zone images.0 images.1 zone.brief (brief_of held.0) is.0 held.2 in
      (held.0, record { stands = (is.1, brief); begins = begins held.0 zone.doubt is.2 held.1; replayed = brief })

  -- where it has done nothing since
  rests : (on : Footing) (images : Images on) (zone : ZoneView (DisksOf on)) (left : Images on) → Tells on → InFront on images → OpensOn on images zone → MayLeaveImages on zone zone left → InFront on left
  rests (one_file disks) image zone left tells held is leaves =
      (is.0, held_front image is.0 is.2.without.checked is.1 held, one_now (disks.past zone.disk) (_) is.0 zone.doubt is.3 (is.2.on_disk tells) left leaves)
  rests (two_files disks) images zone left tells held is leaves =
      let at = is.1.1 in
      let point : PairPoint = is.1.0 in
      let brief : zone.brief ≡ brief_of held.0 = one_zone images.0 images.1 zone.brief (brief_of held.0) is.0 held.2 in
      let roles = by_role disks zone.disk.second zone.disk.current zone.disk.other (of_pair zone) left leaves.0 leaves.1 in
      let second = zone.disk.second in
      let of_current = subst (λ (d : _). MayHaveLeft (disks.past zone.disk.current) (disks.past d) (image_in second left)) (current_still disks second (of_pair zone) refl) roles.0 in
      let of_other = subst (λ (d : _). MayHaveLeft (disks.past zone.disk.other) (disks.past d) (image_in (not second) left)) (other_still disks second (of_pair zone) refl) roles.1 in
      let none : point.doubt ≡ None = at.doubt_is ∙ is.2 in
      let current = holds_now (disks.past zone.disk.current) (number_of point.second) (payloads_at point) point.doubt none (at.stands.on_current tells) (image_in second left) of_current in
      let beside = (starts (MayBeBeside point.second point.generation zone.brief) (disks.past zone.disk.other) (at.stands.on_other tells)).each (image_in (not second) left) of_other in
      let found = without_new point zone.brief at.stands.start_is at.stands.in_first at.stands.checked at.stands.take zone.limits point.doubt None (image_in second left) (image_in (not second) left) at.stands.doubtful current beside in
      let same : found.0 ≡ brief_of held.0 = next_none found.1 none ∙ brief in (
        held.0,
        held.1,
        in_files second left (brief_of held.0) (subst (λ (b : Brief). ZoneHoldsByRole second (image_in second left) (image_in (not second) left) b) same
            (subst (λ (b : Bool). ZoneHoldsByRole b (image_in second left) (image_in (not second) left) found.0) at.second_is found.2)),
      )
    where
      next_none : {brief next : Brief} {doubt : Option CheckedPatch} → IsNextBrief brief doubt None next → doubt ≡ None → next ≡ brief
      next_none (inl same) none = same
      next_none (inr it) none = ⊎_elim (λ (is : _ ≡ Some it.0). absurd (cc)) (λ (is : None ≡ Some it.0). absurd (cc)) it.1

  -- ---- what it does

  module _ (on : Footing) (old new : ZoneView (DisksOf on)) (taken : List CheckedPatch) (so : FollowsChain on whole old taken) (name : List ℕ) (took : List CheckedPatch) (said : List WasSaid) (end : SyncEnd) (act : CatchesUp on runs old new name took said end) where
    count : length old.brief.ids ≡ length taken
    count = ap (λ (b : Brief). length b.ids) so.replayed ∙ length-map taken id_taken

    is_told : IsToldTexts on whole old new taken took name said end
    is_told = record {
      checked = checked;
      stands = so.stands;
      begins = so.begins;
      grew = act.grew;
      ended = act.ended;
      texts = subst (λ (n : ℕ). TextsAreOf whole (calls_of name n said) said) count (texts_are_of (_) said act.told);
    }

    caught_up : Follows on new
    caught_up = (taken ++ took, follows_on on old new whole taken took name said end is_told)

  -- the same file of two is current behind it
  same_current : {Z : Type 0} (disks : Ghosts Z) (old new : ZoneView (PairDisks Z)) (taken : List CheckedPatch) (so : FollowsChain (two_files disks) whole old taken) (name : List ℕ) (took : List CheckedPatch) (said : List WasSaid) (end : SyncEnd)
      → CatchesUp (two_files disks) runs old new name took said end → new.disk.second ≡ old.disk.second
  same_current disks old new taken so name took said end act = sym ((act.grew.took so.stands.0.0 so.stands.0.1).second_is) ∙ so.stands.0.1.second_is

  caught_left : (on : Footing) (old new : ZoneView (DisksOf on)) (taken : List CheckedPatch) (so : FollowsChain on whole old taken) (name : List ℕ) (took : List CheckedPatch) (said : List WasSaid) (end : SyncEnd) (act : CatchesUp on runs old new name took said end) (left : Images on)
      → Tells on → MayLeaveImages on old new left → InFront on left
  caught_left (one_file disks) old new taken so name took said end act left tells leaves =
      (leaves_fronts (one_file disks) old new whole taken took name said end (is_told (one_file disks) old new taken so name took said end act) tells).each left leaves
  caught_left (two_files disks) old new taken so name took said end act left tells leaves =
      let second = old.disk.second in
      let same = same_current disks old new taken so name took said end act in
      let roles = by_role disks second old.disk.current old.disk.other (of_pair new) left leaves.0 leaves.1 in
      let of_current = subst (λ (d : _). MayHaveLeft (disks.past old.disk.current) (disks.past d) (image_in second left)) (current_still disks second (of_pair new) same) roles.0 in
      let of_other = subst (λ (d : _). MayHaveLeft (disks.past old.disk.other) (disks.past d) (image_in (not second) left)) (other_still disks second (of_pair new) same) roles.1 in
      let held : PairHoldsFront second whole (image_in second left) (image_in (not second) left) =
      leaves_fronts (two_files disks) old new whole taken took name said end (is_told (two_files disks) old new taken so name took said end act) tells (image_in second left) (image_in (not second) left) of_current of_other in
      (held.0, held.1, in_files second left (brief_of held.0) held.2)

  -- a checkpoint
  module _ {Z : Type 0} (disks : Ghosts Z) (old new : ZoneView (PairDisks Z)) (taken : List CheckedPatch) (so : FollowsChain (two_files disks) whole old taken) (end : CheckEnd) (act : MakesCheckpoint disks (of_pair old) (of_pair new) end) where
    checked_still : Follows (two_files disks) new
    checked_still =
        let brief : new.brief ≡ brief_of taken = act.brief ∙ so.replayed in (
          taken,
          record {
            stands = ((point_made end act.beside.point old.brief new.doubt, act.beside.stands), brief);
            begins = ⊎_elim (λ (same : new.doubt ≡ old.doubt). subst (λ (doubt : Option CheckedPatch). IsPrefix (with_one_more taken doubt) whole) (sym same) so.begins)
                (λ (none : new.doubt ≡ None). begins taken new.doubt none (without taken old.doubt so.begins)) act.doubt;
            replayed = brief;
          },
        )

    next_front : (doubt : Option CheckedPatch) (next : Brief) → doubt ≡ old.doubt → IsNextBrief old.brief doubt None next → (front : List CheckedPatch) × IsPrefix front whole × (next ≡ brief_of front)
    next_front doubt next same (inl is) = (taken, without taken old.doubt so.begins, is ∙ so.replayed)
    next_front doubt next same (inr it) = ⊎_elim
        (λ (is : doubt ≡ Some it.0). (taken ++ it.0 ∷ [], doubtful taken old.doubt it.0 (sym same ∙ is) so.begins, it.2 ∙ (ap (λ (b : Brief). with_patch b it.0) so.replayed ∙ sym (brief-push taken it.0))))
        (λ (is : None ≡ Some it.0). absurd (cc)) it.1

    checked_left : (left : List ℕ × List ℕ) → disks.tells → MayLeaveImages (two_files disks) old new left → InFront (two_files disks) left
    checked_left left tells leaves =
        let second = old.disk.second in
        let point : PairPoint = act.beside.point in
        let at = act.beside.stood in
        let roles = by_role disks second old.disk.current old.disk.other (of_pair new) left leaves.0 leaves.1 in
        let current = (act.beside.on_current tells).each (image_in second left) roles.0 in
        let beside = (act.beside.on_other tells).each (image_in (not second) left) roles.1 in
        let found = without_new point old.brief at.stands.start_is at.stands.in_first at.stands.checked at.stands.take old.limits point.doubt None (image_in second left) (image_in (not second) left) at.stands.doubtful current beside in
        let front = next_front point.doubt found.0 at.doubt_is found.1 in (
          front.0,
          front.1,
          in_files second left (brief_of front.0) (subst (λ (b : Brief). ZoneHoldsByRole second (image_in second left) (image_in (not second) left) b) front.2
              (subst (λ (b : Bool). ZoneHoldsByRole b (image_in second left) (image_in (not second) left) found.0) at.second_is found.2)),
        )

  -- an act
  acts_on : (on : Footing) (old : ZoneView (DisksOf on)) (act : ZoneAct (DisksOf on)) → Follows on old → Acts on runs old act → Follows on (zone_behind act)
  acts_on on old (catches_up name took said end new) so is = caught_up on old new so.0 so.1 name took said end is
  acts_on (one_file disks) old (makes_checkpoint end new) so is = absurd is
  acts_on (two_files disks) old (makes_checkpoint end new) so is = checked_still disks old new so.0 so.1 end is

  act_left : (on : Footing) (old : ZoneView (DisksOf on)) (act : ZoneAct (DisksOf on)) (left : Images on) → Tells on → Follows on old → Acts on runs old act → MayLeaveImages on old (zone_behind act) left → InFront on left
  act_left on old (catches_up name took said end new) left tells so is leaves = caught_left on old new so.0 so.1 name took said end is left tells leaves
  act_left (one_file disks) old (makes_checkpoint end new) left tells so is leaves = absurd is
  act_left (two_files disks) old (makes_checkpoint end new) left tells so is leaves = checked_left disks old new so.0 so.1 end is left tells leaves

  -- ---- runs of a zone

  module _ (on : Footing) (tells : Tells on) where
    of_chain : (taken : List CheckedPatch) → IsPrefix taken whole → GrowsTo (map bare taken) (patches_in log)
    of_chain taken front = subst (λ (ps : List Patch). GrowsTo (map bare taken) ps) bare_is (front_bare taken whole front)

    replays : (zone : ZoneView (DisksOf on)) → Follows on zone → ReplaysFront on (patches_in log) zone
    replays zone so = record { taken = so.0; front = of_chain so.0 (without so.0 zone.doubt so.1.begins); stands = so.1.stands; replayed = so.1.replayed }

    each_replays : (zone : ZoneView (DisksOf on)) (acts : List (ZoneAct (DisksOf on))) → Follows on zone → AreActs on runs zone acts → AllOf (λ (act : ZoneAct (DisksOf on)). ReplaysFront on (patches_in log) (zone_behind act)) acts
    each_replays zone [] so are = tt
    each_replays zone (act ∷ more) so are =
        let behind = acts_on on zone act so are.0 in
        (replays (zone_behind act) behind, each_replays (zone_behind act) more behind are.1)

    -- wherever an act stops
    stops_in : (zone : ZoneView (DisksOf on)) (act : ZoneAct (DisksOf on)) (more : List (ZoneAct (DisksOf on))) (left : Images on) → Follows on zone → AreActs on runs zone (act ∷ more) → StopsIn on runs zone (act ∷ more) left → InFront on left
    stops_in zone act [] left so are stops = act_left on zone act left tells so are.0 stops
    stops_in zone act (next ∷ more) left so are stops = stops_in (zone_behind act) next more left (acts_on on zone act so are.0) are.1 stops

    run_left : (images : Images on) (opened : ZoneView (DisksOf on)) (acts : List (ZoneAct (DisksOf on))) (left : Images on) → InFront on images → OpensOn on images opened → AreActs on runs opened acts → StopsIn on runs opened acts left → InFront on left
    run_left images opened [] left held is are stops = rests on images opened left tells held is stops
    run_left images opened (act ∷ more) left held is are stops = stops_in opened act more left (opens on images opened held is) are stops

  holds_front : (on : Footing) (images : Images on) → Tells on → InFront on images → HoldFront on (patches_in log) images
  holds_front (one_file disks) image tells held = λ found are holds. of_chain (one_file disks) tells found (held_front image found are holds held)
  holds_front (two_files disks) images tells held = λ found holds. (held.0, of_chain (two_files disks) tells held.0 held.1, one_zone images.0 images.1 found (brief_of held.0) holds held.2)

  module _ (on : Footing) (tells : Tells on) where
    follows : (images : Images on) (run : ZoneRun on) → InFront on images → IsZoneRun on runs images run → InFront on run.left × FollowsOn on (patches_in log) run
    follows images run held is =
        let opened = opens on images run.opened held is.opens in
        let left = run_left on tells images run.opened run.acts run.left held is.opens is.acts is.stops in (
          left,
          record {
            opened = replays on tells run.opened opened;
            each = each_replays on tells run.opened run.acts opened is.acts;
            left = holds_front on run.left tells left;
          },
        )

    each_follows : (images : Images on) (zone_runs : List (ZoneRun on)) (run : ZoneRun on) → InFront on images → AreZoneRuns on runs images zone_runs → IsIn run zone_runs → FollowsOn on (patches_in log) run
    each_follows images [] run held are i = absurd i
    each_follows images (first ∷ more) run held are i = ⊎_elim
        (λ (e : run ≡ first). subst (FollowsOn on (patches_in log)) (sym e) (follows images first held are.0).1)
        (λ (j : IsIn run more). each_follows first.left more run (follows images first held are.0).0 are.1 j) i

    begins_new : (images : Images on) → AreNew on images → InFront on images
    begins_new images new = new_in_front on images new
      where
        new_in_front : (on : Footing) (images : Images on) → AreNew on images → InFront on images
        new_in_front (one_file disks) image new = ([], (whole, refl), new)
        new_in_front (two_files disks) images new = ([], (whole, refl), new)

-- a zone that began with nothing
pub all_follow : {D : Type 0} (number : ℕ) (limits : LogLimits) (image : List ℕ) (runs : List (ServerRun D)) (found : List (List Patch)) → KeepsPromise number limits image runs found → AllByRecursion IsSoundRun found
    → (on : Footing) → Tells on → (images : Images on) (zone_runs : List (ZoneRun on)) (run : ZoneRun on) → AreNew on images → AreZoneRuns on runs images zone_runs → IsIn run zone_runs → FollowsOn on (patches_in found) run
all_follow number limits image runs found keeps sound on tells images zone_runs run new are i =
    let is_read = read_of found sound in
    each_follows number limits image runs found keeps is_read.read is_read.are_checked is_read.bare_is on tells images zone_runs run
    (begins_new number limits image runs found keeps is_read.read is_read.are_checked is_read.bare_is on tells images new) are i
