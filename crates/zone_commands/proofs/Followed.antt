-- From what catching up comes to on a zone's disks to what it comes to for its files.
use Rattle.std.proofs.Common.{◌≡◌, ◌≢◌, inl, inr, ℕ, List, [], ◌∷◌, Option, Some, None, Result, Ok, Err, IfOk, length, refl, sym, ap, subst, ◌∙◌}
use Rattle.std.specs.Prelude.{if◌then◌else◌}
use Rattle.log_base.specs.declared.limits.LogLimits.{LogLimits}
use Rattle.log_base.specs.declared.limits.TheConstants.{LOG_LIMITS}
use Rattle.disk_model.specs.declared.disk.Disk.{Ghosts}
use Rattle.disk_model.specs.Past.{MayLeave, reads}
use Rattle.rdf_terms.specs.declared.term.Term.{Term}
use Rattle.patch_meaning.specs.Checked.{CheckedPatch}
use Rattle.checkpoint_text.specs.Brief.{Brief}
use Rattle.zone_pairs.specs.Briefs.{with_patch}
use Rattle.zone_pairs.specs.Pair.{ZoneHolds}
use Rattle.zone_state.specs.Zone.{ZoneView}
use Rattle.paired_zone.specs.Opening.{IsOpened}
use Rattle.paired_zone.specs.Zone.{PairedView, first_in, second_in}
use Rattle.paired_zone.specs.declared.fault.PairFault.{PairFault}
use Rattle.delta_client.specs.Exchanges.{Exchanged, DialView, WasSaid}
use Rattle.catch_up.specs.declared.end.RunEnd.{RunEnd}
use Rattle.follower.specs.declared.ends.SyncEnd.{SyncEnd}
use Rattle.follower.specs.declared.ends.SyncEnd.TheVariants.{CaughtUp, NoSuchName, PeerBehind, NoPatch, PeerRefused, Diverged, Repeated, BadPatch, LinkFault, CutShort, NotUnderstood, Full, TermsFull, DiskFault, OutOfMemory}
use Rattle.follower.specs.declared.ends.TextRefusal.{TextRefusal}
use Rattle.follower.specs.declared.ends.TextRefusal.TheVariants as texts
use Rattle.follower.specs.Calls.{calls_of}
use Rattle.follower.specs.Footing.{further, on_pair, two_files, with_patches}
use Rattle.follower.specs.Grown.{GrewBy, LeftInDoubt, WasTried, as_before, none, tried_last, untried, was_next}
use Rattle.follower.specs.Syncing.{RefusesText, NextEnds, refused, answered, faulty, not_asked, RunEnds, unanswered, compared, stopped, caught_up, EndIs}
use Rattle.zone_commands.specs.Files.{AreZoneFiles}
use Rattle.zone_commands.specs.Following.{AreLeftFiles, Followed, zone_of}
use Rattle.zone_commands.proofs.Held.{AreLeft, left_files}
use Rattle.zone_commands.proofs.Opened.{opened_within}

-- ---- the patch left in doubt

doubtful : (end : SyncEnd) (one : CheckedPatch) (left : Option CheckedPatch) → left ≡ Some one → (end ≢ DiskFault → left ≡ None) → end ≡ DiskFault
doubtful DiskFault one left some is = refl
doubtful (CaughtUp at) one left some is = let nothing = is (λ e. cc) in cc
doubtful NoSuchName one left some is = let nothing = is (λ e. cc) in cc
doubtful (PeerBehind mine at) one left some is = let nothing = is (λ e. cc) in cc
doubtful (NoPatch at) one left some is = let nothing = is (λ e. cc) in cc
doubtful (PeerRefused status body) one left some is = let nothing = is (λ e. cc) in cc
doubtful (Diverged version have theirs) one left some is = let nothing = is (λ e. cc) in cc
doubtful (Repeated version id) one left some is = let nothing = is (λ e. cc) in cc
doubtful (BadPatch version fault) one left some is = let nothing = is (λ e. cc) in cc
doubtful LinkFault one left some is = let nothing = is (λ e. cc) in cc
doubtful CutShort one left some is = let nothing = is (λ e. cc) in cc
doubtful (NotUnderstood at) one left some is = let nothing = is (λ e. cc) in cc
doubtful (Full what have limit) one left some is = let nothing = is (λ e. cc) in cc
doubtful TermsFull one left some is = let nothing = is (λ e. cc) in cc
doubtful OutOfMemory one left some is = let nothing = is (λ e. cc) in cc

-- the patch left in doubt is the one tried, where none was in doubt before
is_tried : (before after : Option CheckedPatch) (more tried : List CheckedPatch) (one : CheckedPatch) → before ≡ None → after ≡ Some one → LeftInDoubt before after more tried → tried ≡ one ∷ []
is_tried before after more tried one nothing some (none is) = absurd cc
is_tried before after more tried one nothing some (as_before nothing_more same) = absurd cc
is_tried before after more tried one nothing some (tried_last other is tried_is) = let both : Some other ≡ Some one = sym is ∙ some in tried_is ∙ cc

-- ---- an end says nothing of the disk

module _ {D : Type 0} where
  -- a zone, whatever its disk
  abbrev seen : ZoneView D → ZoneView (Unit {0})
  seen zone = record { brief = zone.brief; terms = zone.terms; doubt = None; limits = zone.limits; disk = tt }

  module _ (known : List Term) (more : List CheckedPatch) (zone : ZoneView D) where
    text_seen : (text : List ℕ) (refusal : TextRefusal) → RefusesText known more zone text refusal → RefusesText known more (seen zone) text refusal
    text_seen text (texts.BadPatch version fault) is = is
    text_seen text (texts.Diverged version have theirs) is = is
    text_seen text (texts.Repeated version id) is = is
    text_seen text (texts.Full what have limit) is = is
    text_seen text texts.TermsFull is = is
    text_seen text texts.DiskFault is = is
    text_seen text texts.OutOfMemory is = is

    next_seen : (said : List WasSaid) (end : RunEnd TextRefusal) → NextEnds known more zone said end → NextEnds known more (seen zone) said end
    next_seen said end (refused text refusal is why ends) = refused text refusal is (text_seen text refusal why) ends
    next_seen said end (answered a is ends) = answered a is ends
    next_seen said end (faulty fault is ends) = faulty fault is ends
    next_seen said end (not_asked is ends) = not_asked is ends

  module _ (old new : ZoneView D) (said : List WasSaid) (more : List CheckedPatch) where
    run_seen : (end : RunEnd TextRefusal) → RunEnds old new said more end → RunEnds (seen old) (seen new) said more end
    run_seen end (unanswered nothing same ends) = unanswered nothing (ap seen same) ends
    run_seen end (compared theirs head is nothing same ends) = compared theirs head is nothing (ap seen same) ends
    run_seen end (stopped theirs head last is before less ends) = stopped theirs head last is before less (next_seen old.terms more new last end ends)
    run_seen end (caught_up theirs head is before same ends) = caught_up theirs head is before same ends

    end_seen : (end : SyncEnd) → EndIs old new said more end → EndIs (seen old) (seen new) said more end
    end_seen end (of_run, is, ends) = (of_run, is, run_seen of_run ends)

    tried_seen : (tried : List CheckedPatch) → WasTried new more said tried → WasTried (seen new) more said tried
    tried_seen tried (untried nothing) = untried nothing
    tried_seen tried (was_next next is fetched can) = was_next next is fetched can

  seen_as : (zone : ZoneView D) (brief : Brief) → zone.brief ≡ brief → zone.limits ≡ LOG_LIMITS → seen zone ≡ zone_of brief zone.terms
  seen_as zone brief same limits =
      ap (λ (b : Brief). record { brief = b; terms = zone.terms; doubt = None; limits = zone.limits; disk = tt }) same
      ∙ ap (λ (l : LogLimits). record { brief = brief; terms = zone.terms; doubt = None; limits = l; disk = tt }) limits

  pub end_of_zone : (old new : ZoneView D) (brief all : Brief) (said : List WasSaid) (more : List CheckedPatch) (end : SyncEnd)
      → old.brief ≡ brief → old.limits ≡ LOG_LIMITS → new.brief ≡ all → new.limits ≡ LOG_LIMITS
      → EndIs old new said more end → EndIs (zone_of brief old.terms) (zone_of all new.terms) said more end
  end_of_zone old new brief all said more end old_brief old_limits new_brief new_limits is =
      subst (λ (z : ZoneView (Unit {0})). EndIs z (zone_of all new.terms) said more end) (seen_as old brief old_brief old_limits)
      (subst (λ (z : ZoneView (Unit {0})). EndIs (seen old) z said more end) (seen_as new all new_brief new_limits) (end_seen old new said more end is))

  pub tried_of_zone : (old new : ZoneView D) (all : Brief) (said : List WasSaid) (more tried : List CheckedPatch) → new.brief ≡ all → new.limits ≡ LOG_LIMITS → WasTried new more said tried → WasTried (zone_of all new.terms) more said tried
  tried_of_zone old new all said more tried brief limits is =
      subst (λ (z : ZoneView (Unit {0})). WasTried z more said tried) (seen_as new all brief limits) (tried_seen old new said more tried is)

-- ---- a zone was opened, caught up and was closed

module _ {D L : Type 0} (disks : Ghosts D) (net_tells : Type 0) (left sent : L → Option (List ℕ)) (address name : List ℕ) (net net' : DialView L) where
  abbrev what : D → List ℕ
  what disk = reads (disks.past disk)

  -- the files that are left, and the patch that may stand in them
  left_so : (first second : List ℕ) (brief all : Brief) (before doubt : Option CheckedPatch) (more tried : List CheckedPatch) (end : SyncEnd) → brief ≡ all → before ≡ None → LeftInDoubt before doubt more tried → (end ≢ DiskFault → doubt ≡ None)
      → AreLeft first second brief doubt → AreLeftFiles first second all tried end
  left_so first second brief all before doubt more tried end same nothing left_is well (inl files) = inl (subst (AreZoneFiles first second) same files)
  left_so first second brief all before doubt more tried end same nothing left_is well (inr (one, is, files)) =
      inr (doubtful end one doubt is well, (one, is_tried before doubt more tried one nothing is left_is, subst (λ (b : Brief). AreZoneFiles first second (with_patch b one)) same files))

  pub of_disks : (first second : D) (old new : PairedView D) (end : SyncEnd)
      → IsOpened disks (if old.second then second else first) (if old.second then first else second) old → old.limits ≡ LOG_LIMITS → (disks.tells → ZoneHolds (what first) (what second) old.brief)
      → new.limits ≡ old.limits → (old.doubt ≡ None → end ≢ DiskFault → new.doubt ≡ None)
      → (said : List WasSaid) × (more : List CheckedPatch) × GrewBy (two_files disks) (on_pair old) (on_pair new) more said × EndIs (on_pair old) (on_pair new) said more end
      × (net_tells → Exchanged left sent address (calls_of name (length old.brief.ids) said) said None net net')
      → ((d : D) → disks.tells → MayLeave (disks.past d) (reads (disks.past d))) → (first' second' : D) → first' ≡ first_in new → second' ≡ second_in new
      → Followed left sent disks.tells net_tells address name (what first) (what second) (what first') (what second') net net' end
  of_disks first second old new end opened old_limits held same_limits settled follows may first' second' is_first is_second =
      let grew = follows.2 in
      let more = follows.1 in
      let limits = same_limits ∙ old_limits in
      let stands = grew.took opened.point opened.stands in
      subst (λ d. Followed left sent disks.tells net_tells address name (what first) (what second) (what d) (what second') net net' end) (sym is_first)
      (subst (λ d. Followed left sent disks.tells net_tells address name (what first) (what second) (what (first_in new)) (what d) net net' end) (sym is_second) (record {
        brief = old.brief;
        more = more;
        tried = grew.tried;
        was = λ tell. record { hold = held tell; within = opened_within disks first second old opened old_limits };
        checked = grew.checked;
        is = λ tell. left_so (what (first_in new)) (what (second_in new)) new.brief (with_patches old.brief more) old.doubt new.doubt more grew.tried end grew.brief opened.settled grew.left_is (settled opened.settled)
            (left_files disks new (further (two_files disks) opened.point more new.doubt) stands limits tell (λ d. may d tell));
        met = old.terms;
        met' = new.terms;
        are_met = record { start = opened.point.start; patches = opened.point.patches; take = opened.stands.stands.take; met = opened.met };
        said = follows.0;
        was_tried = tried_of_zone (on_pair old) (on_pair new) (with_patches old.brief more) follows.0 more grew.tried grew.brief limits grew.was_tried;
        ended = end_of_zone (on_pair old) (on_pair new) old.brief (with_patches old.brief more) follows.0 more end refl old_limits grew.brief limits follows.3;
        asked = follows.4;
      }))

-- files of a shelf are what their disks read
module _ {L : Type 0} (left sent : L → Option (List ℕ)) (tells shelf_tells net_tells : Type 0) (tell : shelf_tells → tells) (address name : List ℕ) (net net' : DialView L) where
  pub of_shelf : (first second first' second' a b a' b' : List ℕ) (result : Result SyncEnd PairFault) → (shelf_tells → first ≡ a) → (shelf_tells → second ≡ b) → (shelf_tells → first' ≡ a') → (shelf_tells → second' ≡ b')
      → IfOk result (Followed left sent tells net_tells address name first second first' second' net net') → IfOk result (Followed left sent shelf_tells net_tells address name a b a' b' net net')
  of_shelf first second first' second' a b a' b' (Ok end) was_first was_second is_first is_second came = record {
    brief = came.brief;
    more = came.more;
    tried = came.tried;
    was = λ yes. subst (λ (f : List ℕ). AreZoneFiles f b came.brief) (was_first yes) (subst (λ (f : List ℕ). AreZoneFiles first f came.brief) (was_second yes) (came.was (tell yes)));
    checked = came.checked;
    is = λ yes. subst (λ (f : List ℕ). AreLeftFiles f b' (with_patches came.brief came.more) came.tried end) (is_first yes) (subst (λ (f : List ℕ). AreLeftFiles first' f (with_patches came.brief came.more) came.tried end) (is_second yes) (came.is (tell yes)));
    met = came.met;
    met' = came.met';
    are_met = came.are_met;
    said = came.said;
    was_tried = came.was_tried;
    ended = came.ended;
    asked = came.asked;
  }
  of_shelf first second first' second' a b a' b' (Err fault) was_first was_second is_first is_second came = tt
