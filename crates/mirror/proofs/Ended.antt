-- Which ends are of the peer: neither that of a log that caught up nor a fault of the disk.
use Rattle.std.proofs.Common.{◌≡◌, inl, inr, ℕ, List, Option, refl, sym, subst}
use Rattle.delta_base.specs.declared.id.Id.{Id}
use Rattle.delta_client.specs.declared.fault.AskFault.{AskFault}
use Rattle.delta_client.specs.declared.fault.AskFault.TheVariants as ask
use Rattle.delta_client.specs.Exchanges.{WasSaid}
use Rattle.rpc_answers.specs.declared.answer.Answer.{Answer}
use Rattle.catch_up.specs.declared.end.RunEnd.{RunEnd}
use Rattle.catch_up.specs.declared.end.RunEnd.TheVariants as run
use Rattle.catch_up.specs.Ends as peer
use Rattle.mirror.specs.declared.ends.PullEnd.TheVariants as pull
use Rattle.mirror.specs.declared.ends.PullRefusal.{PullRefusal}
use Rattle.mirror.specs.declared.ends.PullRefusal.TheVariants as text
use Rattle.mirror.specs.Ends.{end_of_pull, end_of_refused, refused_text}
use Rattle.mirror.specs.Pulling.{IsTextRefusal}
use Rattle.patch_meaning.specs.Checked.{Refuses}
use Rattle.patch_meaning.specs.declared.fault.PatchFault.{PatchFault}
use Rattle.patch_meaning.specs.declared.fault.PatchFault.TheVariants as patches

abbrev pub IsOfPeer : RunEnd PullRefusal → Type 0
IsOfPeer (run.CaughtUp version) = ⊥
IsOfPeer (run.Refused refusal) = ⊥
IsOfPeer other = Unit {0}

pub not_caught_up : (end : RunEnd PullRefusal) (version : ℕ) → IsOfPeer end → end_of_pull end ≡ pull.CaughtUp version → ⊥
not_caught_up (run.CaughtUp reached) version is same = is
not_caught_up run.NoSuchName version is same = cc
not_caught_up (run.PeerBehind mine theirs) version is same = cc
not_caught_up (run.HeadsDiffer at have theirs) version is same = cc
not_caught_up (run.NoPatch at) version is same = cc
not_caught_up (run.PeerRefused status body) version is same = cc
not_caught_up run.LinkFault version is same = cc
not_caught_up run.CutShort version is same = cc
not_caught_up (run.NotUnderstood at) version is same = cc
not_caught_up run.OutOfMemory version is same = cc
not_caught_up (run.Refused refusal) version is same = is

pub no_disk : (end : RunEnd PullRefusal) → IsOfPeer end → end_of_pull end ≡ pull.DiskFault → ⊥
no_disk (run.CaughtUp reached) is same = is
no_disk run.NoSuchName is same = cc
no_disk (run.PeerBehind mine theirs) is same = cc
no_disk (run.HeadsDiffer at have theirs) is same = cc
no_disk (run.NoPatch at) is same = cc
no_disk (run.PeerRefused status body) is same = cc
no_disk run.LinkFault is same = cc
no_disk run.CutShort is same = cc
no_disk (run.NotUnderstood at) is same = cc
no_disk run.OutOfMemory is same = cc
no_disk (run.Refused refusal) is same = is

pub refused_not_caught_up : (refusal : PullRefusal) (version : ℕ) → end_of_refused refusal ≡ pull.CaughtUp version → ⊥
refused_not_caught_up (text.BadPatch at fault) version same = cc
refused_not_caught_up (text.Diverged has head theirs) version same = cc
refused_not_caught_up (text.Full what have limit) version same = cc
refused_not_caught_up text.DiskFault version same = cc
refused_not_caught_up text.OutOfMemory version same = cc

pub refused_by_disk : (refusal : PullRefusal) → end_of_refused refusal ≡ pull.DiskFault → refusal ≡ text.DiskFault
refused_by_disk (text.BadPatch at fault) same = absurd (cc)
refused_by_disk (text.Diverged has head theirs) same = absurd (cc)
refused_by_disk (text.Full what have limit) same = absurd (cc)
refused_by_disk text.DiskFault same = refl
refused_by_disk text.OutOfMemory same = absurd (cc)

refusal_of_peer : (a : Answer) (end : RunEnd PullRefusal) → peer.IsRefusal a end → IsOfPeer end
refusal_of_peer a (run.CaughtUp version) is = is
refusal_of_peer a run.NoSuchName is = tt
refusal_of_peer a (run.PeerBehind mine theirs) is = tt
refusal_of_peer a (run.HeadsDiffer version have theirs) is = tt
refusal_of_peer a (run.NoPatch version) is = tt
refusal_of_peer a (run.PeerRefused status body) is = tt
refusal_of_peer a run.LinkFault is = tt
refusal_of_peer a run.CutShort is = tt
refusal_of_peer a (run.NotUnderstood at) is = tt
refusal_of_peer a run.OutOfMemory is = tt
refusal_of_peer a (run.Refused refusal) is = is

pub compared_of_peer : (mine : ℕ) (have : Option Id) (theirs : ℕ) (head : Option Id) (end : RunEnd PullRefusal) → peer.Compares mine have theirs head end → IsOfPeer end
compared_of_peer mine have theirs head (run.CaughtUp version) is = is
compared_of_peer mine have theirs head run.NoSuchName is = tt
compared_of_peer mine have theirs head (run.PeerBehind found behind) is = tt
compared_of_peer mine have theirs head (run.HeadsDiffer version last named) is = tt
compared_of_peer mine have theirs head (run.NoPatch version) is = tt
compared_of_peer mine have theirs head (run.PeerRefused status body) is = tt
compared_of_peer mine have theirs head run.LinkFault is = tt
compared_of_peer mine have theirs head run.CutShort is = tt
compared_of_peer mine have theirs head (run.NotUnderstood at) is = tt
compared_of_peer mine have theirs head run.OutOfMemory is = tt
compared_of_peer mine have theirs head (run.Refused refusal) is = is

fault_of_peer : (fault : AskFault) → IsOfPeer (peer.end_of_fault fault)
fault_of_peer ask.LinkFault = tt
fault_of_peer ask.CutShort = tt
fault_of_peer (ask.NotUnderstood at) = tt
fault_of_peer ask.OutOfMemory = tt

pub log_of_peer : (said : List WasSaid) (end : RunEnd PullRefusal) → peer.LogEnds said end → IsOfPeer end
log_of_peer said end (peer.answered a is (peer.no_source a_is ends)) = subst IsOfPeer (sym ends) tt
log_of_peer said end (peer.answered a is (peer.refused told by)) = refusal_of_peer a end by
log_of_peer said end (peer.faulty fault is ends) = subst IsOfPeer (sym ends) (fault_of_peer fault)
log_of_peer said end (peer.not_asked is ends) = subst IsOfPeer (sym ends) tt

fetch_of_peer : (version : ℕ) (a : Answer) (end : RunEnd PullRefusal) → peer.FetchRefuses version a end → IsOfPeer end
fetch_of_peer version a end (peer.no_source a_is ends) = subst IsOfPeer (sym ends) tt
fetch_of_peer version a end (peer.no_patch has a_is ends) = subst IsOfPeer (sym ends) tt
fetch_of_peer version a end (peer.refused told by) = refusal_of_peer a end by

pub answered_of_peer : (version : ℕ) (a : Answer) (end : RunEnd PullRefusal) → peer.FetchRefuses version a end → IsOfPeer end
answered_of_peer version a end refuses = fetch_of_peer version a end refuses

pub faulty_of_peer : (fault : AskFault) (end : RunEnd PullRefusal) → end ≡ peer.end_of_fault fault → IsOfPeer end
faulty_of_peer fault end ends = subst IsOfPeer (sym ends) (fault_of_peer fault)

pub want_of_peer : (end : RunEnd PullRefusal) → end ≡ run.OutOfMemory → IsOfPeer end
want_of_peer end ends = subst IsOfPeer (sym ends) tt

pub refuses_text : (said : List ℕ) (version : ℕ) (fault : PatchFault) → Refuses said fault → IsTextRefusal said version (refused_text version fault)
refuses_text said version patches.OutOfMemory is = tt
refuses_text said version (patches.At at kind) (inl none) = absurd (cc)
refuses_text said version (patches.At at kind) (inr is) = (refl, is)
refuses_text said version (patches.TooLong long limit) (inl none) = absurd (cc)
refuses_text said version (patches.TooLong long limit) (inr is) = (refl, is)
