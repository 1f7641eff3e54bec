-- How the end of catching up is told, and then said.
use Rattle.std.proofs.Common.{◌≡◌, subst, List, ℕ}
use Rattle.http_session.specs.declared.answerer.Said.{Said}
use Rattle.follower.specs.declared.ends.SyncEnd.{SyncEnd}
use Rattle.follower.specs.declared.ends.SyncEnd.TheVariants as sync
use Rattle.call_replies.specs.Says.{SaysReply}
use Rattle.call_replies.specs.Ends.{SaysEnd, end_reply}
use Rattle.call_replies.specs.declared.ends.EndTold.{EndTold}
use Rattle.call_replies.specs.declared.ends.EndTold.TheVariants as told
use Rattle.zone_session.specs.Telling.{IsNamed, SaysSync, TellsSync, end_name}

named : (name : List ℕ) (end : EndTold) (said : Said) → IsNamed name end → SaysEnd end said → SaysReply (end_reply name) said
named name (told.CaughtUp version) said is says = absurd is
named name told.DiskFault said is says = absurd is
named name told.OutOfMemory said is says = absurd is
named name (told.Named word) said is says = subst (λ (n : List ℕ). SaysReply (end_reply n) said) is says

like : (end other : EndTold) (said : Said) → end ≡ other → SaysEnd end said → SaysEnd other said
like end other said is says = subst (λ (e : EndTold). SaysEnd e said) is says

pub sync_said : (end : SyncEnd) (one : EndTold) (said : Said) → TellsSync end one → SaysEnd one said → SaysSync end said
sync_said (sync.CaughtUp version) one said tells says = like one (told.CaughtUp version) said tells says
sync_said sync.NoSuchName one said tells says = named (end_name sync.NoSuchName) one said tells says
sync_said (sync.PeerBehind mine theirs) one said tells says = named (end_name (sync.PeerBehind mine theirs)) one said tells says
sync_said (sync.NoPatch version) one said tells says = named (end_name (sync.NoPatch version)) one said tells says
sync_said (sync.PeerRefused status body) one said tells says = named (end_name (sync.PeerRefused status body)) one said tells says
sync_said (sync.Diverged version have theirs) one said tells says = named (end_name (sync.Diverged version have theirs)) one said tells says
sync_said (sync.Repeated version id) one said tells says = named (end_name (sync.Repeated version id)) one said tells says
sync_said (sync.BadPatch version fault) one said tells says = named (end_name (sync.BadPatch version fault)) one said tells says
sync_said sync.LinkFault one said tells says = named (end_name sync.LinkFault) one said tells says
sync_said sync.CutShort one said tells says = named (end_name sync.CutShort) one said tells says
sync_said (sync.NotUnderstood at) one said tells says = named (end_name (sync.NotUnderstood at)) one said tells says
sync_said (sync.Full what have limit) one said tells says = named (end_name (sync.Full what have limit)) one said tells says
sync_said sync.TermsFull one said tells says = named (end_name sync.TermsFull) one said tells says
sync_said sync.DiskFault one said tells says = like one told.DiskFault said tells says
sync_said sync.OutOfMemory one said tells says = like one told.OutOfMemory said tells says
