-- How the end of a pull is told, and then said.
use Rattle.std.proofs.Common.{◌≡◌, subst, List, ℕ}
use Rattle.http_session.specs.declared.answerer.Said.{Said}
use Rattle.mirror.specs.declared.ends.PullEnd.{PullEnd}
use Rattle.mirror.specs.declared.ends.PullEnd.TheVariants as pull
use Rattle.call_replies.specs.Says.{SaysReply}
use Rattle.call_replies.specs.Ends.{SaysEnd, end_reply}
use Rattle.call_replies.specs.declared.ends.EndTold.{EndTold}
use Rattle.call_replies.specs.declared.ends.EndTold.TheVariants as told
use Rattle.mirror_session.specs.Telling.{IsNamed, SaysPull, TellsPull}

named : (name : List ℕ) (end : EndTold) (said : Said) → IsNamed name end → SaysEnd end said → SaysReply (end_reply name) said
named name (told.CaughtUp version) said is says = absurd is
named name told.DiskFault said is says = absurd is
named name told.OutOfMemory said is says = absurd is
named name (told.Named word) said is says = subst (λ (n : List ℕ). SaysReply (end_reply n) said) is says

like : (end other : EndTold) (said : Said) → end ≡ other → SaysEnd end said → SaysEnd other said
like end other said is says = subst (λ (e : EndTold). SaysEnd e said) is says

pub pull_said : (end : PullEnd) (end_told : EndTold) (said : Said) → TellsPull end end_told → SaysEnd end_told said → SaysPull end said
pull_said (pull.CaughtUp version) end_told said tells says = like end_told (told.CaughtUp version) said tells says
pull_said pull.NoSuchName end_told said tells says = named _ end_told said tells says
pull_said (pull.PeerBehind mine theirs) end_told said tells says = named _ end_told said tells says
pull_said (pull.NoPatch version) end_told said tells says = named _ end_told said tells says
pull_said (pull.PeerRefused status body) end_told said tells says = named _ end_told said tells says
pull_said (pull.Diverged version head theirs) end_told said tells says = named _ end_told said tells says
pull_said (pull.BadPatch version fault) end_told said tells says = named _ end_told said tells says
pull_said pull.LinkFault end_told said tells says = named _ end_told said tells says
pull_said pull.CutShort end_told said tells says = named _ end_told said tells says
pull_said (pull.NotUnderstood at) end_told said tells says = named _ end_told said tells says
pull_said (pull.Full what have limit) end_told said tells says = named _ end_told said tells says
pull_said pull.DiskFault end_told said tells says = like end_told told.DiskFault said tells says
pull_said pull.OutOfMemory end_told said tells says = like end_told told.OutOfMemory said tells says
