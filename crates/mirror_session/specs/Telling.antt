-- How the end of a pull is said.
use Rattle.std.specs.Prelude.{◌≡◌, ℕ, List, None, codes}
use Rattle.http_session.specs.declared.answerer.Said.{Said}
use Rattle.http_session.specs.declared.answerer.Said.TheVariants as talk
use Rattle.rpc_answers.specs.declared.answer.Answer.TheVariants as answer
use Rattle.mirror.specs.declared.ends.PullEnd.{PullEnd}
use Rattle.mirror.specs.declared.ends.PullEnd.TheVariants as pull
use Rattle.call_replies.specs.Says.{Says, SaysReply}
use Rattle.call_replies.specs.Ends.{caught_up_reply, end_reply}
use Rattle.call_replies.specs.declared.ends.EndTold.{EndTold}
use Rattle.call_replies.specs.declared.ends.EndTold.TheVariants as told

-- the name of an end
abbrev pub end_name : PullEnd → List ℕ
end_name (pull.CaughtUp version) = codes "CaughtUp"
end_name pull.NoSuchName = codes "NoSuchName"
end_name (pull.PeerBehind mine theirs) = codes "PeerBehind"
end_name (pull.NoPatch version) = codes "NoPatch"
end_name (pull.PeerRefused status body) = codes "PeerRefused"
end_name (pull.Diverged version head theirs) = codes "Diverged"
end_name (pull.BadPatch version fault) = codes "BadPatch"
end_name pull.LinkFault = codes "LinkFault"
end_name pull.CutShort = codes "CutShort"
end_name (pull.NotUnderstood at) = codes "NotUnderstood"
end_name (pull.Full what have limit) = codes "Full"
end_name pull.DiskFault = codes "DiskFault"
end_name pull.OutOfMemory = codes "OutOfMemory"

-- A mirror that caught up tells its version. A fault of the disk and want of memory are told as to
-- any call, and each other end by its name.
abbrev pub SaysPull : PullEnd → Said → Type 0
SaysPull (pull.CaughtUp version) said = SaysReply (caught_up_reply version) said
SaysPull pull.DiskFault said = Says answer.DiskFault None said
SaysPull pull.OutOfMemory said = said ≡ talk.OutOfMemory
SaysPull other said = SaysReply (end_reply (end_name other)) said

-- ---- as it is told

abbrev pub IsNamed : List ℕ → EndTold → Type 0
IsNamed name (told.Named word) = word.now ≡ name
IsNamed name other = ⊥

abbrev pub TellsPull : PullEnd → EndTold → Type 0
TellsPull (pull.CaughtUp version) end = end ≡ told.CaughtUp version
TellsPull pull.DiskFault end = end ≡ told.DiskFault
TellsPull pull.OutOfMemory end = end ≡ told.OutOfMemory
TellsPull other end = IsNamed (end_name other) end
