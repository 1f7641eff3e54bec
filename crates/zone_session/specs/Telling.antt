-- How the end of catching up is said.
use Rattle.std.specs.Prelude.{◌≡◌, ℕ, List, None, codes}
use Rattle.http_session.specs.declared.answerer.Said.{Said}
use Rattle.http_session.specs.declared.answerer.Said.TheVariants as talk
use Rattle.rpc_answers.specs.declared.answer.Answer.TheVariants as answer
use Rattle.follower.specs.declared.ends.SyncEnd.{SyncEnd}
use Rattle.follower.specs.declared.ends.SyncEnd.TheVariants as sync
use Rattle.call_replies.specs.Says.{Says, SaysReply}
use Rattle.call_replies.specs.Ends.{caught_up_reply, end_reply}
use Rattle.call_replies.specs.declared.ends.EndTold.{EndTold}
use Rattle.call_replies.specs.declared.ends.EndTold.TheVariants as told

-- the name of an end
abbrev pub end_name : SyncEnd → List ℕ
end_name (sync.CaughtUp version) = codes "CaughtUp"
end_name sync.NoSuchName = codes "NoSuchName"
end_name (sync.PeerBehind mine theirs) = codes "PeerBehind"
end_name (sync.NoPatch version) = codes "NoPatch"
end_name (sync.PeerRefused status body) = codes "PeerRefused"
end_name (sync.Diverged version have theirs) = codes "Diverged"
end_name (sync.Repeated version id) = codes "Repeated"
end_name (sync.BadPatch version fault) = codes "BadPatch"
end_name sync.LinkFault = codes "LinkFault"
end_name sync.CutShort = codes "CutShort"
end_name (sync.NotUnderstood at) = codes "NotUnderstood"
end_name (sync.Full what have limit) = codes "Full"
end_name sync.TermsFull = codes "TermsFull"
end_name sync.DiskFault = codes "DiskFault"
end_name sync.OutOfMemory = codes "OutOfMemory"

-- A zone that caught up tells its version. A fault of the disk and want of memory are told as to
-- any call, and each other end by its name.
abbrev pub SaysSync : SyncEnd → Said → Type 0
SaysSync (sync.CaughtUp version) said = SaysReply (caught_up_reply version) said
SaysSync sync.DiskFault said = Says answer.DiskFault None said
SaysSync sync.OutOfMemory said = said ≡ talk.OutOfMemory
SaysSync other said = SaysReply (end_reply (end_name other)) said

-- ---- as it is told

abbrev pub IsNamed : List ℕ → EndTold → Type 0
IsNamed name (told.Named word) = word.now ≡ name
IsNamed name other = ⊥

abbrev pub TellsSync : SyncEnd → EndTold → Type 0
TellsSync (sync.CaughtUp version) end = end ≡ told.CaughtUp version
TellsSync sync.DiskFault end = end ≡ told.DiskFault
TellsSync sync.OutOfMemory end = end ≡ told.OutOfMemory
TellsSync other end = IsNamed (end_name other) end
