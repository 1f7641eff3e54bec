-- Faults of disks that replies tell.
use Rattle.std.specs.Prelude.{ℕ, ◌+◌, ◌==◌, if◌then◌else◌, Bool, true, false, List, [], ◌∷◌}
use Rattle.http_session.specs.Output.{Exchange}
use Rattle.http_session.specs.declared.answerer.Said.{Said}
use Rattle.http_session.specs.declared.answerer.Said.TheVariants.{Reply, OutOfMemory}
use Rattle.call_replies.specs.declared.ends.EndTold.{EndTold}
use Rattle.call_replies.specs.declared.ends.EndTold.TheVariants.{DiskFault}

-- whether a reply says that a disk failed: no other answer has this status
abbrev pub is_fault_said : Said → Bool
is_fault_said (Reply reply allow) = reply.status == 500
is_fault_said OutOfMemory = false

-- how many replies do
abbrev pub faults_said : List Exchange → ℕ
faults_said [] = 0
faults_said (e ∷ exchanges) = (if is_fault_said e.said then 1 else 0) + faults_said exchanges

-- whether a catching up ended with a fault of a disk
abbrev pub is_fault_told : EndTold → Bool
is_fault_told DiskFault = true
is_fault_told other = false
