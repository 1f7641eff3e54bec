-- The end of a run of catching up, as that of a pull.
use Rattle.std.specs.Prelude.{ℕ}
use Rattle.patch_meaning.specs.declared.fault.PatchFault.{PatchFault}
use Rattle.patch_meaning.specs.declared.fault.PatchFault.TheVariants as patches
use Rattle.catch_up.specs.declared.end.RunEnd.{RunEnd}
use Rattle.catch_up.specs.declared.end.RunEnd.TheVariants as run
use Rattle.mirror.specs.declared.ends.PullEnd.{PullEnd}
use Rattle.mirror.specs.declared.ends.PullEnd.TheVariants as pull
use Rattle.mirror.specs.declared.ends.PullRefusal.{PullRefusal}
use Rattle.mirror.specs.declared.ends.PullRefusal.TheVariants as text

-- a text that is no patch, or want of memory
abbrev pub refused_text : ℕ → PatchFault → PullRefusal
refused_text version patches.OutOfMemory = text.OutOfMemory
refused_text version fault = text.BadPatch version fault

-- a text that isn't taken, as the end
abbrev pub end_of_refused : PullRefusal → PullEnd
end_of_refused (text.BadPatch version fault) = pull.BadPatch version fault
end_of_refused (text.Diverged version head theirs) = pull.Diverged version head theirs
end_of_refused (text.Full what have limit) = pull.Full what have limit
end_of_refused text.DiskFault = pull.DiskFault
end_of_refused text.OutOfMemory = pull.OutOfMemory

abbrev pub end_of_pull : RunEnd PullRefusal → PullEnd
end_of_pull (run.CaughtUp version) = pull.CaughtUp version
end_of_pull run.NoSuchName = pull.NoSuchName
end_of_pull (run.PeerBehind mine theirs) = pull.PeerBehind mine theirs
end_of_pull (run.HeadsDiffer version have theirs) = pull.Diverged version have theirs
end_of_pull (run.NoPatch version) = pull.NoPatch version
end_of_pull (run.PeerRefused status body) = pull.PeerRefused status body
end_of_pull run.LinkFault = pull.LinkFault
end_of_pull run.CutShort = pull.CutShort
end_of_pull (run.NotUnderstood at) = pull.NotUnderstood at
end_of_pull run.OutOfMemory = pull.OutOfMemory
end_of_pull (run.Refused refusal) = end_of_refused refusal
