use Rattle.patch_meaning.proofs.Joined.{joined, checked_by_itself}
use Rattle.patch_meaning.proofs.laws.streams_are_their_patches.Goals as goal

pub returns-clause-joined : goal.returns-clause-joined
returns-clause-joined c = joined

pub returns-clause-each : goal.returns-clause-each
returns-clause-each c = checked_by_itself
