use Rattle.patch_meaning.proofs.OneFault.{one_stream_fault}
use Rattle.patch_meaning.proofs.OneStream.{same_stream, stream_or_fault}
use Rattle.patch_meaning.proofs.Exists.{stream_or}
use Rattle.patch_meaning.proofs.laws.streams_are_settled.Goals as goal

pub returns-clause-one : goal.returns-clause-one
returns-clause-one c = same_stream

pub returns-clause-apart : goal.returns-clause-apart
returns-clause-apart c = stream_or_fault

pub returns-clause-some : goal.returns-clause-some
returns-clause-some c = stream_or

pub returns-clause-one_fault : goal.returns-clause-one_fault
returns-clause-one_fault c = one_stream_fault
