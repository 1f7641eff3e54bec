use Rattle.std.proofs.Common.{ap}
use Rattle.line_log.specs.Edits.{made}
use Rattle.rdf_terms.specs.Dataset.{empty}
use Rattle.stream_replay.proofs.Edited.{none_yet}
use Rattle.stream_replay.proofs.edits.Edits.new.Goals as goal

pub returns-clause-edits : goal.returns-clause-edits
returns-clause-edits c = none_yet empty c.new.result (ap made c.new.ensures)
