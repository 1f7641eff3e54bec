use Rattle.std.proofs.Common.{ap, ◌∙◌}
use Rattle.line_log.specs.Edits.{made}
use Rattle.line_log.proofs.Keeping.{made_settled}
use Rattle.rdf_terms.specs.Dataset.{apply}
use Rattle.stream_replay.proofs.Edited.{all_made, none_yet}
use Rattle.stream_replay.proofs.edits.Edits.complete.Goals as goal

pub returns-in_ok-settle-clause-edits : goal.returns-in_ok-settle-clause-edits
returns-in_ok-settle-clause-edits c = λ changes d has. let e = c.args.self.now in none_yet (apply changes d) c.settle.new.self (ap made c.in_ok-settle.ensures.ok ∙ made_settled e.log ∙ all_made e.before_block changes d e.log has)

pub returns-else-bytes-self-clause-edits : goal.returns-else-bytes-self-clause-edits
returns-else-bytes-self-clause-edits c = λ changes d has. let e = c.args.self.now in none_yet (apply changes d) e.log (all_made e.before_block changes d e.log has)
