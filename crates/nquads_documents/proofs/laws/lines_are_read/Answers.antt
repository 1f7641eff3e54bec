use Rattle.nquads_documents.proofs.CanonicalLaws.{canonical_read}
use Rattle.nquads_documents.proofs.LineLaws.{lines_read, lines_apart}
use Rattle.nquads_documents.proofs.Rising.{canonical_once}
use Rattle.nquads_documents.proofs.laws.lines_are_read.Goals as goal

pub returns-clause-read : goal.returns-clause-read
returns-clause-read c = lines_read

pub returns-clause-apart : goal.returns-clause-apart
returns-clause-apart c = lines_apart

pub returns-clause-canonical : goal.returns-clause-canonical
returns-clause-canonical c = canonical_read

pub returns-clause-once : goal.returns-clause-once
returns-clause-once c = canonical_once
