use Rattle.http_text.proofs.ReaderLemmas.{start}
use Rattle.http_text.proofs.reader.at_start.Goals as goal

pub returns-clause-held : goal.returns-clause-held
returns-clause-held c = λ kind. start kind
