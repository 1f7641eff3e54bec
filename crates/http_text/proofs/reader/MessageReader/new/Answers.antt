use Rattle.std.proofs.Common.{refl, []}
use Rattle.http_text.proofs.ReaderLemmas.{start_with}
use Rattle.http_text.proofs.RunLemmas.{still_held}
use Rattle.http_text.proofs.reader.MessageReader.new.Goals as goal

pub returns-clause-stands : goal.returns-clause-stands
returns-clause-stands c = (
  [],
  rw c.new-3.ensures.items refl,
  still_held c.args.kind c.at_start.result c.new-2.result.items [] (start_with c.args.kind c.at_start.result c.new-2.result.items (c.at_start.ensures.held c.args.kind) c.new-2.ensures.items),
)
