use Rattle.std.proofs.Common.{codes}
use Rattle.std.proofs.lemmas.Bool.Decides.{Decides-eqb}
use Rattle.std.proofs.lemmas.Slice.Eq.{starts_is}
use Rattle.row_scan.proofs.Scanned.{names}
use Rattle.row_scan.proofs.row.named_id.Goals as goal

pub returns : goal.returns
returns c =
    let cut = c.split_at.ensures in
    let ends = (starts_is Decides-eqb c.split_at.result.1.now (codes "> .\n") c.starts_with.result c.starts_with.ensures.value).0 c.if-not-starts_with.false in
    names c.args.text.now c.split_at.result.0.now c.split_at.result.1.now c.read_id.result c.read_id.ensures cut.front_len cut.by_index.0 cut.back ends
