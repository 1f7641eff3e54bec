use Rattle.canonical_scan.proofs.Pieces.{string_char}
use Rattle.canonical_scan.proofs.strings.piece_end.Goals as goal

pub returns-in-Some-clause-piece : goal.returns-in-Some-clause-piece
returns-in-Some-clause-piece c = string_char c.args.text.now c.args.at c.in-Some.next c.in-Some.ensures.long
