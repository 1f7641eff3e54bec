use Rattle.std.proofs.Common.{arith}
use Rattle.http_messages.proofs.PartLemmas.{part_lifts}
use Rattle.http_messages.proofs.chunk.step_line.Goals as goal

pub returns-then-stays_there : goal.returns-then-stays_there
returns-then-stays_there c = λ framing body behind had at.
    part_lifts framing behind c.args.piece.now body c.keep_line.new.pending.items c.min.result (omega arith) c.keep_line.result
    (c.keep_line.ensures framing body behind at (c.stays_there.ensures.known c.if-stays_there.true)
    (c.stays_there.ensures.follows c.if-stays_there.true c.args.pending.now.items c.requires.follows))
