use Rattle.std.proofs.Common.{◌++◌, sym, inl, arith, take}
use Rattle.std.proofs.lemmas.List.{length-take-le, append-nil}
use Rattle.http_messages.proofs.ChunkLemmas.{content_more}
use Rattle.http_messages.proofs.chunk.step_content.Goals as goal

pub returns-then-used-left : goal.returns-then-used-left
returns-then-used-left c = λ framing behind pending at.
    let taken = length-take-le c.min-used.result c.args.piece.now (omega arith) in
    let more = content_more _ behind at.2.0 (take c.min-used.result c.args.piece.now) _ 0 at.2.1 (omega arith) in (
      (omega arith, omega arith),
      (
        at.0,
        (
          at.2.0 ++ take c.min-used.result c.args.piece.now,
          behind ++ take c.min-used.result c.args.piece.now,
          rw c.in_ok-extend_from_slice.ensures.items more,
          rw at.3 (sym (append-nil (behind ++ take c.min-used.result c.args.piece.now))),
        ),
        inl at.3,
      ),
    )
