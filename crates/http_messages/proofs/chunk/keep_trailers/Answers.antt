use Rattle.std.proofs.Common.{ap, length, arith}
use Rattle.http_messages.proofs.ChunkLemmas.{fault_at_trailers}
use Rattle.http_messages.proofs.TrailerLemmas.{trailers_none, full_trailers, kept_trailers}
use Rattle.http_messages.proofs.chunk.keep_trailers.Goals as goal

pub returns-then-len-eq-MOST_TRAILERS : goal.returns-then-len-eq-MOST_TRAILERS
returns-then-len-eq-MOST_TRAILERS c = λ framing body behind at known follows.
    fault_at_trailers framing body behind c.args.pending.now.items c.args.bytes.now at.0 at.1
    (full_trailers _ (omega (arith, ap length c.in_ok-extend_from_slice.ensures.items)) (trailers_none _ c.args.progress known follows))

pub returns : goal.returns
returns c = λ framing body behind at known follows.
    kept_trailers framing body behind c.args.pending.now.items _ c.args.bytes.now _ c.args.progress at c.in_ok-extend_from_slice.ensures.items (omega arith) c.requires.some
    (omega (arith, c.in_ok-extend_from_slice.ensures.len, c.requires.fits)) known follows
