use Rattle.std.proofs.Common.{inl, ap, length, arith}
use Rattle.http_heads.specs.declared.framing.FrameFault.TheVariants.{BadChunk}
use Rattle.http_messages.proofs.ChunkLemmas.{fault_at_line}
use Rattle.http_messages.proofs.LineLemmas.{line_none, full_line, kept_line}
use Rattle.http_messages.proofs.chunk.keep_line.Goals as goal

pub returns-then-len-eq-MOST_LINE : goal.returns-then-len-eq-MOST_LINE
returns-then-len-eq-MOST_LINE c = λ framing body behind at known follows.
    fault_at_line framing body behind c.args.pending.now.items c.args.bytes.now BadChunk at.0 at.1
    (inl (full_line _ (omega (arith, ap length c.in_ok-extend_from_slice.ensures.items)) (line_none _ c.args.at known follows)))

pub returns : goal.returns
returns c = λ framing body behind at known follows.
    kept_line framing body behind c.args.pending.now.items _ c.args.bytes.now _ c.args.at at c.in_ok-extend_from_slice.ensures.items (omega arith) c.requires.some
    (omega (arith, c.in_ok-extend_from_slice.ensures.len, c.requires.fits)) known follows
