use Rattle.std.proofs.Common.{◌≡◌, ◌+◌, refl, ◌∙◌, ap, sym, subst, inl, arith, length, List, ℕ, []}
use Rattle.httparse.specs.Grammar.{chunk_size, HasNoChunkLine, NeverHasChunkLine}
use Rattle.http_messages.specs.Line.{FollowsLine}
use Rattle.http_heads.specs.declared.framing.FrameFault.TheVariants.{BodyTooLong, BadChunk}
use Rattle.http_messages.proofs.PieceLemmas.{IsMost, length_taken}
use Rattle.http_messages.proofs.ChunkLemmas.{at_line_more, fault_at_line, line_never, line_too_long, line_begins, line_is_past, line_step, chunk_begins, trailers_begin, open_trailers}
use Rattle.http_messages.proofs.TrailerLemmas.{status_line_takes}
use Rattle.http_messages.proofs.chunk.read_line.Goals as goal

pub returns-then-size-had : goal.returns-then-size-had
returns-then-size-had c = λ framing body behind had at.
    let text = c.as_slice.ensures.value ∙ c.in_ok-most.ensures.kept in
    let most : IsMost c.args.pending.now.items c.args.piece.now 256 c.in_ok-most.most = record { short = omega arith; most_is = c.in_ok-most.ensures.most } in
    let line = rw c.in-Ok-Complete.field-0-is at c.in-Ok-Complete.ensures.complete in
    let begins = line_begins _ _ _ most _ text _ _ line.0 line.1 in
    fault_at_line framing body behind _ c.args.piece.now (BodyTooLong (c.from.result + c.args.had) 4194304) at.0 at.1
    (line.0, _, begins, omega (arith, line.1.size_is, c.if-size-had.true), omega (arith, line.1.size_is), refl)

pub overflow_sub-used : goal.overflow_sub-used
overflow_sub-used c =
    let text = c.as_slice.ensures.value ∙ c.in_ok-most.ensures.kept in
    let most : IsMost c.args.pending.now.items c.args.piece.now 256 c.in_ok-most.most = record { short = omega arith; most_is = c.in_ok-most.ensures.most } in
    let line = rw c.in-Ok-Complete.field-0-is at c.in-Ok-Complete.ensures.complete in
    let past = line_is_past _ _ _ most _ text _ _ line.0 c.requires.open.none line.1 in
    omega arith

pub returns-then-len-eq-MOST_LINE : goal.returns-then-len-eq-MOST_LINE
returns-then-len-eq-MOST_LINE c = λ framing body behind had at.
    let text = c.as_slice.ensures.value ∙ c.in_ok-most.ensures.kept in
    let most : IsMost c.args.pending.now.items c.args.piece.now 256 c.in_ok-most.most = record { short = omega arith; most_is = c.in_ok-most.ensures.most } in
    let none = rw c.in-Ok-Partial.field-0-is at c.in-Ok-Partial.ensures.partial in
    fault_at_line framing body behind _ c.args.piece.now BadChunk at.0 at.1
    (inl (line_too_long _ _ _ most _ text (omega (arith, ap length c.as_slice.ensures.value, c.if-len-eq-MOST_LINE.true)) none))

pub returns-in-Err : goal.returns-in-Err
returns-in-Err c = λ framing body behind had at.
    let text = c.as_slice.ensures.value ∙ c.in_ok-most.ensures.kept in
    let most : IsMost c.args.pending.now.items c.args.piece.now 256 c.in_ok-most.most = record { short = omega arith; most_is = c.in_ok-most.ensures.most } in
    fault_at_line framing body behind _ c.args.piece.now BadChunk at.0 at.1
    (inl (line_never _ _ _ most _ text c.in-Err.ensures.invalid))

pub returns-then-size-eq0 : goal.returns-then-size-eq0
returns-then-size-eq0 c = λ framing body behind had at.
    let text = c.as_slice.ensures.value ∙ c.in_ok-most.ensures.kept in
    let most : IsMost c.args.pending.now.items c.args.piece.now 256 c.in_ok-most.most = record { short = omega arith; most_is = c.in_ok-most.ensures.most } in
    let line = rw c.in-Ok-Complete.field-0-is at c.in-Ok-Complete.ensures.complete in
    let kept : c.len-kept.result ≡ length c.args.pending.now.items = omega arith in
    let used = line_step _ _ _ most _ text _ _ line.0 c.requires.open.none line.1 _ _ _ at.1 kept in
    let zero : chunk_size line.0 ≡ 0 = omega (arith, line.1.size_is, c.if-size-eq0.true) in
    (used.0, ((at.0, rw c.clear.ensures.items (trailers_begin _ _ _ line.0 used.1 used.2 used.3 zero)), rw c.clear.ensures.items open_trailers, rw c.clear.ensures.items status_line_takes))

pub returns-else-size-eq0 : goal.returns-else-size-eq0
returns-else-size-eq0 c = λ framing body behind had at.
    let text = c.as_slice.ensures.value ∙ c.in_ok-most.ensures.kept in
    let most : IsMost c.args.pending.now.items c.args.piece.now 256 c.in_ok-most.most = record { short = omega arith; most_is = c.in_ok-most.ensures.most } in
    let line = rw c.in-Ok-Complete.field-0-is at c.in-Ok-Complete.ensures.complete in
    let kept : c.len-kept.result ≡ length c.args.pending.now.items = omega arith in
    let used = line_step _ _ _ most _ text _ _ line.0 c.requires.open.none line.1 _ _ _ at.1 kept in
    (used.0, (at.0, omega arith, ([], chunk_begins _ _ _ line.0 c.in-Ok-Complete.size used.1 used.2 used.3 line.1.size_is (omega arith) (omega arith)), c.clear.ensures.items))

pub returns-else-len-eq-MOST_LINE : goal.returns-else-len-eq-MOST_LINE
returns-else-len-eq-MOST_LINE c = λ framing body behind had at.
    let kept = c.in_ok-most.ensures.kept in
    let most : IsMost c.args.pending.now.items c.args.piece.now 256 c.in_ok-most.most = record { short = omega arith; most_is = c.in_ok-most.ensures.most } in
    let long = length_taken c.args.pending.now.items c.args.piece.now 256 c.in_ok-most.most most in
    let is = c.as_slice-in-Ok-Partial.ensures.value in
    let none = rw c.in-Ok-Partial.field-0-is at c.in-Ok-Partial.ensures.partial in
    let may = rw c.in-Ok-Partial.field-0-is at c.in-Ok-Partial.ensures.unfinished in (
      (omega (arith, c.in_ok-most.ensures.most), omega (arith, c.in_ok-most.ensures.most)),
      (
        (at.0, at_line_more body behind _ _ _ at.1 (sym kept)),
        record {
          short = omega (arith, c.len.ensures, ap length kept, long, most.short, most.most_is, c.if-len-eq-MOST_LINE.false);
          none = subst HasNoChunkLine c.as_slice.ensures.value none;
          good = subst (λ (t : List ℕ). NeverHasChunkLine t → ⊥) c.as_slice.ensures.value (λ never. never may.0 may.1 [] may.2);
        },
        subst (λ (t : List ℕ). FollowsLine t c.find_line_at-at.result) is c.find_line_at-at.ensures,
      ),
    )
