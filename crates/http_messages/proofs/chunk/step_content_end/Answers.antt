use Rattle.std.proofs.Common.{◌≡◌, ◌≢◌, ◌∙◌, ◌++◌, ap, arith, length, take, List, ℕ, [], ◌∷◌, append_assoc}
use Rattle.std.proofs.lemmas.Bool.Decides.{nat_tests}
use Rattle.http_messages.proofs.ChunkLemmas.{fault_at_end, first_byte, no_line_feed, no_line_feed_next, chunk_ends, open_line, none_of_end, first_of_end}
use Rattle.http_messages.proofs.chunk.step_content_end.Goals as goal

pub returns-then-piece-ne13 : goal.returns-then-piece-ne13
returns-then-piece-ne13 c = λ framing body behind at.
    let zero : length c.args.pending.now.items ≡ 0 = grind (arith, nat_tests, c.is_empty.ensures, c.if-is_empty.true) in
    let kept = none_of_end c.args.pending.now.items at.2 zero in
    let bad = no_line_feed c.args.piece.now c.requires.piece c.if-piece-ne13.true in
    fault_at_end framing body _ behind _ c.args.pending.now.items c.args.piece.now at.0 at.1.2 at.1.3 (rw kept bad)

pub returns-then-piece-ne10 : goal.returns-then-piece-ne10
returns-then-piece-ne10 c = λ framing body behind at.
    let some : length c.args.pending.now.items ≢ 0 = grind (arith, nat_tests, c.is_empty.ensures, c.if-is_empty.false) in
    let kept = first_of_end c.args.pending.now.items at.2 some in
    let bad = no_line_feed_next c.args.piece.now c.requires.piece c.if-piece-ne10.true in
    fault_at_end framing body _ behind _ c.args.pending.now.items c.args.piece.now at.0 at.1.2 at.1.3 (rw kept bad)

pub returns-else-piece-ne10 : goal.returns-else-piece-ne10
returns-else-piece-ne10 c = λ framing body behind at.
    let some : length c.args.pending.now.items ≢ 0 = grind (arith, nat_tests, c.is_empty.ensures, c.if-is_empty.false) in
    let kept = first_of_end c.args.pending.now.items at.2 some in
    let first = first_byte c.args.piece.now c.requires.piece in
    let end : take 1 c.args.piece.now ≡ 10 ∷ [] = first.2 ∙ ap (λ b. b ∷ []) c.if-piece-ne10.false in
    let whole : behind ++ take 1 c.args.piece.now ≡ at.1.1 ++ 13 ∷ 10 ∷ [] =
    ap (λ (t : List ℕ). t ++ take 1 c.args.piece.now) (at.1.3 ∙ ap (λ (t : List ℕ). at.1.1 ++ t) kept)
    ∙ append_assoc at.1.1 (13 ∷ []) (take 1 c.args.piece.now) ∙ ap (λ (t : List ℕ). at.1.1 ++ 13 ∷ t) end in
    ((omega arith, omega arith), ((at.0, rw c.clear.ensures.items (chunk_ends body _ _ _ at.1.2 whole)), rw c.clear.ensures.items open_line, tt))
