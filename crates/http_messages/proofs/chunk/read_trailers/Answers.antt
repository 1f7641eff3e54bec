use Rattle.std.proofs.Common.{◌∙◌, ◌≤◌, sym, ap, arith, length, Err, rules}
use Rattle.http_messages.proofs.ChunkLemmas.{fault_at_trailers, trailers_more, body_ends, trailers_never, trailers_too_long, section_step}
use Rattle.http_heads.proofs.RoomLemmas.{section_fits_room}
use Rattle.http_messages.proofs.StepLemmas.{kept_length}
use Rattle.http_messages.proofs.TrailerLemmas.{most_here, text_here}
use Rattle.http_heads.specs.declared.message.Kind.TheVariants.{Replies}
use Rattle.http_messages.proofs.chunk.read_trailers.Goals as goal

pub overflow_sub-result : goal.overflow_sub-result
overflow_sub-result c =
    let text = c.as_slice-2.ensures.value ∙ text_here c.args.kept c.args.pending.now.items c.requires.kept c.requires.fits in
    let most = most_here c.args.kept c.args.pending.now.items c.requires.kept c.requires.fits in
    let found = rw c.in-Ok-Complete.field-0-is at c.in-Ok-Complete.ensures.complete in
    let kept = sym (kept_length Replies c.args.kept c.args.pending.now.items c.requires.kept) in
    let step = section_step _ _ _ most _ text _ _ found.0 found.1 c.requires.none found.2.reads found.2.len_is kept in
    step.3

pub returns-then-len-eq-MOST_TRAILERS : goal.returns-then-len-eq-MOST_TRAILERS
returns-then-len-eq-MOST_TRAILERS c = λ framing body behind at.
    let text = c.as_slice-2.ensures.value ∙ text_here c.args.kept c.args.pending.now.items c.requires.kept c.requires.fits in
    let most = most_here c.args.kept c.args.pending.now.items c.requires.kept c.requires.fits in
    let none = rw c.in-Ok-Partial.field-0-is at c.in-Ok-Partial.ensures.partial in
    fault_at_trailers framing body behind _ _ at.0 at.1
    (trailers_too_long _ _ _ most _ text (omega (arith, ap length c.as_slice-2.ensures.value, c.if-len-eq-MOST_TRAILERS.true)) none)

pub unreachable-requires : goal.unreachable-requires
unreachable-requires c =
    let many = c.parse_headers.ensures.too_many (c.in-Err-TooManyHeaders.is ∙ ap Err c.in-Err-TooManyHeaders.field-0-is) in
    let short : length c.as_slice-2.result.now ≤ 16384 = omega (arith, ap length c.as_slice-2.ensures.value, c.requires.fits) in
    section_fits_room c.as_slice-2.result.now many.0 many.1 (length c.as_mut_slice.result.now) short (search rules) many.2 many.3 many.4 many.5

pub returns-in-Ok-Complete : goal.returns-in-Ok-Complete
returns-in-Ok-Complete c = λ framing body behind at.
    let text = c.as_slice-2.ensures.value ∙ text_here c.args.kept c.args.pending.now.items c.requires.kept c.requires.fits in
    let most = most_here c.args.kept c.args.pending.now.items c.requires.kept c.requires.fits in
    let found = rw c.in-Ok-Complete.field-0-is at c.in-Ok-Complete.ensures.complete in
    let kept = sym (kept_length Replies c.args.kept c.args.pending.now.items c.requires.kept) in
    let step = section_step _ _ _ most _ text _ _ found.0 found.1 c.requires.none found.2.reads found.2.len_is kept in
    (step.0, body_ends framing body _ found.0 found.1 at.0 (trailers_more _ _ _ _ _ at.1 step.1) found.2.reads.0 step.2, c.clear.ensures.items)

pub returns-in-Err : goal.returns-in-Err
returns-in-Err c = λ framing body behind at.
    let text = c.as_slice-2.ensures.value ∙ text_here c.args.kept c.args.pending.now.items c.requires.kept c.requires.fits in
    let most = most_here c.args.kept c.args.pending.now.items c.requires.kept c.requires.fits in
    fault_at_trailers framing body behind _ _ at.0 at.1 (trailers_never _ _ _ most _ text (search rules))
