use Rattle.std.proofs.Common.{◌≡◌, ◌+◌, ◌≤◌, sym, subst, arith, length, take, List, [], ℕ, length-drop}
use Rattle.std.proofs.lemmas.List.{length-take-le}
use Rattle.http_messages.specs.Stages.{HoldsTrailers, PartStepIs}
use Rattle.http_heads.specs.declared.message.Kind.TheVariants.{Replies}
use Rattle.http_messages.proofs.StepLemmas.{old_again, piece_again}
use Rattle.http_messages.proofs.TrailerLemmas.{follows_piece}
use Rattle.http_messages.proofs.PartLemmas.{part_lifts}
use Rattle.http_messages.proofs.chunk.step_trailers.Goals as goal

pub returns-then-passed-front : goal.returns-then-passed-front
returns-then-passed-front c = λ framing body behind at.
    let fits : c.min.result ≤ length c.args.piece.now = omega arith in
    let long = length-take-le c.min.result c.args.piece.now fits in
    let known = c.follow-passed.ensures.known (omega arith) in
    let follows = c.follow-passed.ensures.follows _ c.requires.follows in
    part_lifts framing behind c.args.piece.now body c.keep_trailers.new.pending.items c.min.result fits c.keep_trailers.result
    (c.keep_trailers.ensures framing body behind at known
    (follows_piece c.args.pending.now.items (take c.min.result c.args.piece.now) c.follow-passed.result.0 c.follow-passed.result.1 (omega arith) follows))

pub returns : goal.returns
returns c = λ framing body behind at.
    let most_fits : c.min.result ≤ length c.args.piece.now = omega arith in
    let long = length-take-le c.min.result c.args.piece.now most_fits in
    let left = length-drop c.follow-passed.result.0 (take c.min.result c.args.piece.now) in
    let used_fits : c.follow-passed.result.0 + c.line_len.result ≤ c.min.result = omega arith in
    let kept : c.len-kept.result ≡ length c.args.pending.now.items = omega arith in
    let old = old_again Replies 0 c.args.pending.now.items [] c.args.piece.now c.extend_from_slice.new.self.items c.min.result (c.follow-passed.result.0 + c.line_len.result) c.len-kept.result most_fits used_fits kept c.in_ok-extend_from_slice.ensures.items in
    let piece = piece_again Replies 0 c.args.pending.now.items [] c.args.piece.now c.extend_from_slice.new.self.items c.min.result (c.follow-passed.result.0 + c.line_len.result) c.len-kept.result most_fits used_fits kept c.in_ok-extend_from_slice.ensures.items in
    part_lifts framing behind c.args.piece.now body c.read_trailers.new.pending.items (c.follow-passed.result.0 + c.line_len.result) (omega arith) c.read_trailers.result
    (subst (λ (p : List ℕ). PartStepIs framing behind p body c.read_trailers.new.pending.items c.read_trailers.result) piece
    (c.read_trailers.ensures framing body behind (subst (HoldsTrailers framing body behind) (sym old) at)))
