use Rattle.std.proofs.Common.{◌≡◌, ◌≤◌, ◌+◌, ◌++◌, List, ℕ, subst, take, length, arith, length-drop}
use Rattle.std.proofs.lemmas.List.{take_all, length-take-le}
use Rattle.http_heads.specs.Follow.{Follows}
use Rattle.http_messages.proofs.StepLemmas.{step_lifts, lines_step}
use Rattle.http_messages.proofs.stage.step_head.Goals as goal

pub returns-then-passed-front : goal.returns-then-passed-front
returns-then-passed-front c =
    let fits : c.min.result ≤ length c.args.piece.now = omega arith in
    let long = length-take-le c.min.result c.args.piece.now fits in
    let known = c.follow-passed.ensures.known (omega arith) in
    let follows = c.follow-passed.ensures.follows c.args.pending.now.items c.requires.follows in
    let whole = take_all c.follow-passed.result.0 (take c.min.result c.args.piece.now) (omega arith) in
    step_lifts c.args.kind c.args.room c.args.pending.now.items c.keep_followed.new.pending.items c.args.piece.now c.min.result fits c.keep_followed.result
    (c.keep_followed.ensures c.args.kind known (subst (λ (t : List ℕ). Follows c.args.kind (c.args.pending.now.items ++ t) c.follow-passed.result.1) whole follows))

pub returns : goal.returns
returns c =
    let most_fits : c.min.result ≤ length c.args.piece.now = omega arith in
    let long = length-take-le c.min.result c.args.piece.now most_fits in
    let left = length-drop c.follow-passed.result.0 (take c.min.result c.args.piece.now) in
    let used_fits : c.follow-passed.result.0 + c.line_len.result ≤ c.min.result = omega arith in
    let kept : c.len-kept.result ≡ length c.args.pending.now.items = omega arith in
    lines_step c.args.kind c.args.room c.args.pending.now.items c.read_pending.new.pending.items c.args.piece.now c.extend_from_slice.new.self.items c.min.result (c.follow-passed.result.0 + c.line_len.result) c.len-kept.result most_fits used_fits kept c.in_ok-extend_from_slice.ensures.items c.read_pending.result c.read_pending.ensures
