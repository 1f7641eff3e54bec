use Rattle.std.proofs.Common.{[], ◌++◌, drop, ap, sym, ◌∙◌, ℕ, Option, Ok}
use Rattle.std.specs.Prelude.{encode_utf8}
use Rattle.std.specs.List.{slice_range}
use Rattle.std.proofs.lemmas.Result.{err_from_is_err_and}
use Rattle.nquads_text.specs.Reading.{string_piece, string_body_at}
use Rattle.nquads_text.proofs.Copied.{run_is_written, char_is_written, string_is_written}
use Rattle.nquads_text.proofs.Plain.{string_piece-nil, with_nothing}
use Rattle.nquads_text.proofs.Runs.{fails_on}
use Rattle.nquads_text.proofs.copying.copy_string.Goals as goal

pub loop-run-init : goal.loop-run-init
loop-run-init c = ([], c.in_ok-push.ensures.items, sym (with_nothing (string_body_at (drop c.args.start c.args.text.now))), c.requires)

pub returns-in_err-piece : goal.returns-in_err-piece
returns-in_err-piece c =
    let text = c.args.text.now in let before = c.loop-run.invariant in let run = c.in_ok-run.run' in
    let here = run_is_written text c.args.out.now.items c.loop-run.out.items c.args.start c.loop-run.at before.0 (before.1, before.2) c.copy_plain.new.out.items (slice_range text c.loop-run.at run) run
    c.in_ok-run.ensures.written c.in_ok-run.ensures.same in
    let p = err_from_is_err_and c.from_residual-in_err-piece.result c.from_residual-in_err-piece.ensures.1 in
    rw (p.1, p.2) (fails_on string_piece text (drop run text) (before.0 ++ slice_range text c.loop-run.at run) c.in_err-piece.field-0.0 (string_body_at (drop c.args.start text))
    string_piece-nil c.in_err-piece.ensures.gives here.1)

pub returns-in-None : goal.returns-in-None
returns-in-None c =
    let text = c.args.text.now in let before = c.loop-run.invariant in let run = c.in_ok-run.run' in let next = c.in_ok-piece.next in
    let here = run_is_written text c.args.out.now.items c.loop-run.out.items c.args.start c.loop-run.at before.0 (before.1, before.2) c.copy_plain.new.out.items (slice_range text c.loop-run.at run) run
    c.in_ok-run.ensures.written c.in_ok-run.ensures.same in
    let e = c.in_ok-piece.ensures.gives.0 ∙ ap (λ (p : Option ℕ). Ok (p, drop next text)) c.in-None.is in
    string_is_written text c.args.out.now.items c.copy_plain.new.out.items c.args.start run (before.0 ++ slice_range text c.loop-run.at run) here c.push-in-None.new.self.items next
    c.in_ok-piece.ensures.further c.in_ok-piece.ensures.gives.1 e c.in_ok-push-in-None.ensures.items

pub loop-run-preserved : goal.loop-run-preserved
loop-run-preserved c =
    let text = c.args.text.now in let before = c.loop-run.invariant in let run = c.in_ok-run.run' in let next = c.in_ok-piece.next in
    let here = run_is_written text c.args.out.now.items c.loop-run.out.items c.args.start c.loop-run.at before.0 (before.1, before.2) c.copy_plain.new.out.items (slice_range text c.loop-run.at run) run
    c.in_ok-run.ensures.written c.in_ok-run.ensures.same in
    let e = c.in_ok-piece.ensures.gives.0 ∙ ap (λ (p : Option ℕ). Ok (p, drop next text)) c.in-Some.is in
    let there = char_is_written text c.args.out.now.items c.copy_plain.new.out.items c.args.start run (before.0 ++ slice_range text c.loop-run.at run) here c.push_char.new.out.items next c.in-Some.c
    c.in_ok-piece.ensures.further c.in_ok-piece.ensures.gives.1 e c.in_ok-push_char-in-Some.ensures in
    ((before.0 ++ slice_range text c.loop-run.at run) ++ encode_utf8 c.in-Some.c, there.0, there.1, c.in_ok-piece.ensures.gives.1)
