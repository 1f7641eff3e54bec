use Rattle.std.proofs.Common.{◌+◌, ◌++◌, List, ℕ, length, take, sym, ◌∙◌, ap, length-append, arith}
use Rattle.chain_core.specs.Runs.{run_text}
use Rattle.patch_log.proofs.Texts.{text_more, text_within}
use Rattle.patch_log.proofs.ready.joined.Goals as goal

pub overflow_add-length : goal.overflow_add-length
overflow_add-length c =
    let run = c.args.run.now in
    let place = c.loop-patch.patch-index in
    omega (arith, c.loop-patch.invariant, c.len-length.ensures, ap length (text_more run place c.patch-item.result c.loop-patch-test.true c.patch-item.is), length-append (run_text (take place run)) c.patch-item.result.text, text_within run (place + 1), c.requires)

pub loop-patch-preserved : goal.loop-patch-preserved
loop-patch-preserved c =
    let run = c.args.run.now in
    let place = c.loop-patch.patch-index in
    omega (arith, c.loop-patch.invariant, c.len-length.ensures, ap length (text_more run place c.patch-item.result c.loop-patch-test.true c.patch-item.is), length-append (run_text (take place run)) c.patch-item.result.text)

pub loop-patch-2-preserved : goal.loop-patch-2-preserved
loop-patch-2-preserved c =
    let patch = c.patch-item-in-loop-patch-2.result in
    c.in_ok-extend_from_slice.ensures.items ∙ ap (λ (t : List ℕ). c.loop-patch-2.text.items ++ t) c.as_slice.ensures ∙ ap (λ (t : List ℕ). t ++ patch.text) c.loop-patch-2.invariant
    ∙ sym (text_more c.args.run.now c.loop-patch-2.patch-index patch c.loop-patch-2-test.true c.patch-item-in-loop-patch-2.is)
