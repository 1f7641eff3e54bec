use Rattle.std.proofs.Common.{◌≡◌, ℕ, ◌+◌, ◌-◌, List, [], ◌++◌, Result, Ok, Err, IsErr, refl, sym, ap, subst, ◌∙◌, arith}
use Rattle.sink_writing.proofs.Pieces.{Written, written_front, written_text, text_front}
use Rattle.stream_generator.specs.Generator.{stream_text, patches_from}
use Rattle.delta_cli.proofs.Printed.{from_more, rose_since}
use Rattle.delta_cli.proofs.generate.emit.Goals as goal

is_failed : {A B : Type 0} (r : Result A B) (e : B) → r ≡ Err e → IsErr r
is_failed (Ok x) e is = absurd cc
is_failed (Err f) e is = refl

-- what was pushed behind nothing
pushed : (before after piece : List ℕ) → before ≡ [] → after ≡ before ++ piece → after ≡ piece
pushed before after piece none is = is ∙ ap (λ (l : List ℕ). l ++ piece) none

pub returns-in_default-put-clause-stopped : goal.returns-in_default-put-clause-stopped
returns-in_default-put-clause-stopped g c =
    let made = c.loop-made.made in
    let all = c.args.patches in
    let text = c.as_slice.result.now in
    let left = patches_from (made + 1 + 1) (all - (made + 1)) in
    let first = g.K.Sink.written c.args.out.now in
    let before = g.K.Sink.written c.loop-made.out in
    let parts = from_more (made + 1) all made c.loop-made-test.true ∙ ap (λ (l : List ℕ). l ++ left) (sym (c.as_slice.ensures.value ∙ pushed c.clear.new.self.items c.push_patch.new.text.items _ c.clear.ensures.items c.in-Ok-push_patch.ensures.appends.ok)) in
    let so_far : Written first before (stream_text all) (c.loop-made.room ++ (text ++ left)) = subst (Written first before (stream_text all)) (ap (λ (l : List ℕ). c.loop-made.room ++ l) parts) c.loop-made.invariant.written in (
      rose_since _ _ _ c.loop-made.invariant.faults (c.put.ensures.failed (is_failed c.put.result c.in_default-put.field-0 c.in_default-put.is)),
      text_front first before (g.K.Sink.written c.put.new.out) (stream_text all) c.loop-made.room text left so_far c.put.ensures.front,
    )

pub loop-made-preserved : goal.loop-made-preserved
loop-made-preserved g c =
    let made = c.loop-made.made in
    let all = c.args.patches in
    let text = c.as_slice.result.now in
    let left = patches_from (made + 1 + 1) (all - (made + 1)) in
    let first = g.K.Sink.written c.args.out.now in
    let before = g.K.Sink.written c.loop-made.out in
    let parts = from_more (made + 1) all made c.loop-made-test.true ∙ ap (λ (l : List ℕ). l ++ left) (sym (c.as_slice.ensures.value ∙ pushed c.clear.new.self.items c.push_patch.new.text.items _ c.clear.ensures.items c.in-Ok-push_patch.ensures.appends.ok)) in
    let so_far : Written first before (stream_text all) (c.loop-made.room ++ (text ++ left)) = subst (Written first before (stream_text all)) (ap (λ (l : List ℕ). c.loop-made.room ++ l) parts) c.loop-made.invariant.written in
    record {
      written = written_text first before (g.K.Sink.written c.put.new.out) (stream_text all) c.loop-made.room c.put.new.self text left so_far c.in-Ok-put.ensures.put;
      ready = omega (arith, c.loop-made.invariant.ready, c.clear.ensures.capacity, c.in-Ok-push_patch.ensures.appends.room);
      faults = omega (arith, c.put.ensures.never_falls, c.loop-made.invariant.faults);
    }

pub returns-in_default-write_out-clause-stopped : goal.returns-in_default-write_out-clause-stopped
returns-in_default-write_out-clause-stopped g c =
    let first = g.K.Sink.written c.args.out.now in
    let before = g.K.Sink.written c.loop-made.out in (
      rose_since _ _ _ c.loop-made.invariant.faults (c.write_out.ensures.failed (is_failed c.write_out.result c.in_default-write_out.field-0 c.in_default-write_out.is)),
      written_front first before (g.K.Sink.written c.write_out.new.out) (stream_text c.args.patches) c.loop-made.room _ c.loop-made.invariant.written c.write_out.ensures.front,
    )
