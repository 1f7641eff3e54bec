use Rattle.std.proofs.Common.{ℕ, refl, subst}
use Rattle.patch_meaning.specs.Cutting.{IsBrokenAtEnd}
use Rattle.patch_rows.specs.declared.cut.TextEnd.TheVariants as cuts
use Rattle.stream_replay.proofs.Streams.{refused_at_end}
use Rattle.stream_replay.proofs.stream.Streaming.last_patch.Goals as goal

pub returns-in-Err-clause-fault : goal.returns-in-Err-clause-fault
returns-in-Err-clause-fault c = λ read gap.
    let s = c.args.self.now in
    c.tell.ensures cuts.Known
    (refused_at_end s.window.fed s.window.passed s.progress c.in-Err.fault (subst (λ (n : ℕ). IsBrokenAtEnd s.progress.part n c.in-Err.fault) c.end-stop.ensures.value c.in-Err.ensures.fault) read gap)
    s.window.fed refl
