use Rattle.std.proofs.Common.{List, ℕ, Some, subst, inl, inr}
use Rattle.stream_replay.specs.Source.{EndsReplay, IsReplayed}
use Rattle.patch_meaning.proofs.Cuts.{if_ok}
use Rattle.delta_cli.proofs.Generated.{counts_are, only_memory}
use Rattle.delta_cli.proofs.generate.count.Goals as goal
use Rattle.delta_cli.proofs.generate.count.Goals.{in-Failed, in_default}

pub returns-in-Ok : goal.returns-in-Ok
returns-in-Ok c =
    let is = subst (IsReplayed c.in-Ok.replayed) c.new-source.ensures.left c.in-Ok.ensures.ok.2 in
    if_ok c.counts_line.result _ _ c.counts_line.ensures (λ line printed. counts_are c.args.patches c.in-Ok.replayed line.items is printed)

pub prove-unreachable-requires : goal.prove-unreachable-requires
prove-unreachable-requires c =
    let input = c.replay_source.new.input in
    let why = subst (λ (text : List ℕ). EndsReplay (Some text) (Some input.left) c.new-source.result.faults input.faults c.in-Err.fault)
    c.new-source.ensures.left c.in-Err.ensures.fault in
    let ends = only_memory c.args.patches c.requires (Some input.left) c.new-source.result.faults input.faults c.in-Err.fault why in
    elim c.match-matches.branch [ in-Failed w ↦ cc | in_default w ↦ elim ends [ inl failed ↦ w.in_default.not-Failed failed | inr wants ↦ w.in_default.not-OutOfMemory wants ] ]
