use Rattle.std.proofs.Common.{rules, ap, ap₂, ◌∙◌, true}
use Rattle.clap.specs.Words.{Rule, rule_of, with_rule}
use Rattle.command_tables.proofs.WalkOfPositions.{positions_more}
use Rattle.command_tables.proofs.positions.positions_command.Goals as goal

pub loop-id-preserved : goal.loop-id-preserved
loop-id-preserved c =
    let rule = ap rule_of c.required.ensures ∙ ap {A = Rule} (λ r. record r { required = true }) c.new-in-loop-id.ensures.rule in
    c.in_ok-command.ensures.shape (search rules) ∙ ap₂ with_rule c.loop-id.invariant rule
    ∙ positions_more c.args.name.now c.args.names.now c.loop-id.id-index _ c.loop-id-test.true
