use Rattle.zone_commands.proofs.Checkpoints.{both_went, checkpointed}
use Rattle.zone_commands.proofs.checkpointing.checkpoint_files.Goals as goal

pub returns-in-Ok-clause-ok : goal.returns-in-Ok-clause-ok
returns-in-Ok-clause-ok g c =
    checkpointed g.D.Disk c.args.first c.args.second c.in-Ok.zone c.checkpoint-end.new.self c.in-Ok.ensures.opened c.in-Ok.ensures.limits c.in-Ok.ensures.current c.in-Ok.ensures.held c.checkpoint-end.result c.checkpoint-end.ensures
    g.met.D.Disk.reads_may_be_left c.close-first.result.0 c.close-first.result.1 c.close-first.ensures.first c.close-first.ensures.second

pub returns-in-Ok-clause-went : goal.returns-in-Ok-clause-went
returns-in-Ok-clause-went g c =
    both_went g.D.Disk c.args.first c.args.second c.in-Ok.zone c.checkpoint-end.new.self c.in-Ok.ensures.opened c.in-Ok.ensures.limits _ c.checkpoint-end.ensures.went
    c.close-first.result.0 c.close-first.result.1 c.close-first.ensures.first c.close-first.ensures.second
