use Rattle.std.proofs.Common.{inl, inr, ◌∙◌}
use Rattle.disk_model.proofs.Moments.{keeps_or_syncs}
use Rattle.log_journal.proofs.first_payload.front.Goals as goal

pub returns-in_err-sync-clause-kept : goal.returns-in_err-sync-clause-kept
returns-in_err-sync-clause-kept g c told = keeps_or_syncs (g.D.Disk.past c.args.disk.now) (g.D.Disk.past c.sync.new.self) (g.met.D.Disk.reads_may_be_left c.args.disk.now told) (inl (c.in_err-sync.ensures.err told))

pub returns-clause-kept : goal.returns-clause-kept
returns-clause-kept g c told = keeps_or_syncs (g.D.Disk.past c.args.disk.now) (g.D.Disk.past c.look.new.disk) (g.met.D.Disk.reads_may_be_left c.args.disk.now told) (inr (c.look.ensures.past ∙ c.in_ok-sync.ensures.ok told))
