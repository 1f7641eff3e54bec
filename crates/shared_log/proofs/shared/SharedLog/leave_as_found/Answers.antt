use Rattle.std.proofs.Common.{[], ap, sym, subst, inl, arith}
use Rattle.log_journal.specs.StandsFor.{disk_of}
use Rattle.patch_log.specs.Tail.{StandsForChain, log_of}
use Rattle.shared_log.specs.History.{history_of, entries_known, fixed_of}
use Rattle.shared_log.proofs.Turns.{still_from, has_work}
use Rattle.shared_log.proofs.shared.SharedLog.leave_as_found.Goals as goal

pub leave_list-requires-clause-entries : goal.leave_list-requires-clause-entries
leave_list-requires-clause-entries g c = ap (λ l. history_of l.chain.items) c.requires.as_found.1

pub leave_list-requires-clause-spare : goal.leave_list-requires-clause-spare
leave_list-requires-clause-spare g c = inl (has_work g.D.Disk c.args.pass.now c.args.work c.requires.of_work, omega arith)

pub leave_work_as_found-requires-clause-from : goal.leave_work_as_found-requires-clause-from
leave_work_as_found-requires-clause-from g c = let l = c.leave_list.ensures in still_from g.D.Disk c.args.pass.now c.leave_list.new.pass c.args.work l.same.0 l.same.1 c.requires.of_work

pub leave_work_as_found-requires-clause-stands : goal.leave_work_as_found-requires-clause-stands
leave_work_as_found-requires-clause-stands g c = subst (λ seen. StandsForChain c.args.work.value.tail (entries_known seen)) (sym c.leave_list.ensures.seen) c.requires.stands

pub leave_work_as_found-requires-clause-as_found : goal.leave_work_as_found-requires-clause-as_found
leave_work_as_found-requires-clause-as_found g c = let e = c.requires.as_found.0 in
    (ap (λ w. g.D.Disk.faults (disk_of w.tail.journal)) e, ap (λ w. w.tail.doubt) e, ap (λ w. fixed_of g.D.Disk.mark (log_of w.tail [] 0)) e)
