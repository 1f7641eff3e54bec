use Rattle.std.proofs.Common.{◌≡◌, ◌≤◌, ◌++◌, ℕ, List, [], length, Some, sym, refl, ap, ◌∙◌, subst, inl, arith}
use Rattle.log_journal.specs.StandsFor.{disk_of}
use Rattle.chain_core.specs.declared.answer.LogAnswer.TheVariants.{Accepted, DiskFault}
use Rattle.chain_core.specs.declared.chain.Entry.{Entry}
use Rattle.chain_core.specs.declared.chain.Patch.{Patch}
use Rattle.chain_core.specs.Chain.{IsBoundedChain}
use Rattle.chain_core.specs.Runs.{entries_of}
use Rattle.patch_log.specs.Run.{AppendedRun}
use Rattle.patch_log.specs.Tail.{StandsForChain, TakesRun, log_of}
use Rattle.turn_cell.specs.declared.view.Known.{Known}
use Rattle.turn_cell.specs.Sights.{IsGrownBy}
use Rattle.turn_cell.specs.Turns.{Adds, own_count}
use Rattle.shared_log.specs.declared.value.LogList.{LogList}
use Rattle.shared_log.specs.declared.value.LogWork.{LogWork}
use Rattle.shared_log.specs.declared.value.Placed.{Placed}
use Rattle.shared_log.specs.History.{history_of, entries_known, fixed_of, MayBeSeen}
use Rattle.shared_log.proofs.Appending.{told_as_found, told_changed, same_fixed, grown_by, may_be_seen}
use Rattle.shared_log.proofs.Turns.{sees_both, sees_still, sees_again, stands_for_list, known_entries, same_entries, has_work, has_still}
use Rattle.shared_log.proofs.shared.SharedLog.append.Goals as goal

pub prepare-requires : goal.prepare-requires
prepare-requires g c =
    let w = c.enter_work-work.ensures in
    let l = c.enter_list-list.ensures in
    let p = c.args.pass.now in
    let m = c.enter_work-work.new.pass in
    let n = c.enter_list-list.new.pass in
    let tail = c.enter_work-work.result.value.tail in
    let items = c.enter_list-list.result.value.chain.items in
    let has = has_work g.D.Disk m c.enter_work-work.result w.from in
    record { stands = subst (λ (z : LogWork g.row.D.Denot g.D.Disk × LogList). StandsForChain z.0.tail z.1.chain.items) (λ i. (sym c.value.ensures i, sym c.value_mut.ensures.value i)) (stands_for_list g.D.Disk m n tail items w.stands (l.with_work has) l.entries) }

pub returns-in-Err : goal.returns-in-Err
returns-in-Err g c =
    let w = c.enter_work-work.ensures in
    let l = c.enter_list-list.ensures in
    let p = c.args.pass.now in
    let m = c.enter_work-work.new.pass in
    let n = c.enter_list-list.new.pass in
    let tail = c.enter_work-work.result.value.tail in
    let items = c.enter_list-list.result.value.chain.items in
    let has = has_work g.D.Disk m c.enter_work-work.result w.from in
    let sees = sees_both g.D.Disk p m n tail items w.same.0 w.quiet w.later w.own w.looks (w.from.2 ∙ ap (λ (v : LogWork g.row.D.Denot g.D.Disk). Some (fixed_of g.D.Disk.mark (log_of v.tail [] 0))) (sym w.value)) w.stands w.test l.same.0 l.quiet l.later l.own l.looks (l.with_work has) l.entries in
    let e = c.leave_as_found.ensures in
    let spare = c.enter_list-list.result.value.chain.spare in
    let appended = subst (λ (z : LogWork g.row.D.Denot g.D.Disk × LogList × ℕ). AppendedRun g.D.Disk (log_of z.0.tail z.1.chain.items z.1.chain.spare) (log_of z.0.tail z.1.chain.items z.1.chain.spare) c.args.run z.2 c.in-Err.answer) (λ i. (c.value.ensures i, c.value_mut.ensures.value i, c.number-by.ensures i)) (c.in-Err.ensures.told c.args.run c.number-by.result c.of-made.ensures) in
    let told = told_as_found g.D.Disk c.args.self.now p n tail items sees c.requires.of c.args.run c.count.ensures.some c.leave_as_found.new.pass spare e.same e.looks e.seen e.quiet c.in-Err.answer c.in-Err.ensures.as_found.1 appended in
    record { of = told.of; whole = told.whole; called = told.called; alone = told.alone; counted = told.counted }

pub leave_list-requires-clause-spare : goal.leave_list-requires-clause-spare
leave_list-requires-clause-spare g c =
    let w = c.enter_work-work.ensures in
    let l = c.enter_list-list.ensures in
    let p = c.args.pass.now in
    let m = c.enter_work-work.new.pass in
    let n = c.enter_list-list.new.pass in
    let tail = c.enter_work-work.result.value.tail in
    let items = c.enter_list-list.result.value.chain.items in
    let has = has_work g.D.Disk m c.enter_work-work.result w.from in
    let ready = c.in-Ok.prepared.1 in
    let made = c.in-Ok.ensures.made c.args.run c.number-by.result c.of-made.ensures in
    inl (has_still m n l.same.1 has, omega (arith, c.in-Ok.ensures.ready, ap length made.0, c.count.ensures.count, c.from-need.ensures))

pub write-requires : goal.write-requires
write-requires g c =
    let w = c.enter_work-work.ensures in
    let l = c.enter_list-list.ensures in
    let p = c.args.pass.now in
    let m = c.enter_work-work.new.pass in
    let n = c.enter_list-list.new.pass in
    let tail = c.enter_work-work.result.value.tail in
    let items = c.enter_list-list.result.value.chain.items in
    let has = has_work g.D.Disk m c.enter_work-work.result w.from in
    let ready = c.in-Ok.prepared.1 in
    let takes = subst (λ (z : LogWork g.row.D.Denot g.D.Disk × LogList). TakesRun z.0.tail z.1.chain.items ready.run c.in-Ok.prepared.0) (λ i. ((c.value.ensures ∙ sym c.value_mut-2.ensures.value) i, c.value_mut.ensures.value i)) c.in-Ok.ensures.takes in
    (items, c.in-Ok.prepared.0, takes)

pub push_run-requires-clause-ready : goal.push_run-requires-clause-ready
push_run-requires-clause-ready g c =
    let w = c.enter_work-work.ensures in
    let l = c.enter_list-list.ensures in
    let p = c.args.pass.now in
    let m = c.enter_work-work.new.pass in
    let n = c.enter_list-list.new.pass in
    let tail = c.enter_work-work.result.value.tail in
    let items = c.enter_list-list.result.value.chain.items in
    let has = has_work g.D.Disk m c.enter_work-work.result w.from in
    let ready = c.in-Ok.prepared.1 in
    let made = c.in-Ok.ensures.made c.args.run c.number-by.result c.of-made.ensures in
    let takes = subst (λ (z : LogWork g.row.D.Denot g.D.Disk × LogList). TakesRun z.0.tail z.1.chain.items ready.run c.in-Ok.prepared.0) (λ i. ((c.value.ensures ∙ sym c.value_mut-2.ensures.value) i, c.value_mut.ensures.value i)) c.in-Ok.ensures.takes in
    let k = c.leave_list.ensures in
    let out = c.leave_list.new.pass in
    let after = c.write.new.self in
    let wrote = c.in-Some.ensures items c.in-Ok.prepared.0 takes in
    let longer = items ++ entries_of ready.run ready.by in
    let again = c.enter_list-list-in-Some.ensures in
    let o = c.enter_list-list-in-Some.new.pass in
    let has_it = has_still n out k.same.1 (has_still m n l.same.1 has) in
    let seen = again.with_work has_it in
    let base = c.value_mut-in-Some.result.now.chain.items in
    let same : base ≡ items = ap (λ (v : LogList). v.chain.items) c.value_mut-in-Some.ensures.value ∙ same_entries c.enter_list-list-in-Some.result.value.chain.items items (again.entries ∙ (seen ∙ (k.seen ∙ sym l.entries))) in
    omega (arith, ap length wrote.0, ap length made.0, c.count.ensures.count, c.from-need.ensures, k.need, again.spare has_it, ap (λ (v : LogList). v.chain.spare) c.value_mut-in-Some.ensures.value)

pub push_run-requires-clause-kept : goal.push_run-requires-clause-kept
push_run-requires-clause-kept g c =
    let w = c.enter_work-work.ensures in
    let l = c.enter_list-list.ensures in
    let p = c.args.pass.now in
    let m = c.enter_work-work.new.pass in
    let n = c.enter_list-list.new.pass in
    let tail = c.enter_work-work.result.value.tail in
    let items = c.enter_list-list.result.value.chain.items in
    let has = has_work g.D.Disk m c.enter_work-work.result w.from in
    let ready = c.in-Ok.prepared.1 in
    let made = c.in-Ok.ensures.made c.args.run c.number-by.result c.of-made.ensures in
    let takes = subst (λ (z : LogWork g.row.D.Denot g.D.Disk × LogList). TakesRun z.0.tail z.1.chain.items ready.run c.in-Ok.prepared.0) (λ i. ((c.value.ensures ∙ sym c.value_mut-2.ensures.value) i, c.value_mut.ensures.value i)) c.in-Ok.ensures.takes in
    let k = c.leave_list.ensures in
    let out = c.leave_list.new.pass in
    let after = c.write.new.self in
    let wrote = c.in-Some.ensures items c.in-Ok.prepared.0 takes in
    let longer = items ++ entries_of ready.run ready.by in
    let again = c.enter_list-list-in-Some.ensures in
    let o = c.enter_list-list-in-Some.new.pass in
    let has_it = has_still n out k.same.1 (has_still m n l.same.1 has) in
    let seen = again.with_work has_it in
    let base = c.value_mut-in-Some.result.now.chain.items in
    let same : base ≡ items = ap (λ (v : LogList). v.chain.items) c.value_mut-in-Some.ensures.value ∙ same_entries c.enter_list-list-in-Some.result.value.chain.items items (again.entries ∙ (seen ∙ (k.seen ∙ sym l.entries))) in
    subst (λ (z : List Entry × List Patch × ℕ). IsBoundedChain (z.0 ++ entries_of z.1 z.2)) (λ i. (sym same i, sym wrote.0 i, made.1 i)) wrote.1.kept

pub publish-requires-clause-grown : goal.publish-requires-clause-grown
publish-requires-clause-grown g c =
    let w = c.enter_work-work.ensures in
    let l = c.enter_list-list.ensures in
    let p = c.args.pass.now in
    let m = c.enter_work-work.new.pass in
    let n = c.enter_list-list.new.pass in
    let tail = c.enter_work-work.result.value.tail in
    let items = c.enter_list-list.result.value.chain.items in
    let has = has_work g.D.Disk m c.enter_work-work.result w.from in
    let ready = c.in-Ok.prepared.1 in
    let made = c.in-Ok.ensures.made c.args.run c.number-by.result c.of-made.ensures in
    let takes = subst (λ (z : LogWork g.row.D.Denot g.D.Disk × LogList). TakesRun z.0.tail z.1.chain.items ready.run c.in-Ok.prepared.0) (λ i. ((c.value.ensures ∙ sym c.value_mut-2.ensures.value) i, c.value_mut.ensures.value i)) c.in-Ok.ensures.takes in
    let k = c.leave_list.ensures in
    let out = c.leave_list.new.pass in
    let after = c.write.new.self in
    let wrote = c.in-Some.ensures items c.in-Ok.prepared.0 takes in
    let longer = items ++ entries_of ready.run ready.by in
    let again = c.enter_list-list-in-Some.ensures in
    let o = c.enter_list-list-in-Some.new.pass in
    let has_it = has_still n out k.same.1 (has_still m n l.same.1 has) in
    let seen = again.with_work has_it in
    let base = c.value_mut-in-Some.result.now.chain.items in
    let same : base ≡ items = ap (λ (v : LogList). v.chain.items) c.value_mut-in-Some.ensures.value ∙ same_entries c.enter_list-list-in-Some.result.value.chain.items items (again.entries ∙ (seen ∙ (k.seen ∙ sym l.entries))) in
    let number = c.number-by.ensures ∙ sym (again.same.0.2 ∙ (k.same.0.2 ∙ (l.same.0.2 ∙ w.same.0.2))) in
    let shown = ap (λ (v : LogList). history_of v.chain.items) c.value_mut-in-Some.ensures.value ∙ again.entries in
    subst (λ (z : ℕ × List (Known Placed) × List Entry). IsGrownBy z.0 z.1 (history_of z.2)) (λ i. (number i, shown i, sym c.push_run.ensures.items i)) (grown_by base c.in-Some.run' c.number-by.result)

pub publish-requires-clause-test : goal.publish-requires-clause-test
publish-requires-clause-test g c =
    let w = c.enter_work-work.ensures in
    let l = c.enter_list-list.ensures in
    let p = c.args.pass.now in
    let m = c.enter_work-work.new.pass in
    let n = c.enter_list-list.new.pass in
    let tail = c.enter_work-work.result.value.tail in
    let items = c.enter_list-list.result.value.chain.items in
    let has = has_work g.D.Disk m c.enter_work-work.result w.from in
    let ready = c.in-Ok.prepared.1 in
    let made = c.in-Ok.ensures.made c.args.run c.number-by.result c.of-made.ensures in
    let takes = subst (λ (z : LogWork g.row.D.Denot g.D.Disk × LogList). TakesRun z.0.tail z.1.chain.items ready.run c.in-Ok.prepared.0) (λ i. ((c.value.ensures ∙ sym c.value_mut-2.ensures.value) i, c.value_mut.ensures.value i)) c.in-Ok.ensures.takes in
    let k = c.leave_list.ensures in
    let out = c.leave_list.new.pass in
    let after = c.write.new.self in
    let wrote = c.in-Some.ensures items c.in-Ok.prepared.0 takes in
    let longer = items ++ entries_of ready.run ready.by in
    let again = c.enter_list-list-in-Some.ensures in
    let o = c.enter_list-list-in-Some.new.pass in
    let has_it = has_still n out k.same.1 (has_still m n l.same.1 has) in
    let seen = again.with_work has_it in
    let base = c.value_mut-in-Some.result.now.chain.items in
    let same : base ≡ items = ap (λ (v : LogList). v.chain.items) c.value_mut-in-Some.ensures.value ∙ same_entries c.enter_list-list-in-Some.result.value.chain.items items (again.entries ∙ (seen ∙ (k.seen ∙ sym l.entries))) in
    let entries = c.push_run.new.self.items in
    let all : longer ≡ entries = (λ i. sym same i ++ entries_of (sym wrote.0 i) (made.1 i)) ∙ sym c.push_run.ensures.items in
    let test = may_be_seen longer wrote.1.kept wrote.1.stands.whole in
    subst (λ (es : List Entry). MayBeSeen (history_of es)) all test

pub publish-requires-clause-stands : goal.publish-requires-clause-stands
publish-requires-clause-stands g c =
    let w = c.enter_work-work.ensures in
    let l = c.enter_list-list.ensures in
    let p = c.args.pass.now in
    let m = c.enter_work-work.new.pass in
    let n = c.enter_list-list.new.pass in
    let tail = c.enter_work-work.result.value.tail in
    let items = c.enter_list-list.result.value.chain.items in
    let has = has_work g.D.Disk m c.enter_work-work.result w.from in
    let ready = c.in-Ok.prepared.1 in
    let made = c.in-Ok.ensures.made c.args.run c.number-by.result c.of-made.ensures in
    let takes = subst (λ (z : LogWork g.row.D.Denot g.D.Disk × LogList). TakesRun z.0.tail z.1.chain.items ready.run c.in-Ok.prepared.0) (λ i. ((c.value.ensures ∙ sym c.value_mut-2.ensures.value) i, c.value_mut.ensures.value i)) c.in-Ok.ensures.takes in
    let k = c.leave_list.ensures in
    let out = c.leave_list.new.pass in
    let after = c.write.new.self in
    let wrote = c.in-Some.ensures items c.in-Ok.prepared.0 takes in
    let longer = items ++ entries_of ready.run ready.by in
    let again = c.enter_list-list-in-Some.ensures in
    let o = c.enter_list-list-in-Some.new.pass in
    let has_it = has_still n out k.same.1 (has_still m n l.same.1 has) in
    let seen = again.with_work has_it in
    let base = c.value_mut-in-Some.result.now.chain.items in
    let same : base ≡ items = ap (λ (v : LogList). v.chain.items) c.value_mut-in-Some.ensures.value ∙ same_entries c.enter_list-list-in-Some.result.value.chain.items items (again.entries ∙ (seen ∙ (k.seen ∙ sym l.entries))) in
    let entries = c.push_run.new.self.items in
    let all : longer ≡ entries = (λ i. sym same i ++ entries_of (sym wrote.0 i) (made.1 i)) ∙ sym c.push_run.ensures.items in
    subst (StandsForChain after) (all ∙ sym (known_entries entries)) wrote.1.stands

pub publish-requires-clause-fixed : goal.publish-requires-clause-fixed
publish-requires-clause-fixed g c =
    let w = c.enter_work-work.ensures in
    let l = c.enter_list-list.ensures in
    let p = c.args.pass.now in
    let m = c.enter_work-work.new.pass in
    let n = c.enter_list-list.new.pass in
    let tail = c.enter_work-work.result.value.tail in
    let items = c.enter_list-list.result.value.chain.items in
    let has = has_work g.D.Disk m c.enter_work-work.result w.from in
    let ready = c.in-Ok.prepared.1 in
    let made = c.in-Ok.ensures.made c.args.run c.number-by.result c.of-made.ensures in
    let takes = subst (λ (z : LogWork g.row.D.Denot g.D.Disk × LogList). TakesRun z.0.tail z.1.chain.items ready.run c.in-Ok.prepared.0) (λ i. ((c.value.ensures ∙ sym c.value_mut-2.ensures.value) i, c.value_mut.ensures.value i)) c.in-Ok.ensures.takes in
    let k = c.leave_list.ensures in
    let out = c.leave_list.new.pass in
    let after = c.write.new.self in
    let wrote = c.in-Some.ensures items c.in-Ok.prepared.0 takes in
    let longer = items ++ entries_of ready.run ready.by in
    let again = c.enter_list-list-in-Some.ensures in
    let o = c.enter_list-list-in-Some.new.pass in
    let has_it = has_still n out k.same.1 (has_still m n l.same.1 has) in
    let seen = again.with_work has_it in
    let base = c.value_mut-in-Some.result.now.chain.items in
    let same : base ≡ items = ap (λ (v : LogList). v.chain.items) c.value_mut-in-Some.ensures.value ∙ same_entries c.enter_list-list-in-Some.result.value.chain.items items (again.entries ∙ (seen ∙ (k.seen ∙ sym l.entries))) in
    same_fixed g.D.Disk c.value_mut-2.result.now.tail after items longer ready.run ready.by (Accepted c.in-Ok.prepared.0) (wrote.1.appended 0 0) ∙ ap (λ (v : LogWork g.row.D.Denot g.D.Disk). fixed_of g.D.Disk.mark (log_of v.tail [] 0)) (c.value_mut-2.ensures.value ∙ w.value)

pub publish-requires-clause-faults : goal.publish-requires-clause-faults
publish-requires-clause-faults g c =
    let w = c.enter_work-work.ensures in
    let l = c.enter_list-list.ensures in
    let p = c.args.pass.now in
    let m = c.enter_work-work.new.pass in
    let n = c.enter_list-list.new.pass in
    let tail = c.enter_work-work.result.value.tail in
    let items = c.enter_list-list.result.value.chain.items in
    let has = has_work g.D.Disk m c.enter_work-work.result w.from in
    let ready = c.in-Ok.prepared.1 in
    let made = c.in-Ok.ensures.made c.args.run c.number-by.result c.of-made.ensures in
    let takes = subst (λ (z : LogWork g.row.D.Denot g.D.Disk × LogList). TakesRun z.0.tail z.1.chain.items ready.run c.in-Ok.prepared.0) (λ i. ((c.value.ensures ∙ sym c.value_mut-2.ensures.value) i, c.value_mut.ensures.value i)) c.in-Ok.ensures.takes in
    let k = c.leave_list.ensures in
    let out = c.leave_list.new.pass in
    let after = c.write.new.self in
    let wrote = c.in-Some.ensures items c.in-Ok.prepared.0 takes in
    let longer = items ++ entries_of ready.run ready.by in
    let again = c.enter_list-list-in-Some.ensures in
    let o = c.enter_list-list-in-Some.new.pass in
    let has_it = has_still n out k.same.1 (has_still m n l.same.1 has) in
    let seen = again.with_work has_it in
    let base = c.value_mut-in-Some.result.now.chain.items in
    let same : base ≡ items = ap (λ (v : LogList). v.chain.items) c.value_mut-in-Some.ensures.value ∙ same_entries c.enter_list-list-in-Some.result.value.chain.items items (again.entries ∙ (seen ∙ (k.seen ∙ sym l.entries))) in
    let appended = wrote.1.appended 0 0 in
    subst (λ (v : LogWork g.row.D.Denot g.D.Disk). g.D.Disk.faults (disk_of v.tail.journal) ≤ g.D.Disk.faults (disk_of after.journal)) (c.value_mut-2.ensures.value ∙ w.value) appended.went.never_falls

pub leave_work-requires-clause-stands : goal.leave_work-requires-clause-stands
leave_work-requires-clause-stands g c =
    let w = c.enter_work-work.ensures in
    let l = c.enter_list-list.ensures in
    let p = c.args.pass.now in
    let m = c.enter_work-work.new.pass in
    let n = c.enter_list-list.new.pass in
    let tail = c.enter_work-work.result.value.tail in
    let items = c.enter_list-list.result.value.chain.items in
    let has = has_work g.D.Disk m c.enter_work-work.result w.from in
    let ready = c.in-Ok.prepared.1 in
    let made = c.in-Ok.ensures.made c.args.run c.number-by.result c.of-made.ensures in
    let takes = subst (λ (z : LogWork g.row.D.Denot g.D.Disk × LogList). TakesRun z.0.tail z.1.chain.items ready.run c.in-Ok.prepared.0) (λ i. ((c.value.ensures ∙ sym c.value_mut-2.ensures.value) i, c.value_mut.ensures.value i)) c.in-Ok.ensures.takes in
    let k = c.leave_list.ensures in
    let out = c.leave_list.new.pass in
    let after = c.write.new.self in
    let wrote = c.in-Some.ensures items c.in-Ok.prepared.0 takes in
    let longer = items ++ entries_of ready.run ready.by in
    let again = c.enter_list-list-in-Some.ensures in
    let o = c.enter_list-list-in-Some.new.pass in
    let has_it = has_still n out k.same.1 (has_still m n l.same.1 has) in
    let seen = again.with_work has_it in
    let base = c.value_mut-in-Some.result.now.chain.items in
    let same : base ≡ items = ap (λ (v : LogList). v.chain.items) c.value_mut-in-Some.ensures.value ∙ same_entries c.enter_list-list-in-Some.result.value.chain.items items (again.entries ∙ (seen ∙ (k.seen ∙ sym l.entries))) in
    let entries = c.push_run.new.self.items in
    let all : longer ≡ entries = (λ i. sym same i ++ entries_of (sym wrote.0 i) (made.1 i)) ∙ sym c.push_run.ensures.items in
    subst (StandsForChain after) (all ∙ (sym (known_entries entries) ∙ ap entries_known (sym c.publish.ensures.entries))) wrote.1.stands

pub leave_work-requires-clause-fixed : goal.leave_work-requires-clause-fixed
leave_work-requires-clause-fixed g c =
    let w = c.enter_work-work.ensures in
    let l = c.enter_list-list.ensures in
    let p = c.args.pass.now in
    let m = c.enter_work-work.new.pass in
    let n = c.enter_list-list.new.pass in
    let tail = c.enter_work-work.result.value.tail in
    let items = c.enter_list-list.result.value.chain.items in
    let has = has_work g.D.Disk m c.enter_work-work.result w.from in
    let ready = c.in-Ok.prepared.1 in
    let made = c.in-Ok.ensures.made c.args.run c.number-by.result c.of-made.ensures in
    let takes = subst (λ (z : LogWork g.row.D.Denot g.D.Disk × LogList). TakesRun z.0.tail z.1.chain.items ready.run c.in-Ok.prepared.0) (λ i. ((c.value.ensures ∙ sym c.value_mut-2.ensures.value) i, c.value_mut.ensures.value i)) c.in-Ok.ensures.takes in
    let k = c.leave_list.ensures in
    let out = c.leave_list.new.pass in
    let after = c.write.new.self in
    let wrote = c.in-Some.ensures items c.in-Ok.prepared.0 takes in
    let longer = items ++ entries_of ready.run ready.by in
    let again = c.enter_list-list-in-Some.ensures in
    let o = c.enter_list-list-in-Some.new.pass in
    let has_it = has_still n out k.same.1 (has_still m n l.same.1 has) in
    let seen = again.with_work has_it in
    let base = c.value_mut-in-Some.result.now.chain.items in
    let same : base ≡ items = ap (λ (v : LogList). v.chain.items) c.value_mut-in-Some.ensures.value ∙ same_entries c.enter_list-list-in-Some.result.value.chain.items items (again.entries ∙ (seen ∙ (k.seen ∙ sym l.entries))) in
    same_fixed g.D.Disk c.value_mut-2.result.now.tail after items longer ready.run ready.by (Accepted c.in-Ok.prepared.0) (wrote.1.appended 0 0) ∙ ap (λ (v : LogWork g.row.D.Denot g.D.Disk). fixed_of g.D.Disk.mark (log_of v.tail [] 0)) (c.value_mut-2.ensures.value ∙ w.value)

pub leave_work-requires-clause-faults : goal.leave_work-requires-clause-faults
leave_work-requires-clause-faults g c =
    let w = c.enter_work-work.ensures in
    let l = c.enter_list-list.ensures in
    let p = c.args.pass.now in
    let m = c.enter_work-work.new.pass in
    let n = c.enter_list-list.new.pass in
    let tail = c.enter_work-work.result.value.tail in
    let items = c.enter_list-list.result.value.chain.items in
    let has = has_work g.D.Disk m c.enter_work-work.result w.from in
    let ready = c.in-Ok.prepared.1 in
    let made = c.in-Ok.ensures.made c.args.run c.number-by.result c.of-made.ensures in
    let takes = subst (λ (z : LogWork g.row.D.Denot g.D.Disk × LogList). TakesRun z.0.tail z.1.chain.items ready.run c.in-Ok.prepared.0) (λ i. ((c.value.ensures ∙ sym c.value_mut-2.ensures.value) i, c.value_mut.ensures.value i)) c.in-Ok.ensures.takes in
    let k = c.leave_list.ensures in
    let out = c.leave_list.new.pass in
    let after = c.write.new.self in
    let wrote = c.in-Some.ensures items c.in-Ok.prepared.0 takes in
    let longer = items ++ entries_of ready.run ready.by in
    let again = c.enter_list-list-in-Some.ensures in
    let o = c.enter_list-list-in-Some.new.pass in
    let has_it = has_still n out k.same.1 (has_still m n l.same.1 has) in
    let seen = again.with_work has_it in
    let base = c.value_mut-in-Some.result.now.chain.items in
    let same : base ≡ items = ap (λ (v : LogList). v.chain.items) c.value_mut-in-Some.ensures.value ∙ same_entries c.enter_list-list-in-Some.result.value.chain.items items (again.entries ∙ (seen ∙ (k.seen ∙ sym l.entries))) in
    let appended = wrote.1.appended 0 0 in
    subst (λ (v : LogWork g.row.D.Denot g.D.Disk). g.D.Disk.faults (disk_of v.tail.journal) ≤ g.D.Disk.faults (disk_of after.journal)) (c.value_mut-2.ensures.value ∙ w.value) appended.went.never_falls

pub leave_work-requires-in-None-clause-stands : goal.leave_work-requires-in-None-clause-stands
leave_work-requires-in-None-clause-stands g c =
    let w = c.enter_work-work.ensures in
    let l = c.enter_list-list.ensures in
    let p = c.args.pass.now in
    let m = c.enter_work-work.new.pass in
    let n = c.enter_list-list.new.pass in
    let tail = c.enter_work-work.result.value.tail in
    let items = c.enter_list-list.result.value.chain.items in
    let has = has_work g.D.Disk m c.enter_work-work.result w.from in
    let ready = c.in-Ok.prepared.1 in
    let made = c.in-Ok.ensures.made c.args.run c.number-by.result c.of-made.ensures in
    let takes = subst (λ (z : LogWork g.row.D.Denot g.D.Disk × LogList). TakesRun z.0.tail z.1.chain.items ready.run c.in-Ok.prepared.0) (λ i. ((c.value.ensures ∙ sym c.value_mut-2.ensures.value) i, c.value_mut.ensures.value i)) c.in-Ok.ensures.takes in
    let k = c.leave_list.ensures in
    let out = c.leave_list.new.pass in
    let after = c.write.new.self in
    let wrote = c.in-None.ensures items c.in-Ok.prepared.0 takes in
    subst (StandsForChain after) (sym (ap entries_known (k.seen ∙ sym l.entries) ∙ known_entries items)) wrote.stands

pub leave_work-requires-in-None-clause-fixed : goal.leave_work-requires-in-None-clause-fixed
leave_work-requires-in-None-clause-fixed g c =
    let w = c.enter_work-work.ensures in
    let l = c.enter_list-list.ensures in
    let p = c.args.pass.now in
    let m = c.enter_work-work.new.pass in
    let n = c.enter_list-list.new.pass in
    let tail = c.enter_work-work.result.value.tail in
    let items = c.enter_list-list.result.value.chain.items in
    let has = has_work g.D.Disk m c.enter_work-work.result w.from in
    let ready = c.in-Ok.prepared.1 in
    let made = c.in-Ok.ensures.made c.args.run c.number-by.result c.of-made.ensures in
    let takes = subst (λ (z : LogWork g.row.D.Denot g.D.Disk × LogList). TakesRun z.0.tail z.1.chain.items ready.run c.in-Ok.prepared.0) (λ i. ((c.value.ensures ∙ sym c.value_mut-2.ensures.value) i, c.value_mut.ensures.value i)) c.in-Ok.ensures.takes in
    let k = c.leave_list.ensures in
    let out = c.leave_list.new.pass in
    let after = c.write.new.self in
    let wrote = c.in-None.ensures items c.in-Ok.prepared.0 takes in
    same_fixed g.D.Disk c.value_mut-2.result.now.tail after items items ready.run ready.by DiskFault (wrote.appended 0 0) ∙ ap (λ (v : LogWork g.row.D.Denot g.D.Disk). fixed_of g.D.Disk.mark (log_of v.tail [] 0)) (c.value_mut-2.ensures.value ∙ w.value)

pub leave_work-requires-in-None-clause-faults : goal.leave_work-requires-in-None-clause-faults
leave_work-requires-in-None-clause-faults g c =
    let w = c.enter_work-work.ensures in
    let l = c.enter_list-list.ensures in
    let p = c.args.pass.now in
    let m = c.enter_work-work.new.pass in
    let n = c.enter_list-list.new.pass in
    let tail = c.enter_work-work.result.value.tail in
    let items = c.enter_list-list.result.value.chain.items in
    let has = has_work g.D.Disk m c.enter_work-work.result w.from in
    let ready = c.in-Ok.prepared.1 in
    let made = c.in-Ok.ensures.made c.args.run c.number-by.result c.of-made.ensures in
    let takes = subst (λ (z : LogWork g.row.D.Denot g.D.Disk × LogList). TakesRun z.0.tail z.1.chain.items ready.run c.in-Ok.prepared.0) (λ i. ((c.value.ensures ∙ sym c.value_mut-2.ensures.value) i, c.value_mut.ensures.value i)) c.in-Ok.ensures.takes in
    let k = c.leave_list.ensures in
    let out = c.leave_list.new.pass in
    let after = c.write.new.self in
    let wrote = c.in-None.ensures items c.in-Ok.prepared.0 takes in
    let appended = wrote.appended 0 0 in
    subst (λ (v : LogWork g.row.D.Denot g.D.Disk). g.D.Disk.faults (disk_of v.tail.journal) ≤ g.D.Disk.faults (disk_of after.journal)) (c.value_mut-2.ensures.value ∙ w.value) appended.went.never_falls

pub returns-in-None : goal.returns-in-None
returns-in-None g c =
    let w = c.enter_work-work.ensures in
    let l = c.enter_list-list.ensures in
    let p = c.args.pass.now in
    let m = c.enter_work-work.new.pass in
    let n = c.enter_list-list.new.pass in
    let tail = c.enter_work-work.result.value.tail in
    let items = c.enter_list-list.result.value.chain.items in
    let has = has_work g.D.Disk m c.enter_work-work.result w.from in
    let sees = sees_both g.D.Disk p m n tail items w.same.0 w.quiet w.later w.own w.looks (w.from.2 ∙ ap (λ (v : LogWork g.row.D.Denot g.D.Disk). Some (fixed_of g.D.Disk.mark (log_of v.tail [] 0))) (sym w.value)) w.stands w.test l.same.0 l.quiet l.later l.own l.looks (l.with_work has) l.entries in
    let ready = c.in-Ok.prepared.1 in
    let made = c.in-Ok.ensures.made c.args.run c.number-by.result c.of-made.ensures in
    let takes = subst (λ (z : LogWork g.row.D.Denot g.D.Disk × LogList). TakesRun z.0.tail z.1.chain.items ready.run c.in-Ok.prepared.0) (λ i. ((c.value.ensures ∙ sym c.value_mut-2.ensures.value) i, c.value_mut.ensures.value i)) c.in-Ok.ensures.takes in
    let k = c.leave_list.ensures in
    let out = c.leave_list.new.pass in
    let after = c.write.new.self in
    let wrote = c.in-None.ensures items c.in-Ok.prepared.0 takes in
    let e = c.leave_work-in-None.ensures in
    let q = c.leave_work-in-None.new.pass in
    let still = sees_still g.D.Disk p n tail items sees out k.same.0 k.quiet k.seen k.looks in
    let appended = subst (λ (z : LogWork g.row.D.Denot g.D.Disk × List Patch × ℕ). AppendedRun g.D.Disk (log_of z.0.tail items 0) (log_of after items 0) z.1 z.2 DiskFault) (λ i. (c.value_mut-2.ensures.value i, made.0 i, (made.1 ∙ c.number-by.ensures) i)) (wrote.appended 0 0) in
    let counts = e.faults ∙ ap (λ (v : LogWork g.row.D.Denot g.D.Disk). own_count out.view.own_faults (g.D.Disk.faults (disk_of v.tail.journal)) (g.D.Disk.faults (disk_of after.journal))) (sym w.value) in
    let adds = subst (λ (v : LogWork g.row.D.Denot g.D.Disk). Adds v.tail.doubt after.doubt out.view.failed q.view.failed) (sym w.value) e.doubt in
    let told = told_changed g.D.Disk c.args.self.now p out tail items still c.requires.of c.args.run c.count.ensures.some out q after items 0 0 DiskFault refl appended wrote.stands sees.test (refl, refl, refl, refl) refl refl refl still.entered.own still.sees k.same.2 e.same e.looks e.seen counts e.never_falls adds in
    record { of = told.of; whole = told.whole; called = told.called; alone = told.alone; counted = told.counted }

pub returns-in-Some : goal.returns-in-Some
returns-in-Some g c =
    let w = c.enter_work-work.ensures in
    let l = c.enter_list-list.ensures in
    let p = c.args.pass.now in
    let m = c.enter_work-work.new.pass in
    let n = c.enter_list-list.new.pass in
    let tail = c.enter_work-work.result.value.tail in
    let items = c.enter_list-list.result.value.chain.items in
    let has = has_work g.D.Disk m c.enter_work-work.result w.from in
    let sees = sees_both g.D.Disk p m n tail items w.same.0 w.quiet w.later w.own w.looks (w.from.2 ∙ ap (λ (v : LogWork g.row.D.Denot g.D.Disk). Some (fixed_of g.D.Disk.mark (log_of v.tail [] 0))) (sym w.value)) w.stands w.test l.same.0 l.quiet l.later l.own l.looks (l.with_work has) l.entries in
    let ready = c.in-Ok.prepared.1 in
    let made = c.in-Ok.ensures.made c.args.run c.number-by.result c.of-made.ensures in
    let takes = subst (λ (z : LogWork g.row.D.Denot g.D.Disk × LogList). TakesRun z.0.tail z.1.chain.items ready.run c.in-Ok.prepared.0) (λ i. ((c.value.ensures ∙ sym c.value_mut-2.ensures.value) i, c.value_mut.ensures.value i)) c.in-Ok.ensures.takes in
    let k = c.leave_list.ensures in
    let out = c.leave_list.new.pass in
    let after = c.write.new.self in
    let wrote = c.in-Some.ensures items c.in-Ok.prepared.0 takes in
    let longer = items ++ entries_of ready.run ready.by in
    let again = c.enter_list-list-in-Some.ensures in
    let o = c.enter_list-list-in-Some.new.pass in
    let has_it = has_still n out k.same.1 (has_still m n l.same.1 has) in
    let seen = again.with_work has_it in
    let base = c.value_mut-in-Some.result.now.chain.items in
    let same : base ≡ items = ap (λ (v : LogList). v.chain.items) c.value_mut-in-Some.ensures.value ∙ same_entries c.enter_list-list-in-Some.result.value.chain.items items (again.entries ∙ (seen ∙ (k.seen ∙ sym l.entries))) in
    let entries = c.push_run.new.self.items in
    let all : longer ≡ entries = (λ i. sym same i ++ entries_of (sym wrote.0 i) (made.1 i)) ∙ sym c.push_run.ensures.items in
    let test = may_be_seen longer wrote.1.kept wrote.1.stands.whole in
    let e = c.leave_work.ensures in
    let q = c.leave_work.new.pass in
    let r = c.publish.new.pass in
    let told_all = c.publish.ensures in
    let still = sees_still g.D.Disk p n tail items sees out k.same.0 k.quiet k.seen k.looks in
    let both = sees_again g.D.Disk p out tail items still o again.same.0 again.quiet again.later again.own again.looks seen in
    let appended = subst (λ (z : LogWork g.row.D.Denot g.D.Disk × List Patch × ℕ). AppendedRun g.D.Disk (log_of z.0.tail items 0) (log_of after longer 0) z.1 z.2 (Accepted c.in-Ok.prepared.0)) (λ i. (c.value_mut-2.ensures.value i, made.0 i, (made.1 ∙ c.number-by.ensures) i)) (wrote.1.appended 0 0) in
    let counts = e.faults ∙ ap (λ (v : LogWork g.row.D.Denot g.D.Disk). own_count r.view.own_faults (g.D.Disk.faults (disk_of v.tail.journal)) (g.D.Disk.faults (disk_of after.journal))) (sym w.value) in
    let adds = subst (λ (v : LogWork g.row.D.Denot g.D.Disk). Adds v.tail.doubt after.doubt r.view.failed q.view.failed) (sym w.value) e.doubt in
    let told = told_changed g.D.Disk c.args.self.now p o tail items both c.requires.of c.args.run c.count.ensures.some r q after longer 0 0 (Accepted c.in-Ok.prepared.0) refl appended wrote.1.stands test told_all.same.0 told_all.looks told_all.faults told_all.failed told_all.own (told_all.entries ∙ ap history_of (sym all)) told_all.same.1 e.same e.looks e.seen counts e.never_falls adds in
    record { of = told.of; whole = told.whole; called = told.called; alone = told.alone; counted = told.counted }
