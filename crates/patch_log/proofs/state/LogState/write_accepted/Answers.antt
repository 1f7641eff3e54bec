use Rattle.std.proofs.Common.{◌≡◌, ℕ, length, ap, arith}
use Rattle.patch_log.specs.Ready.{ReadyView}
use Rattle.patch_log.proofs.Tails.{taken}
use Rattle.patch_log.proofs.state.LogState.write_accepted.Goals as goal

abbrev by_in : ReadyView → ℕ
by_in ready = ready.by

pub write-requires : goal.write-requires
write-requires g c =
    let log = c.self.inside in
    (log.chain.items, c.args.version, taken log.tail log.chain.items c.args.ready.run c.args.version c.self.invariant (rw (← c.self.view_is) at c.requires.accept))

pub push_run-requires-clause-ready : goal.push_run-requires-clause-ready
push_run-requires-clause-ready g c =
    let log = c.self.inside in
    let wrote = c.in-Some.ensures log.chain.items c.args.version (taken log.tail log.chain.items c.args.ready.run c.args.version c.self.invariant (rw (← c.self.view_is) at c.requires.accept)) in
    rw wrote.0 (rw (← c.self.view_is) at c.requires.room)

pub push_run-requires-clause-kept : goal.push_run-requires-clause-kept
push_run-requires-clause-kept g c =
    let log = c.self.inside in
    let wrote = c.in-Some.ensures log.chain.items c.args.version (taken log.tail log.chain.items c.args.ready.run c.args.version c.self.invariant (rw (← c.self.view_is) at c.requires.accept)) in
    let by_is : c.ready.inside.by ≡ c.args.ready.by = ap by_in c.ready.view_is in
    rw (wrote.0, by_is) wrote.1.kept

pub invariant_of-self : goal.invariant_of-self
invariant_of-self g c =
    let log = c.self.inside in
    let wrote = c.in-Some.ensures log.chain.items c.args.version (taken log.tail log.chain.items c.args.ready.run c.args.version c.self.invariant (rw (← c.self.view_is) at c.requires.accept)) in
    let by_is : c.ready.inside.by ≡ c.args.ready.by = ap by_in c.ready.view_is in
    rw (c.push_run.ensures.items, wrote.0, by_is) wrote.1.stands

pub invariant_of-self-in-None : goal.invariant_of-self-in-None
invariant_of-self-in-None g c =
    let log = c.self.inside in
    let wrote = c.in-None.ensures log.chain.items c.args.version (taken log.tail log.chain.items c.args.ready.run c.args.version c.self.invariant (rw (← c.self.view_is) at c.requires.accept)) in
    wrote.stands

pub returns-in-Some-clause-appended : goal.returns-in-Some-clause-appended
returns-in-Some-clause-appended g c =
    let log = c.self.inside in
    let wrote = c.in-Some.ensures log.chain.items c.args.version (taken log.tail log.chain.items c.args.ready.run c.args.version c.self.invariant (rw (← c.self.view_is) at c.requires.accept)) in
    let by_is : c.ready.inside.by ≡ c.args.ready.by = ap by_in c.ready.view_is in
    rw (← c.self.view_is, c.push_run.ensures.items, wrote.0, by_is) (wrote.1.appended log.chain.spare c.push_run.new.self.spare)

pub returns-in-Some-clause-spare : goal.returns-in-Some-clause-spare
returns-in-Some-clause-spare g c =
    let log = c.self.inside in
    let wrote = c.in-Some.ensures log.chain.items c.args.version (taken log.tail log.chain.items c.args.ready.run c.args.version c.self.invariant (rw (← c.self.view_is) at c.requires.accept)) in
    rw (← c.self.view_is) (omega (arith, c.push_run.ensures.spare, ap length wrote.0))

pub returns-in-None-clause-appended : goal.returns-in-None-clause-appended
returns-in-None-clause-appended g c =
    let log = c.self.inside in
    let wrote = c.in-None.ensures log.chain.items c.args.version (taken log.tail log.chain.items c.args.ready.run c.args.version c.self.invariant (rw (← c.self.view_is) at c.requires.accept)) in
    rw (← c.self.view_is) (wrote.appended log.chain.spare log.chain.spare)
