use Rattle.std.proofs.Common.{◌≡◌, [], ap, sym, Some, subst, ◌∙◌, arith}
use Rattle.turn_cell.specs.Turns.{AllOf}
use Rattle.patch_log.specs.State.{LogView}
use Rattle.patch_log.specs.Tail.{StandsForChain, log_of}
use Rattle.shared_log.specs.declared.value.LogList.{LogList}
use Rattle.shared_log.specs.declared.value.LogWork.{LogWork}
use Rattle.shared_log.specs.History.{history_of, fixed_of}
use Rattle.shared_log.proofs.Histories.{by_nobody, history_length, whole_known}
use Rattle.shared_log.proofs.Turns.{known_entries, same_log}
use Rattle.shared_log.proofs.shared.SharedLog.new.Goals as goal

pub new-requires-clause-entries : goal.new-requires-clause-entries
new-requires-clause-entries g c =
    subst (λ (log : LogView g.row.D.Denot). AllOf (λ e. e.by ≡ 0) (history_of log.entries)) c.split-tail.ensures.log (by_nobody c.args.state.entries c.requires.by_nobody)

pub new-requires-clause-test : goal.new-requires-clause-test
new-requires-clause-test g c =
    let items = c.split-tail.result.1.items in
    (omega (arith, history_length items, c.version-version.ensures.few), whole_known items c.split-tail.ensures.stands.whole)

pub new-requires-clause-stands : goal.new-requires-clause-stands
new-requires-clause-stands g c = let parts = c.split-tail.result in subst (StandsForChain parts.0) (sym (known_entries parts.1.items)) c.split-tail.ensures.stands

pub returns-in-Ok : goal.returns-in-Ok
returns-in-Ok g c =
    let e = c.in-Ok.ensures in
    record {
      log = (same_log g.D.Disk e.twin.0 e.twin.1 ∙ sym c.split-tail.ensures.log, e.twin.2);
      passes = e.passes;
      new = λ k p is.
          let n = e.new k p is in
          let seen = n.2 ∙ ap (λ (l : LogList). history_of l.chain.items) (sym e.twin.1) in
          let fixed = n.7 ∙ ap (λ (w : LogWork g.row.D.Denot g.D.Disk). Some (fixed_of g.D.Disk.mark (log_of w.tail [] 0))) (sym e.twin.0) in
          ((n.0, n.8, fixed), n.1, seen, n.3, n.4, n.5, n.6, n.9);
      back = tt;
    }

pub whole-requires : goal.whole-requires
whole-requires g c =
    let e = c.in-Err.ensures.back in
    subst (λ (z : LogWork g.row.D.Denot g.D.Disk × LogList). StandsForChain z.0.tail z.1.chain.items) (λ i. (sym e.0 i, sym e.1 i)) c.split-tail.ensures.stands

pub returns-in-Err : goal.returns-in-Err
returns-in-Err g c =
    let e = c.in-Err.ensures.back in
    record {
      log = tt;
      passes = tt;
      new = tt;
      back = c.whole.ensures ∙ (same_log g.D.Disk e.0 e.1 ∙ sym c.split-tail.ensures.log);
    }
