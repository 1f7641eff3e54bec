use Rattle.std.proofs.Common.{◌≡◌, sym, subst, ap, ◌∙◌}
use Rattle.patch_log.specs.State.{LogView}
use Rattle.patch_log.specs.Tail.{StandsForChain, log_of}
use Rattle.turn_cell.specs.Sights.{Made, IsOutside, AreAllPasses}
use Rattle.turn_cell.specs.Sharing.{IsPassOf, IsClosedOf}
use Rattle.turn_cell.proofs.Views.{all_map}
use Rattle.shared_log.specs.History.{LogSight, shared_log}
use Rattle.shared_log.proofs.Turns.{known_entries, stands_in_turn}
use Rattle.shared_log.proofs.shared.SharedLog.close.Goals as goal

pub close-work-requires : goal.close-work-requires
close-work-requires g c = let log = c.args.self in let passes = c.args.passes.items in
    subst (λ (made : Made (LogView g.row.D.Denot)). AreAllPasses made.cell made.seats passes) (sym c.self.view_is)
    (all_map (IsPassOf (shared_log g.D.Disk) log) (λ (p : LogSight). (p.cell ≡ log.cell) × IsOutside p) (λ p of. (of.0, of.1)) passes c.requires.0, c.requires.1)

pub whole-requires : goal.whole-requires
whole-requires g c = subst (StandsForChain c.close-work.result.0.tail) (known_entries c.close-work.result.1.chain.items) c.close-work.ensures.stands

pub returns : goal.returns
returns g c =
    let e = c.close-work.ensures in
    let passes = c.args.passes.items in
    let t = c.self.inside.twin in
    let tail = c.close-work.result.0.tail in
    let chain = c.close-work.result.1.chain in
    let kept = subst (StandsForChain tail) (known_entries chain.items) e.stands in
    let log : LogView g.row.D.Denot = log_of tail chain.items chain.spare in
    let made : Made (LogView g.row.D.Denot) = record { cell = t.cell; origin = log_of t.work.tail t.list.chain.items t.list.chain.spare; seats = t.seats } in
    let here : IsClosedOf (shared_log g.D.Disk) made passes log = record {
      stands = stands_in_turn g.D.Disk tail chain.items chain.spare kept e.test;
      history = e.history;
      seen = e.passes;
      faults = e.faults;
      doubt = e.doubt;
      fixed = e.fixed;
      untouched = λ none. let same = e.untouched none in λ i. log_of (same.0 i).tail (same.1 i).chain.items (same.1 i).chain.spare;
    } in
    record { closed = subst (λ (z : Made (LogView g.row.D.Denot) × LogView g.row.D.Denot). IsClosedOf (shared_log g.D.Disk) z.0 passes z.1) (λ i. (c.self.view_is i, sym c.whole.ensures i)) here }
