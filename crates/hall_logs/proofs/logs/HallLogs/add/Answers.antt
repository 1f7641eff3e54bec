use Rattle.std.proofs.Common.{◌≡◌, ◌++◌, ◌∷◌, [], List, sym, subst, ap, ◌∙◌, arith}
use Rattle.patch_log.specs.State.{LogView}
use Rattle.turn_cell.specs.Turns.{AllOf}
use Rattle.turn_cell.specs.Sights.{Made}
use Rattle.turn_cell.proofs.Views.{all_append}
use Rattle.hall_logs.specs.Slots.{LogsOfHall}
use Rattle.hall_logs.proofs.logs.HallLogs.add.Goals as goal

pub invariant_of-self : goal.invariant_of-self
invariant_of-self g c =
    let logs : List (Made (LogView g.row.D.Denot)) = c.self.inside.logs.items in
    let log : Made (LogView g.row.D.Denot) = c.in-Ok.log in
    let P = λ (log : Made (LogView g.row.D.Denot)). log.seats ≡ c.self.inside.seats in
    let i = c.self.invariant in
    let p = c.push_reserved.ensures in (
      subst (AllOf P) (sym p.items) (all_append P logs (log ∷ []) i.0 (c.in-Ok.ensures.log.1, tt)),
      omega (arith, i.1, p.capacity),
      i.2,
      i.3,
    )

pub returns-in-Ok-clause-ok : goal.returns-in-Ok-clause-ok
returns-in-Ok-clause-ok g c =
    let log : Made (LogView g.row.D.Denot) = c.in-Ok.log in
    let view = c.self.view_is in
    record {
      log = log;
      parts = c.in-Ok.parts.items;
      logs_are = c.push_reserved.ensures.items ∙ ap (λ (h : LogsOfHall g.row.D.Denot). h.logs ++ log ∷ []) view;
      origin_is = c.in-Ok.ensures.log.0;
      seats_are = ap (λ (h : LogsOfHall g.row.D.Denot). h.seats) view;
      dealt = c.deal.ensures.dealt;
      count = omega (arith, c.in-Ok.parts.ok.0, c.args.passes.now.ok.0, c.requires.count, c.in-Ok.ensures.passes.0, ap (λ (h : LogsOfHall g.row.D.Denot). h.seats) view);
      new_parts = c.in-Ok.ensures.new;
    }
