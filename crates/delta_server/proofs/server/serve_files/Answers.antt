use Rattle.std.proofs.Common.{inl, inr, List, map, take, refl, sym, ap, subst, ◌∙◌, true≢false, arith}
use Rattle.slot_checks.proofs.Steps.{all_kept}
use Rattle.command_tables.specs.declared.refusal.Refusal.TheVariants as refusals
use Rattle.delta_server.specs.Ends.{at_files, at_shelf}
use Rattle.gate_crews.specs.Gates.{HaveFailed}
use Rattle.delta_server.proofs.Shelving.{on_ok}
use Rattle.delta_server.proofs.server.serve_files.Goals as goal

pub returns-in_default-clause-failed : goal.returns-in_default-clause-failed
returns-in_default-clause-failed g c =
    inr (at_files refusals.OutOfMemory (at_shelf refusals.OutOfMemory 0 (inr refl) (λ told. inl (omega arith)) (λ told. all_kept c.args.serve.now.dir 0 (g.H.Shelf.files c.args.shelf.now))), refl)

pub returns-then-have_failed-clause-failed : goal.returns-then-have_failed-clause-failed
returns-then-have_failed-clause-failed g c =
    let workers = c.args.serve.now.workers in
    let gates : List g.row.G.Denot = c.args.gates.items in
    let counted = c.deref-in-Ok-answer.ensures.value ∙ c.in-Ok.ensures ∙ ap (λ (l : List g.row.G.Denot). map (λ gate. g.G.Gate.faults gate) (take workers l)) c.deref.ensures.value in
    let told = c.have_failed.ensures (take workers gates) counted in
    inl (
      refl,
      on_ok _ c.serve_hall-gates.result.1 c.in-Ok-answer.field-0 c.in-Ok-answer.is c.serve_hall-gates.ensures.served,
      subst (λ (l : List g.row.G.Denot). HaveFailed (λ gate. g.G.Gate.faults gate) (take workers gates) (take workers l)) c.deref-in-Ok-answer-2.ensures.value (told.0 c.if-have_failed.true),
    )

pub returns-in-Ok-answer-clause-well : goal.returns-in-Ok-answer-clause-well
returns-in-Ok-answer-clause-well g c failed =
    let workers = c.args.serve.now.workers in
    let gates : List g.row.G.Denot = c.args.gates.items in
    let counted = c.deref-in-Ok-answer.ensures.value ∙ c.in-Ok.ensures ∙ ap (λ (l : List g.row.G.Denot). map (λ gate. g.G.Gate.faults gate) (take workers l)) c.deref.ensures.value in
    let told = c.have_failed.ensures (take workers gates) counted in
    true≢false (sym (told.1
    (subst (λ (l : List g.row.G.Denot). HaveFailed (λ gate. g.G.Gate.faults gate) (take workers gates) (take workers l)) (sym c.deref-in-Ok-answer-2.ensures.value) failed))
    ∙ c.if-have_failed.false)
