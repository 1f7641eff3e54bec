use Rattle.std.proofs.Common.{sym, ◌∙◌}
use Rattle.std.proofs.lemmas.Bool.{and_parts}
use Rattle.nquads_text.specs.Reading.{is_at_home}
use Rattle.nquads_text.proofs.PlainRuns.{run_eight}
use Rattle.nquads_text.proofs.plain_runs.are_at_home.Goals as goal

pub returns : goal.returns
returns c = λ yes.
    let h = and_parts _ _ yes in let g = and_parts _ _ h.0 in let f = and_parts _ _ g.0 in let e = and_parts _ _ f.0 in
    let d = and_parts _ _ e.0 in let b = and_parts _ _ d.0 in let a = and_parts _ _ b.0 in
    run_eight (is_at_home c.args.table.now) c.args.text.now c.args.at c.requires (sym c.is_at_home.ensures ∙ a.0) (sym c.is_at_home-2.ensures ∙ a.1) (sym c.is_at_home-3.ensures ∙ b.1) (sym c.is_at_home-4.ensures ∙ d.1)
    (sym c.is_at_home-5.ensures ∙ e.1) (sym c.is_at_home-6.ensures ∙ f.1) (sym c.is_at_home-7.ensures ∙ g.1) (sym c.is_at_home-8.ensures ∙ h.1)
