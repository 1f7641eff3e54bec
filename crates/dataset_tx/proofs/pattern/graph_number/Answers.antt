use Rattle.std.proofs.Common.{rules, ◌≡◌, ℕ, Option, None, Some, sym, subst}
use Rattle.term_table.specs.Table.{term_numbered, number_in}
use Rattle.dataset_tx.specs.Pattern.{fits_graph, fits_number}
use Rattle.dataset_tx.proofs.Finding.{graph_found}
use Rattle.dataset_tx.proofs.pattern.graph_number.Goals as goal

pub returns-in_err-find-in-Named : goal.returns-in_err-find-in-Named
returns-in_err-find-in-Named c n h =
    let none : None ≡ number_in c.args.terms.now c.in-Named.wanted = search rules in
    let given : c.from_residual.result ≡ None = search rules in
    subst (λ (r : Option (Option ℕ)). fits_graph c.args.graph.now (term_numbered c.args.terms.now n) ≡ fits_number r n) (sym given) (graph_found _ c.in-Named.wanted _ None c.requires c.in-Named.is none n h)

pub returns-in_ok-find-in-Named : goal.returns-in_ok-find-in-Named
returns-in_ok-find-in-Named c n h =
    let found : Some c.in_ok-find-in-Named.field-0 ≡ number_in c.args.terms.now c.in-Named.wanted = search rules in
    graph_found _ c.in-Named.wanted _ (Some c.in_ok-find-in-Named.field-0) c.requires c.in-Named.is found n h
