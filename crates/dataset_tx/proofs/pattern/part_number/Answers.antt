use Rattle.std.proofs.Common.{rules, ◌≡◌, ℕ, Option, None, Some, sym, subst}
use Rattle.term_table.specs.Table.{number_in}
use Rattle.quad_keys.specs.Keys.{term_of_number}
use Rattle.dataset_tx.specs.Pattern.{fits, fits_number}
use Rattle.dataset_tx.proofs.Finding.{part_found}
use Rattle.dataset_tx.proofs.pattern.part_number.Goals as goal

pub returns-in_err-find-in-Some : goal.returns-in_err-find-in-Some
returns-in_err-find-in-Some c n h =
    let none : None ≡ number_in c.args.terms.now c.in-Some.wanted = search rules in
    let given : c.from_residual.result ≡ None = search rules in
    subst (λ (r : Option (Option ℕ)). fits c.args.part.now (term_of_number c.args.terms.now n) ≡ fits_number r n) (sym given) (part_found _ c.in-Some.wanted _ None c.requires c.in-Some.is none n h)

pub returns-in_ok-find-in-Some : goal.returns-in_ok-find-in-Some
returns-in_ok-find-in-Some c n h =
    let found : Some c.in_ok-find-in-Some.field-0 ≡ number_in c.args.terms.now c.in-Some.wanted = search rules in
    part_found _ c.in-Some.wanted _ (Some c.in_ok-find-in-Some.field-0) c.requires c.in-Some.is found n h
