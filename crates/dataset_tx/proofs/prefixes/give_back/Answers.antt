use Rattle.std.proofs.Common.{rules, ◌≡◌, Some, None, sym, ap, subst, ◌∙◌}
use Rattle.dataset_tx.specs.Prefixes.{at_bytes, AreRows, settings}
use Rattle.dataset_tx.proofs.Settling.{back_settings, stands_removed}
use Rattle.dataset_tx.proofs.prefixes.give_back.Goals as goal

pub returns-in-Some-None-clause-contents : goal.returns-in-Some-None-clause-contents
returns-in-Some-None-clause-contents c =
    let nothing : at_bytes c.args.row.now c.args.rows.now.entries ≡ Some None = search rules in
    ap settings c.remove.ensures.entries ∙ back_settings c.args.row.now c.args.rows.now.entries nothing

pub returns-in-Some-None-clause-stand : goal.returns-in-Some-None-clause-stand
returns-in-Some-None-clause-stand c st = subst AreRows (sym c.remove.ensures.entries) (stands_removed _ _ st)
