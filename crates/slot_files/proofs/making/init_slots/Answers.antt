use Rattle.std.proofs.Common.{Err, sym, ◌∙◌, ap}
use Rattle.std.proofs.lemmas.Result.{err_from_is_err_and}
use Rattle.slot_files.specs.declared.fault.InitFault.{InitFault}
use Rattle.slot_files.proofs.making.init_slots.Goals as goal

pub returns-in_err-format_logs-clause-not_empty : goal.returns-in_err-format_logs-clause-not_empty
returns-in_err-format_logs-clause-not_empty g c told number size is =
    let p = err_from_is_err_and c.from_residual-in_err-format_logs.result c.from_residual-in_err-format_logs.ensures.1 in
    c.in_err-format_logs.ensures.not_empty told number size (ap (λ (e : InitFault). Err e) (sym p.2) ∙ sym p.1 ∙ is)
