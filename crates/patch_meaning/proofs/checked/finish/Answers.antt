use Rattle.std.proofs.lemmas.Result.{err_from_is_err_and}
use Rattle.patch_meaning.proofs.Read.{lacks_end}
use Rattle.patch_meaning.proofs.checked.finish.Goals as goal

pub returns-in_err-link-clause-fault : goal.returns-in_err-link-clause-fault
returns-in_err-link-clause-fault c =
    let p = err_from_is_err_and c.from_residual.result c.from_residual.ensures.1 in
    rw (p.1, p.2) (lacks_end c.args.text.now c.args.read.draft c.in_err-link.field-0.0 c.requires.short (c.requires.read.0, c.requires.read.1, c.requires.read.2.0) c.in_err-link.ensures.fault)
