use Rattle.std.proofs.Common.{List, ℕ, sym, subst}
use Rattle.mirror.specs.declared.ends.PullRefusal.{PullRefusal}
use Rattle.mirror.specs.Pulling.{IsTextRefusal}
use Rattle.mirror.proofs.Ended.{refuses_text}
use Rattle.mirror.proofs.mirroring.read_text.Goals as goal

pub returns-in-Err-read_patch-clause-err : goal.returns-in-Err-read_patch-clause-err
returns-in-Err-read_patch-clause-err c =
    let why = refuses_text c.in-Ok.text c.args.version c.in-Err-read_patch.fault c.in-Err-read_patch.ensures.fault in
    subst (λ (z : List ℕ × PullRefusal). IsTextRefusal z.0 c.args.version z.1) (λ i. (c.in-Ok.ensures i, sym c.no_patch.ensures i)) why
