use Rattle.catch_up.specs.Runs.{said_in}
use Rattle.mirror.specs.Following.{IsReadFrom}
use Rattle.mirror.proofs.Bringing.{pull_brings, reads_from}
use Rattle.mirror.proofs.laws.pulls_bring_what_they_read.Goals as goal

pub returns : goal.returns
returns g c = λ origin p q run end own pulled.
    pull_brings (IsReadFrom (said_in run)) g.D.Disk origin p q run end (λ text is patch read. reads_from (said_in run) text is patch read) own pulled
