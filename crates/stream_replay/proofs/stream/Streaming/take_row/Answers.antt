use Rattle.std.proofs.Common.{sym}
use Rattle.std.proofs.lemmas.Result.{on_ok_weaker}
use Rattle.patch_meaning.proofs.Cuts.{if_err}
use Rattle.stream_replay.proofs.stream.Streaming.take_row.Goals as goal

pub returns-clause-ok : goal.returns-clause-ok
returns-clause-ok c = on_ok_weaker c.take-taken.result
    (λ ok end passed stand h. ok end c.args.row.end (record { passed = passed; before = h; row_ = c.args.row.row; stands = stand; says_is = sym c.role_of-says.ensures }))
    c.take-taken.ensures.ok

pub returns-clause-fault : goal.returns-clause-fault
returns-clause-fault c = if_err c.take-taken.result _ _ c.take-taken.ensures.fault
    (λ told fault end passed stand h. fault end c.args.row.end (record { passed = passed; before = h; row_ = c.args.row.row; stands = stand; says_is = sym c.role_of-says.ensures }))
