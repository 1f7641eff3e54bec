use Rattle.generated_replay.proofs.Chained.{chained, counted, last_is}
use Rattle.generated_replay.proofs.Counted.{quads_left}
use Rattle.generated_replay.proofs.Cutting.{stream_is}
use Rattle.generated_replay.proofs.Rows.{stream_short}
use Rattle.generated_replay.proofs.laws.generated_streams_are_chains.Goals as goal

pub returns-clause-stream : goal.returns-clause-stream
returns-clause-stream c = stream_is

pub returns-clause-short : goal.returns-clause-short
returns-clause-short c = stream_short

pub returns-clause-chain : goal.returns-clause-chain
returns-clause-chain c = λ n small. chained n

pub returns-clause-patches : goal.returns-clause-patches
returns-clause-patches c = counted

pub returns-clause-quads : goal.returns-clause-quads
returns-clause-quads c = quads_left

pub returns-clause-head : goal.returns-clause-head
returns-clause-head c = last_is
