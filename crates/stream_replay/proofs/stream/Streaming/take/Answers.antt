use Rattle.stream_replay.proofs.stream.Streaming.take.Goals as goal

pub returns-in-Err-clause-fault : goal.returns-in-Err-clause-fault
returns-in-Err-clause-fault c = λ end stop a. c.tell.ensures end (c.in-Err.ensures.fault end c.args.self.now.window.fed stop a)
