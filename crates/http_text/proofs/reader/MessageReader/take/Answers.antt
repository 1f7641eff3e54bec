use Rattle.std.proofs.Common.{◌≡◌, ◌∷◌, rules}
use Rattle.std.specs.Prelude.{IfNone, IfSome}
use Rattle.http_text.proofs.RunLemmas.{still_reader}
use Rattle.http_text.proofs.reader.MessageReader.take.Goals as goal

pub returns-then-is_some-clause-reader : goal.returns-then-is_some-clause-reader
returns-then-is_some-clause-reader c =
    let stands = c.requires.2 in
    let none : IfNone c.pop_front-next.result (c.pop_front-next.new.self.items ≡ c.args.self.now.queue.items) = search rules in
    let some : IfSome c.pop_front-next.result (λ message. c.args.self.now.queue.items ≡ message ∷ c.pop_front-next.new.self.items) = search rules in
    let more = still_reader c.args.self.now.kind c.requires.0 stands.0 c.args.self.now.pending.items c.requires.1 _ _ c.args.self.now.stage c.pop_front-next.result stands.1 stands.2 none some in
    (c.requires.0, more.0, (stands.0, more.1, stands.2))
