use Rattle.std.proofs.Common.{arith}
use Rattle.stream_generator.proofs.Parts.{rest_made}
use Rattle.stream_generator.proofs.source.Cursor.make.Goals as goal

-- src/source.rt:27:5
pub returns-clause-rest : goal.returns-clause-rest
returns-clause-rest c = rest_made c.args.self.now.patch.items c.in_ok-self.field-0.items c.args.self.now.at c.args.self.now.next c.args.self.now.more (omega (arith, c.if-self-len.false, c.len.ensures, c.args.self.now.patch.ok)) (omega (arith, c.if-self-eq0.false)) c.in_ok-self.ensures.text
