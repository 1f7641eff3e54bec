use Rattle.std.proofs.Common.{◌≡◌, ◌<◌, length, arith}
use Rattle.std.proofs.lemmas.Bool.Decides.{nat_tests}
use Rattle.http_text.proofs.RunLemmas.{ends_inside, head_kept, head_passed, body_not_empty, ends_between}
use Rattle.http_text.proofs.reader.MessageReader.finish.Goals as goal

pub returns-in_default-clause-inside : goal.returns-in_default-clause-inside
returns-in_default-clause-inside c = λ bytes taken stands.
    ends_inside c.args.self.now.kind bytes stands.0 _ _ _ stands.1 c.requires stands.2 (λ held. body_not_empty c.args.self.now.kind stands.0 _ _ held c.in_default.not-Head)

pub returns-then-room-ne-MOST_HEAD-clause-inside : goal.returns-then-room-ne-MOST_HEAD-clause-inside
returns-then-room-ne-MOST_HEAD-clause-inside c = λ bytes taken stands.
    ends_inside c.args.self.now.kind bytes stands.0 _ _ _ stands.1 c.requires stands.2 (head_passed c.args.self.now.kind _ stands.0 _ c.in-Head.room _ c.in-Head.is c.if-room-ne-MOST_HEAD.true)

pub returns-else-is_empty-clause-inside : goal.returns-else-is_empty-clause-inside
returns-else-is_empty-clause-inside c = λ bytes taken stands.
    let some : 0 < length c.args.self.now.pending.items = grind (arith, nat_tests, c.is_empty.ensures, c.if-is_empty.false) in
    ends_inside c.args.self.now.kind bytes stands.0 _ _ _ stands.1 c.requires stands.2 (head_kept c.args.self.now.kind _ stands.0 _ c.in-Head.room _ c.in-Head.is some)

pub returns-then-is_empty-clause-between : goal.returns-then-is_empty-clause-between
returns-then-is_empty-clause-between c = λ bytes taken stands.
    let none : length c.args.self.now.pending.items ≡ 0 = grind (arith, nat_tests, c.is_empty.ensures, c.if-is_empty.true) in
    let whole : c.in-Head.room ≡ 16384 = omega arith in
    ends_between c.args.self.now.kind _ stands.0 _ c.in-Head.room _ c.in-Head.is bytes _ stands.1 stands.2 whole none
