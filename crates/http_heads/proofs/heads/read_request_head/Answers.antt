use Rattle.std.proofs.Common.{◌∙◌, ap, length, Err, rules}
use Rattle.httparse.specs.Grammar.{NeverHasRequest}
use Rattle.http_heads.specs.Heads.{EndsInTarget}
use Rattle.http_heads.specs.declared.message.Kind.TheVariants.{Requests}
use Rattle.http_heads.proofs.HeadLemmas.{no_request_head, may_be_request, never_has_none}
use Rattle.http_heads.proofs.RoomLemmas.{request_fits_room}
use Rattle.http_heads.proofs.WholeHeads.{many_request}
use Rattle.http_heads.proofs.heads.read_request_head.Goals as goal

pub returns-then-head-gt-MOST_FIELDS : goal.returns-then-head-gt-MOST_FIELDS
returns-then-head-gt-MOST_FIELDS c =
    many_request _ _ c.in-Ok-Complete.head (rw c.in-Ok-Complete.field-0-is at c.in-Ok-Complete.ensures.within) (rw c.in-Ok-Complete.field-0-is at c.in-Ok-Complete.ensures.complete)
    c.if-head-gt-MOST_FIELDS.true

pub returns-in-Ok-Partial : goal.returns-in-Ok-Partial
returns-in-Ok-Partial c =
    let none = rw c.in-Ok-Partial.field-0-is at c.in-Ok-Partial.ensures.partial in
    let may = rw c.in-Ok-Partial.field-0-is at c.in-Ok-Partial.ensures.unfinished in
    (no_request_head _ none, may_be_request _ may)

pub returns-then-ends_in_target : goal.returns-then-ends_in_target
returns-then-ends_in_target c =
    let never : NeverHasRequest c.args.text.now = search rules in
    let ends : EndsInTarget Requests c.args.text.now = c.ends_in_target.ensures.0 c.if-ends_in_target.true in
    (no_request_head _ (never_has_none _ never), λ bad. bad.0 ends)

pub unreachable-requires : goal.unreachable-requires
unreachable-requires c =
    let many = c.parse_request.ensures.too_many (c.in-Err-TooManyHeaders.is ∙ ap Err c.in-Err-TooManyHeaders.field-0-is) in
    request_fits_room _ many.0 many.1 (length c.args.headers.now) c.requires.short c.requires.room many.2 many.3 many.4 many.5
