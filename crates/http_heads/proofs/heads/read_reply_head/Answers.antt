use Rattle.std.proofs.Common.{◌∙◌, ap, length, Err}
use Rattle.http_heads.proofs.HeadLemmas.{no_reply_head, may_be_reply}
use Rattle.http_heads.proofs.RoomLemmas.{reply_fits_room}
use Rattle.http_heads.proofs.WholeHeads.{many_reply}
use Rattle.http_heads.proofs.heads.read_reply_head.Goals as goal

pub returns-then-head-gt-MOST_FIELDS : goal.returns-then-head-gt-MOST_FIELDS
returns-then-head-gt-MOST_FIELDS c =
    many_reply _ _ c.in-Ok-Complete.head (rw c.in-Ok-Complete.field-0-is at c.in-Ok-Complete.ensures.within) (rw c.in-Ok-Complete.field-0-is at c.in-Ok-Complete.ensures.complete)
    c.if-head-gt-MOST_FIELDS.true

pub returns-in-Ok-Partial : goal.returns-in-Ok-Partial
returns-in-Ok-Partial c =
    let none = rw c.in-Ok-Partial.field-0-is at c.in-Ok-Partial.ensures.partial in
    let may = rw c.in-Ok-Partial.field-0-is at c.in-Ok-Partial.ensures.unfinished in
    (no_reply_head _ none, may_be_reply _ may)

pub unreachable-requires : goal.unreachable-requires
unreachable-requires c =
    let many = c.parse_response.ensures.too_many (c.in-Err-TooManyHeaders.is ∙ ap Err c.in-Err-TooManyHeaders.field-0-is) in
    reply_fits_room _ many.0 many.1 (length c.args.headers.now) c.requires.short c.requires.room many.2 many.3 many.4 many.5
