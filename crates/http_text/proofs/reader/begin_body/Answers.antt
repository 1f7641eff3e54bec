use Rattle.std.proofs.Common.{refl, inl, inr, arith}
use Rattle.http_text.proofs.ReaderLemmas.{empty_message, chunked_begins, sized_begins}
use Rattle.http_text.proofs.reader.begin_body.Goals as goal

pub returns-then-size-eq0 : goal.returns-then-size-eq0
returns-then-size-eq0 c = λ kind text whole.
    inr (
      c.args.message,
      c.in_ok-push_back-in-Sized.ensures.items,
      empty_message kind text c.args.message c.args.framing c.in-Sized.size whole c.in-Sized.is c.if-size-eq0.true,
      c.at_start.ensures.held kind,
    )

pub returns-in_ok-with_capacity-in-Sized : goal.returns-in_ok-with_capacity-in-Sized
returns-in_ok-with_capacity-in-Sized c = λ kind text whole.
    inl (
      refl,
      sized_begins kind text c.args.message c.args.framing c.in-Sized.size c.in_ok-with_capacity-in-Sized.field-0 whole c.in-Sized.is (omega arith) c.in_ok-with_capacity-in-Sized.ensures.items,
    )

pub returns-in-Chunked : goal.returns-in-Chunked
returns-in-Chunked c = λ kind text whole. inl (refl, chunked_begins kind text c.args.message c.args.framing c.new.result whole c.in-Chunked.is c.new.ensures.items)
