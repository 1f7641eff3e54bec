use Rattle.std.proofs.Common.{◌≡◌, ◌++◌, ◌∷◌, [], Err, Result, refl, sym, ◌∙◌, subst, arith}
use Rattle.std.proofs.KnownBytes.{Consumes-kept}
use Rattle.http_text.specs.Readers.{Decides, waiting}
use Rattle.http_text.specs.Taken.{reply_messages}
use Rattle.http_heads.specs.declared.framing.FrameFault.{FrameFault}
use Rattle.http_heads.specs.declared.message.Kind.TheVariants.{Replies}
use Rattle.delta_client.specs.declared.fault.AskFault.{AskFault}
use Rattle.delta_client.specs.Asking.{NextReplyIs}
use Rattle.delta_client.proofs.Nexts.{begin_with, read_none, read_more, is_cut, is_faulty, consumed_none}
use Rattle.delta_client.proofs.reply.next_reply.Goals as goal

pub loop-round-init : goal.loop-round-init
loop-round-init g c =
    let e = c.feed-fed.ensures in
    record {
      so_far = λ given taken gave. read_none (g.L.Link.left c.args.link.now) given taken c.feed-fed.new.self c.feed-fed.result (e.stands given taken gave) (e.decides given taken gave);
      sent = refl;
      faults = omega arith;
    }

pub loop-round-preserved : goal.loop-round-preserved
loop-round-preserved g c =
    let so = c.loop-round.invariant in
    let e = c.feed-fed-in-loop-round.ensures in
    let read = c.in-Ok-read.ensures in
    record {
      so_far = λ given taken gave.
          let has = so.so_far given taken gave in
          let kept = c.in-None.ensures.rest (given ++ has.read) taken has.gave in
          read_more (g.L.Link.left c.args.link.now) (g.L.Link.left c.loop-round.link) (g.L.Link.left c.read.new.self) given _ taken c.loop-round.reader c.feed-fed-in-loop-round.new.self c.loop-round.fed c.feed-fed-in-loop-round.result has read.bytes.0
          (e.stands (given ++ has.read) taken kept) (e.decides (given ++ has.read) taken kept);
      sent = read.keeps ∙ so.sent;
      faults = omega (arith, read.cause.never_falls, so.faults);
    }

pub returns-in-Some-clause-next : goal.returns-in-Some-clause-next
returns-in-Some-clause-next g c given taken gave =
    let has = c.loop-round.invariant.so_far given taken gave in
    let rest = c.in-Some.ensures.rest (given ++ has.read) taken has.gave in
    (has.read, has.consumed, (begin_with (given ++ has.read) (taken ++ c.in-Some.reply ∷ []) c.take.new.self rest, rest))

pub returns-in-Err-clause-next : goal.returns-in-Err-clause-next
returns-in-Err-clause-next g c given taken gave =
    let has = c.loop-round.invariant.so_far given taken gave in
    let bytes = given ++ has.read in
    let decides = subst (λ (r : Result Unit FrameFault). Decides Replies bytes (reply_messages taken ++ waiting c.loop-round.reader) r) c.in-Err.is has.decides in
    let ends = is_faulty bytes taken (g.L.Link.left c.loop-round.link) c.loop-round.reader c.take.new.self c.in-Err.fault c.in-None.ensures.none decides in
    (has.read, has.consumed, subst (λ (fault : AskFault). NextReplyIs bytes taken (g.L.Link.left c.loop-round.link) c.take.new.self (Err fault)) (sym c.of_frame.ensures) ends)

pub returns-in-Err-read-clause-next : goal.returns-in-Err-read-clause-next
returns-in-Err-read-clause-next g c given taken gave =
    let has = c.loop-round.invariant.so_far given taken gave in
    (has.read, Consumes-kept (g.L.Link.left c.args.link.now) (g.L.Link.left c.loop-round.link) (g.L.Link.left c.read.new.self) has.read has.consumed c.in-Err-read.ensures.bytes, tt)

pub returns-then-count-eq0-clause-next : goal.returns-then-count-eq0-clause-next
returns-then-count-eq0-clause-next g c given taken gave =
    let has = c.loop-round.invariant.so_far given taken gave in
    let bytes = c.in-Ok-read.ensures.bytes in
    let none : c.in-Ok-read.count ≡ 0 = c.if-count-eq0.true in (
      has.read,
      consumed_none (g.L.Link.left c.args.link.now) (g.L.Link.left c.loop-round.link) (g.L.Link.left c.read.new.self) has.read _ c.in-Ok-read.count has.consumed bytes.0 none,
      is_cut (given ++ has.read) taken c.loop-round.reader c.loop-round.fed (g.L.Link.left c.read.new.self) c.in-None.ensures.none c.in-Ok.is has.decides (bytes.1 none (omega arith)),
    )

pub returns-clause-next : goal.returns-clause-next
returns-clause-next g c given taken gave =
    let has = c.loop-round.invariant.so_far given taken gave in
    (has.read, has.consumed, tt)
