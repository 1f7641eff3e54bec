use Rattle.std.proofs.Common.{◌≡◌, ℕ, ◌≤◌, List}
use Rattle.http_text.specs.Taken.{GaveReplies}
use Rattle.http_heads.specs.declared.message.RawReply.{RawReply}
use Rattle.delta_client.proofs.Nexts.{HasRead}
use Rattle.delta_client.proofs.reply.next_reply.Given as goal

abbrev pub invariant-loop-round : goal.invariant-loop-round
invariant-loop-round g l = record {
  so_far : (given : List ℕ) (taken : List RawReply) → GaveReplies given taken l.fn.reader → HasRead (g.L.Link.left l.fn.link) (g.L.Link.left l.link) given taken l.reader l.fed;
  sent : g.L.Link.sent l.link ≡ g.L.Link.sent l.fn.link;
  faults : g.L.Link.faults l.fn.link ≤ g.L.Link.faults l.link;
}
