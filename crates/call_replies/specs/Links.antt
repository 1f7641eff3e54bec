-- Faults of connections to a peer that replies tell.
use Rattle.std.specs.Prelude.{ℕ, ◌+◌, ◌==◌, ◌&&◌, if◌then◌else◌, Bool, true, false, List, [], ◌∷◌, codes}
use Rattle.std.specs.Str.{bytes_eq}
use Rattle.http_session.specs.Output.{Exchange}
use Rattle.http_session.specs.declared.answerer.Said.{Said}
use Rattle.http_session.specs.declared.answerer.Said.TheVariants.{Reply, OutOfMemory}
use Rattle.call_replies.specs.Ends.{end_reply}

-- the name of the end that a connection's fault is
abbrev pub link_fault : List ℕ
link_fault = codes "LinkFault"

-- whether a reply tells that end: no other reply has this body
abbrev pub is_link_said : Said → Bool
is_link_said (Reply reply allow) =
    reply.status == 409 && bytes_eq reply.body (end_reply link_fault reply.close).body
is_link_said OutOfMemory = false

-- how many replies do
abbrev pub links_said : List Exchange → ℕ
links_said [] = 0
links_said (e ∷ exchanges) = (if is_link_said e.said then 1 else 0) + links_said exchanges
