use Rattle.std.proofs.Common.{◌≡◌, ◌∙◌, codes, false, true, sym, rules}
use Rattle.std.specs.Str.{bytes_eq}
use Rattle.rpc_calls.specs.Media.{has_refused_media}
use Rattle.rpc_calls.proofs.PostLemmas.{posted_at}
use Rattle.rpc_calls.proofs.read.read_at.Goals as goal

pub returns : goal.returns
returns c =
    let get : bytes_eq c.args.request.method (codes "GET") ≡ false = search rules in
    let post : bytes_eq c.args.request.method (codes "POST") ≡ true = search rules in
    let free : has_refused_media c.args.request ≡ false = sym c.has_refused_media.ensures ∙ c.if-has_refused_media.false in
    posted_at c.read_posted.result c.args.surface c.args.route c.args.request get post free c.read_posted.ensures
