use Rattle.std.proofs.Common.{◌≡◌, ◌∙◌, ◌++◌, List, ℕ, [], ◌∷◌, IsUtf8, ap, sym, refl, subst}
use Rattle.http_text.specs.Print.{IsPrintable}
use Rattle.http_heads.specs.declared.message.RawRequest.{RawRequest}
use Rattle.delta_base.specs.Ids.{number_of, text_of}
use Rattle.rpc_calls.specs.Calls.{call_of}
use Rattle.rpc_calls.specs.Paths.{path_for, segment_of}
use Rattle.rpc_calls.specs.Requests.{get_of}
use Rattle.rpc_calls.specs.Routes.{route_behind}
use Rattle.delta_base.proofs.IdLemmas.{text_of-utf8}
use Rattle.rpc_calls.proofs.RequestLemmas.{fetch_id_again, get_printable}
use Rattle.rpc_calls.proofs.RouteLemmas.{id_again}
use Rattle.rpc_calls.proofs.print.fetch_id_of.Goals as goal

pub returns-clause-again : goal.returns-clause-again
returns-clause-again c = λ fits.
    let name = c.args.name.now in
    let second = c.id_text-text.result in
    let second_is : second ≡ text_of c.args.id.0 = c.id_text-text.ensures.text in
    let path = path_for (name ∷ (second ∷ [])) in
    let is : c.in_ok-request.request ≡ get_of path = c.in_ok-request.ensures ∙ ap get_of (c.as_bytes.ensures.value ∙ c.in_ok-path.ensures.path) in
    let utf8 : IsUtf8 second = subst IsUtf8 (sym second_is) (text_of-utf8 c.args.id.0) in
    ap call_of is ∙ fetch_id_again path name c.args.id.0
    (c.in_ok-path.ensures.route fits utf8 ∙ ap (λ (t : List ℕ). route_behind name t) second_is
    ∙ id_again name c.args.id.0 (ap number_of (sym second_is) ∙ c.id_text-text.ensures.reads_back))

pub returns-clause-printable : goal.returns-clause-printable
returns-clause-printable c = λ host visible.
    let name = c.args.name.now in
    let second = c.id_text-text.result in
    let path = path_for (name ∷ (second ∷ [])) in
    let is : c.in_ok-request.request ≡ get_of path = c.in_ok-request.ensures ∙ ap get_of (c.as_bytes.ensures.value ∙ c.in_ok-path.ensures.path) in
    subst (λ (r : RawRequest). IsPrintable r host) (sym is)
    (get_printable path (segment_of name ++ 47 ∷ (segment_of second ++ [])) host refl c.in_ok-path.ensures.bytes visible)
