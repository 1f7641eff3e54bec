use Rattle.std.proofs.Common.{◌≡◌, ◌∙◌, ◌++◌, List, ℕ, [], ◌∷◌, codes, ap, ap₂, sym, refl, subst}
use Rattle.http_text.specs.Print.{IsPrintable}
use Rattle.http_heads.specs.declared.message.RawRequest.{RawRequest}
use Rattle.rpc_calls.specs.Calls.{call_of}
use Rattle.rpc_calls.specs.Paths.{path_for, segment_of}
use Rattle.rpc_calls.specs.Requests.{post_of}
use Rattle.rpc_calls.proofs.RequestLemmas.{append_run_again, post_printable, run_utf8}
use Rattle.rpc_calls.proofs.RouteLemmas.{run_again}
use Rattle.rpc_calls.proofs.print.append_run_of.Goals as goal

pub returns-clause-again : goal.returns-clause-again
returns-clause-again c = λ fits.
    let path = path_for (c.args.name.now ∷ (codes "run" ∷ [])) in
    let is : c.in_ok-request.request ≡ post_of path (codes "application/rdf-patch") c.args.patches.now =
    c.in_ok-request.ensures ∙ ap₂ (λ (p b : List ℕ). post_of p (codes "application/rdf-patch") b) (c.as_bytes.ensures.value ∙ c.in_ok-path.ensures.path) c.as_slice.ensures in
    ap call_of is ∙ append_run_again path c.args.name.now c.args.patches.now (c.in_ok-path.ensures.route fits run_utf8 ∙ run_again c.args.name.now)

pub returns-clause-printable : goal.returns-clause-printable
returns-clause-printable c = λ host visible.
    let path = path_for (c.args.name.now ∷ (codes "run" ∷ [])) in
    let is : c.in_ok-request.request ≡ post_of path (codes "application/rdf-patch") c.args.patches.now =
    c.in_ok-request.ensures ∙ ap₂ (λ (p b : List ℕ). post_of p (codes "application/rdf-patch") b) (c.as_bytes.ensures.value ∙ c.in_ok-path.ensures.path) c.as_slice.ensures in
    subst (λ (r : RawRequest). IsPrintable r host) (sym is)
    (post_printable path (segment_of c.args.name.now ++ 47 ∷ (segment_of (codes "run") ++ [])) (codes "application/rdf-patch") c.args.patches.now host refl refl c.in_ok-path.ensures.bytes visible)
