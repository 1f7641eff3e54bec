use Rattle.std.proofs.Common.{arith}
use Rattle.std.proofs.lemmas.Bool.{and_parts, eqb-true}
use Rattle.rdf_terms.proofs.Schemes.{http_is_scheme}
use Rattle.rdf_terms.proofs.iri.begins_http.Goals as goal

pub returns : goal.returns
returns c = λ yes.
    let colon = and_parts _ _ yes in let p = and_parts _ _ colon.0 in let u = and_parts _ _ p.0 in let h = and_parts _ _ u.0 in
    http_is_scheme c.args.bytes.now (omega arith) (eqb-true _ _ h.0) (eqb-true _ _ h.1) (eqb-true _ _ u.1) (eqb-true _ _ p.1) (eqb-true _ _ colon.1)
