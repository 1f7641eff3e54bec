use Rattle.nquads_documents.proofs.Pushed.{term_there}
use Rattle.nquads_documents.proofs.pushing.push_next_term.Goals as goal

pub returns-in-Some : goal.returns-in-Some
returns-in-Some c =
    let iri = c.in-Some.ensures in
    term_there c.args.text.now c.args.out.now.items c.extend_from_slice.new.self.items c.args.at c.in-Some.end (iri.0, iri.1) c.in_ok-extend_from_slice.ensures.items
