use Rattle.std.proofs.Common.{refl}
use Rattle.std.proofs.lemmas.List.Filters.{dedup_is}
use Rattle.nquads_documents.specs.Shown.{shown}
use Rattle.nquads_documents.proofs.DocumentFaults.{document_faults_found}
use Rattle.nquads_documents.proofs.DocumentLaws.{documents_found}
use Rattle.nquads_documents.proofs.Sorting.{made_of, made_canonical, same_shown}
use Rattle.nquads_documents.proofs.TermsRead.{terms_found, terms_again, term_faults_found, term_faults_again}
use Rattle.nquads_text.specs.Faults.{AnyTermFault}
use Rattle.nquads_documents.proofs.canonical.canonical_lines.Goals as goal

pub returns-in-Ok : goal.returns-in-Ok
returns-in-Ok c =
    let sorted = c.sort_lines.new.lines.items in let kept = c.dedup.new.self.items in
    let quads = c.in-Ok.ensures.0 in
    let are = made_of shown quads c.in-Ok.lines.items sorted kept c.in-Ok.ensures.2 c.sort_lines.ensures.permutation c.sort_lines.ensures.sorted (dedup_is (same_shown shown) sorted kept c.dedup.ensures.filtered) in (
      quads,
      documents_found terms_found terms_again c.args.text.now quads c.in-Ok.ensures.1,
      made_canonical shown quads kept _ are refl,
      are,
    )

pub returns-in-Err-At : goal.returns-in-Err-At
returns-in-Err-At c =
    let f = rw c.in-Err-At.field-0-is at c.in-Err-At.ensures in
    let line = rw c.in-Err-At.field-0-is at c.line_at.ensures in
    rw c.in-Err-At.field-0-is (document_faults_found AnyTermFault terms_found terms_again term_faults_found term_faults_again c.args.text.now _ f.0, f.1, line)
