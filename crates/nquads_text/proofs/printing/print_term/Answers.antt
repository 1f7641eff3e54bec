use Rattle.std.proofs.Common.{◌≡◌, ◌++◌, ℕ, List, ap, subst, sym, ◌∙◌}
use Rattle.std.specs.Global.{Vec}
use Rattle.std.specs.Str.{IsUtf8}
use Rattle.nquads_text.specs.Grammar.{TermAt}
use Rattle.rdf_terms.specs.Line.{term_text}
use Rattle.nquads_text.proofs.Printed.{printed}
use Rattle.nquads_text.proofs.Utf8Terms.{term_utf8}
use Rattle.nquads_text.proofs.printing.print_term.Goals as goal

pub from_utf8_unchecked-requires : goal.from_utf8_unchecked-requires
from_utf8_unchecked-requires c =
    let term = c.args.term.now in
    let same : c.push_term.new.out.items ≡ term_text term = c.in_ok-push_term.ensures.text ∙ ap (λ (front : List ℕ). front ++ term_text term) c.new-out.ensures.items in
    subst IsUtf8 (sym same) (term_utf8 term c.in_ok-push_term.ensures.value)

pub returns-clause-read_again : goal.returns-clause-read_again
returns-clause-read_again c =
    let term = c.args.term.now in
    let same : c.from_string.result ≡ term_text term =
    c.from_string.ensures ∙ ap (λ (v : Vec ℕ). v.items) c.from_utf8_unchecked.ensures.value ∙ c.in_ok-push_term.ensures.text ∙ ap (λ (front : List ℕ). front ++ term_text term) c.new-out.ensures.items in
    λ rest ends. subst (λ (text : List ℕ). TermAt (text ++ rest) term rest) (sym same) (printed term rest c.in_ok-push_term.ensures.value ends)
