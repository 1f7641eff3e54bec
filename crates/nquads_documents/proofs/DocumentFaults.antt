-- The first fault of a document is met in its reading, and no other is, where that is so of terms.
use Rattle.std.proofs.Common.{◌≡◌, ℕ, zero, suc, ◌+◌, ◌-◌, ◌<◌, ◌≤◌, Bool, true, false, cond, not, ◌||◌, List, [], ◌∷◌, ◌++◌, length, Option, Some, None, Ok, Err, nat_eq, refl, sym, ap, subst, ◌∙◌, ◌⊎◌, inl, inr, ⊎_elim, arith}
use Rattle.std.proofs.lemmas.Bool.{false≢true, eqb-true}
use Rattle.std.proofs.lemmas.List.{length-append}
use Rattle.rdf_terms.specs.Quad.{Statement}
use Rattle.nquads_text.specs.Fault.{TextRead, TextFault, ◌>>=◌}
use Rattle.nquads_text.specs.Terms.{skip_blanks}
use Rattle.nquads_text.specs.Statement.{statement_at}
use Rattle.nquads_text.proofs.Steps.{bind_ok, bind_err, chosen, ok_is, not_both}
use Rattle.nquads_text.specs.Grammar.{StartsWith, Blanks}
use Rattle.nquads_documents.specs.Grammar.{StatementAt, IsLine, IsDocument}
use Rattle.nquads_documents.specs.Faults.{CommentFault, LineEndFault, StatementFault, LineFault, FaultBehindLines, DocumentFault}
use Rattle.nquads_documents.specs.Laws.{TermsFound, TermsAgain, TermFaultsFound, TermFaultsAgain, DocumentFaultsFound, DocumentFaultsAgain, DocumentOrFault, NeverBoth, FaultsOnce}
use Rattle.nquads_text.specs.Grammar.{is_line_end}
use Rattle.nquads_documents.specs.Reading.{comment_at, comment_part, statement_part, part_by, document_part_at, with_part, line_end_at, document_at}
use Rattle.nquads_documents.proofs.BlankLaws.{blanks_found, blanks_again}
use Rattle.nquads_documents.proofs.DocumentLaws.{behind_end, line_there, line_again, documents_found, documents_again}
use Rattle.nquads_documents.proofs.Documents.{part_fails}
use Rattle.nquads_documents.proofs.LineEnds.{Closes}
use Rattle.nquads_documents.proofs.LineFaults.{comment_failed, comment_fails, line_end_failed, line_end_fails}
use Rattle.nquads_documents.proofs.StatementFaults.{err_is, statement_failed, statement_fails}
use Rattle.nquads_documents.proofs.StatementLaws.{statement_found, statement_again}

module _ (TermFault : List ℕ → TextFault → Type 0) (found : TermsFound) (again : TermsAgain) (failed : TermFaultsFound TermFault) (fails : TermFaultsAgain TermFault) where
  -- ---- a line

  part_failed_by : (text rest : List ℕ) (f : TextFault) → Blanks text rest → part_by rest ≡ Err f → LineFault TermFault text f
  unfolding comment_part statement_part
  part_failed_by text [] f b e = absurd (not_both (None, []) f e)
  part_failed_by text (c ∷ rest) f b e =
      ⊎_elim
      (λ end. absurd (not_both (None, rest) f end.1))
      (λ other.
      ⊎_elim
      (λ hash.
      ⊎_elim
      (λ bad. (c ∷ rest, b, inl (rest, ap (λ (k : ℕ). k ∷ rest) (eqb-true c 35 hash.0), comment_failed 0 rest f bad)))
      (λ end. absurd (not_both (None, end.0.1) f end.2))
      (bind_err (comment_at 0 rest) (λ (end : Unit {0} × List ℕ). Ok (None, end.1)) f hash.1))
      (λ word.
      let starts : not (is_line_end c || nat_eq c 35) ≡ true = rw (other.0, word.0) refl in
      ⊎_elim
      (λ bad. (c ∷ rest, b, inr (starts, inl (statement_failed TermFault found again failed fails (c ∷ rest) f bad))))
      (λ q.
      ⊎_elim
      (λ bad. (c ∷ rest, b, inr (starts, inr (q.0.0, q.0.1, statement_found found again (c ∷ rest) q.0 q.1, line_end_failed q.0.1 f bad))))
      (λ end. absurd (not_both (Some q.0.0, end.0.1) f end.2))
      (bind_err (line_end_at q.0.1) (λ (end : Unit {0} × List ℕ). Ok (Some q.0.0, end.1)) f q.2))
      (bind_err (statement_at (c ∷ rest)) (λ (q : Statement × List ℕ). line_end_at q.1 >>= λ (end : Unit {0} × List ℕ). Ok (Some q.0, end.1)) f word.1))
      (chosen (nat_eq c 35) (comment_part rest) (statement_part (c ∷ rest)) (Err f) other.1))
      (chosen (is_line_end c) (Ok (None, rest)) (cond (nat_eq c 35) (comment_part rest) (statement_part (c ∷ rest))) (Err f) e)

  part_failed : (text : List ℕ) (f : TextFault) → document_part_at text ≡ Err f → LineFault TermFault text f
  unfolding document_part_at
  part_failed text f e = part_failed_by text (skip_blanks text) f (blanks_found text) e

  neither : (a b : Bool) → not (a || b) ≡ true → (a ≡ false) × (b ≡ false)
  neither true b e = absurd (false≢true e)
  neither false true e = absurd (false≢true e)
  neither false false e = (refl, refl)

  to_statement : (rest : List ℕ) → StartsWith (λ b. not (is_line_end b || nat_eq b 35)) rest → (0 < length rest) × (part_by rest ≡ statement_part rest)
  to_statement [] s = absurd s
  to_statement (b ∷ rest) s = let n = neither (is_line_end b) (nat_eq b 35) s in (omega arith, rw (n.0, n.1) refl)

  statement_line_fails : (rest : List ℕ) (f : TextFault) → StatementFault TermFault rest f ⊎ ((q : Statement) × (after : List ℕ) × StatementAt rest q after × LineEndFault after f) → statement_part rest ≡ Err f
  unfolding statement_part
  statement_line_fails rest f (inl bad) = rw (statement_fails TermFault found again failed fails rest f bad) refl
  statement_line_fails rest f (inr end) = rw (statement_again found again rest end.1 end.0 end.2, line_end_fails end.1 f end.3) refl

  comment_line_fails : (rest more : List ℕ) (f : TextFault) → rest ≡ 35 ∷ more → CommentFault more f → part_by rest ≡ Err f
  unfolding comment_part
  comment_line_fails rest more f e c = ap part_by e ∙ rw (comment_fails more f c) refl

  -- and some byte stands there
  line_fails : (text : List ℕ) (f : TextFault) → LineFault TermFault text f → (0 < length text) × (document_part_at text ≡ Err f)
  unfolding document_part_at
  line_fails text f l =
      let skipped : part_by (skip_blanks text) ≡ part_by l.0 = ap part_by (blanks_again text l.0 l.1) in
      let size : length text ≡ length l.1.0 + length l.0 = ap length l.1.1 ∙ length-append l.1.0 l.0 in
      ⊎_elim
      (λ comment.
      let some : length l.0 ≡ suc (length comment.0) = ap length comment.1 in
      (omega arith, skipped ∙ comment_line_fails l.0 comment.0 f comment.1 comment.2))
      (λ word.
      let s = to_statement l.0 word.0 in let some = s.0 in
      (omega arith, skipped ∙ s.1 ∙ statement_line_fails l.0 f word.1))
      l.2

  -- ---- the document

  with_err : (x : Option Statement) (read : TextRead (List Statement)) (f : TextFault) → with_part x read ≡ Err f → read ≡ Err f
  with_err None read f e = e
  with_err (Some q) read f e =
      ⊎_elim (λ none. none) (λ y. absurd (not_both (q ∷ y.0.0, y.0.1) f y.2)) (bind_err read (λ (y : List Statement × List ℕ). Ok (q ∷ y.0, y.1)) f e)

  err_with : (x : Option Statement) (f : TextFault) → with_part x (Err f) ≡ Err f
  err_with None f = refl
  err_with (Some q) f = refl

  more_lines : (x : Option Statement) (bytes rest : List ℕ) (b : ℕ) (f : TextFault) → IsLine bytes x → is_line_end b ≡ true → DocumentFault TermFault rest f → DocumentFault TermFault (bytes ++ b ∷ rest) f
  more_lines x bytes rest b f l e d = (x ∷ d.0, (bytes, rest, b, refl, e, l, d.1))

  -- a document of at most n bytes
  upto : (n : ℕ) (text : List ℕ) (f : TextFault) → length text ≤ n → document_at 0 text ≡ Err f → DocumentFault TermFault text f
  unfolding document_at
  upto n [] f le e = absurd (not_both ([], []) f e)
  upto zero (b ∷ rest) f le e = absurd (omega arith)
  upto (suc n) (b ∷ rest) f le e =
      ⊎_elim
      (λ bad. ([], part_failed (b ∷ rest) f bad))
      (λ x.
      let l = line_there found again (b ∷ rest) x.0 (omega arith) x.1 in
      let known = with_err l.item (behind_end l.tail) f (sym l.read ∙ e) in
      subst (λ (t : List ℕ). DocumentFault TermFault t f) (sym l.parts)
      (by l.item l.bytes l.tail l.is l.closes known (let all : suc (length rest) ≡ length l.bytes + length l.tail = ap length l.parts ∙ length-append l.bytes l.tail in omega arith) (λ later short e. upto n later f short e)))
      (bind_err (document_part_at (b ∷ rest)) (λ (x : Option Statement × List ℕ). with_part x.0 (document_at (length rest - length x.1) rest)) f e)
    where
      by : (item : Option Statement) (bytes tail : List ℕ) → IsLine bytes item → Closes tail → behind_end tail ≡ Err f → length tail ≤ suc n
          → ((later : List ℕ) → length later ≤ n → document_at 0 later ≡ Err f → DocumentFault TermFault later f) → DocumentFault TermFault (bytes ++ tail) f
      by item bytes [] l c known short more = absurd (not_both ([], []) f known)
      by item bytes (d ∷ later) l c known short more = more_lines item bytes later d f l c (more later (omega arith) known)

  pub document_faults_found : DocumentFaultsFound TermFault
  document_faults_found text f e = upto (length text) text f (omega arith) e

  behind_fails : (lines : List (Option Statement)) (text : List ℕ) (f : TextFault) → FaultBehindLines TermFault lines text f → document_at 0 text ≡ Err f
  behind_fails [] text f l = let p = line_fails text f l in part_fails text f p.0 p.1
  behind_fails (line ∷ lines) text f l =
      ap (document_at 0) l.3 ∙ line_again found again l.0 (l.2 ∷ l.1) line l.5 l.4 ∙ ap (with_part line) (behind_fails lines l.1 f l.6) ∙ err_with line f

  pub document_faults_again : DocumentFaultsAgain TermFault
  document_faults_again text f d = behind_fails d.0 text f d.1

  -- ---- a document, or a fault

  all_read : (skip : ℕ) (text : List ℕ) (x : List Statement × List ℕ) → document_at skip text ≡ Ok x → x.1 ≡ []
  unfolding document_at
  all_read skip [] x e = ap (λ (y : List Statement × List ℕ). y.1) (sym (ok_is ([], []) x e))
  all_read (suc skip) (b ∷ rest) x e = all_read skip rest x e
  all_read zero (b ∷ rest) x e =
      let part = bind_ok (document_part_at (b ∷ rest)) (λ (p : Option Statement × List ℕ). with_part p.0 (document_at (length rest - length p.1) rest)) x e in
      by part.0.0 part.2 (λ y known. all_read (length rest - length part.0.1) rest y known)
    where
      by : (item : Option Statement) → {read : TextRead (List Statement)} → with_part item read ≡ Ok x → ((y : List Statement × List ℕ) → read ≡ Ok y → y.1 ≡ []) → x.1 ≡ []
      by None e later = later x e
      by (Some q) {read} e later =
          let y = bind_ok read (λ (y : List Statement × List ℕ). Ok (q ∷ y.0, y.1)) x e in
          ap (λ (z : List Statement × List ℕ). z.1) (sym (ok_is (q ∷ y.0.0, y.0.1) x y.2)) ∙ later y.0 y.1

  pub document_or_fault : DocumentOrFault TermFault
  document_or_fault text = by (document_at 0 text) refl
    where
      by : (read : TextRead (List Statement)) → document_at 0 text ≡ read → ((quads : List Statement) × IsDocument text quads) ⊎ ((f : TextFault) × DocumentFault TermFault text f)
      by (Ok x) e = inl (x.0, documents_found found again text x.0 (e ∙ ap (λ (rest : List ℕ). Ok (x.0, rest)) (all_read 0 text x e)))
      by (Err f) e = inr (f, document_faults_found text f e)

  pub never_both : NeverBoth TermFault
  never_both text quads f d fault = not_both (quads, []) f (sym (documents_again found again text quads d) ∙ document_faults_again text f fault)

  pub faults_once : FaultsOnce TermFault
  faults_once text f g one two = err_is {X = List Statement} f g (sym (document_faults_again text f one) ∙ document_faults_again text g two)
