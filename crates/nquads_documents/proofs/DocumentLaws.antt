-- A document is read exactly where the grammar has one, where that is so of terms.
use Rattle.std.proofs.Common.{◌≡◌, ℕ, zero, suc, ◌+◌, ◌-◌, ◌<◌, ◌≤◌, Bool, true, false, cond, ◌||◌, List, [], ◌∷◌, ◌++◌, length, Option, Some, None, Ok, nat_eq, refl, sym, ap, subst, ◌∙◌, ◌⊎◌, inl, inr, ⊎_elim, arith, append_assoc}
use Rattle.std.specs.List.{list_all}
use Rattle.std.proofs.lemmas.Bool.{false≢true, eqb-true}
use Rattle.std.proofs.lemmas.List.{append-nil, length-append}
use Rattle.rdf_terms.specs.Quad.{Statement}
use Rattle.nquads_text.specs.Fault.{TextRead, ◌>>=◌}
use Rattle.nquads_text.specs.Terms.{skip_blanks}
use Rattle.nquads_text.specs.Statement.{statement_at}
use Rattle.nquads_text.proofs.Inside.{low_char}
use Rattle.nquads_text.proofs.Steps.{bind_ok, chosen, ok_is}
use Rattle.nquads_documents.specs.Reading.{comment_at, comment_part, statement_part, part_by, document_part_at, with_part, line_end_at, document_at}
use Rattle.nquads_text.specs.Grammar.{is_blank, StartsWith, Blanks, is_line_end}
use Rattle.nquads_documents.specs.Grammar.{StatementAt, IsEmptyLine, IsLine, of_line, AreLines, IsDocument}
use Rattle.nquads_documents.specs.Laws.{TermsFound, TermsAgain, DocumentsFound, DocumentsAgain, DocumentsOnce, LinesAgain}
use Rattle.rdf_terms.specs.Line.{line}
use Rattle.nquads_documents.proofs.BlankLaws.{blanks_found, skip_again, starts_more}
use Rattle.nquads_documents.proofs.LineEnds.{Closes, Ended, no_blank_closes, comment_found, commented, line_end_found, line_end_again, body_again}
use Rattle.nquads_documents.proofs.LineLaws.{document_behind, line_read}
use Rattle.nquads_documents.proofs.Shorter.{upto_part}
use Rattle.nquads_documents.proofs.StatementLaws.{Begun, statement_found, statement_again, term_begun}
use Rattle.nquads_documents.proofs.Tails.{cut_statement, add_statement}

-- what the text behind a line's end is read as
abbrev pub behind_end : List ℕ → TextRead (List Statement)
behind_end [] = Ok ([], [])
behind_end (b ∷ rest) = document_at 0 rest

end_part : (b : ℕ) (rest : List ℕ) → is_line_end b ≡ true → document_part_at (b ∷ rest) ≡ Ok (None, rest)
unfolding document_part_at
end_part b rest e = ap part_by (skip_again [] (b ∷ rest) refl (no_blank (nat_eq b 10) refl e)) ∙ rw e refl
  where
    no_blank : (t : Bool) → nat_eq b 10 ≡ t → (t || nat_eq b 13) ≡ true → is_blank b ≡ true → ⊥
    no_blank true p q s = false≢true (ap is_blank (sym (eqb-true b 10 p)) ∙ s)
    no_blank false p q s = false≢true (ap is_blank (sym (eqb-true b 13 q)) ∙ s)

at_end : (tail : List ℕ) → Closes tail → document_at 0 tail ≡ behind_end tail
unfolding document_at
at_end [] c = refl
at_end (b ∷ rest) c = document_behind (b ∷ rest) (b ∷ []) rest None refl (omega arith) (end_part b rest c)

-- a line, and what its reading gives
pub record LineThere (text : List ℕ) : Type 0 where
  pub item : Option Statement
  pub bytes : List ℕ
  pub tail : List ℕ
  pub parts : text ≡ bytes ++ tail
  pub is : IsLine bytes item
  pub closes : Closes tail
  pub read : document_at 0 text ≡ with_part item (behind_end tail)

-- ---- what is read is there

module _ (found : TermsFound) (again : TermsAgain) where
  -- the part ends before the line's end, or behind it
  record PartThere (text : List ℕ) (x : Option Statement) (after : List ℕ) : Type 0 where
    pub bytes : List ℕ
    pub tail : List ℕ
    pub parts : text ≡ bytes ++ tail
    pub is : IsLine bytes x
    pub closes : Closes tail
    pub left : (after ≡ tail) ⊎ ((b : ℕ) × (tail ≡ b ∷ after))

  of_statement : (text rest behind tail : List ℕ) (q : Statement) (b : Blanks text rest) → (StartsWith is_blank rest → ⊥) → StatementAt rest q behind → Ended behind tail → PartThere text (Some q) tail
  of_statement text rest behind tail q b none s e =
      let c = cut_statement rest q e.line tail (subst (StatementAt rest q) e.parts s) in
      record {
        bytes = b.0 ++ c.short;
        tail = tail;
        parts = b.1 ∙ ap (λ (t : List ℕ). b.0 ++ t) c.parts ∙ sym (append_assoc b.0 c.short tail);
        is = (c.short, e.line, (b.0, refl, b.2, λ st. none (subst (StartsWith is_blank) (sym c.parts) (starts_more is_blank c.short tail st))), c.is, e.empty);
        closes = e.closes;
        left = inl refl;
      }

  part_found : (text rest : List ℕ) (x : Option Statement × List ℕ) → Blanks text rest → part_by rest ≡ Ok x → PartThere text x.0 x.1
  unfolding comment_part statement_part
  part_found text [] x b e =
      subst (λ (y : Option Statement × List ℕ). PartThere text y.0 y.1) (ok_is (None, []) x e)
      (record { bytes = b.0; tail = []; parts = b.1; is = (b.0, [], sym (append-nil b.0), b.2, inl refl); closes = tt; left = inl refl })
  part_found text (c ∷ rest) x b e =
      ⊎_elim
      (λ end.
      subst (λ (y : Option Statement × List ℕ). PartThere text y.0 y.1) (ok_is (None, rest) x end.1)
      (record { bytes = b.0; tail = c ∷ rest; parts = b.1; is = (b.0, [], sym (append-nil b.0), b.2, inl refl); closes = end.0; left = inr (c, refl) }))
      (λ other.
      ⊎_elim
      (λ hash.
      let end = bind_ok (comment_at 0 rest) (λ (end : Unit {0} × List ℕ). Ok (None, end.1)) x hash.1 in
      let line = commented text rest end.0.1 (subst (λ (k : ℕ). Blanks text (k ∷ rest)) (eqb-true c 35 hash.0) b) (comment_found 0 rest end.0.1 end.1) in
      subst (λ (y : Option Statement × List ℕ). PartThere text y.0 y.1) (ok_is (None, end.0.1) x end.2)
      (record { bytes = line.line; tail = end.0.1; parts = line.parts; is = line.empty; closes = line.closes; left = inl refl }))
      (λ word.
      let q = bind_ok (statement_at (c ∷ rest)) (λ (q : Statement × List ℕ). line_end_at q.1 >>= λ (end : Unit {0} × List ℕ). Ok (Some q.0, end.1)) x word.1 in
      let end = bind_ok (line_end_at q.0.1) (λ (end : Unit {0} × List ℕ). Ok (Some q.0.0, end.1)) x q.2 in
      subst (λ (y : Option Statement × List ℕ). PartThere text y.0 y.1) (ok_is (Some q.0.0, end.0.1) x end.2)
      (of_statement text (c ∷ rest) q.0.1 end.0.1 q.0.0 b b.3 (statement_found found again (c ∷ rest) q.0 q.1) (line_end_found q.0.1 end.0.1 end.1)))
      (chosen (nat_eq c 35) (comment_part rest) (statement_part (c ∷ rest)) (Ok x) other.1))
      (chosen (is_line_end c) (Ok (None, rest)) (cond (nat_eq c 35) (comment_part rest) (statement_part (c ∷ rest))) (Ok x) e)

  part_there : (text : List ℕ) (x : Option Statement × List ℕ) → document_part_at text ≡ Ok x → PartThere text x.0 x.1
  unfolding document_part_at
  part_there text x e = part_found text (skip_blanks text) x (blanks_found text) e

  pub line_there : (text : List ℕ) (x : Option Statement × List ℕ) → 0 < length text → document_part_at text ≡ Ok x → LineThere text
  line_there text x pos e =
      let p = part_there text x e in
      let less : length x.1 ≤ length text - 1 = upto_part text (length text - 1) (omega arith) x e in
      record {
        item = x.0;
        bytes = p.bytes;
        tail = p.tail;
        parts = p.parts;
        is = p.is;
        closes = p.closes;
        read = ⊎_elim
            (λ before.
            let parts : text ≡ p.bytes ++ x.1 = p.parts ∙ ap (λ (t : List ℕ). p.bytes ++ t) (sym before) in
            let l : length text ≡ length p.bytes + length x.1 = ap length parts ∙ length-append p.bytes x.1 in
            document_behind text p.bytes x.1 x.0 parts (omega arith) e ∙ ap (λ (t : List ℕ). with_part x.0 (document_at 0 t)) before ∙ ap (with_part x.0) (at_end p.tail p.closes))
            (λ behind.
            let parts : text ≡ (p.bytes ++ behind.0 ∷ []) ++ x.1 = p.parts ∙ ap (λ (t : List ℕ). p.bytes ++ t) behind.1 ∙ sym (append_assoc p.bytes (behind.0 ∷ []) x.1) in
            let l : length text ≡ length (p.bytes ++ behind.0 ∷ []) + length x.1 = ap length parts ∙ length-append (p.bytes ++ behind.0 ∷ []) x.1 in
            document_behind text (p.bytes ++ behind.0 ∷ []) x.1 x.0 parts (omega arith) e ∙ ap (λ (t : List ℕ). with_part x.0 (behind_end t)) (sym behind.1))
            p.left;
      }

  empty_document : (quads : List Statement) → quads ≡ [] → IsDocument [] quads
  empty_document quads e = (None ∷ [], (([], [], refl, refl, inl refl), e))

  -- the statements of a line, and of those behind it
  split_quads : (x : Option Statement) (read : TextRead (List Statement)) (quads : List Statement) → with_part x read ≡ Ok (quads, []) → (others : List Statement) × (read ≡ Ok (others, [])) × (quads ≡ of_line x ++ others)
  split_quads None read quads e = (quads, e, refl)
  split_quads (Some q) read quads e =
      let y = bind_ok read (λ (y : List Statement × List ℕ). Ok (q ∷ y.0, y.1)) (quads, []) e in
      let same = ok_is (q ∷ y.0.0, y.0.1) (quads, []) y.2 in
      (y.0.0, y.1 ∙ ap (λ (p : List Statement × List ℕ). Ok (y.0.0, p.1)) same, ap (λ (p : List Statement × List ℕ). p.0) (sym same))

  more_lines : (x : Option Statement) (bytes rest : List ℕ) (b : ℕ) (quads others : List Statement) → IsLine bytes x → is_line_end b ≡ true → quads ≡ of_line x ++ others → IsDocument rest others → IsDocument (bytes ++ b ∷ rest) quads
  more_lines x bytes rest b quads others l e q d = by d.0 d.1
    where
      by : (lines : List (Option Statement)) → AreLines lines rest others → IsDocument (bytes ++ b ∷ rest) quads
      by [] a = absurd a
      by (next ∷ lines) a = (x ∷ next ∷ lines, (bytes, rest, others, b, refl, e, l, a, q))

  -- a document of at most n bytes
  upto : (n : ℕ) (text : List ℕ) (quads : List Statement) → length text ≤ n → document_at 0 text ≡ Ok (quads, []) → IsDocument text quads
  unfolding document_at
  upto n [] quads le e = empty_document quads (ap (λ (x : List Statement × List ℕ). x.0) (ok_is (quads, []) ([], []) (sym e)))
  upto zero (b ∷ rest) quads le e = absurd (omega arith)
  upto (suc n) (b ∷ rest) quads le e =
      let x = bind_ok (document_part_at (b ∷ rest)) (λ (x : Option Statement × List ℕ). with_part x.0 (document_at (length rest - length x.1) rest)) (quads, []) e in
      let l = line_there (b ∷ rest) x.0 (omega arith) x.1 in
      let s = split_quads l.item (behind_end l.tail) quads (sym l.read ∙ e) in
      subst (λ (t : List ℕ). IsDocument t quads) (sym l.parts)
      (by l.item l.bytes l.tail s.0 l.is l.closes s.1 s.2 (let all : suc (length rest) ≡ length l.bytes + length l.tail = ap length l.parts ∙ length-append l.bytes l.tail in omega arith)
      (λ later others short known. upto n later others short known))
    where
      by : (item : Option Statement) (bytes tail : List ℕ) (others : List Statement) → IsLine bytes item → Closes tail → behind_end tail ≡ Ok (others, []) → quads ≡ of_line item ++ others → length tail ≤ suc n
          → ((later : List ℕ) (others : List Statement) → length later ≤ n → document_at 0 later ≡ Ok (others, []) → IsDocument later others) → IsDocument (bytes ++ tail) quads
      by item bytes [] others l c known q short more =
          let none : [] ≡ others = ap (λ (x : List Statement × List ℕ). x.0) (ok_is ([], []) (others, []) known) in
          subst (λ (t : List ℕ). IsDocument t quads) (sym (append-nil bytes)) (item ∷ [], (l, q ∙ ap (λ (o : List Statement). of_line item ++ o) (sym none) ∙ append-nil (of_line item)))
      by item bytes (d ∷ later) others l c known q short more = more_lines item bytes later d quads others l c q (more later others (omega arith) known)

  pub documents_found : DocumentsFound
  documents_found text quads e = upto (length text) text quads (omega arith) e

  -- ---- what is there is read

  pub past_blanks : (blanks rest : List ℕ) → list_all is_blank blanks ≡ true → (StartsWith is_blank rest → ⊥) → document_part_at (blanks ++ rest) ≡ part_by rest
  unfolding document_part_at
  past_blanks blanks rest all none = ap part_by (skip_again blanks rest all none)

  blank_line : (blanks tail : List ℕ) → list_all is_blank blanks ≡ true → Closes tail → document_at 0 (blanks ++ tail) ≡ behind_end tail
  blank_line [] tail all c = at_end tail c
  blank_line (b ∷ blanks) [] all c = document_behind ((b ∷ blanks) ++ []) (b ∷ blanks) [] None refl (omega arith) (past_blanks (b ∷ blanks) [] all (λ s. s)) ∙ at_end [] tt
  blank_line (b ∷ blanks) (d ∷ rest) all c =
      let l = length-append (b ∷ blanks) (d ∷ []) in
      document_behind ((b ∷ blanks) ++ d ∷ rest) ((b ∷ blanks) ++ d ∷ []) rest None (sym (append_assoc (b ∷ blanks) (d ∷ []) rest)) (omega arith)
      (past_blanks (b ∷ blanks) (d ∷ rest) all (no_blank_closes (d ∷ rest) c) ∙ rw c refl)

  comment_line : (blanks body tail : List ℕ) → list_all is_blank blanks ≡ true → comment_at 0 (body ++ tail) ≡ Ok (tt, tail) → Closes tail → document_at 0 ((blanks ++ 35 ∷ body) ++ tail) ≡ behind_end tail
  unfolding comment_part
  comment_line blanks body tail all e c =
      let split : (blanks ++ 35 ∷ body) ++ tail ≡ blanks ++ 35 ∷ (body ++ tail) = append_assoc blanks (35 ∷ body) tail in
      let some : 0 < length (blanks ++ 35 ∷ body) = omega (arith, length-append blanks (35 ∷ body)) in
      document_behind ((blanks ++ 35 ∷ body) ++ tail) (blanks ++ 35 ∷ body) tail None refl some
      (ap document_part_at split ∙ past_blanks blanks (35 ∷ (body ++ tail)) all (λ s. false≢true s) ∙ rw e refl)
      ∙ at_end tail c

  empty_line : (bytes tail : List ℕ) → IsEmptyLine bytes → Closes tail → document_at 0 (bytes ++ tail) ≡ behind_end tail
  empty_line bytes tail l c =
      ⊎_elim
      (λ none.
      let same : bytes ≡ l.0 = l.2 ∙ ap (λ (t : List ℕ). l.0 ++ t) none ∙ append-nil l.0 in
      ap (λ (t : List ℕ). document_at 0 (t ++ tail)) same ∙ blank_line l.0 tail l.3 c)
      (λ comment.
      let same : bytes ≡ l.0 ++ 35 ∷ comment.0 = l.2 ∙ ap (λ (t : List ℕ). l.0 ++ t) comment.1 in
      ap (λ (t : List ℕ). document_at 0 (t ++ tail)) same ∙ comment_line l.0 comment.0 tail l.3 (body_again comment.0 tail comment.2 comment.3 c) c)
      l.4

  record First (text : List ℕ) : Type 0 where
    pub byte : ℕ
    pub rest : List ℕ
    pub parts : text ≡ byte ∷ rest
    pub no_blank : is_blank byte ≡ false
    pub no_end : is_line_end byte ≡ false
    pub no_hash : nat_eq byte 35 ≡ false

  first_of : (text : List ℕ) → Begun text → First text
  first_of text b = by (nat_eq b.first.0 60) refl (nat_eq b.first.0 95) refl (nat_eq b.first.0 34) refl b.begins
    where
      by : (s : Bool) → nat_eq b.first.0 60 ≡ s → (t : Bool) → nat_eq b.first.0 95 ≡ t → (u : Bool) → nat_eq b.first.0 34 ≡ u → (s || t || u) ≡ true → First text
      by true p t q u r e = record { byte = 60; rest = b.first.1; parts = low_char text b.first 60 b.read (eqb-true b.first.0 60 p) (omega arith); no_blank = refl; no_end = refl; no_hash = refl }
      by false p true q u r e = record { byte = 95; rest = b.first.1; parts = low_char text b.first 95 b.read (eqb-true b.first.0 95 q) (omega arith); no_blank = refl; no_end = refl; no_hash = refl }
      by false p false q true r e = record { byte = 34; rest = b.first.1; parts = low_char text b.first 34 b.read (eqb-true b.first.0 34 r) (omega arith); no_blank = refl; no_end = refl; no_hash = refl }
      by false p false q false r e = absurd (false≢true e)

  statement_first : (text after : List ℕ) (q : Statement) → StatementAt text q after → First text
  statement_first text after q s = first_of text (term_begun text (q.subject, s.0) (again text s.0 q.subject s.6))

  to_statement : (text : List ℕ) → First text → part_by text ≡ statement_part text
  to_statement text f = ap part_by f.parts ∙ rw (f.no_end, f.no_hash) (ap statement_part (sym f.parts))

  statement_line : (bytes text rest tail : List ℕ) (q : Statement) → Blanks bytes text → StatementAt text q rest → IsEmptyLine rest → Closes tail
      → document_at 0 (bytes ++ tail) ≡ with_part (Some q) (behind_end tail)
  unfolding statement_part
  statement_line bytes text rest tail q b s empty c =
      let longer = add_statement text q rest tail c s in
      let read = statement_again found again (text ++ tail) (rest ++ tail) q longer in
      let ends = line_end_again rest tail empty c in
      let first = statement_first (text ++ tail) (rest ++ tail) q longer in
      let alone = statement_first text rest q s in
      let split : bytes ++ tail ≡ b.0 ++ (text ++ tail) = ap (λ (t : List ℕ). t ++ tail) b.1 ∙ append_assoc b.0 text tail in
      let some : 0 < length bytes =
      let l : length bytes ≡ length b.0 + length text = ap length b.1 ∙ length-append b.0 text in
      let k : length text ≡ suc (length alone.rest) = ap length alone.parts in omega arith in
      let none : StartsWith is_blank (text ++ tail) → ⊥ = λ st. false≢true (sym first.no_blank ∙ subst (StartsWith is_blank) first.parts st) in
      document_behind (bytes ++ tail) bytes tail (Some q) refl some
      (ap document_part_at split ∙ past_blanks b.0 (text ++ tail) b.2 none ∙ to_statement (text ++ tail) first ∙ rw (read, ends) refl)
      ∙ ap (with_part (Some q)) (at_end tail c)

  pub line_again : (bytes tail : List ℕ) (x : Option Statement) → IsLine bytes x → Closes tail → document_at 0 (bytes ++ tail) ≡ with_part x (behind_end tail)
  line_again bytes tail None l c = empty_line bytes tail l c
  line_again bytes tail (Some q) l c = statement_line bytes l.0 l.1 tail q l.2 l.3 l.4 c

  with_quads : (x : Option Statement) (others : List Statement) → with_part x (Ok (others, [])) ≡ Ok (of_line x ++ others, [])
  with_quads None others = refl
  with_quads (Some q) others = refl

  lines_again : (lines : List (Option Statement)) (text : List ℕ) (quads : List Statement) → AreLines lines text quads → document_at 0 text ≡ Ok (quads, [])
  lines_again [] text quads a = absurd a
  lines_again (x ∷ []) text quads a =
      ap (document_at 0) (sym (append-nil text)) ∙ line_again text [] x a.0 tt ∙ with_quads x []
      ∙ ap (λ (q : List Statement). Ok (q, [])) (append-nil (of_line x) ∙ sym a.1)
  lines_again (x ∷ next ∷ lines) text quads a =
      ap (document_at 0) a.4 ∙ line_again a.0 (a.3 ∷ a.1) x a.6 a.5 ∙ ap (with_part x) (lines_again (next ∷ lines) a.1 a.2 a.7) ∙ with_quads x a.2
      ∙ ap (λ (q : List Statement). Ok (q, [])) (sym a.8)

  pub documents_again : DocumentsAgain
  documents_again text quads d = lines_again d.0 text quads d.1

  pub documents_once : DocumentsOnce
  documents_once text quads others one two =
      ap (λ (x : List Statement × List ℕ). x.0) (ok_is (quads, []) (others, []) (sym (documents_again text quads one) ∙ documents_again text others two))

  -- ---- a printed line

  pub line_is_document : LinesAgain
  line_is_document q v =
      documents_found (line q) (q ∷ [])
      (ap (document_at 0) (sym (append-nil (line q))) ∙ line_read q [] v ∙ ap (with_part (Some q)) (at_end [] tt))
