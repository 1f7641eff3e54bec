-- Steps over the parts of a document, with the statements read before.
use Rattle.std.proofs.Common.{◌≡◌, ℕ, zero, suc, ◌+◌, ◌-◌, ◌<◌, ◌≤◌, List, [], ◌∷◌, ◌++◌, length, drop, Option, Some, None, Ok, Err, refl, sym, ap, ◌∙◌, arith, append_assoc}
use Rattle.std.proofs.lemmas.List.{drop_all, length-drop, drop-drop, append-nil}
use Rattle.rdf_terms.specs.Quad.{Statement}
use Rattle.nquads_text.specs.declared.fault.ReadFault.{ReadFault}
use Rattle.nquads_text.specs.declared.fault.ReadFault.TheVariants.{At, OutOfMemory}
use Rattle.nquads_text.specs.Fault.{TextFault, Fails, TextRead, ◌>>=◌}
use Rattle.nquads_documents.specs.Reading.{document_part_at, with_part, document_at}

abbrev pub after_quads : List Statement → TextRead (List Statement) → TextRead (List Statement)
after_quads quads read = read >>= λ x. Ok (quads ++ x.0, x.1)

abbrev pub part_list : Option Statement → List Statement
part_list None = []
part_list (Some q) = q ∷ []

pub document_skip : (k : ℕ) (rest : List ℕ) → document_at k rest ≡ document_at 0 (drop k rest)
unfolding document_at
document_skip zero rest = refl
document_skip (suc k) [] = refl
document_skip (suc k) (b ∷ rest) = document_skip k rest

pub document_part : (rest : List ℕ) (x : Option Statement) (n : ℕ) → 0 < n → n ≤ length rest → document_part_at rest ≡ Ok (x, drop n rest) → document_at 0 rest ≡ with_part x (document_at 0 (drop n rest))
unfolding document_at
document_part [] x n pos le e = absurd (omega arith)
document_part (b ∷ rest) x zero pos le e = absurd (omega arith)
document_part (b ∷ rest) x (suc n) pos le e =
    let left : length (drop n rest) ≡ length rest - n = length-drop n rest in
    let k : length rest - length (drop n rest) ≡ n = omega arith in
    rw e (ap (λ (m : ℕ). with_part x (document_at m rest)) k ∙ ap (with_part x) (document_skip n rest))

pub after_part : (quads : List Statement) (x : Option Statement) (read : TextRead (List Statement)) → after_quads quads (with_part x read) ≡ after_quads (quads ++ part_list x) read
after_part quads None (Ok y) = ap (λ (q : List Statement). Ok (q ++ y.0, y.1)) (sym (append-nil quads))
after_part quads None (Err f) = refl
after_part quads (Some q) (Ok y) = ap (λ (t : List Statement). Ok (t, y.1)) (sym (append_assoc quads (q ∷ []) y.0))
after_part quads (Some q) (Err f) = refl

the_sum : (at next : ℕ) → at < next → next ≡ at + (next - at)
the_sum at next lt = omega arith

pub part_read : (text : List ℕ) (quads : List Statement) (at next : ℕ) (x : Option Statement) (total : TextRead (List Statement)) → at < next → next ≤ length text
    → document_part_at (drop at text) ≡ Ok (x, drop next text) → after_quads quads (document_at 0 (drop at text)) ≡ total → after_quads (quads ++ part_list x) (document_at 0 (drop next text)) ≡ total
part_read text quads at next x total lt le e so_far =
    let left : length (drop at text) ≡ length text - at = length-drop at text in
    let same : drop next text ≡ drop (next - at) (drop at text) = ap (λ (k : ℕ). drop k text) (the_sum at next lt) ∙ sym (drop-drop (next - at) at text) in
    let one = document_part (drop at text) x (next - at) (omega arith) (omega arith) (e ∙ ap (λ (t : List ℕ). Ok (x, t)) same) in
    ap (λ (t : List ℕ). after_quads (quads ++ part_list x) (document_at 0 t)) same
    ∙ sym (after_part quads x (document_at 0 (drop (next - at) (drop at text)))) ∙ ap (after_quads quads) (sym one) ∙ so_far

pub document_ends : (text : List ℕ) (quads : List Statement) (at : ℕ) (total : TextRead (List Statement)) → length text ≤ at
    → after_quads quads (document_at 0 (drop at text)) ≡ total → total ≡ Ok (quads, [])
unfolding document_at
document_ends text quads at total le so_far =
    let none : drop at text ≡ [] = drop_all at text le in
    sym so_far ∙ ap (λ (t : List ℕ). after_quads quads (document_at 0 t)) none ∙ ap (λ (q : List Statement). Ok (q, [])) (append-nil quads)

pub part_fails : (rest : List ℕ) (f : TextFault) → 0 < length rest → document_part_at rest ≡ Err f → document_at 0 rest ≡ Err f
unfolding document_at
part_fails [] f pos e = absurd (omega arith)
part_fails (b ∷ rest) f pos e = rw e refl

pub document_fails : (text : List ℕ) (quads : List Statement) (at : ℕ) (f : TextFault) (total : TextRead (List Statement)) → at < length text → document_part_at (drop at text) ≡ Err f
    → after_quads quads (document_at 0 (drop at text)) ≡ total → total ≡ Err f
document_fails text quads at f total lt e so_far = sym so_far ∙ ap (after_quads quads) (part_fails (drop at text) f (omega (arith, length-drop at text)) e)

pub document_fails_on : (text : List ℕ) (quads : List Statement) (at : ℕ) (e : ReadFault) (total : TextRead (List Statement)) → at < length text → Fails text e (document_part_at (drop at text))
    → after_quads quads (document_at 0 (drop at text)) ≡ total → Fails text e total
document_fails_on text quads at (At place kind) total lt f so_far = (document_fails text quads at (kind, drop place text) total lt f.0 so_far, f.1)
document_fails_on text quads at OutOfMemory total lt f so_far = tt
