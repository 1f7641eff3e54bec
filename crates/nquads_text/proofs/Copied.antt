-- Literals that are written as they are read.
use Rattle.std.proofs.Common.{◌≡◌, ◌+◌, ◌<◌, ◌≤◌, ℕ, List, ◌∷◌, [], ◌++◌, length, drop, get_or, Some, None, Result, Ok, Err, refl, sym, ap, ◌∙◌, arith, append_assoc}
use Rattle.std.specs.Prelude.{encode_utf8}
use Rattle.std.specs.List.{flat_map}
use Rattle.std.proofs.lemmas.List.{drop_more}
use Rattle.std.proofs.lemmas.List.Concat.{flat_map-append}
use Rattle.rdf_terms.specs.Line.{escaped, kind_text, quoted, term_text}
use Rattle.rdf_terms.specs.declared.term.LiteralKind.{LiteralKind}
use Rattle.rdf_terms.specs.declared.term.Literal.{Literal}
use Rattle.rdf_terms.specs.declared.term.Term.TheVariants as term
use Rattle.nquads_text.specs.declared.fault.ReadFault.{ReadFault}
use Rattle.nquads_text.specs.Fault.{Fails, Pushes, ◌>>=◌}
use Rattle.nquads_text.specs.Reading.{char_at, string_body_at, string_piece, with_front}
use Rattle.nquads_text.specs.Terms.{literal_at, suffix_at, term_at}
use Rattle.nquads_text.proofs.Fronts.{char_at-ascii}
use Rattle.nquads_text.proofs.Runs.{last, more, with_front-twice}
use Rattle.nquads_text.proofs.Steps.{fails_then}

-- what was read before a place of a string that begins at `start`, and is written behind a quote
abbrev pub IsWritten : List ℕ → ℕ → ℕ → List ℕ → List ℕ → List ℕ → Type 0
IsWritten text start at old new front = (new ≡ old ++ (34 ∷ flat_map escaped front)) × (with_front front (string_body_at (drop at text)) ≡ string_body_at (drop start text))

written_more : (old new out front piece : List ℕ) → new ≡ old ++ (34 ∷ flat_map escaped front) → out ≡ new ++ flat_map escaped piece → out ≡ old ++ (34 ∷ flat_map escaped (front ++ piece))
written_more old new out front piece so_far e =
    e
    ∙ ap (λ (t : List ℕ). t ++ flat_map escaped piece) so_far
    ∙ append_assoc old (34 ∷ flat_map escaped front) (flat_map escaped piece)
    ∙ ap (λ (t : List ℕ). old ++ (34 ∷ t)) (sym (flat_map-append escaped front piece))

module _ (text old new : List ℕ) (start at : ℕ) (front : List ℕ) (so_far : IsWritten text start at old new front) where
  -- a run behind it
  pub run_is_written : (out run : List ℕ) (next : ℕ) → out ≡ new ++ flat_map escaped run → with_front run (string_body_at (drop next text)) ≡ string_body_at (drop at text)
      → IsWritten text start next old out (front ++ run)
  run_is_written out run next e same =
      (written_more old new out front run so_far.0 e, sym (with_front-twice front run (string_body_at (drop next text))) ∙ ap (with_front front) same ∙ so_far.1)

  -- a character behind it
  pub char_is_written : (out : List ℕ) (next c : ℕ) → at < next → next ≤ length text → string_piece (drop at text) ≡ Ok (Some c, drop next text) → out ≡ new ++ flat_map escaped (encode_utf8 c)
      → IsWritten text start next old out (front ++ encode_utf8 c)
  char_is_written out next c further within e written = (written_more old new out front (encode_utf8 c) so_far.0 written, more string_piece text front at next c (string_body_at (drop start text)) further within e so_far.1)

  -- the closing quote behind it
  pub string_is_written : (out : List ℕ) (next : ℕ) → at < next → next ≤ length text → string_piece (drop at text) ≡ Ok (None, drop next text) → out ≡ new ++ 34 ∷ []
      → Pushes quoted text old out (Ok next) (string_body_at (drop start text))
  string_is_written out next further within e closed = (
    front,
    last string_piece text front at next (string_body_at (drop start text)) further within e so_far.1,
    within,
    closed ∙ ap (λ (t : List ℕ). t ++ 34 ∷ []) so_far.0 ∙ append_assoc old (34 ∷ flat_map escaped front) (34 ∷ []),
  )

-- ---- literals

pub string_is_missing : (text start rest : List ℕ) (e : ReadFault) → Fails text e (string_body_at rest) → Fails text e (literal_at start rest)
unfolding literal_at
string_is_missing text start rest e f = fails_then text e (string_body_at rest) _ f

module _ (text old mid start rest : List ℕ) (behind : ℕ) (string : Pushes quoted text old mid (Ok behind) (string_body_at rest)) where
  pub kind_is_missing : (e : ReadFault) → Fails text e (suffix_at start (drop behind text)) → Fails text e (literal_at start rest)
  unfolding literal_at
  kind_is_missing e f = rw string.1 (fails_then text e (suffix_at start (drop behind text)) _ f)

  pub literal_is_written : (new : List ℕ) (end : ℕ) (kind : LiteralKind) → suffix_at start (drop behind text) ≡ Ok (kind, drop end text) → end ≤ length text → new ≡ mid ++ kind_text kind
      → Pushes (λ (l : Literal). quoted l.lexical ++ kind_text l.kind) text old new (Ok end) (literal_at start rest)
  unfolding literal_at
  literal_is_written new end kind e within written =
      (record { lexical = string.0; kind = kind }, rw (string.1, e) refl, within, written ∙ ap (λ (t : List ℕ). t ++ kind_text kind) string.3 ∙ append_assoc old (quoted string.0) (kind_text kind))

-- ---- terms

quote_first : (text : List ℕ) (at : ℕ) → at < length text → get_or text at 0 ≡ 34
    → term_at (drop at text) ≡ (literal_at (drop at text) (drop (at + 1) text) >>= λ (l : Literal × List ℕ). Ok (term.Literal l.0, l.1))
unfolding term_at
quote_first text at lt quote =
    let shape : drop at text ≡ 34 ∷ drop (at + 1) text = drop_more text at 0 lt ∙ ap (λ (b : ℕ). b ∷ drop (at + 1) text) quote in
    let first : char_at (drop at text) ≡ Ok (34, drop (at + 1) text) = ap char_at shape ∙ char_at-ascii 34 (drop (at + 1) text) (omega arith) in
    rw first refl

pub literal_is_term : (text old new : List ℕ) (at : ℕ) (result : Result ℕ ReadFault) → at < length text → get_or text at 0 ≡ 34
    → Pushes (λ (l : Literal). quoted l.lexical ++ kind_text l.kind) text old new result (literal_at (drop at text) (drop (at + 1) text)) → Pushes term_text text old new result (term_at (drop at text))
literal_is_term text old new at (Ok end) lt quote p = (term.Literal p.0, rw (quote_first text at lt quote, p.1) refl, p.2, p.3)
literal_is_term text old new at (Err e) lt quote f = rw (quote_first text at lt quote) (fails_then text e (literal_at (drop at text) (drop (at + 1) text)) _ f)
