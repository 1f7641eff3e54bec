-- The label that is read is the longest one that stands there.
use Rattle.std.proofs.Common.{◌≡◌, ℕ, ◌+◌, ◌-◌, ◌≤◌, true, List, [], ◌∷◌, ◌++◌, length, Ok, sym, ap, ◌∙◌, arith, append_assoc}
use Rattle.std.specs.Char.{encode_utf8}
use Rattle.std.specs.Str.{encode_utf8_all}
use Rattle.std.proofs.lemmas.Bool.{and_parts}
use Rattle.std.proofs.lemmas.List.{length-append}
use lib.Utf8.{scalar, scalars}
use Rattle.rdf_terms.specs.Label.{LabelChars, IsLabel}
use Rattle.nquads_text.specs.Reading.{char_at}
use Rattle.nquads_text.specs.Terms.{name_len}
use Rattle.nquads_text.proofs.Fronts.{char_again}
use Rattle.nquads_text.proofs.Steps.{ok_is}
use Rattle.nquads_text.proofs.LabelAgain.{inner_again}

pub no_longer : (rest : List ℕ) (first : ℕ × List ℕ) → char_at rest ≡ Ok first → (longer after : List ℕ) → IsLabel longer → rest ≡ longer ++ after
    → length longer ≤ (length rest - length first.1) + name_len 0 first.1
unfolding IsLabel
no_longer rest first e longer after l parts = by l.0 l.1 l.2 l.3
  where
    by : (chars : List ℕ) → scalars chars ≡ true → longer ≡ encode_utf8_all chars → LabelChars chars → length longer ≤ (length rest - length first.1) + name_len 0 first.1
    by [] s v none = absurd none
    by (c ∷ cs) s v is =
        let t = and_parts (scalar c) (scalars cs) s in
        let tail : List ℕ = encode_utf8_all cs ++ after in
        let split : rest ≡ encode_utf8 c ++ (encode_utf8_all cs ++ after) = parts ∙ ap (λ (b : List ℕ). b ++ after) v ∙ append_assoc (encode_utf8 c) (encode_utf8_all cs) after in
        let read : Ok first ≡ Ok (c, encode_utf8_all cs ++ after) = sym e ∙ ap char_at split ∙ char_again c (encode_utf8_all cs ++ after) t.0 in
        let behind : first.1 ≡ encode_utf8_all cs ++ after = ap (λ (x : ℕ × List ℕ). x.1) (ok_is first (c, encode_utf8_all cs ++ after) read) in
        let n : name_len 0 first.1 ≡ length (encode_utf8_all cs) + name_len 0 after = ap (name_len 0) behind ∙ inner_again cs after t.1 is.1 in
        let l1 : length rest ≡ length (encode_utf8 c) + length (encode_utf8_all cs ++ after) = ap length split ∙ length-append (encode_utf8 c) (encode_utf8_all cs ++ after) in
        let l2 : length first.1 ≡ length (encode_utf8_all cs ++ after) = ap length behind in
        let l3 : length longer ≡ length (encode_utf8 c) + length (encode_utf8_all cs) = ap length v ∙ length-append (encode_utf8 c) (encode_utf8_all cs) in
        omega arith
