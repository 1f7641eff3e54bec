-- Bytes that stand for themselves.
use Rattle.std.proofs.Common.{◌≡◌, ℕ, zero, suc, ◌+◌, ◌-◌, ◌<◌, ◌≤◌, Bool, ◌||◌, false, List, [], ◌∷◌, ◌++◌, length, take, drop, get_or, Option, Some, Ok, Err, IsTrue, inl, inr, nat_eq, refl, sym, ap, ◌∙◌, arith}
use Rattle.std.proofs.lemmas.List.{drop_more, get_or-take, get_or-drop, get_or_past, length-take}
use Rattle.std.proofs.lemmas.Str.{encode_ascii, IsUtf8-from_ascii}
use Rattle.std.specs.Str.{IsUtf8}
use Rattle.rdf_terms.specs.Iri.{is_forbidden}
use Rattle.std.proofs.lemmas.Bool.{cases_lt}
use Rattle.std.proofs.lemmas.Bool.Decides.{nat_tests}
use Rattle.nquads_text.specs.declared.fault.TextKind.TheVariants.{Truncated}
use Rattle.nquads_text.specs.Fault.{TextRead}
use Rattle.nquads_text.specs.Reading.{char_at, iri_piece, string_piece, is_plain_iri, is_plain_string, with_front, pieces_at}
use Rattle.nquads_text.proofs.Fronts.{char_at-ascii}
use Rattle.nquads_text.proofs.Runs.{pieces-step, with_front-twice}

pub with_nothing : (read : TextRead (List ℕ)) → read ≡ with_front [] read
with_nothing (Ok x) = refl
with_nothing (Err e) = refl

plus_zero : (at : ℕ) → at ≡ at + 0
plus_zero at = omega arith

plus_one : (at n : ℕ) → (at + 1) + n ≡ at + suc n
plus_one at n = omega arith

-- a byte that stands for itself as a piece of a token
pub record StandsForItself (piece : List ℕ → TextRead (Option ℕ)) (b : ℕ) : Type 0 where
  pub low : b < 128
  pub is : (rest : List ℕ) → piece (b ∷ rest) ≡ Ok (Some b, rest)

-- runs of such bytes, for any kind of token
module _ (piece : List ℕ → TextRead (Option ℕ)) (plain : ℕ → Bool) (stands : (b : ℕ) → IsTrue (plain b) → StandsForItself piece b) where
  plain_step : (b : ℕ) (rest : List ℕ) → StandsForItself piece b → pieces_at piece 0 (b ∷ rest) ≡ with_front (b ∷ []) (pieces_at piece 0 rest)
  plain_step b rest p =
      pieces-step piece (b ∷ rest) (Some b) 1 (omega arith) (omega arith) (p.is rest)
      ∙ ap (λ (t : List ℕ). with_front t (pieces_at piece 0 rest)) (encode_ascii b p.low)

  plain_run : (text : List ℕ) (n at : ℕ) → at + n ≤ length text → ((k : ℕ) → at ≤ k → k < at + n → IsTrue (plain (get_or text k 0)))
      → pieces_at piece 0 (drop at text) ≡ with_front (take n (drop at text)) (pieces_at piece 0 (drop (at + n) text))
  plain_run text zero at le all = with_nothing (pieces_at piece 0 (drop at text)) ∙ ap (λ (k : ℕ). with_front [] (pieces_at piece 0 (drop k text))) (plus_zero at)
  plain_run text (suc n) at le all =
      let b : ℕ = get_or text at 0 in
      let first : drop at text ≡ b ∷ drop (at + 1) text = drop_more text at 0 (omega arith) in
      let one : pieces_at piece 0 (drop at text) ≡ with_front (b ∷ []) (pieces_at piece 0 (drop (at + 1) text)) =
      ap (pieces_at piece 0) first ∙ plain_step b (drop (at + 1) text) (stands b (all at (omega arith) (omega arith))) in
      let others = plain_run text n (at + 1) (omega arith) (λ k low high. all k (omega arith) (omega arith)) in
      one
      ∙ ap (with_front (b ∷ [])) others
      ∙ with_front-twice (b ∷ []) (take n (drop (at + 1) text)) (pieces_at piece 0 (drop ((at + 1) + n) text))
      ∙ ap (λ (k : ℕ). with_front (b ∷ take n (drop (at + 1) text)) (pieces_at piece 0 (drop k text))) (plus_one at n)
      ∙ ap (λ (t : List ℕ). with_front (take (suc n) t) (pieces_at piece 0 (drop (at + suc n) text))) (sym first)

  ascii_at : (text : List ℕ) (n at i : ℕ) → ((k : ℕ) → at ≤ k → k < at + n → IsTrue (plain (get_or text k 0))) → get_or (take n (drop at text)) i 0 < 128
  ascii_at text n at i all =
      elim (cases_lt i n) [
        | inl lt ↦ rw (get_or-take n (drop at text) i 0 lt, get_or-drop at text i 0) (stands (get_or text (at + i) 0) (all (at + i) (omega arith) (omega arith))).low
        | inr le ↦ rw (get_or_past (take n (drop at text)) i 0 (omega (arith, length-take n (drop at text)))) (omega arith)
      ]

  -- such bytes between two places are text
  pub plain_between : (text : List ℕ) (at run : ℕ) → at ≤ run → ((k : ℕ) → at ≤ k → k < run → IsTrue (plain (get_or text k 0))) → IsUtf8 (take (run - at) (drop at text))
  plain_between text at run le all =
      let n : ℕ = run - at in
      IsUtf8-from_ascii (take n (drop at text)) (λ i. ascii_at text n at i (λ k low high. all k low (omega arith)))

  -- what was read before, and then such bytes
  pub plain_more : (text out : List ℕ) (at run : ℕ) (total : TextRead (List ℕ)) → at ≤ run → run ≤ length text → ((k : ℕ) → at ≤ k → k < run → IsTrue (plain (get_or text k 0)))
      → with_front out (pieces_at piece 0 (drop at text)) ≡ total → with_front (out ++ take (run - at) (drop at text)) (pieces_at piece 0 (drop run text)) ≡ total
  plain_more text out at run total low high all so_far =
      let n : ℕ = run - at in
      let there : at + n ≡ run = omega arith in
      let one = plain_run text n at (omega arith) (λ k below above. all k below (omega arith)) in
      sym (with_front-twice out (take n (drop at text)) (pieces_at piece 0 (drop run text)))
      ∙ ap (λ (k : ℕ). with_front out (with_front (take n (drop at text)) (pieces_at piece 0 (drop k text)))) (sym there)
      ∙ ap (with_front out) (sym one)
      ∙ so_far

-- ---- inside an IRIREF

record IsPlainIri (b : ℕ) : Type 0 where
  low : b < 128
  allowed : is_forbidden b ≡ false
  no_end : nat_eq b 62 ≡ false
  no_escape : nat_eq b 92 ≡ false

is_plain : (b : ℕ) → IsTrue (is_plain_iri b) → IsPlainIri b
is_plain b e = record {
  low = grind (arith, nat_tests);
  allowed = grind (arith, nat_tests);
  no_end = grind (arith, nat_tests);
  no_escape = grind (arith, nat_tests);
}

pub iri_stands : (b : ℕ) → IsTrue (is_plain_iri b) → StandsForItself iri_piece b
unfolding iri_piece
iri_stands b e =
    let p = is_plain b e in
    record { low = p.low; is = λ rest. rw (char_at-ascii b rest p.low, p.allowed, p.no_end, p.no_escape) refl }

pub iri_piece-nil : iri_piece [] ≡ Err (Truncated, [])
unfolding iri_piece char_at
iri_piece-nil = refl

-- ---- inside a string

record IsPlainString (b : ℕ) : Type 0 where
  low : b < 128
  no_end : nat_eq b 34 ≡ false
  no_escape : nat_eq b 92 ≡ false
  no_break : (nat_eq b 10 || nat_eq b 13) ≡ false

is_plain_in_string : (b : ℕ) → IsTrue (is_plain_string b) → IsPlainString b
is_plain_in_string b e = record {
  low = grind (arith, nat_tests);
  no_end = grind (arith, nat_tests);
  no_escape = grind (arith, nat_tests);
  no_break = grind (arith, nat_tests);
}

pub string_stands : (b : ℕ) → IsTrue (is_plain_string b) → StandsForItself string_piece b
unfolding string_piece
string_stands b e =
    let p = is_plain_in_string b e in
    record { low = p.low; is = λ rest. rw (char_at-ascii b rest p.low, p.no_end, p.no_escape, p.no_break) refl }

pub string_piece-nil : string_piece [] ≡ Err (Truncated, [])
unfolding string_piece char_at
string_piece-nil = refl
