-- A blank node is read exactly where the grammar has one, and its fault is met exactly where the table has one.
use Rattle.std.proofs.Common.{◌≡◌, ℕ, ◌+◌, ◌-◌, ◌≤◌, true, cond, List, [], ◌∷◌, ◌++◌, length, take, drop, Ok, Err, nat_eq, refl, sym, ap, subst, ◌∙◌, ⊎_elim, arith, append_assoc}
use Rattle.std.specs.Char.{encode_utf8}
use Rattle.std.specs.Str.{encode_utf8_all}
use Rattle.std.proofs.lemmas.Bool.{eqb-true, and_parts}
use Rattle.std.proofs.lemmas.List.{take_at, drop_at}
use lib.Utf8.{scalar, scalars}
use Rattle.rdf_terms.specs.Names.{begins_name}
use Rattle.rdf_terms.specs.Label.{IsLabel, LabelChars}
use Rattle.nquads_text.specs.declared.fault.TextKind.TheVariants.{BadLabel}
use Rattle.nquads_text.specs.Fault.{TextFault}
use Rattle.nquads_text.specs.Reading.{char_at}
use Rattle.nquads_text.specs.Terms.{name_len, name_at, label_at}
use Rattle.nquads_text.specs.Grammar.{Longest, BlankNode}
use Rattle.nquads_text.specs.Faults.{Lacks, LabelFault}
use Rattle.nquads_text.proofs.Fronts.{char_at-ascii, char_again}
use Rattle.nquads_text.proofs.Steps.{bind_ok, chosen, ok_is, not_ok, not_both}
use Rattle.nquads_text.proofs.Inside.{low_char}
use Rattle.nquads_text.proofs.LabelLaws.{name_is_label}
use Rattle.nquads_text.proofs.LabelLongest.{no_longer}
use Rattle.nquads_text.proofs.Needed.{needed_fault, needed_lacks}

-- the longest text of a form is one
pub longest_same : (Form : List ℕ → Type 0) (text a x b y : List ℕ) → Longest Form text a x → Longest Form text b y → (a ≡ b) × (x ≡ y)
longest_same Form text a x b y p q =
    let le : length a ≤ length b = q.2 a x p.0 p.1 in
    let ge : length b ≤ length a = p.2 b y q.0 q.1 in
    let same : length a ≡ length b = omega arith in (
      sym (take_at a x (length a) refl) ∙ ap (take (length a)) (sym p.1 ∙ q.1) ∙ take_at b y (length a) (sym same),
      sym (drop_at a x (length a) refl) ∙ ap (drop (length a)) (sym p.1 ∙ q.1) ∙ drop_at b y (length a) (sym same),
    )

abbrev size_of : List ℕ → ℕ × List ℕ → ℕ
size_of behind first = (length behind - length first.1) + name_len 0 first.1

name_is_longest : (behind : List ℕ) (first : ℕ × List ℕ) → char_at behind ≡ Ok first → begins_name first.0 ≡ true
    → Longest IsLabel behind (take (size_of behind first) behind) (drop (size_of behind first) behind)
name_is_longest behind first read begins =
    let l = name_is_label behind first read begins in
    let front : take (size_of behind first) behind ≡ l.0 = ap (take (size_of behind first)) l.3 ∙ take_at l.0 l.1 (size_of behind first) (sym l.4) in
    let back : drop (size_of behind first) behind ≡ l.1 = ap (drop (size_of behind first)) l.3 ∙ drop_at l.0 l.1 (size_of behind first) (sym l.4) in
    let size : size_of behind first ≡ length l.0 = l.4 in
    let count : length (take (size_of behind first) behind) ≡ length l.0 = ap length front in (
      subst IsLabel (sym front) l.2,
      l.3 ∙ ap (λ (t : List ℕ). t ++ l.1) (sym front) ∙ ap (λ (t : List ℕ). take (size_of behind first) behind ++ t) (sym back),
      λ longer rest is parts. let le = no_longer behind first read longer rest is parts in omega (arith, le, size, count),
    )

label_starts : (behind label after : List ℕ) → IsLabel label → behind ≡ label ++ after → (first : ℕ × List ℕ) × (char_at behind ≡ Ok first) × (begins_name first.0 ≡ true)
unfolding IsLabel
label_starts behind label after l parts = by l.0 l.1 l.2 l.3
  where
    by : (chars : List ℕ) → scalars chars ≡ true → label ≡ encode_utf8_all chars → LabelChars chars → (first : ℕ × List ℕ) × (char_at behind ≡ Ok first) × (begins_name first.0 ≡ true)
    by [] s v none = absurd none
    by (c ∷ cs) s v is =
        let split : behind ≡ encode_utf8 c ++ (encode_utf8_all cs ++ after) = parts ∙ ap (λ (b : List ℕ). b ++ after) v ∙ append_assoc (encode_utf8 c) (encode_utf8_all cs) after in
        ((c, encode_utf8_all cs ++ after), ap char_at split ∙ char_again c (encode_utf8_all cs ++ after) (and_parts (scalar c) (scalars cs) s).0, is.0)

pub label_found : (rest label after : List ℕ) → label_at (95 ∷ rest) rest ≡ Ok (label, after) → BlankNode (95 ∷ rest) label after
unfolding label_at name_at
label_found rest label after e =
    let p = bind_ok (char_at rest) (λ (colon : ℕ × List ℕ). cond (nat_eq colon.0 58) (name_at (95 ∷ rest) colon.1) (Err (BadLabel, 95 ∷ rest))) (label, after) e in
    let colon = p.0 in
    ⊎_elim
    (λ yes.
    let behind = colon.1 in
    let q = bind_ok (char_at behind) (λ (first : ℕ × List ℕ). cond (begins_name first.0) (Ok (take (size_of behind first) behind, drop (size_of behind first) behind)) (Err (BadLabel, 95 ∷ rest))) (label, after) yes.1 in
    let first = q.0 in
    ⊎_elim
    (λ begins.
    let same = ok_is (take (size_of behind first) behind, drop (size_of behind first) behind) (label, after) begins.1 in (
      behind,
      ap (λ (t : List ℕ). 95 ∷ t) (low_char rest colon 58 p.1 (eqb-true colon.0 58 yes.0) (omega arith)),
      subst (λ (v : List ℕ × List ℕ). Longest IsLabel behind v.0 v.1) same (name_is_longest behind first q.1 begins.0),
    ))
    (λ other. absurd (not_ok (label, after) (BadLabel, 95 ∷ rest) other.1))
    (chosen (begins_name first.0) (Ok (take (size_of behind first) behind, drop (size_of behind first) behind)) (Err (BadLabel, 95 ∷ rest)) (Ok (label, after)) q.2))
    (λ other. absurd (not_ok (label, after) (BadLabel, 95 ∷ rest) other.1))
    (chosen (nat_eq colon.0 58) (name_at (95 ∷ rest) colon.1) (Err (BadLabel, 95 ∷ rest)) (Ok (label, after)) p.2)

pub label_is_read : (start behind label after : List ℕ) → Longest IsLabel behind label after → label_at start (58 ∷ behind) ≡ Ok (label, after)
unfolding label_at name_at
label_is_read start behind label after l =
    let s = label_starts behind label after l.0 l.1 in
    let same = longest_same IsLabel behind (take (size_of behind s.0) behind) (drop (size_of behind s.0) behind) label after (name_is_longest behind s.0 s.1 s.2) l in
    rw (char_at-ascii 58 behind (omega arith), s.1, s.2) (ap (λ (t : List ℕ). Ok (t, drop (size_of behind s.0) behind)) same.0 ∙ ap (λ (t : List ℕ). Ok (label, t)) same.1)

pub blank_is_read : (rest label after : List ℕ) → BlankNode (95 ∷ rest) label after → label_at (95 ∷ rest) rest ≡ Ok (label, after)
blank_is_read rest label after b =
    let opened = b.1 in
    let same : rest ≡ 58 ∷ b.0 = cc in
    ap (label_at (95 ∷ rest)) same ∙ label_is_read (95 ∷ rest) b.0 label after b.2

pub label_fault : (rest : List ℕ) (f : TextFault) → label_at (95 ∷ rest) rest ≡ Err f → LabelFault (95 ∷ rest) f
unfolding label_at name_at
label_fault rest f e =
    ⊎_elim
    (λ lacks. LabelFault.colon rest refl lacks)
    (λ there.
    let behind = there.0.1 in
    let shape : rest ≡ 58 ∷ behind = low_char rest there.0 58 there.1 (eqb-true there.0.0 58 there.2) (omega arith) in
    ⊎_elim
    (λ lacks. LabelFault.first behind (ap (λ (t : List ℕ). 95 ∷ t) shape) lacks)
    (λ whole. absurd (not_both (take (size_of behind whole.0) behind, drop (size_of behind whole.0) behind) f whole.3))
    (needed_fault begins_name behind (BadLabel, 95 ∷ rest) f (λ (first : ℕ × List ℕ). Ok (take (size_of behind first) behind, drop (size_of behind first) behind)) there.3))
    (needed_fault (λ (c : ℕ). nat_eq c 58) rest (BadLabel, 95 ∷ rest) f (λ (colon : ℕ × List ℕ). name_at (95 ∷ rest) colon.1) e)

name_lacks : (start behind : List ℕ) (f : TextFault) → Lacks begins_name behind (BadLabel, start) f → name_at start behind ≡ Err f
unfolding name_at
name_lacks start behind f l = needed_lacks begins_name behind (BadLabel, start) f (λ (first : ℕ × List ℕ). Ok (take (size_of behind first) behind, drop (size_of behind first) behind)) l

pub label_lacks : (rest : List ℕ) (f : TextFault) → LabelFault (95 ∷ rest) f → label_at (95 ∷ rest) rest ≡ Err f
unfolding label_at
label_lacks rest f (LabelFault.colon there shape l) =
    let same : there ≡ rest = cc in
    needed_lacks (λ (c : ℕ). nat_eq c 58) rest (BadLabel, 95 ∷ rest) f (λ (colon : ℕ × List ℕ). name_at (95 ∷ rest) colon.1)
    (subst (λ (t : List ℕ). Lacks (λ (c : ℕ). nat_eq c 58) t (BadLabel, 95 ∷ rest) f) same l)
label_lacks rest f (LabelFault.first behind shape l) =
    let front : rest ≡ 58 ∷ behind = cc in
    rw (ap char_at front ∙ char_at-ascii 58 behind (omega arith)) (name_lacks (95 ∷ rest) behind f l)
