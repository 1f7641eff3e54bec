-- What stands between two places of a text, as bytes in front of what follows.
use Rattle.std.proofs.Common.{◌≡◌, ℕ, ◌+◌, ◌-◌, ◌<◌, ◌≤◌, List, ◌∷◌, [], ◌++◌, length, take, drop, get_or, refl, sym, ap, ◌∙◌, arith, append_assoc}
use Rattle.std.specs.List.{slice_range}
use Rattle.std.proofs.lemmas.List.{drop_more, drop_at, drop-drop, get_or-drop, length-drop, length-append, take_at}
use Rattle.std.proofs.lemmas.List.Folds.{drop_split}
use Rattle.canonical_scan.specs.Parts.{Stands}

-- a byte in front
pub at_byte : (b : ℕ) (text : List ℕ) (at next : ℕ) → at < length text → next ≡ at + 1 → get_or text at 0 ≡ b → drop at text ≡ b ∷ drop next text
at_byte b text at next lt e is = drop_more text at 0 lt ∙ ap (λ (x : ℕ). x ∷ drop (at + 1) text) is ∙ ap (λ (k : ℕ). b ∷ drop k text) (sym e)

-- bytes between an opening and a closing one
pub enclosed : (opening closing : ℕ) (text : List ℕ) (at from close end : ℕ) → at < length text → from ≡ at + 1 → from ≤ close → close < length text → end ≡ close + 1
    → get_or text at 0 ≡ opening → get_or text close 0 ≡ closing → Stands ((opening ∷ slice_range text from close) ++ (closing ∷ [])) text at end
enclosed opening closing text at from close end lt next low inside behind opens closes =
    let body : List ℕ = slice_range text from close in
    record {
      is =
          at_byte opening text at from lt next opens
          ∙ ap (λ (t : List ℕ). opening ∷ t) (drop_split text from close low ∙ ap (λ (t : List ℕ). body ++ t) (at_byte closing text close end inside behind closes))
          ∙ sym (append_assoc (opening ∷ body) (closing ∷ []) (drop end text));
      low = omega arith;
      high = omega arith;
    }

-- a byte, and others behind it
pub behind_byte : (b : ℕ) (bytes text : List ℕ) (at from end : ℕ) → at < length text → from ≡ at + 1 → get_or text at 0 ≡ b → Stands bytes text from end → Stands (b ∷ bytes) text at end
behind_byte b bytes text at from end lt next is s = record {
  is = at_byte b text at from lt next is ∙ ap (λ (t : List ℕ). b ∷ t) s.is;
  low = omega (arith, s.low);
  high = s.high;
}

-- bytes, and others behind them
pub stands_joined : (a b text : List ℕ) (at mid end : ℕ) → Stands a text at mid → Stands b text mid end → Stands (a ++ b) text at end
stands_joined a b text at mid end x y = record {
  is = x.is ∙ ap (λ (t : List ℕ). a ++ t) y.is ∙ sym (append_assoc a b (drop end text));
  low = omega (arith, x.low, y.low);
  high = y.high;
}

pub stands_nothing : (text : List ℕ) (at : ℕ) → at ≤ length text → Stands [] text at at
stands_nothing text at le = record { is = refl; low = omega arith; high = le }

-- what stands between two places
pub stands_slice : (text : List ℕ) (at end : ℕ) → at ≤ end → end ≤ length text → Stands (slice_range text at end) text at end
stands_slice text at end low high = record { is = drop_split text at end low; low = low; high = high }

-- such bytes are as many as lie between the places
pub stands_size : (bytes text : List ℕ) (at end : ℕ) → Stands bytes text at end → at + length bytes ≡ end
stands_size bytes text at end s =
    let l : length (drop at text) ≡ length text - at = length-drop at text in
    let r : length (drop end text) ≡ length text - end = length-drop end text in
    let both : length (drop at text) ≡ length bytes + length (drop end text) = ap length s.is ∙ length-append bytes (drop end text) in
    omega (arith, s.low, s.high)

-- such bytes are those between the places
pub slice_stands : (bytes text : List ℕ) (at end : ℕ) → Stands bytes text at end → slice_range text at end ≡ bytes
slice_stands bytes text at end s =
    let size : length bytes ≡ end - at = omega (arith, stands_size bytes text at end s) in
    ap (take (end - at)) s.is ∙ take_at bytes (drop end text) (end - at) size

-- bytes in front of others, and those
pub stands_split : (a b text : List ℕ) (at mid end : ℕ) → Stands (a ++ b) text at end → mid ≡ at + length a → Stands a text at mid × Stands b text mid end
stands_split a b text at mid end s m =
    let size = stands_size (a ++ b) text at end s in
    let count : length (a ++ b) ≡ length a + length b = length-append a b in
    let whole : drop at text ≡ a ++ (b ++ drop end text) = s.is ∙ append_assoc a b (drop end text) in
    let behind : drop mid text ≡ b ++ drop end text = ap (λ (k : ℕ). drop k text) m ∙ place at (length a) ∙ ap (drop (length a)) whole ∙ drop_at a (b ++ drop end text) (length a) refl in (
      record { is = whole ∙ ap (λ (t : List ℕ). a ++ t) (sym behind); low = omega arith; high = omega (arith, size, count, s.high) },
      record { is = behind; low = omega (arith, size, count); high = s.high },
    )
  where
    place : (k n : ℕ) → drop (k + n) text ≡ drop n (drop k text)
    place k n = sym (drop-drop n k text)

-- the first of them
pub stands_first : (b : ℕ) (bytes text : List ℕ) (at end : ℕ) → Stands (b ∷ bytes) text at end → (get_or text at 0 ≡ b) × (at < length text)
stands_first b bytes text at end s =
    let size = stands_size (b ∷ bytes) text at end s in
    let here : get_or (drop at text) 0 0 ≡ get_or text (at + 0) 0 = get_or-drop at text 0 0 in
    let same : get_or text (at + 0) 0 ≡ get_or text at 0 = ap (λ (k : ℕ). get_or text k 0) (plus_zero at) in
    (sym same ∙ sym here ∙ ap (λ (t : List ℕ). get_or t 0 0) s.is, omega (arith, size, s.high))
  where
    plus_zero : (k : ℕ) → k + 0 ≡ k
    plus_zero k = omega arith

-- what stands between an opening and a closing byte
pub stands_inside : (opening closing : ℕ) (body text : List ℕ) (at end : ℕ) → Stands ((opening ∷ body) ++ (closing ∷ [])) text at end → Stands body text (at + 1) (end - 1)
stands_inside opening closing body text at end s =
    let size = stands_size ((opening ∷ body) ++ (closing ∷ [])) text at end s in
    let count : length ((opening ∷ body) ++ (closing ∷ [])) ≡ length (opening ∷ body) + 1 = length-append (opening ∷ body) (closing ∷ []) in
    let behind = (stands_split (opening ∷ []) (body ++ (closing ∷ [])) text at (at + 1) end s refl).1 in
    (stands_split body (closing ∷ []) text (at + 1) (end - 1) end behind (omega (arith, size, count))).0
