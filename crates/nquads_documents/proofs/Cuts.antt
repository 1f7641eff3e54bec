-- Bytes that are cut into lines.
use Rattle.std.proofs.Common.{◌≡◌, ℕ, ◌+◌, ◌-◌, ◌<◌, ◌≤◌, List, [], ◌∷◌, ◌++◌, length, take, drop, get_or, refl, ap, subst, ◌∙◌, arith}
use Rattle.std.specs.List.{slice_range}
use Rattle.std.proofs.lemmas.List.{drop_at, drop_more, drop-append-le, length-append, length-drop, take-append-le, take_all}
use Rattle.nquads_documents.specs.Shown.{AreCuts, cut_lines}

-- the first of the lines that are left
pub cuts_here : (bytes ends : List ℕ) (from i : ℕ) → i < length ends → AreCuts bytes from (drop i ends) → (from ≤ get_or ends i 0) × (get_or ends i 0 ≤ length bytes) × AreCuts bytes (get_or ends i 0) (drop (i + 1) ends)
cuts_here bytes ends from i lt cuts = subst (AreCuts bytes from) (drop_more ends i 0 lt) cuts

pub cut_here : (bytes ends : List ℕ) (from i : ℕ) → i < length ends → cut_lines bytes from (drop i ends) ≡ slice_range bytes from (get_or ends i 0) ∷ cut_lines bytes (get_or ends i 0) (drop (i + 1) ends)
cut_here bytes ends from i lt = ap (cut_lines bytes from) (drop_more ends i 0 lt)

-- ---- more bytes behind them, as one more line

slice_stays : (bytes more : List ℕ) (from end : ℕ) → from ≤ end → end ≤ length bytes → slice_range (bytes ++ more) from end ≡ slice_range bytes from end
slice_stays bytes more from end low high =
    let left = length-drop from bytes in
    ap (take (end - from)) (drop-append-le from bytes more (omega arith)) ∙ take-append-le (end - from) (drop from bytes) more (omega arith)

slice_last : (bytes more : List ℕ) → slice_range (bytes ++ more) (length bytes) (length (bytes ++ more)) ≡ more
slice_last bytes more =
    ap (take (length (bytes ++ more) - length bytes)) (drop_at bytes more (length bytes) refl) ∙ take_all (length (bytes ++ more) - length bytes) more (omega (arith, length-append bytes more))

pub cuts_more : (bytes more ends : List ℕ) (from : ℕ) → AreCuts bytes from ends → AreCuts (bytes ++ more) from (ends ++ length (bytes ++ more) ∷ [])
cuts_more bytes more [] from e = (omega (arith, e, length-append bytes more), omega arith, refl)
cuts_more bytes more (end ∷ ends) from cuts = (cuts.0, omega (arith, cuts.1, length-append bytes more), cuts_more bytes more ends end cuts.2)

pub cut_more : (bytes more ends : List ℕ) (from : ℕ) → AreCuts bytes from ends → cut_lines (bytes ++ more) from (ends ++ length (bytes ++ more) ∷ []) ≡ cut_lines bytes from ends ++ more ∷ []
cut_more bytes more [] from e =
    ap (λ (k : ℕ). slice_range (bytes ++ more) k (length (bytes ++ more)) ∷ []) e ∙ ap (λ (l : List ℕ). l ∷ []) (slice_last bytes more)
cut_more bytes more (end ∷ ends) from cuts =
    ap (λ (l : List ℕ). l ∷ cut_lines (bytes ++ more) end (ends ++ length (bytes ++ more) ∷ [])) (slice_stays bytes more from end cuts.0 cuts.1)
    ∙ ap (λ (ls : List (List ℕ)). slice_range bytes from end ∷ ls) (cut_more bytes more ends end cuts.2)
