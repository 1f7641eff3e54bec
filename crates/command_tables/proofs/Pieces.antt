-- A line that is made piece by piece.
use Rattle.std.proofs.Common.{◌≡◌, ℕ, List, [], ◌∷◌, ◌++◌, ap, ◌∙◌, append_assoc}

-- a place and what is wrong there, with its line feed, behind what is told of it
pub placed : (front line middle at between kind t0 t1 t2 : List ℕ) → t0 ≡ front ++ (line ++ (middle ++ (at ++ between))) → t1 ≡ t0 ++ kind → t2 ≡ t1 ++ 10 ∷ []
    → t2 ≡ front ++ (line ++ (middle ++ (at ++ (between ++ (kind ++ 10 ∷ [])))))
placed front line middle at between kind t0 t1 t2 e0 e1 e2 =
    e2 ∙ ap (λ (l : List ℕ). l ++ 10 ∷ []) (e1 ∙ ap (λ (l : List ℕ). l ++ kind) e0) ∙ simp append_assoc
