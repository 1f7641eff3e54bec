use Rattle.std.proofs.Common.{◌≡◌, ℕ, List, [], ◌∷◌, ◌++◌, ap, ◌∙◌, append_assoc}
use Rattle.std.specs.Prelude.{codes}
use Rattle.std.specs.Fmt.{decimal}
use Rattle.std.specs.Global.{Vec}
use Rattle.command_tables.proofs.lines.refused_line.Goals as goal

-- what is pushed piece by piece
message : (front status between body t0 t1 t2 : List ℕ) → t0 ≡ front ++ (status ++ between) → t1 ≡ t0 ++ body → t2 ≡ t1 ++ 10 ∷ [] → t2 ≡ front ++ (status ++ (between ++ (body ++ 10 ∷ [])))
message front status between body t0 t1 t2 e0 e1 e2 =
    e2 ∙ ap (λ (l : List ℕ). l ++ 10 ∷ []) (e1 ∙ ap (λ (l : List ℕ). l ++ body) e0) ∙ simp append_assoc

pub returns : goal.returns
returns c =
    let text = c.into_bytes-text.result.items in
    message (codes "rdfdelta: refused: ") (decimal c.args.status) (codes " ") c.args.body.now text c.extend_from_slice.new.self.items c.push.new.self.items
    (ap (λ (v : Vec ℕ). v.items) c.into_bytes-text.ensures.value ∙ c.in_ok-front.ensures.ok) (c.in_ok-extend_from_slice.ensures.items ∙ ap (λ (l : List ℕ). text ++ l) c.as_slice.ensures)
    c.in_ok-push.ensures.items
