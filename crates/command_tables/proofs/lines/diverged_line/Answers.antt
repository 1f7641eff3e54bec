use Rattle.std.proofs.Common.{◌≡◌, ℕ, List, [], ◌∷◌, ◌++◌, ap, ◌∙◌, append_assoc}
use Rattle.std.specs.Prelude.{codes}
use Rattle.std.specs.Fmt.{decimal}
use Rattle.std.specs.Global.{Vec}
use Rattle.slot_checks.specs.Lines.{id_or_none}
use Rattle.command_tables.proofs.lines.diverged_line.Goals as goal

-- what is pushed piece by piece
message : (front number middle have between found t0 t1 t2 t3 t4 : List ℕ) → t0 ≡ front ++ (number ++ middle) → t1 ≡ t0 ++ have → t2 ≡ t1 ++ between → t3 ≡ t2 ++ found → t4 ≡ t3 ++ 10 ∷ []
    → t4 ≡ front ++ (number ++ (middle ++ (have ++ (between ++ (found ++ 10 ∷ [])))))
message front number middle have between found t0 t1 t2 t3 t4 e0 e1 e2 e3 e4 =
    e4 ∙ ap (λ (l : List ℕ). l ++ 10 ∷ []) (e3 ∙ ap (λ (l : List ℕ). l ++ found) (e2 ∙ ap (λ (l : List ℕ). l ++ between) (e1 ∙ ap (λ (l : List ℕ). l ++ have) e0))) ∙ simp append_assoc

pub returns : goal.returns
returns c =
    message (codes "rdfdelta: diverged at version ") (decimal c.args.version) (codes ": have ") (id_or_none c.args.have) (codes ", found ") (id_or_none c.args.found) c.into_bytes-text.result.items c.push_id.new.text.items
    c.extend_from_slice.new.self.items c.push_id-2.new.text.items c.push.new.self.items (ap (λ (v : Vec ℕ). v.items) c.into_bytes-text.ensures.value ∙ c.in_ok-front.ensures.ok) c.in_ok-push_id.ensures
    c.in_ok-extend_from_slice.ensures.items c.in_ok-push_id-2.ensures c.in_ok-push.ensures.items
