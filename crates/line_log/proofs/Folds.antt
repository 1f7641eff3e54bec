-- Edits one after another.
use Rattle.std.proofs.Common.{◌≡◌, ℕ, Bool, List, [], ◌∷◌, ◌++◌, refl, sym, ap, ◌∙◌}
use Rattle.line_log.specs.Edits.{edit_lines, edited, made}

-- ---- later edits go on from what earlier ones made

pub edited_append : (es more : List (Bool × List ℕ)) (lines : List (List ℕ)) → edited (es ++ more) lines ≡ edited more (edited es lines)
edited_append [] more lines = refl
edited_append (e ∷ es) more lines = edited_append es more (edit_lines e lines)

pub made_append : (es more : List (Bool × List ℕ)) → made (es ++ more) ≡ edited more (made es)
made_append es more = edited_append es more []

-- edits that make the same lines do so whatever comes later
pub made_later : (es fs more : List (Bool × List ℕ)) → made es ≡ made fs → made (es ++ more) ≡ made (fs ++ more)
made_later es fs more same = made_append es more ∙ ap (edited more) same ∙ sym (made_append fs more)
