-- Edits whose lines stand one after another in a text.
use Rattle.std.specs.Prelude.{◌≡◌, ℕ, suc, zero, ◌-◌, ◌≤◌, Bool, List, [], ◌∷◌, take, drop}
use Rattle.line_log.specs.declared.edits.Edit.{Edit}

-- the edits with their lines, of which the first begins at a place of the text
abbrev pub cut_edits : ℕ → List Edit → List ℕ → List (Bool × List ℕ)
cut_edits start [] text = []
cut_edits start (e ∷ es) text =
    (e.adds, take (e.end - start) (drop start text)) ∷ cut_edits e.end es text

-- the lines of edits fill a text from one place to another
abbrev pub Fill : ℕ → List Edit → ℕ → Type 0
Fill start [] end = start ≡ end
Fill start (e ∷ es) end = (start ≤ e.end) × Fill e.end es end

-- where the line of an edit begins, if the first begins at a place
abbrev pub start_of : ℕ → List Edit → ℕ → ℕ
start_of start es zero = start
start_of start [] (suc n) = start
start_of start (e ∷ es) (suc n) = start_of e.end es n
