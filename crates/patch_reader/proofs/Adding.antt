-- Rows put behind others.
use Rattle.std.proofs.Common.{◌≡◌, ℕ, List, [], ◌∷◌, ◌++◌, refl, sym, ap, subst, ◌∙◌}
use Rattle.patch_reader.specs.declared.placed.PlacedRow.{PlacedRow}
use Rattle.patch_rows.specs.declared.cut.TextEnd.{TextEnd}
use Rattle.patch_rows.specs.declared.cut.TextEnd.TheVariants as ends
use Rattle.patch_reader.specs.Rows.{RowsUpTo, RowsStand, AddsRows}

pub rows_joined : (text : List ℕ) (from mid to : ℕ) (rows_ others : List PlacedRow) → RowsUpTo text from rows_ mid → RowsUpTo text mid others to → RowsUpTo text from (rows_ ++ others) to
rows_joined text from mid to [] others up more = subst (λ (n : ℕ). RowsUpTo text n others to) (sym up) more
rows_joined text from mid to (r ∷ rows_) others up more = (up.0, up.1, rows_joined text r.end mid to rows_ others up.2 more)

pub stand_joined : (end : TextEnd) (text : List ℕ) (from mid to : ℕ) (rows_ others : List PlacedRow) → RowsStand end text from rows_ mid → RowsStand end text mid others to → RowsStand end text from (rows_ ++ others) to
stand_joined ends.Open text from mid to rows_ others up more = λ others_text. rows_joined (text ++ others_text) from mid to rows_ others (up others_text) (more others_text)
stand_joined ends.Known text from mid to rows_ others up more = rows_joined text from mid to rows_ others up more

pub rows_assoc : (a b c : List PlacedRow) → (a ++ b) ++ c ≡ a ++ (b ++ c)
rows_assoc [] b c = refl
rows_assoc (r ∷ a) b c = ap (λ (t : List PlacedRow). r ∷ t) (rows_assoc a b c)

pub adds_more : (end : TextEnd) (text : List ℕ) (from to last : ℕ) (old mid new : List PlacedRow) (r : PlacedRow) → AddsRows end text from old mid to → new ≡ mid ++ r ∷ [] → RowsStand end text to (r ∷ []) last → AddsRows end text from old new last
adds_more end text from to last old mid new r (rows_, is, up) more there =
    (rows_ ++ r ∷ [], more ∙ ap (λ (t : List PlacedRow). t ++ r ∷ []) is ∙ rows_assoc old rows_ (r ∷ []), stand_joined end text from to last rows_ (r ∷ []) up there)
