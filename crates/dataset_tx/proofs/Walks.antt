-- A walk over changes that looks ahead once a block does what is left of them does.
use Rattle.std.proofs.Common.{◌≡◌, Bool, true, false, cond, List, [], ◌∷◌, ◌++◌, refl, sym, ◌∙◌, ap, subst}
use mathlib.Core.Bool.{true≢false}
use Rattle.rdf_terms.specs.declared.change.Change.{Change}
use Rattle.rdf_terms.specs.declared.change.Change.TheVariants.{Add, Delete, PrefixAdd, PrefixDelete, Begin, Commit, Abort}
use Rattle.dataset_tx.specs.declared.blocks.Mode.{Mode}
use Rattle.dataset_tx.specs.declared.blocks.Mode.TheVariants.{Outside, Kept, Skipped}
use Rattle.rdf_terms.specs.Dataset.{Dataset, effect, kept, kept_behind, effects}
use Rattle.dataset_tx.specs.Modes.{ends_in_abort, mode_behind, effect_in}

-- what is left to do in a mode
abbrev pub left : Mode → List Change → Dataset → Dataset
left Outside rest d = effects (kept rest) d
left Kept rest d = effects (kept_behind [] rest) d
left Skipped rest d = effects (kept_behind [] rest) d

abbrev pub Fits : Mode → List Change → Type 0
Fits Outside rest = Unit {0}
Fits Kept rest = ends_in_abort rest ≡ false
Fits Skipped rest = ends_in_abort rest ≡ true

effects-append : (xs ys : List Change) (d : Dataset) → effects (xs ++ ys) d ≡ effects ys (effects xs d)
effects-append [] ys d = refl
effects-append (x ∷ xs) ys d = effects-append xs ys (effect x d)

-- a block that is kept: what is held back may be done at once
done_at_once : (held rest : List Change) (d : Dataset) → ends_in_abort rest ≡ false → effects (kept_behind held rest) d ≡ effects (kept_behind [] rest) (effects held d)
done_at_once held [] d e = refl
done_at_once held (Commit ∷ rest) d e = effects-append held (kept rest) d
done_at_once held (Abort ∷ rest) d e = absurd (true≢false e)
done_at_once held (Begin ∷ rest) d e = done_at_once (held ++ Begin ∷ []) rest d e ∙ ap (effects (kept_behind [] rest)) (effects-append held (Begin ∷ []) d) ∙ sym (done_at_once (Begin ∷ []) rest (effects held d) e)
done_at_once held (Add k ∷ rest) d e = done_at_once (held ++ Add k ∷ []) rest d e ∙ ap (effects (kept_behind [] rest)) (effects-append held (Add k ∷ []) d) ∙ sym (done_at_once (Add k ∷ []) rest (effects held d) e)
done_at_once held (Delete k ∷ rest) d e = done_at_once (held ++ Delete k ∷ []) rest d e ∙ ap (effects (kept_behind [] rest)) (effects-append held (Delete k ∷ []) d) ∙ sym (done_at_once (Delete k ∷ []) rest (effects held d) e)
done_at_once held (PrefixAdd p i g ∷ rest) d e = done_at_once (held ++ PrefixAdd p i g ∷ []) rest d e ∙ ap (effects (kept_behind [] rest)) (effects-append held (PrefixAdd p i g ∷ []) d) ∙ sym (done_at_once (PrefixAdd p i g ∷ []) rest (effects held d) e)
done_at_once held (PrefixDelete p g ∷ rest) d e = done_at_once (held ++ PrefixDelete p g ∷ []) rest d e ∙ ap (effects (kept_behind [] rest)) (effects-append held (PrefixDelete p g ∷ []) d) ∙ sym (done_at_once (PrefixDelete p g ∷ []) rest (effects held d) e)

-- a block that is taken out: what is held back goes
given_up : (held rest : List Change) → ends_in_abort rest ≡ true → kept_behind held rest ≡ kept_behind [] rest
given_up held [] e = absurd (true≢false (sym e))
given_up held (Commit ∷ rest) e = absurd (true≢false (sym e))
given_up held (Abort ∷ rest) e = refl
given_up held (Begin ∷ rest) e = given_up (held ++ Begin ∷ []) rest e ∙ sym (given_up (Begin ∷ []) rest e)
given_up held (Add k ∷ rest) e = given_up (held ++ Add k ∷ []) rest e ∙ sym (given_up (Add k ∷ []) rest e)
given_up held (Delete k ∷ rest) e = given_up (held ++ Delete k ∷ []) rest e ∙ sym (given_up (Delete k ∷ []) rest e)
given_up held (PrefixAdd p i g ∷ rest) e = given_up (held ++ PrefixAdd p i g ∷ []) rest e ∙ sym (given_up (PrefixAdd p i g ∷ []) rest e)
given_up held (PrefixDelete p g ∷ rest) e = given_up (held ++ PrefixDelete p g ∷ []) rest e ∙ sym (given_up (PrefixDelete p g ∷ []) rest e)

pub record Goes (mode next : Mode) (change : Change) (behind : List Change) (d : Dataset) : Type 0 where
  pub fits : Fits next behind
  pub same : left mode (change ∷ behind) d ≡ left next behind (effect_in next change d)

begins : (behind : List Change) (d : Dataset) (b : Bool) → ends_in_abort behind ≡ b → Goes Outside (cond b Skipped Kept) Begin behind d
begins behind d true e = record { fits = e; same = refl }
begins behind d false e = record { fits = e; same = refl }

pub goes : (mode : Mode) (change : Change) (behind : List Change) (d : Dataset) → Fits mode (change ∷ behind) → Goes mode (mode_behind mode change behind) change behind d
goes Outside (Add k) behind d f = record { fits = tt; same = refl }
goes Outside (Delete k) behind d f = record { fits = tt; same = refl }
goes Outside (PrefixAdd p i g) behind d f = record { fits = tt; same = refl }
goes Outside (PrefixDelete p g) behind d f = record { fits = tt; same = refl }
goes Outside Begin behind d f = begins behind d (ends_in_abort behind) refl
goes Outside Commit behind d f = record { fits = tt; same = refl }
goes Outside Abort behind d f = record { fits = tt; same = refl }
goes Kept (Add k) behind d f = record { fits = f; same = done_at_once (Add k ∷ []) behind d f }
goes Kept (Delete k) behind d f = record { fits = f; same = done_at_once (Delete k ∷ []) behind d f }
goes Kept (PrefixAdd p i g) behind d f = record { fits = f; same = done_at_once (PrefixAdd p i g ∷ []) behind d f }
goes Kept (PrefixDelete p g) behind d f = record { fits = f; same = done_at_once (PrefixDelete p g ∷ []) behind d f }
goes Kept Begin behind d f = record { fits = f; same = done_at_once (Begin ∷ []) behind d f }
goes Kept Commit behind d f = record { fits = tt; same = refl }
goes Kept Abort behind d f = absurd (true≢false f)
goes Skipped (Add k) behind d f = record { fits = f; same = ap (λ (l : List Change). effects l d) (given_up (Add k ∷ []) behind f) }
goes Skipped (Delete k) behind d f = record { fits = f; same = ap (λ (l : List Change). effects l d) (given_up (Delete k ∷ []) behind f) }
goes Skipped (PrefixAdd p i g) behind d f = record { fits = f; same = ap (λ (l : List Change). effects l d) (given_up (PrefixAdd p i g ∷ []) behind f) }
goes Skipped (PrefixDelete p g) behind d f = record { fits = f; same = ap (λ (l : List Change). effects l d) (given_up (PrefixDelete p g ∷ []) behind f) }
goes Skipped Begin behind d f = record { fits = f; same = ap (λ (l : List Change). effects l d) (given_up (Begin ∷ []) behind f) }
goes Skipped Commit behind d f = absurd (true≢false (sym f))
goes Skipped Abort behind d f = record { fits = tt; same = refl }

pub walked : (mode next : Mode) (rest behind : List Change) (change : Change) (d new : Dataset) → Fits mode rest → rest ≡ change ∷ behind → next ≡ mode_behind mode change behind → new ≡ effect_in next change d → Fits next behind × (left next behind new ≡ left mode rest d)
walked mode next rest behind change d new f r n e =
    let g = goes mode change behind d (subst (Fits mode) r f) in (
      subst (λ (m : Mode). Fits m behind) (sym n) g.fits,
      ap (left next behind) e
          ∙ ap (λ (m : Mode). left m behind (effect_in m change d)) n
          ∙ sym g.same
          ∙ ap (λ (l : List Change). left mode l d) (sym r),
    )
