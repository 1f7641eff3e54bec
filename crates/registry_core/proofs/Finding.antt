-- Finding a source, and how long its text is.
use Rattle.std.proofs.Common.{◌≡◌, ℕ, zero, suc, ◌+◌, ◌<◌, Bool, true, cond, List, [], ◌∷◌, ◌++◌, length, get_or, drop, Some, subst, sym, ◌∙◌, ap, arith, length-append}
use Rattle.std.specs.Prelude.{slice_get}
use Rattle.std.specs.List.{AllByRecursion, find}
use Rattle.std.specs.Fmt.{decimal}
use Rattle.delta_base.specs.Ids.{text_of}
use Rattle.log_base.specs.declared.source_info.SourceInfo.{SourceInfo}
use Rattle.registry_core.specs.declared.event.Event.TheVariants.{Created}
use Rattle.registry_core.specs.Texts.{event_text}
use Rattle.delta_base.proofs.IdLemmas.{length-text_of}

-- the first that passes in what is left is the one here
pub find_here : {X : Type 0} (test : X → Bool) (xs : List X) (place : ℕ) (x : X) → place < length xs → x ≡ get_or xs place x → test x ≡ true → find test (drop place xs) ≡ slice_get xs place
find_here test [] place x within is passes = absurd (omega arith)
find_here test (y ∷ xs) zero x within is passes = ap (λ b. cond b (Some y) (find test xs)) (ap test (sym is) ∙ passes)
find_here test (y ∷ xs) (suc place) x within is passes = find_here test xs place x (omega arith) is passes

pub created_text_length : (source : SourceInfo) → length (event_text (Created source)) ≡ 2 + length (decimal source.slot) + 1 + 36 + 1 + length source.name + 1 + length source.uri
created_text_length source =
    let names = source.name ++ 32 ∷ source.uri in
    let behind = text_of source.id.0 ++ 32 ∷ names in
    omega (arith, length-append (decimal source.slot) (32 ∷ behind), length-append (text_of source.id.0) (32 ∷ names), length-append source.name (32 ∷ source.uri), length-text_of source.id.0)

-- what holds of all holds of the one at a place
pub at_place : {X : Type 0} (P : X → Type 0) (xs : List X) (place : ℕ) (x : X) → AllByRecursion P xs → place < length xs → x ≡ get_or xs place x → P x
at_place P [] place x all within is = absurd (omega arith)
at_place P (y ∷ xs) zero x all within is = subst P (sym is) all.0
at_place P (y ∷ xs) (suc place) x all within is = at_place P xs place x all.1 (omega arith) is
