-- No slot is given to two sources.
use Rattle.std.proofs.Common.{◌≡◌, ⊎_elim, ℕ, ◌+◌, ◌<◌, List, [], ◌∷◌, ◌++◌, sym, ◌∙◌, ap, subst, arith}
use Rattle.log_base.specs.declared.source_info.SourceInfo.{SourceInfo}
use Rattle.registry_core.specs.declared.event.Event.{Event}
use Rattle.registry_core.specs.declared.event.Event.TheVariants.{Created}
use Rattle.registry_core.specs.Events.{IsNextEvent, AreNext}
use Rattle.registry_core.specs.Sources.{used, makes}
use Rattle.registry_core.proofs.Tables.{can_be_made, used-push}
use Rattle.turn_cell.specs.Turns.{IsIn}

-- a source that is made gets the next slot
next_slot : (slots : ℕ) (before : List Event) (event : Event) (source : SourceInfo) → IsNextEvent slots before event → Created source ≡ event → source.slot ≡ used before + 1
next_slot slots before event source next same =
    let made = (subst (IsNextEvent slots before) (sym same) next).1 in
    ap (λ (s : SourceInfo). s.slot) (sym (can_be_made slots before source.name source.uri source.id source made).is)

-- so each later one gets a greater one
above : (slots : ℕ) (before events : List Event) → AreNext slots before events → (source : SourceInfo) → IsIn (Created source) events → used before < source.slot
above slots before [] next source i = absurd i
above slots before (event ∷ events) next source i = ⊎_elim
    (λ (e : Created source ≡ event). let slot = next_slot slots before event source next.0 e in omega (arith, slot))
    (λ (j : IsIn (Created source) events). let more = above slots (before ++ event ∷ []) events next.1 source j in let count = used-push before event in omega (arith, more, count)) i

same_source : (one other : SourceInfo) (event : Event) → Created one ≡ event → Created other ≡ event → one ≡ other
same_source one other event e f = let both : Created one ≡ Created other = e ∙ sym f in cc

-- a first source and a later one
apart : (slots : ℕ) (before : List Event) (event : Event) (events : List Event) → IsNextEvent slots before event → AreNext slots (before ++ event ∷ []) events → (first later : SourceInfo) → Created first ≡ event → IsIn (Created later) events → first.slot ≡ later.slot → ⊥
apart slots before event events next more first later is j same =
    let slot = next_slot slots before event first next is in
    let over = above slots (before ++ event ∷ []) events more later j in
    let count : used (before ++ event ∷ []) ≡ used before + 1 = used-push before event ∙ ap (λ (e : Event). used before + makes e) (sym is) in
    absurd (omega (arith, slot, over, count, same))

pub one_source : (slots : ℕ) (before events : List Event) → AreNext slots before events → (one other : SourceInfo) → IsIn (Created one) events → IsIn (Created other) events → one.slot ≡ other.slot → one ≡ other
one_source slots before [] next one other i j same = absurd i
one_source slots before (event ∷ events) next one other i j same = ⊎_elim
    (λ (e : Created one ≡ event). ⊎_elim (λ (f : Created other ≡ event). same_source one other event e f)
    (λ (k : IsIn (Created other) events). absurd (apart slots before event events next.0 next.1 one other e k same)) j)
    (λ (l : IsIn (Created one) events). ⊎_elim (λ (f : Created other ≡ event). absurd (apart slots before event events next.0 next.1 other one f l (sym same)))
    (λ (k : IsIn (Created other) events). one_source slots (before ++ event ∷ []) events next.1 one other l k same) j) i
