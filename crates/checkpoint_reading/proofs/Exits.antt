-- How a reading ends.
use Rattle.std.proofs.Common.{◌≡◌, ◌==◌, ℕ, Bool, true, false, List, [], ◌∷◌, length, Err, refl, sym, ap, ◌∙◌, arith}
use Rattle.std.specs.Result.{IsErrOf}
use Rattle.std.proofs.lemmas.Bool.{false≢true}
use Rattle.std.proofs.lemmas.Bool.Decides.{nat_tests}
use Rattle.checkpoint_text.specs.Brief.{Brief}
use Rattle.checkpoint_text.specs.Text.{IsCheckpoint}
use Rattle.checkpoint_reading.specs.declared.fault.CheckpointFault.{CheckpointFault}
use Rattle.checkpoint_reading.specs.declared.fault.CheckpointFault.TheVariants.{Broken, OutOfMemory}
use Rattle.checkpoint_reading.specs.Reading.{ReadsCheckpoint}

pub fault_is : {T E : Type 0} (e f : E) → e ≡ f → IsErrOf {T = T} {E = E} (Err e) f
fault_is e f same = ap (λ (x : _). Err x) same

-- the fault of one answer is that of another one
pub same_fault : {T U E : Type 0} (e f : E) → IsErrOf {T = T} {E = E} (Err e) f → IsErrOf {T = U} {E = E} (Err e) f
same_fault e f is = let same : e ≡ f = cc in fault_is e f same

-- what is told of the text with a fault
pub told : (text : List ℕ) (fault : CheckpointFault) → (fault ≡ Broken → (generation : ℕ) (brief : Brief) → IsCheckpoint text generation brief → ⊥) → ReadsCheckpoint text (Err fault)
told text Broken none = none refl
told text OutOfMemory none = tt

pub none_left : (rest : List ℕ) (empty : Bool) → empty ≡ (length rest == 0) → empty ≡ true → rest ≡ []
none_left [] empty is truth = refl
none_left (b ∷ rest) empty is truth = let count : length (b ∷ rest) ≡ 0 = grind (arith, nat_tests) in absurd (omega arith)

pub some_left : (rest : List ℕ) (empty : Bool) → empty ≡ (length rest == 0) → empty ≡ false → rest ≡ [] → ⊥
some_left rest empty is untrue none =
    let truth : empty ≡ true = is ∙ ap (λ (l : List ℕ). length l == 0) none in
    false≢true (sym untrue ∙ truth)
