-- The numbers of a set.
use Rattle.std.proofs.Common.{◌≡◌, ⊎_elim, ℕ, zero, suc, ◌+◌, ◌-◌, ◌<◌, ◌≤◌, List, [], ◌∷◌, ◌++◌, length, refl, sym, ◌∙◌, ap, subst, arith, length-append}
use Rattle.std.specs.Prelude.{slice_index}
use Rattle.std.proofs.lemmas.Bool.{cases_lt}
use Rattle.std.proofs.lemmas.List.{get_or_append_left}
use Rattle.std.proofs.lemmas.List.Elements.{All-append, All-cons, All-nil}
use Rattle.std.proofs.Math.Seq.{get_or-append_seam}
use Rattle.journal_upgrade.specs.Numbers.{IsFileNumber, IsSet}
use Rattle.directory_upgrade.specs.Directories.{up_to}
use Rattle.directory_upgrade.specs.Sets.{IsOneOf}
use Rattle.directory_upgrade.specs.Taking.{Longer}
use Rattle.directory_upgrade.proofs.Visits.{among_more}

pub length_up_to : (k : ℕ) → length (up_to k) ≡ k + 1
length_up_to zero = refl
length_up_to (suc k) = length-append (up_to k) (suc k ∷ []) ∙ ap (λ (n : ℕ). n + 1) (length_up_to k) ∙ (let e : k + 1 + 1 ≡ suc k + 1 = omega arith in e)

pub at_up_to : (k i : ℕ) → i ≤ k → slice_index (up_to k) i ≡ i
at_up_to zero i low = let e : i ≡ 0 = omega (arith, low) in rw e refl
at_up_to (suc k) i low = ⊎_elim
    (λ (less : i < suc k). get_or_append_left (up_to k) (suc k ∷ []) 0 i (omega (arith, less, length_up_to k)) ∙ at_up_to k i (omega (arith, less)))
    (λ (far : suc k ≤ i).
    let same : i ≡ length (up_to k) = omega (arith, far, low, length_up_to k) in
    ap (slice_index (up_to k ++ suc k ∷ [])) same ∙ get_or-append_seam (up_to k) (suc k) [] 0 ∙ (let e : suc k ≡ i = omega (arith, far, low) in e))
    (cases_lt i (suc k))

pub up_to_push : (n : ℕ) → 1 ≤ n → up_to (n - 1) ++ n ∷ [] ≡ up_to n
up_to_push zero some = absurd (omega (arith, some))
up_to_push (suc n) some = ap (λ (m : ℕ). up_to m ++ suc n ∷ []) (let e : suc n - 1 ≡ n = omega arith in e)

within_more : (k d more n : ℕ) → IsOneOf more (up_to k) n → IsOneOf more (up_to (d + k)) n
within_more k zero more n one = subst (λ (l : ℕ). IsOneOf more (up_to l) n) (let e : k ≡ zero + k = omega arith in e) one
within_more k (suc d) more n one =
    subst (λ (l : ℕ). IsOneOf more (up_to l) n) (let e : suc (d + k) ≡ suc d + k = omega arith in e) (among_more more (up_to (d + k)) (suc (d + k)) n (within_more k d more n one))

pub up_to_within : (k m : ℕ) → k ≤ m → (more n : ℕ) → IsOneOf more (up_to k) n → IsOneOf more (up_to m) n
up_to_within k m low more n one = subst (λ (l : ℕ). IsOneOf more (up_to l) n) (let e : m - k + k ≡ m = omega (arith, low) in e) (within_more k (m - k) more n one)

-- ---- sets

module _ {D : Type 0} where
  pub set_none : (files spares : List D) (numbers : List ℕ) → files ≡ [] → spares ≡ [] → numbers ≡ [] → IsSet files spares numbers
  set_none files spares numbers no_files no_spares no_numbers =
      rw (no_files, no_spares, no_numbers) (record { as_many_files = refl; as_many_spares = refl; differ = λ i j low within. absurd (omega (arith, within)); known = All-nil IsFileNumber })

  pub set_more : (files spares new_files new_spares : List D) (numbers new_numbers : List ℕ) (last : ℕ) → IsSet files spares numbers → IsFileNumber last → ((i : ℕ) → i < length numbers → slice_index numbers i ≡ last → ⊥)
      → Longer files new_files → Longer spares new_spares → new_numbers ≡ numbers ++ last ∷ [] → IsSet new_files new_spares new_numbers
  set_more files spares new_files new_spares numbers new_numbers last set is apart more_files more_spares pushed = rw (more_files.1, more_spares.1, pushed) (record {
    as_many_files = length-append files (more_files.0 ∷ []) ∙ ap (λ (n : ℕ). n + 1) set.as_many_files ∙ sym (length-append numbers (last ∷ []));
    as_many_spares = length-append spares (more_spares.0 ∷ []) ∙ ap (λ (n : ℕ). n + 1) set.as_many_spares ∙ sym (length-append numbers (last ∷ []));
    differ = λ i j low within same. ⊎_elim
        (λ (less : j < length numbers).
        set.differ i j low less (sym (get_or_append_left numbers (last ∷ []) 0 i (omega (arith, low, less))) ∙ same ∙ get_or_append_left numbers (last ∷ []) 0 j less))
        (λ (far : length numbers ≤ j).
        let end : j ≡ length numbers = omega (arith, far, within, length-append numbers (last ∷ [])) in
        apart i (omega (arith, low, end))
        (sym (get_or_append_left numbers (last ∷ []) 0 i (omega (arith, low, end))) ∙ same ∙ ap (slice_index (numbers ++ last ∷ [])) end ∙ get_or-append_seam numbers last [] 0))
        (cases_lt j (length numbers));
    known = All-append IsFileNumber numbers (last ∷ []) set.known (All-cons IsFileNumber last [] is (All-nil IsFileNumber));
  })

-- a log's number is none of those before it
pub new_log : (k : ℕ) → (i : ℕ) → i < length (up_to k) → slice_index (up_to k) i ≡ suc k → ⊥
new_log k i within same = omega (arith, within, length_up_to k, same, at_up_to k i (omega (arith, within, length_up_to k)))
