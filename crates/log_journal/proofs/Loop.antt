-- Reading goes on from block to block.
use Rattle.std.proofs.Common.{◌≡◌, inl, inr, Err, ℕ, ◌+◌, ◌^◌, ◌<◌, ◌≤◌, List, [], ◌∷◌, ◌++◌, length, drop, refl, sym, ◌∙◌, ap, subst, arith, length-append}
use Rattle.std.proofs.lemmas.List.{drop_all}
use Rattle.std.proofs.lemmas.List.Elements.{All-from_recursion}
use Rattle.log_journal.specs.File.{front_in, header, head_size, AreFew, HoldsIn, IsCutShort}
use Rattle.log_journal.specs.Reading.{IsRead, HasByte, HasPayload, ReadsPayload, ReadsPayloads}
use Rattle.log_journal.specs.declared.form.Form.{Form}
use Rattle.log_journal.specs.declared.form.Form.TheVariants.{Old, New}
use Rattle.log_journal.specs.declared.fault.JournalFault.{JournalFault}
use Rattle.log_journal.specs.declared.fault.JournalFault.TheVariants.{Failed, Damaged, OldFormat, WrongNumber, OverLimit, OutOfMemory}
use Rattle.log_journal.proofs.Frames.{front-push, length-front-push, front-none, sized-push}
use Rattle.log_journal.proofs.Split.{held}

pub none_few : (form : Form) → AreFew form 0
none_few Old = tt
none_few New = omega arith

few_more : (form : Form) (payloads : List (List ℕ)) (payload : List ℕ) → AreFew form (length payloads + 1) → AreFew form (length (payloads ++ payload ∷ []))
few_more form payloads payload few = let same : length payloads + 1 ≡ length (payloads ++ payload ∷ []) = omega (arith, length-append payloads (payload ∷ [])) in subst (AreFew form) same few

eight : (form : Form) (number : ℕ) → length (header form number) ≡ 8
eight Old number = refl
eight New number = refl

pub none_read : (form : Form) (file : List ℕ) (number : ℕ) → file ≡ header form number ++ drop 8 file → IsRead form file number [] 8
none_read form file number is = record {
  parts = is ∙ ap (λ (l : List ℕ). l ++ drop 8 file) (sym (front-none form number));
  place = sym (eight form number) ∙ ap length (sym (front-none form number));
  sized = All-from_recursion (λ (p : List ℕ). length p < 2 ^ 32) [] tt;
  few = none_few form;
}

-- the gate that is shut ends the payloads that were read
pub all_read : (form : Form) (file : List ℕ) (number gate byte : ℕ) (payloads : List (List ℕ)) → IsRead form file number payloads gate → HasByte file gate byte → (byte ≡ 1 → ⊥) → HoldsIn form file number payloads
all_read form file number gate byte payloads so_far stands shut =
    held form number payloads file byte (drop (gate + 1) file) (so_far.parts ∙ ap (λ (l : List ℕ). front_in form number payloads ++ l) stands) shut so_far.sized so_far.few

pub one_more : (form : Form) (file : List ℕ) (number gate : ℕ) (payloads : List (List ℕ)) (payload : List ℕ) → IsRead form file number payloads gate → HasPayload form file gate (length payloads) payload
    → IsRead form file number (payloads ++ payload ∷ []) (gate + (1 + head_size form + length payload))
one_more form file number gate payloads payload so_far has =
    let next = drop (gate + 1 + head_size form + length payload) file in
    let parts : file ≡ front_in form number (payloads ++ payload ∷ []) ++ next =
    so_far.parts ∙ ap (λ (l : List ℕ). front_in form number payloads ++ l) has.block_is ∙ front-push form number payloads payload next in
    let same : gate + 1 + head_size form + length payload ≡ gate + (1 + head_size form + length payload) = omega arith in
    record {
      parts = parts ∙ ap (λ (k : ℕ). front_in form number (payloads ++ payload ∷ []) ++ drop k file) same;
      place = omega (arith, so_far.place, length-front-push form number payloads payload);
      sized = sized-push payloads payload so_far.sized has.sized;
      few = few_more form payloads payload has.few;
    }

-- the same with the count and the length as they were counted
pub one_more_of : (form : Form) (file : List ℕ) (number gate size count : ℕ) (payloads : List (List ℕ)) (payload : List ℕ) → IsRead form file number payloads gate → count ≡ length payloads → HasPayload form file gate count payload → size ≡ length payload → IsRead form file number (payloads ++ payload ∷ []) (gate + (1 + head_size form + size))
one_more_of form file number gate size count payloads payload so_far counted has sized =
    let Q : ℕ → Type 0 = λ n. IsRead form file number (payloads ++ payload ∷ []) (gate + (1 + head_size form + n)) in
    subst Q (sym sized) (one_more form file number gate payloads payload so_far (subst (λ (n : ℕ). HasPayload form file gate n payload) counted has))

-- the first gate is missing
pub gate_missing : (form : Form) (file : List ℕ) (number : ℕ) (fault : JournalFault) → file ≡ header form number ++ drop 8 file → (fault ≡ Failed → ⊥) → (fault ≡ Damaged 8) × (length file ≤ 8) → ReadsPayloads {T = ℕ} form file number (Err fault)
gate_missing form file number fault begins other missing =
    let start = none_read form file number begins in
    let none : drop 8 file ≡ [] = drop_all 8 file (omega (arith, missing.1)) in
    let cut : IsCutShort form file number 8 = record {
      payloads = [];
      rest = [];
      offset = 0;
      parts = start.parts ∙ ap (λ (l : List ℕ). front_in form number [] ++ l) none;
      sized = start.sized;
      few = start.few;
      breaks = refl;
      place = omega (arith, start.place);
    } in
    subst (λ (f : JournalFault). ReadsPayloads {T = ℕ} form file number (Err f)) (sym missing.0) cut

-- behind the payloads that were read the file breaks off, or ends behind one more
pub payload_missing : (form : Form) (file : List ℕ) (number gate : ℕ) (payloads : List (List ℕ)) (fault : JournalFault) → IsRead form file number payloads gate → ReadsPayload form file gate (length payloads) (Err fault) → ReadsPayloads {T = ℕ} form file number (Err fault)
payload_missing form file number gate payloads (Damaged at) so_far (inl broken) = record {
  payloads = payloads;
  rest = drop gate file;
  offset = broken.0;
  parts = so_far.parts;
  sized = so_far.sized;
  few = so_far.few;
  breaks = broken.1;
  place = omega (arith, broken.2, so_far.place);
}
payload_missing form file number gate payloads (Damaged at) so_far (inr ends) =
    let more = one_more form file number gate payloads ends.0 so_far ends.1 in
    let same : gate + (1 + head_size form + length ends.0) ≡ gate + 1 + head_size form + length ends.0 = omega arith in
    let none : drop (gate + (1 + head_size form + length ends.0)) file ≡ [] = ap (λ (k : ℕ). drop k file) same ∙ ends.2 in
    record {
      payloads = payloads ++ ends.0 ∷ [];
      rest = [];
      offset = 0;
      parts = more.parts ∙ ap (λ (l : List ℕ). front_in form number (payloads ++ ends.0 ∷ []) ++ l) none;
      sized = more.sized;
      few = more.few;
      breaks = refl;
      place = omega (arith, ends.3, more.place);
    }
payload_missing form file number gate payloads OldFormat so_far fails = absurd fails
payload_missing form file number gate payloads (WrongNumber found) so_far fails = absurd fails
payload_missing form file number gate payloads (OverLimit length limit) so_far fails = absurd fails
payload_missing form file number gate payloads Failed so_far fails = tt
payload_missing form file number gate payloads OutOfMemory so_far fails = tt

-- the first gate can't be read
pub gate_fault : (form : Form) (file : List ℕ) (number : ℕ) (fault : JournalFault) → file ≡ header form number ++ drop 8 file → ((fault ≡ Failed → ⊥) → (fault ≡ Damaged 8) × (length file ≤ 8)) → ReadsPayloads {T = ℕ} form file number (Err fault)
gate_fault form file number Failed begins missing = tt
gate_fault form file number (Damaged at) begins missing = gate_missing form file number (Damaged at) begins (λ same. cc) (missing (λ same. cc))
gate_fault form file number OldFormat begins missing = absurd (let m = missing (λ same. cc) in cc m.0)
gate_fault form file number (WrongNumber found) begins missing = absurd (let m = missing (λ same. cc) in cc m.0)
gate_fault form file number (OverLimit size limit) begins missing = absurd (let m = missing (λ same. cc) in cc m.0)
gate_fault form file number OutOfMemory begins missing = tt
