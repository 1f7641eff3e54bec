-- A fault of a head stays when more bytes follow.
use Rattle.std.proofs.Common.{◌≡◌, ℕ, ◌-◌, ◌<◌, ◌≤◌, ◌⊎◌, List, [], ◌∷◌, ◌++◌, length, take, drop, sym, ap, ◌∙◌, subst, inl, inr, arith, append_assoc, length-append}
use Rattle.std.specs.Prelude.{IsTrue}
use Rattle.std.proofs.lemmas.List.{take_all, take-append-drop}
use Rattle.std.proofs.lemmas.List.Elements.{All-take}
use Rattle.std.proofs.Math.Seq.{take-append_seam}
use Rattle.httparse.specs.Grammar.{LineEnd, print_blank, IsToken, AllPass}
use Rattle.http_heads.specs.Heads.{request, ReadsHead, NeverHasHead, IsBadHead, EndsInTarget, HasTooManyFields, goes_on}
use Rattle.http_messages.specs.Messages.{IsFaultAt}
use Rattle.http_messages.specs.Front.{TellsFaultAt}
use Rattle.http_heads.specs.declared.message.Kind.{Kind}
use Rattle.http_heads.specs.declared.message.Kind.TheVariants.{Requests, Replies}
use Rattle.http_heads.specs.declared.framing.FrameFault.{FrameFault}
use Rattle.http_heads.specs.declared.framing.FrameFault.TheVariants as faults
use Rattle.http_heads.proofs.HeadLaws.{head_grows, ending, head_to_target, method_begins}
use Rattle.http_messages.proofs.GrowLemmas.{lt_or_le, take_grows, take_past, head_fault_grows, begins_grows}

-- a text that goes on to a target ends in it, or goes on to a head
module _ (rest more : List ℕ) (blank : List LineEnd) (method target : List ℕ) where
  abbrev front : List ℕ
  front = print_blank blank ++ method ++ 32 ∷ []

  by_length : (length rest < length front) ⊎ (length front ≤ length rest) → IsToken method → AllPass goes_on target → rest ++ more ≡ front ++ target
      → ¬ (EndsInTarget Requests rest) → NeverHasHead Requests rest → ⊥
  by_length (inl below) token passes whole not_ends never =
      let within : length rest ≤ length front = omega arith in
      let head : take (length rest) front ≡ rest =
      sym (take_grows (length rest) front target within) ∙ ap (take (length rest)) (sym whole) ∙ take-append_seam rest more in
      let split : front ≡ rest ++ drop (length rest) front = sym (take-append-drop (length rest) front) ∙ ap (λ (t : List ℕ). t ++ drop (length rest) front) head in
      let reads = method_begins blank method token in
      never (drop (length rest) front ++ ending) (request (head_to_target blank method)) []
      (reads.0, sym (append_assoc rest (drop (length rest) front) ending) ∙ ap (λ (t : List ℕ). t ++ ending) (sym split) ∙ reads.1)
  by_length (inr within) token passes whole not_ends never =
      let head : rest ≡ front ++ take (length rest - length front) target =
      sym (take-append_seam rest more) ∙ ap (take (length rest)) whole ∙ take_past (length rest) front target within in
      not_ends (
        blank,
        method,
        take (length rest - length front) target,
        token,
        All-take (λ b. IsTrue (goes_on b)) (length rest - length front) target passes,
        head ∙ append_assoc (print_blank blank ++ method) (32 ∷ []) (take (length rest - length front) target),
      )

target_goes_back : (rest more : List ℕ) → EndsInTarget Requests (rest ++ more) → ¬ (EndsInTarget Requests rest) → NeverHasHead Requests rest → ⊥
target_goes_back rest more (blank, method, target, token, passes, is) not_ends never =
    by_length rest more blank method target (lt_or_le (length rest) (length (print_blank blank ++ method ++ 32 ∷ []))) token passes
    (is ∙ sym (append_assoc (print_blank blank ++ method) (32 ∷ []) target)) not_ends never

-- a text that is bad doesn't end in a target with more bytes
target_stays_over : (kind : Kind) (rest more : List ℕ) → EndsInTarget kind (rest ++ more) → IsBadHead kind rest → ⊥
target_stays_over Requests rest more ends bad = target_goes_back rest more ends bad.0 bad.1
target_stays_over Replies rest more ends bad = ends

bad_head_stays : (kind : Kind) (room : ℕ) (rest more : List ℕ) → (length rest < room) ⊎ (room ≤ length rest) → IsBadHead kind (take room rest) → IsBadHead kind (take room (rest ++ more))
bad_head_stays kind room rest more (inr long) bad = subst (IsBadHead kind) (sym (take_grows room rest more long)) bad
bad_head_stays kind room rest more (inl short) bad =
    let here = subst (IsBadHead kind) (take_all room rest (omega arith)) bad in
    let next : take room (rest ++ more) ≡ rest ++ take (room - length rest) more = take_past room rest more (omega arith) in
    let grown : IsBadHead kind (rest ++ take (room - length rest) more) = (
      λ ends. target_stays_over kind rest (take (room - length rest) more) ends here,
      λ after head behind reads. here.1 (take (room - length rest) more ++ after) head behind
          (subst (λ (t : List ℕ). ReadsHead kind t head behind) (append_assoc rest (take (room - length rest) more) after) reads),
    ) in
    subst (IsBadHead kind) (sym next) grown

many_stay : (kind : Kind) (room : ℕ) (rest more : List ℕ) → (length rest < room) ⊎ (room ≤ length rest) → HasTooManyFields kind (take room rest) → HasTooManyFields kind (take room (rest ++ more))
many_stay kind room rest more (inr long) many = subst (HasTooManyFields kind) (sym (take_grows room rest more long)) many
many_stay kind room rest more (inl short) many =
    let here = subst (HasTooManyFields kind) (take_all room rest (omega arith)) many in
    let next : take room (rest ++ more) ≡ rest ++ take (room - length rest) more = take_past room rest more (omega arith) in
    subst (HasTooManyFields kind) (sym next) (here.0, here.1 ++ take (room - length rest) more, head_grows kind rest here.0 here.1 (take (room - length rest) more) here.2, here.3)

pub fault_at_stays : (kind : Kind) (room : ℕ) (rest more : List ℕ) (fault : FrameFault) → IsFaultAt kind room rest fault → IsFaultAt kind room (rest ++ more) fault
fault_at_stays kind room rest more faults.BadHead bad = bad_head_stays kind room rest more (lt_or_le (length rest) room) bad
fault_at_stays kind room rest more faults.TooManyFields many = many_stay kind room rest more (lt_or_le (length rest) room) many
fault_at_stays kind room rest more faults.HeadTooLong (long, none, good) =
    let same : take room (rest ++ more) ≡ take room rest = take_grows room rest more long in (
      omega (arith, length-append rest more),
      λ head behind reads. none head behind (subst (λ (t : List ℕ). ReadsHead kind t head behind) same reads),
      λ bad. good (subst (IsBadHead kind) same bad),
    )
fault_at_stays kind room rest more faults.OutOfMemory bad = bad
fault_at_stays kind room rest more faults.BadHost bad = head_fault_grows kind room rest more faults.BadHost bad
fault_at_stays kind room rest more faults.TwoLengths bad = head_fault_grows kind room rest more faults.TwoLengths bad
fault_at_stays kind room rest more faults.BadLength bad = head_fault_grows kind room rest more faults.BadLength bad
fault_at_stays kind room rest more (faults.BodyTooLong size limit) bad = head_fault_grows kind room rest more (faults.BodyTooLong size limit) bad
fault_at_stays kind room rest more faults.BadChunk bad = head_fault_grows kind room rest more faults.BadChunk bad

pub tells_at_stays : (kind : Kind) (room : ℕ) (text more : List ℕ) (fault : FrameFault) → TellsFaultAt kind room text fault → TellsFaultAt kind room (text ++ more) fault
tells_at_stays kind room text more faults.OutOfMemory tells = tt
tells_at_stays kind room text more faults.BadHead tells = fault_at_stays kind room text more faults.BadHead tells
tells_at_stays kind room text more faults.TooManyFields tells = fault_at_stays kind room text more faults.TooManyFields tells
tells_at_stays kind room text more faults.HeadTooLong tells = fault_at_stays kind room text more faults.HeadTooLong tells
tells_at_stays kind room text more faults.BadHost (head, behind, begins, is) = (head, behind ++ more, begins_grows kind room text behind more head begins, is)
tells_at_stays kind room text more faults.TwoLengths (head, behind, begins, is) = (head, behind ++ more, begins_grows kind room text behind more head begins, is)
tells_at_stays kind room text more faults.BadLength (head, behind, begins, is) = (head, behind ++ more, begins_grows kind room text behind more head begins, is)
tells_at_stays kind room text more (faults.BodyTooLong size limit) (head, behind, begins, is) = (head, behind ++ more, begins_grows kind room text behind more head begins, is)
tells_at_stays kind room text more faults.BadChunk (head, behind, begins, is) = (head, behind ++ more, begins_grows kind room text behind more head begins, is)
