-- What stands behind the heads that are passed over is one place.
use Rattle.std.proofs.Common.{◌≡◌, ℕ, ◌+◌, ◌-◌, ◌≤◌, List, [], ◌∷◌, ◌++◌, length, take, refl, sym, ap, ap₂, ◌∙◌, subst, arith, append_assoc, length-append, All, true≢false, inl}
use Rattle.std.proofs.lemmas.List.{flat_map_more}
use Rattle.std.proofs.lemmas.List.Elements.{All-head, All-tail, All-nil, All-cons, All-append}
use Rattle.http_heads.specs.Heads.{Head, most_head, print_head, print_heads, fields_of, ReadsHead, HasNoHead, IsInterim, is_interim, PassesOver, room_behind}
use Rattle.http_messages.specs.Messages.{BeginsWithHead, IsFaultAt, IsFrameFault}
use Rattle.http_messages.specs.Front.{TellsFaultAt}
use Rattle.http_text.specs.Readers.{TellsFault}
use Rattle.http_heads.specs.declared.message.Kind.{Kind}
use Rattle.http_heads.specs.declared.framing.FrameFault.{FrameFault}
use Rattle.http_heads.specs.declared.framing.FrameFault.TheVariants as faults
use Rattle.http_heads.proofs.HeadLaws.{head_unique, head_grows}
use Rattle.http_messages.proofs.GrowLemmas.{take_past}

pub passes_none : (kind : Kind) (text : List ℕ) → PassesOver kind text [] text
passes_none kind text = record { each = All-nil (IsInterim kind); short = omega arith; text_is = refl }

pub passes_grow : (kind : Kind) (rest more : List ℕ) (passed : List Head) (text : List ℕ) → PassesOver kind rest passed text → PassesOver kind (rest ++ more) passed (text ++ more)
passes_grow kind rest more passed text passes = record {
  each = passes.each;
  short = passes.short;
  text_is = ap (λ (t : List ℕ). t ++ more) passes.text_is ∙ append_assoc (print_heads passed) text more;
}

-- one more head is passed over
module _ (kind : Kind) (rest : List ℕ) (passed : List Head) (text : List ℕ) (head : Head) (behind : List ℕ) (passes : PassesOver kind rest passed text)
    (interim : IsInterim kind head) (text_is : text ≡ print_head head ++ behind) (fits : length (print_head head) ≤ room_behind passed) where
  more_bytes : print_heads (passed ++ head ∷ []) ≡ print_heads passed ++ print_head head
  more_bytes = sym (flat_map_more print_head [] passed head)

  more_length : length (print_heads (passed ++ head ∷ [])) ≡ length (print_heads passed) + length (print_head head)
  more_length = ap length more_bytes ∙ length-append (print_heads passed) (print_head head)

  pub passes_more : PassesOver kind rest (passed ++ head ∷ []) behind
  passes_more = record {
    each = All-append (IsInterim kind) passed (head ∷ []) passes.each (All-cons (IsInterim kind) head [] interim (All-nil (IsInterim kind)));
    short = let long = more_length in omega (arith, passes.short);
    text_is = passes.text_is ∙ ap (λ (t : List ℕ). print_heads passed ++ t) text_is ∙ sym (append_assoc (print_heads passed) (print_head head) behind)
        ∙ ap (λ (t : List ℕ). t ++ behind) (sym more_bytes);
  }

  pub room_more : room_behind (passed ++ head ∷ []) ≡ room_behind passed - length (print_head head)
  room_more = let long = more_length in omega arith

-- no head stands here that is passed over, within so many bytes
pub record HasNoInterim (kind : Kind) (room : ℕ) (text : List ℕ) : Type 0 where
  pub none : (head : Head) (behind : List ℕ) → IsInterim kind head → length (print_head head) ≤ room → text ≡ print_head head ++ behind → ⊥

-- heads that are passed over within so many bytes
record Within (kind : Kind) (room : ℕ) (passed : List Head) : Type 0 where
  each : All (IsInterim kind) passed
  fit : length (print_heads passed) ≤ room

within_first : (kind : Kind) (room : ℕ) (head : Head) (passed : List Head) → Within kind room (head ∷ passed)
    → IsInterim kind head × (length (print_head head) ≤ room) × Within kind (room - length (print_head head)) passed
within_first kind room head passed within =
    let both : length (print_heads (head ∷ passed)) ≡ length (print_head head) + length (print_heads passed) = length-append (print_head head) (print_heads passed) in (
      All-head (IsInterim kind) head passed within.each,
      omega (arith, within.fit),
      record { each = All-tail (IsInterim kind) head passed within.each; fit = omega (arith, within.fit) },
    )

same_passed_from : (kind : Kind) (room : ℕ) (a b : List Head) (p q : List ℕ) → Within kind room a → Within kind room b
    → HasNoInterim kind (room - length (print_heads a)) p → HasNoInterim kind (room - length (print_heads b)) q
    → print_heads a ++ p ≡ print_heads b ++ q → (a ≡ b) × (p ≡ q)
same_passed_from kind room [] [] p q in_a in_b no_p no_q is = (refl, is)
same_passed_from kind room [] (c ∷ b) p q in_a in_b no_p no_q is =
    let first = within_first kind room c b in_b in
    absurd (no_p.none c (print_heads b ++ q) first.0 (omega (arith, first.1)) (is ∙ append_assoc (print_head c) (print_heads b) q))
same_passed_from kind room (c ∷ a) [] p q in_a in_b no_p no_q is =
    let first = within_first kind room c a in_a in
    absurd (no_q.none c (print_heads a ++ p) first.0 (omega (arith, first.1)) (sym is ∙ append_assoc (print_head c) (print_heads a) p))
same_passed_from kind room (c ∷ a) (d ∷ b) p q in_a in_b no_p no_q is =
    let first_c = within_first kind room c a in_a in
    let first_d = within_first kind room d b in_b in
    let one = head_unique kind (print_head c ++ (print_heads a ++ p)) c d (print_heads a ++ p) (print_heads b ++ q) (first_c.0.head_of, refl)
    (first_d.0.head_of, sym (append_assoc (print_head c) (print_heads a) p) ∙ is ∙ append_assoc (print_head d) (print_heads b) q) in
    let same_len : length (print_head d) ≡ length (print_head c) = ap (λ (h : Head). length (print_head h)) (sym one.0) in
    let room_a : room - length (print_heads (c ∷ a)) ≡ (room - length (print_head c)) - length (print_heads a) = omega (arith, length-append (print_head c) (print_heads a)) in
    let room_b : room - length (print_heads (d ∷ b)) ≡ (room - length (print_head c)) - length (print_heads b) = omega (arith, length-append (print_head d) (print_heads b)) in
    let in_d : Within kind (room - length (print_head c)) b = subst (λ (n : ℕ). Within kind (room - n) b) same_len first_d.2 in
    let others = same_passed_from kind (room - length (print_head c)) a b p q first_c.2 in_d
    (subst (λ (n : ℕ). HasNoInterim kind n p) room_a no_p) (subst (λ (n : ℕ). HasNoInterim kind n q) room_b no_q) one.1 in
    (ap₂ ◌∷◌ one.0 others.0, others.1)

-- what stands behind the heads that are passed over is one place
pub same_passed : (kind : Kind) (rest : List ℕ) (a b : List Head) (p q : List ℕ) → PassesOver kind rest a p → PassesOver kind rest b q
    → HasNoInterim kind (room_behind a) p → HasNoInterim kind (room_behind b) q → (a ≡ b) × (p ≡ q)
same_passed kind rest a b p q one two no_p no_q =
    same_passed_from kind most_head a b p q (record { each = one.each; fit = one.short }) (record { each = two.each; fit = two.short }) no_p no_q (sym one.text_is ∙ two.text_is)

-- ---- places where no head is passed over

pub no_interim_none : (kind : Kind) (room : ℕ) (text : List ℕ) → HasNoHead kind text → HasNoInterim kind room text
no_interim_none kind room text none = record { none = λ head behind interim fits is. none head behind (interim.head_of, is) }

pub no_interim_begins : (kind : Kind) (room : ℕ) (text : List ℕ) (head : Head) (behind : List ℕ) → BeginsWithHead kind room text head behind → HasNoInterim kind room text
no_interim_begins kind room text head behind begins = record {
  none = λ other after interim fits is.
      let same = head_unique kind text head other behind after begins.reads (interim.head_of, is) in
      true≢false (sym interim.interim ∙ ap is_interim (sym same.0) ∙ begins.final);
}

-- a head within so many bytes stands in the front of that length
pub head_in_front : (kind : Kind) (room : ℕ) (text : List ℕ) (head : Head) (behind : List ℕ) → ReadsHead kind text head behind → length (print_head head) ≤ room
    → ReadsHead kind (take room text) head (take (room - length (print_head head)) behind)
head_in_front kind room text head behind reads short = (reads.0, ap (take room) reads.1 ∙ take_past room (print_head head) behind short)

pub no_interim_fault : (kind : Kind) (room : ℕ) (text : List ℕ) (fault : FrameFault) → IsFaultAt kind room text fault → HasNoInterim kind room text
no_interim_fault kind room text faults.TooManyFields (head, rest, reads, over) = record {
  none = λ other after interim fits is.
      let same = head_unique kind (take room text) head other rest _ reads (head_in_front kind room text other after (interim.head_of, is) fits) in
      omega (arith, interim.few, ap (λ (h : Head). length (fields_of h)) same.0);
}
no_interim_fault kind room text faults.BadHead bad = record {
  none = λ other after interim fits is. bad.1 [] other _ (head_grows kind (take room text) other _ [] (head_in_front kind room text other after (interim.head_of, is) fits));
}
no_interim_fault kind room text faults.HeadTooLong (long, none, good) = record {
  none = λ other after interim fits is. none other _ (head_in_front kind room text other after (interim.head_of, is) fits);
}
no_interim_fault kind room text faults.OutOfMemory bad = absurd bad
no_interim_fault kind room text faults.BadHost bad = no_interim_begins kind room text bad.0 bad.1 bad.2
no_interim_fault kind room text faults.TwoLengths bad = no_interim_begins kind room text bad.0 bad.1 bad.2
no_interim_fault kind room text faults.BadLength bad = no_interim_begins kind room text bad.0 bad.1 bad.2
no_interim_fault kind room text (faults.BodyTooLong size limit) bad = no_interim_begins kind room text bad.0 bad.1 bad.2
no_interim_fault kind room text faults.BadChunk bad = no_interim_begins kind room text bad.0 bad.1 bad.2

-- the fault of a rest is that of this place
pub fault_behind : (kind : Kind) (rest : List ℕ) (passed : List Head) (text : List ℕ) (fault : FrameFault) → PassesOver kind rest passed text
    → HasNoInterim kind (room_behind passed) text → IsFrameFault kind rest fault → IsFaultAt kind (room_behind passed) text fault
fault_behind kind rest passed text fault passes none (others, last, after, bad) =
    let same = same_passed kind rest passed others text last passes after none (no_interim_fault kind (room_behind others) last fault bad) in
    subst (λ (t : List ℕ). IsFaultAt kind (room_behind passed) t fault) (sym same.1)
    (subst (λ (p : List Head). IsFaultAt kind (room_behind p) last fault) (sym same.0) bad)

-- and the other way
pub tells_behind : (kind : Kind) (rest : List ℕ) (passed : List Head) (text : List ℕ) (fault : FrameFault) → PassesOver kind rest passed text
    → TellsFaultAt kind (room_behind passed) text fault → TellsFault kind rest fault
tells_behind kind rest passed text faults.OutOfMemory passes tells = tt
tells_behind kind rest passed text faults.BadHead passes tells = (passed, text, passes, tells)
tells_behind kind rest passed text faults.TooManyFields passes tells = (passed, text, passes, tells)
tells_behind kind rest passed text faults.HeadTooLong passes tells = (passed, text, passes, tells)
tells_behind kind rest passed text faults.BadHost passes (head, behind, begins, is) = (passed, text, passes, (head, behind, begins, inl is))
tells_behind kind rest passed text faults.TwoLengths passes (head, behind, begins, is) = (passed, text, passes, (head, behind, begins, inl is))
tells_behind kind rest passed text faults.BadLength passes (head, behind, begins, is) = (passed, text, passes, (head, behind, begins, inl is))
tells_behind kind rest passed text (faults.BodyTooLong size limit) passes (head, behind, begins, is) = (passed, text, passes, (head, behind, begins, inl is))
tells_behind kind rest passed text faults.BadChunk passes (head, behind, begins, is) = (passed, text, passes, (head, behind, begins, inl is))
