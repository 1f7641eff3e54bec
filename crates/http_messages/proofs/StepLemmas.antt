-- Facts about a step in a head: what is kept, and what of the piece is used.
use Rattle.std.proofs.Common.{◌≡◌, ℕ, ◌+◌, ◌-◌, ◌<◌, ◌≤◌, ◌⊎◌, List, [], ◌++◌, length, take, drop, true, Result, Ok, Err, sym, ap, ◌∙◌, subst, inl, inr, arith, append_assoc, length-append, length-drop}
use Rattle.std.proofs.lemmas.List.{take_all, take-append-le, take-append-drop, append-nil, length-take-le}
use Rattle.std.proofs.Math.Seq.{take-append-add, take-append_seam}
use Rattle.http_heads.specs.Heads.{Head, print_head, ReadsHead, HasNoHead, IsBadHead}
use Rattle.http_heads.specs.Follow.{Follows, is_known}
use Rattle.http_messages.specs.Front.{TellsFaultAt}
use Rattle.http_messages.specs.Messages.{BeginsWithHead, IsFaultAt}
use Rattle.http_messages.specs.Stages.{HeadStepIs}
use Rattle.http_heads.specs.declared.progress.HeadProgress.{HeadProgress}
use Rattle.http_heads.specs.declared.message.Kind.{Kind}
use Rattle.http_heads.specs.declared.framing.FrameFault.{FrameFault}
use Rattle.http_heads.specs.declared.framing.FrameFault.TheVariants.{HeadTooLong}
use Rattle.http_messages.specs.declared.stage.HeadEnd.{HeadEnd}
use Rattle.http_messages.specs.declared.stage.HeadEnd.TheVariants as ends
use Rattle.http_messages.proofs.GrowLemmas.{lt_or_le}
use Rattle.http_heads.proofs.HeadLaws.{same_parts}
use Rattle.http_heads.proofs.OpenHeads.{IsOpen, follows_open}
use Rattle.http_messages.proofs.StayAtLemmas.{tells_at_stays}

-- an open head that fills its limit is too long
pub full_head : (kind : Kind) (room : ℕ) (text : List ℕ) → IsOpen kind text → length text ≡ room → IsFaultAt kind room text HeadTooLong
full_head kind room text still full =
    let whole : text ≡ take room text = sym (take_all room text (omega arith)) in
    (omega arith, subst (HasNoHead kind) whole still.0, λ bad. still.1 (subst (IsBadHead kind) (sym whole) bad))

-- bytes that were followed are kept
pub followed : (kind : Kind) (room : ℕ) (old new bytes : List ℕ) (used : ℕ) (progress : HeadProgress) → new ≡ old ++ bytes → used ≡ length bytes → 0 < length bytes → length new < room
    → is_known progress ≡ true → Follows kind (old ++ bytes) progress → HeadStepIs kind room old new bytes (Ok (used, ends.Open progress))
followed kind room old new bytes used progress is used_is some fits known follows =
    let here = subst (λ (t : List ℕ). Follows kind t progress) (sym is) follows in
    let still = follows_open kind new progress known here in (
      (omega arith, omega arith),
      is ∙ ap (λ (t : List ℕ). old ++ t) (sym (take_all used bytes (omega arith))),
      record { short = fits; none = still.0; good = still.1 },
      here,
    )

-- a step over the front of a piece is one over the piece
module _ (kind : Kind) (room : ℕ) (old new piece : List ℕ) (end : ℕ) (within : end ≤ length piece) where
  front_used : (used : ℕ) → used ≤ length (take end piece) → take used (take end piece) ≡ take used piece
  front_used used fits = sym (take-append-le used (take end piece) (drop end piece) fits) ∙ ap (take used) (take-append-drop end piece)

  front_fits : (used : ℕ) → used ≤ length (take end piece) → used ≤ length piece
  front_fits used fits = let long = length-take-le end piece within in omega arith

  pub step_lifts : (r : Result (ℕ × HeadEnd) FrameFault) → HeadStepIs kind room old new (take end piece) r → HeadStepIs kind room old new piece r
  step_lifts (Ok (used, ends.Open progress)) (some, is, still, follows) =
      ((some.0, front_fits used some.1), is ∙ ap (λ (t : List ℕ). old ++ t) (front_used used some.1), still, follows)
  step_lifts (Ok (used, ends.Interim left)) (some, empty, (head, interim, is, fits, left_is)) =
      ((some.0, front_fits used some.1), empty, (head, interim, ap (λ (t : List ℕ). old ++ t) (sym (front_used used some.1)) ∙ is, fits, left_is))
  step_lifts (Ok (used, ends.Whole message framing)) (some, empty, (head, begins, faultless, is)) =
      ((some.0, front_fits used some.1), empty, (head, subst (λ (t : List ℕ). BeginsWithHead kind room (old ++ t) head []) (front_used used some.1) begins, faultless, is))
  step_lifts (Err fault) tells =
      let whole : (old ++ take end piece) ++ drop end piece ≡ old ++ piece = append_assoc old (take end piece) (drop end piece) ∙ ap (λ (t : List ℕ). old ++ t) (take-append-drop end piece) in
      subst (λ (t : List ℕ). TellsFaultAt kind room t fault) whole (tells_at_stays kind room (old ++ take end piece) (drop end piece) fault tells)

-- a head that ends in what is kept already stood there
head_of_kept : (kind : Kind) (kept more rest : List ℕ) (head : Head) → ReadsHead kind (kept ++ more) head rest → length (print_head head) ≤ length kept
    → ReadsHead kind kept head (drop (length (print_head head)) kept)
head_of_kept kind kept more rest head reads within =
    let front : take (length (print_head head)) kept ≡ print_head head =
    sym (take-append-le (length (print_head head)) kept more within) ∙ ap (take (length (print_head head))) reads.1 ∙ take-append_seam (print_head head) rest in
    (reads.0, sym (take-append-drop (length (print_head head)) kept) ∙ ap (λ (t : List ℕ). t ++ drop (length (print_head head)) kept) front)

head_is_past : (kind : Kind) (kept more rest text : List ℕ) (head : Head) (len : ℕ) → HasNoHead kind kept → text ≡ kept ++ more → ReadsHead kind text head rest
    → len ≡ length (print_head head) → length kept < len
head_is_past kind kept more rest text head len none is begins len_is =
    let reads = subst (λ (t : List ℕ). ReadsHead kind t head rest) is begins in
    past (lt_or_le (length kept) (length (print_head head))) reads
  where
    past : (length kept < length (print_head head)) ⊎ (length (print_head head) ≤ length kept) → ReadsHead kind (kept ++ more) head rest → length kept < len
    past (inl below) reads = omega arith
    past (inr within) reads = absurd (none head _ (head_of_kept kind kept more rest head reads within))

-- the head is what is kept and what is used of the piece
head_is_used : (kind : Kind) (kept piece rest text : List ℕ) (head : Head) (most len : ℕ) → most ≤ length piece → text ≡ kept ++ take most piece
    → ReadsHead kind text head rest → len ≡ length (print_head head) → length kept < len
    → (len - length kept ≤ length piece) × (kept ++ take (len - length kept) piece ≡ print_head head)
head_is_used kind kept piece rest text head most len within is reads len_is past =
    let whole : length text ≡ length (print_head head) + length rest = ap length reads.1 ∙ length-append (print_head head) rest in
    let parts : length text ≡ length kept + most =
    ap length is ∙ length-append kept (take most piece) ∙ ap (λ k. length kept + k) (length-take-le most piece within) in
    let used_fits : len - length kept ≤ most = omega arith in
    let split : len ≡ length kept + (len - length kept) = omega arith in
    let taken : take (len - length kept) piece ≡ take (len - length kept) (take most piece) =
    ap (take (len - length kept)) (sym (take-append-drop most piece))
    ∙ take-append-le (len - length kept) (take most piece) (drop most piece) (omega (arith, length-take-le most piece within)) in
    let front : kept ++ take (len - length kept) piece ≡ print_head head =
    ap (λ (t : List ℕ). kept ++ t) taken ∙ sym (take-append-add kept (take most piece) (len - length kept))
    ∙ ap (λ k. take k (kept ++ take most piece)) (sym split) ∙ ap (take len) (sym is) ∙ ap (take len) reads.1
    ∙ ap (λ k. take k (print_head head ++ rest)) len_is ∙ take-append_seam (print_head head) rest in
    (omega arith, front)

pub reads_along : (kind : Kind) (t u : List ℕ) (head : Head) (rest : List ℕ) → t ≡ u → ReadsHead kind t head rest → ReadsHead kind u head rest
reads_along kind t u head rest same reads = (reads.0, sym same ∙ reads.1)

-- what has come of a head, of which so many bytes were kept before
module _ (kind : Kind) (kept : ℕ) (text : List ℕ) (within : kept < length text) where
  pub whole_text : text ≡ take kept text ++ drop kept text
  whole_text = sym (take-append-drop kept text)

  pub kept_length : length (take kept text) ≡ kept
  kept_length = length-take-le kept text (omega arith)

  pub piece_length : length (drop kept text) ≡ length text - kept
  piece_length = length-drop kept text

  pub all_used : text ≡ take kept text ++ take (length text - kept) (drop kept text)
  all_used =
      let long = piece_length in
      whole_text ∙ ap (λ (t : List ℕ). take kept text ++ t) (sym (take_all (length text - kept) (drop kept text) (omega arith)))

  module _ (rest : List ℕ) (head : Head) (len : ℕ) (none : HasNoHead kind (take kept text)) (reads : ReadsHead kind text head rest) (len_is : len ≡ length (print_head head)) where
    pub is_past : kept < len
    is_past =
        let past = head_is_past kind (take kept text) (drop kept text) rest text head len none whole_text reads len_is in
        let long = kept_length in
        omega arith

    pub head_used : ((0 < len - kept) × (len - kept ≤ length (drop kept text))) × (take kept text ++ take (len - kept) (drop kept text) ≡ print_head head)
    head_used =
        let past = head_is_past kind (take kept text) (drop kept text) rest text head len none whole_text reads len_is in
        let long = kept_length in
        let piece = take_all (length (drop kept text)) (drop kept text) (omega arith) in
        let used = head_is_used kind (take kept text) (drop kept text) rest text head (length (drop kept text)) len (omega arith)
        (whole_text ∙ ap (λ (t : List ℕ). take kept text ++ t) (sym piece)) reads len_is past in (
          (omega arith, subst (λ n. len - n ≤ length (drop kept text)) long used.0),
          subst (λ n. take kept text ++ take (len - n) (drop kept text) ≡ print_head head) long used.1,
        )

    pub reads_used : ReadsHead kind (take kept text ++ take (len - kept) (drop kept text)) head []
    reads_used = (reads.0, head_used.1 ∙ sym (append-nil (print_head head)))

-- so many bytes of a piece were kept, and are read with those before
module _ (kind : Kind) (room : ℕ) (old new piece text : List ℕ) (most used kept : ℕ) (most_fits : most ≤ length piece) (used_fits : used ≤ most)
    (kept_is : kept ≡ length old) (text_is : text ≡ old ++ take used (take most piece)) where
  pub old_again : take kept text ≡ old
  old_again = ap (take kept) text_is ∙ ap (λ n. take n (old ++ take used (take most piece))) kept_is ∙ take-append_seam old (take used (take most piece))

  pub piece_again : drop kept text ≡ take used piece
  piece_again =
      let whole : take kept text ++ drop kept text ≡ old ++ take used (take most piece) = take-append-drop kept text ∙ text_is in
      let long = length-take-le most piece most_fits in
      (same_parts (take kept text) old (drop kept text) (take used (take most piece)) (ap length old_again) whole).1 ∙ front_used kind room old new piece most most_fits used (omega arith)

  pub lines_step : (r : Result (ℕ × HeadEnd) FrameFault) → HeadStepIs kind room (take kept text) new (drop kept text) r → HeadStepIs kind room old new piece r
  lines_step r step =
      step_lifts kind room old new piece used (omega arith) r
      (subst (λ (p : List ℕ). HeadStepIs kind room old new p r) piece_again (subst (λ (o : List ℕ). HeadStepIs kind room o new (drop kept text) r) old_again step))
