-- What a write that isn't synced leaves free.
use Rattle.std.proofs.Common.{◌≡◌, ⊎_elim, ℕ, ◌+◌, ◌-◌, ◌<◌, ◌≤◌, min, List, ◌++◌, length, get_or, take, drop, sym, ◌∙◌, ap, arith, append_assoc, length-append, length-drop, length-take}
use Rattle.std.proofs.Math.ListN.{set}
use Rattle.std.proofs.Math.Seq.{take-set-lt}
use Rattle.std.proofs.lemmas.Bool.{cases_lt}
use Rattle.std.proofs.lemmas.List.{take-set-le, drop-set-lt, drop-set-add, length-set, get_or-take, get_or-drop, get_or-append-add, get_or_append_left}
use Rattle.disk_model.specs.Past.{Past, began, wrote, synced, reads, overwritten, Torn, MayLeave}
use Rattle.disk_model.proofs.Images.{length-overwritten}

torn_length : (at n : ℕ) (old new : List ℕ) → Torn at n old new → min at (length new) ≡ min at (length old)
torn_length at n old new torn = omega (arith, ap length torn.before, length-take at new, length-take at old)

-- an image is no longer than what a read gives
pub no_longer : (past : Past) (image : List ℕ) → MayLeave past image → length image ≤ length (reads past)
no_longer (began bytes) image is = omega (arith, ap length is)
no_longer (wrote past at bytes) image left =
    omega (arith, no_longer past left.0 left.1, left.2.no_longer, torn_length at (length bytes) left.0 image left.2, length-overwritten (reads past) at bytes)
no_longer (synced past) image is = omega (arith, ap length is)

module _ (at n place byte : ℕ) (old new : List ℕ) (torn : Torn at n old new) where
  -- a place outside of the range keeps its byte
  pub kept_before : place < at → get_or new place 0 ≡ get_or old place 0
  kept_before before = sym (get_or-take at new place 0 before) ∙ ap (λ (l : List ℕ). get_or l place 0) torn.before ∙ get_or-take at old place 0 before

  pub kept_behind : at + n ≤ place → get_or new place 0 ≡ get_or old place 0
  kept_behind behind =
      let step : (l : List ℕ) → get_or (drop (at + n) l) (place - (at + n)) 0 ≡ get_or l place 0 = λ l. get_or-drop (at + n) l (place - (at + n)) 0 ∙ ap (λ (k : ℕ). get_or l k 0) (omega arith) in
      sym (step new) ∙ ap (λ (l : List ℕ). get_or l (place - (at + n)) 0) torn.behind ∙ step old

  -- the byte at a place is replaced in both, or within the range in one
  set_before : place < at → Torn at n (set old place byte) (set new place byte)
  set_before before = record {
    before = take-set-lt at new place byte before ∙ ap (λ (l : List ℕ). set l place byte) torn.before ∙ sym (take-set-lt at old place byte before);
    behind = drop-set-lt (at + n) new place byte (omega arith) ∙ torn.behind ∙ sym (drop-set-lt (at + n) old place byte (omega arith));
    no_shorter = omega (arith, torn.no_shorter, length-set old place byte, length-set new place byte);
    no_longer = omega (arith, torn.no_longer, length-set old place byte, length-set new place byte);
  }

  set_behind : at + n ≤ place → Torn at n (set old place byte) (set new place byte)
  set_behind behind =
      let step : (l : List ℕ) → drop (at + n) (set l place byte) ≡ set (drop (at + n) l) (place - (at + n)) byte = λ l. ap (λ (k : ℕ). drop (at + n) (set l k byte)) (omega arith) ∙ drop-set-add (at + n) l (place - (at + n)) byte in
      record {
        before = take-set-le at new place byte (omega arith) ∙ torn.before ∙ sym (take-set-le at old place byte (omega arith));
        behind = step new ∙ ap (λ (l : List ℕ). set l (place - (at + n)) byte) torn.behind ∙ sym (step old);
        no_shorter = omega (arith, torn.no_shorter, length-set old place byte, length-set new place byte);
        no_longer = omega (arith, torn.no_longer, length-set old place byte, length-set new place byte);
      }

  set_within : at ≤ place → place < at + n → Torn at n old (set new place byte)
  set_within from until = record {
    before = take-set-le at new place byte from ∙ torn.before;
    behind = drop-set-lt (at + n) new place byte until ∙ torn.behind;
    no_shorter = omega (arith, torn.no_shorter, length-set new place byte);
    no_longer = omega (arith, torn.no_longer, length-set new place byte);
  }

-- outside of its range a write keeps what is read
read_before : (file bytes : List ℕ) (at place : ℕ) → place < at → place < length file → get_or (overwritten file at bytes) place 0 ≡ get_or file place 0
read_before file bytes at place before within =
    ap (λ (l : List ℕ). get_or l place 0) (append_assoc (take at file) bytes (drop (at + length bytes) file))
    ∙ get_or_append_left (take at file) (bytes ++ drop (at + length bytes) file) 0 place (omega (arith, length-take at file))
    ∙ get_or-take at file place 0 before

read_behind : (file bytes : List ℕ) (at place : ℕ) → at + length bytes ≤ place → place < length file → get_or (overwritten file at bytes) place 0 ≡ get_or file place 0
read_behind file bytes at place behind within =
    let front = take at file ++ bytes in
    let long : length front ≡ at + length bytes = omega (arith, length-append (take at file) bytes, length-take at file) in
    ap (λ (k : ℕ). get_or (overwritten file at bytes) k 0) (let e : place ≡ length front + (place - (at + length bytes)) = omega arith in e)
    ∙ get_or-append-add front (drop (at + length bytes) file) (place - (at + length bytes)) 0
    ∙ get_or-drop (at + length bytes) file (place - (at + length bytes)) 0
    ∙ ap (λ (k : ℕ). get_or file k 0) (omega arith)

-- where an image has another byte than a read gives, a write isn't synced, and any byte may be left
pub any_byte : (past : Past) (image : List ℕ) (place byte : ℕ) → MayLeave past image → place < length image → (get_or image place 0 ≡ get_or (reads past) place 0 → ⊥) → MayLeave past (set image place byte)
any_byte (began bytes) image place byte is within differ = absurd (differ (ap (λ (l : List ℕ). get_or l place 0) is))
any_byte (synced past) image place byte is within differ = absurd (differ (ap (λ (l : List ℕ). get_or l place 0) is))
any_byte (wrote past at bytes) image place byte left within differ =
    let old = left.0 in
    let torn = left.2 in
    let reach : length old ≤ length (reads past) = no_longer past old left.1 in
    let by_length : min at (length image) ≡ min at (length old) = torn_length at (length bytes) old image torn in
    ⊎_elim
    (λ (before : place < at).
    let within_old : place < length old = omega arith in
    let same : get_or image place 0 ≡ get_or old place 0 = kept_before at (length bytes) place byte old image torn before in
    let read : get_or (overwritten (reads past) at bytes) place 0 ≡ get_or (reads past) place 0 = read_before (reads past) bytes at place before (omega arith) in
    let earlier = any_byte past old place byte left.1 within_old (λ is. differ (same ∙ is ∙ sym read)) in
    let result : MayLeave (wrote past at bytes) (set image place byte) = (set old place byte, earlier, set_before at (length bytes) place byte old image torn before) in
    result)
    (λ (from : at ≤ place). ⊎_elim
    (λ (until : place < at + length bytes).
    let result : MayLeave (wrote past at bytes) (set image place byte) = (old, left.1, set_within at (length bytes) place byte old image torn from until) in
    result)
    (λ (behind : at + length bytes ≤ place).
    let within_old : place < length old = omega (arith, ap length torn.behind, length-drop (at + length bytes) image, length-drop (at + length bytes) old) in
    let same : get_or image place 0 ≡ get_or old place 0 = kept_behind at (length bytes) place byte old image torn behind in
    let read : get_or (overwritten (reads past) at bytes) place 0 ≡ get_or (reads past) place 0 = read_behind (reads past) bytes at place behind (omega arith) in
    let earlier = any_byte past old place byte left.1 within_old (λ is. differ (same ∙ is ∙ sym read)) in
    let result : MayLeave (wrote past at bytes) (set image place byte) = (set old place byte, earlier, set_behind at (length bytes) place byte old image torn behind) in
    result)
    (cases_lt place (at + length bytes)))
    (cases_lt place at)
