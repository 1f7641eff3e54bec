-- What a file that is made empty leaves.
use Rattle.std.proofs.Common.{◌≡◌, ◌≢◌, inl, inr, ⊎_elim, ℕ, ◌+◌, ◌<◌, ◌≤◌, List, [], ◌∷◌, ◌++◌, length, take, drop, get_or, refl, sym, ◌∙◌, ap, subst, arith, append_assoc, length-append, take-append-drop}
use Rattle.std.specs.Prelude.{Result, Ok, Err, OnOk, OnErr}
use Rattle.std.proofs.Math.ListN.{set}
use Rattle.std.proofs.lemmas.Bool.{cases_eq, cases_lt}
use Rattle.std.proofs.lemmas.List.{take_at, drop_at, drop_all, get_or_at, get_or-take, get_or-drop, set_split, append-nil}
use Rattle.std.proofs.lemmas.List.Elements.{All-nil}
use Rattle.disk_model.specs.Past.{Past, wrote, synced, reads, Torn, overwritten, MayLeave, EveryImage, LeavesOnly}
use Rattle.disk_model.specs.Calls.{ReadsAt, WroteSome}
use Rattle.disk_model.proofs.Moments.{starts, writes, syncs, weaker, sync_keeps}
use Rattle.disk_model.proofs.Pending.{no_longer, any_byte}
use Rattle.log_journal.specs.File.{front, header, body, Holds}
use Rattle.log_journal.specs.Front.{HasFirst, HasFront, LeftOrNothing}
use Rattle.log_journal.specs.Journal.{HoldsAll}
use Rattle.log_journal.proofs.Bytes.{torn_gate, written_gate}
use Rattle.log_journal.proofs.Split.{split, held}
use Rattle.log_journal.specs.declared.form.Form.TheVariants.{New}
use Rattle.log_journal.proofs.Frames.{front-none, front-push}

-- the byte of the first gate, as it is read
pub gate_read : (file new : List ℕ) (count : ℕ) → 9 < length file → ReadsAt file 8 (0 ∷ []) new count → get_or new 0 0 ≡ get_or file 8 0
gate_read file new count long found =
    let one : count ≡ 1 = omega (arith, found.count_is) in
    ap (λ (l : List ℕ). get_or l 0 0) (found.bytes ∙ ap (λ (n : ℕ). take n (drop 8 file) ++ drop n (0 ∷ [])) one ∙ append-nil (take 1 (drop 8 file)))
    ∙ get_or-take 1 (drop 8 file) 0 0 (omega arith) ∙ get_or-drop 8 file 0 0

-- a file whose front has no fault begins with its header and a gate
pub record Begins (file : List ℕ) (number : ℕ) : Type 0 where
  pub gate : ℕ
  pub rest : List ℕ
  pub whole : file ≡ header New number ++ gate ∷ rest

pub first_begins : (file : List ℕ) (number : ℕ) (payload : List ℕ) → HasFirst file number payload → Begins file number
first_begins file number payload first =
    let all = front number (payload ∷ []) in
    let behind = drop (length all) file in
    record {
      gate = 1;
      rest = body New 0 payload ++ behind;
      whole = sym (take-append-drop (length all) file) ∙ ap (λ (l : List ℕ). l ++ behind) first.begins ∙ sym (front-push New number [] payload behind) ∙ ap (λ (l : List ℕ). l ++ 1 ∷ (body New 0 payload ++ behind)) (front-none New number);
    }

pub front_begins : (file : List ℕ) (number : ℕ) → HasFront file number → 9 < length file → Begins file number
front_begins file number (inl (inl short)) long = absurd (omega (arith, short))
front_begins file number (inl (inr holds)) long =
    let parts = split New number [] file holds in
    record { gate = parts.gate; rest = parts.rest; whole = parts.whole ∙ ap (λ (l : List ℕ). l ++ parts.gate ∷ parts.rest) (front-none New number) }
front_begins file number (inr first) long = first_begins file number first.0 first.1

module _ (number : ℕ) where
  size_is : length (header New number) ≡ 8
  size_is = refl

  gate_of : (file : List ℕ) (gate : ℕ) (rest : List ℕ) → file ≡ header New number ++ gate ∷ rest → get_or file 8 0 ≡ gate
  gate_of file gate rest is = ap (λ (l : List ℕ). get_or l 8 0) is ∙ get_or_at (header New number) gate rest 0 8 size_is

  pub shut_holds : (file : List ℕ) (gate : ℕ) (rest : List ℕ) → file ≡ header New number ++ gate ∷ rest → gate ≢ 1 → Holds file number []
  shut_holds file gate rest is shut = held New number [] file gate rest (is ∙ ap (λ (l : List ℕ). l ++ gate ∷ rest) (sym (front-none New number))) shut (All-nil _) (omega arith)

  abbrev pub P : Past → List ℕ → Type 0
  P old image = LeftOrNothing old number image

  pub stayed : (old new : Past) → new ≡ old → LeavesOnly (P old) old new
  stayed old new same = subst (λ past. LeavesOnly (P old) old past) (sym same) (starts (P old) old (λ image left. inl left))

  all_empty : (past : Past) → ((image : List ℕ) → MayLeave past image → Holds image number []) → HoldsAll past 9 number []
  all_empty past each = record { place = ap (λ (n : ℕ). n + 1) (sym size_is ∙ ap length (sym (front-none New number))); sized = All-nil _; each = each }

  -- whatever the file had
  pub written_over : (old new : Past) → new ≡ synced (wrote old 0 (header New number ++ 0 ∷ [])) → HoldsAll new 9 number []
  written_over old new is =
      let bytes = header New number ++ 0 ∷ [] in
      let rest = drop 9 (reads old) in
      let shape : overwritten (reads old) 0 bytes ≡ header New number ++ 0 ∷ rest = append_assoc (header New number) (0 ∷ []) rest in
      let durable : (image : List ℕ) → MayLeave (synced (wrote old 0 bytes)) image → Holds image number [] = λ image left. shut_holds image 0 rest (left ∙ shape) (λ same. absurd (omega arith)) in
      subst (λ past. HoldsAll past 9 number []) (sym is) (all_empty (synced (wrote old 0 bytes)) durable)

  -- a short file
  module _ (old : Past) (short : length (reads old) ≤ 9) where
    torn_short : (n : ℕ) → n ≤ 9 → (bytes : List ℕ) → length bytes ≡ n → (image : List ℕ) → MayLeave (wrote old 0 bytes) image → P old image
    torn_short n few bytes is image left = inr (inl (omega (arith, no_longer old left.0 left.1, left.2.no_longer)))

    pub short_failed : (new : Past) → WroteSome 0 9 old new → LeavesOnly (P old) old new
    short_failed new (inl same) = stayed old new same
    short_failed new (inr some) =
        subst (λ past. LeavesOnly (P old) old past) (sym some.2) (writes (P old) old old 0 some.0 (stayed old old refl) (torn_short (length some.0) some.1 some.0 refl))

    short_read : (bytes : List ℕ) → length bytes ≡ 9 → overwritten (reads old) 0 bytes ≡ bytes
    short_read bytes nine = ap (λ (l : List ℕ). ([] ++ bytes) ++ l) (drop_all (0 + length bytes) (reads old) (omega arith)) ∙ append-nil bytes

    pub short_done : (new : Past) → new ≡ synced (wrote old 0 (header New number ++ 0 ∷ [])) → HoldsAll new 9 number [] × LeavesOnly (P old) old new
    short_done new is =
        let bytes = header New number ++ 0 ∷ [] in
        let wrote_is = short_read bytes (length-append (header New number) (0 ∷ [])) in
        let durable : (image : List ℕ) → MayLeave (synced (wrote old 0 bytes)) image → Holds image number [] = λ image left. shut_holds image 0 [] (left ∙ wrote_is) (λ same. absurd (omega arith)) in
        let moments : LeavesOnly (P old) old (synced (wrote old 0 bytes)) = syncs (P old) old (wrote old 0 bytes) (writes (P old) old old 0 bytes (stayed old old refl) (torn_short 9 (omega arith) bytes (length-append (header New number) (0 ∷ [])))) (λ image left. inr (inr (durable image left))) in
        subst (λ past. HoldsAll past 9 number [] × LeavesOnly (P old) old past) (sym is) (all_empty (synced (wrote old 0 bytes)) durable, moments)

  -- a longer one
  module _ (old : Past) (here : MayLeave old (reads old)) (sound : EveryImage old (λ image. HasFront image number)) (long : 9 < length (reads old)) where
    pub long_kept : (new : Past) → get_or (reads old) 8 0 ≢ 1 → new ≡ synced old → HoldsAll new 9 number [] × LeavesOnly (P old) old new
    long_kept new shut is =
        let parts = front_begins (reads old) number (sound (reads old) here) long in
        let gate_is = gate_of (reads old) parts.gate parts.rest parts.whole in
        let holds : Holds (reads old) number [] = shut_holds (reads old) parts.gate parts.rest parts.whole (λ same. shut (gate_is ∙ same)) in
        let durable : (image : List ℕ) → MayLeave (synced old) image → Holds image number [] = λ image left. subst (λ (l : List ℕ). Holds l number []) (sym left) holds in
        let moments : LeavesOnly (P old) old (synced old) = weaker (MayLeave old) (P old) (λ image left. inl left) old (synced old) (sync_keeps old here).images in
        subst (λ past. HoldsAll past 9 number [] × LeavesOnly (P old) old past) (sym is) (all_empty (synced old) durable, moments)

    module _ (opened : get_or (reads old) 8 0 ≡ 1) where
      -- the gate that is torn is open: then a crash might have left it so before
      torn_open : (earlier image : List ℕ) (gate : ℕ) (rest : List ℕ) → MayLeave old earlier → earlier ≡ header New number ++ gate ∷ rest → image ≡ header New number ++ 1 ∷ rest → MayLeave old image
      torn_open earlier image gate rest left earlier_is image_is =
          let gate_is = gate_of earlier gate rest earlier_is in
          ⊎_elim
          (λ (same : gate ≡ 1).
          let equal : earlier ≡ image = earlier_is ∙ ap (λ (b : ℕ). header New number ++ b ∷ rest) same ∙ sym image_is in
          subst (MayLeave old) equal left)
          (λ (other : gate ≡ 1 → ⊥).
          let within : 8 < length earlier = omega (arith, ap length earlier_is, length-append (header New number) (gate ∷ rest)) in
          let free = any_byte old earlier 8 1 left within (λ same. other (sym gate_is ∙ same ∙ opened)) in
          let front_is : take 8 earlier ≡ header New number = ap (λ (l : List ℕ). take 8 l) earlier_is ∙ take_at (header New number) (gate ∷ rest) 8 size_is in
          let through : earlier ≡ (header New number ++ gate ∷ []) ++ rest = earlier_is ∙ sym (append_assoc (header New number) (gate ∷ []) rest) in
          let rest_is : drop 9 earlier ≡ rest = ap (λ (l : List ℕ). drop 9 l) through ∙ drop_at (header New number ++ gate ∷ []) rest 9 (length-append (header New number) (gate ∷ [])) in
          let equal : set earlier 8 1 ≡ image = set_split earlier 8 1 within ∙ ap (λ (l : List ℕ). l ++ 1 ∷ drop 9 earlier) front_is ∙ ap (λ (l : List ℕ). header New number ++ 1 ∷ l) rest_is ∙ sym image_is in
          subst (MayLeave old) equal free)
          (cases_eq gate 1)

      torn_long : (n : ℕ) → n ≤ 1 → (earlier image : List ℕ) → MayLeave old earlier → Torn 8 n earlier image → P old image
      torn_long n few earlier image left torn =
          ⊎_elim
          (λ (more : 9 < length image).
          let before : 9 < length earlier = omega (arith, torn.no_longer) in
          let parts = front_begins earlier number (sound earlier left) before in
          let image_is : image ≡ header New number ++ get_or image 8 0 ∷ parts.rest = torn_gate (header New number) parts.gate parts.rest earlier parts.whole 8 n image (sym size_is) few torn in
          let result : P old image = ⊎_elim
          (λ (open_gate : get_or image 8 0 ≡ 1). inl (torn_open earlier image parts.gate parts.rest left parts.whole (image_is ∙ ap (λ (b : ℕ). header New number ++ b ∷ parts.rest) open_gate)))
          (λ (shut : get_or image 8 0 ≡ 1 → ⊥). inr (inr (shut_holds image (get_or image 8 0) parts.rest image_is shut)))
          (cases_eq (get_or image 8 0) 1) in
          result)
          (λ (short : length image ≤ 9). inr (inl short))
          (cases_lt 9 (length image))

      pub long_failed : (new : Past) → WroteSome 8 1 old new → LeavesOnly (P old) old new
      long_failed new (inl same) = stayed old new same
      long_failed new (inr some) =
          subst (λ past. LeavesOnly (P old) old past) (sym some.2) (writes (P old) old old 8 some.0 (stayed old old refl) (λ image left. torn_long (length some.0) some.1 left.0 image left.1 left.2))

      pub long_done : (new : Past) → new ≡ synced (wrote old 8 (0 ∷ [])) → HoldsAll new 9 number [] × LeavesOnly (P old) old new
      long_done new is =
          let parts = front_begins (reads old) number (sound (reads old) here) long in
          let wrote_is = written_gate (header New number) parts.gate parts.rest (reads old) parts.whole 8 0 (sym size_is) in
          let durable : (image : List ℕ) → MayLeave (synced (wrote old 8 (0 ∷ []))) image → Holds image number [] = λ image left. shut_holds image 0 parts.rest (left ∙ wrote_is) (λ same. absurd (omega arith)) in
          let moments : LeavesOnly (P old) old (synced (wrote old 8 (0 ∷ []))) = syncs (P old) old (wrote old 8 (0 ∷ [])) (writes (P old) old old 8 (0 ∷ []) (stayed old old refl) (λ image left. torn_long 1 (omega arith) left.0 image left.1 left.2)) (λ image left. inr (inr (durable image left))) in
          subst (λ past. HoldsAll past 9 number [] × LeavesOnly (P old) old past) (sym is) (all_empty (synced (wrote old 8 (0 ∷ []))) durable, moments)

-- a fact of both answers
pub either_way : {T E A B C : Type 0} (r : Result T E) → OnOk r A → OnErr r B → (A → C) → (B → C) → C
either_way (Ok done) well failed from_ok from_err = from_ok well
either_way (Err fault) well failed from_ok from_err = from_err failed
