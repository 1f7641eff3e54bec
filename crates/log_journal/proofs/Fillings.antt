-- Payloads that are written all at once.
use Rattle.std.proofs.Common.{◌≡◌, ◌≢◌, inl, inr, ⊎_elim, ℕ, ◌+◌, ◌^◌, ◌<◌, ◌≤◌, List, [], ◌∷◌, ◌++◌, length, take, drop, get_or, refl, sym, ◌∙◌, ap, subst, arith, append_assoc, length-append, length-drop, take-append-drop, cond, Bool}
use Rattle.std.specs.Prelude.{Result, OnOk, OnErr}
use Rattle.std.proofs.lemmas.Result.{on_ok_weaker}
use Rattle.log_journal.proofs.Emptying.{either_way}
use Rattle.std.specs.Prelude.{sum_by, ◌==◌}
use Rattle.std.proofs.lemmas.List.Sums.{sum_by-append, sum_by-drop_more}
use Rattle.std.proofs.lemmas.Bool.{cases_eq, cases_Bool, eqb-true}
use Rattle.std.proofs.lemmas.List.{append-nil, take_more}
use Rattle.std.proofs.lemmas.List.Elements.{All-nil}
use Rattle.disk_model.specs.Past.{Past, wrote, synced, reads, overwritten, MayLeave, EveryImage, LeavesOnly}
use Rattle.disk_model.specs.Calls.{WroteSome}
use Rattle.disk_model.proofs.Moments.{starts, writes, syncs, joined, weaker}
use Rattle.log_base.specs.Journals.{payloads_length}
use Rattle.log_journal.specs.File.{front, front_in, header, head, body, block, blocks, Holds, AreSized}
use Rattle.log_journal.specs.Filling.{HoldsNoneOrAll, behind_gate}
use Rattle.log_journal.specs.Journal.{HoldsAll}
use Rattle.log_journal.specs.Writing.{WroteBehind}
use Rattle.log_journal.specs.declared.form.Form.TheVariants.{New}
use Rattle.log_journal.proofs.Bytes.{two_writes, written_behind, torn_gate, written_gate}
use Rattle.log_journal.proofs.Frames.{blocks_more, length-blocks, front-none, length-front}
use Rattle.log_journal.proofs.Split.{split, held}
use Rattle.log_journal.proofs.Steps.{behind_kept}
use Rattle.log_journal.proofs.Numbered.{one_behind}

-- with one payload more
pub behind_more : (payloads : List (List ℕ)) (payload : List ℕ) (gate : ℕ) → behind_gate payloads 1 ++ (body New (length payloads) payload ++ gate ∷ []) ≡ behind_gate (payloads ++ payload ∷ []) gate
behind_more payloads payload gate =
    let all : blocks New 0 (payloads ++ payload ∷ []) ++ gate ∷ [] ≡ (blocks New 0 payloads ++ 1 ∷ []) ++ (body New (length payloads) payload ++ gate ∷ []) =
    ap (λ (l : List ℕ). l ++ gate ∷ []) (blocks_more New 0 payloads payload)
    ∙ (let same : 0 + length payloads ≡ length payloads = omega arith in ap (λ (n : ℕ). (blocks New 0 payloads ++ block New n payload) ++ gate ∷ []) same)
    ∙ append_assoc (blocks New 0 payloads) (block New (length payloads) payload) (gate ∷ [])
    ∙ sym (append_assoc (blocks New 0 payloads) (1 ∷ []) (body New (length payloads) payload ++ gate ∷ [])) in
    sym (ap (λ (l : List ℕ). drop 1 l) all ∙ drop_front (blocks New 0 payloads) (body New (length payloads) payload ++ gate ∷ []))
  where
    drop_front : (l more : List ℕ) → drop 1 ((l ++ 1 ∷ []) ++ more) ≡ drop 1 (l ++ 1 ∷ []) ++ more
    drop_front [] more = refl
    drop_front (x ∷ l) more = refl

module _ (number : ℕ) (first : List ℕ) (others : List (List ℕ)) (sized : AreSized (first ∷ others)) (few : length (first ∷ others) < 2 ^ 32) where
  abbrev payloads : List (List ℕ)
  payloads = first ∷ others

  abbrev text : List ℕ
  text = behind_gate payloads 0

  -- the gate before the payloads may be open
  pub record HasFilling (image : List ℕ) : Type 0 where
    pub gate : ℕ
    pub rest : List ℕ
    pub whole : image ≡ header New number ++ gate ∷ (text ++ rest)

  opened : (image rest : List ℕ) → image ≡ header New number ++ 1 ∷ (text ++ rest) → Holds image number payloads
  unfolding front_in
  opened image rest is =
      let all : image ≡ front number payloads ++ 0 ∷ rest =
      is
      ∙ ap (λ (l : List ℕ). header New number ++ l) (append_assoc (blocks New 0 payloads) (0 ∷ []) rest)
      ∙ sym (append_assoc (header New number) (blocks New 0 payloads) (0 ∷ rest)) in
      held New number payloads image 0 rest all (λ same. absurd (omega arith)) sized few

  shut : (image : List ℕ) (gate : ℕ) (rest : List ℕ) → image ≡ header New number ++ gate ∷ rest → gate ≢ 1 → Holds image number []
  shut image gate rest is closed = held New number [] image gate rest (is ∙ ap (λ (l : List ℕ). l ++ gate ∷ rest) (sym (front-none New number))) closed (All-nil _) (omega arith)

  none_or_all : (image : List ℕ) → HasFilling image → HoldsNoneOrAll number payloads image
  none_or_all image has = ⊎_elim
      (λ (is : has.gate ≡ 1). inr (opened image has.rest (has.whole ∙ ap (λ (g : ℕ). header New number ++ g ∷ (text ++ has.rest)) is)))
      (λ (closed : has.gate ≡ 1 → ⊥). inl (shut image has.gate (text ++ has.rest) has.whole closed))
      (cases_eq has.gate 1)

  abbrev Q : List ℕ → Type 0
  Q image = HasFilling image

  abbrev R : List ℕ → Type 0
  R image = HoldsNoneOrAll number payloads image

  -- all of them are written behind the shut gate, and synced
  pub bodies_done : (old written new : Past) → MayLeave old (reads old) → HoldsAll old 9 number [] → WroteBehind 9 old written → reads written ≡ overwritten (reads old) 9 text → new ≡ synced written → LeavesOnly R old new × EveryImage new Q
  bodies_done old written new here all behind read is =
      let parts = split New number [] (reads old) (all.each (reads old) here) in
      let whole : reads old ≡ header New number ++ parts.gate ∷ parts.rest = parts.whole ∙ ap (λ (l : List ℕ). l ++ parts.gate ∷ parts.rest) (front-none New number) in
      let rest = drop (9 + length text) (reads old) in
      let shape : reads written ≡ header New number ++ parts.gate ∷ (text ++ rest) = read ∙ written_behind (header New number) parts.gate parts.rest (reads old) whole 9 text refl in
      let so_far = behind_kept 9 number [] old written all behind in
      let filled : EveryImage (synced written) Q = λ image left. record { gate = parts.gate; rest = rest; whole = left ∙ shape } in
      let moments : LeavesOnly R old (synced written) = syncs R old written (weaker (λ image. Holds image number []) R (λ image holds. inl holds) old written so_far.0) (λ image left. none_or_all image (filled image left)) in
      subst (λ past. LeavesOnly R old past × EveryImage past Q) (sym is) (moments, filled)

  pub bodies_failed : (old new : Past) → HoldsAll old 9 number [] → WroteBehind 9 old new → LeavesOnly R old new
  bodies_failed old new all behind = weaker (λ image. Holds image number []) R (λ image holds. inl holds) old new (behind_kept 9 number [] old new all behind).0

  -- then the gate
  pub gate_fails : (mid new : Past) → EveryImage mid Q → WroteSome 8 1 mid new → LeavesOnly R mid new
  gate_fails mid new all (inl same) = subst (λ past. LeavesOnly R mid past) (sym same) (starts R mid (λ image left. none_or_all image (all image left)))
  gate_fails mid new all (inr some) =
      let torn : EveryImage (wrote mid 8 some.0) R = λ image left.
      let before = all left.0 left.1 in
      none_or_all image (record { gate = get_or image 8 0; rest = before.rest; whole = torn_gate (header New number) before.gate (text ++ before.rest) left.0 before.whole 8 (length some.0) image refl some.1 left.2 }) in
      subst (λ past. LeavesOnly R mid past) (sym some.2) (writes R mid mid 8 some.0 (starts R mid (λ image left. none_or_all image (all image left))) torn)

  pub gate_done : (mid new : Past) → MayLeave mid (reads mid) → EveryImage mid Q → new ≡ synced (wrote mid 8 (1 ∷ [])) → LeavesOnly R mid new × HoldsAll new (payloads_length payloads) number payloads
  gate_done mid new here all is =
      let now = all (reads mid) here in
      let shape = written_gate (header New number) now.gate (text ++ now.rest) (reads mid) now.whole 8 1 refl in
      let durable : (image : List ℕ) → MayLeave (synced (wrote mid 8 (1 ∷ []))) image → Holds image number payloads = λ image left. opened image now.rest (left ∙ shape) in
      let torn : EveryImage (wrote mid 8 (1 ∷ [])) R = λ image left.
      let before = all left.0 left.1 in
      none_or_all image (record { gate = get_or image 8 0; rest = before.rest; whole = torn_gate (header New number) before.gate (text ++ before.rest) left.0 before.whole 8 1 image refl (omega arith) left.2 }) in
      let moments : LeavesOnly R mid (synced (wrote mid 8 (1 ∷ []))) = syncs R mid (wrote mid 8 (1 ∷ [])) (writes R mid mid 8 (1 ∷ []) (starts R mid (λ image left. none_or_all image (all image left))) torn) (λ image left. inr (durable image left)) in
      subst (λ past. LeavesOnly R mid past × HoldsAll past (payloads_length payloads) number payloads) (sym is) (
        moments,
        record { place = sym (length-front New number payloads); sized = sized; each = durable },
      )

-- one payload more is written in three writes
module _ (file : List ℕ) (ps : List (List ℕ)) (payload numbers : List ℕ) (gate end : ℕ) (within : 9 ≤ length file) (numbers_are : numbers ≡ head New (length ps) (length payload)) (end_is : end ≡ 9 + length (behind_gate ps 1)) where
  abbrev before : List ℕ
  before = behind_gate ps 1

  pub grown : length (behind_gate (ps ++ payload ∷ []) gate) ≡ length before + (9 + length payload)
  grown = omega (arith, ap length (behind_more ps payload gate), length-append before (body New (length ps) payload ++ gate ∷ []), length-append (body New (length ps) payload) (gate ∷ []))

  pub one_written : (last : ℕ) → last + 1 ≡ end + (9 + length payload)
      → overwritten (overwritten (overwritten (overwritten file 9 before) end numbers) (end + 8) payload) last (gate ∷ []) ≡ overwritten file 9 (behind_gate (ps ++ payload ∷ []) gate)
  one_written last last_is =
      let eight : length numbers ≡ 8 = ap length numbers_are in
      let first : overwritten (overwritten file 9 before) end numbers ≡ overwritten file 9 (before ++ numbers) = ap (λ (n : ℕ). overwritten (overwritten file 9 before) n numbers) end_is ∙ two_writes file before numbers 9 within in
      let second_at : end + 8 ≡ 9 + length (before ++ numbers) = omega (arith, end_is, eight, length-append before numbers) in
      let second : overwritten (overwritten file 9 (before ++ numbers)) (end + 8) payload ≡ overwritten file 9 ((before ++ numbers) ++ payload) = ap (λ (n : ℕ). overwritten (overwritten file 9 (before ++ numbers)) n payload) second_at ∙ two_writes file (before ++ numbers) payload 9 within in
      let third_at : last ≡ 9 + length ((before ++ numbers) ++ payload) = omega (arith, last_is, end_is, eight, length-append before numbers, length-append (before ++ numbers) payload) in
      let third : overwritten (overwritten file 9 ((before ++ numbers) ++ payload)) last (gate ∷ []) ≡ overwritten file 9 (((before ++ numbers) ++ payload) ++ gate ∷ []) = ap (λ (n : ℕ). overwritten (overwritten file 9 ((before ++ numbers) ++ payload)) n (gate ∷ [])) third_at ∙ two_writes file ((before ++ numbers) ++ payload) (gate ∷ []) 9 within in
      let joined : ((before ++ numbers) ++ payload) ++ gate ∷ [] ≡ before ++ (body New (length ps) payload ++ gate ∷ []) =
      ap (λ (l : List ℕ). ((before ++ l) ++ payload) ++ gate ∷ []) numbers_are
      ∙ ap (λ (l : List ℕ). l ++ gate ∷ []) (append_assoc before (head New (length ps) (length payload)) payload)
      ∙ append_assoc before (body New (length ps) payload) (gate ∷ []) in
      ap (λ (f : List ℕ). overwritten (overwritten f (end + 8) payload) last (gate ∷ [])) first
      ∙ ap (λ (f : List ℕ). overwritten f last (gate ∷ [])) second
      ∙ third
      ∙ ap (overwritten file 9) (joined ∙ behind_more ps payload gate)

-- nothing is written
pub none_written : (file : List ℕ) (gate : ℕ) → overwritten file 9 (behind_gate [] gate) ≡ file
none_written file gate = ap (λ (l : List ℕ). l ++ drop 9 file) (append-nil (take 9 file)) ∙ take-append-drop 9 file

-- the same for any list that isn't empty
pub first_failed : (number : ℕ) (payloads : List (List ℕ)) → payloads ≢ [] → AreSized payloads → length payloads < 2 ^ 32 → (old new : Past) → HoldsAll old 9 number [] → WroteBehind 9 old new → LeavesOnly (HoldsNoneOrAll number payloads) old new
first_failed number [] some sized few old new all behind = absurd (some refl)
first_failed number (p ∷ ps) some sized few old new all behind = bodies_failed number p ps sized few old new all behind

pub gate_moments : {T E : Type 0} (number : ℕ) (payloads : List (List ℕ)) → payloads ≢ [] → AreSized payloads → length payloads < 2 ^ 32 → (old written mid new : Past) → MayLeave old (reads old) → MayLeave mid (reads mid) → HoldsAll old 9 number []
    → WroteBehind 9 old written → reads written ≡ overwritten (reads old) 9 (behind_gate payloads 0) → mid ≡ synced written → (r : Result T E) → OnOk r (new ≡ synced (wrote mid 8 (1 ∷ []))) → OnErr r (WroteSome 8 1 mid new) → LeavesOnly (HoldsNoneOrAll number payloads) old new
gate_moments number [] some sized few old written mid new here here_mid all behind read is r ok err = absurd (some refl)
gate_moments number (p ∷ ps) some sized few old written mid new here here_mid all behind read is r ok err =
    let first = bodies_done number p ps sized few old written mid here all behind read is in
    either_way r ok err
    (λ done. joined (HoldsNoneOrAll number (p ∷ ps)) old mid new first.0 (gate_done number p ps sized few mid new here_mid first.1 done).0)
    (λ failed. joined (HoldsNoneOrAll number (p ∷ ps)) old mid new first.0 (gate_fails number p ps sized few mid new first.1 failed))

pub gate_ok : {T E : Type 0} (number : ℕ) (payloads : List (List ℕ)) → payloads ≢ [] → AreSized payloads → length payloads < 2 ^ 32 → (old written mid new : Past) → MayLeave old (reads old) → MayLeave mid (reads mid) → HoldsAll old 9 number []
    → WroteBehind 9 old written → reads written ≡ overwritten (reads old) 9 (behind_gate payloads 0) → mid ≡ synced written → (r : Result T E) → OnOk r (new ≡ synced (wrote mid 8 (1 ∷ []))) → OnOk r (HoldsAll new (payloads_length payloads) number payloads)
gate_ok number [] some sized few old written mid new here here_mid all behind read is r ok = absurd (some refl)
gate_ok number (p ∷ ps) some sized few old written mid new here here_mid all behind read is r ok =
    let first = bodies_done number p ps sized few old written mid here all behind read is in
    on_ok_weaker r (λ done. (gate_done number p ps sized few mid new here_mid first.1 done).1) ok

-- how long the text is
pub length_behind : (ps : List (List ℕ)) (gate : ℕ) → length (behind_gate ps gate) ≡ sum_by (λ (p : List ℕ). 9 + length p) ps
length_behind ps gate = omega (arith, length-drop 1 (blocks New 0 ps ++ gate ∷ []), length-append (blocks New 0 ps) (gate ∷ []), length-blocks New 0 ps)

-- one more fits into the whole length
pub room_left : (ps : List (List ℕ)) (i : ℕ) (p : List ℕ) → i < length ps → p ≡ get_or ps i p → sum_by (λ (q : List ℕ). 9 + length q) (take i ps) + (9 + length p) ≤ sum_by (λ (q : List ℕ). 9 + length q) ps
room_left ps i p within is =
    let all : sum_by (λ (q : List ℕ). 9 + length q) ps ≡ sum_by (λ (q : List ℕ). 9 + length q) (take i ps) + sum_by (λ (q : List ℕ). 9 + length q) (drop i ps) =
    ap (sum_by (λ (q : List ℕ). 9 + length q)) (sym (take-append-drop i ps)) ∙ sum_by-append (λ (q : List ℕ). 9 + length q) (take i ps) (drop i ps) in
    omega (arith, all, sum_by-drop_more (λ (q : List ℕ). 9 + length q) ps i p within, ap length is)

pub take_next : (ps : List (List ℕ)) (i : ℕ) (p : List ℕ) → i < length ps → p ≡ get_or ps i p → take (i + 1) ps ≡ take i ps ++ p ∷ []
take_next ps i p within is = take_more ps i p within ∙ ap (λ (q : List ℕ). take i ps ++ q ∷ []) (sym is)

-- more payloads come
pub more_come : (i n : ℕ) → i < n → ◌≡◌ {A = ℕ} (cond (i == n) 0 1) 1
more_come i n within = elim (cases_Bool (i == n)) [
  | inl same ↦ absurd (omega (arith, within, eqb-true i n same))
  | inr other ↦ ap (λ (b : Bool). cond {A = ℕ} b 0 1) other
]

-- three writes in a row
module _ (before first second third : Past) (e e8 last : ℕ) (numbers payload gate : List ℕ) (one : first ≡ wrote before e numbers) (two : second ≡ wrote first e8 payload) (three : third ≡ wrote second last gate) where
  pub three_read : reads third ≡ overwritten (overwritten (overwritten (reads before) e numbers) e8 payload) last gate
  three_read = ap reads three ∙ ap (λ (f : List ℕ). overwritten f last gate) (ap reads two ∙ ap (λ (f : List ℕ). overwritten f e8 payload) (ap reads one))

  pub three_behind : (end : ℕ) (old : Past) → end ≤ e → end ≤ e8 → end ≤ last → WroteBehind end old before → WroteBehind end old third
  three_behind end old from1 from2 from3 so_far =
      let a : WroteBehind end old first = subst (WroteBehind end old) (sym one) (one_behind end old before e numbers from1 so_far) in
      let b : WroteBehind end old second = subst (WroteBehind end old) (sym two) (one_behind end old first e8 payload from2 a) in
      subst (WroteBehind end old) (sym three) (one_behind end old second last gate from3 b)
