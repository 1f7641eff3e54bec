-- Two images are those of a zone of one brief.
use Rattle.std.proofs.Common.{◌≡◌, ℕ, List, [], ◌∷◌, drop, Option, Some, None, refl, sym, ◌∙◌, ap, subst}
use Rattle.patch_meaning.specs.Checked.{CheckedPatch, AreChecked, checked_texts}
use Rattle.patch_meaning.specs.Patch.{Meaning, IsPatch}
use Rattle.patch_meaning.proofs.Settled.{one_meaning}
use Rattle.checkpoint_text.specs.Brief.{Brief}
use Rattle.checkpoint_text.specs.Text.{checkpoint, IsCheckpoint}
use Rattle.checkpoint_text.proofs.OneText.{one_checkpoint}
use Rattle.zone_files.specs.Generation.{IsMarked}
use Rattle.zone_files.proofs.Together.{one_held}
use Rattle.zone_pairs.specs.Briefs.{with_patch}
use Rattle.zone_pairs.specs.Pair.{TakeTo, start_brief, IsStart, current_payloads, StandFor, ZoneHolds}
use Rattle.zone_pairs.proofs.Unmarked.{patch-unmarked}

first_text : (a b : List ℕ) (xs ys : List (List ℕ)) → a ∷ xs ≡ b ∷ ys → a ≡ b
first_text a b xs ys same = cc

other_texts : (a b : List ℕ) (xs ys : List (List ℕ)) → a ∷ xs ≡ b ∷ ys → xs ≡ ys
other_texts a b xs ys same = cc

one_checked : (p q : CheckedPatch) → IsPatch p.text p.meaning → IsPatch q.text q.meaning → p.text ≡ q.text → p ≡ q
one_checked p q is_p is_q same =
    let meanings : p.meaning ≡ q.meaning = one_meaning q.text p.meaning q.meaning (subst (λ (t : List ℕ). IsPatch t p.meaning) same is_p) is_q in
    ap (λ (t : List ℕ). record { text = t; meaning = p.meaning }) same ∙ ap (λ (m : Meaning). record { text = q.text; meaning = m }) meanings

pub same_patches : (ps qs : List CheckedPatch) → AreChecked ps → AreChecked qs → checked_texts ps ≡ checked_texts qs → ps ≡ qs
same_patches [] [] are_p are_q same = refl
same_patches [] (q ∷ qs) are_p are_q same = absurd (cc)
same_patches (p ∷ ps) [] are_p are_q same = absurd (cc)
same_patches (p ∷ ps) (q ∷ qs) are_p are_q same =
    let one = one_checked p q are_p.0 are_q.0 (first_text p.text q.text (checked_texts ps) (checked_texts qs) same) in
    let others = same_patches ps qs are_p.1 are_q.1 (other_texts p.text q.text (checked_texts ps) (checked_texts qs) same) in
    ap (λ (c : CheckedPatch). c ∷ ps) one ∙ ap (λ (cs : List CheckedPatch). q ∷ cs) others

pub take_once : (before : Brief) (patches : List CheckedPatch) (a b : Brief) → TakeTo before patches a → TakeTo before patches b → a ≡ b
take_once before [] a b to_a to_b = to_a ∙ sym to_b
take_once before (patch ∷ patches) a b to_a to_b = take_once (with_patch before patch) patches a b to_a.1 to_b.1

marked : (generation : ℕ) (brief : Brief) → IsMarked (checkpoint generation brief)
marked generation brief = (drop 2 (checkpoint generation brief), refl)

no_patch : (generation : ℕ) (start : Brief) (texts : List (List ℕ)) (patches : List CheckedPatch) → AreChecked patches → checkpoint generation start ∷ texts ≡ checked_texts patches → ⊥
no_patch generation start texts [] are same = absurd (cc)
no_patch generation start texts (patch ∷ patches) are same =
    let text = first_text (checkpoint generation start) patch.text texts (checked_texts patches) same in
    patch-unmarked patch are.0 (subst IsMarked text (marked generation start))

same_standing : (generation : ℕ) (start other : Option Brief) (ps qs : List CheckedPatch) (a b : Brief) → current_payloads generation start ps ≡ current_payloads generation other qs
    → IsStart generation start → IsStart generation other → AreChecked ps → AreChecked qs → TakeTo (start_brief start) ps a → TakeTo (start_brief other) qs b → a ≡ b
same_standing generation None None ps qs a b same is other are_p are_q to_a to_b =
    let patches = same_patches ps qs are_p are_q same in
    take_once (start_brief None) qs a b (subst (λ (cs : List CheckedPatch). TakeTo (start_brief None) cs a) patches to_a) to_b
same_standing generation None (Some t) ps qs a b same is other are_p are_q to_a to_b = absurd (no_patch generation t (checked_texts qs) ps are_p (sym same))
same_standing generation (Some s) None ps qs a b same is other are_p are_q to_a to_b = absurd (no_patch generation s (checked_texts ps) qs are_q same)
same_standing generation (Some s) (Some t) ps qs a b same is other are_p are_q to_a to_b =
    let texts = first_text (checkpoint generation s) (checkpoint generation t) (checked_texts ps) (checked_texts qs) same in
    let starts : s ≡ t = (one_checkpoint (checkpoint generation t) generation generation s t (subst (λ (x : List ℕ). IsCheckpoint x generation s) texts is) other).1 in
    let patches = same_patches ps qs are_p are_q (other_texts (checkpoint generation s) (checkpoint generation t) (checked_texts ps) (checked_texts qs) same) in
    take_once t qs a b (subst (λ (start : Brief). TakeTo start qs a) starts (subst (λ (cs : List CheckedPatch). TakeTo s cs a) patches to_a)) to_b

one_standing : (generation : ℕ) (payloads : List (List ℕ)) (a b : Brief) → StandFor generation payloads a → StandFor generation payloads b → a ≡ b
one_standing generation payloads a b is_a is_b =
    same_standing generation is_a.start is_b.start is_a.patches is_b.patches a b (sym is_a.payloads_are ∙ is_b.payloads_are) is_a.start_is is_b.start_is is_a.checked is_b.checked is_a.take is_b.take

pub one_zone : (first second : List ℕ) (a b : Brief) → ZoneHolds first second a → ZoneHolds first second b → a ≡ b
one_zone first second a b is_a is_b = one_held StandFor one_standing first second a b is_a is_b
