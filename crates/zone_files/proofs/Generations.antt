-- A file is in one generation.
use Rattle.std.proofs.Common.{◌≡◌, inl, inr, ℕ, Bool, List, [], ◌∷◌, take, Option, Some, sym, ◌∙◌, ap, subst}
use Rattle.log_journal.specs.File.{Holds}
use Rattle.log_journal.specs.Front.{HasFirst}
use Rattle.checkpoint_line.specs.declared.first.FirstLine.{FirstLine}
use Rattle.checkpoint_line.specs.First.{HasFirstLine}
use Rattle.checkpoint_line.proofs.Cuts.{one_first, at_mark}
use Rattle.zone_files.specs.Generation.{number_of, IsMarked, BeginsCheckpoint, ShowsGeneration, IsInGeneration, BeginsBroken, PayloadsShow}
use Rattle.log_journal.proofs.FrontLaws.{first_held, never_nothing}
use Rattle.zone_files.proofs.FrontLaws.{one_first_payload}

marked_behind : (payload rest : List ℕ) → take 64 payload ≡ 90 ∷ 32 ∷ rest → IsMarked payload
marked_behind [] rest is = absurd (cc)
marked_behind (a ∷ []) rest is = absurd (cc)
marked_behind (a ∷ b ∷ payload) rest is =
    let first : a ≡ 90 = cc in
    let second : b ≡ 32 = cc in
    (payload, ap (λ (n : ℕ). n ∷ b ∷ payload) first ∙ ap (λ (n : ℕ). 90 ∷ n ∷ payload) second)

marked_front : (payload : List ℕ) → IsMarked payload → IsMarked (take 64 payload)
marked_front payload marked = (take 62 marked.0, ap (take 64) marked.1)

pub begins_marked : (payload : List ℕ) (g : ℕ) → BeginsCheckpoint payload g → IsMarked payload
begins_marked payload g begins =
    let parts = at_mark begins.first begins.begins.0 (take 64 payload) begins.begins.1.0 begins.begins.1.1 in
    marked_behind payload _ parts

-- what is read of two fronts is one
same_marked : (p q : List ℕ) → take 64 p ≡ take 64 q → IsMarked p → IsMarked q
same_marked p q same marked =
    let front = marked_front p marked in
    marked_behind q front.0 (sym same ∙ front.1)

same_shown : (second : Bool) (p q : List ℕ) (g h : Option ℕ) → take 64 p ≡ take 64 q → ShowsGeneration second p g → ShowsGeneration second q h → g ≡ h
same_shown second p q g h same (inl a) (inl b) = a.1 ∙ sym b.1
same_shown second p q g h same (inl a) (inr b) = absurd (a.0 (same_marked q p (sym same) (begins_marked q b.0 b.1)))
same_shown second p q g h same (inr a) (inl b) = absurd (b.0 (same_marked p q same (begins_marked p a.0 a.1)))
same_shown second p q g h same (inr a) (inr b) =
    let lines : a.1.first ≡ b.1.first = one_first (take 64 q) a.1.first b.1.first (subst (λ (t : List ℕ). HasFirstLine t a.1.first) same a.1.begins) b.1.begins in
    a.2 ∙ ap (λ (n : ℕ). Some n) (a.1.generation_is ∙ ap (λ (l : FirstLine). l.generation) lines ∙ sym b.1.generation_is) ∙ sym b.2

pub one_generation : (file : List ℕ) (second : Bool) (g h : Option ℕ) → IsInGeneration file second g → IsInGeneration file second h → g ≡ h
one_generation file second g h (inl a) (inl b) = a.1 ∙ sym b.1
one_generation file second g h (inl a) (inr b) = absurd (never_nothing file (number_of second) b.0 a.0 b.1)
one_generation file second g h (inr a) (inl b) = absurd (never_nothing file (number_of second) a.0 b.0 a.1)
one_generation file second g h (inr a) (inr b) = same_shown second a.0 b.0 g h (one_first_payload file (number_of second) a.0 b.0 a.1 b.1) a.2 b.2

pub shown_by : (file : List ℕ) (second : Bool) (payloads : List (List ℕ)) (g : Option ℕ) → Holds file (number_of second) payloads → PayloadsShow second payloads g → IsInGeneration file second g
shown_by file second [] g holds shows = inl (inr holds, shows)
shown_by file second (payload ∷ payloads) g holds shows = inr (payload, first_held file (number_of second) payload payloads holds, shows)

-- what begins as a checkpoint and has no first line is in no generation
pub no_generation : (file : List ℕ) (second : Bool) (generation : Option ℕ) → BeginsBroken file second → IsInGeneration file second generation → ⊥
no_generation file second generation broken (inl nothing) = never_nothing file (number_of second) broken.payload nothing.0 broken.first
no_generation file second generation broken (inr found) =
    let same : take 64 found.0 ≡ take 64 broken.payload = one_first_payload file (number_of second) found.0 broken.payload found.1 broken.first in
    refused found.0 same found.2
  where
    refused : (other : List ℕ) → take 64 other ≡ take 64 broken.payload → ShowsGeneration second other generation → ⊥
    refused other same (inl plain) = plain.0 (marked_behind other broken.marked.0 (same ∙ broken.marked.1))
    refused other same (inr shown) = broken.none shown.1.first (subst (λ (t : List ℕ). HasFirstLine t shown.1.first) same shown.1.begins)
