-- The patches of the stream are a chain.
use Rattle.std.proofs.Common.{◌≡◌, ◌≢◌, ℕ, zero, suc, pred, ◌+◌, ◌<◌, ◌≤◌, ◌==◌, false, cond, List, length, Option, Some, None, refl, ap, subst, ◌∙◌, arith}
use Rattle.std.specs.List.{AllByRecursion}
use Rattle.std.proofs.lemmas.Bool.Decides.{nat_tests}
use Rattle.delta_base.specs.declared.id.Id.{Id}
use Rattle.chain_core.specs.Ids.{last_of}
use Rattle.chain_core.specs.Links.{Follow, AllDiffer, IsChain, link_ids}
use Rattle.chain_core.proofs.Versions.{last_or}
use Rattle.chain_core.proofs.Versions.{last_is as last_among}
use Rattle.patch_meaning.specs.Replay.{links_said}
use Rattle.stream_generator.specs.Generator.{patch_number}
use Rattle.generated_replay.specs.Meanings.{patch_id, prev, meanings_from, meanings_to, head}

follows : (k : ℕ) → 1 ≤ k → prev (k + 1) ≡ Some (patch_id k)
follows k from =
    let later : (k + 1 == 1) ≡ false = grind (arith, nat_tests) in
    let before : pred (k + 1) ≡ k = omega arith in
    ap (λ b. cond b None (Some (patch_id (pred (k + 1))))) later ∙ ap (λ (n : ℕ). Some (patch_id n)) before

follow_from : (count k : ℕ) → 1 ≤ k → Follow (prev k) (links_said (meanings_from k count))
follow_from zero k from = tt
follow_from (suc count) k from =
    (refl, subst (λ (before : Option Id). Follow before (links_said (meanings_from (k + 1) count))) (follows k from) (follow_from count (k + 1) (omega arith)))

abbrev ids_from : ℕ → ℕ → List Id
ids_from k count = link_ids (links_said (meanings_from k count))

ids_behind : (count k low : ℕ) → low < k → AllByRecursion (λ (i : Id). i ≢ patch_id low) (ids_from k count)
ids_behind zero k low less = tt
ids_behind (suc count) k low less =
    (λ same. let numbers : patch_number k ≡ patch_number low = ap (λ (i : Id). i.0) same in absurd (omega (arith, numbers)), ids_behind count (k + 1) low (omega arith))

differ_from : (count k : ℕ) → AllDiffer (ids_from k count)
differ_from zero k = tt
differ_from (suc count) k = (ids_behind count (k + 1) k (omega arith), differ_from count (k + 1))

pub chained : (n : ℕ) → IsChain (links_said (meanings_to n))
chained n = record { follow = follow_from n 1 (omega arith); differ = differ_from n 1 }

-- ---- how many, and the last one

counted_from : (count k : ℕ) → length (meanings_from k count) ≡ count
counted_from zero k = refl
counted_from (suc count) k = ap suc (counted_from count (k + 1))

pub counted : (n : ℕ) → length (meanings_to n) ≡ n
counted n = counted_from n 1

last_from : (count k : ℕ) → last_or (Some (patch_id k)) (ids_from (k + 1) count) ≡ Some (patch_id (k + count))
last_from zero k = ap (λ (n : ℕ). Some (patch_id n)) (omega arith)
last_from (suc count) k = last_from count (k + 1) ∙ ap (λ (n : ℕ). Some (patch_id n)) (omega arith)

pub last_is : (n : ℕ) → last_of (link_ids (links_said (meanings_to n))) ≡ head n
last_is zero = refl
last_is (suc n) = last_among (ids_from 1 (suc n)) ∙ last_from n 1 ∙ ap (λ (n : ℕ). Some (patch_id n)) (omega arith)
