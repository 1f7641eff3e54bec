-- A chain has no fault, and patches have one fault at most.
use Rattle.std.proofs.Common.{◌≡◌, ℕ, ◌+◌, ◌<◌, true, false, ltb, List, take, Option, Some, refl, sym, ap, ◌∙◌, inl, inr, ⊎_elim, ◌⊎◌, arith}
use Rattle.std.specs.Prelude.{slice_get}
use Rattle.std.specs.Option.{option_map}
use Rattle.std.proofs.lemmas.Bool.{ltb-true, ltb-false}
use Rattle.delta_base.specs.declared.id.Id.{Id}
use Rattle.log_base.specs.declared.chain_link.ChainLink.{ChainLink}
use Rattle.chain_core.specs.declared.testing.ChainFault.{ChainFault}
use Rattle.chain_core.specs.declared.testing.ChainFault.TheVariants as faults
use Rattle.chain_core.specs.Ids.{last_of, version_among}
use Rattle.chain_core.specs.Links.{IsChain, link_ids}
use Rattle.chain_core.specs.Breaks.{BreaksAt, DivergesAt, RepeatsAt, Breaks}
use Rattle.chain_core.proofs.Fronts.{chain-take}

some_is : {A : Type 0} (x y : A) → ◌≡◌ {A = Option A} (Some x) (Some y) → x ≡ y
some_is x y e = cc

-- ---- one place

abbrev Ordered : ℕ → ℕ → Type 0
Ordered m n = (m < n) ⊎ ((n < m) ⊎ (m ≡ n))

ordered : (m n : ℕ) → Ordered m n
ordered m n =
    elim (ltb m n) as (λ b. ltb m n ≡ b → Ordered m n) [
      | true ↦ λ e. inl (ltb-true m n e)
      | false ↦ λ e.
          elim (ltb n m) as (λ b. ltb n m ≡ b → Ordered m n) [
            | true ↦ λ f. inr (inl (ltb-true n m f))
            | false ↦ λ f. let le = ltb-false m n e in let ge = ltb-false n m f in inr (inr (omega arith))
          ] refl
    ] refl

-- the least number is one
pub one_place : {T : Type 0} (IsSo : List T → Type 0) (items : List T) (a b : ℕ) → BreaksAt IsSo items a → BreaksAt IsSo items b → a ≡ b
one_place IsSo items a b first second =
    ⊎_elim (λ less. absurd (first.broken (second.so_before a less)))
    (λ rest. ⊎_elim (λ more. absurd (second.broken (first.so_before b more))) (λ same. same) rest) (ordered a b)

pub no_fault : (ls : List ChainLink) (fault : ChainFault) → Breaks ls fault → IsChain ls → ⊥
no_fault ls (faults.Diverged version have found) at chain = at.breaks.broken (chain-take ls (version + 1) chain)
no_fault ls (faults.Repeated id version) at chain = at.breaks.broken (chain-take ls (at.taken + 1) chain)

-- ---- one fault

one_less : (m n : ℕ) → m + 1 ≡ n + 1 → m ≡ n
one_less m n same = omega arith

abbrev SameFault : ChainFault → ChainFault → Type 0
SameFault a b = a ≡ b

same_diverged : (ls : List ChainLink) (v w : ℕ) (h h' f f' : Option Id) → v ≡ w → DivergesAt ls v h f → DivergesAt ls w h' f' → SameFault (faults.Diverged v h f) (faults.Diverged w h' f')
same_diverged ls v w h h' f f' e a b =
    let have : h ≡ h' = a.have_is ∙ ap (λ (n : ℕ). last_of (link_ids (take n ls))) e ∙ sym b.have_is in
    let found : f ≡ f' = some_is f f' (sym a.found_is ∙ ap (λ (n : ℕ). option_map (λ (l : ChainLink). l.prev) (slice_get ls n)) e ∙ b.found_is) in
    ap (λ (n : ℕ). faults.Diverged n h f) e ∙ ap (λ (o : Option Id). faults.Diverged w o f) have ∙ ap (λ (o : Option Id). faults.Diverged w h' o) found

same_repeated : (ls : List ChainLink) (i j : Id) (v w : ℕ) (a : RepeatsAt ls i v) (b : RepeatsAt ls j w) → a.taken ≡ b.taken → SameFault (faults.Repeated i v) (faults.Repeated j w)
same_repeated ls i j v w a b e =
    let id : i ≡ j = some_is i j (sym a.id_is ∙ ap (λ (n : ℕ). option_map (λ (l : ChainLink). l.id) (slice_get ls n)) e ∙ b.id_is) in
    let version : v ≡ w = some_is v w (sym a.version_is ∙ ap (λ (n : ℕ). version_among (link_ids (take n ls)) i) e ∙ ap (version_among (link_ids (take b.taken ls))) id ∙ b.version_is) in
    ap (λ (k : Id). faults.Repeated k v) id ∙ ap (λ (n : ℕ). faults.Repeated j n) version

-- where one diverges it doesn't repeat
apart_kinds : (ls : List ChainLink) (v : ℕ) (h f : Option Id) (j : Id) (w : ℕ) → DivergesAt ls v h f → RepeatsAt ls j w → ⊥
apart_kinds ls v h f j w a b =
    let e : v ≡ b.taken = one_less v b.taken (one_place IsChain ls (v + 1) (b.taken + 1) a.breaks b.breaks) in
    let prev : ◌≡◌ {A = Option (Option Id)} (Some f) (Some (last_of (link_ids (take b.taken ls)))) = sym a.found_is ∙ ap (λ (n : ℕ). option_map (λ (l : ChainLink). l.prev) (slice_get ls n)) e ∙ b.follows in
    a.differ (some_is f (last_of (link_ids (take b.taken ls))) prev ∙ ap (λ (n : ℕ). last_of (link_ids (take n ls))) (sym e) ∙ sym a.have_is)

pub one_fault : (ls : List ChainLink) (a b : ChainFault) → Breaks ls a → Breaks ls b → a ≡ b
one_fault ls (faults.Diverged v h f) (faults.Diverged w h' f') a b =
    same_diverged ls v w h h' f f' (one_less v w (one_place IsChain ls (v + 1) (w + 1) a.breaks b.breaks)) a b
one_fault ls (faults.Diverged v h f) (faults.Repeated j w) a b = absurd (apart_kinds ls v h f j w a b)
one_fault ls (faults.Repeated i v) (faults.Diverged w h f) a b = absurd (apart_kinds ls w h f i v b a)
one_fault ls (faults.Repeated i v) (faults.Repeated j w) a b =
    same_repeated ls i j v w a b (one_less a.taken b.taken (one_place IsChain ls (a.taken + 1) (b.taken + 1) a.breaks b.breaks))
