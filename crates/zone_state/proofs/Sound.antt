-- Logs of patches that their texts are.
use Rattle.std.proofs.Common.{◌≡◌, ℕ, zero, suc, ◌≤◌, List, [], ◌∷◌, ◌++◌, length, map, take, refl, ◌∙◌, ap, subst, arith}
use Rattle.std.specs.List.{AllByRecursion}
use Rattle.std.proofs.lemmas.List.{map-append, length-map}
use Rattle.delta_base.specs.declared.id.Id.{Id}
use Rattle.patch_meaning.specs.Checked.{CheckedPatch, AreChecked}
use Rattle.patch_meaning.specs.Patch.{Meaning, IsPatch}
use Rattle.patch_meaning.proofs.Settled.{one_meaning}
use Rattle.log_base.specs.declared.limits.LogLimits.{LogLimits}
use Rattle.log_base.specs.declared.limits.TheConstants.{PATCH_LIMIT}
use Rattle.chain_core.specs.declared.chain.Patch.{Patch}
use Rattle.chain_core.specs.Breaks.{BreaksAt}
use Rattle.chain_core.specs.Patches.{texts_of}
use Rattle.chain_core.proofs.Fronts.{links-take}
use Rattle.patch_log.specs.Log.{bare, IsSound}
use Rattle.zone_state.specs.Log.{IsSoundZoneLog, AreChained}

pub texts_of-push : (patches : List Patch) (patch : Patch) → texts_of (patches ++ patch ∷ []) ≡ texts_of patches ++ patch.text ∷ []
texts_of-push patches patch = map-append (λ (patch : Patch). patch.text) patches (patch ∷ [])

pub sound_checked : (taken : List CheckedPatch) → AreChecked taken → AllByRecursion IsSound (map bare taken)
sound_checked [] all = tt
sound_checked (patch ∷ taken) all = ((patch.meaning.changes, all.0), sound_checked taken all.1)

pub sound-front : (patches : List Patch) (patch : Patch) → AllByRecursion IsSound (patches ++ patch ∷ []) → AllByRecursion IsSound patches × IsSound patch
sound-front [] patch sound = (tt, sound.0)
sound-front (first ∷ patches) patch sound = let rest = sound-front patches patch sound.1 in ((sound.0, rest.0), rest.1)

sound-take : (patches : List Patch) (n : ℕ) → AllByRecursion IsSound patches → AllByRecursion IsSound (take n patches)
sound-take [] zero sound = tt
sound-take [] (suc n) sound = tt
sound-take (patch ∷ patches) zero sound = tt
sound-take (patch ∷ patches) (suc n) sound = (sound.0, sound-take patches n sound.1)

-- their texts are short
pub sound_short : (patches : List Patch) → AllByRecursion IsSound patches → AllByRecursion (λ (patch : Patch). length patch.text ≤ PATCH_LIMIT) patches
sound_short [] sound = tt
sound_short (patch ∷ patches) sound = let first = sound.0 in (first.1.short, sound_short patches sound.1)

-- ---- a text is the text of one patch

same_patch : (p q : Patch) → p.text ≡ q.text → p.id ≡ q.id → p.prev ≡ q.prev → p ≡ q
same_patch p q text id prev =
    ap (λ (t : List ℕ). record { id = p.id; prev = p.prev; text = t }) text
    ∙ ap (λ (i : Id). record { id = i; prev = p.prev; text = q.text }) id
    ∙ ap (λ (o : _). record { id = q.id; prev = o; text = q.text }) prev

pub one_sound : (p q : Patch) → p.text ≡ q.text → IsSound p → IsSound q → p ≡ q
one_sound p q same one other =
    let m : Meaning = record { id = p.id; prev = p.prev; changes = one.0 } in
    let n : Meaning = record { id = q.id; prev = q.prev; changes = other.0 } in
    let found = one_meaning q.text m n (subst (λ (text : List ℕ). IsPatch text m) same one.1) other.1 in
    same_patch p q same (ap (λ (x : Meaning). x.id) found) (ap (λ (x : Meaning). x.prev) found)

-- lists that are equal have equal heads and tails
pub heads : {X : Type 0} (x y : X) (xs ys : List X) → x ∷ xs ≡ y ∷ ys → (x ≡ y) × (xs ≡ ys)
heads x y xs ys same = (cc, cc)

-- so texts are those of one list of patches
pub one_list : (ps qs : List Patch) → texts_of ps ≡ texts_of qs → AllByRecursion IsSound ps → AllByRecursion IsSound qs → ps ≡ qs
one_list [] [] same one other = refl
one_list [] (q ∷ qs) same one other = absurd (cc)
one_list (p ∷ ps) [] same one other = absurd (cc)
one_list (p ∷ ps) (q ∷ qs) same one other =
    let parts = heads p.text q.text (texts_of ps) (texts_of qs) same in
    ap (λ (x : Patch). x ∷ ps) (one_sound p q parts.0 one.0 other.0) ∙ ap (λ (xs : List Patch). q ∷ xs) (one_list ps qs parts.1 one.1 other.1)

-- ---- the first texts of a chain

length-take : (texts : List (List ℕ)) (n : ℕ) → length (take n texts) ≤ length texts
length-take [] zero = omega arith
length-take [] (suc n) = omega arith
length-take (text ∷ texts) zero = omega arith
length-take (text ∷ texts) (suc n) = omega (arith, length-take texts n)

texts-take : (patches : List Patch) (n : ℕ) → texts_of (take n patches) ≡ take n (texts_of patches)
texts-take [] zero = refl
texts-take [] (suc n) = refl
texts-take (patch ∷ patches) zero = refl
texts-take (patch ∷ patches) (suc n) = ap (λ (ts : List (List ℕ)). patch.text ∷ ts) (texts-take patches n)

pub chained-take : (texts : List (List ℕ)) (most n : ℕ) → AreChained most texts → AreChained most (take n texts)
chained-take texts most n are = record {
  patches = take n are.patches;
  texts_are = texts-take are.patches n ∙ ap (take n) are.texts_are;
  sound = sound-take are.patches n are.sound;
  chain = links-take are.patches n are.chain;
  few = omega (arith, are.few, length-take texts n);
}

log_chained : (limits : LogLimits) (patches : List Patch) → IsSoundZoneLog limits patches → AreChained limits.patches (texts_of patches)
log_chained limits patches log = record { patches = patches; texts_are = refl; sound = log.sound; chain = log.log.chain; few = omega (arith, log.log.few, length-map patches (λ (patch : Patch). patch.text)) }

-- a log breaks nowhere
pub never_breaks : (limits : LogLimits) (patches : List Patch) (version : ℕ) → IsSoundZoneLog limits patches → BreaksAt (AreChained limits.patches) (texts_of patches) version → ⊥
never_breaks limits patches version log breaks = breaks.broken (chained-take (texts_of patches) limits.patches version (log_chained limits patches log))
