-- Logs of runs that their texts are.
use Rattle.std.proofs.Common.{◌≡◌, ℕ, zero, suc, ◌+◌, ◌<◌, List, [], ◌∷◌, ◌++◌, length, map, take, drop, refl, sym, ◌∙◌, ap, subst, arith, length-append, append_assoc, append-nil}
use Rattle.std.specs.List.{AllByRecursion, flat_map}
use Rattle.std.proofs.lemmas.List.{map-append, take_at}
use Rattle.std.proofs.lemmas.List.Concat.{flat_map-cons}
use Rattle.patch_meaning.specs.Checked.{CheckedPatch}
use Rattle.patch_meaning.specs.Patch.{IsPatch}
use Rattle.patch_meaning.specs.Stream.{IsSplit}
use Rattle.patch_meaning.proofs.Joined.{joined}
use Rattle.patch_meaning.proofs.Alone.{alone, one_split}
use Rattle.log_base.specs.declared.limits.LogLimits.{LogLimits}
use Rattle.chain_core.specs.declared.chain.Patch.{Patch}
use Rattle.chain_core.specs.declared.answer.Decision.TheVariants.{Accept}
use Rattle.chain_core.specs.Decision.{run_decision}
use Rattle.chain_core.specs.Links.{IsChain}
use Rattle.chain_core.specs.Patches.{links_of}
use Rattle.chain_core.specs.Runs.{IsRun, patches_in, run_text, run_texts}
use Rattle.chain_core.proofs.Runs.{patches_in-push}
use Rattle.chain_core.proofs.Stays.{goes_on}
use Rattle.chain_core.proofs.Fronts.{links-take}
use Rattle.patch_log.specs.Log.{IsRunOf, IsSoundRun, IsSoundLog, AreChained, BreaksBehind, bare}

pub texts_of-push : (runs : List (List Patch)) (run : List Patch) → run_texts (runs ++ run ∷ []) ≡ run_texts runs ++ run_text run ∷ []
texts_of-push runs run = map-append run_text runs (run ∷ [])

pub sound-push : (runs : List (List Patch)) (run : List Patch) → AllByRecursion IsSoundRun runs → IsSoundRun run → AllByRecursion IsSoundRun (runs ++ run ∷ [])
sound-push [] run sound more = (more, tt)
sound-push (first ∷ runs) run sound more = (sound.0, sound-push runs run sound.1 more)

pub sound-front : (runs : List (List Patch)) (run : List Patch) → AllByRecursion IsSoundRun (runs ++ run ∷ []) → AllByRecursion IsSoundRun runs × IsSoundRun run
sound-front [] run sound = (tt, sound.0)
sound-front (first ∷ runs) run sound = let rest = sound-front runs run sound.1 in ((sound.0, rest.0), rest.1)

sound-take : (runs : List (List Patch)) (n : ℕ) → AllByRecursion IsSoundRun runs → AllByRecursion IsSoundRun (take n runs)
sound-take [] zero sound = tt
sound-take [] (suc n) sound = tt
sound-take (run ∷ runs) zero sound = tt
sound-take (run ∷ runs) (suc n) sound = (sound.0, sound-take runs n sound.1)

-- ---- runs and their texts

pub run_is : (run : List Patch) → IsSoundRun run → IsRun run
run_is run sound = subst IsRun sound.bare_is sound.read.run

pub runs_some : (runs : List (List Patch)) → AllByRecursion IsSoundRun runs → AllByRecursion (λ (run : List Patch). 0 < length run) runs
runs_some [] sound = tt
runs_some (run ∷ runs) sound = ((run_is run sound.0).some, runs_some runs sound.1)

texts_flat : (patches : List CheckedPatch) → run_text (map bare patches) ≡ flat_map (λ (p : CheckedPatch). p.text) patches
texts_flat [] = refl
texts_flat (p ∷ []) = sym (append-nil p.text) ∙ sym (flat_map-cons (λ (p : CheckedPatch). p.text) p [])
texts_flat (p ∷ (q ∷ patches)) = ap (λ (t : List ℕ). p.text ++ t) (texts_flat (q ∷ patches)) ∙ sym (flat_map-cons (λ (p : CheckedPatch). p.text) p (q ∷ patches))

some_not : (patches : List CheckedPatch) → 0 < length (map bare patches) → patches ≡ [] → ⊥
some_not patches some none = let no : length (map bare patches) ≡ 0 = ap (λ (ps : List CheckedPatch). length (map bare ps)) none in absurd (omega (arith, some, no))

-- the text of a run is that of which it was read
pub text_is : (text : List ℕ) (patches : List CheckedPatch) → IsRunOf text patches → run_text (map bare patches) ≡ text
text_is text patches is = texts_flat patches ∙ joined text patches is.split (some_not patches is.run.some)

-- what was read is sound
pub sound_of : (text : List ℕ) (patches : List CheckedPatch) → IsRunOf text patches → IsSoundRun (map bare patches)
sound_of text patches is = record {
  patches = patches;
  bare_is = refl;
  read = subst (λ (t : List ℕ). IsRunOf t patches) (sym (text_is text patches is)) is;
}

-- one patch is a run by itself
alone_run : (patch : Patch) → IsRun (patch ∷ [])
alone_run patch = record { some = omega arith; chain = record { follow = (refl, tt); differ = (tt, tt) } }

pub sound_alone : (patch : CheckedPatch) → IsPatch patch.text patch.meaning → IsSoundRun (bare patch ∷ [])
sound_alone patch is = record {
  patches = patch ∷ [];
  bare_is = refl;
  read = record { short = is.short; split = alone patch is; run = alone_run (bare patch) };
}

-- ---- a text is the text of one run

pub one_run : (r s : List Patch) → run_text r ≡ run_text s → IsSoundRun r → IsSoundRun s → r ≡ s
one_run r s same one other =
    let read : IsSplit (run_text s) one.patches = subst (λ (t : List ℕ). IsSplit t one.patches) same one.read.split in
    sym one.bare_is ∙ ap (map bare) (one_split (run_text s) one.patches other.patches read other.read.split) ∙ other.bare_is

-- lists that are equal have equal heads and tails
pub heads : {X : Type 0} (x y : X) (xs ys : List X) → x ∷ xs ≡ y ∷ ys → (x ≡ y) × (xs ≡ ys)
heads x y xs ys same = (cc, cc)

-- so texts are those of one list of runs
pub one_list : (rs ss : List (List Patch)) → run_texts rs ≡ run_texts ss → AllByRecursion IsSoundRun rs → AllByRecursion IsSoundRun ss → rs ≡ ss
one_list [] [] same one other = refl
one_list [] (s ∷ ss) same one other = absurd (cc)
one_list (r ∷ rs) [] same one other = absurd (cc)
one_list (r ∷ rs) (s ∷ ss) same one other =
    let parts = heads (run_text r) (run_text s) (run_texts rs) (run_texts ss) same in
    ap (λ (x : List Patch). x ∷ rs) (one_run r s parts.0 one.0 other.0) ∙ ap (λ (xs : List (List Patch)). s ∷ xs) (one_list rs ss parts.1 one.1 other.1)

-- ---- what is accepted goes on the log

pub log-push : (limits : LogLimits) (runs : List (List Patch)) (run : List Patch) (version : ℕ) → IsSoundLog limits runs → IsSoundRun run → run_decision (patches_in runs) run limits ≡ Accept version → IsSoundLog limits (runs ++ run ∷ [])
log-push limits runs run version log sound is = record {
  log = rw (patches_in-push runs run) (goes_on limits (patches_in runs) run version log.log (run_is run sound) sound.read.short is);
  sound = sound-push runs run log.sound sound;
}

-- ---- the first runs of a chain

texts-take : (runs : List (List Patch)) (n : ℕ) → run_texts (take n runs) ≡ take n (run_texts runs)
texts-take [] zero = refl
texts-take [] (suc n) = refl
texts-take (run ∷ runs) zero = refl
texts-take (run ∷ runs) (suc n) = ap (λ (ts : List (List ℕ)). run_text run ∷ ts) (texts-take runs n)

-- the patches of the first runs come first
patches-front : (runs : List (List Patch)) (n : ℕ) → patches_in runs ≡ patches_in (take n runs) ++ patches_in (drop n runs)
patches-front [] zero = refl
patches-front [] (suc n) = refl
patches-front (run ∷ runs) zero = refl
patches-front (run ∷ runs) (suc n) = ap (λ (ps : List Patch). run ++ ps) (patches-front runs n) ∙ sym (append_assoc run (patches_in (take n runs)) (patches_in (drop n runs)))

pub chain-front : (front more : List Patch) → IsChain (links_of (front ++ more)) → IsChain (links_of front)
chain-front front more chain = subst (λ (ps : List Patch). IsChain (links_of ps)) (take_at front more (length front) refl) (links-take (front ++ more) (length front) chain)

pub chained-take : (texts : List (List ℕ)) (most n : ℕ) → AreChained most texts → AreChained most (take n texts)
chained-take texts most n are = record {
  runs = take n are.runs;
  texts_are = texts-take are.runs n ∙ ap (take n) are.texts_are;
  sound = sound-take are.runs n are.sound;
  chain = chain-front (patches_in (take n are.runs)) (patches_in (drop n are.runs)) (subst (λ (ps : List Patch). IsChain (links_of ps)) (patches-front are.runs n) are.chain);
  few = omega (arith, are.few, ap length (patches-front are.runs n), length-append (patches_in (take n are.runs)) (patches_in (drop n are.runs)));
}

pub log_chained : (limits : LogLimits) (runs : List (List Patch)) → IsSoundLog limits runs → AreChained limits.patches (run_texts runs)
log_chained limits runs log = record { runs = runs; texts_are = refl; sound = log.sound; chain = log.log.chain; few = log.log.few }

-- a log breaks nowhere
pub never_breaks : (limits : LogLimits) (runs : List (List Patch)) (version : ℕ) → IsSoundLog limits runs → BreaksBehind limits.patches (run_texts runs) version → ⊥
never_breaks limits runs version log breaks = breaks.broken (chained-take (run_texts runs) limits.patches (breaks.count + 1) (log_chained limits runs log))

pub map_same : (patches : List Patch) → map (λ (p : Patch). p) patches ≡ patches
map_same [] = refl
map_same (patch ∷ patches) = ap (λ (ps : List Patch). patch ∷ ps) (map_same patches)
