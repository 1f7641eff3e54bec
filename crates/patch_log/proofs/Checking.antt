-- Whether patches are a run, patch by patch.
use Rattle.std.proofs.Common.{◌≡◌, ℕ, zero, suc, ◌+◌, ◌<◌, ◌≤◌, List, [], ◌∷◌, ◌++◌, length, map, take, get_or, Option, None, Some, true, false, refl, sym, ap, subst, ◌∙◌, length-append, arith}
use Rattle.std.specs.Prelude.{is_some, IfNone, IfSome}
use Rattle.std.specs.List.{AllByRecursion}
use Rattle.std.proofs.Math.Seq.{take-append-add}
use Rattle.std.proofs.lemmas.List.{map-append, take_more, take_at, take-append-le, length-map}
use Rattle.log_base.specs.declared.limits.TheConstants.{PATCH_LIMIT}
use Rattle.chain_core.specs.declared.chain.Patch.{Patch}
use Rattle.chain_core.specs.declared.chain.Entry.{Entry}
use Rattle.log_base.specs.declared.chain_link.ChainLink.{ChainLink}
use Rattle.chain_core.specs.declared.testing.ChainTest.{ChainTest}
use Rattle.chain_core.specs.declared.testing.ChainFault.{ChainFault}
use Rattle.chain_core.specs.Links.{IsChain}
use Rattle.chain_core.specs.Breaks.{BreaksAt, Breaks}
use Rattle.chain_core.specs.Chain.{IsBoundedChain, entry_link}
use Rattle.chain_core.specs.Patches.{links_of}
use Rattle.chain_core.specs.Runs.{headless, IsRun, run_text}
use Rattle.chain_core.specs.Tested.{IsTested}
use Rattle.chain_core.proofs.Fronts.{chain-take}
use Rattle.chain_core.proofs.Only.{no_fault}
use Rattle.chain_core.proofs.Versions.{link_to}
use Rattle.std.specs.List.{flat_map}
use Rattle.std.proofs.lemmas.List.Concat.{flat_map-cons}
use Rattle.patch_meaning.specs.Checked.{CheckedPatch, AreChecked}
use Rattle.patch_meaning.specs.Patch.{Meaning, IsPatch, IsWell}
use Rattle.patch_meaning.specs.Roles.{said}
use Rattle.patch_meaning.specs.Rows.{RowsTo}
use Rattle.patch_meaning.specs.Stream.{IsSplit, linked}
use Rattle.patch_meaning.proofs.Joined.{checked_by_itself, joined}
use Rattle.patch_meaning.proofs.Rowed.{row_within}
use Rattle.patch_log.specs.Log.{bare, IsSoundRun}
use Rattle.patch_log.specs.Opening.{patch_linked}
use Rattle.patch_log.specs.RunFaults.{HasLinkFault, HasRunFault, link_in_run}
use Rattle.patch_log.specs.declared.run.RunFault.{RunFault}
use Rattle.patch_log.specs.declared.run.RunFault.TheVariants as faults

-- ---- a text has a byte for each of its patches

some_text : (text : List ℕ) (m : Meaning) → IsPatch text m → 0 < length text
some_text text m is = by is.rows_ is.reads is.well
  where
    by : (rs : _) → RowsTo text 0 rs (length text) → IsWell (said rs) m → 0 < length text
    by [] reads well = let no = well.one_id in absurd (cc)
    by (r ∷ rs) (behind, up, gap) well = let within = row_within text r.at r.row r.end up.1 in omega (arith, within.0, within.1)

flat_long : (ps : List CheckedPatch) → AreChecked ps → length ps ≤ length (flat_map (λ (p : CheckedPatch). p.text) ps)
flat_long [] are = omega arith
flat_long (p ∷ ps) are =
    let rest = flat_map (λ (q : CheckedPatch). q.text) ps in
    omega (arith, some_text p.text p.meaning are.0, flat_long ps are.1, ap length (flat_map-cons (λ (q : CheckedPatch). q.text) p ps), length-append p.text rest)

pub few_patches : (text : List ℕ) (ps : List CheckedPatch) → IsSplit text ps → length ps ≤ length text
few_patches text [] split = omega arith
few_patches text (p ∷ ps) split =
    let all = p ∷ ps in
    omega (arith, flat_long all (checked_by_itself text all split), ap length (joined text all split (λ none. cc)))

pub few_in_run : (run : List Patch) → IsSoundRun run → length run ≤ PATCH_LIMIT
few_in_run run sound =
    omega (arith, few_patches (run_text run) sound.patches sound.read.split, sound.read.short, ap length (sym sound.bare_is), length-map sound.patches bare)

-- ---- the links of the first patches

-- the links of the first patches, of which the first one names nothing
abbrev pub links_to : List Patch → ℕ → List ChainLink
links_to patches place = headless (links_of (take place patches))

headless-push : (ls : List ChainLink) (l : ChainLink) (place : ℕ) → length ls ≡ place → headless (ls ++ l ∷ []) ≡ headless ls ++ link_in_run place l ∷ []
headless-push [] l zero at = refl
headless-push [] l (suc place) at = absurd (omega (arith, at))
headless-push (first ∷ ls) l zero at = absurd (omega (arith, at))
headless-push (first ∷ ls) l (suc place) at = refl

length-take_at : (patches : List Patch) (place : ℕ) → place ≤ length patches → length (take place patches) ≡ place
length-take_at [] zero fits = refl
length-take_at [] (suc place) fits = absurd (omega (arith, fits))
length-take_at (p ∷ patches) zero fits = refl
length-take_at (p ∷ patches) (suc place) fits = ap suc (length-take_at patches place (omega (arith, fits)))

length-links : (patches : List Patch) (place : ℕ) → place ≤ length patches → length (links_of (take place patches)) ≡ place
length-links patches place fits = length-map (take place patches) link_to ∙ length-take_at patches place fits

length-headless : (ls : List ChainLink) → length (headless ls) ≡ length ls
length-headless [] = refl
length-headless (l ∷ ls) = refl

pub length-links_to : (patches : List Patch) (place : ℕ) → place ≤ length patches → length (links_to patches place) ≡ place
length-links_to patches place fits = length-headless (links_of (take place patches)) ∙ length-links patches place fits

-- with one patch more
pub links_more : (patches : List Patch) (place : ℕ) (patch : Patch) → place < length patches → patch ≡ get_or patches place patch
    → links_to patches (place + 1) ≡ links_to patches place ++ link_in_run place (link_to patch) ∷ []
links_more patches place patch within is =
    let more : take (place + 1) patches ≡ take place patches ++ patch ∷ [] =
    take_more patches place patch within ∙ ap (λ (p : Patch). take place patches ++ p ∷ []) (sym is) in
    ap (λ (ps : List Patch). headless (links_of ps)) more
    ∙ ap headless (map-append link_to (take place patches) (patch ∷ []))
    ∙ headless-push (links_of (take place patches)) (link_to patch) place (length-links patches place (omega (arith, within)))

-- all of them
pub links_all : (patches : List Patch) (place : ℕ) → length patches ≤ place → links_to patches place ≡ headless (links_of patches)
links_all patches place past = ap (λ (ps : List Patch). headless (links_of ps)) (all patches place past)
  where
    all : (ps : List Patch) (n : ℕ) → length ps ≤ n → take n ps ≡ ps
    all [] zero past = refl
    all [] (suc n) past = refl
    all (p ∷ ps) zero past = absurd (omega (arith, past))
    all (p ∷ ps) (suc n) past = ap (λ (l : List Patch). p ∷ l) (all ps n (omega (arith, past)))

-- the links from a place on
from_place : (patches : List Patch) (place : ℕ) (patch : Patch) → place < length patches → patch ≡ get_or patches place patch
    → (more : List ChainLink) × (headless (links_of patches) ≡ links_to patches place ++ link_in_run place (link_to patch) ∷ more)
from_place patches place patch within is = by patches place within is
  where
    later : (ps : List Patch) (n : ℕ) → n < length ps → patch ≡ get_or ps n patch → (more : List ChainLink) × (links_of ps ≡ links_of (take n ps) ++ link_to patch ∷ more)
    later [] n low at = absurd (omega (arith, low))
    later (p ∷ ps) zero low at = (links_of ps, ap (λ (q : Patch). link_to q ∷ links_of ps) (sym at))
    later (p ∷ ps) (suc n) low at = let rest = later ps n (omega (arith, low)) at in (rest.0, ap (λ (ls : List ChainLink). link_to p ∷ ls) rest.1)

    by : (ps : List Patch) (n : ℕ) → n < length ps → patch ≡ get_or ps n patch → (more : List ChainLink) × (headless (links_of ps) ≡ headless (links_of (take n ps)) ++ link_in_run n (link_to patch) ∷ more)
    by [] n low at = absurd (omega (arith, low))
    by (p ∷ ps) zero low at = (links_of ps, ap (λ (q : Patch). headless (link_to q ∷ links_of ps)) (sym at))
    by (p ∷ ps) (suc n) low at = let rest = later ps n (omega (arith, low)) at in (rest.0, ap (λ (ls : List ChainLink). headless (link_to p ∷ ls)) rest.1)

-- ---- the first one that doesn't follow

breaks_behind : (ls more : List ChainLink) (x : ChainLink) → IsChain ls → (IsChain (ls ++ x ∷ []) → ⊥) → BreaksAt IsChain (ls ++ x ∷ more) (length ls + 1)
breaks_behind ls more x chain none = record {
  within = omega (arith, length-append ls (x ∷ more));
  so_before = λ fewer less. subst IsChain (sym (take-append-le fewer ls (x ∷ more) (omega arith))) (chain-take ls fewer chain);
  broken = λ longer. none (subst IsChain (take-append-add ls (x ∷ more) 1) longer);
}

pub breaks_there : (patches : List Patch) (place : ℕ) (patch : Patch) (t : ChainTest) (link : ChainLink) → place < length patches → patch ≡ get_or patches place patch → IsTested (links_to patches place) t
    → link ≡ link_in_run place (link_to patch) → (fault : ChainFault) × Breaks (links_to patches place ++ link ∷ []) fault → BreaksAt IsChain (headless (links_of patches)) (place + 1)
breaks_there patches place patch t link within is tested link_is broken =
    let fault = broken.0 in
    let breaks = subst (λ (l : ChainLink). Breaks (links_to patches place ++ l ∷ []) fault) link_is broken.1 in
    let x = link_in_run place (link_to patch) in
    let ls = links_to patches place in
    let behind = from_place patches place patch within is in
    let here = breaks_behind ls behind.0 x tested.chain (λ longer. no_fault (ls ++ x ∷ []) fault breaks longer) in
    subst (λ (n : ℕ). BreaksAt IsChain (headless (links_of patches)) (n + 1)) (length-links_to patches place (omega (arith, within)))
    (subst (λ (all : List ChainLink). BreaksAt IsChain all (length ls + 1)) (sym behind.1) here)

pub run_of : (patches : List Patch) (place : ℕ) (t : ChainTest) → 0 < length patches → length patches ≤ place → IsTested (links_to patches place) t → IsRun patches
run_of patches place t some past tested = record {
  some = some;
  chain = subst IsChain (links_all patches place past) tested.chain;
}

-- ---- entries that are the first of a chain

short_front : (front more : List Entry) → AllByRecursion (λ (e : Entry). length e.patch.text ≤ PATCH_LIMIT) (front ++ more) → AllByRecursion (λ (e : Entry). length e.patch.text ≤ PATCH_LIMIT) front
short_front [] more short = tt
short_front (e ∷ front) more short = (short.0, short_front front more short.1)

pub bounded_front : (front more : List Entry) → IsBoundedChain (front ++ more) → IsBoundedChain front
bounded_front front more kept = record {
  chain = subst IsChain (take_at (map entry_link front) (map entry_link more) (length (map entry_link front)) refl)
      (chain-take (map entry_link front ++ map entry_link more) (length (map entry_link front)) (subst IsChain (map-append entry_link front more) kept.chain));
  few = omega (arith, kept.few, length-append front more);
  short = short_front front more kept.short;
}

-- ---- what an option shows

pub if_none : {X : Type 0} (o : Option X) (P : Type 0) → is_some o ≡ false → IfNone o P → P
if_none None P is p = p
if_none (Some x) P is p = absurd (cc)

pub if_some : {X : Type 0} (o : Option X) (P : X → Type 0) → is_some o ≡ true → IfSome o P → (x : X) × P x
if_some None P is p = absurd (cc)
if_some (Some x) P is p = (x, p)

-- with one more the test goes on
pub tested_there : (patches : List Patch) (place : ℕ) (patch : Patch) (link : ChainLink) (t : ChainTest) → place < length patches → patch ≡ get_or patches place patch → link ≡ link_in_run place (link_to patch)
    → IsTested (links_to patches place ++ link ∷ []) t → IsTested (links_to patches (place + 1)) t
tested_there patches place patch link t within is link_is tested =
    subst (λ (ls : List ChainLink). IsTested ls t) (ap (λ (l : ChainLink). links_to patches place ++ l ∷ []) link_is ∙ sym (links_more patches place patch within is)) tested

-- what is wrong with the patches is wrong with their text
pub link_fault : (text : List ℕ) (read : List CheckedPatch) (patches : List Patch) (fault : RunFault) → length text ≤ PATCH_LIMIT → IsSplit text read → patches ≡ map bare read → HasLinkFault patches fault → HasRunFault text fault
link_fault text read patches (faults.TooLong have limit) short split are has = absurd has
link_fault text read patches (faults.Patch fault) short split are has = absurd has
link_fault text read patches (faults.BadRun at) short split are has = (short, (read, split, rw (sym are) has))
link_fault text read patches faults.OutOfMemory short split are has = tt

-- patches that were read as links and texts are these without their changes
pub unlinked : (read : List CheckedPatch) → map patch_linked (map linked read) ≡ map bare read
unlinked [] = refl
unlinked (patch ∷ read) = ap (λ (ps : List Patch). bare patch ∷ ps) (unlinked read)
