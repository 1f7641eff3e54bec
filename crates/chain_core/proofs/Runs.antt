-- Runs behind a chain, and the entries of runs.
use Rattle.std.proofs.Common.{◌≡◌, ◌≢◌, ◌⊎◌, inl, inr, ℕ, zero, suc, ◌+◌, ◌*◌, ◌<◌, ◌≤◌, false, eqb, List, [], ◌∷◌, ◌++◌, length, sum_by, Option, Some, None, refl, sym, ◌∙◌, ap, subst, arith, length-append, append_assoc, append-nil}
use Rattle.std.specs.List.{AllByRecursion}
use Rattle.std.proofs.lemmas.List.{map-append}
use Rattle.std.proofs.lemmas.Bool.{eqb-false, ne_eqb}
use Rattle.std.proofs.lemmas.List.Sums.{sum_by-append, sum_by-cons}
use Rattle.delta_base.specs.declared.id.Id.{Id}
use Rattle.log_base.specs.declared.limits.TheConstants.{PATCH_LIMIT, PAYLOAD_FRAME}
use Rattle.chain_core.specs.declared.chain.Patch.{Patch}
use Rattle.chain_core.specs.declared.chain.Entry.{Entry}
use Rattle.log_base.specs.declared.chain_link.ChainLink.{ChainLink}
use Rattle.chain_core.specs.Ids.{version_among}
use Rattle.chain_core.specs.Links.{Follow, AllDiffer, IsChain, link_ids}
use Rattle.chain_core.specs.Patches.{patches_of, links_of, patch_ids, texts_of, version_of, last_id, journal_length, framed}
use Rattle.chain_core.specs.Runs.{headless, IsRun, prev_of_run, run_text, patches_in, run_texts, file_length, entries_of, GoesOn, AreWhole, before_runs, runs_of}
use Rattle.chain_core.specs.Decision.{version_known, first_found}
use Rattle.chain_core.proofs.Versions.{last_or, last_is, link_to, none-cons, same_ids}

-- ---- patches of runs

pub patches_in-push : (runs : List (List Patch)) (run : List Patch) → patches_in (runs ++ run ∷ []) ≡ patches_in runs ++ run
patches_in-push [] run = append-nil run
patches_in-push (first ∷ runs) run = ap (λ (patches : List Patch). first ++ patches) (patches_in-push runs run) ∙ sym (append_assoc first (patches_in runs) run)

-- ---- a run goes on a chain

-- from one head on, and then from the last of them on
follow-append : (head : Option Id) (ls more : List ChainLink) → Follow head ls → Follow (last_or head (link_ids ls)) more → Follow head (ls ++ more)
follow-append head [] more follow then = then
follow-append head (l ∷ ls) more follow then = (follow.0, follow-append (Some l.id) ls more follow.1 then)

all-append : (P : Id → Type 0) (ids more : List Id) → AllByRecursion P ids → AllByRecursion P more → AllByRecursion P (ids ++ more)
all-append P [] more all then = then
all-append P (id ∷ ids) more all then = (all.0, all-append P ids more all.1 then)

-- the ids of the one list are not in the other
abbrev AreApart : List Id → List Id → Type 0
AreApart [] more = Unit {0}
AreApart (id ∷ ids) more = AllByRecursion (λ j. j ≢ id) more × AreApart ids more

differ-append : (ids more : List Id) → AllDiffer ids → AllDiffer more → AreApart ids more → AllDiffer (ids ++ more)
differ-append [] more differ then apart = then
differ-append (id ∷ ids) more differ then apart = (all-append (λ j. j ≢ id) ids more differ.0 apart.0, differ-append ids more differ.1 then apart.1)

none_same : (ids : List Id) (id : Id) → version_among ids id ≡ None → (more : List Id) → AreApart ids more → AreApart ids (id ∷ more)
none_same [] id none more apart = tt
none_same (first ∷ ids) id none more apart =
    let parts = none-cons first ids id none in
    ((λ same. eqb-false _ _ parts.0 (ap (λ (i : Id). i.0) (sym same)), apart.0), none_same ids id parts.1 more apart.1)

apart_none : (ids : List Id) → AreApart ids []
apart_none [] = tt
apart_none (id ∷ ids) = (tt, apart_none ids)

none_first : (found later : Option ℕ) → first_found found later ≡ None → (found ≡ None) × (later ≡ None)
none_first None later is = (refl, is)
none_first (Some version) later is = absurd (cc)

-- where the chain knows no id of a run, their ids are apart
apart : (patches run : List Patch) → version_known patches run ≡ None → AreApart (patch_ids patches) (patch_ids run)
apart patches [] new = apart_none (patch_ids patches)
apart patches (patch ∷ run) new =
    let parts = none_first (version_of patches patch.id) (version_known patches run) new in
    none_same (patch_ids patches) patch.id parts.0 (patch_ids run) (apart patches run parts.1)

-- the links of a run follow whatever its first one names
follow_prev : (run : List Patch) (head : Option Id) → prev_of_run run ≡ head → Follow None (headless (links_of run)) → Follow head (links_of run)
follow_prev [] head is follow = tt
follow_prev (patch ∷ run) head is follow = (is, follow.1)

ids_headless : (ls : List ChainLink) → link_ids (headless ls) ≡ link_ids ls
ids_headless [] = refl
ids_headless (l ∷ ls) = refl

-- the last of a chain's links
last_link : (patches : List Patch) → last_or None (link_ids (links_of patches)) ≡ last_id patches
last_link patches = ap (last_or None) (same_ids patches) ∙ sym (last_is (patch_ids patches))

ids-append : (patches run : List Patch) → link_ids (links_of patches ++ links_of run) ≡ patch_ids patches ++ patch_ids run
ids-append patches run = ap link_ids (sym (map-append link_to patches run)) ∙ same_ids (patches ++ run) ∙ map-append (λ (p : Patch). p.id) patches run

pub run_goes_on : (patches run : List Patch) → IsChain (links_of patches) → IsRun run → prev_of_run run ≡ last_id patches → version_known patches run ≡ None → IsChain (links_of (patches ++ run))
run_goes_on patches run chain linked follows new =
    let own : AllDiffer (patch_ids patches) = subst AllDiffer (same_ids patches) chain.differ in
    let its : AllDiffer (patch_ids run) = subst AllDiffer (ids_headless (links_of run) ∙ same_ids run) linked.chain.differ in
    subst IsChain (sym (map-append link_to patches run)) (record {
      follow = follow-append None (links_of patches) (links_of run) chain.follow (follow_prev run (last_or None (link_ids (links_of patches))) (follows ∙ sym (last_link patches)) linked.chain.follow);
      differ = subst AllDiffer (sym (ids-append patches run)) (differ-append (patch_ids patches) (patch_ids run) own its (apart patches run new));
    })

-- ---- lengths

pub run_length : (run : List Patch) → sum_by length (texts_of run) ≡ length (run_text run)
run_length [] = refl
run_length (patch ∷ []) = omega (arith, sum_by-cons length patch.text [])
run_length (patch ∷ (next ∷ run)) = omega (arith, sum_by-cons length patch.text (texts_of (next ∷ run)), run_length (next ∷ run), length-append patch.text (run_text (next ∷ run)))

pub framed_sum : (run : List Patch) → sum_by framed (texts_of run) ≡ PAYLOAD_FRAME * length run + sum_by length (texts_of run)
framed_sum [] = refl
framed_sum (patch ∷ run) = omega (arith, sum_by-cons framed patch.text (texts_of run), sum_by-cons length patch.text (texts_of run), framed_sum run)

pub short_run : (run : List Patch) → length (run_text run) ≤ PATCH_LIMIT → AllByRecursion (λ (p : Patch). length p.text ≤ PATCH_LIMIT) run
short_run [] short = tt
short_run (patch ∷ []) short = (short, tt)
short_run (patch ∷ (next ∷ run)) short =
    (omega (arith, short, length-append patch.text (run_text (next ∷ run))), short_run (next ∷ run) (omega (arith, short, length-append patch.text (run_text (next ∷ run)))))

pub journal-append : (patches run : List Patch) → journal_length (patches ++ run) ≡ journal_length patches + sum_by framed (texts_of run)
journal-append patches run =
    omega (arith, ap (sum_by framed) (map-append (λ (p : Patch). p.text) patches run), sum_by-append framed (texts_of patches) (texts_of run))

-- a file is never longer than its patches' own frames would make it
abbrev AllSome : List (List Patch) → Type 0
AllSome runs = AllByRecursion (λ (run : List Patch). 0 < length run) runs

file_sum : (runs : List (List Patch)) → AllSome runs → sum_by framed (run_texts runs) ≤ sum_by framed (texts_of (patches_in runs))
file_sum [] some = omega arith
file_sum (run ∷ runs) some =
    omega (
      arith,
      some.0,
      sum_by-cons framed (run_text run) (run_texts runs),
      file_sum runs some.1,
      framed_sum run,
      run_length run,
      ap (sum_by framed) (map-append (λ (p : Patch). p.text) run (patches_in runs)),
      sum_by-append framed (texts_of run) (texts_of (patches_in runs)),
    )

pub file_shorter : (runs : List (List Patch)) → AllSome runs → file_length runs ≤ journal_length (patches_in runs)
file_shorter runs some = omega (arith, file_sum runs some)

pub file-push : (runs : List (List Patch)) (run : List Patch) → file_length (runs ++ run ∷ []) ≡ file_length runs + PAYLOAD_FRAME + length (run_text run)
file-push runs run = omega (arith, ap (sum_by framed) (map-append run_text runs (run ∷ [])), sum_by-append framed (run_texts runs) (run_text run ∷ []))

-- ---- entries

pub patches_of-run : (run : List Patch) (by : ℕ) → patches_of (entries_of run by) ≡ run
patches_of-run [] by = refl
patches_of-run (patch ∷ run) by = ap (λ (ps : List Patch). patch ∷ ps) (patches_of-run run by)

pub length-run : (run : List Patch) (by : ℕ) → length (entries_of run by) ≡ length run
length-run [] by = refl
length-run (patch ∷ run) by = ap suc (length-run run by)

before-patches : (rest : ℕ) (patch : Patch) (runs : List (List Patch)) → patches_in (before_runs rest patch runs) ≡ patch ∷ patches_in runs
before-patches zero patch runs = refl
before-patches (suc rest) patch [] = refl
before-patches (suc rest) patch (run ∷ runs) = refl

-- cutting entries into runs loses none
pub patches_in-runs : (entries : List Entry) → patches_in (runs_of entries) ≡ patches_of entries
patches_in-runs [] = refl
patches_in-runs (entry ∷ entries) = before-patches entry.rest entry.patch (runs_of entries) ∙ ap (λ (ps : List Patch). entry.patch ∷ ps) (patches_in-runs entries)

-- one run by itself
runs_of-run : (run : List Patch) (by : ℕ) → 0 < length run → runs_of (entries_of run by) ≡ run ∷ []
runs_of-run [] by some = absurd (omega (arith, some))
runs_of-run (patch ∷ []) by some = refl
runs_of-run (patch ∷ (next ∷ run)) by some = ap (before_runs (suc (length run)) patch) (runs_of-run (next ∷ run) by (omega arith))

abbrev by_entry : Entry → ℕ
by_entry entry = entry.by

abbrev rest_entry : Entry → ℕ
rest_entry entry = entry.rest

before-some : (rest : ℕ) (patch : Patch) (runs : List (List Patch)) → 0 < length (before_runs rest patch runs)
before-some zero patch runs = omega arith
before-some (suc rest) patch [] = omega arith
before-some (suc rest) patch (run ∷ runs) = omega arith

some_runs : (entry : Entry) (entries : List Entry) → 0 < length (runs_of (entry ∷ entries))
some_runs entry entries = before-some entry.rest entry.patch (runs_of entries)

before-push : (rest : ℕ) (patch : Patch) (runs longer : List (List Patch)) (run : List Patch) → longer ≡ runs ++ run ∷ [] → (rest ≡ 0) ⊎ (0 < length runs)
    → before_runs rest patch longer ≡ before_runs rest patch runs ++ run ∷ []
before-push zero patch runs longer run is some = ap (λ (rs : List (List Patch)). (patch ∷ []) ∷ rs) is
before-push (suc rest) patch [] longer run is (inl none) = absurd (cc)
before-push (suc rest) patch [] longer run is (inr some) = absurd (omega (arith, some))
before-push (suc rest) patch (first ∷ runs) longer run is some = ap (before_runs (suc rest) patch) is

-- an entry with a rest isn't the last one
not_last : (rest by : ℕ) (entries : List Entry) → GoesOn by_entry rest_entry rest by entries → (rest ≡ 0) ⊎ (0 < length (runs_of entries))
not_last zero by entries on = inl refl
not_last (suc rest) by [] on = absurd on
not_last (suc rest) by (next ∷ entries) on = inr (some_runs next entries)

-- a run behind whole ones is one more
pub runs_of-push : (entries : List Entry) (run : List Patch) (by : ℕ) → AreWhole entries → 0 < length run → runs_of (entries ++ entries_of run by) ≡ runs_of entries ++ run ∷ []
runs_of-push [] run by whole some = runs_of-run run by some
runs_of-push (entry ∷ entries) run by whole some =
    before-push entry.rest entry.patch (runs_of entries) (runs_of (entries ++ entries_of run by)) run (runs_of-push entries run by whole.1 some) (not_last entry.rest entry.by entries whole.0)

-- each run has a patch
pub runs-some : (entries : List Entry) → AllByRecursion (λ (run : List Patch). 0 < length run) (runs_of entries)
runs-some [] = tt
runs-some (entry ∷ entries) = of_before entry.rest (runs_of entries) (runs-some entries)
  where
    of_before : (rest : ℕ) (runs : List (List Patch)) → AllByRecursion (λ (run : List Patch). 0 < length run) runs → AllByRecursion (λ (run : List Patch). 0 < length run) (before_runs rest entry.patch runs)
    of_before zero runs all = (omega arith, all)
    of_before (suc rest) [] all = (omega arith, tt)
    of_before (suc rest) (run ∷ runs) all = (omega arith, all.1)

-- and so they stay whole
run_whole : (run : List Patch) (by : ℕ) → AreWhole (entries_of run by)
run_whole [] by = tt
run_whole (patch ∷ []) by = (tt, tt)
run_whole (patch ∷ (next ∷ run)) by = ((refl, refl), run_whole (next ∷ run) by)

goes_on-append : (rest by : ℕ) (entries more : List Entry) → GoesOn by_entry rest_entry rest by entries → GoesOn by_entry rest_entry rest by (entries ++ more)
goes_on-append zero by entries more on = tt
goes_on-append (suc rest) by [] more on = absurd on
goes_on-append (suc rest) by (next ∷ entries) more on = on

whole-append : (entries more : List Entry) → AreWhole entries → AreWhole more → AreWhole (entries ++ more)
whole-append [] more whole then = then
whole-append (entry ∷ entries) more whole then = (goes_on-append entry.rest entry.by entries more whole.0, whole-append entries more whole.1 then)

pub whole-push : (entries : List Entry) (run : List Patch) (by : ℕ) → AreWhole entries → AreWhole (entries ++ entries_of run by)
whole-push entries run by whole = whole-append entries (entries_of run by) whole (run_whole run by)

-- ---- what stands behind a chain

follow-drop : (head : Option Id) (ls more : List ChainLink) → Follow head (ls ++ more) → Follow (last_or head (link_ids ls)) more
follow-drop head [] more follow = follow
follow-drop head (l ∷ ls) more follow = follow-drop (Some l.id) ls more follow.1

all_at : (P : Id → Type 0) (ids before : List Id) (id : Id) (after : List Id) → AllByRecursion P (ids ++ (before ++ id ∷ after)) → P id
all_at P [] [] id after all = all.0
all_at P [] (b ∷ before) id after all = all_at P [] before id after all.1
all_at P (first ∷ ids) before id after all = all_at P ids before id after all.1

new_in : (ids before : List Id) (id : Id) (after : List Id) → AllDiffer (ids ++ (before ++ id ∷ after)) → version_among ids id ≡ None
new_in [] before id after differ = refl
new_in (first ∷ ids) before id after differ =
    let apart = all_at (λ j. j ≢ first) ids before id after differ.0 in
    let other : eqb first.0 id.0 ≡ false = ne_eqb _ _ (λ same. apart (ap (λ (n : ℕ). let i : Id = record { 0 = n } in i) (sym same))) in
    rw (other, new_in ids before id after differ.1) refl

known_none : (patches : List Patch) (before : List Id) (run : List Patch) → AllDiffer (patch_ids patches ++ (before ++ patch_ids run)) → version_known patches run ≡ None
known_none patches before [] differ = refl
known_none patches before (patch ∷ run) differ =
    let first : version_of patches patch.id ≡ None = new_in (patch_ids patches) before patch.id (patch_ids run) differ in
    let further : (before ++ patch.id ∷ []) ++ patch_ids run ≡ before ++ patch.id ∷ patch_ids run = append_assoc before (patch.id ∷ []) (patch_ids run) in
    let rest = known_none patches (before ++ patch.id ∷ []) run (subst (λ (ids : List Id). AllDiffer (patch_ids patches ++ ids)) (sym further) differ) in
    ap (λ (found : Option ℕ). first_found found (version_known patches run)) first ∙ rest

first_prev : (run : List Patch) (head : Option Id) → 0 < length run → Follow head (links_of run) → prev_of_run run ≡ head
first_prev [] head some follow = absurd (omega (arith, some))
first_prev (patch ∷ run) head some follow = follow.0

-- a run behind patches that are a chain with it names the last of them, and its ids are new
pub run_behind : (patches run : List Patch) → IsChain (links_of (patches ++ run)) → 0 < length run → (prev_of_run run ≡ last_id patches) × (version_known patches run ≡ None)
run_behind patches run chain some =
    let whole : IsChain (links_of patches ++ links_of run) = subst IsChain (map-append link_to patches run) chain in (
      first_prev run (last_or None (link_ids (links_of patches))) some (follow-drop None (links_of patches) (links_of run) whole.follow) ∙ last_link patches,
      known_none patches [] run (subst AllDiffer (ids-append patches run) whole.differ),
    )
