-- A replay while patches are taken.
use Rattle.std.proofs.Common.{◌≡◌, ℕ, ◌+◌, true, false, List, [], ◌∷◌, ◌++◌, Option, Some, None, refl, sym, ap, subst, ◌∙◌, append_assoc, append-nil}
use Rattle.std.specs.Prelude.{is_some}
use Rattle.std.proofs.lemmas.List.{map-append}
use Rattle.log_base.specs.declared.limits.TheConstants.{PATCH_LIMIT}
use Rattle.log_base.specs.declared.chain_link.ChainLink.{ChainLink}
use Rattle.chain_core.specs.declared.testing.ChainFault.{ChainFault}
use Rattle.chain_core.specs.declared.testing.ChainTest.{ChainTest}
use Rattle.chain_core.specs.Links.{IsChain}
use Rattle.chain_core.specs.Breaks.{Breaks}
use Rattle.chain_core.specs.Tested.{IsTested}
use Rattle.rdf_terms.specs.declared.change.Change.{Change}
use Rattle.rdf_terms.specs.Dataset.{Dataset, apply, empty}
use Rattle.patch_meaning.specs.declared.part.Part.{Part}
use Rattle.patch_meaning.specs.Cutting.{IsCutInto, IsLastPatch, meanings_of}
use Rattle.patch_meaning.specs.PartRead.{meaning_of}
use Rattle.patch_meaning.specs.Patch.{Meaning}
use Rattle.patch_meaning.specs.Replay.{link_of, links_said, replay, replay_from}
use Rattle.patch_meaning.specs.Roles.{changes_of, said}
use Rattle.patch_meaning.specs.Rows.{AreUpTo}
use Rattle.patch_meaning.specs.Stream.{cut}
use Rattle.patch_meaning.proofs.Cuts.{none_there}
use Rattle.patch_reader.specs.declared.placed.PlacedRow.{PlacedRow}
use Rattle.stream_replay.specs.declared.edits.Edits.{Edits}
use Rattle.stream_replay.specs.declared.replay.Replay.{Replay}
use Rattle.stream_replay.specs.Edits.{HasEdits, MakesLines}
use Rattle.stream_replay.specs.Replaying.{HasTakenPatches, IsReplay}
use Rattle.stream_replay.proofs.Edited.{all_made}

links-append : (ms ns : List Meaning) → links_said (ms ++ ns) ≡ links_said ms ++ links_said ns
links-append ms ns = map-append link_of ms ns

-- one patch more
pub replay-push : (ms : List Meaning) (m : Meaning) (d : Dataset) → replay_from (ms ++ m ∷ []) d ≡ apply m.changes (replay_from ms d)
replay-push [] m d = refl
replay-push (n ∷ ms) m d = replay-push ms m (apply n.changes d)

-- ---- faults

-- behind a fault patches change nothing
broken_more : (ms : List Meaning) (m : Meaning) (fault : Option ChainFault) (r : Replay) → is_some fault ≡ true → HasTakenPatches ms fault r → HasTakenPatches (ms ++ m ∷ []) fault r
broken_more ms m None r some has = absurd cc
broken_more ms m (Some fault) r some has = λ more. subst (λ (l : List Meaning). Breaks (links_said l) fault) (sym (append_assoc ms (m ∷ []) more)) (has (m ∷ more))

pub still_broken : (ms : List Meaning) (m : Meaning) (r : Replay) → is_some r.fault ≡ true → IsReplay ms r → IsReplay (ms ++ m ∷ []) r
still_broken ms m r some has = broken_more ms m r.fault r some has

-- the first fault
pub breaks : (ms more : List Meaning) (m : Meaning) (chain : ChainTest) (fault : ChainFault) → ((links behind : List ChainLink) → IsTested links chain → Breaks (links ++ link_of m ∷ behind) fault)
    → IsTested (links_said ms) chain → Breaks (links_said ((ms ++ m ∷ []) ++ more)) fault
breaks ms more m chain fault all tested =
    subst (λ (ls : List ChainLink). Breaks ls fault) (sym (ap links_said (append_assoc ms (m ∷ []) more) ∙ links-append ms (m ∷ more))) (all (links_said ms) (links_said more) tested)

pub broken : (ms : List Meaning) (fault : ChainFault) → ((more : List Meaning) → Breaks (links_said (ms ++ more)) fault) → Breaks (links_said ms) fault
broken ms fault all = subst (λ (l : List Meaning). Breaks (links_said l) fault) (append-nil ms) (all [])

-- ---- a chain

none_met : (fault : Option ChainFault) → is_some fault ≡ false → fault ≡ None
none_met None none = refl
none_met (Some fault) none = absurd cc

pub is_whole : (ms : List Meaning) (r : Replay) → is_some r.fault ≡ false → IsReplay ms r → IsTested (links_said ms) r.chain
is_whole ms r none has = subst (λ (fault : Option ChainFault). HasTakenPatches ms fault r) (none_met r.fault none) has

pub make_whole : (ms : List Meaning) (r : Replay) → is_some r.fault ≡ false → IsTested (links_said ms) r.chain → IsReplay ms r
make_whole ms r none is = subst (λ (fault : Option ChainFault). HasTakenPatches ms fault r) (sym (none_met r.fault none)) is

-- a patch that goes on
pub goes_on : (ms : List Meaning) (m : Meaning) (old new : ChainTest) → IsTested (links_said ms) old → ((links : List ChainLink) → IsTested links old → IsChain (links ++ link_of m ∷ []))
    → ((links : List ChainLink) → IsTested links old → IsChain (links ++ link_of m ∷ []) → IsTested (links ++ link_of m ∷ []) new) → IsTested (links_said (ms ++ m ∷ [])) new
goes_on ms m old new is follows pushed = subst (λ (ls : List ChainLink). IsTested ls new) (sym (links-append ms (m ∷ []))) (pushed (links_said ms) is (follows (links_said ms) is))

-- ---- the dataset

-- the edits go on with a patch that is complete, if there is one
pub edits_left : (ms : List Meaning) (changes : List Change) (e : Edits) (link : ChainLink) → HasEdits [] (apply changes (replay ms)) e → HasEdits [] (replay (ms ++ meaning_of link changes ∷ [])) e
edits_left ms changes e link has = subst (λ (d : Dataset). HasEdits [] d e) (sym (replay-push ms (meaning_of link changes) empty)) has

-- the edits behind the last patch make the lines
pub makes_last : (ms : List Meaning) (changes : List Change) (e : Edits) (done : Option ChainLink) → (done ≡ None → changes ≡ []) → HasEdits changes (replay ms) e → MakesLines e.log (replay (ms ++ meanings_of done changes))
makes_last ms changes e None nothing has =
    subst (λ (l : List Meaning). MakesLines e.log (replay l)) (sym (append-nil ms))
    (subst (λ (cs : List Change). MakesLines e.log (apply cs (replay ms))) (nothing refl) (all_made e.before_block changes (replay ms) e.log has))
makes_last ms changes e (Some link) nothing has =
    subst (MakesLines e.log) (sym (replay-push ms (meaning_of link changes) empty)) (all_made e.before_block changes (replay ms) e.log has)

-- a part without rows has no change
pub no_change : (p : Part) (stop : ℕ) (done : Option ChainLink) (rs : List PlacedRow) (ms : List Meaning) (changes : List Change) → IsLastPatch p stop done → IsCutInto rs ms changes p → done ≡ None → changes ≡ []
no_change p stop (Some link) rs ms changes last h none = absurd cc
no_change p stop None rs ms changes last h none =
    let empty = none_there (cut rs).last.rows_ (last (cut rs).last.rows_ h.part) in
    sym (h.changes_are (subst (λ (l : List PlacedRow). AreUpTo l (p.from + PATCH_LIMIT)) (sym (h.some empty)) tt)) ∙ ap (λ (l : List PlacedRow). changes_of (said l)) empty
