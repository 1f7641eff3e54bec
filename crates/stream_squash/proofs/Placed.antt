-- A text while its patches are placed.
use Rattle.std.proofs.Common.{◌≡◌, ℕ, ◌+◌, ◌≤◌, Bool, List, [], ◌∷◌, ◌++◌, length, map, Option, Some, None, refl, sym, ap, subst, ◌∙◌, append_assoc, append-nil, inl, inr, arith}
use Rattle.std.specs.List.{slice_range}
use Rattle.std.proofs.lemmas.List.{map-append}
use Rattle.chain_core.specs.Breaks.{Breaks}
use Rattle.chain_core.specs.Tested.{IsTested}
use Rattle.chain_core.specs.declared.testing.ChainFault.{ChainFault}
use Rattle.chain_core.specs.declared.testing.ChainTest.{ChainTest}
use Rattle.log_base.specs.declared.chain_link.ChainLink.{ChainLink}
use Rattle.patch_meaning.specs.Checked.{CheckedPatch, meanings}
use Rattle.patch_meaning.specs.Cutting.{EndsStream, HasTakenNext, IsCutAt, IsLastPatch, RefusesStream, linked_of}
use Rattle.patch_meaning.specs.Replay.{link_of, links_said}
use Rattle.patch_meaning.specs.Stream.{IsSplit, IsStream, IsStreamFault, linked}
use Rattle.patch_meaning.specs.declared.fault.PatchFault.{PatchFault}
use Rattle.patch_meaning.specs.declared.fault.PatchFault.TheVariants as faults
use Rattle.patch_meaning.specs.declared.stream.Linked.{Linked}
use Rattle.patch_meaning.specs.PartRead.{HasPart}
use Rattle.patch_meaning.specs.Roles.{found_role, role}
use Rattle.patch_meaning.specs.declared.role.Role.TheVariants as roles
use Rattle.patch_meaning.proofs.Read.{further, next_found}
use Rattle.patch_meaning.proofs.Splits.{finished, quad_behind, taken_behind}
use Rattle.patch_reader.specs.declared.placed.PlacedRow.{PlacedRow}
use Rattle.rdf_terms.specs.Quad.{Statement}
use Rattle.row_scan.specs.Found.{change_by}
use Rattle.row_scan.specs.declared.row.ScannedRow.{ScannedRow}
use Rattle.std.specs.Prelude.{Vec}
use Rattle.std.specs.declared.alloc.Global.{Global}
use Rattle.stream_replay.specs.Source.{IsUnchained}
use Rattle.stream_squash.specs.Placing.{AreTested, HasChain, HasPlaced, HasPlacedAll, IsFoundToPlace, IsNextToPlace, IsPlaced, KeepsPlaces, cutting, next_of}
use Rattle.stream_squash.specs.declared.placing.Chained.{Chained}
use Rattle.stream_squash.specs.declared.placing.NextRow.{NextRow}
use Rattle.stream_squash.specs.declared.placing.Placing.{Placing}

-- ---- a patch more

pub still_broken : (fault : ChainFault) (ls : List ChainLink) (l : ChainLink) (old new : ChainTest) → AreTested (Some fault) ls old → AreTested (Some fault) (ls ++ l ∷ []) new
still_broken fault ls l old new has = λ more. subst (λ (all : List ChainLink). Breaks all fault) (sym (append_assoc ls (l ∷ []) more)) (has (l ∷ more))

pub first_broken : (fault : ChainFault) (ls : List ChainLink) (l : ChainLink) (old new : ChainTest) → ((links more : List ChainLink) → IsTested links old → Breaks (links ++ l ∷ more) fault) → IsTested ls old → AreTested (Some fault) (ls ++ l ∷ []) new
first_broken fault ls l old new breaks is = λ more. subst (λ (all : List ChainLink). Breaks all fault) (sym (append_assoc ls (l ∷ []) more)) (breaks ls more is)

pub keeps_none : (links : List Linked) (text : List ℕ) (p : Placing) → KeepsPlaces links p → KeepsPlaces (links ++ linked_of text None) p
keeps_none links text p keeps = subst (λ (ls : List Linked). KeepsPlaces ls p) (sym (append-nil links)) keeps

pub keeps_more : (links : List Linked) (text : List ℕ) (link : ChainLink) (old new : Placing) → new.lengths.items ≡ old.lengths.items ++ length text ∷ []
    → ((ls : List ChainLink) → AreTested old.broken ls old.chain → AreTested new.broken (ls ++ link ∷ []) new.chain) → KeepsPlaces links old → KeepsPlaces (links ++ linked_of text (Some link)) new
keeps_more links text link old new pushed tested keeps = record {
  lengths_are = pushed ∙ ap (λ (ns : List ℕ). ns ++ length text ∷ []) keeps.lengths_are ∙ sym (map-append (λ (l : Linked). length l.text) links (linked_of text (Some link)));
  tested = subst (λ (ls : List ChainLink). AreTested new.broken ls new.chain) (sym (map-append (λ (l : Linked). l.link) links (linked_of text (Some link)))) (tested (map (λ (l : Linked). l.link) links) keeps.tested);
}

pub placed_behind : (text : List ℕ) (old new : Placing) (row : NextRow) (done : Option ChainLink) → IsNextToPlace text row old → IsCutAt old.part row.role row.at done → HasTakenNext old.part row.role row.at done new.part
    → ((links : List Linked) → KeepsPlaces links old → KeepsPlaces (links ++ linked_of (slice_range text old.part.from row.at) done) new) → new.chain.version ≤ old.chain.version + 1 → HasPlaced text row.end new
placed_behind text old new row done is cuts taken keeps few =
    let h = is.1 in
    let links : List Linked = h.links ++ linked_of (slice_range text old.part.from row.at) done in
    record {
      links = links;
      cut = taken_behind text is.0 (cutting h.links old.part) (cutting links new.part) (next_of row) done is.2 h.cut cuts taken refl;
      places = keeps h.links h.places;
      few = omega (arith, h.few, few, (further text is.0 (next_of row) is.2).0);
    }

-- ---- all patches

pub linked_links : (ps : List CheckedPatch) → map (λ (l : Linked). l.link) (map linked ps) ≡ links_said (meanings ps)
linked_links [] = refl
linked_links (p ∷ ps) = ap (λ (ls : List ChainLink). link_of p.meaning ∷ ls) (linked_links ps)

pub linked_lengths : (ps : List CheckedPatch) → map (λ (l : Linked). length l.text) (map linked ps) ≡ map (λ (p : CheckedPatch). length p.text) ps
linked_lengths [] = refl
linked_lengths (p ∷ ps) = ap (λ (ns : List ℕ). length p.text ∷ ns) (linked_lengths ps)

pub stream_of : (text : List ℕ) (ps : List CheckedPatch) → IsSplit text ps → IsStream text (meanings ps)
stream_of text ps split = record { rows_ = split.rows_; reads = split.reads; stream = split.stream }

pub unchained : (text : List ℕ) (p : Placing) (fault : ChainFault) → p.broken ≡ Some fault → IsPlaced text p → IsUnchained fault text
unchained text p fault some (ps, split, keeps) =
    let breaks : AreTested (Some fault) (map (λ (l : Linked). l.link) (map linked ps)) p.chain = subst (λ (o : Option ChainFault). AreTested o (map (λ (l : Linked). l.link) (map linked ps)) p.chain) some keeps.tested in
    record {
      meanings = meanings ps;
      stream = stream_of text ps split;
      breaks = subst (λ (ls : List ChainLink). Breaks ls fault) (append-nil (map (λ (l : Linked). l.link) (map linked ps)) ∙ linked_links ps) (breaks []);
    }

-- ---- faults

pub told_fault : (text : List ℕ) (fault : PatchFault) → RefusesStream text fault → (fault ≡ faults.OutOfMemory → ⊥) → IsStreamFault text fault
told_fault text fault (inl memory) not = absurd (not memory)
told_fault text fault (inr is) not = is

-- ---- a quad

-- the patch goes on with a quad that was found
pub quad_placed : (text : List ℕ) (at : ℕ) (found : ScannedRow) (old new : Placing) → IsFoundToPlace text at found old → found_role found.says ≡ None
    → ((rs : List PlacedRow) (r : PlacedRow) (adds : Bool) (quad : Statement) → HasPart rs old.part → role r.row ≡ roles.Change (change_by adds quad) → HasPart (rs ++ r ∷ []) new.part) → new.part.from ≡ old.part.from
    → new.lengths ≡ old.lengths → new.chain ≡ old.chain → new.broken ≡ old.broken → HasPlaced text found.end new
quad_placed text at found old new (from, h, gap, is) none step part lengths chain broken =
    let row = next_found text from at found gap is in
    record {
      links = h.links;
      cut = quad_behind text at found (cutting h.links old.part) (cutting h.links new.part) (from, h.cut, gap, is) none step part refl;
      places = record {
        lengths_are = ap (λ (v : Vec ℕ Global). v.items) lengths ∙ h.places.lengths_are;
        tested = subst (λ (o : Option ChainFault). AreTested o (map (λ (l : Linked). l.link) h.links) new.chain) (sym broken)
            (subst (AreTested old.broken (map (λ (l : Linked). l.link) h.links)) (sym chain) h.places.tested);
      };
      few = omega (arith, h.few, ap (λ (t : ChainTest). t.version) chain, (further text from (record { role = row.0; at = at; end = found.end }) row.2).0);
    }

-- ---- the end

pub all_placed : (text : List ℕ) (old new : Placing) (done : Option ChainLink) → HasPlacedAll text old → EndsStream old.part (length text) done → IsLastPatch old.part (length text) done
    → ((links : List Linked) → KeepsPlaces links old → KeepsPlaces (links ++ linked_of (slice_range text old.part.from (length text)) done) new) → IsPlaced text new
all_placed text old new done (at, h, gap) ends last keeps =
    let links : List Linked = h.links ++ linked_of (slice_range text old.part.from (length text)) done in
    let all = finished text at (cutting h.links old.part) done links h.cut gap ends last refl in
    (all.0, all.1, subst (λ (ls : List Linked). KeepsPlaces ls new) all.2 (keeps h.links h.places))

-- the chain of the patches
pub chain_of : (text : List ℕ) (p : Placing) (c : Chained) → p.broken ≡ None → c.lengths ≡ p.lengths → c.chain ≡ p.chain → IsPlaced text p → (ps : List CheckedPatch) × HasChain text ps c
chain_of text p c none lengths chain (ps, split, keeps) = (
  ps,
  record {
    split = split;
    lengths_are = ap (λ (v : Vec ℕ Global). v.items) lengths ∙ keeps.lengths_are ∙ linked_lengths ps;
    tested = subst (IsTested (links_said (meanings ps))) (sym chain)
        (subst (λ (ls : List ChainLink). IsTested ls p.chain) (linked_links ps) (subst (λ (o : Option ChainFault). AreTested o (map (λ (l : Linked). l.link) (map linked ps)) p.chain) none keeps.tested));
  },
)
