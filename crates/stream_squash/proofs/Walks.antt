-- Patches that are applied one after another, or gathered from the last one on.
use Rattle.std.proofs.Common.{◌≡◌, ℕ, ◌-◌, List, [], ◌∷◌, ◌++◌, length, map, take, drop, Option, Some, refl, sym, ap, subst, ◌∙◌, append_assoc, append-nil}
use Rattle.std.proofs.lemmas.List.{map-append}
use Rattle.log_base.specs.declared.chain_link.ChainLink.{ChainLink}
use Rattle.delta_base.specs.declared.id.Id.{Id}
use Rattle.patch_algebra.specs.Gathered.{HasGathered, net_turned}
use Rattle.patch_algebra.specs.Patches.{net_patch_of}
use Rattle.patch_algebra.specs.Written.{patch_in_block}
use Rattle.patch_algebra.specs.declared.gathering.Gathering.{Gathering}
use Rattle.patch_algebra.specs.declared.gathering.Direction.{Direction}
use Rattle.patch_algebra.specs.declared.gathering.Direction.TheVariants.{Forth}
use Rattle.patch_meaning.specs.Checked.{CheckedPatch, meanings}
use Rattle.patch_meaning.specs.Patch.{IsPatch, Meaning}
use Rattle.patch_meaning.specs.Replay.{link_of, replay}
use Rattle.rdf_terms.specs.Dataset.{Dataset, apply, empty}
use Rattle.stream_replay.proofs.Taken.{replay-push}
use Rattle.stream_squash.specs.Pieces.{ArePieces, GoesBack, GoesForth}
use Rattle.stream_squash.proofs.Texts.{begins, ends}

-- ---- forth

pub forth_none : (ps : List CheckedPatch) (text lengths : List ℕ) (d : Dataset) → d ≡ empty → ArePieces ps text lengths → GoesForth ps text lengths d
forth_none ps text lengths d is pieces = record { passed = []; behind = ps; patches_are = refl; pieces = pieces; contents_are = is }

pub forth_more : (ps : List CheckedPatch) (rest left others : List ℕ) (size : ℕ) (old new : Dataset) → left ≡ size ∷ others → ((m : Meaning) → IsPatch (take size rest) m → new ≡ apply m.changes old)
    → GoesForth ps rest left old → GoesForth ps (drop size rest) others new
forth_more ps rest left others size old new is applied goes =
    let b = begins goes.behind rest left others size is goes.pieces in
    record {
      passed = goes.passed ++ b.p ∷ [];
      behind = b.qs;
      patches_are = goes.patches_are ∙ ap (λ (l : List CheckedPatch). goes.passed ++ l) b.patches_are ∙ sym (append_assoc goes.passed (b.p ∷ []) b.qs);
      pieces = b.behind;
      contents_are = applied b.p.meaning (subst (λ (t : List ℕ). IsPatch t b.p.meaning) (sym b.piece_is) b.is_patch)
          ∙ ap (apply b.p.meaning.changes) goes.contents_are
          ∙ sym (replay-push (meanings goes.passed) b.p.meaning empty)
          ∙ ap replay (sym (map-append (λ (p : CheckedPatch). p.meaning) goes.passed (b.p ∷ [])));
    }

none_behind : (ps : List CheckedPatch) (rest left : List ℕ) → left ≡ [] → ArePieces ps rest left → ps ≡ []
none_behind [] rest left none pieces = refl
none_behind (p ∷ ps) rest left none pieces = let some : length p.text ∷ map (λ (q : CheckedPatch). length q.text) ps ≡ [] = sym pieces.lengths_are ∙ none in absurd cc

pub forth_all : (ps : List CheckedPatch) (rest left : List ℕ) (d : Dataset) → left ≡ [] → GoesForth ps rest left d → d ≡ replay (meanings ps)
forth_all ps rest left d none goes =
    goes.contents_are
    ∙ ap (λ (l : List CheckedPatch). replay (meanings l)) (sym (goes.patches_are ∙ ap (λ (l : List CheckedPatch). goes.passed ++ l) (none_behind goes.behind rest left none goes.pieces) ∙ append-nil goes.passed))

-- ---- back

-- what gathering the patch of a text more leaves
abbrev pub Gathers : List ℕ → Dataset → Gathering → Gathering → ChainLink → Type 0
Gathers piece d old new link = ((m : Meaning) (direction : Direction) (behind : List Meaning) → IsPatch piece m → HasGathered direction d behind old → HasGathered direction d (m ∷ behind) new)
    × ((m : Meaning) → IsPatch piece m → link ≡ link_of m)

pub back_first : (ps : List CheckedPatch) (text lengths others : List ℕ) (size : ℕ) (d : Dataset) (old new : Gathering) (link : ChainLink) → lengths ≡ others ++ size ∷ [] → HasGathered Forth d [] old
    → Gathers (drop (length text - size) text) d old new link → ArePieces ps text lengths → GoesBack ps (take (length text - size) text) others d new link link
back_first ps text lengths others size d old new link is none took pieces =
    let e = ends ps text lengths others size is pieces in
    let patch : IsPatch (drop (length text - size) text) e.p.meaning = subst (λ (t : List ℕ). IsPatch t e.p.meaning) (sym e.piece_is) e.is_patch in
    let named = took.1 e.p.meaning patch in
    record {
      before = e.qs;
      m = e.p.meaning;
      ms = [];
      pieces = e.before;
      meanings_are = ap meanings e.patches_are ∙ map-append (λ (p : CheckedPatch). p.meaning) e.qs (e.p ∷ []);
      gathers = took.0 e.p.meaning Forth [] patch none;
      last_is = ap (λ (l : ChainLink). l.id) named;
      first_is = ap (λ (l : ChainLink). l.prev) named;
    }

pub back_more : (ps : List CheckedPatch) (rest left others : List ℕ) (size : ℕ) (d : Dataset) (old new : Gathering) (last first link : ChainLink) → left ≡ others ++ size ∷ []
    → Gathers (drop (length rest - size) rest) d old new link → GoesBack ps rest left d old last first → GoesBack ps (take (length rest - size) rest) others d new last link
back_more ps rest left others size d old new last first link is took goes =
    let e = ends goes.before rest left others size is goes.pieces in
    let patch : IsPatch (drop (length rest - size) rest) e.p.meaning = subst (λ (t : List ℕ). IsPatch t e.p.meaning) (sym e.piece_is) e.is_patch in
    record {
      before = e.qs;
      m = e.p.meaning;
      ms = goes.m ∷ goes.ms;
      pieces = e.before;
      meanings_are = goes.meanings_are
          ∙ ap (λ (l : List Meaning). l ++ goes.m ∷ goes.ms) (ap meanings e.patches_are ∙ map-append (λ (p : CheckedPatch). p.meaning) e.qs (e.p ∷ []))
          ∙ append_assoc (meanings e.qs) (e.p.meaning ∷ []) (goes.m ∷ goes.ms);
      gathers = took.0 e.p.meaning Forth (goes.m ∷ goes.ms) patch goes.gathers;
      last_is = goes.last_is;
      first_is = ap (λ (l : ChainLink). l.prev) (took.1 e.p.meaning patch);
    }

-- all were gathered, and these are the ids of the net patch
pub record IsGathered (ps : List CheckedPatch) (d : Dataset) (g : Gathering) (id : Id) (prev : Option Id) : Type 0 where
  pub gathers : HasGathered Forth d (meanings ps) g
  pub net_is : net_patch_of d (meanings ps) ≡ Some (patch_in_block id prev (net_turned Forth d (meanings ps)))

pub back_all : (ps : List CheckedPatch) (rest left : List ℕ) (d : Dataset) (g : Gathering) (last first : ChainLink) → left ≡ [] → GoesBack ps rest left d g last first → IsGathered ps d g last.id first.prev
back_all ps rest left d g last first none goes =
    let are : meanings ps ≡ goes.m ∷ goes.ms = goes.meanings_are ∙ ap (λ (l : List CheckedPatch). meanings l ++ goes.m ∷ goes.ms) (none_behind goes.before rest left none goes.pieces) in
    made (subst (λ (ms : List Meaning). HasGathered Forth d ms g × (net_patch_of d ms ≡ Some (patch_in_block last.id first.prev (net_turned Forth d ms)))) (sym are) (
      goes.gathers,
      ap (λ (i : Id). Some (patch_in_block i goes.m.prev (net_turned Forth d (goes.m ∷ goes.ms)))) (sym goes.last_is)
          ∙ ap (λ (o : Option Id). Some (patch_in_block last.id o (net_turned Forth d (goes.m ∷ goes.ms)))) (sym goes.first_is),
    ))
  where
    made : HasGathered Forth d (meanings ps) g × (net_patch_of d (meanings ps) ≡ Some (patch_in_block last.id first.prev (net_turned Forth d (meanings ps)))) → IsGathered ps d g last.id first.prev
    made both = record { gathers = both.0; net_is = both.1 }
