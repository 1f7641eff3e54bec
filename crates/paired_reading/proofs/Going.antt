-- Reading the payloads of a current file goes on from payload to payload.
use Rattle.std.proofs.Common.{◌≡◌, ◌≢◌, ◌⊎◌, inl, inr, ⊎_elim, ℕ, ◌+◌, ◌-◌, ◌^◌, ◌<◌, ◌≤◌, min, Bool, true, false, List, [], ◌∷◌, ◌++◌, length, Option, Some, None, Result, Ok, Err, refl, sym, ◌∙◌, ap, subst, arith, append_assoc, length-append}
use Rattle.std.specs.Prelude.{OnOk}
use Rattle.std.specs.List.{flat_map, Contains}
use Rattle.std.proofs.Math.Nat.{min-eq_left, min-eq_right}
use Rattle.std.proofs.lemmas.List.{append-nil}
use Rattle.std.proofs.lemmas.Grind.{flat_map-append}
use Rattle.delta_base.specs.declared.id.Id.{Id}
use Rattle.rdf_terms.specs.declared.term.Term.{Term}
use Rattle.rdf_terms.specs.declared.change.Change.{Change}
use Rattle.rdf_terms.specs.Dataset.{Dataset, apply, empty}
use Rattle.term_table.specs.Table.{most as most_terms}
use Rattle.dataset_tx.specs.Held.{AreMet, AreMore}
use Rattle.chain_core.specs.Breaks.{BreaksAt}
use Rattle.patch_meaning.specs.Checked.{CheckedPatch, AreChecked, checked_texts}
use Rattle.log_base.specs.declared.limits.TheConstants.{LOG_BYTES}
use Rattle.checkpoint_text.specs.Brief.{Brief, empty_brief, file_length}
use Rattle.checkpoint_text.specs.Text.{checkpoint, IsCheckpoint}
use Rattle.checkpoint_reading.specs.Reading.{brief_read, IsOfChanges}
use Rattle.checkpoint_reading.specs.declared.checkpoint.Checkpoint.{Checkpoint}
use Rattle.zone_files.specs.Generation.{IsMarked}
use Rattle.zone_pairs.specs.Briefs.{with_patch, changes_taken}
use Rattle.zone_pairs.specs.Pair.{Fits, TakeTo, start_brief}
use Rattle.zone_pairs.proofs.Together.{taken_on, texts_on, checked_on}
use Rattle.zone_state.specs.declared.opening.Reading.{Reading}
use Rattle.zone_state.specs.declared.kept.Kept.{Kept}
use Rattle.zone_state.specs.State.{brief_in}
use Rattle.zone_state.specs.Next.{IsNextPatch}
use Rattle.zone_state.specs.Opening.{AddsPatch}
use Rattle.zone_state.proofs.Readings.{meets_both, overflows_still, overflows_now, not_full, true_and_false}
use Rattle.paired_reading.specs.Payloads.{alone_length, AreUnmarked, BeginWith, HasNoCheckpoint, AreNew, AreAllChained, BreakAtVersion, AreMetFrom, AreMoreFrom}
use Rattle.paired_reading.specs.Received.{IsKeptOf, HasReadPair, HasBrokenOff, HasReceivedPair, ReadsOn, GoesOnWith}
use Rattle.paired_reading.specs.declared.limit.TheConstants.{CHECKPOINT_FILE_LIMIT}
use Rattle.paired_reading.specs.declared.reading.PairReading.{PairReading}
use Rattle.paired_reading.proofs.Breaking.{taken_count, ids_break, patches_break, breaks_still}

-- ---- numbers that stop at a last one

stops_alike : (n m last : ℕ) → min (min n last + m) last ≡ min (n + m) last
stops_alike n m last = ⊎_elim
    (λ (low : n ≤ last). ap (λ (k : ℕ). min (k + m) last) (min-eq_left low))
    (λ (high : last ≤ n). ap (λ (k : ℕ). min (k + m) last) (min-eq_right high) ∙ min-eq_right (omega arith) ∙ sym (min-eq_right (omega (arith, high))))
    (either n last)
  where
    either : (a b : ℕ) → (a ≤ b) ⊎ (b ≤ a)
    either a b = grind (arith)

-- ---- one patch more

changes_on : (patches : List CheckedPatch) (patch : CheckedPatch) → changes_taken (patches ++ patch ∷ []) ≡ changes_taken patches ++ patch.meaning.changes
changes_on patches patch = flat_map-append (λ (p : CheckedPatch). p.meaning.changes) patches (patch ∷ []) ∙ ap (λ (cs : List Change). changes_taken patches ++ cs) (append-nil patch.meaning.changes)

-- all changes with those of one patch more
all_on : (changes : List Change) (patches : List CheckedPatch) (patch : CheckedPatch) → (changes ++ changes_taken patches) ++ patch.meaning.changes ≡ changes ++ changes_taken (patches ++ patch ∷ [])
all_on changes patches patch = append_assoc changes (changes_taken patches) patch.meaning.changes ∙ ap (λ (cs : List Change). changes ++ cs) (sym (changes_on patches patch))

module _ (old new : Reading) (start : Option Brief) (patches : List CheckedPatch) (brief : Brief) (kept : IsKeptOf old start patches brief) (patch : CheckedPatch) (adds : AddsPatch old new patch) where
  was_not_full : new.full ≡ false → old.full ≡ false
  was_not_full is = not_full old.full new.full adds.meets.stays_full is

  met_more : new.full ≡ false → AreMetFrom start (patches ++ patch ∷ []) new.kept.contents.terms
  met_more is =
      let met = kept.met (was_not_full is) in (
        met.0,
        met.1,
        subst (λ (cs : List Change). AreMet cs [] new.kept.contents.terms) (all_on met.0 patches patch)
            (meets_both (met.0 ++ changes_taken patches) patch.meaning.changes [] old.kept.contents.terms new.kept.contents.terms met.2 (adds.meets.applied is).1),
      )

  overflow_more : (was : Bool) → old.full ≡ was → new.full ≡ true → AreMoreFrom start (patches ++ patch ∷ [])
  overflow_more true was is =
      let more = kept.overflow was in
      (more.0, more.1, subst (λ (cs : List Change). AreMore most_terms cs []) (all_on more.0 patches patch) (overflows_still (more.0 ++ changes_taken patches) patch.meaning.changes more.2))
  overflow_more false was is =
      let met = kept.met was in (
        met.0,
        met.1,
        subst (λ (cs : List Change). AreMore most_terms cs []) (all_on met.0 patches patch)
            (overflows_now (met.0 ++ changes_taken patches) patch.meaning.changes old.kept.contents.terms met.2 (adds.meets.overflow was is)),
      )

  pub kept_more : IsKeptOf new start (patches ++ patch ∷ []) (with_patch brief patch)
  kept_more = record {
    ids_are = adds.ids_are ∙ ap (λ (is : List Id). is ++ patch.meaning.id ∷ []) kept.ids_are;
    bytes_are = adds.bytes_are ∙ ap (λ (n : ℕ). min (n + length patch.text) (2 ^ 64 - 1)) kept.bytes_are ∙ stops_alike brief.bytes (length patch.text) (2 ^ 64 - 1);
    whole = λ is. (adds.meets.applied is).0 ∙ ap (λ (d : Dataset). apply patch.meaning.changes d) (kept.whole (was_not_full is));
    met = met_more;
    overflow = λ is. overflow_more old.full refl is;
  }

-- a next patch is one that fits
next_fits : (brief : Brief) (text : List ℕ) (most : ℕ) (patch : CheckedPatch) → IsNextPatch brief.ids text most patch → Fits brief patch
next_fits brief text most patch next = record { follows = next.follows; new = next.new }

chained_more : (most : ℕ) (start : Option Brief) (texts : List (List ℕ)) (patches : List CheckedPatch) (brief : Brief) (text : List ℕ) (patch : CheckedPatch) → AreAllChained most start texts patches brief → IsNextPatch brief.ids text most patch
    → AreAllChained most start (texts ++ text ∷ []) (patches ++ patch ∷ []) (with_patch brief patch)
chained_more most start texts patches brief text patch are next = record {
  texts_are = texts_on patches patch ∙ ap (λ (ts : List (List ℕ)). ts ++ patch.text ∷ []) are.texts_are ∙ ap (λ (t : List ℕ). texts ++ t ∷ []) next.text_is;
  checked = checked_on patches patch are.checked next.checked;
  differ = are.differ;
  take_to = taken_on (start_brief start) brief patches patch are.take_to (next_fits brief text most patch next);
  few = omega (arith, next.few, length-append brief.ids (patch.meaning.id ∷ []));
}

-- ---- one payload more

-- it doesn't change whether the first one begins as a checkpoint
begin_more : (generation : ℕ) (start : Option Brief) (texts payloads : List (List ℕ)) (text : List ℕ) → ((payloads ≡ []) → IsMarked text → ⊥) → BeginWith generation start texts payloads → BeginWith generation start (texts ++ text ∷ []) (payloads ++ text ∷ [])
begin_more generation None texts payloads text none begins = (begins.0, unmarked payloads none begins.1, ap (λ (ts : List (List ℕ)). ts ++ text ∷ []) begins.2)
  where
    unmarked : (payloads : List (List ℕ)) → ((payloads ≡ []) → IsMarked text → ⊥) → AreUnmarked payloads → AreUnmarked (payloads ++ text ∷ [])
    unmarked [] none are = none refl
    unmarked (first ∷ payloads) none are = are
begin_more generation (Some start) texts payloads text none begins = (begins.0, begins.1, ap (λ (ts : List (List ℕ)). ts ++ text ∷ []) begins.2)

no_checkpoint_still : (payloads more : List (List ℕ)) → HasNoCheckpoint payloads → HasNoCheckpoint (payloads ++ more)
no_checkpoint_still payloads more has = record {
  payload = has.payload;
  texts = has.texts ++ more;
  payloads_are = ap (λ (ts : List (List ℕ)). ts ++ more) has.payloads_are;
  marked = has.marked;
  none = has.none;
}

not_empty : (payloads : List (List ℕ)) (text : List ℕ) → payloads ++ text ∷ [] ≡ [] → ⊥
not_empty [] text none = absurd (cc)
not_empty (first ∷ payloads) text none = absurd (cc)

module _ (first old new : PairReading) (payloads : List (List ℕ)) (text : List ℕ) (first_most : old.reading.most ≡ first.reading.most) (found : old.reading.broken ≡ false → HasReadPair payloads first.reading.most old.generation old.reading)
    (breaks : old.reading.broken ≡ true → HasBrokenOff payloads first.reading.most old.reading) (none : (payloads ≡ []) → IsMarked text → ⊥)
    (most_is : new.reading.most ≡ old.reading.most) (same_generation : new.generation ≡ old.generation) (begun : new.begins ≡ false) (still : new.no_checkpoint ≡ false) where
  -- behind a chain that breaks
  stays_broken : old.reading.broken ≡ true → new.reading ≡ old.reading → HasReceivedPair first (payloads ++ text ∷ []) new
  stays_broken was same =
      let off = breaks was in
      let broken = ap (λ (r : Reading). r.broken) same ∙ was in
      record {
        most_is = most_is ∙ first_most;
        fresh = λ is. absurd (true_and_false new.begins is begun);
        begun = λ is. not_empty payloads text;
        no_checkpoint = λ is. absurd (true_and_false new.no_checkpoint is still);
        found = λ no is. absurd (true_and_false new.reading.broken broken is);
        breaks = λ no is. record {
          generation = off.generation;
          start = off.start;
          texts = off.texts ++ text ∷ [];
          begins = begin_more off.generation off.start off.texts payloads text none off.begins;
          breaks = subst (λ (r : Reading). BreakAtVersion first.reading.most off.start (off.texts ++ text ∷ []) (length r.kept.ids.items + 1)) (sym same) (breaks_still first.reading.most off.start off.texts (text ∷ []) (length old.reading.kept.ids.items + 1) off.breaks);
        };
      }

  -- the next patch
  goes_on : old.reading.broken ≡ false → new.reading.broken ≡ false → (patch : CheckedPatch) → IsNextPatch old.reading.kept.ids.items text old.reading.most patch → AddsPatch old.reading new.reading patch → HasReceivedPair first (payloads ++ text ∷ []) new
  goes_on was whole patch next adds =
      let read = found was in
      let here = subst (λ (n : ℕ). IsNextPatch read.brief.ids text n patch) first_most (subst (λ (ids : List Id). IsNextPatch ids text old.reading.most patch) read.kept_is.ids_are next) in
      record {
        most_is = most_is ∙ first_most;
        fresh = λ is. absurd (true_and_false new.begins is begun);
        begun = λ is. not_empty payloads text;
        no_checkpoint = λ is. absurd (true_and_false new.no_checkpoint is still);
        found = λ no is. record {
          generation = read.generation;
          start = read.start;
          texts = read.texts ++ text ∷ [];
          patches = read.patches ++ patch ∷ [];
          brief = with_patch read.brief patch;
          shown_is = same_generation ∙ read.shown_is;
          begins = begin_more read.generation read.start read.texts payloads text none read.begins;
          chained = chained_more first.reading.most read.start read.texts read.patches read.brief text patch read.chained here;
          kept_is = kept_more old.reading new.reading read.start read.patches read.brief read.kept_is patch adds;
        };
        breaks = λ no is. absurd (true_and_false new.reading.broken is whole);
      }

  -- none
  breaks_here : old.reading.broken ≡ false → new.reading.broken ≡ true → new.reading.kept.ids.items ≡ old.reading.kept.ids.items → ((patch : CheckedPatch) → IsNextPatch old.reading.kept.ids.items text old.reading.most patch → ⊥)
      → HasReceivedPair first (payloads ++ text ∷ []) new
  breaks_here was broken ids no_next =
      let read = found was in
      let none_next = λ (patch : CheckedPatch) (next : IsNextPatch read.brief.ids text first.reading.most patch).
      no_next patch (subst (λ (n : ℕ). IsNextPatch old.reading.kept.ids.items text n patch) (sym first_most) (subst (λ (is : List Id). IsNextPatch is text first.reading.most patch) (sym read.kept_is.ids_are) next)) in
      let count : length read.brief.ids + 1 ≡ length new.reading.kept.ids.items + 1 = ap (λ (is : List Id). length is + 1) (sym (ids ∙ read.kept_is.ids_are)) in
      record {
        most_is = most_is ∙ first_most;
        fresh = λ is. absurd (true_and_false new.begins is begun);
        begun = λ is. not_empty payloads text;
        no_checkpoint = λ is. absurd (true_and_false new.no_checkpoint is still);
        found = λ not is. absurd (true_and_false new.reading.broken broken is);
        breaks = λ not is. record {
          generation = read.generation;
          start = read.start;
          texts = read.texts ++ text ∷ [];
          begins = begin_more read.generation read.start read.texts payloads text none read.begins;
          breaks = subst (λ (n : ℕ). BreakAtVersion first.reading.most read.start (read.texts ++ text ∷ []) n) count (patches_break first.reading.most read.start read.texts read.patches read.brief read.chained text none_next);
        };
      }

  pub received_on : ReadsOn old.reading new.reading text → HasReceivedPair first (payloads ++ text ∷ []) new
  received_on (inl broken) = stays_broken broken.0 broken.1
  received_on (inr (inl on)) = goes_on on.0 on.1 on.2.0 on.2.1 on.2.2
  received_on (inr (inr off)) = breaks_here off.0 off.1 off.2 off.3

-- behind what is no checkpoint
pub received_behind : (first reading : PairReading) (payloads : List (List ℕ)) (text : List ℕ) → HasReceivedPair first payloads reading → reading.no_checkpoint ≡ true → HasReceivedPair first (payloads ++ text ∷ []) reading
received_behind first reading payloads text has is = record {
  most_is = has.most_is;
  fresh = λ begins. absurd (true_and_false reading.no_checkpoint is (reading.fresh begins).0);
  begun = λ begun. not_empty payloads text;
  no_checkpoint = λ no. no_checkpoint_still payloads (text ∷ []) (has.no_checkpoint no);
  found = λ no. absurd (true_and_false reading.no_checkpoint is no);
  breaks = λ no. absurd (true_and_false reading.no_checkpoint is no);
}

-- ---- the first payload

pub received_none : (reading : PairReading) → reading.reading.broken ≡ false → reading.no_checkpoint ≡ false → reading.begins ≡ true → reading.generation ≡ None → reading.reading.kept.ids.items ≡ [] → reading.reading.kept.bytes ≡ 0
    → reading.reading.kept.contents ≡ record { contents = empty; staged = None; terms = [] } → reading.reading.full ≡ false → HasReceivedPair reading [] reading
received_none reading whole may begins no_generation ids bytes contents full = record {
  most_is = refl;
  fresh = λ is. refl;
  begun = λ is. absurd (true_and_false reading.begins begins is);
  no_checkpoint = λ is. absurd (true_and_false reading.no_checkpoint is may);
  found = λ no is. record {
    generation = 0;
    start = None;
    texts = [];
    patches = [];
    brief = empty_brief;
    shown_is = no_generation;
    begins = (refl, tt, refl);
    chained = record { texts_are = refl; checked = tt; differ = tt; take_to = refl; few = omega arith };
    kept_is = record {
      ids_are = ids;
      bytes_are = bytes;
      whole = λ is. ap (λ h. h.contents) contents;
      met = λ is. ([], refl, λ t has. inl (subst (λ (ts : List Term). Contains ts t) (ap (λ h. h.terms) contents) has));
      overflow = λ is. absurd (true_and_false reading.reading.full is full);
    };
  };
  breaks = λ no is. absurd (true_and_false reading.reading.broken is whole);
}

-- no checkpoint
pub received_no_checkpoint : (first new : PairReading) (payload : List ℕ) → new.reading.most ≡ first.reading.most → new.begins ≡ false → new.no_checkpoint ≡ true → IsMarked payload
    → ((generation : ℕ) (start : Brief) → IsCheckpoint payload generation start → ⊥) ⊎ (CHECKPOINT_FILE_LIMIT < alone_length payload) → HasReceivedPair first (payload ∷ []) new
received_no_checkpoint first new payload most_is begun isnt marked none = record {
  most_is = most_is;
  fresh = λ is. absurd (true_and_false new.begins is begun);
  begun = λ is same. not_empty [] payload same;
  no_checkpoint = λ is. record { payload = payload; texts = []; payloads_are = refl; marked = marked; none = none };
  found = λ may. absurd (true_and_false new.no_checkpoint isnt may);
  breaks = λ may. absurd (true_and_false new.no_checkpoint isnt may);
}

-- a checkpoint
module _ (first new : PairReading) (payload : List ℕ) (checkpoint_ : Checkpoint) (is : IsCheckpoint payload checkpoint_.generation (brief_read checkpoint_)) (fits : alone_length payload ≤ CHECKPOINT_FILE_LIMIT) (made : IsOfChanges checkpoint_.contents)
    (most_is : new.reading.most ≡ first.reading.most) (begun : new.begins ≡ false) (may : new.no_checkpoint ≡ false) (full : new.reading.full ≡ false) (bytes : new.reading.kept.bytes ≡ checkpoint_.bytes) (contents : new.reading.kept.contents ≡ checkpoint_.contents) (generation : new.generation ≡ Some checkpoint_.generation) where
  begins_so : BeginWith checkpoint_.generation (Some (brief_read checkpoint_)) [] (payload ∷ [])
  begins_so = (
    subst (λ (t : List ℕ). IsCheckpoint t checkpoint_.generation (brief_read checkpoint_)) is.text_is is,
    subst (λ (t : List ℕ). alone_length t ≤ CHECKPOINT_FILE_LIMIT) is.text_is fits,
    ap (λ (t : List ℕ). t ∷ []) is.text_is,
  )

  met_so : AreMetFrom (Some (brief_read checkpoint_)) [] new.reading.kept.contents.terms
  met_so = (
    made.0,
    made.1.make,
    subst (λ (cs : List Change). AreMet cs [] new.reading.kept.contents.terms) (sym (append-nil made.0)) (subst (λ h. AreMet made.0 [] h.terms) (sym contents) made.1.met),
  )

  pub received_checkpoint : (whole : new.reading.broken ≡ false → (new.reading.kept.ids.items ≡ checkpoint_.ids.items) × AreNew first.reading.most checkpoint_.ids.items)
      → (breaks : new.reading.broken ≡ true → BreaksAt (AreNew first.reading.most) checkpoint_.ids.items (length new.reading.kept.ids.items + 1)) → HasReceivedPair first (payload ∷ []) new
  received_checkpoint whole breaks = record {
    most_is = most_is;
    fresh = λ is. absurd (true_and_false new.begins is begun);
    begun = λ is same. not_empty [] payload same;
    no_checkpoint = λ is. absurd (true_and_false new.no_checkpoint is may);
    found = λ no not_broken. record {
      generation = checkpoint_.generation;
      start = Some (brief_read checkpoint_);
      texts = [];
      patches = [];
      brief = brief_read checkpoint_;
      shown_is = generation;
      begins = begins_so;
      chained = record { texts_are = refl; checked = tt; differ = (whole not_broken).1.0; take_to = refl; few = (whole not_broken).1.1 };
      kept_is = record {
        ids_are = (whole not_broken).0;
        bytes_are = bytes ∙ sym (min-eq_left (omega (arith, is.counts.bytes)));
        whole = λ is. ap (λ h. h.contents) contents;
        met = λ is. met_so;
        overflow = λ is. absurd (true_and_false new.reading.full is full);
      };
    };
    breaks = λ no broken. record {
      generation = checkpoint_.generation;
      start = Some (brief_read checkpoint_);
      texts = [];
      begins = begins_so;
      breaks = ids_break first.reading.most (brief_read checkpoint_) [] (length new.reading.kept.ids.items + 1) (breaks broken);
    };
  }

-- ---- all payloads

-- what is kept is the brief where the number of bytes didn't stop
pub kept_brief : (kept : Kept) (full : Bool) (brief : Brief) (limit : ℕ) → limit ≤ LOG_BYTES → kept.ids.items ≡ brief.ids → kept.bytes ≡ min brief.bytes (2 ^ 64 - 1) → kept.contents.contents ≡ brief.contents
    → min (file_length kept.ids.items kept.bytes) (2 ^ 64 - 1) ≤ limit → brief_in kept ≡ brief
kept_brief kept full brief limit small ids bytes contents within =
    let whole : min brief.bytes (2 ^ 64 - 1) ≡ brief.bytes = unstopped brief.bytes (file_length kept.ids.items kept.bytes) limit small within (omega (arith, bytes)) in
    λ i. record { ids = ids i; bytes = (bytes ∙ whole) i; contents = contents i }
  where
    unstopped : (b long limit : ℕ) → limit ≤ LOG_BYTES → min long (2 ^ 64 - 1) ≤ limit → min b (2 ^ 64 - 1) ≤ long → min b (2 ^ 64 - 1) ≡ b
    unstopped b long limit small within less = ⊎_elim
        (λ (low : b ≤ 2 ^ 64 - 1). min-eq_left low)
        (λ (high : 2 ^ 64 - 1 ≤ b). absurd (omega (arith, small, within, less, min-eq_right high, min-eq_right (too_long b long high less))))
        (either b (2 ^ 64 - 1))
      where
        either : (a b : ℕ) → (a ≤ b) ⊎ (b ≤ a)
        either a b = grind (arith)

        too_long : (b long : ℕ) → 2 ^ 64 - 1 ≤ b → min b (2 ^ 64 - 1) ≤ long → 2 ^ 64 - 1 ≤ long
        too_long b long high less = omega (arith, less, min-eq_right high)

pub unstopped_length : (long limit : ℕ) → limit ≤ LOG_BYTES → min long (2 ^ 64 - 1) ≤ limit → long ≤ limit
unstopped_length long limit small within = ⊎_elim
    (λ (low : long ≤ 2 ^ 64 - 1). omega (arith, within, min-eq_left low))
    (λ (high : 2 ^ 64 - 1 ≤ long). absurd (omega (arith, small, within, min-eq_right high)))
    (either long (2 ^ 64 - 1))
  where
    either : (a b : ℕ) → (a ≤ b) ⊎ (b ≤ a)
    either a b = grind (arith)

-- ---- results

pub ok_from : {T E : Type 0} (result : Result T E) (P Q : Type 0) → (P → Q) → OnOk result P → OnOk result Q
ok_from (Ok done) P Q implies is = implies is
ok_from (Err fault) P Q implies is = is

pub ok_both : {T E : Type 0} (result : Result T E) (P Q R : Type 0) → (P → Q → R) → OnOk result P → OnOk result Q → OnOk result R
ok_both (Ok done) P Q R implies is also = implies is also
ok_both (Err fault) P Q R implies is also = is
