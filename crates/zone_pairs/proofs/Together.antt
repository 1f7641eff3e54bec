-- Any two images that the clauses of each disk allow are those of a zone: with the brief before, or
-- with that and the patch in doubt or the new one.
use Rattle.std.proofs.Common.{◌≡◌, ◌⊎◌, inl, inr, ℕ, ◌+◌, ◌≤◌, Bool, false, List, [], ◌∷◌, ◌++◌, take, length, Option, Some, None, refl, sym, ◌∙◌, ap, subst, append_assoc, arith}
use Rattle.std.specs.Prelude.{map, ◌-◌}
use Rattle.std.proofs.Math.Seq.{take-append-add}
use Rattle.log_journal.specs.File.{Holds}
use Rattle.patch_meaning.specs.Checked.{CheckedPatch, AreChecked, checked_texts}
use Rattle.patch_meaning.specs.Patch.{IsPatch}
use Rattle.checkpoint_line.specs.First.{first_line}
use Rattle.checkpoint_text.specs.Brief.{Brief}
use Rattle.std.specs.List.{flat_map, concat}
use Rattle.rdf_terms.specs.Line.{line as line_of}
use Rattle.log_base.specs.declared.limits.LogLimits.{LogLimits}
use Rattle.checkpoint_text.specs.Text.{checkpoint, prefix_rows, line_of_id, IsCheckpoint, first_line_of}
use Rattle.zone_files.specs.Generation.{number_of, unmarked, BeginsCheckpoint, PayloadsShow}
use Rattle.zone_files.proofs.Together.{next_decides, current_decides}
use Rattle.zone_pairs.proofs.Unmarked.{patch-unmarked}
use Rattle.zone_pairs.specs.Briefs.{with_patch}
use Rattle.zone_pairs.specs.Pair.{Fits, TakeTo, start_brief, IsStart, start_texts, current_payloads, StandFor, ZoneHoldsByRole, MayBeBeside, MayHoldPayloads, MayHoldTaking, PairPoint, payloads_at, IsNextBrief, MayBeTaken}

-- one patch more
pub taken_on : (before brief : Brief) (patches : List CheckedPatch) (patch : CheckedPatch) → TakeTo before patches brief → Fits brief patch → TakeTo before (patches ++ patch ∷ []) (with_patch brief patch)
taken_on before brief [] patch taken fits = (subst (λ (b : Brief). Fits b patch) taken fits, ap (λ (b : Brief). with_patch b patch) taken)
taken_on before brief (first ∷ patches) patch taken fits = (taken.0, taken_on (with_patch before first) brief patches patch taken.1 fits)

pub texts_on : (patches : List CheckedPatch) (patch : CheckedPatch) → checked_texts (patches ++ patch ∷ []) ≡ checked_texts patches ++ patch.text ∷ []
texts_on [] patch = refl
texts_on (first ∷ patches) patch = ap (λ (ts : List (List ℕ)). first.text ∷ ts) (texts_on patches patch)

pub checked_on : (patches : List CheckedPatch) (patch : CheckedPatch) → AreChecked patches → IsPatch patch.text patch.meaning → AreChecked (patches ++ patch ∷ [])
checked_on [] patch are is = (is, tt)
checked_on (first ∷ patches) patch are is = (are.0, checked_on patches patch are.1 is)

take-longer : (xs ys : List ℕ) (n : ℕ) → length xs ≤ n → take n (xs ++ ys) ≡ xs ++ take (n - length xs) ys
take-longer xs ys n within =
    let count : n ≡ length xs + (n - length xs) = omega arith in
    ap (λ (k : ℕ). take k (xs ++ ys)) count ∙ take-append-add xs ys (n - length xs)

-- the first line of a checkpoint stands in what is read of the front
pub checkpoint_begins : (generation : ℕ) (brief : Brief) → IsCheckpoint (checkpoint generation brief) generation brief → BeginsCheckpoint (checkpoint generation brief) generation
checkpoint_begins generation brief is =
    let line : List ℕ = first_line (first_line_of generation brief) in
    let behind : List ℕ = flat_map line_of_id brief.ids ++ (concat (prefix_rows brief.contents) ++ concat (map line_of brief.contents.quads)) in
    let front : take 64 (line ++ behind) ≡ line ++ take (64 - length line) behind = take-longer line behind 64 is.in_front in
    record {
      first = first_line_of generation brief;
      begins = (is.counts, (take (64 - length line) behind, front));
      generation_is = refl;
    }

-- the payloads of a current file show its generation
pub payloads_show : (second : Bool) (generation : ℕ) (start : Option Brief) (patches : List CheckedPatch) → IsStart generation start → (start ≡ None → second ≡ false) → AreChecked patches → PayloadsShow second (current_payloads generation start patches) (Some generation)
payloads_show second generation (Some start) patches is first checked = inr (generation, checkpoint_begins generation start is, refl)
payloads_show second generation None [] is first checked = ap (λ (n : ℕ). Some n) is ∙ ap (λ (b : Bool). unmarked b) (sym (first refl))
payloads_show second generation None (patch ∷ patches) is first checked =
    inl (patch-unmarked patch checked.0, ap (λ (n : ℕ). Some n) is ∙ ap (λ (b : Bool). unmarked b) (sym (first refl)))

-- ---- the law of two images

module _ (point : PairPoint) (brief : Brief) (start_is : IsStart point.generation point.start) (in_first : point.start ≡ None → point.second ≡ false) (checked : AreChecked point.patches) (take_is : TakeTo (start_brief point.start) point.patches brief) where
  -- of patches that go on from there
  with_current : (patches : List CheckedPatch) (held : Brief) (current other : List ℕ) → AreChecked patches → TakeTo (start_brief point.start) patches held
      → Holds current (number_of point.second) (current_payloads point.generation point.start patches) → MayBeBeside point.second point.generation brief other
      → ZoneHoldsByRole point.second current other held ⊎ ZoneHoldsByRole point.second current other brief
  with_current patches held current other are taken holds (inl behind) =
      inl (current_decides StandFor point.second point.generation (current_payloads point.generation point.start patches) held current other holds
      (payloads_show point.second point.generation point.start patches start_is in_first are)
      (record { start = point.start; patches = patches; payloads_are = refl; start_is = start_is; checked = are; take = taken }) behind)
  with_current patches held current other are taken holds (inr next) =
      inr (next_decides StandFor point.second point.generation (current_payloads point.generation point.start patches) (checkpoint (point.generation + 1) brief) brief current other holds
      (payloads_show point.second point.generation point.start patches start_is in_first are) next.1
      (inr (point.generation + 1, checkpoint_begins (point.generation + 1) brief next.0, refl))
      (record { start = Some brief; patches = []; payloads_are = refl; start_is = next.0; checked = tt; take = refl }))

  texts_behind : (patch : CheckedPatch) → payloads_at point ++ patch.text ∷ [] ≡ current_payloads point.generation point.start (point.patches ++ patch ∷ [])
  texts_behind patch =
      append_assoc (start_texts point.generation point.start) (checked_texts point.patches) (patch.text ∷ [])
      ∙ ap (λ (ts : List (List ℕ)). start_texts point.generation point.start ++ ts) (sym (texts_on point.patches patch))

  -- with one patch more
  pub with_one : (patch : CheckedPatch) (current other : List ℕ) → IsPatch patch.text patch.meaning → Fits brief patch
      → Holds current (number_of point.second) (payloads_at point ++ patch.text ∷ []) → MayBeBeside point.second point.generation brief other
      → ZoneHoldsByRole point.second current other (with_patch brief patch) ⊎ ZoneHoldsByRole point.second current other brief
  with_one patch current other is fits holds beside =
      with_current (point.patches ++ patch ∷ []) (with_patch brief patch) current other (checked_on point.patches patch checked is) (taken_on (start_brief point.start) brief point.patches patch take_is fits)
      (subst (λ (ts : List (List ℕ)). Holds current (number_of point.second) ts) (texts_behind patch) holds) beside

  -- with none
  pub with_none : (current other : List ℕ) → Holds current (number_of point.second) (payloads_at point) → MayBeBeside point.second point.generation brief other → ZoneHoldsByRole point.second current other brief
  with_none current other holds beside = either (with_current point.patches brief current other checked take_is holds beside)
    where
      either : {P : Type 0} → P ⊎ P → P
      either (inl p) = p
      either (inr p) = p

  one_of : (doubt new : Option CheckedPatch) (patch : CheckedPatch) (current other : List ℕ) → (doubt ≡ Some patch) ⊎ (new ≡ Some patch)
      → ZoneHoldsByRole point.second current other (with_patch brief patch) ⊎ ZoneHoldsByRole point.second current other brief
      → (next : Brief) × IsNextBrief brief doubt new next × ZoneHoldsByRole point.second current other next
  one_of doubt new patch current other which (inl held) = (with_patch brief patch, inr (patch, which, refl), held)
  one_of doubt new patch current other which (inr held) = (brief, inl refl, held)

  -- the payloads, or these and the one in doubt
  pub without_new : (limits : LogLimits) (doubt new : Option CheckedPatch) (current other : List ℕ) → MayBeTaken limits brief doubt
      → MayHoldPayloads (number_of point.second) (payloads_at point) doubt current → MayBeBeside point.second point.generation brief other
      → (next : Brief) × IsNextBrief brief doubt new next × ZoneHoldsByRole point.second current other next
  without_new limits None new current other may holds beside = (brief, inl refl, with_none current other holds beside)
  without_new limits (Some doubt) new current other may (inl holds) beside = (brief, inl refl, with_none current other holds beside)
  without_new limits (Some doubt) new current other may (inr holds) beside =
      one_of (Some doubt) new doubt current other (inl refl) (with_one doubt current other may.0 may.1 holds beside)

  -- any two images while a patch is taken
  pub while_taking : (limits : LogLimits) (doubt : Option CheckedPatch) (patch : CheckedPatch) (current other : List ℕ) → MayBeTaken limits brief doubt → IsPatch patch.text patch.meaning → Fits brief patch
      → MayHoldTaking (number_of point.second) (payloads_at point) doubt patch current → MayBeBeside point.second point.generation brief other
      → (next : Brief) × IsNextBrief brief doubt (Some patch) next × ZoneHoldsByRole point.second current other next
  while_taking limits doubt patch current other may is fits (inl holds) beside = without_new limits doubt (Some patch) current other may holds beside
  while_taking limits doubt patch current other may is fits (inr holds) beside =
      one_of doubt (Some patch) patch current other (inr refl) (with_one patch current other is fits holds beside)
