-- What taking the next patch comes to on two files, by its answer.
use Rattle.std.proofs.Common.{◌≡◌, ◌≢◌, ◌⊎◌, inl, inr, ⊎_elim, ℕ, List, Option, Some, None, Result, Ok, Err, refl, sym, subst, arith}
use Rattle.disk_model.specs.declared.disk.Disk.{Ghosts}
use Rattle.disk_model.proofs.Moments.{starts}
use Rattle.term_table.specs.Table.{most}
use Rattle.dataset_tx.specs.Held.{AreMet, AreMore}
use Rattle.log_base.specs.declared.phase.Phase.{Phase}
use Rattle.log_journal.specs.Writing.{doubt_left, failing}
use Rattle.patch_meaning.specs.Checked.{CheckedPatch}
use Rattle.patch_log.specs.Log.{bare}
use Rattle.zone_files.specs.Generation.{number_of}
use Rattle.zone_pairs.specs.Pair.{PairPoint, payloads_at, MayBeBeside, MayHoldTaking}
use Rattle.zone_state.specs.declared.answer.TakeAnswer.{TakeAnswer}
use Rattle.zone_state.specs.declared.answer.TakeAnswer.TheVariants.{Applied, Diverged, Repeated, Full, TermsFull, OutOfMemory, DiskFault}
use Rattle.zone_state.specs.Stay.{answer_by}
use Rattle.zone_state.specs.Taking.{taking, taken_then}
use Rattle.zone_state.specs.Takes.{LeavesInDoubt}
use Rattle.zone_state.proofs.Decisions.{IsRefused}
use Rattle.zone_state.proofs.Readings.{meets_none}
use Rattle.zone_state.proofs.Written.{brief_after}
use Rattle.paired_journal.specs.Pair.{DisksWent}
use Rattle.paired_zone.specs.Takes.{point_then, TookBeside, TakesPatch}
use Rattle.paired_zone.specs.Zone.{PairedView, StandsAt}
use Rattle.paired_zone.proofs.Standing.{file_images}

-- ---- answers that leave everything as it is

-- the answer tells of no write
pub record TellsNothing (answer : TakeAnswer) : Type 0 where
  pub no_version : (version : ℕ) → answer ≡ Applied version → ⊥
  pub no_fault : answer ≡ DiskFault → ⊥
  pub same : (taken : List CheckedPatch) (patch : CheckedPatch) → taken_then answer taken patch ≡ taken

pub refused_tells : (answer : TakeAnswer) → IsRefused answer → TellsNothing answer
refused_tells answer told = record { no_version = told.no_version; no_fault = told.no_fault; same = told.same }

pub wanting_tells : (answer : TakeAnswer) → (answer ≡ TermsFull) ⊎ (answer ≡ OutOfMemory) → TellsNothing answer
wanting_tells answer (inl is) = subst TellsNothing (sym is) (record { no_version = λ version same. cc; no_fault = λ same. cc; same = λ taken patch. refl })
wanting_tells answer (inr is) = subst TellsNothing (sym is) (record { no_version = λ version same. cc; no_fault = λ same. cc; same = λ taken patch. refl })

-- the same patch is in doubt
same_doubt : (answer : TakeAnswer) (patch : CheckedPatch) (doubt : Option CheckedPatch) → TellsNothing answer → LeavesInDoubt answer doubt patch doubt
same_doubt (Applied version) patch doubt tells = absurd (tells.no_version version refl)
same_doubt (Diverged have prev) patch doubt tells = refl
same_doubt (Repeated version) patch doubt tells = refl
same_doubt (Full what have limit) patch doubt tells = refl
same_doubt TermsFull patch doubt tells = refl
same_doubt OutOfMemory patch doubt tells = refl
same_doubt DiskFault patch doubt tells = absurd (tells.no_fault refl)

module _ {D : Type 0} (disks : Ghosts D) where
  -- disks that weren't asked
  pub none_went : (failed : Type 0) (disk other : D) → (failed → ⊥) → DisksWent disks failed disk disk other other
  none_went failed disk other never = record { cause = λ is. absurd (never is); never_falls = (omega arith, omega arith); well = λ not. (refl, refl); mark = (refl, refl) }

  -- no more is known of terms but that
  abbrev with_terms : PairedView D → PairedView D → PairedView D
  with_terms old new = record old { terms = new.terms }

  point_same : (answer : TakeAnswer) (point : PairPoint) (patch : CheckedPatch) → TellsNothing answer → point_then answer point patch point.doubt ≡ point
  point_same answer point patch tells = λ i. record { second = point.second; generation = point.generation; start = point.start; patches = tells.same point.patches patch i; doubt = point.doubt }

  -- the disks stand for the same point
  took_none : (old new : PairedView D) (patch : CheckedPatch) (answer : TakeAnswer) → new ≡ record old { terms = new.terms } → TellsNothing answer → (point : PairPoint) → StandsAt disks old point → TookBeside disks old new patch answer
  took_none old new patch answer same tells point stands =
      subst (λ (zone : PairedView D). TookBeside disks old zone patch answer) (sym same) (record {
        point = point;
        stood = stands;
        stands = subst (λ (d : Option CheckedPatch). StandsAt disks (record old { terms = new.terms }) (point_then answer point patch d)) stands.doubt_is
            (subst (λ (p : PairPoint). StandsAt disks (record old { terms = new.terms }) p) (sym (point_same answer point patch tells))
            (record { second_is = stands.second_is; generation_is = stands.generation_is; doubt_is = stands.doubt_is; stands = stands.stands }));
        on_current = λ told. starts (MayHoldTaking (number_of point.second) (payloads_at point) point.doubt patch) (disks.past old.current)
            (λ image left. inl (file_images (disks.past old.current) (number_of point.second) (payloads_at point) point.doubt (stands.stands.on_current told) image left));
        on_other = λ told. starts (MayBeBeside point.second point.generation old.brief) (disks.past old.other) (stands.stands.on_other told);
        kept = λ version is. absurd (tells.no_version version is);
      })

  module _ (old : PairedView D) (patch : CheckedPatch) where
    abbrev decided : TakeAnswer
    decided = taking old.brief.ids old.brief.bytes (bare patch) old.limits

    -- ---- it isn't the next one

    pub takes_refused : (answer : TakeAnswer) → IsRefused answer → answer ≡ taking old.brief.ids old.brief.bytes (bare patch) old.limits → (point : PairPoint) → StandsAt disks old point → TakesPatch disks old old patch answer
    takes_refused answer told made point stands = record {
      decided = inl made;
      want = λ either. ⊎_elim (λ is. absurd (told.no_terms is)) (λ is. absurd (told.no_want is)) either;
      terms_full = λ is. absurd (told.no_terms is);
      terms = meets_none patch.meaning.changes old.terms;
      applied = λ version is. absurd (told.no_version version is);
      refused = λ never. refl;
      untouched = λ fault never. refl;
      same = λ never. refl;
      doubt = same_doubt answer patch old.doubt (refused_tells answer told);
      second = refl;
      generation = refl;
      beside = took_none old old patch answer refl (refused_tells answer told) point stands;
      went = none_went (answer ≡ DiskFault) old.current old.other told.no_fault;
      limits = refl;
    }

    module _ (version : ℕ) (next : taking old.brief.ids old.brief.bytes (bare patch) old.limits ≡ Applied version) where
      -- ---- it is the next one, and memory or numbers are wanting

      pub takes_wanting : (new : PairedView D) (answer : TakeAnswer) → (answer ≡ TermsFull) ⊎ (answer ≡ OutOfMemory) → new ≡ record old { terms = new.terms } → (answer ≡ TermsFull → AreMore most patch.meaning.changes old.terms)
          → AreMet patch.meaning.changes old.terms new.terms → (point : PairPoint) → StandsAt disks old point → TakesPatch disks old new patch answer
      takes_wanting new answer lacks same full met point stands =
          let tells = wanting_tells answer lacks in
          record {
            decided = inr ((version, next), inr lacks);
            want = λ either. ((version, next), either);
            terms_full = full;
            terms = met;
            applied = λ other is. absurd (tells.no_version other is);
            refused = λ never. λ i. (same i).brief;
            untouched = λ fault never. same;
            same = λ never. absurd (never version next);
            doubt = subst (λ (doubt : Option CheckedPatch). LeavesInDoubt answer old.doubt patch doubt) (λ i. (sym same i).doubt) (same_doubt answer patch old.doubt tells);
            second = λ i. (same i).second;
            generation = λ i. (same i).generation;
            beside = took_none old new patch answer same tells point stands;
            went = subst (λ (zone : PairedView D). DisksWent disks (answer ≡ DiskFault) old.current zone.current old.other zone.other) (sym same) (none_went (answer ≡ DiskFault) old.current old.other tells.no_fault);
            limits = λ i. (same i).limits;
          }

      -- ---- it is the next one, and was written

      pub takes_written : (new : PairedView D) (written : Result (Unit {0}) Phase) → new.brief ≡ brief_after (failing written) old.brief patch → new.doubt ≡ doubt_left (failing written) old.doubt patch → new.limits ≡ old.limits
          → AreMet patch.meaning.changes old.terms new.terms → new.second ≡ old.second → new.generation ≡ old.generation → DisksWent disks (failing written ≢ None) old.current new.current old.other new.other
          → TookBeside disks old new patch (answer_by (failing written) version) → TakesPatch disks old new patch (answer_by (failing written) version)
      takes_written new (Ok done) brief doubt limits met second generation went beside = record {
        decided = inl (sym next);
        want = λ either. absurd (⊎_elim (λ (is : Applied version ≡ TermsFull). cc) (λ (is : Applied version ≡ OutOfMemory). cc) either);
        terms_full = λ is. absurd (cc);
        terms = met;
        applied = λ other is. brief;
        refused = λ never. absurd (never version refl);
        untouched = λ fault never. absurd (never version refl);
        same = λ never. absurd (never version next);
        doubt = doubt;
        second = second;
        generation = generation;
        beside = beside;
        went = record { cause = λ is. absurd (cc); never_falls = went.never_falls; well = λ not. went.well (λ some. some refl); mark = went.mark };
        limits = limits;
      }
      takes_written new (Err phase) brief doubt limits met second generation went beside = record {
        decided = inr ((version, next), inl refl);
        want = λ either. absurd (⊎_elim (λ (is : DiskFault ≡ TermsFull). cc) (λ (is : DiskFault ≡ OutOfMemory). cc) either);
        terms_full = λ is. absurd (cc);
        terms = met;
        applied = λ other is. absurd (cc);
        refused = λ never. brief;
        untouched = λ fault never. absurd (fault refl);
        same = λ never. absurd (never version next);
        doubt = (phase, doubt);
        second = second;
        generation = generation;
        beside = beside;
        went = record { cause = λ is. went.cause (λ (none : Some phase ≡ None). cc); never_falls = went.never_falls; well = λ not. absurd (not refl); mark = went.mark };
        limits = limits;
      }
