-- What a run leaves at its stop, and what the next one finds.
use Rattle.std.proofs.Common.{◌≡◌, ◌⊎◌, inl, inr, ⊎_elim, ℕ, List, [], ◌∷◌, ◌++◌, Option, Some, None, refl, sym, ◌∙◌, ap, subst}
use Rattle.disk_model.specs.declared.disk.Disk.{Ghosts}
use Rattle.disk_model.specs.Past.{MayLeave, MayHaveLeft}
use Rattle.disk_model.proofs.Moments.{starts}
use Rattle.log_base.specs.OneMore.{with_one_more}
use Rattle.log_base.specs.declared.limits.LogLimits.{LogLimits}
use Rattle.log_journal.specs.File.{Holds}
use Rattle.log_journal.specs.Journal.{HoldsWithOrWithout}
use Rattle.log_journal.specs.Writing.{HoldsDuring}
use Rattle.log_journal.specs.declared.form.Form.TheVariants.{New}
use Rattle.log_journal.proofs.OneReading.{one_list as one_reading}
use Rattle.chain_core.specs.declared.chain.Patch.{Patch}
use Rattle.chain_core.specs.declared.answer.LogAnswer.{LogAnswer}
use Rattle.chain_core.specs.Runs.{run_text}
use Rattle.patch_log.specs.Log.{IsSoundRun, IsSoundLog, StandsForLog, payloads_of, run_payload}
use Rattle.patch_log.specs.State.{LogView, runs_in}
use Rattle.patch_log.specs.Run.{AppendedRun, WritesRun, AsksNoDisk}
use Rattle.patch_log.proofs.Sound.{one_list as one_log, texts_of-push, log-push}
use Rattle.turn_cell.specs.Knowing.{pass_number}
use Rattle.shared_log.specs.History.{StandsInTurn}
use Rattle.world_core.proofs.Growing.{GrowsTo, stays_same}
use Rattle.deployment.specs.History.{PassRun, IsFoundIn, Unanswered, Leaves, ServerRun, IsServerRun}

-- a log in an image: these runs, or these and one more that has Q
pub record LeavesMore (image : List ℕ) (number : ℕ) (limits : LogLimits) (runs : List (List Patch)) (Q : List Patch → Type 0) : Type 0 where
  pub left : List (List Patch)
  pub which : (left ≡ runs) ⊎ ((run : List Patch) × (left ≡ runs ++ run ∷ []) × Q run)
  pub found : IsFoundIn image number limits left

pub leaves_grown : (runs left : List (List Patch)) (Q : List Patch → Type 0) → (left ≡ runs) ⊎ ((run : List Patch) × (left ≡ runs ++ run ∷ []) × Q run) → GrowsTo runs left
leaves_grown runs left Q which = ⊎_elim (λ (e : left ≡ runs). subst (λ (rs : List (List Patch)). GrowsTo runs rs) (sym e) (stays_same runs))
    (λ (z : (run : List Patch) × (left ≡ runs ++ run ∷ []) × Q run). (z.0 ∷ [], z.1)) which

-- an image holds one log
pub one_found : (image : List ℕ) (number : ℕ) (limits : LogLimits) (one other : List (List Patch)) → IsFoundIn image number limits one → IsFoundIn image number limits other → one ≡ other
one_found image number limits one other a b = one_log one other (one_reading New image number (payloads_of one) (payloads_of other) a.holds b.holds) a.log.sound b.log.sound

module _ (number : ℕ) (limits : LogLimits) (runs : List (List Patch)) (image : List ℕ) (Q : List Patch → Type 0) where
  plain : IsSoundLog limits runs → Holds image number (payloads_of runs) → LeavesMore image number limits runs Q
  plain log holds = record { left = runs; which = inl refl; found = record { holds = holds; log = log } }

  pushed : (run : List Patch) → Q run → IsSoundLog limits (runs ++ run ∷ []) → Holds image number (payloads_of runs ++ run_text run ∷ []) → LeavesMore image number limits runs Q
  pushed run q log holds = record {
    left = runs ++ run ∷ [];
    which = inr (run, refl, q);
    found = record { holds = subst (λ (texts : List (List ℕ)). Holds image number texts) (sym (texts_of-push runs run)) holds; log = log };
  }

  either : (run : List Patch) → Q run → IsSoundLog limits runs → IsSoundLog limits (runs ++ run ∷ []) → HoldsWithOrWithout number (payloads_of runs) (run_text run) image → LeavesMore image number limits runs Q
  either run q log longer held = ⊎_elim (λ (h : Holds image number (payloads_of runs)). plain log h) (λ (h : Holds image number (payloads_of runs ++ run_text run ∷ [])). pushed run q longer h) held

  -- while an append is under way
  during : (doubt : Option (List Patch)) (run : List Patch) → ((d : List Patch) → doubt ≡ Some d → Q d) → Q run → IsSoundLog limits runs → IsSoundLog limits (with_one_more runs doubt) → IsSoundLog limits (runs ++ run ∷ [])
      → HoldsDuring number (payloads_of runs) (run_payload doubt) (run_text run) image → LeavesMore image number limits runs Q
  during None run of_doubt q log having longer held = either run q log longer held
  during (Some doubtful) run of_doubt q log having longer held = ⊎_elim
      (λ (h : HoldsWithOrWithout number (payloads_of runs) (run_text doubtful) image). either doubtful (of_doubt doubtful refl) log having h)
      (λ (h : HoldsWithOrWithout number (payloads_of runs) (run_text run) image). either run q log longer h) held

module _ {D : Type 0} (disks : Ghosts D) (tells : disks.tells) where
  -- between two appends
  between : (Q : List Patch → Type 0) (log : LogView D) (image : List ℕ) → ((d : List Patch) → log.doubt ≡ Some d → Q d) → StandsInTurn disks log → MayLeave (disks.past log.disk) image → LeavesMore image log.number log.limits (runs_in log) Q
  between Q log image of_doubt stands left = with_or_without log.doubt of_doubt (stands.stands tells)
    where
      with_or_without : (doubt : Option (List Patch)) → ((d : List Patch) → doubt ≡ Some d → Q d) → StandsForLog (disks.past log.disk) log.number log.limits (runs_in log) doubt → LeavesMore image log.number log.limits (runs_in log) Q
      with_or_without None q on_disk = plain log.number log.limits (runs_in log) image Q on_disk.without (on_disk.each image left)
      with_or_without (Some doubt) q on_disk = either log.number log.limits (runs_in log) image Q doubt (q doubt refl) on_disk.without on_disk.having (on_disk.each image left)

  -- amid an append: its run is written, or the disk isn't asked
  amid : (Q : List Patch → Type 0) (log left : LogView D) (run : List Patch) (by : ℕ) (answer : LogAnswer) (image : List ℕ) → ((d : List Patch) → log.doubt ≡ Some d → Q d) → Q run → StandsInTurn disks log → IsSoundRun run
      → AppendedRun disks log left run by answer → MayHaveLeft (disks.past log.disk) (disks.past left.disk) image → LeavesMore image log.number log.limits (runs_in log) Q
  amid Q log left run by answer image of_doubt q stands sound appended may = ⊎_elim
      (λ (w : WritesRun disks log left run answer).
      let on_disk = stands.stands tells in
      during log.number log.limits (runs_in log) image Q log.doubt run of_doubt q on_disk.without on_disk.having (log-push log.limits (runs_in log) run w.version on_disk.without sound w.can) ((w.written.any_moment tells).each image may))
      (λ (a : AsksNoDisk log left run answer).
      let same : left.disk ≡ log.disk = ap (λ (l : LogView D). l.disk) a.same in
      let still : MayHaveLeft (disks.past log.disk) (disks.past log.disk) image = subst (λ (d : D). MayHaveLeft (disks.past log.disk) (disks.past d) image) same may in
      between Q log image of_doubt stands ((starts (MayLeave (disks.past log.disk)) (disks.past log.disk) (λ found left. left)).each image still)) appended.asks

  -- what may stand behind the runs: the one in doubt, or the one whose append was under way
  abbrev pub MayStandBehind : ServerRun D → List Patch → Type 0
  MayStandBehind server run = (server.log.doubt ≡ Some run) ⊎ ((append : Unanswered D) × (server.under_way ≡ Some append) × (append.run ≡ run))

  leaves_more : (Q : List Patch → Type 0) (passes : List PassRun) (log : LogView D) (under_way : Option (Unanswered D)) (image : List ℕ) → ((d : List Patch) → log.doubt ≡ Some d → Q d) → ((append : Unanswered D) → under_way ≡ Some append → Q append.run)
      → StandsInTurn disks log → Leaves disks passes log under_way image → LeavesMore image log.number log.limits (runs_in log) Q
  leaves_more Q passes log None image of_doubt q stands left = between Q log image of_doubt stands left
  leaves_more Q passes log (Some append) image of_doubt q stands left = amid Q log append.left append.run (pass_number append.pass.at_stop) append.answer image of_doubt (q append refl) stands left.0.sound left.0.appended left.1

  -- a run leaves a log that goes on from that of its turns
  pub run_leaves : (number : ℕ) (limits : LogLimits) (image : List ℕ) (server : ServerRun D) → IsServerRun disks number limits image server → LeavesMore server.image number limits (runs_in server.log) (MayStandBehind server)
  run_leaves number limits image server is =
      let fixed = is.at_stop.fixed in
      let n : server.log.number ≡ number = ap (λ f. f.number) fixed ∙ is.number_is in
      let l : server.log.limits ≡ limits = ap (λ f. f.limits) fixed ∙ is.limits_is in
      subst (λ (x : ℕ × LogLimits). LeavesMore server.image x.0 x.1 (runs_in server.log) (MayStandBehind server)) (λ i. (n i, l i))
      (leaves_more (MayStandBehind server) server.passes server.log server.under_way server.image (λ d e. inl e) (λ append e. inr (append, e, refl)) is.at_stop.stands is.leaves)

  pub run_grows : (number : ℕ) (limits : LogLimits) (image : List ℕ) (server : ServerRun D) (is : IsServerRun disks number limits image server) → GrowsTo (runs_in server.log) (run_leaves number limits image server is).left
  run_grows number limits image server is = let left = run_leaves number limits image server is in leaves_grown (runs_in server.log) left.left (MayStandBehind server) left.which
