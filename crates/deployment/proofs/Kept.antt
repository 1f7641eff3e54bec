-- From runs to the promise.
use Rattle.std.proofs.Common.{◌≡◌, ◌⊎◌, inl, inr, ⊎_elim, ℕ, List, [], ◌∷◌, ◌++◌, refl, sym, ◌∙◌, ap, subst}
use mathlib.Core.List.{IsPrefix}
use Rattle.disk_model.specs.declared.disk.Disk.{Ghosts}
use Rattle.log_base.specs.declared.limits.LogLimits.{LogLimits}
use Rattle.chain_core.specs.declared.chain.Patch.{Patch}
use Rattle.chain_core.specs.Runs.{patches_in, runs_of}
use Rattle.chain_core.proofs.Runs.{patches_in-push, patches_in-runs}
use Rattle.patch_log.specs.State.{chain_of, runs_in}
use Rattle.turn_cell.specs.Turns.{IsIn}
use Rattle.turn_cell.specs.Sharing.{HasSeen}
use Rattle.turn_cell.specs.Knowing.{seen_of}
use Rattle.turn_cell.proofs.Views.{prefix_trans}
use Rattle.turn_cell.proofs.Ends.{all_in}
use Rattle.turn_cell.proofs.Members.{in_either, one_of_mapped}
use Rattle.shared_log.specs.History.{history_of, shared_log}
use Rattle.shared_log.proofs.Histories.{whole_known}
use Rattle.shared_log.proofs.Turns.{known_entries}
use Rattle.world_core.proofs.Growing.{GrowsTo, stays_same, grows_on}
use Rattle.deployment.specs.Calls.{SeenCall}
use Rattle.deployment.specs.History.{PassRun, IsFoundIn, ServerRun, HasCalled, IsServerRun, AreServerRuns, image_left}
use Rattle.deployment.specs.Promise.{IsGiven, WasBrought, KeepsPromise}
use Rattle.deployment.proofs.Fronts.{runs_known, runs_grow, as_prefix}
use Rattle.deployment.proofs.Calling.{one_call, amid_on}
use Rattle.deployment.proofs.Brought.{run_brings, behind_brought}
use Rattle.deployment.proofs.Left.{MayStandBehind, one_found, run_leaves, run_grows}
use Rattle.deployment.proofs.Given.{given, given_on}

module _ {D : Type 0} (disks : Ghosts D) (tells : disks.tells) (number : ℕ) (limits : LogLimits) where
  -- ---- the chain from run to run

  -- what an image holds goes on in the run that is opened on it
  opened_grows : (image : List ℕ) (start : List (List Patch)) (server : ServerRun D) → IsFoundIn image number limits start → IsServerRun disks number limits image server → GrowsTo start (runs_in server.log)
  opened_grows image start server found is =
      let same = one_found image number limits start (runs_in server.made.origin) found is.opened in
      let history = is.at_stop.history in
      let origin = server.made.origin.entries in
      let began : runs_known (history_of origin) ≡ start = ap runs_of (known_entries origin) ∙ sym same in
      subst (λ (rs : List (List Patch)). GrowsTo rs (runs_in server.log)) began (runs_grow (history_of origin) server.log.entries (whole_known origin is.whole) (history.0, sym history.1))

  to_the_end : (image : List ℕ) (start : List (List Patch)) (servers : List (ServerRun D)) (last : List (List Patch)) → IsFoundIn image number limits start → AreServerRuns disks number limits image servers
      → IsFoundIn (image_left image servers) number limits last → GrowsTo start last
  to_the_end image start [] last found are ends = subst (GrowsTo start) (one_found image number limits start last found ends) (stays_same start)
  to_the_end image start (server ∷ more) last found are ends =
      let left = run_leaves disks tells number limits image server are.0 in
      grows_on start (runs_in server.log) last (opened_grows image start server found are.0)
      (grows_on (runs_in server.log) left.left last (run_grows disks tells number limits image server are.0) (to_the_end server.image left.left more last left.found are.1 ends))

  -- a run of the deployment, on some image, and what it left begins the last log
  abbrev LeavesFront : ServerRun D → List (List Patch) → Type 0
  LeavesFront server last = (on : List ℕ) × IsServerRun disks number limits on server × ((left : List (List Patch)) → IsFoundIn server.image number limits left → GrowsTo left last)

  one_server : (image : List ℕ) (servers : List (ServerRun D)) (last : List (List Patch)) (server : ServerRun D) → AreServerRuns disks number limits image servers → IsFoundIn (image_left image servers) number limits last → IsIn server servers → LeavesFront server last
  one_server image [] last server are ends i = absurd i
  one_server image (first ∷ more) last server are ends i = ⊎_elim
      (λ (e : server ≡ first). subst (λ (x : ServerRun D). LeavesFront x last) (sym e) (image, are.0, λ left found. to_the_end first.image left more last found are.1 ends))
      (λ (j : IsIn server more). one_server first.image more last server are.1 ends j) i

  begins : (server : ServerRun D) (last : List (List Patch)) → LeavesFront server last → GrowsTo (runs_in server.log) last
  begins server last leaves =
      let left = run_leaves disks tells number limits leaves.0 server leaves.1 in
      grows_on (runs_in server.log) left.left last (run_grows disks tells number limits leaves.0 server leaves.1) (leaves.2 left.left left.found)

  -- ---- where the patches come from

  abbrev Comes : List (ServerRun D) → List (List Patch) → Patch → Type 0
  Comes servers start patch = IsIn patch (patches_in start) ⊎ ((server : ServerRun D) × IsIn server servers × WasBrought server patch)

  of_run : (image : List ℕ) (start : List (List Patch)) (server : ServerRun D) (more : List (ServerRun D)) → IsFoundIn image number limits start → IsServerRun disks number limits image server → (patch : Patch)
      → IsIn patch (chain_of server.made.origin) ⊎ WasBrought server patch → Comes (server ∷ more) start patch
  of_run image start server more found is patch which = ⊎_elim
      (λ (i : IsIn patch (chain_of server.made.origin)).
      inl (subst (λ (ps : List Patch). IsIn patch ps) (sym (patches_in-runs server.made.origin.entries) ∙ (λ j. patches_in (one_found image number limits (runs_in server.made.origin) start is.opened found j))) i))
      (λ (b : WasBrought server patch). inr (server, inl refl, b)) which

  of_left : (image : List ℕ) (server : ServerRun D) (is : IsServerRun disks number limits image server) (patch : Patch) → IsIn patch (patches_in (run_leaves disks tells number limits image server is).left) → IsIn patch (chain_of server.made.origin) ⊎ WasBrought server patch
  of_left image server is patch i =
      let left = run_leaves disks tells number limits image server is in
      let brings = run_brings disks tells number limits image server is patch in
      let whole = patches_in-runs server.log.entries in
      ⊎_elim (λ (e : left.left ≡ runs_in server.log). brings (subst (λ (ps : List Patch). IsIn patch ps) ((λ j. patches_in (e j)) ∙ whole) i))
      (λ (z : (run : List Patch) × (left.left ≡ runs_in server.log ++ run ∷ []) × MayStandBehind disks tells server run).
      let parts = (λ j. patches_in (z.1 j)) ∙ patches_in-push (runs_in server.log) z.0 in
      ⊎_elim (λ (j : IsIn patch (patches_in (runs_in server.log))). brings (subst (λ (ps : List Patch). IsIn patch ps) whole j))
      (λ (j : IsIn patch z.0). inr (behind_brought disks tells number limits image server is z.0 patch j z.2))
      (in_either (patches_in (runs_in server.log)) z.0 patch (subst (λ (ps : List Patch). IsIn patch ps) parts i))) left.which

  comes : (image : List ℕ) (start : List (List Patch)) (servers : List (ServerRun D)) (last : List (List Patch)) → IsFoundIn image number limits start → AreServerRuns disks number limits image servers
      → IsFoundIn (image_left image servers) number limits last → (patch : Patch) → IsIn patch (patches_in last) → Comes servers start patch
  comes image start [] last found are ends patch i = inl (subst (λ (rs : List (List Patch)). IsIn patch (patches_in rs)) (one_found image number limits last start ends found) i)
  comes image start (server ∷ more) last found are ends patch i =
      let left = run_leaves disks tells number limits image server are.0 in
      ⊎_elim (λ (j : IsIn patch (patches_in left.left)). of_run image start server more found are.0 patch (of_left image server are.0 patch j))
      (λ (z : (later : ServerRun D) × IsIn later more × WasBrought later patch). inr (z.0, inr z.1, z.2))
      (comes server.image left.left more last left.found are.1 ends patch i)

  -- ---- replies

  replied : (on : List ℕ) (server : ServerRun D) (last : List (List Patch)) (pass : PassRun) (seen : SeenCall) → IsServerRun disks number limits on server → GrowsTo (runs_in server.log) last → IsIn pass server.passes → IsIn seen pass.calls → IsGiven limits last seen
  replied on server last pass seen is grows i j =
      let called = all_in (HasCalled disks server.made) server.passes pass is.called i in
      let call = one_call disks server.made.origin called.given called.behind pass.calls seen called.calls j in
      let has : HasSeen (shared_log disks) server.log pass.at_stop = one_of_mapped (HasSeen (shared_log disks) server.log) (λ (p : PassRun). p.at_stop) server.passes pass is.at_stop.seen i in
      let known : IsPrefix (seen_of seen.after) (history_of server.log.entries) =
      prefix_trans (seen_of seen.after) (seen_of called.behind) (history_of server.log.entries) call.1
      (prefix_trans (seen_of called.behind) (seen_of pass.at_stop) (history_of server.log.entries) (amid_on called.behind pass.at_stop pass.in_call called.amid) has.0) in
      let front : GrowsTo (runs_known (seen_of seen.after)) (runs_in server.log) = runs_grow (seen_of seen.after) server.log.entries call.0.1 known in
      subst (λ (l : LogLimits). IsGiven l last seen) is.limits_is
      (given_on server.made.origin.limits (runs_known (seen_of seen.after)) last seen (grows_on (runs_known (seen_of seen.after)) (runs_in server.log) last front grows)
      (given disks server.made.origin seen.before seen.after seen.call seen.reply call.0.0))

  pub promise : (image : List ℕ) (servers : List (ServerRun D)) (last : List (List Patch)) → AreServerRuns disks number limits image servers → IsFoundIn (image_left image servers) number limits last → KeepsPromise number limits image servers last
  promise image servers last are ends = record {
    is_chain = ends.log.log.chain;
    runs_begin = λ server i. as_prefix (runs_in server.log) last (begins server last (one_server image servers last server are ends i));
    images_begin = λ server i left found. as_prefix left last ((one_server image servers last server are ends i).2 left found);
    replies = λ server i pass j seen k. let here = one_server image servers last server are ends i in replied here.0 server last pass seen here.1 (begins server last here) j k;
    brought = λ first found patch i. comes image first servers last found are ends patch i;
  }
