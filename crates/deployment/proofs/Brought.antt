-- Where the patches of a run's chain come from.
use Rattle.std.proofs.Common.{◌≡◌, ◌⊎◌, inl, inr, ⊎_elim, ℕ, zero, suc, ◌+◌, ◌<◌, ◌≤◌, List, [], ◌∷◌, ◌++◌, length, Option, Some, None, refl, sym, ◌∙◌, ap, subst, arith}
use Rattle.std.specs.Prelude.{slice_get}
use Rattle.std.proofs.lemmas.List.{map-append}
use Rattle.disk_model.specs.declared.disk.Disk.{Ghosts}
use Rattle.log_base.specs.declared.limits.LogLimits.{LogLimits}
use Rattle.chain_core.specs.declared.chain.Patch.{Patch}
use Rattle.chain_core.specs.Patches.{patch_at}
use Rattle.chain_core.specs.Replies.{LogCall}
use Rattle.patch_log.specs.State.{chain_of}
use Rattle.turn_cell.specs.declared.view.Known.{Known}
use Rattle.turn_cell.specs.Turns.{IsIn, AllOf, places_by}
use Rattle.turn_cell.specs.Sights.{ComesFrom}
use Rattle.turn_cell.specs.Sharing.{HasSeen}
use Rattle.turn_cell.specs.Knowing.{pass_number, seen_of, mine_of, failed_of}
use Rattle.turn_cell.proofs.Ends.{all_in}
use Rattle.turn_cell.proofs.Members.{in_either, one_of_mapped, unmapped, all_got, in_none, got_behind, place_in}
use Rattle.shared_log.specs.declared.value.Placed.{Placed}
use Rattle.shared_log.specs.History.{LogSight, history_of, patches_known, shared_log}
use Rattle.shared_log.proofs.Histories.{known_chain}
use Rattle.world_core.proofs.Growing.{GrowsTo, still_at}
use Rattle.deployment.specs.Calls.{IsToAppend}
use Rattle.deployment.specs.History.{PassRun, Unanswered, ServerRun, HasCalled, IsUnderWay, Leaves, IsServerRun, sights_of}
use Rattle.deployment.specs.Promise.{IsHandedIn, WasBrought, acknowledged, in_doubt, unanswered}
use Rattle.deployment.proofs.Fronts.{patches_go_on}
use Rattle.deployment.proofs.Calling.{amid_on, WasTaken, WasFaulted, place_told, fault_told, StandsHandedIn, place_amid, fault_amid}
use Rattle.deployment.proofs.Left.{MayStandBehind}

-- ---- lists

-- an entry of a history that has this patch
in_history : (h : List (Known Placed)) (patch : Patch) → IsIn patch (patches_known h) → (k : ℕ) × (known : Known Placed) × (slice_get h k ≡ Some known) × (patch ≡ known.content.patch)
in_history [] patch i = absurd i
in_history (first ∷ h) patch i = ⊎_elim (λ (e : patch ≡ first.content.patch). (zero, first, refl, e))
    (λ (j : IsIn patch (patches_known h)). let there = in_history h patch j in (suc there.0, there.1, there.2, there.3)) i

got_patch : (h : List (Known Placed)) (k : ℕ) (known : Known Placed) → slice_get h k ≡ Some known → slice_get (patches_known h) k ≡ Some known.content.patch
got_patch [] k known is = absurd (cc)
got_patch (first ∷ h) zero known is = let same : first ≡ known = cc in ap (λ (x : Known Placed). Some x.content.patch) same
got_patch (first ∷ h) (suc k) known is = got_patch h k known is

-- ---- a run of the server

module _ {D : Type 0} (disks : Ghosts D) (tells : disks.tells) (number : ℕ) (limits : LogLimits) (on : List ℕ) (server : ServerRun D) (is : IsServerRun disks number limits on server) where
  abbrev Before : List (Known Placed)
  Before = history_of server.made.origin.entries

  abbrev Now : List (Known Placed)
  Now = history_of server.log.entries

  called : (pass : PassRun) → IsIn pass server.passes → HasCalled disks server.made pass
  called pass i = all_in (HasCalled disks server.made) server.passes pass is.called i

  -- what stands at a place of a pass's own is what a call of it handed in
  of_place : (pass : PassRun) → IsIn pass server.passes → (place : ℕ) (patch : Patch) → IsIn place (mine_of pass.at_stop) → patch_at (chain_of server.log) place ≡ Some patch → WasBrought server patch
  of_place pass i place patch mine at =
      let by = called pass i in
      let seen : HasSeen (shared_log disks) server.log pass.at_stop = one_of_mapped (HasSeen (shared_log disks) server.log) (λ (p : PassRun). p.at_stop) server.passes pass is.at_stop.seen i in
      let grows : GrowsTo (patches_known (seen_of pass.at_stop)) (chain_of server.log) = subst (λ (x : List Patch). GrowsTo (patches_known (seen_of pass.at_stop)) x) (known_chain server.log.entries) (patches_go_on (seen_of pass.at_stop) (history_of server.log.entries) seen.0) in
      let same : (other : Patch) → patch_at (patches_known (seen_of pass.at_stop)) place ≡ Some other → other ≡ patch =
      λ other is_at. some_is other patch (sym (still_at (patches_known (seen_of pass.at_stop)) (chain_of server.log) place other grows is_at) ∙ at) in
      let before = patches_go_on (seen_of by.behind) (seen_of pass.at_stop) (amid_on by.behind pass.at_stop pass.in_call by.amid) in
      ⊎_elim (λ (j : IsIn place (mine_of by.behind)). ⊎_elim
      (λ (k : IsIn place (mine_of by.given)). absurd (in_none place (mine_of by.given) by.is_given.3 k))
      (λ (was : WasTaken pass.calls by.behind place).
      let one : was.patch ≡ patch = same was.patch (still_at (patches_known (seen_of by.behind)) (patches_known (seen_of pass.at_stop)) place was.patch before was.stands) in
      acknowledged pass i was.seen was.of_calls (subst (IsHandedIn was.seen.call) one was.handed_in) was.told)
      (place_told disks server.made.origin by.given by.behind pass.calls place by.calls j))
      (λ (z : (call : LogCall) × (pass.in_call ≡ Some call) × StandsHandedIn call pass.at_stop place).
      let there = z.2 in
      let one : there.0 ≡ patch = same there.0 there.2 in
      unanswered pass i z.0 z.1 (subst (IsHandedIn z.0) one there.1)) (place_amid by.behind pass.at_stop pass.in_call place by.amid mine)
    where
      some_is : (a b : Patch) → Some a ≡ Some b → a ≡ b
      some_is a b e = cc

  -- and so is each patch of a run that a pass left in doubt
  of_fault : (pass : PassRun) → IsIn pass server.passes → (run : List Patch) → IsIn run (failed_of pass.at_stop) → (patch : Patch) → IsIn patch run → WasBrought server patch
  of_fault pass i run failed patch in_run =
      let by = called pass i in
      ⊎_elim (λ (j : IsIn run (failed_of by.behind)). ⊎_elim
      (λ (k : IsIn run (failed_of by.given)). absurd (in_none run (failed_of by.given) by.is_given.6 k))
      (λ (was : WasFaulted pass.calls run). in_doubt pass i was.0 was.1 (run, was.2, in_run) was.3)
      (fault_told disks server.made.origin by.given by.behind pass.calls run by.calls j))
      (λ (z : (call : LogCall) × (pass.in_call ≡ Some call) × IsToAppend call run). unanswered pass i z.0 z.1 (run, z.2, in_run)) (fault_amid by.behind pass.at_stop pass.in_call run by.amid failed)

  -- an entry behind those that were found is of a pass
  later_brought : (later : List (Known Placed)) → Now ≡ Before ++ later → AllOf (λ (e : Known Placed). (0 < e.by) × (e.by ≤ server.made.seats)) later → (patch : Patch) → IsIn patch (patches_known later) → WasBrought server patch
  later_brought later same by patch i =
      let there = in_history later patch i in
      let k = length Before + there.0 in
      let got : slice_get Now k ≡ Some there.1 = ap (λ (h : List (Known Placed)). slice_get h k) same ∙ got_behind Before later there.0 there.1 there.2 in
      let of = all_got (λ (e : Known Placed). (0 < e.by) × (e.by ≤ server.made.seats)) later there.0 there.1 by there.2 in
      let who = is.all_there there.1.by of.0 of.1 in
      let pass = unmapped (λ (p : PassRun). p.at_stop) server.passes who.0 who.1 in
      let seen : HasSeen (shared_log disks) server.log pass.0.at_stop = one_of_mapped (HasSeen (shared_log disks) server.log) (λ (p : PassRun). p.at_stop) server.passes pass.0 is.at_stop.seen pass.1 in
      let named : there.1.by ≡ pass_number pass.0.at_stop = sym who.2 ∙ ap (λ (p : LogSight). p.view.number) pass.2 in
      let at : IsIn (suc k) (places_by (pass_number pass.0.at_stop) Now) = place_in 1 (pass_number pass.0.at_stop) Now k there.1 (suc k) got named (omega arith) in
      of_place pass.0 pass.1 (suc k) patch (subst (IsIn (suc k)) seen.1 at)
      (ap (λ (ps : List Patch). slice_get ps k) (sym (known_chain server.log.entries)) ∙ got_patch Now k there.1 got ∙ ap (λ (p : Patch). Some p) (sym there.3))

  pub run_brings : (patch : Patch) → IsIn patch (chain_of server.log) → IsIn patch (chain_of server.made.origin) ⊎ WasBrought server patch
  run_brings patch i =
      let history = is.at_stop.history in
      let parts : patches_known Now ≡ patches_known Before ++ patches_known history.0 = ap patches_known history.1 ∙ map-append (λ (known : Known Placed). known.content.patch) Before history.0 in
      let here : IsIn patch (patches_known Before ++ patches_known history.0) = subst (λ (ps : List Patch). IsIn patch ps) (sym (known_chain server.log.entries) ∙ parts) i in
      ⊎_elim (λ (j : IsIn patch (patches_known Before)). inl (subst (λ (ps : List Patch). IsIn patch ps) (known_chain server.made.origin.entries) j))
      (λ (j : IsIn patch (patches_known history.0)). inr (later_brought history.0 history.1 history.2 patch j)) (in_either (patches_known Before) (patches_known history.0) patch here)

  of_pass : (run : List Patch) (patch : Patch) → IsIn patch run → (first : Option (List Patch)) → first ≡ None → ComesFrom first (sights_of server) (Some run) → WasBrought server patch
  of_pass run patch i first none comes = ⊎_elim (λ (e : first ≡ Some run). absurd (cc))
      (λ (z : (p : LogSight) × IsIn p (sights_of server) × IsIn run p.view.failed).
      let pass = unmapped (λ (p : PassRun). p.at_stop) server.passes z.0 z.1 in
      of_fault pass.0 pass.1 run (subst (λ (p : LogSight). IsIn run p.view.failed) pass.2 z.2) patch i) comes

  of_append : (under_way : Option (Unanswered D)) (append : Unanswered D) (image : List ℕ) → under_way ≡ Some append → Leaves disks server.passes server.log under_way image → IsUnderWay disks server.passes server.log append
  of_append None append image same left = absurd (cc)
  of_append (Some other) append image same left = let one : other ≡ append = cc in subst (IsUnderWay disks server.passes server.log) one left.0

  -- and so is each patch of a run that may stand behind the chain
  pub behind_brought : (run : List Patch) (patch : Patch) → IsIn patch run → MayStandBehind disks tells server run → WasBrought server patch
  behind_brought run patch i may = ⊎_elim
      (λ (e : server.log.doubt ≡ Some run). of_pass run patch i server.made.origin.doubt is.settled
      (subst (λ (d : Option (List Patch)). ComesFrom server.made.origin.doubt (sights_of server) d) e is.at_stop.doubt))
      (λ (z : (append : Unanswered D) × (server.under_way ≡ Some append) × (append.run ≡ run)).
      let way = of_append server.under_way z.0 server.image z.1 is.leaves in
      unanswered z.0.pass way.of_pass way.call way.in_call (z.0.run, way.is_to, subst (λ (r : List Patch). IsIn patch r) (sym z.2) i)) may
