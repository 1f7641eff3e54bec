use Rattle.std.proofs.Common.{◌≡◌, ℕ, List, length, None, sym, ap, ◌∙◌, subst}
use Rattle.std.proofs.lemmas.List.{length-map}
use Rattle.http_text.proofs.NextLemmas.{no_end_before, no_fault_before, same_next}
use Rattle.rpc_answers.proofs.Readings.{one_answer}
use Rattle.zone_state.specs.Brief.{Brief, id_taken}
use Rattle.rpc_calls.specs.declared.call.Call.{Call}
use Rattle.delta_client.specs.Exchanges.{Exchanged, dial_view}
use Rattle.catch_up.specs.Runs.{said_in}
use Rattle.zone_state.specs.Zone.{ZoneView}
use Rattle.follower.specs.declared.ends.SyncEnd.{SyncEnd}
use Rattle.follower.specs.declared.ends.SyncEnd.TheVariants.{DiskFault}
use Rattle.follower.specs.Calls.{calls_of}
use Rattle.follower.specs.Footing.{DisksOf, ZoneWent}
use Rattle.follower.specs.Replicas.{IsSync}
use Rattle.follower.specs.Syncing.{EndIs}
use Rattle.follower.proofs.Fronts.{checked_both, checked_front, kept_more}
use Rattle.follower.proofs.Regained.{is_sync, run_of_zone}
use Rattle.follower.proofs.Serving.{ends_well}
use Rattle.follower.proofs.syncing.sync.Goals as goal

pub returns : goal.returns
returns g c =
    let told = λ (net : g.row.N.Denot). dial_view g.N.Dial net in
    let all = c.catch_up-end.ensures.run in
    let on = g.Z.Follower.footing in
    let old : ZoneView (DisksOf on) = g.Z.Follower.zone c.args.zone.now in
    let new : ZoneView (DisksOf on) = g.Z.Follower.zone c.catch_up-end.new.state in
    let so : IsSync on old all.0 c.catch_up-end.result new =
    is_sync on old new all.0 c.catch_up-end.result (run_of_zone on g.Z.Follower.zone c.args.zone.now c.catch_up-end.new.state all.0 c.catch_up-end.result all.1) in
    let end = c.sync_end.ensures in
    let ended : EndIs old new (said_in all.0) so.more c.sync_end.result = subst (λ (it : SyncEnd). EndIs old new (said_in all.0) so.more it) (sym end) so.ended in
    let asked : g.N.Dial.tells → Exchanged g.N.L.Link.left g.N.L.Link.sent c.args.address.now (calls_of c.args.name.now (length old.brief.ids) (said_in all.0)) (said_in all.0) None (told c.args.net.now) (told c.catch_up-end.new.net) =
    λ tells. subst (λ (calls : List Call). Exchanged g.N.L.Link.left g.N.L.Link.sent c.args.address.now calls (said_in all.0) None (told c.args.net.now) (told c.catch_up-end.new.net)) (so.calls c.args.name.now) (all.2 tells) in
    record {
      follows = (said_in all.0, so.more, so.grew, ended, asked);
      completes = λ tells taken rest was checked is_chain serves.
          let count : length old.brief.ids ≡ length taken = ap (λ (b : Brief). length b.ids) was ∙ length-map taken id_taken in
          ends_well g.N.L.Link.left g.N.L.Link.sent c.args.address.now c.args.name.now old new taken rest so.more (said_in all.0) (told c.args.net.now) (told c.catch_up-end.new.net) same_next no_end_before no_fault_before one_answer
          checked is_chain serves was (kept_more old.brief new.brief taken so.more was so.grew.brief) (checked_both taken so.more (checked_front taken rest checked) so.grew.checked)
          (subst (λ (n : ℕ). Exchanged g.N.L.Link.left g.N.L.Link.sent c.args.address.now (calls_of c.args.name.now n (said_in all.0)) (said_in all.0) None (told c.args.net.now) (told c.catch_up-end.new.net)) count (asked tells))
          c.sync_end.result ended;
      held = c.catch_up-end.ensures.held;
      link = λ is. c.catch_up-end.ensures.link (so.link (sym end ∙ is));
      never_falls = c.catch_up-end.ensures.never_falls;
      went = subst (λ (it : SyncEnd). ZoneWent on (it ≡ DiskFault) old.disk new.disk) (sym end) so.went;
      settled = λ was well. so.settled was (λ is. well (end ∙ is));
      limits = so.limits;
    }
