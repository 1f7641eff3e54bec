use Rattle.std.proofs.Common.{ℕ, ◌+◌, List, drop, refl, sym, ap, subst, ◌∙◌}
use Rattle.std.specs.List.{slice_range}
use Rattle.std.proofs.lemmas.Result.{on_ok_weaker}
use Rattle.patch_meaning.proofs.Cuts.{if_err}
use Rattle.row_scan.specs.declared.row.Says.{Says}
use Rattle.row_scan.specs.Rows.{IsSaid}
use Rattle.stream_replay.proofs.Streams.{awaits_found, front_there, row_found}
use Rattle.stream_replay.proofs.stream.Streaming.take_found.Goals as goal

pub returns-in-Quad-clause-ok : goal.returns-in-Quad-clause-ok
returns-in-Quad-clause-ok c = λ end h.
    let s = c.args.self.now in let w = s.window in let place = c.args.place in let found = c.args.found in
    let there = subst (λ (x : Says). IsSaid (drop place w.fed) 0 found.end x) c.in-Quad.is c.requires.found in
    c.in_ok-take_quad.ensures.ok end w.fed (place + found.end) there.0
    (ap (λ (l : List ℕ). slice_range l c.in-Quad.line (found.end + 1)) (c.row_front.ensures ∙ front_there w place c.requires.front) ∙ there.1.bytes)
    (awaits_found w s.progress place found.end _ _ c.requires.begins there.1.row refl end h)

pub returns-in-Some : goal.returns-in-Some
returns-in-Some c =
    let s = c.args.self.now in let w = s.window in let place = c.args.place in let found = c.args.found in
    let row = row_found (drop place w.fed) 0 found.end found.says c.in-Some.says c.requires.found (sym c.found_role.ensures ∙ c.in-Some.is) in
    let taken = c.take-taken.ensures in
    record {
      ok = on_ok_weaker c.take-taken.result (λ ok end h. ok end (place + found.end) (awaits_found w s.progress place found.end row.0 _ c.requires.begins row.1 row.2 end h)) taken.ok;
      fault = if_err c.take-taken.result _ _ taken.fault (λ told fault end h. fault end (place + found.end) (awaits_found w s.progress place found.end row.0 _ c.requires.begins row.1 row.2 end h));
      version = taken.version;
      window = taken.window;
      same = taken.same;
    }
