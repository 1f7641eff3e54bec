use Rattle.std.proofs.Common.{◌≡◌, ℕ, ◌-◌, List, length, take, drop, ap, subst, sym, ◌∙◌, arith}
use Rattle.std.proofs.lemmas.List.{length-drop}
use Rattle.std.proofs.lemmas.Result.{err_from_is_err_and}
use Rattle.patch_algebra.specs.Patches.{RefusesNet, net_patch_of}
use Rattle.patch_meaning.specs.Checked.{meanings}
use Rattle.rdf_terms.specs.Dataset.{Dataset}
use Rattle.stream_squash.specs.Pieces.{ArePieces}
use Rattle.stream_squash.specs.Squashes.{joined}
use Rattle.stream_squash.proofs.InPlace.{all_there, cut_chain, net_refuses}
use Rattle.stream_squash.proofs.squashing.squash_run.Goals as goal

pub total-requires : goal.total-requires
total-requires c =
    let r = c.requires in
    let text = c.args.text.now in
    let ps = r.chained.0 in
    let cut = cut_chain c.args.from c.args.to ps text c.args.lengths.now r.chained.1 r.chained.2 r.first r.order r.enough c.split_at.result.0.now c.split_at-2.result.0.now c.split_at-2.result.1.now c.split_at.ensures.front c.split_at-2.ensures.front c.split_at-2.ensures.back in
    omega (arith, cut.front_size, cut.front_within, r.room)

pub split_at-requires-3 : goal.split_at-requires-3
split_at-requires-3 c =
    let r = c.requires in
    let text = c.args.text.now in
    let ps = r.chained.0 in
    let cut = cut_chain c.args.from c.args.to ps text c.args.lengths.now r.chained.1 r.chained.2 r.first r.order r.enough c.split_at.result.0.now c.split_at-2.result.0.now c.split_at-2.result.1.now c.split_at.ensures.front c.split_at-2.ensures.front c.split_at-2.ensures.back in
    let before = take (c.args.from - 1) ps in
    let front_size : c.total.result ≡ length (joined before) = c.total.ensures ∙ cut.front_size in
    omega (arith, front_size, cut.front_within)

pub total-requires-2 : goal.total-requires-2
total-requires-2 c =
    let r = c.requires in
    let text = c.args.text.now in
    let ps = r.chained.0 in
    let cut = cut_chain c.args.from c.args.to ps text c.args.lengths.now r.chained.1 r.chained.2 r.first r.order r.enough c.split_at.result.0.now c.split_at-2.result.0.now c.split_at-2.result.1.now c.split_at.ensures.front c.split_at-2.ensures.front c.split_at-2.ensures.back in
    let before = take (c.args.from - 1) ps in
    let front_size : c.total.result ≡ length (joined before) = c.total.ensures ∙ cut.front_size in
    omega (arith, cut.run_size, cut.run_within, length-drop (length (joined before)) text, r.room)

pub split_at-requires-4 : goal.split_at-requires-4
split_at-requires-4 c =
    let r = c.requires in
    let text = c.args.text.now in
    let ps = r.chained.0 in
    let cut = cut_chain c.args.from c.args.to ps text c.args.lengths.now r.chained.1 r.chained.2 r.first r.order r.enough c.split_at.result.0.now c.split_at-2.result.0.now c.split_at-2.result.1.now c.split_at.ensures.front c.split_at-2.ensures.front c.split_at-2.ensures.back in
    let before = take (c.args.from - 1) ps in
    let front_size : c.total.result ≡ length (joined before) = c.total.ensures ∙ cut.front_size in
    let rest : c.split_at-3.result.1.now ≡ drop (length (joined before)) text = c.split_at-3.ensures.back ∙ ap (λ (n : ℕ). drop n text) front_size in
    let front : c.split_at-3.result.0.now ≡ take (length (joined before)) text = c.split_at-3.ensures.front ∙ ap (λ (n : ℕ). take n text) front_size in
    let run = drop (c.args.from - 1) (take c.args.to ps) in
    let run_size : c.total-2.result ≡ length (joined run) = c.total-2.ensures ∙ cut.run_size in
    omega (arith, run_size, cut.run_within, ap length rest)

pub replayed-requires : goal.replayed-requires
replayed-requires c =
    let r = c.requires in
    let text = c.args.text.now in
    let ps = r.chained.0 in
    let cut = cut_chain c.args.from c.args.to ps text c.args.lengths.now r.chained.1 r.chained.2 r.first r.order r.enough c.split_at.result.0.now c.split_at-2.result.0.now c.split_at-2.result.1.now c.split_at.ensures.front c.split_at-2.ensures.front c.split_at-2.ensures.back in
    let before = take (c.args.from - 1) ps in
    let front_size : c.total.result ≡ length (joined before) = c.total.ensures ∙ cut.front_size in
    let rest : c.split_at-3.result.1.now ≡ drop (length (joined before)) text = c.split_at-3.ensures.back ∙ ap (λ (n : ℕ). drop n text) front_size in
    let front : c.split_at-3.result.0.now ≡ take (length (joined before)) text = c.split_at-3.ensures.front ∙ ap (λ (n : ℕ). take n text) front_size in
    (before, subst (λ (t : List ℕ). ArePieces before t c.split_at-2.result.0.now) (sym front) cut.front)

pub net_of-requires-clause-pieces : goal.net_of-requires-clause-pieces
net_of-requires-clause-pieces c =
    let r = c.requires in
    let text = c.args.text.now in
    let ps = r.chained.0 in
    let cut = cut_chain c.args.from c.args.to ps text c.args.lengths.now r.chained.1 r.chained.2 r.first r.order r.enough c.split_at.result.0.now c.split_at-2.result.0.now c.split_at-2.result.1.now c.split_at.ensures.front c.split_at-2.ensures.front c.split_at-2.ensures.back in
    let before = take (c.args.from - 1) ps in
    let front_size : c.total.result ≡ length (joined before) = c.total.ensures ∙ cut.front_size in
    let rest : c.split_at-3.result.1.now ≡ drop (length (joined before)) text = c.split_at-3.ensures.back ∙ ap (λ (n : ℕ). drop n text) front_size in
    let front : c.split_at-3.result.0.now ≡ take (length (joined before)) text = c.split_at-3.ensures.front ∙ ap (λ (n : ℕ). take n text) front_size in
    let run = drop (c.args.from - 1) (take c.args.to ps) in
    let run_size : c.total-2.result ≡ length (joined run) = c.total-2.ensures ∙ cut.run_size in
    let pieces = subst (λ (t : List ℕ). ArePieces before t c.split_at-2.result.0.now) (sym front) cut.front in
    let texts : c.split_at-4.result.0.now ≡ take (length (joined run)) (drop (length (joined before)) text) = c.split_at-4.ensures.front ∙ ap (λ (n : ℕ). take n c.split_at-3.result.1.now) run_size ∙ ap (take (length (joined run))) rest in
    let run_pieces = subst (λ (t : List ℕ). ArePieces run t c.split_at-2.result.1.now) (sym texts) cut.run_ in
    (run, run_pieces)

pub returns-in_err-net-clause-fault : goal.returns-in_err-net-clause-fault
returns-in_err-net-clause-fault c =
    let p = err_from_is_err_and c.from_residual-in_err-net.result c.from_residual-in_err-net.ensures.1 in
    let r = c.requires in
    let text = c.args.text.now in
    let ps = r.chained.0 in
    let cut = cut_chain c.args.from c.args.to ps text c.args.lengths.now r.chained.1 r.chained.2 r.first r.order r.enough c.split_at.result.0.now c.split_at-2.result.0.now c.split_at-2.result.1.now c.split_at.ensures.front c.split_at-2.ensures.front c.split_at-2.ensures.back in
    let before = take (c.args.from - 1) ps in
    let front_size : c.total.result ≡ length (joined before) = c.total.ensures ∙ cut.front_size in
    let rest : c.split_at-3.result.1.now ≡ drop (length (joined before)) text = c.split_at-3.ensures.back ∙ ap (λ (n : ℕ). drop n text) front_size in
    let front : c.split_at-3.result.0.now ≡ take (length (joined before)) text = c.split_at-3.ensures.front ∙ ap (λ (n : ℕ). take n text) front_size in
    let run = drop (c.args.from - 1) (take c.args.to ps) in
    let run_size : c.total-2.result ≡ length (joined run) = c.total-2.ensures ∙ cut.run_size in
    let pieces = subst (λ (t : List ℕ). ArePieces before t c.split_at-2.result.0.now) (sym front) cut.front in
    let texts : c.split_at-4.result.0.now ≡ take (length (joined run)) (drop (length (joined before)) text) = c.split_at-4.ensures.front ∙ ap (λ (n : ℕ). take n c.split_at-3.result.1.now) run_size ∙ ap (take (length (joined run))) rest in
    let run_pieces = subst (λ (t : List ℕ). ArePieces run t c.split_at-2.result.1.now) (sym texts) cut.run_ in
    let fault = c.in_err-net.field-0.0 in
    let refused = subst (λ (d : Dataset). RefusesNet (net_patch_of d (meanings run)) fault) (c.in_ok-base.ensures.contents before pieces) (c.in_err-net.ensures.fault run run_pieces) in
    rw (p.1, p.2) (net_refuses c.args.from c.args.to ps text c.args.lengths.now r.chained.1 r.chained.2 r.first r.order r.enough fault refused)

pub returns-clause-squashed : goal.returns-clause-squashed
returns-clause-squashed c =
    let r = c.requires in
    let text = c.args.text.now in
    let ps = r.chained.0 in
    let cut = cut_chain c.args.from c.args.to ps text c.args.lengths.now r.chained.1 r.chained.2 r.first r.order r.enough c.split_at.result.0.now c.split_at-2.result.0.now c.split_at-2.result.1.now c.split_at.ensures.front c.split_at-2.ensures.front c.split_at-2.ensures.back in
    let before = take (c.args.from - 1) ps in
    let front_size : c.total.result ≡ length (joined before) = c.total.ensures ∙ cut.front_size in
    let rest : c.split_at-3.result.1.now ≡ drop (length (joined before)) text = c.split_at-3.ensures.back ∙ ap (λ (n : ℕ). drop n text) front_size in
    let front : c.split_at-3.result.0.now ≡ take (length (joined before)) text = c.split_at-3.ensures.front ∙ ap (λ (n : ℕ). take n text) front_size in
    let run = drop (c.args.from - 1) (take c.args.to ps) in
    let run_size : c.total-2.result ≡ length (joined run) = c.total-2.ensures ∙ cut.run_size in
    let pieces = subst (λ (t : List ℕ). ArePieces before t c.split_at-2.result.0.now) (sym front) cut.front in
    let texts : c.split_at-4.result.0.now ≡ take (length (joined run)) (drop (length (joined before)) text) = c.split_at-4.ensures.front ∙ ap (λ (n : ℕ). take n c.split_at-3.result.1.now) run_size ∙ ap (take (length (joined run))) rest in
    let run_pieces = subst (λ (t : List ℕ). ArePieces run t c.split_at-2.result.1.now) (sym texts) cut.run_ in
    let is = c.in_ok-net.ensures.net run run_pieces ∙ ap (λ (d : Dataset). net_patch_of d (meanings run)) (c.in_ok-base.ensures.contents before pieces) in
    let behind = c.split_at-4.ensures.back ∙ ap (λ (n : ℕ). drop n c.split_at-3.result.1.now) run_size ∙ ap (drop (length (joined run))) rest ∙ cut.behind_is in
    all_there c.args.from c.args.to ps text c.args.lengths.now r.chained.1 r.chained.2 r.first r.order r.enough c.in_ok-net.net c.split_at-3.result.0.now c.split_at-4.result.1.now is c.text.ensures.is_patch (front ∙ cut.front.text_is) behind
