use Rattle.std.proofs.Common.{◌≡◌, ℕ, ◌+◌, ◌-◌, ◌^◌, ◌<◌, cond, List, [], ◌∷◌, ◌++◌, length, take, refl, sym, ◌∙◌, ap, arith}
use Rattle.std.specs.Prelude.{◌==◌}
use Rattle.std.specs.Int.{w32, to_be_bytes}
use Rattle.std.proofs.lemmas.List.{length-take-le}
use Rattle.log_journal.specs.File.{head}
use Rattle.log_journal.specs.declared.form.Form.TheVariants.{New}
use Rattle.std.proofs.lemmas.List.Elements.{All-get_or}
use Rattle.std.proofs.lemmas.List.Sums.{sum_by-append}
use Rattle.disk_model.specs.Past.{reads, wrote, overwritten}
use Rattle.log_journal.specs.Filling.{behind_gate}
use Rattle.log_journal.proofs.Numbered.{none_behind}
use Rattle.log_journal.proofs.Fillings.{none_written, three_read, three_behind, one_written, length_behind, room_left, take_next, more_come}
use Rattle.log_journal.proofs.filling.write_bodies.Invariants.{so_far}
use Rattle.log_journal.proofs.filling.write_bodies.Goals as goal

pub loop-i-init : goal.loop-i-init
loop-i-init g c = record {
  behind = λ told. none_behind 9 (g.D.Disk.past c.args.disk.now);
  read = λ told. sym (none_written (reads (g.D.Disk.past c.args.disk.now)) 1);
  end_is = refl;
  faults = refl;
  planned = λ plans. refl;
  read_bytes = refl;
  mark = refl;
}

pub loop-i-preserved : goal.loop-i-preserved
loop-i-preserved g c =
    let ps = c.args.payloads.now in
    let i = c.loop-i.i in
    let p = c.index-payloads-i.result in
    let within : i < length ps = c.loop-i-test.true in
    let count : length (take i ps) ≡ i = length-take-le i ps (omega (arith, within)) in
    let now : so_far ps i ≡ behind_gate (take i ps) 1 = ap (behind_gate (take i ps)) (more_come i (length ps) within) in
    let gate : c.gate_behind.result ≡ cond (i + 1 == length ps) 0 1 = c.gate_behind.ensures in
    let next : behind_gate (take i ps ++ p ∷ []) c.gate_behind.result ≡ so_far ps (i + 1) = (λ k. behind_gate (sym (take_next ps i p within c.index-payloads-i.is) k) (gate k)) in
    let size : c.len.result ≡ length p = c.len.ensures in
    let numbers : c.head_of.result ≡ head New (length (take i ps)) (length p) = c.head_of.ensures ∙ ap (λ (n : ℕ). to_be_bytes w32 (n + 1) ++ to_be_bytes w32 (length p)) (sym count) in
    let end_is : c.loop-i.end ≡ 9 + length (behind_gate (take i ps) 1) = c.loop-i.invariant.end_is ∙ ap (λ (l : List ℕ). 9 + length l) now in
    record {
      behind = λ told. three_behind (g.D.Disk.past c.loop-i.disk) (g.D.Disk.past c.write_at.new.self) (g.D.Disk.past c.write_at-in-loop-i.new.self) (g.D.Disk.past c.write_at-in-loop-i-2.new.self) _ _ _ _ _ _ (c.in_ok-write_at.ensures.ok told) (c.in_ok-write_at-2.ensures.ok told) (c.in_ok-write_at-3.ensures.ok told) 9 (g.D.Disk.past c.args.disk.now) (omega (arith, end_is)) (omega (arith, end_is)) (omega (arith, end_is)) (c.loop-i.invariant.behind told);
      read = λ told.
          let file = reads (g.D.Disk.past c.args.disk.now) in
          let three = three_read (g.D.Disk.past c.loop-i.disk) (g.D.Disk.past c.write_at.new.self) (g.D.Disk.past c.write_at-in-loop-i.new.self) (g.D.Disk.past c.write_at-in-loop-i-2.new.self) _ _ _ _ _ _ (c.in_ok-write_at.ensures.ok told) (c.in_ok-write_at-2.ensures.ok told ∙ ap (λ (l : List ℕ). wrote (g.D.Disk.past c.write_at.new.self) (c.loop-i.end + 8) l) c.as_slice.ensures) (c.in_ok-write_at-3.ensures.ok told) in
          let start : reads (g.D.Disk.past c.loop-i.disk) ≡ overwritten file 9 (behind_gate (take i ps) 1) = c.loop-i.invariant.read told ∙ ap (overwritten file 9) now in
          let last = c.loop-i.end + (9 + c.len.result) - 1 in
          let last_is : last + 1 ≡ c.loop-i.end + (9 + length p) = omega (arith, size) in
          three
          ∙ ap (λ (f : List ℕ). overwritten (overwritten (overwritten f c.loop-i.end c.head_of.result) (c.loop-i.end + 8) p) last (c.gate_behind.result ∷ [])) start
          ∙ one_written file (take i ps) p c.head_of.result c.gate_behind.result c.loop-i.end (c.requires.begun told) numbers end_is last last_is
          ∙ ap (overwritten file 9) next;
      end_is = omega (arith, size, end_is, ap length next, length_behind (take i ps ++ p ∷ []) c.gate_behind.result, length_behind (take i ps) 1, sum_by-append (λ (q : List ℕ). 9 + length q) (take i ps) (p ∷ []));
      faults = (c.in_ok-write_at-3.ensures.faults.well refl) ∙ (c.in_ok-write_at-2.ensures.faults.well refl) ∙ (c.in_ok-write_at.ensures.faults.well refl) ∙ c.loop-i.invariant.faults;
      planned = λ plans. ((c.in_ok-write_at-3.ensures.planned plans).well refl).0 ∙ ((c.in_ok-write_at-2.ensures.planned plans).well refl).0 ∙ ((c.in_ok-write_at.ensures.planned plans).well refl).0 ∙ c.loop-i.invariant.planned plans;
      read_bytes = c.write_at-in-loop-i-2.ensures.read_bytes ∙ c.write_at-in-loop-i.ensures.read_bytes ∙ c.write_at.ensures.read_bytes ∙ c.loop-i.invariant.read_bytes;
      mark = c.write_at-in-loop-i-2.ensures.mark ∙ c.write_at-in-loop-i.ensures.mark ∙ c.write_at.ensures.mark ∙ c.loop-i.invariant.mark;
    }

pub overflow_add-end : goal.overflow_add-end
overflow_add-end g c =
    let ps = c.args.payloads.now in
    let within : c.loop-i.i < length ps = c.loop-i-test.true in
    omega (arith, c.loop-i.invariant.end_is, length_behind (take c.loop-i.i ps) (cond (c.loop-i.i == length ps) 0 1), room_left ps c.loop-i.i c.index-payloads-i.result within c.index-payloads-i.is, c.requires.fits)

pub overflow_add-end-in-loop-i-2 : goal.overflow_add-end-in-loop-i-2
overflow_add-end-in-loop-i-2 g c =
    let ps = c.args.payloads.now in
    let within : c.loop-i.i < length ps = c.loop-i-test.true in
    omega (arith, c.loop-i.invariant.end_is, length_behind (take c.loop-i.i ps) (cond (c.loop-i.i == length ps) 0 1), room_left ps c.loop-i.i c.index-payloads-i.result within c.index-payloads-i.is, c.requires.fits, c.len.ensures)

pub head_of-requires : goal.head_of-requires
head_of-requires g c = rw c.index-payloads-i.is (All-get_or (λ (q : List ℕ). length q < 2 ^ 32) c.args.payloads.now c.loop-i.i c.index-payloads-i.result c.loop-i-test.true c.requires.sized)

pub returns-clause-went : goal.returns-clause-went
returns-clause-went g c = record {
  cause = λ failed. cc;
  never_falls = omega (arith, c.loop-i.invariant.faults);
  well = λ other. c.loop-i.invariant.faults;
  stays_short = λ plans short. rw (c.loop-i.invariant.planned plans) short;
  mark = c.loop-i.invariant.mark;
}
