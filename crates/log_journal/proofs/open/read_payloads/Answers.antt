use Rattle.std.proofs.Common.{◌≡◌, ◌+◌, ◌++◌, [], ◌∷◌, Err, List, ℕ, length, refl, ◌∙◌, ap, subst, arith, length-append}
use Rattle.std.proofs.lemmas.Result.{err_from_is_err_and}
use Rattle.disk_model.specs.Past.{reads}
use Rattle.log_journal.specs.File.{head_size}
use Rattle.log_journal.specs.Reading.{HasByte, HasPayload, ReadsPayload}
use Rattle.log_journal.specs.declared.fault.JournalFault.{JournalFault}
use Rattle.log_journal.proofs.Frames.{length_more}
use Rattle.log_journal.proofs.Loop.{none_read, none_few, one_more_of, gate_fault, payload_missing}
use Rattle.log_journal.proofs.open.read_payloads.Goals as goal

pub returns-in_err-payload-clause-found : goal.returns-in_err-payload-clause-found
returns-in_err-payload-clause-found g c told =
    let file = reads (g.D.Disk.past c.args.disk.now) in
    let fault = c.in_err-payload.field-0.0 in
    let found : ReadsPayload c.args.form file c.loop-gate.place c.loop-gate.count (Err fault) = subst (λ p. ReadsPayload c.args.form (reads p) c.loop-gate.place c.loop-gate.count (Err fault)) c.loop-gate.invariant.past (c.in_err-payload.ensures.found told) in
    let counted = subst (λ (n : ℕ). ReadsPayload c.args.form file c.loop-gate.place n (Err fault)) c.loop-gate.invariant.counted found in
    let p = err_from_is_err_and c.from_residual-in_err-payload.result c.from_residual-in_err-payload.ensures.1 in
    rw (p.1 ∙ ap (λ (e : JournalFault). Err e) p.2) (payload_missing c.args.form file c.args.number c.loop-gate.place c.loop-gate.invariant.payloads fault (c.loop-gate.invariant.read told) counted)

pub returns-in_err-gate-clause-found : goal.returns-in_err-gate-clause-found
returns-in_err-gate-clause-found g c told =
    let file = reads (g.D.Disk.past c.args.disk.now) in
    let fault = c.in_err-gate.field-0.0 in
    let p = err_from_is_err_and c.from_residual.result c.from_residual.ensures.1 in
    rw (p.1 ∙ ap (λ (e : JournalFault). Err e) p.2) (gate_fault c.args.form file c.args.number fault (c.requires.begins told) (c.in_err-gate.ensures.missing told))

pub loop-gate-init : goal.loop-gate-init
loop-gate-init g c =
    let file = reads (g.D.Disk.past c.args.disk.now) in
    record {
      past = c.read_gate.ensures.past;
      payloads = [];
      received = c.requires.received;
      read = λ told. none_read c.args.form file c.args.number (c.requires.begins told);
      stands = λ told. c.in_ok-gate.ensures.found told;
      counted = refl;
      numbered = none_few c.args.form;
      counts = c.in_ok-gate.ensures.went.well (λ no. cc);
      planned = λ plans. (c.in_ok-gate.ensures.planned plans).1 (λ no. cc);
      behind = omega arith;
      within = c.in_ok-gate.ensures.within;
      length_is = refl {a = 9};
      few = λ told. omega (arith, c.in_ok-gate.ensures.few told);
      mark = c.read_gate.ensures.went.mark;
    }

pub loop-gate-preserved : goal.loop-gate-preserved
loop-gate-preserved g c =
    let file = reads (g.D.Disk.past c.args.disk.now) in
    let payload = c.in_ok-payload.payload.items in
    let place = c.loop-gate.place in
    let form = c.args.form in
    let size : c.len.result ≡ length payload = c.len.ensures ∙ c.in_ok-payload.payload.ok.0 in
    let h : c.head_length.result ≡ head_size form = c.head_length.ensures in
    let before = c.loop-gate.invariant.payloads in
    let payloads : List (List ℕ) = before ++ payload ∷ [] in
    let next : place + (1 + c.head_length.result + c.len.result) ≡ place + (1 + head_size form + c.len.result) = omega (arith, h) in
    record {
      past = c.read_payload.ensures.past ∙ c.loop-gate.invariant.past;
      payloads = payloads;
      received = subst (λ (p : List ℕ). g.R.Receiver.received c.args.receiver.now (before ++ p ∷ []) c.receive.new.self) c.from_vec.ensures (c.in_ok-receive.ensures c.args.receiver.now before c.loop-gate.invariant.received);
      read = λ told.
          let found = subst (λ p. HasPayload form (reads p) place c.loop-gate.count payload) c.loop-gate.invariant.past (c.in_ok-payload.ensures.found told).0 in
          rw next (one_more_of form file c.args.number place c.len.result c.loop-gate.count before payload (c.loop-gate.invariant.read told) c.loop-gate.invariant.counted found size);
      stands = λ told.
          let found : HasByte file (place + 1 + head_size form + length payload) c.in_ok-payload.next = subst (λ p. HasByte (reads p) (place + 1 + head_size form + length payload) c.in_ok-payload.next) c.loop-gate.invariant.past (c.in_ok-payload.ensures.found told).1 in
          subst (λ (n : ℕ). HasByte file n c.in_ok-payload.next) (omega (arith, size, h)) found;
      counted = omega (arith, c.loop-gate.invariant.counted, length-append before (payload ∷ []));
      numbered = c.in_ok-payload.ensures.numbered;
      counts = c.in_ok-payload.ensures.went.well (λ no. cc) ∙ c.loop-gate.invariant.counts;
      planned = λ plans. (c.in_ok-payload.ensures.planned plans).1 (λ no. cc) ∙ c.loop-gate.invariant.planned plans;
      behind = omega (arith, c.loop-gate.invariant.behind);
      within = omega (arith, c.in_ok-payload.ensures.within, size, h);
      length_is = rw next (length_more form place c.len.result before payloads payload c.loop-gate.invariant.length_is refl size);
      few = λ told. omega (arith, c.in_ok-payload.ensures.few told, c.loop-gate.invariant.few told, size, h);
      mark = c.read_payload.ensures.went.mark ∙ c.loop-gate.invariant.mark;
    }
