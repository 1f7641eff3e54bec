use Rattle.std.proofs.Common.{◌≡◌, ◌≤◌, List, refl, ⊎_elim, inr, Err, sym, ◌∙◌, ap, subst, arith}
use Rattle.disk_model.specs.Past.{reads}
use Rattle.log_base.specs.Journals.{payloads_length}
use Rattle.chain_core.specs.declared.chain.Entry.{Entry}
use Rattle.chain_core.specs.Chain.{IsBoundedChain}
use Rattle.chain_core.specs.Patches.{patches_of, journal_length}
use Rattle.patch_log.specs.declared.fault.LogFault.{LogFault}
use Rattle.patch_log.specs.Fault.{HasLogFault}
use Rattle.patch_log.proofs.Openings.{chained, chained_runs, found_log, opened_kept}
use Rattle.patch_log.proofs.state.LogState.open_on.Goals as goal

pub returns-in-Err-read_log-clause-fault : goal.returns-in-Err-read_log-clause-fault
returns-in-Err-read_log-clause-fault g c told =
    let file = reads (g.D.Disk.past c.args.disk) in
    let limits = c.args.limits in
    let payloads = c.in-Ok.opened.1.items in
    let fits : payloads_length payloads ≤ limits.bytes = omega (arith, c.in-Ok.ensures.length, c.in-Ok.ensures.within) in
    ⊎_elim
    (λ broken. subst (λ (fault : LogFault). HasLogFault file c.args.number limits fault) (sym broken.1) (
      payloads,
      c.in-Ok.ensures.payloads told,
      fits,
      c.read_log.ensures.broken broken.0 (c.in-Err-read_log.is ∙ ap (λ (fault : LogFault). Err fault) broken.1),
    ))
    (λ want. subst (λ (fault : LogFault). HasLogFault file c.args.number limits fault) (sym want) tt)
    c.in-Err-read_log.ensures.faults

-- the length of a journal in which each patch had a payload of its own
pub returns-then-length-limits-clause-fault : goal.returns-then-length-limits-clause-fault
returns-then-length-limits-clause-fault g c told =
    let payloads = c.in-Ok.opened.1.items in
    let entries = c.in-Ok-read_log.chain.items in
    let found = c.in-Ok-read_log.ensures.ok in
    let same : c.chain-3.result.now.items ≡ entries = c.chain-3.ensures in
    inr (record {
      payloads = payloads;
      holds = c.in-Ok.ensures.payloads told;
      fits = omega (arith, c.in-Ok.ensures.length, c.in-Ok.ensures.within);
      chained = chained payloads c.args.limits.patches entries found;
      have_is = c.journal_length-length.ensures.length ∙ ap (λ (es : List Entry). journal_length (patches_of es)) same ∙ ap journal_length (sym (chained_runs payloads c.args.limits.patches entries found));
      limit_is = refl;
      passes = c.if-length-limits.true;
    })

pub invariant_of-result : goal.invariant_of-result
invariant_of-result g c =
    let opened = c.in-Ok.opened in
    let entries = c.in-Ok-read_log.chain.items in
    let kept = subst IsBoundedChain c.chain-2.ensures c.version-version.ensures.kept in
    let length_is = c.journal_length-length.ensures.length ∙ ap (λ (es : List Entry). journal_length (patches_of es)) c.chain-3.ensures in
    let log = found_log opened.1.items c.args.limits entries c.in-Ok-read_log.ensures.ok kept (omega (arith, length_is, c.if-length-limits.false)) in
    opened_kept opened.0 c.args.number c.args.limits opened.1.items entries c.in-Ok.ensures.stands c.in-Ok.ensures.length c.in-Ok.ensures.limit c.read_log.ensures.countable c.in-Ok-read_log.ensures.ok log

pub returns-clause-log : goal.returns-clause-log
returns-clause-log g c =
    let opened = c.in-Ok.opened in
    let entries = c.in-Ok-read_log.chain.items in
    let kept = subst IsBoundedChain c.chain-2.ensures c.version-version.ensures.kept in
    let length_is = c.journal_length-length.ensures.length ∙ ap (λ (es : List Entry). journal_length (patches_of es)) c.chain-3.ensures in
    found_log opened.1.items c.args.limits entries c.in-Ok-read_log.ensures.ok kept (omega (arith, length_is, c.if-length-limits.false))
