use Rattle.std.proofs.Common.{◌≡◌, List, length, sym, ap, ◌∙◌}
use Rattle.std.proofs.lemmas.List.{length-map}
use Rattle.chain_core.specs.declared.chain.Entry.{Entry}
use Rattle.chain_core.specs.Patches.{last_id, patch_of, patches_of}
use Rattle.chain_core.specs.Runs.{patches_in, runs_of}
use Rattle.chain_core.proofs.Runs.{patches_in-runs}
use Rattle.slot_checks.proofs.log_file.read_log_file.Goals as goal

-- the entries are counted, and they have the patches of the runs
count_is : (entries : List Entry) → length entries ≡ length (patches_in (runs_of entries))
count_is entries = sym (ap length (patches_in-runs entries) ∙ length-map entries patch_of)

pub returns-in-Ok-clause-ok : goal.returns-in-Ok-clause-ok
returns-in-Ok-clause-ok g c =
    let entries = c.in-Ok.log.entries in
    let count : c.version.result ≡ length (patches_in (runs_of entries)) = c.version.ensures.version ∙ ap length c.chain.ensures.entries ∙ count_is entries in
    let head = c.head.ensures ∙ ap (λ (es : List Entry). last_id (patches_of es)) c.chain-in-Ok.ensures.entries ∙ ap last_id (sym (patches_in-runs entries)) in
    λ told. record {
      runs = runs_of entries;
      holds = c.in-Ok.ensures.payloads told;
      log = c.in-Ok.ensures.log;
      line_is = cc;
    }
