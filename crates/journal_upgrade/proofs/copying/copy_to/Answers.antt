use Rattle.std.proofs.Common.{◌≡◌, ◌<◌, ◌^◌, ◌++◌, [], List, ℕ, length, ◌∙◌, ap, sym, subst}
use Rattle.log_base.specs.Journals.{payloads_length}
use Rattle.log_journal.specs.File.{AreSized}
use Rattle.journal_upgrade.proofs.Lengths.{few, sized, fits}
use Rattle.journal_upgrade.proofs.copying.copy_to.Goals as goal

-- the payloads that were received are those of the file
received : (shown items first payloads : List (List ℕ)) → shown ≡ items → items ≡ first ++ payloads → first ≡ [] → shown ≡ payloads
received shown items first payloads is all none = is ∙ all ∙ ap (λ (l : List (List ℕ)). l ++ payloads) none

pub write_anew-requires-clause-few : goal.write_anew-requires-clause-few
write_anew-requires-clause-few g c =
    let got = c.in_ok-read_file.ensures.received in
    subst (λ (l : List (List ℕ)). length l < 2 ^ 32) (sym (received _ _ _ _ c.as_slice.ensures got.1 c.new-payloads.ensures)) (few c.in_ok-read_file.field-0 c.args.number got.0 got.2)

pub write_anew-requires-clause-sized : goal.write_anew-requires-clause-sized
write_anew-requires-clause-sized g c =
    let got = c.in_ok-read_file.ensures.received in
    subst AreSized (sym (received _ _ _ _ c.as_slice.ensures got.1 c.new-payloads.ensures)) (sized c.in_ok-read_file.field-0 c.args.number got.0 got.2)

pub write_anew-requires-clause-fits : goal.write_anew-requires-clause-fits
write_anew-requires-clause-fits g c =
    let got = c.in_ok-read_file.ensures.received in
    subst (λ (l : List (List ℕ)). payloads_length l < 2 ^ 64) (sym (received _ _ _ _ c.as_slice.ensures got.1 c.new-payloads.ensures)) (fits c.in_ok-read_file.field-0 c.args.number got.0 got.2)
