use Rattle.std.proofs.Common.{rules, ◌≡◌, ◌+◌, ◌-◌, ◌^◌, length, min, ◌∙◌, ap}
use Rattle.patch_algebra.proofs.Patches.{long_text, patch_is, text_is, without_ranks}
use Rattle.patch_algebra.proofs.writing.write_patch.Goals as goal

pub returns-then-length-gt-PATCH_LIMIT-clause-fault : goal.returns-then-length-gt-PATCH_LIMIT-clause-fault
returns-then-length-gt-PATCH_LIMIT-clause-fault c = λ changes e.
    let count : c.len.result ≡ length c.in_ok-text.text.items = search rules in
    let is : c.total_length-length.result ≡ min (length c.in_ok-text.text.items + 5 + length (without_ranks c.args.rows.now.keys)) (2 ^ 64 - 1) = c.total_length-length.ensures ∙ ap (λ n. min (n + 5 + length (without_ranks c.args.rows.now.keys)) (2 ^ 64 - 1)) count in
    long_text c.args.id c.args.prev c.args.rows.now.keys changes c.in_ok-text.text.items c.total_length-length.result e c.in_ok-text.ensures.text is c.if-length-gt-PATCH_LIMIT.true

pub returns-in-Ok-clause-patch : goal.returns-in-Ok-clause-patch
returns-in-Ok-clause-patch c = λ changes e plain rows.
    let text = text_is c.args.id c.args.prev c.args.rows.now.keys changes c.in_ok-text.text.items c.push_rows.new.text.items c.extend_from_slice.new.self.items e c.in_ok-text.ensures.text c.in_ok-push_rows.ensures
    c.in_ok-extend_from_slice.ensures.items in
    patch_is c.args.id c.args.prev changes c.in-Ok.patch c.as_slice.result.now c.in-Ok.ensures.ok.0 c.in-Ok.ensures.ok.1 (c.as_slice.ensures.value ∙ text) c.in_ok-text.ensures.id c.in_ok-text.ensures.prev plain rows
