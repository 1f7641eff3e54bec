use Rattle.std.proofs.Common.{◌≡◌, length, ap, ◌∙◌, rules}
use Rattle.line_log.specs.Edits.{made}
use Rattle.quad_keys.proofs.Laying.{made_more, line_more}
use Rattle.quad_keys.proofs.Taken.{none_taken, next_known, next_taken, all_taken}
use Rattle.quad_keys.proofs.printing.log_lines.Goals as goal

pub keys-init : goal.keys-init
keys-init c = none_taken _ _ _ c.requires.known (ap made c.requires.empty)

pub log_line-requires : goal.log_line-requires
log_line-requires c = next_known _ c.keys.invariant c.in-Some.ensures.items

pub keys-preserved : goal.keys-preserved
keys-preserved c =
    next_taken _ c.keys.invariant c.in-Some.ensures.items
    (λ taken so_far. ap made c.in_ok-log_line.ensures ∙ made_more c.keys.log _ ∙ line_more _ taken c.in-Some.key _ so_far)

pub returns : goal.returns
returns c = let none : length c.keys.keys.items ≡ 0 = search rules in all_taken c.keys.invariant none
