use Rattle.std.proofs.Common.{sym, ◌∙◌}
use Rattle.checkpoint_text.specs.Text.{setting_line, IsSetting}
use Rattle.checkpoint_text.proofs.OneText.{setting_cut}
use Rattle.checkpoint_reading.specs.Reading.{set_by}
use Rattle.checkpoint_reading.proofs.Fronts.{not_behind}
use Rattle.checkpoint_reading.proofs.prefixes.next_setting.Goals as goal

pub returns-else-is_lt-clause-broken : goal.returns-else-is_lt-clause-broken
returns-else-is_lt-clause-broken c = λ broken.
    let s = set_by c.in_ok-setting.setting in
    let here = c.in_ok-setting.ensures.ok in
    not_behind setting_line IsSetting setting_cut c.args.text.now c.args.last.now c.front_of.result.now s c.in_ok-setting.rest.now c.cmp.result here (c.front_of.ensures (setting_line s) here.parts) c.cmp.ensures (sym c.is_lt.ensures ∙ c.if-is_lt.false)
