use Rattle.std.proofs.Common.{ℕ, List, [], ◌∷◌, ◌++◌, refl, sym, subst, ◌∙◌}
use Rattle.std.proofs.lemmas.Result.{err_from_is_err_and}
use Rattle.checkpoint_text.specs.Text.{setting_line, IsSetting}
use Rattle.checkpoint_text.proofs.OneText.{setting_cut}
use Rattle.checkpoint_reading.specs.Front.{IsInFront, NoneInFront, IsPast}
use Rattle.checkpoint_reading.specs.Reading.{set_by}
use Rattle.checkpoint_reading.proofs.Changes.{set_none, set_more}
use Rattle.checkpoint_reading.proofs.Exits.{same_fault}
use Rattle.checkpoint_reading.proofs.Fronts.{none_rise, rise_more, rise_stops, last_push}
use Rattle.checkpoint_reading.proofs.Shown.{setting_shown}
use Rattle.checkpoint_reading.proofs.Twice.{set_twice}
use Rattle.checkpoint_reading.proofs.prefixes.read_prefixes.Goals as goal

pub loop-place-init : goal.loop-place-init
loop-place-init c = ([], none_rise setting_line IsSetting c.args.text.now, refl, set_none _ c.requires, c.new-changes.ensures)

pub returns-in_err-setting-clause-broken : goal.returns-in_err-setting-clause-broken
returns-in_err-setting-clause-broken c =
    let p = err_from_is_err_and c.from_residual.result c.from_residual.ensures.1 in
    let inv = c.loop-place.invariant in
    rw (p.1, p.2) (λ broken settings rest all one.
    rise_stops setting_line IsSetting setting_cut c.loop-place._place c.args.count c.args.text.now c.loop-place.rest.now inv.0 setting_shown inv.1 c.loop-place-test.true (subst (λ (t : List ℕ). NoneInFront setting_line (IsPast setting_line IsSetting t) c.loop-place.rest.now) inv.2 (c.in_err-setting.ensures.broken (same_fault _ _ broken))) settings rest all)

pub returns-in_err-set_prefix-clause-broken : goal.returns-in_err-set_prefix-clause-broken
returns-in_err-set_prefix-clause-broken c =
    let p = err_from_is_err_and c.from_residual-in_err-set_prefix.result c.from_residual-in_err-set_prefix.ensures.1 in
    let inv = c.loop-place.invariant in
    rw (p.1, p.2) (λ broken settings rest all one.
    set_twice c.loop-place._place c.args.count c.args.text.now c.loop-place.rest.now c.in_ok-setting.behind.now c.loop-place.last.now rest c.loop-place.contents.contents.prefixes inv.0 settings (set_by c.in_ok-setting.setting) inv.1 c.in_ok-setting.ensures.ok c.loop-place-test.true inv.3.same (c.in_err-set_prefix.ensures.broken (same_fault _ _ broken)) all one)

pub loop-place-preserved : goal.loop-place-preserved
loop-place-preserved c =
    let inv = c.loop-place.invariant in
    let s = set_by c.in_ok-setting.setting in
    let here = c.in_ok-setting.ensures.ok in
    let next = subst (λ (t : List ℕ). IsInFront setting_line (IsPast setting_line IsSetting t) c.loop-place.rest.now s c.in_ok-setting.behind.now) inv.2 here in (
      inv.0 ++ s ∷ [],
      rise_more setting_line IsSetting c.loop-place._place c.args.text.now c.loop-place.rest.now c.in_ok-setting.behind.now inv.0 s inv.1 next,
      c.front_of-last.ensures (setting_line s) here.parts ∙ sym (last_push setting_line inv.0 s),
      set_more c.loop-place.contents c.set_prefix.new.contents inv.0 s inv.3 c.in_ok-set_prefix.ensures.unstaged c.in_ok-set_prefix.ensures.contents c.in_ok-set_prefix.ensures.met c.in_ok-set_prefix.ensures.fresh,
      c.in_ok-set_prefix.ensures.none,
    )
