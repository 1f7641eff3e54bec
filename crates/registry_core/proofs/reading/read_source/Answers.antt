use Rattle.std.proofs.Common.{◌≡◌, sym, ap, ◌∙◌, subst}
use Rattle.registry_core.specs.Events.{IsName, IsUri}
use Rattle.registry_core.specs.declared.reading.TextFault.TheVariants.{NoEvent}
use Rattle.registry_core.proofs.Faults.{other_result}
use Rattle.registry_core.proofs.Parts.{slot_part, id_part, name_part, no_slot_part, no_id_part, no_name_part}
use Rattle.registry_core.proofs.reading.read_source.Goals as goal

pub returns-in_default-clause-none : goal.returns-in_default-clause-none
returns-in_default-clause-none c fault source sound is = no_slot_part source sound c.args.text.now c.in_default.ensures.none is

pub returns-in_default-cut-clause-none : goal.returns-in_default-cut-clause-none
returns-in_default-cut-clause-none c fault source sound is =
    let slot = c.in-Some.ensures.some in
    let one = slot_part source sound c.args.text.now c.in-Some.slot_part.now c.in-Some.behind_slot.now slot.0 slot.1 is in
    no_id_part source sound c.in-Some.behind_slot.now c.in_default-cut.ensures.none one.1

pub returns-in_default-cut-2-clause-none : goal.returns-in_default-cut-2-clause-none
returns-in_default-cut-2-clause-none c fault source sound is =
    let slot = c.in-Some.ensures.some in
    let one = slot_part source sound c.args.text.now c.in-Some.slot_part.now c.in-Some.behind_slot.now slot.0 slot.1 is in
    let id = c.in-Some-cut.ensures.some in
    let two = id_part source sound c.in-Some.behind_slot.now c.in-Some-cut.id_part.now c.in-Some-cut.behind_id.now id.0 id.1 one.1 in
    no_name_part source sound c.in-Some-cut.behind_id.now c.in_default-cut-2.ensures.none two.1

pub returns-in_default-read_slot-clause-none : goal.returns-in_default-read_slot-clause-none
returns-in_default-read_slot-clause-none c fault source sound is =
    let slot = c.in-Some.ensures.some in
    let one = slot_part source sound c.args.text.now c.in-Some.slot_part.now c.in-Some.behind_slot.now slot.0 slot.1 is in
    c.in_default-read_slot.ensures.none source.slot sound.slot one.0

pub returns-in_default-exact_id-clause-none : goal.returns-in_default-exact_id-clause-none
returns-in_default-exact_id-clause-none c fault source sound is =
    let slot = c.in-Some.ensures.some in
    let one = slot_part source sound c.args.text.now c.in-Some.slot_part.now c.in-Some.behind_slot.now slot.0 slot.1 is in
    let id = c.in-Some-cut.ensures.some in
    let two = id_part source sound c.in-Some.behind_slot.now c.in-Some-cut.id_part.now c.in-Some-cut.behind_id.now id.0 id.1 one.1 in
    c.in_default-exact_id.ensures.none source.id sound.id (sym two.0)

pub returns-in-Err-clause-none : goal.returns-in-Err-clause-none
returns-in-Err-clause-none c fault source sound is =
    let slot = c.in-Some.ensures.some in
    let one = slot_part source sound c.args.text.now c.in-Some.slot_part.now c.in-Some.behind_slot.now slot.0 slot.1 is in
    let id = c.in-Some-cut.ensures.some in
    let two = id_part source sound c.in-Some.behind_slot.now c.in-Some-cut.id_part.now c.in-Some-cut.behind_id.now id.0 id.1 one.1 in
    let names = c.in-Some-cut-2.ensures.some in
    let three = name_part source sound c.in-Some-cut.behind_id.now c.in-Some-cut-2.name_part.now c.in-Some-cut-2.uri_part.now names.0 names.1 two.1 in
    c.in-Err.ensures.none (other_result c.in-Err.fault NoEvent fault) (subst IsName three.0 sound.name)

pub returns-in-Err-read_uri-clause-none : goal.returns-in-Err-read_uri-clause-none
returns-in-Err-read_uri-clause-none c fault source sound is =
    let slot = c.in-Some.ensures.some in
    let one = slot_part source sound c.args.text.now c.in-Some.slot_part.now c.in-Some.behind_slot.now slot.0 slot.1 is in
    let id = c.in-Some-cut.ensures.some in
    let two = id_part source sound c.in-Some.behind_slot.now c.in-Some-cut.id_part.now c.in-Some-cut.behind_id.now id.0 id.1 one.1 in
    let names = c.in-Some-cut-2.ensures.some in
    let three = name_part source sound c.in-Some-cut.behind_id.now c.in-Some-cut-2.name_part.now c.in-Some-cut-2.uri_part.now names.0 names.1 two.1 in
    c.in-Err-read_uri.ensures.none (other_result c.in-Err-read_uri.fault NoEvent fault) (subst IsUri three.1 sound.uri)
