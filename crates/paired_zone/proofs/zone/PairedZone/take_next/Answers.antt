use Rattle.std.proofs.Common.{◌≡◌, ◌+◌, [], ◌∷◌, ◌++◌, List, Option, Some, Err, inl, inr, refl, sym, ◌∙◌, ap, subst, length, arith}
use Rattle.delta_base.specs.declared.id.Id.{Id}
use Rattle.rdf_terms.specs.declared.term.Term.{Term}
use Rattle.dataset_tx.specs.Held.{AreMet}
use Rattle.dataset_tx.specs.declared.dataset.DataFault.{DataFault}
use Rattle.log_base.specs.declared.phase.Phase.{Phase}
use Rattle.log_journal.specs.Payload.{payload_of}
use Rattle.log_journal.specs.Writing.{failing}
use Rattle.patch_log.specs.Log.{bare}
use Rattle.zone_state.specs.declared.answer.TakeAnswer.{TakeAnswer}
use Rattle.zone_state.specs.declared.answer.TakeAnswer.TheVariants.{TermsFull, OutOfMemory}
use Rattle.zone_state.specs.State.{brief_in}
use Rattle.zone_state.specs.Stay.{answer_by}
use Rattle.zone_state.proofs.Decisions.{IsDecided, decided, is_refused}
use Rattle.zone_state.proofs.Written.{brief_after, brief_counted, brief_same}
use Rattle.paired_zone.specs.State.{view_of}
use Rattle.paired_zone.specs.Takes.{TakesPatch}
use Rattle.paired_zone.proofs.Standing.{stands_at}
use Rattle.paired_zone.proofs.Taking.{takes_refused, takes_wanting, takes_written}
use Rattle.paired_zone.proofs.Written.{small, room, numbered, is_new, countable_more, kept_written, took_written, terms_known}
use Rattle.paired_zone.proofs.zone.PairedZone.take_next.Goals as goal

pub taking-decided-requires : goal.taking-decided-requires
taking-decided-requires g c =
    let zone = c.self.inside in
    record { small = small zone.files zone.kept zone.limits zone.doubt.patch c.self.invariant }

pub commit_staged-requires-clause-small : goal.commit_staged-requires-clause-small
commit_staged-requires-clause-small g c =
    let zone = c.self.inside in
    omega (arith, c.prepare.ensures.bytes, c.len-size.ensures, ap length c.text.ensures.text, c.prepare.ensures.checked.short, small zone.files zone.kept zone.limits zone.doubt.patch c.self.invariant)

pub append-written-requires : goal.append-written-requires
append-written-requires g c =
    let zone = c.self.inside in
    record {
      room = room zone.files zone.kept zone.limits zone.doubt.patch c.self.invariant c.args.patch.now c.in-Applied.version (sym c.in-Applied.ensures) (payload_of c.in-Ok.block) c.in-Ok.ensures.block;
      few = numbered zone.files zone.kept zone.limits zone.doubt.patch c.self.invariant c.args.patch.now c.in-Applied.version (sym c.in-Applied.ensures);
      beside = (c.self.invariant.next, c.self.invariant.on_other);
    }

pub commit_staged-requires-clause-new : goal.commit_staged-requires-clause-new
commit_staged-requires-clause-new g c =
    let zone = c.self.inside in
    rw (c.prepare.ensures.ids, c.id.ensures) (is_new zone.files zone.kept zone.limits zone.doubt.patch c.self.invariant c.args.patch.now c.in-Applied.version (sym c.in-Applied.ensures))

pub commit_staged-requires-clause-few : goal.commit_staged-requires-clause-few
commit_staged-requires-clause-few g c =
    let zone = c.self.inside in
    rw c.prepare.ensures.ids (countable_more zone.files zone.kept zone.limits zone.doubt.patch c.self.invariant c.args.patch.now c.in-Applied.version (sym c.in-Applied.ensures))

some_one : {X : Type 0} (a b : X) → Some a ≡ Some b → a ≡ b
some_one a b same = cc

-- ---- it was written

pub invariant_of-self : goal.invariant_of-self
invariant_of-self g c =
    let zone = c.self.inside in
    let patch = c.args.patch.now in
    let kept = c.commit_staged.new.self in
    let ids = c.commit_staged.ensures.ids ∙ ap (λ (is : List Id). is ++ c.id.result ∷ []) c.prepare.ensures.ids ∙ ap (λ (i : Id). zone.kept.ids.items ++ i ∷ []) c.id.ensures in
    let bytes : kept.bytes ≡ zone.kept.bytes + length patch.text = omega (arith, c.commit_staged.ensures.bytes, c.prepare.ensures.bytes, c.len-size.ensures, ap length c.text.ensures.text) in
    let contents = some_one kept.contents.contents _ (c.commit_staged.ensures.contents ∙ c.in-Ok.ensures.staged) in
    let brief = subst (λ (end : Option Phase). brief_in kept ≡ brief_after end (brief_in zone.kept) patch) (ap failing (sym c.in-Ok-written.is)) (brief_counted zone.kept kept patch ids bytes contents) in
    kept_written zone.files zone.kept zone.limits zone.doubt.patch c.self.invariant patch c.in-Applied.version (sym c.in-Applied.ensures) (failing c.append-written.result) c.append-written.new.self kept c.follow.new.self.patch c.follow.ensures
    c.prepare.ensures.checked brief c.commit_staged.ensures.staged (payload_of c.in-Ok.block) c.in-Ok.ensures.block c.append-written.ensures

pub returns-in-Ok-written : goal.returns-in-Ok-written
returns-in-Ok-written g c =
    let zone = c.self.inside in
    let patch = c.args.patch.now in
    let version = c.in-Applied.version in
    let next = sym c.in-Applied.ensures in
    let e = c.append-written.ensures in
    let kept = c.commit_staged.new.self in
    let ids = c.commit_staged.ensures.ids ∙ ap (λ (is : List Id). is ++ c.id.result ∷ []) c.prepare.ensures.ids ∙ ap (λ (i : Id). zone.kept.ids.items ++ i ∷ []) c.id.ensures in
    let bytes : kept.bytes ≡ zone.kept.bytes + length patch.text = omega (arith, c.commit_staged.ensures.bytes, c.prepare.ensures.bytes, c.len-size.ensures, ap length c.text.ensures.text) in
    let contents = some_one kept.contents.contents _ (c.commit_staged.ensures.contents ∙ c.in-Ok.ensures.staged) in
    let brief = subst (λ (end : Option Phase). brief_in kept ≡ brief_after end (brief_in zone.kept) patch) (ap failing (sym c.in-Ok-written.is)) (brief_counted zone.kept kept patch ids bytes contents) in
    let old = view_of zone.files zone.kept zone.limits zone.doubt.patch in
    let new = view_of c.append-written.new.self kept zone.limits c.follow.new.self.patch in
    let met = subst (λ (ts : List Term). AreMet patch.meaning.changes zone.kept.contents.terms ts) (sym c.commit_staged.ensures.terms) c.prepare.ensures.met in
    let takes = takes_written g.D.Disk old patch version next new c.append-written.result brief c.follow.ensures refl met e.second e.generation e.went
    (took_written zone.files zone.kept zone.limits zone.doubt.patch c.self.invariant patch version next (failing c.append-written.result) c.append-written.new.self kept c.follow.new.self.patch c.follow.ensures
    c.prepare.ensures.checked brief c.commit_staged.ensures.staged (payload_of c.in-Ok.block) c.in-Ok.ensures.block e) in
    rw (← c.self.view_is) (subst (λ (answer : TakeAnswer). TakesPatch g.D.Disk old new patch answer) (ap (λ (written : _). answer_by (failing written) version) c.in-Ok-written.is) takes)

-- ---- it failed

pub invariant_of-self-in-Err : goal.invariant_of-self-in-Err
invariant_of-self-in-Err g c =
    let zone = c.self.inside in
    let patch = c.args.patch.now in
    let kept = c.drop_staged.new.self in
    let ids = ap (λ l. l.items) c.drop_staged.ensures.ids ∙ c.prepare.ensures.ids in
    let bytes = c.drop_staged.ensures.bytes ∙ c.prepare.ensures.bytes in
    let contents = c.drop_staged.ensures.contents ∙ c.prepare.ensures.contents in
    let brief = subst (λ (end : Option Phase). brief_in kept ≡ brief_after end (brief_in zone.kept) patch) (ap failing (sym c.in-Err.is)) (brief_same zone.kept kept ids bytes contents) in
    kept_written zone.files zone.kept zone.limits zone.doubt.patch c.self.invariant patch c.in-Applied.version (sym c.in-Applied.ensures) (failing c.append-written.result) c.append-written.new.self kept c.follow.new.self.patch c.follow.ensures
    c.prepare.ensures.checked brief c.drop_staged.ensures.staged (payload_of c.in-Ok.block) c.in-Ok.ensures.block c.append-written.ensures

pub returns-in-Ok : goal.returns-in-Ok
returns-in-Ok g c =
    let zone = c.self.inside in
    let patch = c.args.patch.now in
    let version = c.in-Applied.version in
    let next = sym c.in-Applied.ensures in
    let e = c.append-written.ensures in
    let kept = c.drop_staged.new.self in
    let ids = ap (λ l. l.items) c.drop_staged.ensures.ids ∙ c.prepare.ensures.ids in
    let bytes = c.drop_staged.ensures.bytes ∙ c.prepare.ensures.bytes in
    let contents = c.drop_staged.ensures.contents ∙ c.prepare.ensures.contents in
    let brief = subst (λ (end : Option Phase). brief_in kept ≡ brief_after end (brief_in zone.kept) patch) (ap failing (sym c.in-Err.is)) (brief_same zone.kept kept ids bytes contents) in
    let old = view_of zone.files zone.kept zone.limits zone.doubt.patch in
    let new = view_of c.append-written.new.self kept zone.limits c.follow.new.self.patch in
    let met = subst (λ (ts : List Term). AreMet patch.meaning.changes zone.kept.contents.terms ts) (sym c.drop_staged.ensures.terms) c.prepare.ensures.met in
    let takes = takes_written g.D.Disk old patch version next new c.append-written.result brief c.follow.ensures refl met e.second e.generation e.went
    (took_written zone.files zone.kept zone.limits zone.doubt.patch c.self.invariant patch version next (failing c.append-written.result) c.append-written.new.self kept c.follow.new.self.patch c.follow.ensures
    c.prepare.ensures.checked brief c.drop_staged.ensures.staged (payload_of c.in-Ok.block) c.in-Ok.ensures.block e) in
    rw (← c.self.view_is) (subst (λ (answer : TakeAnswer). TakesPatch g.D.Disk old new patch answer) (ap (λ (written : _). answer_by (failing written) version) c.in-Err.is) takes)

-- ---- no call of a disk was made

pub returns-in-Err-TermsFull : goal.returns-in-Err-TermsFull
returns-in-Err-TermsFull g c =
    let zone = c.self.inside in
    let old = view_of zone.files zone.kept zone.limits zone.doubt.patch in
    let new = view_of zone.files c.prepare.new.self zone.limits zone.doubt.patch in
    rw (← c.self.view_is) (takes_wanting g.D.Disk old c.args.patch.now c.in-Applied.version (sym c.in-Applied.ensures) new TermsFull (inl refl)
    (terms_known zone.files zone.kept c.prepare.new.self zone.limits zone.doubt.patch c.prepare.ensures.ids c.prepare.ensures.bytes c.prepare.ensures.contents)
    (λ is. c.prepare.ensures.full (c.in-Err-TermsFull.is ∙ ap (λ (fault : DataFault). Err fault) c.in-Err-TermsFull.field-0-is)) c.prepare.ensures.met
    c.self.invariant.point (stands_at zone.files zone.kept zone.limits zone.doubt.patch c.self.invariant))

pub returns-in-Applied : goal.returns-in-Applied
returns-in-Applied g c =
    let zone = c.self.inside in
    let old = view_of zone.files zone.kept zone.limits zone.doubt.patch in
    let new = view_of zone.files c.prepare.new.self zone.limits zone.doubt.patch in
    rw (← c.self.view_is) (takes_wanting g.D.Disk old c.args.patch.now c.in-Applied.version (sym c.in-Applied.ensures) new OutOfMemory (inr refl)
    (terms_known zone.files zone.kept c.prepare.new.self zone.limits zone.doubt.patch c.prepare.ensures.ids c.prepare.ensures.bytes c.prepare.ensures.contents) (λ is. absurd (cc)) c.prepare.ensures.met
    c.self.invariant.point (stands_at zone.files zone.kept zone.limits zone.doubt.patch c.self.invariant))

pub returns : goal.returns
returns g c =
    let zone = c.self.inside in
    let patch = c.args.patch.now in
    let made = c.taking-decided.ensures in
    let told = is_refused c.taking-decided.result (subst IsDecided (sym made) (decided zone.kept.ids.items zone.kept.bytes (bare patch) zone.limits)) c.in_default.not-Applied in
    rw (← c.self.view_is) (takes_refused g.D.Disk (view_of zone.files zone.kept zone.limits zone.doubt.patch) patch c.taking-decided.result told made c.self.invariant.point (stands_at zone.files zone.kept zone.limits zone.doubt.patch c.self.invariant))
