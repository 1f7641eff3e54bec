use Rattle.std.proofs.Common.{◌≡◌, ◌∙◌, ◌+◌, ◌-◌, ◌^◌, min, ◌++◌, ◌∷◌, [], ap, subst, sym, length, List, ℕ, arith, length-append}
use Rattle.dataset_tx.specs.Held.{Held, AreMet}
use Rattle.delta_base.specs.declared.id.Id.{Id}
use Rattle.zone_state.proofs.opening.Reading.add.Goals as goal

pub returns-clause-ok : goal.returns-clause-ok
returns-clause-ok c =
    let ids : c.apply.new.self.kept.ids.items ≡ c.args.self.now.kept.ids.items = ap (λ l. l.items) c.apply.ensures.ids ∙ c.reserve.ensures.items in
    let more = c.count.ensures.ids ∙ ap (λ (is : List Id). is ++ c.id.result ∷ []) ids ∙ ap (λ (i : Id). c.args.self.now.kept.ids.items ++ i ∷ []) c.id.ensures in
    let size : c.len.result ≡ length c.args.patch.now.text = c.len.ensures ∙ ap length c.text.ensures.text in
    record {
      ids_are = more;
      few = omega (arith, ap length more, length-append c.args.self.now.kept.ids.items (c.args.patch.now.meaning.id ∷ []), c.requires.few);
      bytes_are = c.count.ensures.bytes ∙ ap (λ (n : ℕ). min (n + c.len.result) (2 ^ 64 - 1)) c.apply.ensures.bytes ∙ ap (λ (n : ℕ). min (c.args.self.now.kept.bytes + n) (2 ^ 64 - 1)) size;
      meets = record {
        stays_full = c.in_ok-apply.ensures.ok.stays_full;
        applied = λ is.
            let applied = c.in_ok-apply.ensures.ok.applied is in
            (ap (λ (h : Held). h.contents) c.count.ensures.contents ∙ applied.0, subst (λ (h : Held). AreMet c.args.patch.now.meaning.changes c.args.self.now.kept.contents.terms h.terms) (sym c.count.ensures.contents) applied.1);
        overflow = c.in_ok-apply.ensures.ok.overflow;
      };
    }
