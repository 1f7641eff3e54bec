use Rattle.std.proofs.Common.{rules, ◌≡◌, true, false, List, ℕ, refl, sym, ap, ◌∙◌}
use Rattle.std.specs.BTreeSet.{insert_key}
use Rattle.std.specs.Cmp.Lexicographic.{slice_cmp}
use Rattle.std.specs.Ordering.{nat_cmp}
use Rattle.patch_algebra.specs.Names.{name_bytes}
use Rattle.patch_algebra.proofs.Gathers.{again, both_ok, idle, is_first, is_later, is_new, more_gathered, rows_inserted, still_gathered, turned_placed}
use Rattle.patch_algebra.proofs.gathering.Gathering.take_change.Goals as goal

pub returns-then-not-branch-clause-ok : goal.returns-then-not-branch-clause-ok
returns-then-not-branch-clause-ok c behind placed h =
    let known : c.in_ok-insert.field-0 ≡ false = search rules in
    let new = is_new c.in_ok-insert.field-0 c.args.change.now behind c.args.self.now.met.keys c.in_ok-key.key c.in_ok-insert.ensures.added c.in_ok-key.ensures h.met_is in
    let met = rows_inserted c.args.self.now.met.keys c.insert.new.self.keys c.in_ok-key.key (name_bytes c.args.change.now) c.in_ok-insert.ensures.keys c.in_ok-key.ensures
    ∙ ap (λ (l : List (List ℕ)). insert_key (slice_cmp nat_cmp) l (name_bytes c.args.change.now)) h.met_is in
    still_gathered c.args.base.now.contents c.args.change.now behind c.args.self.now c.insert.new.self.keys met h _ refl refl refl
    (again c.args.self.now.direction c.args.base.now.contents c.args.change.now behind (is_later _ _ known new))

pub returns-then-not-branch-2-clause-ok : goal.returns-then-not-branch-2-clause-ok
returns-then-not-branch-2-clause-ok c behind placed h =
    let known : c.in_ok-insert.field-0 ≡ true = search rules in
    let stays : c.in_ok-alters.field-0 ≡ false = search rules in
    let new = is_new c.in_ok-insert.field-0 c.args.change.now behind c.args.self.now.met.keys c.in_ok-key.key c.in_ok-insert.ensures.added c.in_ok-key.ensures h.met_is in
    let met = rows_inserted c.args.self.now.met.keys c.insert.new.self.keys c.in_ok-key.key (name_bytes c.args.change.now) c.in_ok-insert.ensures.keys c.in_ok-key.ensures
    ∙ ap (λ (l : List (List ℕ)). insert_key (slice_cmp nat_cmp) l (name_bytes c.args.change.now)) h.met_is in
    still_gathered c.args.base.now.contents c.args.change.now behind c.args.self.now c.insert.new.self.keys met h _ refl refl refl
    (idle c.args.self.now.direction c.args.base.now.contents c.args.change.now behind (is_first _ _ known new) (sym c.in_ok-alters.ensures ∙ stays))

pub returns-clause-ok : goal.returns-clause-ok
returns-clause-ok c =
    both_ok c.put.result
    (λ rows printed behind placed h.
    let known : c.in_ok-insert.field-0 ≡ true = search rules in
    let comes : c.in_ok-alters.field-0 ≡ true = search rules in
    let new = is_new c.in_ok-insert.field-0 c.args.change.now behind c.args.self.now.met.keys c.in_ok-key.key c.in_ok-insert.ensures.added c.in_ok-key.ensures h.met_is in
    let met = rows_inserted c.args.self.now.met.keys c.insert.new.self.keys c.in_ok-key.key (name_bytes c.args.change.now) c.in_ok-insert.ensures.keys c.in_ok-key.ensures
    ∙ ap (λ (l : List (List ℕ)). insert_key (slice_cmp nat_cmp) l (name_bytes c.args.change.now)) h.met_is in
    more_gathered c.args.base.now.contents c.args.change.now behind c.args.self.now c.insert.new.self.keys met h _ (ap (λ s. s.keys) c.put.ensures.met) c.put.ensures.direction rows (is_first _ _ known new) (sym c.in_ok-alters.ensures ∙ comes)
    (printed (turned_placed c.args.self.now.direction c.args.base.now.contents c.args.change.now placed)))
    c.put.ensures.rows c.put.ensures.printed
