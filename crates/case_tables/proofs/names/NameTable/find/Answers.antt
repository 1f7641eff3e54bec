use Rattle.std.proofs.Common.{ℕ, Bool, List, Bor, sym, ap, ◌∙◌, arith}
use Rattle.std.specs.Str.{bytes_eq}
use Rattle.case_tables.specs.Tables.{first_named}
use Rattle.case_tables.proofs.First.{first_is, first_is_none, position-map}
use Rattle.case_tables.proofs.names.NameTable.find.Goals as goal

pub returns-then-eq : goal.returns-then-eq
returns-then-eq g c =
    let name = c.args.name.now in let rows = c.self.inside.names.now in
    let is_name : Bor (List ℕ) → Bool = λ row. bytes_eq row.now name in
    let hit = ap (λ (bytes : List ℕ). bytes_eq bytes name) (sym c.as_bytes.ensures.value) ∙ sym c.eq.ensures ∙ c.if-eq.true in
    sym (ap (first_named name) (sym c.self.view_is)
    ∙ position-map (λ (bytes : List ℕ). bytes_eq bytes name) (λ (row : Bor (List ℕ)). row.now) rows
    ∙ first_is is_name rows c.loop-at.at _ (omega arith) c.loop-at.invariant hit)

pub returns : goal.returns
returns g c =
    let name = c.args.name.now in let rows = c.self.inside.names.now in
    let is_name : Bor (List ℕ) → Bool = λ row. bytes_eq row.now name in
    sym (ap (first_named name) (sym c.self.view_is)
    ∙ position-map (λ (bytes : List ℕ). bytes_eq bytes name) (λ (row : Bor (List ℕ)). row.now) rows
    ∙ first_is_none is_name rows c.loop-at.at (omega arith) c.loop-at.invariant)
