use Rattle.std.proofs.Common.{◌≡◌, ℕ, ◌≤◌, ◌<◌, ◌-◌, Bool, List, length, take, drop, get_or, sym, ap, subst, ◌∙◌, arith}
use Rattle.line_log.specs.declared.edits.Edit.{Edit}
use Rattle.line_log.specs.Held.{Fill, cut_edits, start_of}
use Rattle.line_log.specs.Sorting.{line_at}
use Rattle.line_log.proofs.Cuts.{length-cut, line-cut, line_inside}
use Rattle.line_log.proofs.log.LineLog.line.Goals as goal

within : (es : List Edit) (text : List ℕ) (all : List (Bool × List ℕ)) (n : ℕ) → cut_edits 0 es text ≡ all → n < length all → n < length es
within es text all n is h = subst (λ (m : ℕ). n < m) (sym (ap length is) ∙ length-cut 0 es text) h

module _ (es ds : List Edit) (text front : List ℕ) (all : List (Bool × List ℕ)) (n start : ℕ) (edit : Edit) (is : cut_edits 0 es text ≡ all) (inside : n < length all) (same : ds ≡ es) (from : start ≡ start_of 0 ds n)
    (found : edit ≡ get_or es n edit) (whole : front ≡ text) (fill : Fill 0 es (length text)) where
  begins : start ≡ start_of 0 es n
  begins = from ∙ ap (λ (l : List Edit). start_of 0 l n) same

  bounds : (start ≤ edit.end) × (edit.end ≤ length front)
  bounds =
      let two = line_inside 0 (length text) es n edit fill (within es text all n is inside) in
      let end = ap (λ (e : Edit). e.end) found in
      (omega (arith, begins, end, two.0), omega (arith, end, two.1, ap length whole))

  piece : take (edit.end - start) (drop start front) ≡ line_at all n
  piece =
      ap (λ (l : List ℕ). take (edit.end - start) (drop start l)) whole ∙ ap (λ (m : ℕ). take (edit.end - m) (drop m text)) begins
      ∙ ap (λ (e : Edit). take (e.end - start_of 0 es n) (drop (start_of 0 es n) text)) found
      ∙ sym (line-cut 0 es text n edit (within es text all n is inside)) ∙ ap (λ (l : List (Bool × List ℕ)). line_at l n) is

pub start_of-start-requires : goal.start_of-start-requires
start_of-start-requires c =
    let inside = within c.self.inside.edits.items c.self.inside.text.items c.args.self.now c.args.number c.self.view_is c.requires in
    omega (arith, inside, ap length c.as_slice.ensures.value)

pub index-requires : goal.index-requires
index-requires c =
    let inside = within c.self.inside.edits.items c.self.inside.text.items c.args.self.now c.args.number c.self.view_is c.requires in
    omega (arith, inside, ap length c.as_slice.ensures.value, c.as_slice.ensures.len)

pub slice_bounds-result-count : goal.slice_bounds-result-count
slice_bounds-result-count c =
    (bounds c.self.inside.edits.items c.as_slice.result.now c.self.inside.text.items c.deref.result.now c.args.self.now c.args.number c.start_of-start.result c.index.result.now
    c.self.view_is c.requires c.as_slice.ensures.value c.start_of-start.ensures c.index.ensures c.deref.ensures.value c.self.invariant).0

pub slice_bounds-result-start : goal.slice_bounds-result-start
slice_bounds-result-start c =
    let b = bounds c.self.inside.edits.items c.as_slice.result.now c.self.inside.text.items c.deref.result.now c.args.self.now c.args.number c.start_of-start.result c.index.result.now
    c.self.view_is c.requires c.as_slice.ensures.value c.start_of-start.ensures c.index.ensures c.deref.ensures.value c.self.invariant in
    b.0

pub slice_bounds-result-end : goal.slice_bounds-result-end
slice_bounds-result-end c =
    let b = bounds c.self.inside.edits.items c.as_slice.result.now c.self.inside.text.items c.deref.result.now c.args.self.now c.args.number c.start_of-start.result c.index.result.now
    c.self.view_is c.requires c.as_slice.ensures.value c.start_of-start.ensures c.index.ensures c.deref.ensures.value c.self.invariant in
    b.1

pub returns : goal.returns
returns c =
    piece c.self.inside.edits.items c.as_slice.result.now c.self.inside.text.items c.deref.result.now c.args.self.now c.args.number c.start_of-start.result c.index.result.now
    c.self.view_is c.requires c.as_slice.ensures.value c.start_of-start.ensures c.index.ensures c.deref.ensures.value c.self.invariant
