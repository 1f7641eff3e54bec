use Rattle.std.proofs.Common.{◌≡◌, ◌∙◌, ◌+◌, ◌++◌, ◌∷◌, [], List, ℕ, sym, ap, subst, take, get_or, arith, append_assoc, length}
use Rattle.std.proofs.lemmas.List.{append-nil, take_more}
use Rattle.http_heads.specs.Follow.{Follows}
use Rattle.http_heads.proofs.progress.follow.Goals as goal

pub loop-passed-init : goal.loop-passed-init
loop-passed-init c = record {
  follows = λ text follows. subst (λ (t : List ℕ). Follows c.args.kind t c.args.progress) (sym (append-nil text)) follows;
  known = λ some. absurd (omega arith);
}

pub loop-passed-preserved : goal.loop-passed-preserved
loop-passed-preserved c = record {
  follows = λ text follows.
      let longer : take (c.loop-passed.passed + 1) c.args.bytes.now ≡ take c.loop-passed.passed c.args.bytes.now ++ get_or c.args.bytes.now c.loop-passed.passed 0 ∷ [] =
      take_more c.args.bytes.now c.loop-passed.passed 0 c.loop-passed-test.true in
      let same : (text ++ take c.loop-passed.passed c.args.bytes.now) ++ get_or c.args.bytes.now c.loop-passed.passed 0 ∷ [] ≡ text ++ take (c.loop-passed.passed + 1) c.args.bytes.now =
      append_assoc text (take c.loop-passed.passed c.args.bytes.now) (get_or c.args.bytes.now c.loop-passed.passed 0 ∷ []) ∙ ap (λ (t : List ℕ). text ++ t) (sym longer) in
      subst (λ (t : List ℕ). Follows c.args.kind t c.after_byte-next.result) same (c.after_byte-next.ensures _ (c.loop-passed.invariant.follows text follows));
  known = λ some. sym c.is_known.ensures ∙ c.if-not-is_known.false;
}

pub returns-then-not-is_known-clause-follows : goal.returns-then-not-is_known-clause-follows
returns-then-not-is_known-clause-follows c = c.loop-passed.invariant.follows

pub returns-then-not-is_known-clause-known : goal.returns-then-not-is_known-clause-known
returns-then-not-is_known-clause-known c = c.loop-passed.invariant.known

pub returns-clause-follows : goal.returns-clause-follows
returns-clause-follows c = λ text follows.
    let whole : c.loop-passed.passed ≡ length c.args.bytes.now = omega arith in
    subst (λ n. Follows c.args.kind (text ++ take n c.args.bytes.now) c.loop-passed.progress) whole (c.loop-passed.invariant.follows text follows)
