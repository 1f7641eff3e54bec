use Rattle.std.proofs.Common.{◌≡◌, ◌∙◌, ◌++◌, ◌-◌, ◌≤◌, sym, ap, subst, arith, length, take, drop, Ok, List, ℕ}
use Rattle.std.proofs.lemmas.Result.{err_from_is_err_and}
use Rattle.http_heads.specs.Heads.{HasNoHead, IsBadHead}
use Rattle.http_heads.specs.Follow.{Follows}
use Rattle.http_messages.specs.Front.{FrontIs, TellsFaultAt}
use Rattle.http_messages.specs.Messages.{IsFaultAt}
use Rattle.http_heads.specs.declared.framing.FrameFault.TheVariants.{HeadTooLong}
use Rattle.http_messages.specs.declared.front.Front.{Front}
use Rattle.http_messages.proofs.StepLemmas.{full_head, whole_text, piece_length, all_used, is_past, head_used, reads_used, reads_along}
use Rattle.http_messages.proofs.stage.read_pending.Goals as goal

pub returns-in_err-read_front : goal.returns-in_err-read_front
returns-in_err-read_front c =
    let p = err_from_is_err_and c.from_residual-in_err-read_front.result c.from_residual-in_err-read_front.ensures.1 in
    let text : c.as_slice-2.result.now ≡ take c.args.kept c.args.pending.now.items ++ drop c.args.kept c.args.pending.now.items =
    c.as_slice-2.ensures.value ∙ whole_text c.args.kind c.args.kept c.args.pending.now.items c.requires.kept in
    rw (p.1, p.2) (subst (λ (t : List ℕ). TellsFaultAt c.args.kind c.args.room t c.in_err-read_front.field-0.0) text
    (c.in_err-read_front.ensures c.args.room (omega (arith, ap length c.as_slice-2.ensures.value))))

pub returns-then-len-room : goal.returns-then-len-room
returns-then-len-room c =
    let fits : length c.as_slice-2.result.now ≤ c.args.room = omega (arith, ap length c.as_slice-2.ensures.value) in
    let read = subst (λ (x : Front). FrontIs c.args.kind c.args.room c.as_slice-2.result.now (Ok x)) c.in-Open.is (c.in_ok-read_front.ensures c.args.room fits) in
    let text : c.as_slice-2.result.now ≡ take c.args.kept c.args.pending.now.items ++ drop c.args.kept c.args.pending.now.items =
    c.as_slice-2.ensures.value ∙ whole_text c.args.kind c.args.kept c.args.pending.now.items c.requires.kept in
    subst (λ (t : List ℕ). IsFaultAt c.args.kind c.args.room t HeadTooLong) text
    (full_head c.args.kind c.args.room c.as_slice-2.result.now read (omega (arith, ap length c.as_slice-2.ensures.value)))

pub returns-in_ok-progress-in-Open : goal.returns-in_ok-progress-in-Open
returns-in_ok-progress-in-Open c =
    let fits : length c.as_slice-2.result.now ≤ c.args.room = omega (arith, ap length c.as_slice-2.ensures.value) in
    let read = subst (λ (x : Front). FrontIs c.args.kind c.args.room c.as_slice-2.result.now (Ok x)) c.in-Open.is (c.in_ok-read_front.ensures c.args.room fits) in
    let same = c.in_ok-progress-in-Open.ensures.same in
    let piece = piece_length c.args.kind c.args.kept c.args.pending.now.items c.requires.kept in
    let len : c.len-len.result ≡ length c.args.pending.now.items = omega arith in
    let used = all_used c.args.kind c.args.kept c.args.pending.now.items c.requires.kept in (
      (omega arith, omega arith),
      same ∙ subst (λ n. c.args.pending.now.items ≡ take c.args.kept c.args.pending.now.items ++ take (n - c.args.kept) (drop c.args.kept c.args.pending.now.items)) (sym len) used,
      record {
        short = omega (arith, ap length same);
        none = subst (HasNoHead c.args.kind) (c.as_slice-2.ensures.value ∙ sym same) read.0;
        good = λ bad. read.1 (subst (IsBadHead c.args.kind) (same ∙ sym c.as_slice-2.ensures.value) bad);
      },
      subst (λ (t : List ℕ). Follows c.args.kind t c.in_ok-progress-in-Open.progress) (sym same) c.in_ok-progress-in-Open.ensures.follows,
    )

pub overflow_sub-result-in-Interim : goal.overflow_sub-result-in-Interim
overflow_sub-result-in-Interim c =
    let fits : length c.as_slice-2.result.now ≤ c.args.room = omega (arith, ap length c.as_slice-2.ensures.value) in
    let whole = subst (λ (x : Front). FrontIs c.args.kind c.args.room c.as_slice-2.result.now (Ok x)) c.in-Interim.is (c.in_ok-read_front.ensures c.args.room fits) in
    let past = is_past c.args.kind c.args.kept c.args.pending.now.items c.requires.kept _ whole.0 _ c.requires.none
    (reads_along c.args.kind _ _ whole.0 _ c.as_slice-2.ensures.value whole.2) whole.3 in
    omega arith

pub overflow_sub-result-in-Whole : goal.overflow_sub-result-in-Whole
overflow_sub-result-in-Whole c =
    let fits : length c.as_slice-2.result.now ≤ c.args.room = omega (arith, ap length c.as_slice-2.ensures.value) in
    let whole = subst (λ (x : Front). FrontIs c.args.kind c.args.room c.as_slice-2.result.now (Ok x)) c.in-Whole.is (c.in_ok-read_front.ensures c.args.room fits) in
    let past = is_past c.args.kind c.args.kept c.args.pending.now.items c.requires.kept _ whole.0 _ c.requires.none
    (reads_along c.args.kind _ _ whole.0 _ c.as_slice-2.ensures.value whole.1.reads) whole.2 in
    omega arith

pub returns-in-Interim : goal.returns-in-Interim
returns-in-Interim c =
    let fits : length c.as_slice-2.result.now ≤ c.args.room = omega (arith, ap length c.as_slice-2.ensures.value) in
    let whole = subst (λ (x : Front). FrontIs c.args.kind c.args.room c.as_slice-2.result.now (Ok x)) c.in-Interim.is (c.in_ok-read_front.ensures c.args.room fits) in
    let used = head_used c.args.kind c.args.kept c.args.pending.now.items c.requires.kept _ whole.0 c.in-Interim.len c.requires.none
    (reads_along c.args.kind _ _ whole.0 _ c.as_slice-2.ensures.value whole.2) whole.3 in
    (used.0, c.clear.ensures.items, (whole.0, whole.1, used.1, omega arith, omega arith))

pub returns-in-Whole : goal.returns-in-Whole
returns-in-Whole c =
    let fits : length c.as_slice-2.result.now ≤ c.args.room = omega (arith, ap length c.as_slice-2.ensures.value) in
    let whole = subst (λ (x : Front). FrontIs c.args.kind c.args.room c.as_slice-2.result.now (Ok x)) c.in-Whole.is (c.in_ok-read_front.ensures c.args.room fits) in
    let reads = reads_along c.args.kind _ _ whole.0 _ c.as_slice-2.ensures.value whole.1.reads in
    let used = head_used c.args.kind c.args.kept c.args.pending.now.items c.requires.kept _ whole.0 c.in-Whole.len c.requires.none reads whole.2 in (
      used.0,
      c.clear-in-Whole.ensures.items,
      (
        whole.0,
        record {
          reads = reads_used c.args.kind c.args.kept c.args.pending.now.items c.requires.kept _ whole.0 c.in-Whole.len c.requires.none reads whole.2;
          short = whole.1.short;
          few = whole.1.few;
          final = whole.1.final;
        },
        whole.3,
        whole.4,
      ),
    )
