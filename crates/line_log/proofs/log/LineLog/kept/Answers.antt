use Rattle.std.proofs.Common.{◌+◌, ◌-◌, ◌<◌, [], ◌∷◌, ◌++◌, cond, length, take, drop, get_or, sym, ap, ◌∙◌, arith}
use Rattle.line_log.specs.Sorting.{NumberedLine, line_at, lines_at, lines_numbered}
use Rattle.line_log.proofs.Taking.{all_put, first_and_rest, inside, left, left_equal, left_less, left_row, put, row_first, rows_rest}
use Rattle.line_log.proofs.log.LineLog.kept.Goals as goal

pub loop-kept-preserved-in-Less : goal.loop-kept-preserved-in-Less
loop-kept-preserved-in-Less c =
    let es = c.args.self.now in
    let ys = lines_numbered c.loop-kept.rest.now in
    let n = c.loop-kept.next in
    let more = left es c.args.front c.requires.within (n + 1) ys in
    let below : n < c.args.front = inside es c.args.front c.requires.within n ys (λ g. absurd (cc (g, c.in-Less.ensures))) in
    record {
      rows = c.loop-kept.invariant.rows;
      within = all_put _ _ _ n c.adds.result c.in_ok-push_if-in-Less.ensures (omega (arith, below, c.requires.within)) c.loop-kept.invariant.within;
      kept = put es _ _ n c.adds.result (left es c.args.front c.requires.within n ys) more _ c.in_ok-push_if-in-Less.ensures
          (left_less es c.args.front c.requires.within c.requires.rise n ys (sym c.in-Less.ensures) ∙ ap (λ b. cond b (line_at es n ∷ more) more) (sym c.adds.ensures)) c.loop-kept.invariant.kept;
    }

pub loop-kept-preserved-in-Equal : goal.loop-kept-preserved-in-Equal
loop-kept-preserved-in-Equal c =
    let es = c.args.self.now in
    let ys = lines_numbered c.loop-kept.rest.now in
    record {
      rows = c.loop-kept.invariant.rows;
      within = c.loop-kept.invariant.within;
      kept = ap (λ l. lines_at es c.loop-kept.kept.items ++ l) (sym (left_equal es c.args.front c.requires.within c.requires.rise c.loop-kept.next ys c.loop-kept.invariant.rows (sym c.in-Equal.ensures))) ∙ c.loop-kept.invariant.kept;
    }

pub loop-kept-preserved : goal.loop-kept-preserved
loop-kept-preserved c =
    let es = c.args.self.now in
    let rest = c.loop-kept.rest.now in
    let n = c.loop-kept.next in
    let any : NumberedLine = record { key = 0; line = (record { ref_ptr = (0, 0); now = [] }, 0) } in
    let row = get_or rest 0 any in
    let behind = take (length rest - 1) (drop 1 rest) in
    let is = first_and_rest rest any c.in-len1-up.len_at_least in
    let first = row_first es c.args.front n rest row behind c.requires.within is c.loop-kept.invariant.rows in
    record {
      rows = rows_rest es c.args.front n rest row behind c.requires.within is c.loop-kept.invariant.rows;
      within = all_put _ _ _ row.line.1 c.stays.result c.in_ok-push_if-in-len1-up.ensures first.0.0 c.loop-kept.invariant.within;
      kept = put es _ _ row.line.1 c.stays.result (left es c.args.front c.requires.within n (lines_numbered rest)) _ _ c.in_ok-push_if-in-len1-up.ensures
          (left_row es c.args.front n rest row behind c.requires.within is c.loop-kept.invariant.rows c.stays.result c.in-Greater.ensures c.stays.ensures) c.loop-kept.invariant.kept;
    }
