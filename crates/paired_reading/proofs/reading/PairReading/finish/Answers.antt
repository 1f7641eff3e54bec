use Rattle.std.proofs.Common.{sym, ap, subst, arith, ◌≤◌, ◌≡◌, ◌-◌, ◌^◌, min}
use Rattle.checkpoint_text.specs.Brief.{Brief, file_length}
use Rattle.paired_reading.specs.Payloads.{AreAllChained}
use Rattle.paired_reading.proofs.Going.{kept_brief, unstopped_length}
use Rattle.paired_reading.proofs.reading.PairReading.finish.Goals as goal

pub returns-clause-ok : goal.returns-clause-ok
returns-clause-ok c first payloads has =
    let reading = c.args.self.reading in
    let read = has.found c.if-no_checkpoint.false c.if-broken.false in
    let within : min (file_length reading.kept.ids.items reading.kept.bytes) (2 ^ 64 - 1) ≤ c.args.limit = omega (arith, c.journal_length-length.ensures, c.if-length-limit.false) in
    let brief = kept_brief reading.kept reading.full read.brief c.args.limit c.requires.small read.kept_is.ids_are read.kept_is.bytes_are (read.kept_is.whole c.if-full.false) within in
    record {
      generation = read.generation;
      start = read.start;
      texts = read.texts;
      patches = read.patches;
      shown_is = read.shown_is;
      begins = read.begins;
      chained = subst (λ (b : Brief). AreAllChained first.reading.most read.start read.texts read.patches b) (sym brief) read.chained;
      within = unstopped_length (file_length reading.kept.ids.items reading.kept.bytes) c.args.limit c.requires.small within;
      met = read.kept_is.met c.if-full.false;
    }
