use Rattle.std.proofs.Common.{arith}
use Rattle.std.specs.List.{concat, flat_map}
use Rattle.checkpoint_line.specs.First.{first_line}
use Rattle.checkpoint_text.specs.Text.{line_of_id}
use Rattle.paired_zone.proofs.Sizes.{ids-length, parts-length}
use Rattle.paired_zone.proofs.making.file_size.Goals as goal

pub returns : goal.returns
returns c =
    omega (
      arith,
      ids-length c.args.ids.now,
      parts-length (first_line c.args.first.now) (flat_map line_of_id c.args.ids.now) (concat c.args.rows.now) (concat c.args.lines.now),
    )
