use Rattle.delta_cli.proofs.Appending.{faulty, never_too_long}
use Rattle.delta_cli.proofs.append.refusal_of.Goals as goal

pub returns-in-At : goal.returns-in-At
returns-in-At c = faulty c.args.what c.args.text.now c.args.fault c.line_at.result c.in-At.at c.in-At.kind c.requires.has c.in-At.is c.line_at.ensures

pub unreachable-requires : goal.unreachable-requires
unreachable-requires c = never_too_long c.args.what c.args.text.now c.args.fault c.in-TooLong.length c.in-TooLong.limit c.requires.short c.requires.has c.in-TooLong.is
