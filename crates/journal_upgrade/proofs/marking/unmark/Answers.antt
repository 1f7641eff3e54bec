use Rattle.journal_upgrade.proofs.Marker.{marked_fronts}
use Rattle.journal_upgrade.proofs.marking.unmark.Goals as goal

pub restart-requires-clause-sound : goal.restart-requires-clause-sound
restart-requires-clause-sound g c told = marked_fronts (g.D.Disk.past c.args.set.marker) c.args.set.marker_number (c.requires.marked told)
