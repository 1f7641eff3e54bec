use Rattle.std.proofs.Common.{refl}
use Rattle.paired_reading.proofs.Going.{received_none}
use Rattle.paired_reading.proofs.reading.PairReading.new.Goals as goal

pub returns-clause-received : goal.returns-clause-received
returns-clause-received c = received_none _ c.new.ensures.whole refl refl refl c.new.ensures.ids c.new.ensures.bytes c.new.ensures.contents c.new.ensures.room
