-- Where its link works and memory doesn't run out, a session answers all that it read.
use Rattle.std.proofs.Common.{◌≡◌, ◌≢◌, ℕ, List, [], sym, ◌∙◌, append-nil, refl}
use Rattle.http_session.specs.Output.{Exchange, output}
use Rattle.http_session.specs.Talks.{AnswersAll, Writes}
use Rattle.http_text.specs.declared.session.SessionEnd.{SessionEnd}
use Rattle.http_text.specs.declared.session.SessionEnd.TheVariants.{Closed, Asked, Spent, Refused, CutShort, LinkFault, OutOfMemory}

nothing_more : (exchanges : List Exchange) (written : List ℕ) → written ≡ output exchanges → AnswersAll exchanges written
nothing_more exchanges written is = ([], is ∙ sym (append-nil (output exchanges)))

pub all_answered : (exchanges : List Exchange) (rest written : List ℕ) (end : SessionEnd) → Writes exchanges rest written end → (end ≡ LinkFault → ⊥) → end ≢ OutOfMemory → AnswersAll exchanges written
all_answered exchanges rest written Closed w link memory = nothing_more exchanges written w
all_answered exchanges rest written Asked w link memory = nothing_more exchanges written w
all_answered exchanges rest written Spent w link memory = nothing_more exchanges written w
all_answered exchanges rest written (Refused status) w link memory = (_, w.4)
all_answered exchanges rest written CutShort w link memory = (w.0, w.2)
all_answered exchanges rest written LinkFault w link memory = absurd (link refl)
all_answered exchanges rest written OutOfMemory w link memory = absurd (memory refl)
