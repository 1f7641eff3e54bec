use Rattle.std.proofs.Common.{List, ℕ, [], Option, ap, unwrap_or}
use Rattle.http_text.specs.Print.{phrase_of}
use Rattle.http_text.proofs.print.phrase_of.Goals as goal

pub returns-in-Some : goal.returns-in-Some
unfolding phrase_of
returns-in-Some c = ap (λ (o : Option (List ℕ)). unwrap_or o []) c.in-Some.ensures.value

pub returns-in-None : goal.returns-in-None
unfolding phrase_of
returns-in-None c = ap (λ (o : Option (List ℕ)). unwrap_or o []) c.in-None.ensures.value
