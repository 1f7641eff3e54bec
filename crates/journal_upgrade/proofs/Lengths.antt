-- How long the journals of files may be.
use Rattle.std.proofs.Common.{ℕ, ◌+◌, ◌*◌, ◌^◌, ◌<◌, ◌≤◌, Bool, true, false, List, [], ◌∷◌, length, arith}
use Rattle.std.specs.Prelude.{◌==◌, nat_le, if◌then◌else◌, sum_by}
use Rattle.std.proofs.lemmas.List.Sums.{sum_by-cons, get_or-le-sum_by}
use Rattle.log_base.specs.Journals.{payloads_length}
use Rattle.log_base.specs.declared.limits.TheConstants.{LOG_BYTES, REGISTRY_LIMIT, ZONE_FILE_LIMIT, OLD_LOG_BYTES, OLD_REGISTRY_LIMIT, OLD_ZONE_FILE_LIMIT}
use Rattle.log_journal.specs.File.{head_size, AreSized}
use Rattle.log_journal.specs.Reading.{length_in, limit_for}
use Rattle.log_journal.specs.declared.form.Form.{Form}
use Rattle.log_journal.specs.declared.form.Form.TheVariants.{Old, New}
use Rattle.journal_upgrade.specs.Numbers.{limits_of}

-- no limit is more than that of a zone's file
by_tests : (form : Form) (first small : Bool) → limit_for form (if first then record { old = OLD_REGISTRY_LIMIT; new = REGISTRY_LIMIT } else (if small then record { old = OLD_LOG_BYTES; new = LOG_BYTES } else record { old = OLD_ZONE_FILE_LIMIT; new = ZONE_FILE_LIMIT })) ≤ 805306368
by_tests Old true small = omega arith
by_tests Old false true = omega arith
by_tests Old false false = omega arith
by_tests New true small = omega arith
by_tests New false true = omega arith
by_tests New false false = omega arith

limit_bound : (form : Form) (number : ℕ) → limit_for form (limits_of number) ≤ 805306368
limit_bound form number = by_tests form (number == 0) (nat_le number 16)

-- the bytes of a payload in a form
abbrev framed : Form → List ℕ → ℕ
framed form payload = 1 + head_size form + length payload

frame_bounds : (form : Form) → (5 ≤ 1 + head_size form) × (1 + head_size form ≤ 9)
frame_bounds Old = (omega arith, omega arith)
frame_bounds New = (omega arith, omega arith)

as_many : (form : Form) (payloads : List (List ℕ)) → length payloads ≤ sum_by (framed form) payloads
as_many form [] = omega arith
as_many form (p ∷ payloads) = omega (arith, sum_by-cons (framed form) p payloads, as_many form payloads, (frame_bounds form).0)

as_new : (form : Form) (payloads : List (List ℕ)) → sum_by (λ (p : List ℕ). 9 + length p) payloads ≤ 9 * sum_by (framed form) payloads
as_new form [] = omega arith
as_new form (p ∷ payloads) = omega (arith, sum_by-cons (framed form) p payloads, sum_by-cons (λ (q : List ℕ). 9 + length q) p payloads, as_new form payloads, (frame_bounds form).0)

-- what is within the limit can be written in the new form
module _ (form : Form) (number : ℕ) (payloads : List (List ℕ)) (within : length_in form payloads ≤ limit_for form (limits_of number)) where
  pub few : length payloads < 2 ^ 32
  few = omega (arith, within, limit_bound form number, as_many form payloads)

  pub sized : AreSized payloads
  sized k d there = omega (arith, within, limit_bound form number, get_or-le-sum_by (framed form) payloads k d there)

  pub fits : payloads_length payloads < 2 ^ 64
  fits = omega (arith, within, limit_bound form number, as_new form payloads)

-- so it stays within the limit
as_new_tight : (payloads : List (List ℕ)) → 5 * sum_by (framed New) payloads ≤ 9 * sum_by (framed Old) payloads
as_new_tight [] = omega arith
as_new_tight (p ∷ payloads) = omega (arith, sum_by-cons (framed New) p payloads, sum_by-cons (framed Old) p payloads, as_new_tight payloads)

new_by_tests : (form : Form) (first small : Bool) (payloads : List (List ℕ)) → length_in form payloads ≤ limit_for form (if first then record { old = OLD_REGISTRY_LIMIT; new = REGISTRY_LIMIT } else (if small then record { old = OLD_LOG_BYTES; new = LOG_BYTES } else record { old = OLD_ZONE_FILE_LIMIT; new = ZONE_FILE_LIMIT })) → length_in New payloads ≤ limit_for New (if first then record { old = OLD_REGISTRY_LIMIT; new = REGISTRY_LIMIT } else (if small then record { old = OLD_LOG_BYTES; new = LOG_BYTES } else record { old = OLD_ZONE_FILE_LIMIT; new = ZONE_FILE_LIMIT }))
new_by_tests New first small payloads within = within
new_by_tests Old true small payloads within = omega (arith, within, as_new_tight payloads)
new_by_tests Old false true payloads within = omega (arith, within, as_new_tight payloads)
new_by_tests Old false false payloads within = omega (arith, within, as_new_tight payloads)

pub new_within : (form : Form) (number : ℕ) (payloads : List (List ℕ)) → length_in form payloads ≤ limit_for form (limits_of number) → length_in New payloads ≤ limit_for New (limits_of number)
new_within form number payloads within = new_by_tests form (number == 0) (nat_le number 16) payloads within
