-- A number and bytes behind it, in two writes.
use Rattle.std.proofs.Common.{◌≡◌, inl, inr, ℕ, ◌+◌, ◌-◌, ◌≤◌, List, [], ◌∷◌, ◌++◌, length, refl, sym, ◌∙◌, ap, subst, arith}
use Rattle.disk_model.specs.Past.{Past, began, wrote, synced, reads, overwritten, ok_syncs}
use Rattle.disk_model.specs.Calls.{WroteSome}
use Rattle.std.specs.Prelude.{Result, Ok, Err, OnOk, OnErr}
use Rattle.disk_model.proofs.Images.{length-overwritten}
use Rattle.log_journal.specs.Writing.{WroteBehind}
use Rattle.log_journal.proofs.Bytes.{two_writes}

-- no write yet
pub none_behind : (end : ℕ) (past : Past) → WroteBehind end past past
none_behind end (began bytes) = refl
none_behind end (wrote past at bytes) = inl refl
none_behind end (synced past) = refl

-- one more
pub one_behind : (end : ℕ) (old past : Past) (at : ℕ) (bytes : List ℕ) → end ≤ at → WroteBehind end old past → WroteBehind end old (wrote past at bytes)
one_behind end old past at bytes behind so_far = inr (behind, so_far)

-- one that failed
pub some_behind : (end : ℕ) (old past new : Past) (at n : ℕ) → end ≤ at → WroteBehind end old past → WroteSome at n past new → WroteBehind end old new
some_behind end old past new at n behind so_far (inl same) = subst (WroteBehind end old) (sym same) so_far
some_behind end old past new at n behind so_far (inr some) = subst (WroteBehind end old) (sym some.2) (one_behind end old past at some.0 behind so_far)

pub length_after : (file bytes : List ℕ) (at : ℕ) → at ≤ length file → at + length bytes ≤ length (overwritten file at bytes)
length_after file bytes at within = omega (arith, length-overwritten file at bytes)

module _ (old first new : Past) (at : ℕ) (number bytes : List ℕ) (within : at ≤ length (reads old)) (size : length number ≡ 4) (is_first : first ≡ wrote old at number) where
  first_behind : WroteBehind at old first
  first_behind = subst (WroteBehind at old) (sym is_first) (one_behind at old old at number (omega arith) (none_behind at old))

  pub both_read : reads (wrote first (at + 4) bytes) ≡ overwritten (reads old) at (number ++ bytes)
  both_read =
      ap (λ p. overwritten (reads p) (at + 4) bytes) is_first
      ∙ (let place : at + 4 ≡ at + length number = omega (arith, size) in ap (λ (n : ℕ). overwritten (overwritten (reads old) at number) n bytes) place)
      ∙ two_writes (reads old) number bytes at within

  pub two_behind : new ≡ synced (wrote first (at + 4) bytes) → (written : Past) × WroteBehind at old written × (reads written ≡ overwritten (reads old) at (number ++ bytes)) × (new ≡ synced written)
  two_behind is = (wrote first (at + 4) bytes, one_behind at old first (at + 4) bytes (omega arith) first_behind, both_read, is)

  pub second_failed : WroteSome (at + 4) (length bytes) first new → WroteBehind at old new
  second_failed failed = some_behind at old first new (at + 4) (length bytes) (omega arith) first_behind failed

-- both halves of an append leave a file that has the gate behind them
pub long_enough : (old mid new : Past) (end : ℕ) (bytes : List ℕ) → 1 ≤ end → end ≤ length (reads old) → reads mid ≡ overwritten (reads old) end bytes → new ≡ synced (wrote mid (end - 1) (1 ∷ [])) → end + length bytes ≤ length (reads new)
long_enough old mid new end bytes some within read is =
    let first : end + length bytes ≤ length (reads mid) = omega (arith, ap length read, length_after (reads old) bytes end within) in
    omega (arith, ap (λ p. length (reads p)) is, length-overwritten (reads mid) (end - 1) (1 ∷ []), first)

-- writes never shorten a file
pub no_shorter : (end : ℕ) (old new : Past) → WroteBehind end old new → length (reads old) ≤ length (reads new)
no_shorter end old (began bytes) same = omega (arith, ap (λ p. length (reads p)) same)
no_shorter end old (wrote past at bytes) (inl same) = omega (arith, ap (λ p. length (reads p)) same)
no_shorter end old (wrote past at bytes) (inr more) = omega (arith, no_shorter end old past more.1, length-overwritten (reads past) at bytes)
no_shorter end old (synced past) same = omega (arith, ap (λ p. length (reads p)) same)

-- and sync nothing
pub same_syncs : (end : ℕ) (old new : Past) → WroteBehind end old new → ok_syncs new ≡ ok_syncs old
same_syncs end old (began bytes) same = ap ok_syncs same
same_syncs end old (wrote past at bytes) (inl same) = ap ok_syncs same
same_syncs end old (wrote past at bytes) (inr more) = same_syncs end old past more.1
same_syncs end old (synced past) same = ap ok_syncs same

-- nor does a gate that is written
pub gate_longer : {T E : Type 0} (mid new : Past) (r : Result T E) → OnOk r (new ≡ synced (wrote mid 8 (1 ∷ []))) → OnErr r (WroteSome 8 1 mid new) → length (reads mid) ≤ length (reads new)
gate_longer mid new (Ok done) is failed = omega (arith, ap (λ p. length (reads p)) is, length-overwritten (reads mid) 8 (1 ∷ []))
gate_longer mid new (Err fault) is (inl same) = omega (arith, ap (λ p. length (reads p)) same)
gate_longer mid new (Err fault) is (inr some) = omega (arith, ap (λ p. length (reads p)) some.2, length-overwritten (reads mid) 8 some.0)
