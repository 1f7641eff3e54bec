-- From what a text has to what was printed of it.
use Rattle.std.proofs.Common.{◌≡◌, ℕ, zero, suc, ◌+◌, ◌-◌, ◌<◌, ◌≤◌, inl, inr, ⊎_elim, List, ◌++◌, Option, None, Some, Result, Ok, Err, IfErr, OnOk, ap, arith}
use Rattle.delta_base.specs.Outside.{Rose}
use Rattle.delta_cli.specs.Zones.{bytes_of}
use Rattle.stream_generator.specs.Generator.{patch_text, patches_from}
use Rattle.stream_replay.specs.declared.replay.Replayed.{Replayed}
use Rattle.stream_replay.specs.Source.{ReadsBytes, IsReplayed}
use Rattle.command_tables.specs.declared.refusal.Refusal.{Refusal}
use Rattle.command_tables.specs.declared.refusal.Refusal.TheVariants as refusals
use Rattle.command_tables.specs.Channels.{Channel}
use Rattle.delta_cli.specs.Results.{ReadsInput, PrintsFront, HasReplayLines, StopsPrinting, StopsReplay}

pub reads_weaker : (before after : Option (List ℕ)) (P Q : List ℕ → Type 0) → ((text : List ℕ) → P text → Q text) → ReadsBytes before after P → ReadsBytes before after Q
reads_weaker None after P Q f reads = tt
reads_weaker (Some text) after P Q f reads = (reads.0, reads.1, f text reads.2)

pub err_weaker : {T E : Type 0} (r : Result T E) (P Q : E → Type 0) → ((e : E) → P e → Q e) → IfErr r P → IfErr r Q
err_weaker (Ok x) P Q f h = tt
err_weaker (Err e) P Q f h = f e h

pub ok_weaker : {T E : Type 0} (r : Result T E) (P Q : Type 0) → (P → Q) → OnOk r P → OnOk r Q
ok_weaker (Ok x) P Q f h = f h
ok_weaker (Err e) P Q f h = tt

pub has_lines : (r : Replayed) (text : List ℕ) → IsReplayed r text → HasReplayLines text (bytes_of r.lines)
has_lines r text is = record { patches = is.meanings; stream = is.stream; chain = is.replayed.chain; lines_are = is.replayed.lines_are }

module _ (input input' out out' : Channel) (r : Replayed) (reads : ReadsInput input input' (IsReplayed r)) where
  pub stops_printing : (refusal : Refusal) → StopsPrinting (bytes_of r.lines) out out' refusal → StopsReplay refusal input input' out out'
  stops_printing refusals.OutputFailed stops = (
    stops.0,
    reads_weaker input.bytes input'.bytes (IsReplayed r) (PrintsFront HasReplayLines out out') (λ text is. record { result = bytes_of r.lines; has = has_lines r text is; written = stops.1 }) reads,
  )
  stops_printing refusals.OutOfMemory stops = stops
  stops_printing other stops = absurd stops

-- the next patch, and those behind it
pub from_more : (k all made : ℕ) → made < all → patches_from k (all - made) ≡ patch_text k ++ patches_from (k + 1) (all - (made + 1))
from_more k all made more = by (all - made) (all - (made + 1)) (omega (arith, more))
  where
    by : (n m : ℕ) → n ≡ m + 1 → patches_from k n ≡ patch_text k ++ patches_from (k + 1) m
    by zero m e = absurd (omega (arith, e))
    by (suc n) m e = ap (λ (c : ℕ). patch_text k ++ patches_from (k + 1) c) (omega (arith, e))

-- a count rose since an earlier moment too
pub rose_since : (a b c : ℕ) → a ≤ b → Rose b c → Rose a c
rose_since a b c low rose = ⊎_elim (λ (more : b < c). inl (omega (arith, low, more))) (λ last. inr last) rose
