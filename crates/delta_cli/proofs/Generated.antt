-- What the replay of the generator's stream comes to, and what can't stop it.
use Rattle.std.proofs.Common.{◌≡◌, ◌⊎◌, ℕ, ◌≤◌, List, length, Option, None, Some, refl, sym, ap, ◌∙◌, subst, inl, inr, length-append, arith}
use Rattle.chain_core.specs.Links.{IsChain}
use Rattle.chain_core.proofs.Only.{no_fault}
use Rattle.patch_meaning.specs.Patch.{Meaning}
use Rattle.patch_meaning.specs.Replay.{links_said}
use Rattle.patch_meaning.specs.Stream.{IsStream}
use Rattle.patch_meaning.proofs.OneStream.{same_stream, stream_or_fault}
use Rattle.stream_replay.specs.Source.{EndsReplay, IsReplayed, IsTooLong}
use Rattle.stream_replay.specs.declared.fault.ReplayFault.{ReplayFault}
use Rattle.stream_replay.specs.declared.fault.ReplayFault.TheVariants as ends
use Rattle.stream_replay.specs.declared.replay.Replayed.{Replayed}
use Rattle.stream_generator.specs.Generator.{stream_text}
use Rattle.generated_replay.specs.Meanings.{meanings_to}
use Rattle.generated_replay.proofs.Chained.{chained}
use Rattle.generated_replay.proofs.Cutting.{stream_is}
use Rattle.generated_replay.proofs.Rows.{stream_short}
use Rattle.delta_cli.specs.Results.{IsGeneratedLine, counts_line}

-- the text is the stream of no other patches
one_stream : (n : ℕ) → n ≤ 65536 → (ms : List Meaning) → IsStream (stream_text n) ms → ms ≡ meanings_to n
one_stream n small ms is = same_stream (stream_text n) ms (meanings_to n) is (stream_is n small)

pub counts_are : (n : ℕ) (r : Replayed) (line : List ℕ) → IsReplayed r (stream_text n) → line ≡ counts_line r.patches r.quads r.head → IsGeneratedLine n line
counts_are n r line is printed = record {
  meanings = is.meanings;
  stream = is.stream;
  chain = is.replayed.chain;
  text_is = printed ∙ (λ i. counts_line (is.replayed.patches_is i) (is.replayed.quads_is i) (is.replayed.head_is i));
}

-- there are such counts
pub has_counts : (n : ℕ) → n ≤ 65536 → (line : List ℕ) × IsGeneratedLine n line
has_counts n small = (_, record { meanings = meanings_to n; stream = stream_is n small; chain = chained n; text_is = refl })

-- only the source's own failure and want of memory are left
pub only_memory : (n : ℕ) → n ≤ 65536 → (left : Option (List ℕ)) (faults faults' : ℕ) (fault : ReplayFault)
    → EndsReplay (Some (stream_text n)) left faults faults' fault → (fault ≡ ends.Failed) ⊎ (fault ≡ ends.OutOfMemory)
only_memory n small left faults faults' (ends.Stream line at kind) why =
    absurd (stream_or_fault (stream_text n) (meanings_to n) _ (stream_is n small) why.2.fault_is)
only_memory n small left faults faults' (ends.LongPatch size limit) why =
    absurd (stream_or_fault (stream_text n) (meanings_to n) _ (stream_is n small) why.2)
only_memory n small left faults faults' (ends.Chain fault) why =
    let is = one_stream n small why.2.meanings why.2.stream in
    absurd (no_fault (links_said why.2.meanings) fault why.2.breaks (subst (λ (ms : List Meaning). IsChain (links_said ms)) (sym is) (chained n)))
only_memory n small left faults faults' ends.TooLong why = absurd (no_more left why)
  where
    no_more : (left : Option (List ℕ)) → IsTooLong (Some (stream_text n)) left → ⊥
    no_more None long = long.1
    no_more (Some rest) long = omega (arith, long.2, ap length long.1, length-append long.0 rest, stream_short n small)
only_memory n small left faults faults' ends.Failed why = inl refl
only_memory n small left faults faults' ends.OutOfMemory why = inr refl
