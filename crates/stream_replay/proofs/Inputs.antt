-- An input of which some bytes were read.
use Rattle.std.proofs.Common.{◌≡◌, ℕ, ◌+◌, ◌<◌, ◌≤◌, List, [], ◌++◌, length, Option, Some, None, refl, sym, ap, subst, ◌∙◌, append-nil, length-append, arith}
use Rattle.std.specs.Io.KnownBytes.{Consumes, IsAtEnd}
use Rattle.std.proofs.KnownBytes.{Consumes-nil, Consumes-trans}
use Rattle.sink_writing.specs.declared.room.TheConstants.{PIECE}
use Rattle.stream_replay.specs.declared.fault.ReplayFault.{ReplayFault}
use Rattle.stream_replay.specs.declared.fault.ReplayFault.TheVariants as ends
use Rattle.stream_replay.specs.declared.stream.Streaming.{Streaming}
use Rattle.stream_replay.specs.Source.{EndsReplay, EndsText, IsTooLong, ReadsBytes, stream_limit}
use Rattle.stream_replay.specs.Streaming.{HasFed}

-- so many bytes of an input were read and fed
pub record HasRead (before now : Option (List ℕ)) (s : Streaming) (size : ℕ) : Type 0 where
  pub text : List ℕ
  pub consumed : Consumes before now text
  pub fed : HasFed text s
  pub size_is : length text ≡ size

pub nothing_read : (left : Option (List ℕ)) (s : Streaming) → HasFed [] s → HasRead left left s 0
nothing_read left s fed = record { text = []; consumed = Consumes-nil left; fed = fed; size_is = refl }

pub read_more : (before mid now : Option (List ℕ)) (old new : Streaming) (size count : ℕ) (piece : List ℕ) → HasRead before mid old size → Consumes mid now piece → length piece ≡ count
    → ((text : List ℕ) → HasFed text old → HasFed (text ++ piece) new) → HasRead before now new (size + count)
read_more before mid now old new size count piece h more len feed = record {
  text = h.text ++ piece;
  consumed = Consumes-trans before mid now h.text piece h.consumed more;
  fed = feed h.text h.fed;
  size_is = let a = h.size_is in omega (arith, length-append h.text piece, len);
}

-- the input was read to its end
all_read : (before after : Option (List ℕ)) (text : List ℕ) (IsSuch : List ℕ → Type 0) → Consumes before after text → IsAtEnd after → length text ≤ stream_limit → IsSuch text → ReadsBytes before after IsSuch
all_read None after text IsSuch consumed end short is = tt
all_read (Some all) None text IsSuch consumed end short is = absurd consumed
all_read (Some all) (Some rest) text IsSuch consumed end short is =
    let same : all ≡ text = consumed ∙ ap (λ (l : List ℕ). text ++ l) end ∙ append-nil text in
    (ap Some end, subst (λ (l : List ℕ). length l ≤ stream_limit) (sym same) short, subst IsSuch (sym same) is)

-- a read gave nothing more
pub at_end : (before mid after : Option (List ℕ)) (text piece : List ℕ) (IsSuch : List ℕ → Type 0) → Consumes before mid text → Consumes mid after piece → piece ≡ [] → IsAtEnd after → length text ≤ stream_limit → IsSuch text
    → ReadsBytes before after IsSuch
at_end before mid after text piece IsSuch consumed none empty end short is =
    all_read before after text IsSuch (subst (Consumes before after) (ap (λ (l : List ℕ). text ++ l) empty ∙ append-nil text) (Consumes-trans before mid after text piece consumed none)) end short is

-- how the text ends its replay is how the input does
pub ends_input : (before mid after : Option (List ℕ)) (faults now : ℕ) (text piece : List ℕ) (fault : ReplayFault) → Consumes before mid text → Consumes mid after piece → piece ≡ [] → IsAtEnd after → length text ≤ stream_limit
    → EndsText fault text → EndsReplay before after faults now fault
ends_input before mid after faults now text piece (ends.Stream line at kind) consumed none empty end short is = at_end before mid after text piece (EndsText (ends.Stream line at kind)) consumed none empty end short is
ends_input before mid after faults now text piece (ends.LongPatch size limit) consumed none empty end short is = at_end before mid after text piece (EndsText (ends.LongPatch size limit)) consumed none empty end short is
ends_input before mid after faults now text piece (ends.Chain fault) consumed none empty end short is = at_end before mid after text piece (EndsText (ends.Chain fault)) consumed none empty end short is
ends_input before mid after faults now text piece ends.OutOfMemory consumed none empty end short is = tt
ends_input before mid after faults now text piece _ consumed none empty end short is = absurd is

pub too_long : (before now : Option (List ℕ)) (s : Streaming) (size : ℕ) → HasRead before now s size → stream_limit < size → size ≤ stream_limit + PIECE → IsTooLong before now
too_long before now s size h long short = (h.text, h.consumed, omega (arith, h.size_is, long), omega (arith, h.size_is, short))
