-- A stream to which pieces were fed.
use Rattle.std.proofs.Common.{◌≡◌, ℕ, List, ◌++◌, Option, Some, None, refl, sym, ap, subst, ◌∙◌}
use Rattle.patch_rows.specs.declared.cut.TextEnd.TheVariants as cuts
use Rattle.patch_reader.specs.Window.{Window}
use Rattle.patch_meaning.specs.Patch.{Meaning}
use Rattle.stream_replay.specs.declared.fault.ReplayFault.{ReplayFault}
use Rattle.stream_replay.specs.declared.progress.StreamProgress.{StreamProgress}
use Rattle.stream_replay.specs.declared.stream.Streaming.{Streaming}
use Rattle.stream_replay.specs.Source.{EndsText}
use Rattle.stream_replay.specs.Streaming.{HasBoundedLog, HasFed, HasMet, HasStreamed, IsStreamRead, IsToldEnd}
use Rattle.stream_replay.proofs.Bounds.{all_in_all}
use Rattle.stream_replay.proofs.Streams.{now, streamed_longer, streamed_whole}

-- no fault was met
abbrev IsWell : Option ReplayFault → Type 0
IsWell fault = (told : ReplayFault) → fault ≡ Some told → ⊥

no_fault : (fault : Option ReplayFault) (text : List ℕ) (s : Streaming) → IsWell fault → HasMet fault text s → (s.window.fed ≡ text) × IsStreamRead cuts.Open s
no_fault None text s well has = has
no_fault (Some told) text s well has = absurd (well told refl)

-- ---- a piece more

-- the window has the piece
abbrev IsPushed : Window → List ℕ → Window → Type 0
IsPushed old piece new = new ≡ record old { fed = old.fed ++ piece; front = new.front }

read_longer : (old new : Window) (piece : List ℕ) (p : StreamProgress) → IsPushed old piece new → HasStreamed cuts.Open old.fed old.passed p → HasStreamed cuts.Open new.fed new.passed p
read_longer old new piece p is h = subst (λ (w : Window). HasStreamed cuts.Open w.fed w.passed p) (sym is) (streamed_longer old.fed piece old.passed p h)

module _ (text piece : List ℕ) (old : Streaming) (pushed : Window) (well : IsWell old.fault) (push : IsPushed old.window piece pushed) (has : HasFed text old) where
  -- the rows so far were taken, whatever the piece
  pub read_on : HasStreamed cuts.Open pushed.fed pushed.passed old.progress
  read_on = read_longer old.window pushed piece old.progress push (no_fault old.fault text old well has).1

  -- a fault was met
  pub fed_stopped : (told : ReplayFault) → (HasStreamed cuts.Open pushed.fed pushed.passed old.progress → IsToldEnd cuts.Open pushed.fed told) → IsToldEnd cuts.Open (text ++ piece) told
  fed_stopped told stops =
      let met = no_fault old.fault text old well has in
      subst (λ (t : List ℕ). IsToldEnd cuts.Open t told) (ap (λ (w : Window). w.fed) push ∙ ap (λ (t : List ℕ). t ++ piece) met.0) (stops read_on)

  -- further rows were taken, and so much is held at most
  pub fed_bounded : (new : StreamProgress) (text' : List ℕ) (at : ℕ) → (HasStreamed cuts.Open pushed.fed pushed.passed old.progress → HasStreamed cuts.Open text' at new) → (ms : List Meaning) × HasBoundedLog ms new
  fed_bounded new text' at goes = let h = goes read_on in (h.ms, all_in_all h.ms new at h.replayed h.memory)

-- ---- the text is whole

pub faulty_whole : (text : List ℕ) (told : ReplayFault) → IsToldEnd cuts.Open text told → EndsText told text
faulty_whole text told is = is text (now cuts.Open text)

pub fed_whole : (text : List ℕ) (s : Streaming) → IsWell s.fault → HasFed text s → (s.window.fed ≡ text) × IsStreamRead cuts.Known s
fed_whole text s well has = let met = no_fault s.fault text s well has in (met.0, streamed_whole s.window.fed s.window.passed s.progress met.1)
