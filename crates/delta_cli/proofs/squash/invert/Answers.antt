use Rattle.std.proofs.Common.{◌≡◌, ℕ, List, [], ◌∷◌, append-nil, subst, sym, ◌∙◌}
use Rattle.std.specs.Borrow.{Bor}
use Rattle.std.proofs.lemmas.List.Concat.{flat_map-cons}
use Rattle.delta_base.specs.declared.id.Id.{Id}
use Rattle.patch_meaning.specs.Checked.{CheckedPatch}
use Rattle.sink_writing.specs.Writing.{joined}
use Rattle.stream_squash.specs.Squashes.{IsInverse}
use Rattle.command_tables.specs.Channels.{Channel}
use Rattle.command_tables.specs.Views.{input_view, output_view}
use Rattle.command_tables.specs.declared.refusal.Refusal.{Refusal}
use Rattle.command_tables.specs.declared.refusal.Refusal.TheVariants as refusals
use Rattle.delta_cli.specs.Results.{PrintsFront, ReadsInput, StopsPrinting}
use Rattle.delta_cli.specs.Squashes.{HasInverted, StopsInverting}
use Rattle.delta_cli.proofs.Printed.{err_weaker, reads_weaker}
use Rattle.delta_cli.proofs.squash.invert.Goals as goal

one_text : (b : Bor (List ℕ)) (text : List ℕ) → b.now ≡ text → joined (b ∷ []) ≡ text
one_text b text is = flat_map-cons (λ (t : Bor (List ℕ)). t.now) b [] ∙ append-nil b.now ∙ is

stops_printing : (id : Id) (input input' out out' : Channel) (text : List ℕ) (p : CheckedPatch) (b : Bor (List ℕ)) → ReadsInput input input' (λ bytes. bytes ≡ text) → IsInverse id text p → b.now ≡ p.text
    → (refusal : Refusal) → StopsPrinting (joined (b ∷ [])) out out' refusal → StopsInverting id refusal input input' out out'
stops_printing id input input' out out' text p b reads inverse is refusals.OutputFailed stops = (
  stops.0,
  reads_weaker input.bytes input'.bytes (λ bytes. bytes ≡ text) (PrintsFront (HasInverted id) out out')
      (λ bytes same. record { result = joined (b ∷ []); has = record { patch = p; inverse = subst (λ (t : List ℕ). IsInverse id t p) (sym same) inverse; result_is = one_text b p.text is }; written = stops.1 }) reads,
)
stops_printing id input input' out out' text p b reads inverse is refusals.OutOfMemory stops = stops
stops_printing id input input' out out' text p b reads inverse is other stops = absurd stops

pub returns-in-Ok-invert-clause-stopped : goal.returns-in-Ok-invert-clause-stopped
returns-in-Ok-invert-clause-stopped g c =
    err_weaker c.print_texts.result _ _
    (stops_printing c.args.id (input_view g.S.Source c.args.input.now) (input_view g.S.Source c.read_text.new.input) (output_view g.K.Sink c.args.out.now) (output_view g.K.Sink c.print_texts.new.out)
    c.in-Ok.text.items c.in-Ok-invert.patch c.as_slice-in-Ok-invert.result c.in-Ok.ensures.ok
    (subst (λ (t : List ℕ). IsInverse c.args.id t c.in-Ok-invert.patch) c.as_slice.ensures.value c.in-Ok-invert.ensures.inverse)
    (c.as_slice-in-Ok-invert.ensures ∙ c.text.ensures.text))
    c.print_texts.ensures.stopped
