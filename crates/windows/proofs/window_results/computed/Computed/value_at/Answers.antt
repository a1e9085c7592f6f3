use Rattle.std.proofs.Common.{◌≡◌, ◌∙◌, ◌<◌, ℕ, length, Option, Some, None, sym, arith}
use Rattle.std.proofs.lemmas.Result.{IfOk-weaker}
use Rattle.values.specs.Datum.{Datum, datum_of}
use Rattle.values.specs.declared.value.Value.{Value}
use Rattle.semantics.specs.Query as query
use Rattle.semantics.specs.Valuation.{Valuation}
use Rattle.semantics.specs.Windows.{window_result}
use Rattle.resolver_terms.specs.SelectView.{frame_of}
use Rattle.windows_groups.specs.declared.window_order.placed.Sequence.{Sequence}
use Rattle.windows_groups.specs.window_order.Placed.{keys_in, rows_in, ways_in}
use Rattle.resolver_terms.specs.declared.selects.Frame.{Frame}
use Rattle.windows.specs.window_results.Known.{Known, known_for, known_of, known_result}
use Rattle.windows.specs.window_results.Over.{IsWindowOver}
use Rattle.windows.proofs.lemmas.window_results.KnownLemmas.{known_gives, same_length}
use Rattle.windows.proofs.window_results.computed.Computed.value_at.Goals as goal

gives : (s : Sequence) (frame : Frame) (known : Known) (here : ℕ) → here < length (keys_in s) → (o : Option Datum) (value : Valuation) (window : query.Window) (f : query.WindowFunction)
    → IsWindowOver value window s frame → known ≡ known_for value f (rows_in s)
    → window_result value o window f (rows_in s) here ≡ known_result o (ways_in s) (frame_of frame) (keys_in s) known here
gives s frame known here inside o value window f over is =
    let size = same_length s.entries.now in
    let within : here < length (rows_in s) = omega (arith, inside, size) in
    let keys = sym over.keys in
    let from = sym is in
    known_gives o value window (rows_in s) here within f ∙ (λ i. known_result o (over.ways i) (over.edges i) (keys i) (from i) here)

pub returns-clause-value : goal.returns-clause-value
returns-clause-value c =
    let s = c.args.sequence.now in
    IfOk-weaker c.known_value.result
    (λ (v : Value). (o : Option Datum) → known_result o (ways_in s) (frame_of c.args.frame) (keys_in s) (known_of c.args.self.now) c.args.here ≡ Some (datum_of v))
    (λ (v : Value). (value : Valuation) (o : Option Datum) (window : query.Window) (f : query.WindowFunction) → IsWindowOver value window s c.args.frame
    → known_of c.args.self.now ≡ known_for value f (rows_in s) → window_result value o window f (rows_in s) c.args.here ≡ Some (datum_of v))
    (λ v is value o window f over known. gives s c.args.frame (known_of c.args.self.now) c.args.here c.requires.here o value window f over known ∙ is o)
    c.known_value.ensures.value

pub returns-clause-overflow : goal.returns-clause-overflow
returns-clause-overflow c = λ is value window f over known.
    gives c.args.sequence.now c.args.frame (known_of c.args.self.now) c.args.here c.requires.here None value window f over known ∙ c.known_value.ensures.overflow is
