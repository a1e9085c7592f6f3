use Rattle.std.proofs.Common.{◌≡◌, ◌∙◌, length, Option, Some, None, ap, subst}
use Rattle.std.proofs.lemmas.Result.{IfOk-weaker}
use Rattle.values.specs.Datum.{Datum, datum_of}
use Rattle.values.specs.declared.value.Value.{Value}
use Rattle.semantics.specs.Windows.{in_frame}
use Rattle.resolver_terms.specs.SelectView.{frame_of}
use Rattle.windows_groups.specs.window_order.Placed.{keys_in, ways_in}
use Rattle.windows.specs.frames.Slices.{slices}
use Rattle.windows.specs.window_results.Framed.{framed_of, over_values}
use Rattle.windows.specs.window_results.Known.{IsAsLong, Known, known_of, known_result, over_frame}
use Rattle.windows.proofs.lemmas.window_results.KnownLemmas.{frame_as_slices}
use Rattle.windows.proofs.window_results.computed.Computed.known_value.Goals as goal

pub returns-in-OverFrame-clause-value : goal.returns-in-OverFrame-clause-value
returns-in-OverFrame-clause-value c =
    let s = c.args.sequence.now in
    let framed = framed_of c.in-OverFrame.framed in
    let r = c.ranges_of-ranges.result in
    let known : known_of c.args.self.now ≡ over_frame framed = ap known_of c.in-OverFrame.is in
    let long : length framed.values ≡ length (keys_in s) = subst (λ (k : Known). IsAsLong (length (keys_in s)) k) known c.requires.whole in
    let same = frame_as_slices (in_frame (ways_in s) (frame_of c.args.frame) (keys_in s) c.args.here) r framed.values (keys_in s) long c.ranges_of-ranges.ensures in
    IfOk-weaker c.value_in.result
    (λ (v : Value). (o : Option Datum) → over_values o framed.function (slices r framed.values) ≡ Some (datum_of v))
    (λ (v : Value). (o : Option Datum) → known_result o (ways_in s) (frame_of c.args.frame) (keys_in s) (known_of c.args.self.now) c.args.here ≡ Some (datum_of v))
    (λ v is o. ap (λ k. known_result o (ways_in s) (frame_of c.args.frame) (keys_in s) k c.args.here) known ∙ ap (over_values o framed.function) same ∙ is o)
    c.value_in.ensures.value

pub returns-in-OverFrame-clause-overflow : goal.returns-in-OverFrame-clause-overflow
returns-in-OverFrame-clause-overflow c = λ is.
    let s = c.args.sequence.now in
    let framed = framed_of c.in-OverFrame.framed in
    let r = c.ranges_of-ranges.result in
    let known : known_of c.args.self.now ≡ over_frame framed = ap known_of c.in-OverFrame.is in
    let long : length framed.values ≡ length (keys_in s) = subst (λ (k : Known). IsAsLong (length (keys_in s)) k) known c.requires.whole in
    let same = frame_as_slices (in_frame (ways_in s) (frame_of c.args.frame) (keys_in s) c.args.here) r framed.values (keys_in s) long c.ranges_of-ranges.ensures in
    ap (λ k. known_result None (ways_in s) (frame_of c.args.frame) (keys_in s) k c.args.here) known ∙ ap (over_values None framed.function) same ∙ c.value_in.ensures.overflow is
