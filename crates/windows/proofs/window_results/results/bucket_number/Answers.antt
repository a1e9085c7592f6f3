use Rattle.std.proofs.Common.{◌≡◌, ◌∙◌, ◌+◌, length, pos, Option, Some, ap}
use Rattle.std.proofs.lemmas.Result.{IfOk-weaker}
use Rattle.values.specs.Datum.{Datum, datum_of}
use Rattle.values.specs.declared.value.Value.{Value}
use Rattle.expr.specs.operations.Operations.{settle}
use Rattle.semantics.specs.Windows as windows
use Rattle.windows_groups.specs.window_order.Placed.{keys_in}
use Rattle.windows.proofs.lemmas.window_results.KnownLemmas.{no_buckets}
use Rattle.windows.proofs.window_results.results.bucket_number.Goals as goal

pub returns-then-buckets-eq0-clause-value : goal.returns-then-buckets-eq0-clause-value
returns-then-buckets-eq0-clause-value c =
    let size = length (keys_in c.args.sequence.now) in
    let same = no_buckets c.args.buckets size c.args.here c.if-buckets-eq0.true c.requires in
    IfOk-weaker c.row_number.result
    (λ (v : Value). (o : Option Datum) → settle o (pos (c.args.here + 1)) ≡ Some (datum_of v))
    (λ (v : Value). (o : Option Datum) → settle o (pos (windows.bucket c.args.buckets size c.args.here + 1)) ≡ Some (datum_of v))
    (λ v is o. ap (λ n. settle o (pos (n + 1))) same ∙ is o) c.row_number.ensures.value
