use Rattle.std.proofs.Common.{◌≡◌, ◌<◌, inl, inr, ℕ, List, length, map, Some, sym, ap, subst, arith, Vec, Global}
use Rattle.std.proofs.lemmas.List.{length-map}
use Rattle.std.proofs.lemmas.List.Elements.{All-weaker}
use Rattle.std.proofs.lemmas.Result.{err_from_is_err_and}
use Rattle.values.specs.Datum.{Datum, datum_of, null}
use Rattle.values.specs.Row.{Row}
use Rattle.values.specs.declared.value.Value.{Value}
use Rattle.expr.specs.Meaning.{Overflows}
use Rattle.expr.specs.View.{term}
use Rattle.expr.specs.Term.{Term}
use Rattle.std.specs.List.{Any}
use Rattle.semantics.specs.Hits.{call_terms}
use Rattle.semantics.specs.Windows.{row_at}
use Rattle.windows.specs.window_entries.Tags.{tags_of}
use Rattle.windows.proofs.AllLemmas.{all_values, rows_given}
use Rattle.windows.proofs.OrderedLemmas.{reached_by_partition}
use Rattle.windows.proofs.evaluated.evaluate_counted.Goals as goal
use Rattle.resolver_terms.specs.SelectView.{call_of, window_of}

pub put_parts-requires : goal.put_parts-requires
put_parts-requires c =
    let rows = map (λ (row : Vec Value Global). map datum_of row.items) c.args.rows.now in
    let are = c.in_ok-parts.ensures.parts null (window_of c.args.call.now.window) (ap (map term) (sym c.as_slice-terms.ensures.value)) in
    let size = length-map c.args.rows.now (λ (row : Vec Value Global). map datum_of row.items) in
    let all = c.in_ok-results.ensures in
    All-weaker (λ (t : Row × ℕ). (t.1 < length rows) × (row_at rows t.1 ≡ t.0)) (λ (t : Row × ℕ). t.1 < length c.in_ok-results.results.items)
    (λ t given. omega (arith, given.0, size, all)) (tags_of c.in_ok-parts.parts.entries.items) are.given

pub returns-clause-values : goal.returns-clause-values
returns-clause-values c = λ w.
    let rows = map (λ (row : Vec Value Global). map datum_of row.items) c.args.rows.now in
    let are = c.in_ok-parts.ensures.parts w (window_of c.args.call.now.window) (ap (map term) (sym c.as_slice-terms.ensures.value)) in
    let size = length-map c.args.rows.now (λ (row : Vec Value Global). map datum_of row.items) in
    let long = length-map c.put_parts.new.results.items datum_of in
    let all = c.in_ok-results.ensures in
    let same = c.put_parts.ensures.size in
    all_values w (call_of c.args.call.now) rows (tags_of c.in_ok-parts.parts.entries.items) c.in_ok-parts.parts.starts.items (map datum_of c.put_parts.new.results.items) are
    (λ g h. c.in_ok-added.ensures.values w (Some w) rows are g h) (omega (arith, size, long, all, same))

pub returns-clause-counted : goal.returns-clause-counted
returns-clause-counted c = let few = c.in_ok-added.ensures.added in let size = c.in_ok-parts.ensures.size in omega (arith, few, size)

pub returns-in_err-parts-clause-overflow : goal.returns-in_err-parts-clause-overflow
returns-in_err-parts-clause-overflow c = λ is.
    let p = err_from_is_err_and c.from_residual.result c.from_residual.ensures.1 in
    let rows = map (λ (row : Vec Value Global). map datum_of row.items) c.args.rows.now in
    inl (reached_by_partition c.args.call.now rows
    (subst (λ (ts : List Term). Any (λ row. Any (λ t. Overflows t row) ts) rows) (ap (map term) c.as_slice-terms.ensures.value) (c.in_err-parts.ensures.overflow (cc (is, p.1, p.2)))))

pub returns-in_err-added-clause-overflow : goal.returns-in_err-added-clause-overflow
returns-in_err-added-clause-overflow c = λ is.
    let p = err_from_is_err_and c.from_residual-in_err-added.result c.from_residual-in_err-added.ensures.1 in
    let rows = map (λ (row : Vec Value Global). map datum_of row.items) c.args.rows.now in
    let are = λ (w : Datum). c.in_ok-parts.ensures.parts w (window_of c.args.call.now.window) (ap (map term) (sym c.as_slice-terms.ensures.value)) in
    elim (c.in_err-added.ensures.overflow (cc (is, p.1, p.2))) [
      | inl some ↦ inl (rows_given (λ row. Any (λ t. Overflows t row) (call_terms (call_of c.args.call.now))) c.in_ok-parts.parts.entries.items rows (are null).given some)
      | inr leaves ↦ inr (λ w. leaves w rows (are w))
    ]
