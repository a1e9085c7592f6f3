use Rattle.std.proofs.Common.{◌≡◌, ℕ, inr, length, refl, sym, subst}
use Rattle.std.proofs.lemmas.Result.{err_from_is_err_and}
use Rattle.values.specs.Datum.{null}
use Rattle.expr.specs.Meaning.{eval}
use Rattle.semantics.specs.Query.{WindowFunction}
use Rattle.windows_groups.specs.declared.window_order.placed.Sequence.{Sequence}
use Rattle.windows_groups.specs.window_order.Placed.{keys_in, rows_in}
use Rattle.windows.specs.window_results.Known.{IsAsLong, Known, known_for}
use Rattle.windows.proofs.lemmas.window_results.KnownLemmas.{known_size, same_length}
use Rattle.windows.proofs.window_results.results.put_values.Goals as goal
use Rattle.resolver_terms.specs.SelectView.{function_of}

-- there is a value for each row
as_long : (s : Sequence) (known : Known) (f : WindowFunction) → known ≡ known_for (eval null) f (rows_in s) → (n : ℕ) → length (rows_in s) ≡ n → IsAsLong n known
as_long s known f is n size = subst (λ (k : Known). IsAsLong n k) (sym is) (known_size (eval null) f (rows_in s) n size)

pub put_along-requires-clause-whole : goal.put_along-requires-clause-whole
put_along-requires-clause-whole c =
    let s = c.args.sequence.now in
    as_long s _ (function_of c.args.function.now) (c.in_ok-computed.ensures.known null) (length (keys_in s)) (same_length s.entries.now)

pub returns-clause-values : goal.returns-clause-values
returns-clause-values c = λ w o window want over wanted.
    c.in_ok-put_along.ensures.values (eval w) o window (function_of c.args.function.now) want over (c.in_ok-computed.ensures.known w) wanted

pub returns-clause-added : goal.returns-clause-added
returns-clause-added c =
    let s = c.args.sequence.now in
    c.added.ensures (length (rows_in s)) (as_long s _ (function_of c.args.function.now) (c.in_ok-computed.ensures.known null) (length (rows_in s)) refl)

pub returns-in_err-put_along-clause-overflow : goal.returns-in_err-put_along-clause-overflow
returns-in_err-put_along-clause-overflow c = λ is.
    let p = err_from_is_err_and c.from_residual-in_err-put_along.result c.from_residual-in_err-put_along.ensures.1 in
    inr (λ w window over. c.in_err-put_along.ensures.overflow (cc (is, p.1, p.2)) (eval w) window (function_of c.args.function.now) over (c.in_ok-computed.ensures.known w))
