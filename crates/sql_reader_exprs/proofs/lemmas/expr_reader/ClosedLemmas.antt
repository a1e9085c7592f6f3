-- A phrase behind which its parenthesis isn't closed.
use Rattle.std.proofs.Common.{◌≡◌, Option, Ok, sym, ap}
use Rattle.values.specs.declared.fault.Fault.{Fault}
use Rattle.sql_reader_grammar.specs.phrases.Outcomes.{Fails, Outcome, Read, ◌>>=◌, needed, read}
use Rattle.sql_reader_grammar.specs.phrases.Steps.{Rest}
use Rattle.sql_reader_grammar.proofs.lemmas.phrases.OutcomeLemmas.{fails_along, fails_bind}
use Rattle.sql_reader_grammar.specs.Reading.{closed, made}

pub closed_err : {A B : Type 0} (g : A → B) (close : Rest → Option Rest) (r : Outcome (Read A)) (x : Read A) (e : Fault)
    → r ≡ Ok x → Fails e (needed (close x.rest)) → Fails e (made g (closed close r))
closed_err g close r x e h f =
    fails_along e _ _ (sym (ap (λ r. made g (closed close r)) h))
    (fails_bind e (needed (close x.rest) >>= λ rest. Ok (read x.tree x.levels rest))
    (λ x. Ok (read (g x.tree) x.levels x.rest))
    (fails_bind e (needed (close x.rest)) (λ rest. Ok (read x.tree x.levels rest)) f))
