-- What comes of two phrases of which the second isn't read.
use Rattle.std.proofs.Common.{◌≡◌, Ok, sym, ap}
use Rattle.values.specs.declared.fault.Fault.{Fault}
use Rattle.sql_reader_grammar.specs.Reading.{both}
use Rattle.sql_reader_grammar.proofs.lemmas.phrases.OutcomeLemmas.{fails_along, fails_bind}
use Rattle.sql_reader_grammar.specs.phrases.Outcomes.{Fails, Outcome, Read}
use Rattle.sql_reader_grammar.specs.phrases.Steps.{Rest}

pub second_err : {A B : Type 0} (r : Outcome (Read A)) (f : Rest → Outcome (Read B)) (x : Read A) (e : Fault) → r ≡ Ok x
    → Fails e (f x.rest) → Fails e (both r f)
second_err r f x e h k =
    fails_along e (both (Ok x) f) (both r f) (sym (ap (λ r. both r f) h)) (fails_bind e (f x.rest) _ k)
