-- What the loop over names keeps.
use Rattle.std.proofs.Common.{length, ap, arith}
use Rattle.sql_reader_tokens.specs.declared.sign.Sign.TheVariants as s
use Rattle.sql_reader_grammar.proofs.Room.{names_room}
use Rattle.sql_reader_grammar.proofs.Sound.{name_sound}
use Rattle.sql_reader_grammar.specs.Reading.{a_name}
use Rattle.sql_reader_grammar.proofs.lemmas.phrases.StepLemmas.{at_sign}
use Rattle.sql_reader_grammar.proofs.lemmas.phrases.TurnLemmas.{Shrinks}
use Rattle.sql_reader_grammar.specs.phrases.Steps.{after_comma}

pub names_shrink : Shrinks (λ place. a_name) after_comma
names_shrink place ts start x h e =
    let w = name_sound 0 ts x h in
    let l = ap length (at_sign s.Comma x.rest start e) in
    omega (arith, l, names_room w.spelt.1)
