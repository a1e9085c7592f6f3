-- What is read is shorter than what there was.
use Rattle.std.proofs.Common.{◌≡◌, ◌<◌, length, Ok, ap, arith}
use Rattle.sql_reader_tokens.specs.declared.sign.Sign.TheVariants as s
use Rattle.sql_reader_grammar.specs.Reading.{definition, inner, result}
use Rattle.sql_reader_grammar.proofs.Room.{names_room, room_result, room_window}
use Rattle.sql_reader_grammar.proofs.SoundQueries.{definition_sound, result_sound}
use Rattle.sql_reader_grammar.proofs.SoundStatements.{inner_sound}
use Rattle.sql_reader_grammar.proofs.lemmas.phrases.StepLemmas.{at_sign}
use Rattle.sql_reader_grammar.proofs.lemmas.phrases.TurnLemmas.{Shrinks}
use Rattle.sql_reader_grammar.specs.phrases.Outcomes.{Read}
use Rattle.sql_reader_grammar.specs.phrases.Steps.{Rest, after_comma}
use Rattle.sql_reader_syntax.specs.ExprTree.{ResultTree, WindowTree}
use Rattle.sql_reader_syntax.specs.Tree.{Name}
use Rattle.sql_reader_exprs.specs.window_reader.Setting.{Setting, at}

pub column_shorter : (s : Setting) (ts : Rest) (x : Read ResultTree) → at result s ts ≡ Ok x → length x.rest < length ts
column_shorter t ts x h =
    let w = result_sound t.source (inner t.source t.depth) t.depth (inner_sound t.source t.depth) ts x h in
    omega (arith, room_result t.source w.spelt)

pub definition_shorter : (s : Setting) (ts : Rest) (x : Read (Name × WindowTree)) → at definition s ts ≡ Ok x
    → length x.rest < length ts
definition_shorter t ts x h =
    let w = definition_sound t.source (inner t.source t.depth) t.depth (inner_sound t.source t.depth) ts x h in
    omega (arith, names_room w.spelt.front.1, room_window t.source w.spelt.rest)

pub columns_shrink : (s : Setting) → Shrinks (λ place. at result s) after_comma
columns_shrink t place ts start x h e =
    let l = ap length (at_sign s.Comma x.rest start e) in omega (arith, l, column_shorter t ts x h)

pub definitions_shrink : (s : Setting) → Shrinks (λ place. at definition s) after_comma
definitions_shrink t place ts start x h e =
    let l = ap length (at_sign s.Comma x.rest start e) in omega (arith, l, definition_shorter t ts x h)
