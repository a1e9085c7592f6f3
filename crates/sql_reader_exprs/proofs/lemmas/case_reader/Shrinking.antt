-- What is read is shorter than what there was.
use Rattle.std.proofs.Common.{◌≡◌, ◌<◌, length, Ok, ap, arith}
use Rattle.sql_reader_tokens.specs.declared.keywords.keyword.Keyword.TheVariants as k
use Rattle.sql_reader_grammar.specs.Reading.{arm, inner}
use Rattle.sql_reader_grammar.proofs.Room.{room}
use Rattle.sql_reader_grammar.proofs.SoundParts.{arm_sound}
use Rattle.sql_reader_grammar.proofs.SoundStatements.{inner_sound}
use Rattle.sql_reader_grammar.proofs.lemmas.phrases.StepLemmas.{at_keyword}
use Rattle.sql_reader_grammar.proofs.lemmas.phrases.TurnLemmas.{Shrinks}
use Rattle.sql_reader_grammar.specs.phrases.Outcomes.{Read}
use Rattle.sql_reader_grammar.specs.phrases.Steps.{Rest, after_keyword}
use Rattle.sql_reader_syntax.specs.ExprTree.{ExprTree}
use Rattle.sql_reader_exprs.specs.window_reader.Setting.{Setting, at}

pub arm_shorter : (s : Setting) (ts : Rest) (x : Read (ExprTree × ExprTree)) → at arm s ts ≡ Ok x
    → length x.rest < length ts
arm_shorter t ts x h =
    let w = arm_sound t.source (inner t.source t.depth) t.depth (inner_sound t.source t.depth) ts x h in
    omega (arith, room t.source w.spelt.front, room t.source w.spelt.rest)

pub arms_shrink : (s : Setting) → Shrinks (λ place. at arm s) (after_keyword k.When)
arms_shrink t place ts start x h e =
    let l = ap length (at_keyword k.When x.rest start e) in omega (arith, l, arm_shorter t ts x h)
