-- What is read is shorter than what there was.
use Rattle.std.proofs.Common.{◌≡◌, ◌<◌, Bool, ℕ, length, Ok, ap, arith}
use Rattle.sql_reader_tokens.specs.declared.sign.Sign.TheVariants as s
use Rattle.sql_reader_grammar.specs.Reading.{inner, item, term}
use Rattle.sql_reader_grammar.proofs.Room.{directs_room, room, room_item}
use Rattle.sql_reader_grammar.proofs.SoundParts.{item_sound, term_sound}
use Rattle.sql_reader_grammar.proofs.SoundStatements.{inner_sound}
use Rattle.sql_reader_grammar.proofs.lemmas.phrases.StepLemmas.{at_sign}
use Rattle.sql_reader_grammar.proofs.lemmas.phrases.TurnLemmas.{Shrinks}
use Rattle.sql_reader_grammar.specs.phrases.Outcomes.{Read}
use Rattle.sql_reader_grammar.specs.phrases.Steps.{Rest, after_comma}
use Rattle.sql_reader_syntax.specs.ExprTree.{ExprTree}
use Rattle.sql_reader_syntax.specs.declared.query.Direction.{Direction}
use Rattle.sql_reader_exprs.specs.window_reader.Setting.{Setting, at}

pub item_shorter : (s : Setting) (number : Bool) (ts : Rest) (x : Read ExprTree) → at item s number ts ≡ Ok x
    → length x.rest < length ts
item_shorter t number ts x h =
    let w = item_sound t.source (inner t.source t.depth) t.depth (inner_sound t.source t.depth) number ts x h in
    omega (arith, room_item t.source w.spelt)

pub term_shorter : (s : Setting) (ts : Rest) (x : Read (ExprTree × Direction)) → at term s ts ≡ Ok x
    → length x.rest < length ts
term_shorter t ts x h =
    let w = term_sound t.source (inner t.source t.depth) t.depth (inner_sound t.source t.depth) ts x h in
    omega (arith, room t.source w.spelt.front, directs_room w.spelt.rest.1)

pub items_shrink : (s : Setting) (numbers : ℕ → Bool) → Shrinks (λ place. at item s (numbers place)) after_comma
items_shrink t numbers place ts start x h e =
    let l = ap length (at_sign s.Comma x.rest start e) in omega (arith, l, item_shorter t (numbers place) ts x h)

pub terms_shrink : (s : Setting) → Shrinks (λ place. at term s) after_comma
terms_shrink t place ts start x h e =
    let l = ap length (at_sign s.Comma x.rest start e) in omega (arith, l, term_shorter t ts x h)
