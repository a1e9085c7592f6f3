-- What the loop over the items of WITH keeps.
use Rattle.std.proofs.Common.{◌≡◌, ◌<◌, ◌≤◌, ℕ, List, length, Ok, ap, arith}
use Rattle.sql_reader_tokens.specs.declared.sign.Sign.TheVariants as s
use Rattle.sql_reader_grammar.proofs.Room.{listed_room, names_room, room_query}
use Rattle.sql_reader_grammar.proofs.SoundStatements.{item_sound}
use Rattle.sql_reader_grammar.specs.Reading.{an_item}
use Rattle.sql_reader_grammar.specs.Statements.{Columns, IsItem}
use Rattle.sql_reader_grammar.proofs.lemmas.phrases.StepLemmas.{at_sign}
use Rattle.sql_reader_grammar.proofs.lemmas.phrases.TurnLemmas.{Shrinks}
use Rattle.sql_reader_grammar.specs.phrases.Outcomes.{Read}
use Rattle.sql_reader_grammar.specs.phrases.Steps.{Rest, after_comma}
use Rattle.sql_reader_syntax.specs.StatementTree.{ItemTree}
use Rattle.sql_reader_syntax.specs.Tree.{Name}

columns_room : {ns : List Name} {from after : Rest} → Columns ns from after → length after ≤ length from
columns_room Columns.no_columns = omega arith
columns_room (Columns.columns x) = omega (arith, listed_room x)

item_room : (source : ℕ → ℕ → List ℕ) {h : ℕ} {i : ItemTree} {from after : Rest} → IsItem source h i from after
    → length after < length from
item_room source (IsItem.item n cs x) = omega (arith, names_room n, columns_room cs, room_query source x)

pub item_shorter : (source : ℕ → ℕ → List ℕ) (d : ℕ) (ts : Rest) (x : Read ItemTree) → an_item source d ts ≡ Ok x
    → length x.rest < length ts
item_shorter source d ts x h = let w = item_sound source d ts x h in omega (arith, item_room source w.spelt)

pub items_shrink : (source : ℕ → ℕ → List ℕ) (d : ℕ) → Shrinks (λ place. an_item source d) after_comma
items_shrink source d place ts start x h e =
    let l = ap length (at_sign s.Comma x.rest start e) in omega (arith, l, item_shorter source d ts x h)
