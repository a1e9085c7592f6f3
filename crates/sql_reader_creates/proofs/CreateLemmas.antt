-- The reader of a CREATE TABLE finds exactly what its grammar says.
use Rattle.std.proofs.Common.{◌≡◌, List, ◌∷◌, length, Option, Some, None, option_and_then, option_map, refl, sym, ap, ◌∙◌, subst, arith}
use Rattle.sql_reader_tokens.specs.Lexeme.{Lexeme}
use Rattle.sql_reader_tokens.specs.declared.keywords.keyword.Keyword.TheVariants as k
use Rattle.sql_reader_tokens.specs.declared.sign.Sign.TheVariants as s
use Rattle.sql_reader_tokens.specs.declared.token.Quoting.{Quoting}
use Rattle.sql_reader_grammar.proofs.lemmas.phrases.ListLemmas.{Shortens}
use Rattle.sql_reader_grammar.proofs.lemmas.phrases.PhraseLemmas.{At, IsFound, IsSpelt, first_parts, follows_comma, follows_many, many_complete, many_sound}
use Rattle.sql_reader_grammar.proofs.lemmas.phrases.OutcomeLemmas.{some_inj}
use Rattle.sql_reader_grammar.proofs.lemmas.phrases.StepLemmas.{at_keyword, at_sign, names}
use Rattle.sql_reader_grammar.specs.phrases.Lists.{AfterComma, Many, Listed}
use Rattle.sql_reader_grammar.specs.phrases.Outcomes.{needed}
use Rattle.sql_reader_grammar.specs.phrases.Steps.{Rest, Found, after_close, after_comma, after_open, cons_found, first_and, many, name}
use Rattle.sql_reader_creates.proofs.lemmas.column_reader.ColumnLemmas.{EndsColumn, column_complete, column_length, column_sound}
use Rattle.sql_reader_creates.proofs.lemmas.column_reader.WordLemmas.{some_mapped, then_parts}
use Rattle.sql_reader_creates.specs.column_reader.ColumnGrammar.{Defines, MaybeTitled}
use Rattle.sql_reader_creates.specs.column_reader.ColumnReading.{column}
use Rattle.sql_reader_creates.proofs.OptionLemmas.{closes_complete, closes_sound}
use Rattle.sql_reader_creates.proofs.TableLemmas.{constraints_complete, constraints_sound}
use Rattle.sql_reader_creates.specs.CreateGrammar.{Closes, Creates, TableConstrains, TableDemands}
use Rattle.sql_reader_creates.specs.CreateReading.{after_create, after_table, another_column, at_name, closed, closing, columns, constrained, constraints, create, definitions, headed, heading, opened, table_options, with_constraints}
use Rattle.sql_reader_syntax.specs.Tree.{Name}
use Rattle.sql_reader_grammar.specs.create_trees.CreateTrees.{ColumnTree, TableConstraintTree, TableTree}
use Rattle.sql_reader_grammar.specs.declared.create_trees.create.TableOption.{TableOption}

-- Columns

same_name : (ts start : Rest) → at_name ts ≡ Some start → ts ≡ start
same_name (Lexeme.Name q n ∷ ts) start h = some_inj _ start h
same_name _ start h = absurd cc

another_at : (ts start : Rest) → another_column ts ≡ Some start → ts ≡ Lexeme.Punctuation s.Comma ∷ start
another_at ts start h =
    let p = then_parts at_name (after_comma ts) start h in
    at_sign s.Comma ts p.0 p.1 ∙ ap (λ ts. Lexeme.Punctuation s.Comma ∷ ts) (same_name p.0 start p.2)

pub column_shortens : Shortens another_column column
column_shortens ts start r e i =
    let same = ap length (another_at ts start e) in
    let l = column_length r.0 start r.1 (column_sound start r i) in
    omega (arith, same, l)

another_found : IsFound (AfterComma Defines) EndsColumn another_column column
another_found x _ mid (AfterComma.comma (Defines.column {q = q} {name = n} {from = from} t m)) e =
    let start = Lexeme.Name q n ∷ from in
    (start, refl, column_complete x start mid (Defines.column t m) e)

another_spelt : IsSpelt (AfterComma Defines) another_column column
another_spelt ts start r e i =
    subst (λ ts. AfterComma Defines r.0 ts r.1) (sym (another_at ts start e)) (AfterComma.comma (column_sound start r i))

comma_ends : (x : ColumnTree) (from mid : Rest) → AfterComma Defines x from mid → EndsColumn from
comma_ends = follows_comma Defines EndsColumn (λ ts. (refl, refl))

columns_complete : {xs : List ColumnTree} {from after : Rest} → Listed Defines xs from after → EndsColumn after
    → another_column after ≡ None → columns from ≡ Some (xs, after)
columns_complete (Listed.listed {x = x} {from = from} {mid = mid} d m) e f =
    ap (first_and (many another_column column))
    (column_complete x from mid d (follows_many (AfterComma Defines) EndsColumn comma_ends m e))
    ∙ ap (cons_found x)
    (many_complete (AfterComma Defines) EndsColumn another_column column column_shortens comma_ends another_found m e f)

columns_sound : (ts : Rest) (r : List ColumnTree × Rest) → columns ts ≡ Some r → At (Listed Defines) ts r
columns_sound ts r h =
    let p = first_parts (many another_column column) (column ts) r h in
    subst (At (Listed Defines) ts) p.4
    (Listed.listed (column_sound ts p.0 p.1)
    (many_sound (AfterComma Defines) another_column column another_spelt p.0.1 p.2 p.3))

-- The statement

no_column : (x : TableConstraintTree) (from mid : Rest) → TableConstrains x from mid
    → another_column (Lexeme.Punctuation s.Comma ∷ from) ≡ None
no_column x from mid (TableConstrains.constraint MaybeTitled.titled d) = refl
no_column x from mid (TableConstrains.constraint MaybeTitled.none (TableDemands.primary_key h c)) = refl
no_column x from mid (TableConstrains.constraint MaybeTitled.none (TableDemands.unique c)) = refl
no_column x from mid (TableConstrains.constraint MaybeTitled.none (TableDemands.check b)) = refl
no_column x from mid (TableConstrains.constraint MaybeTitled.none (TableDemands.foreign_key h l r)) = refl

-- columns end where constraints or the closing parenthesis follow
columns_end : {xs : List TableConstraintTree} {from after : Rest}
    → Many (AfterComma TableConstrains) xs from (Lexeme.Punctuation s.Close ∷ after)
    → EndsColumn from × (another_column from ≡ None)
columns_end Many.none = ((refl, refl), refl)
columns_end (Many.more (AfterComma.comma {x = x} {from = from} {after = mid} c) m) =
    ((refl, refl), no_column x from mid c)

abbrev table_with : Name → List ColumnTree → List TableConstraintTree → List TableOption → TableTree
table_with n cs xs os = record { name = n; columns = cs; constraints = xs; options = os }

pub create_complete : {tree : TableTree} {ts : Rest} → Creates tree ts → create ts ≡ Some tree
create_complete (Creates.table {name = n} {columns = cs} {constraints = xs} l m c) =
    let e = columns_end m in
    ap (λ o. closed n (with_constraints o)) (columns_complete l e.0 e.1)
    ∙ ap (λ o. closed n (constrained cs o)) (constraints_complete m refl refl)
    ∙ ap (option_map (λ os. table_with n cs xs os)) (closes_complete c)

closing_sound : (ts : Rest) (os : List TableOption) → closing ts ≡ Some os
    → (after : Rest) × (ts ≡ Lexeme.Punctuation s.Close ∷ after) × Closes os after
closing_sound ts os h =
    let p = then_parts table_options (after_close ts) os h in
    (p.0, at_sign s.Close ts p.0 p.1, closes_sound p.0 os p.2)

module _ (q : Quoting) (n : Name) (from : Rest) where
  abbrev front : Rest
  front = Lexeme.Reserved k.Create ∷ Lexeme.Reserved k.Table ∷ Lexeme.Name q n ∷ Lexeme.Punctuation s.Open ∷ from

  options_sound : (c : List ColumnTree × Rest) (r : List TableConstraintTree × Rest) (tree : TableTree)
      → columns from ≡ Some c → constraints c.1 ≡ Some r → closed n (Some (c.0, r.0, r.1)) ≡ Some tree → Creates tree front
  options_sound c r tree e i h =
      let m = some_mapped (λ os. table_with n c.0 r.0 os) (closing r.1) tree h in
      let t = closing_sound r.1 m.0 m.1 in
      subst (λ tree. Creates tree front) m.2
      (Creates.table (columns_sound from c e)
      (subst (Many (AfterComma TableConstrains) r.0 c.1) t.1 (constraints_sound c.1 r i)) t.2)

  constraints_sound_at : (c : List ColumnTree × Rest) (o : Found TableConstraintTree) (tree : TableTree) → columns from ≡ Some c
      → constraints c.1 ≡ o → closed n (constrained c.0 o) ≡ Some tree → Creates tree front
  constraints_sound_at c None tree e i h = absurd cc
  constraints_sound_at c (Some r) tree e i h = options_sound c r tree e i h

  columns_sound_at : (o : Found ColumnTree) (tree : TableTree) → columns from ≡ o → closed n (with_constraints o) ≡ Some tree
      → Creates tree front
  columns_sound_at None tree e h = absurd cc
  columns_sound_at (Some c) tree e h = constraints_sound_at c (constraints c.1) tree e refl h

-- what stands at the front where the name of a table was found
opened_parts : (o : Option (Name × Rest)) (r : Name × Rest) → opened o ≡ Some r
    → (named : Name × Rest) × (o ≡ Some named) × (after_open named.1 ≡ Some r.1) × (named.0 ≡ r.0)
opened_parts None r h = absurd cc
opened_parts (Some named) r h =
    let m = some_mapped (λ (after : Rest). (named.0, after)) (after_open named.1) r h in
    (named, refl, m.1 ∙ ap (λ (after : Rest). Some after) (ap (λ (r : Name × Rest). r.1) m.2), ap (λ (r : Name × Rest). r.0) m.2)

heading_sound : (ts : Rest) (r : Name × Rest) → heading ts ≡ Some r → (q : Quoting) × (ts ≡ front q r.0 r.1)
heading_sound ts r h =
    let opening = opened_parts (option_and_then name (option_and_then after_table (after_create ts))) r h in
    let named = then_parts name (option_and_then after_table (after_create ts)) opening.0 opening.1 in
    let table = then_parts after_table (after_create ts) named.0 named.1 in
    let is_create = at_keyword k.Create ts table.0 table.1 in
    let is_table = at_keyword k.Table table.0 named.0 table.2 in
    let is_name = names named.0 opening.0 (ap needed named.2) in
    let is_open = at_sign s.Open opening.0.1 r.1 opening.2 in (
      is_name.0,
      is_create ∙ ap (λ (l : Rest). Lexeme.Reserved k.Create ∷ l)
          (is_table ∙ ap (λ (l : Rest). Lexeme.Reserved k.Table ∷ l)
          (is_name.1 ∙ (λ i. Lexeme.Name is_name.0 (opening.3 i) ∷ is_open i))),
    )

headed_parts : (o : Option (Name × Rest)) (tree : TableTree) → headed o ≡ Some tree
    → (r : Name × Rest) × (o ≡ Some r) × (closed r.0 (definitions r.1) ≡ Some tree)
headed_parts None tree h = absurd cc
headed_parts (Some r) tree h = (r, refl, h)

pub create_sound : (ts : Rest) (tree : TableTree) → create ts ≡ Some tree → Creates tree ts
create_sound ts tree h =
    let head = headed_parts (heading ts) tree h in
    let at = heading_sound ts head.0 head.1 in
    subst (λ (l : Rest). Creates tree l) (sym at.1)
    (columns_sound_at at.0 head.0.0 head.0.1 (columns head.0.1) tree refl head.2)
