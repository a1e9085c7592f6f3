-- The reader of a table's constraints finds exactly what their grammar says.
use Rattle.std.proofs.Common.{◌≡◌, true, ◌<◌, List, ◌∷◌, length, codes, Some, None, option_map, option_and_then, refl, sym, ap, ◌∙◌, subst, arith}
use Rattle.std.proofs.lemmas.Bool.{cond-true}
use Rattle.sql_reader_tokens.specs.Content.{is_bare_word}
use Rattle.sql_reader_tokens.specs.Lexeme.{Lexeme}
use Rattle.sql_reader_tokens.specs.declared.keywords.keyword.Keyword.TheVariants as k
use Rattle.sql_reader_tokens.specs.declared.sign.Sign.TheVariants as s
use Rattle.sql_reader_grammar.proofs.lemmas.phrases.ListLemmas.{Shortens}
use Rattle.sql_reader_grammar.proofs.lemmas.phrases.PhraseLemmas.{At, TakesOne, follows_comma, found_after_comma, many_complete, many_sound, shortens_after_comma, spelt_after_comma}
use Rattle.sql_reader_grammar.proofs.lemmas.phrases.StepLemmas.{at_keyword, at_sign}
use Rattle.sql_reader_grammar.specs.phrases.Lists.{AfterComma, Listed, Many}
use Rattle.sql_reader_grammar.specs.phrases.Steps.{Rest, after_comma, after_open, after_word}
use Rattle.sql_reader_creates.proofs.lemmas.column_reader.BodyLemmas.{balanced_complete, balanced_length}
use Rattle.sql_reader_creates.proofs.lemmas.column_reader.ConstraintLemmas.{body_sound, title_sound}
use Rattle.sql_reader_creates.proofs.lemmas.column_reader.ReferenceLemmas.{listed_length, names_complete, names_sound, refers_complete, refers_length, refers_sound}
use Rattle.sql_reader_creates.proofs.lemmas.column_reader.WordLemmas.{IsEnd, some_mapped, then_parts, word_sound}
use Rattle.sql_reader_creates.specs.column_reader.ColumnGrammar.{Body, MaybeTitled, Named}
use Rattle.sql_reader_creates.specs.column_reader.ColumnReading.{after_title, body, names, refers}
use Rattle.sql_reader_creates.proofs.KeyLemmas.{all_complete, all_length, all_sound}
use Rattle.sql_reader_creates.specs.CreateGrammar.{IndexesAll, TableConstrains, TableDemands}
use Rattle.sql_reader_creates.specs.CreateReading.{after_references, constraint, constraints, demand, foreign_key, indexed_all, key_of, primary_key, referring}
use Rattle.sql_reader_syntax.specs.Tree.{Name}
use Rattle.sql_reader_grammar.specs.create_trees.CreateTrees.{IndexedColumnTree, TableConstraintTree}

-- Demands

key_complete : {xs : List IndexedColumnTree} (word : Lexeme) {from after : Rest} → is_bare_word word (codes "KEY") ≡ true
    → IndexesAll xs from after → primary_key (word ∷ from) ≡ Some (TableConstraintTree.PrimaryKey xs, after)
key_complete word h c =
    ap (λ o. option_map key_of (option_and_then indexed_all o)) (cond-true _ _ _ h) ∙ ap (option_map key_of) (all_complete c)

demand_complete : {x : TableConstraintTree} {from mid : Rest} → TableDemands x from mid → IsEnd mid
    → (let r : TableConstraintTree × Rest = (x, mid) in demand from ≡ Some r)
demand_complete (TableDemands.primary_key {word = word} h c) e = key_complete word h c
demand_complete (TableDemands.unique c) e =
    ap (option_map (λ (r : List IndexedColumnTree × Rest). (TableConstraintTree.Unique r.0, r.1))) (all_complete c)
demand_complete (TableDemands.check (Body.body b)) e =
    ap (option_map (λ rest. (TableConstraintTree.Check, rest))) (balanced_complete b 0)
demand_complete (TableDemands.foreign_key {names = ns} h l r) e =
    ap (λ o. option_and_then referring (option_and_then names (option_and_then after_open o))) (cond-true _ _ _ h)
    ∙ ap (option_and_then referring) (names_complete l)
    ∙ ap (option_map (λ rest. (TableConstraintTree.ForeignKey ns, rest))) (refers_complete r e)

key_sound : (ts : Rest) (r : TableConstraintTree × Rest) → primary_key ts ≡ Some r
    → At TableDemands (Lexeme.Reserved k.Primary ∷ ts) r
key_sound ts r h =
    let m = some_mapped key_of (option_and_then indexed_all (after_word (codes "KEY") ts)) r h in
    let p = then_parts indexed_all (after_word (codes "KEY") ts) m.0 m.1 in
    let w = word_sound (codes "KEY") ts p.0 p.1 in
    subst (λ ts. At TableDemands (Lexeme.Reserved k.Primary ∷ ts) r) (sym w.1)
    (subst (At TableDemands (Lexeme.Reserved k.Primary ∷ w.0 ∷ p.0)) m.2
    (TableDemands.primary_key w.2 (all_sound p.0 m.0 p.2)))

referring_sound : (word : Lexeme) (ts : Rest) (ns : List Name × Rest) (r : TableConstraintTree × Rest)
    → is_bare_word word (codes "KEY") ≡ true → names ts ≡ Some ns → referring ns ≡ Some r
    → At TableDemands (Lexeme.Reserved k.Foreign ∷ word ∷ Lexeme.Punctuation s.Open ∷ ts) r
referring_sound word ts ns r h n e =
    let m = some_mapped (λ rest. (let r : TableConstraintTree × Rest = (TableConstraintTree.ForeignKey ns.0, rest) in r))
    (option_and_then refers (after_references ns.1)) r e in
    let p = then_parts refers (after_references ns.1) m.0 m.1 in
    let at = at_keyword k.References ns.1 p.0 p.1 in
    subst (At TableDemands (Lexeme.Reserved k.Foreign ∷ word ∷ Lexeme.Punctuation s.Open ∷ ts)) m.2
    (TableDemands.foreign_key h
    (subst (λ rest. Listed Named ns.0 ts (Lexeme.Punctuation s.Close ∷ rest)) at (names_sound ts ns n))
    (refers_sound p.0 m.0 p.2))

foreign_sound : (ts : Rest) (r : TableConstraintTree × Rest) → foreign_key ts ≡ Some r
    → At TableDemands (Lexeme.Reserved k.Foreign ∷ ts) r
foreign_sound ts r h =
    let a = then_parts referring (option_and_then names (option_and_then after_open (after_word (codes "KEY") ts))) r h in
    let b = then_parts names (option_and_then after_open (after_word (codes "KEY") ts)) a.0 a.1 in
    let c = then_parts after_open (after_word (codes "KEY") ts) b.0 b.1 in
    let w = word_sound (codes "KEY") ts c.0 c.1 in
    let at = at_sign s.Open c.0 b.0 c.2 in
    subst (λ ts. At TableDemands (Lexeme.Reserved k.Foreign ∷ ts) r) (sym (w.1 ∙ ap (λ ts. w.0 ∷ ts) at))
    (referring_sound w.0 b.0 a.0 r w.2 b.2 a.2)

demand_sound : (ts : Rest) (r : TableConstraintTree × Rest) → demand ts ≡ Some r → At TableDemands ts r
demand_sound (Lexeme.Reserved k.Primary ∷ ts) r h = key_sound ts r h
demand_sound (Lexeme.Reserved k.Unique ∷ ts) r h =
    let m = some_mapped
    (λ (x : List IndexedColumnTree × Rest). (let r : TableConstraintTree × Rest = (TableConstraintTree.Unique x.0, x.1) in r))
    (indexed_all ts) r h in
    subst (At TableDemands (Lexeme.Reserved k.Unique ∷ ts)) m.2 (TableDemands.unique (all_sound ts m.0 m.1))
demand_sound (Lexeme.Reserved k.Check ∷ ts) r h =
    let m = some_mapped (λ rest. (let r : TableConstraintTree × Rest = (TableConstraintTree.Check, rest) in r)) (body ts) r h in
    subst (At TableDemands (Lexeme.Reserved k.Check ∷ ts)) m.2 (TableDemands.check (body_sound ts m.0 m.1))
demand_sound (Lexeme.Reserved k.Foreign ∷ ts) r h = foreign_sound ts r h
demand_sound _ r h = absurd cc

demand_length : {x : TableConstraintTree} {from mid : Rest} → TableDemands x from mid → length mid < length from
demand_length (TableDemands.primary_key h c) = let l = all_length c in omega (arith, l)
demand_length (TableDemands.unique c) = let l = all_length c in omega (arith, l)
demand_length (TableDemands.check (Body.body b)) = let l = balanced_length b in omega (arith, l)
demand_length (TableDemands.foreign_key h l r) =
    let i = listed_length l in let j = refers_length r in omega (arith, i, j)

-- what a demand begins with
demand_front : {x : TableConstraintTree} {from mid : Rest} → TableDemands x from mid → after_title from ≡ Some from
demand_front (TableDemands.primary_key h c) = refl
demand_front (TableDemands.unique c) = refl
demand_front (TableDemands.check b) = refl
demand_front (TableDemands.foreign_key h l r) = refl

-- Constraints

constraint_complete : (x : TableConstraintTree) (from mid : Rest) → TableConstrains x from mid → IsEnd mid
    → (let r : TableConstraintTree × Rest = (x, mid) in constraint from ≡ Some r)
constraint_complete x from mid (TableConstrains.constraint MaybeTitled.none d) e =
    ap (option_and_then demand) (demand_front d) ∙ demand_complete d e
constraint_complete x from mid (TableConstrains.constraint MaybeTitled.titled d) e = demand_complete d e

constraint_sound : (ts : Rest) (r : TableConstraintTree × Rest) → constraint ts ≡ Some r → At TableConstrains ts r
constraint_sound ts r h =
    let p = then_parts demand (after_title ts) r h in
    TableConstrains.constraint (title_sound ts p.0 p.1) (demand_sound p.0 r p.2)

constraint_length : (x : TableConstraintTree) (from mid : Rest) → TableConstrains x from mid → length mid < length from
constraint_length x from mid (TableConstrains.constraint MaybeTitled.none d) = demand_length d
constraint_length x from mid (TableConstrains.constraint MaybeTitled.titled d) =
    let l = demand_length d in omega (arith, l)

constraint_takes_one : TakesOne constraint
constraint_takes_one ts r h = constraint_length r.0 ts r.1 (constraint_sound ts r h)

pub constraint_shortens : Shortens after_comma constraint
constraint_shortens = shortens_after_comma constraint constraint_takes_one

pub constraints_complete : {xs : List TableConstraintTree} {from after : Rest} → Many (AfterComma TableConstrains) xs from after
    → IsEnd after → after_comma after ≡ None → constraints from ≡ Some (xs, after)
constraints_complete m f e =
    many_complete (AfterComma TableConstrains) IsEnd after_comma constraint constraint_shortens
    (follows_comma TableConstrains IsEnd (λ ts. refl))
    (found_after_comma TableConstrains IsEnd constraint constraint_complete) m f e

pub constraints_sound : (ts : Rest) (r : List TableConstraintTree × Rest) → constraints ts ≡ Some r
    → At (Many (AfterComma TableConstrains)) ts r
constraints_sound =
    many_sound (AfterComma TableConstrains) after_comma constraint
    (spelt_after_comma TableConstrains constraint constraint_sound)
