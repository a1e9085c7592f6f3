-- What stands behind REFERENCES is read as its grammar says.
use Rattle.std.proofs.Common.{◌≡◌, Bool, true, false, ◌||◌, ◌<◌, ◌≤◌, List, [], ◌∷◌, length, codes, Option, Some, None, option_map, option_and_then, cond, refl, sym, ap, ◌∙◌, subst, arith}
use Rattle.std.proofs.lemmas.Bool.{cond-true, cond-false}
use Rattle.sql_reader_tokens.specs.Content.{is_bare_word}
use Rattle.sql_reader_tokens.specs.Lexeme.{Lexeme}
use Rattle.sql_reader_tokens.specs.declared.keywords.keyword.Keyword.TheVariants as k
use Rattle.sql_reader_tokens.specs.declared.sign.Sign.TheVariants as s
use Rattle.sql_reader_grammar.proofs.lemmas.phrases.ListLemmas.{Shortens}
use Rattle.sql_reader_grammar.proofs.lemmas.phrases.PhraseLemmas.{At, IsFound, IsSpelt, TakesOne, listed_complete, listed_sound, many_complete, many_length, many_sound, shortens_after_comma}
use Rattle.sql_reader_grammar.proofs.lemmas.phrases.OutcomeLemmas.{some_inj}
use Rattle.sql_reader_grammar.proofs.lemmas.phrases.StepLemmas.{at_keyword, at_sign}
use Rattle.sql_reader_grammar.specs.phrases.Lists.{Many, AfterComma, Listed}
use Rattle.sql_reader_grammar.specs.phrases.Steps.{Rest, Found, after_close, after_comma, after_open, after_word, listed, name}
use Rattle.sql_reader_creates.proofs.lemmas.column_reader.WordLemmas.{IsEnd, after_name_sound, name_sound, no_on, no_open, other_length, some_mapped, then_parts, word_sound}
use Rattle.sql_reader_creates.specs.column_reader.ColumnGrammar.{Acts, MaybeColumns, Named, Reacts, Refers, is_event, is_reaction}
use Rattle.sql_reader_creates.specs.column_reader.ColumnReading.{act, acts, after_name, after_on, after_reaction, after_set, columns_from, maybe_columns, names, names_closed, referred, refers}
use Rattle.sql_reader_syntax.specs.Tree.{Name}

-- Names

named_complete : (x : Name) (from mid : Rest) → Named x from mid
    → (let r : Name × Rest = (x, mid) in name from ≡ Some r)
named_complete x from mid Named.name = refl

named_sound : (ts : Rest) (r : Name × Rest) → name ts ≡ Some r → At Named ts r
named_sound ts r h = let n = name_sound ts r h in subst (λ ts. Named r.0 ts r.1) (sym n.1) Named.name

name_takes_one : TakesOne name
name_takes_one ts r h = let n = name_sound ts r h in let e = ap length n.1 in omega (arith, e)

pub name_shortens : Shortens after_comma name
name_shortens = shortens_after_comma name name_takes_one

pub names_complete : {xs : List Name} {from after : Rest} → Listed Named xs from (Lexeme.Punctuation s.Close ∷ after)
    → names from ≡ Some (xs, after)
names_complete l =
    ap names_closed
    (listed_complete Named (λ ts. Unit {0}) name name_shortens (λ ts. tt) (λ x from mid n f. named_complete x from mid n)
    l tt refl)

pub names_sound : (ts : Rest) (r : List Name × Rest) → names ts ≡ Some r
    → Listed Named r.0 ts (Lexeme.Punctuation s.Close ∷ r.1)
names_sound ts r h = go (listed name ts) refl h
  where
    go : (o : Found Name) → listed name ts ≡ o → names_closed o ≡ Some r
        → Listed Named r.0 ts (Lexeme.Punctuation s.Close ∷ r.1)
    go None e h = absurd cc
    go (Some x) e h =
        let m = some_mapped (λ rest. (let r : List Name × Rest = (x.0, rest) in r)) (after_close x.1) r h in
        let c = at_sign s.Close x.1 m.0 m.1 in
        subst (λ (r : List Name × Rest). Listed Named r.0 ts (Lexeme.Punctuation s.Close ∷ r.1)) m.2
        (subst (Listed Named x.0 ts) c (listed_sound Named name named_sound ts x e))

-- What ON says

no_reaction : (t : Lexeme) → is_bare_word t (codes "CASCADE") ≡ false → is_bare_word t (codes "RESTRICT") ≡ false
    → is_reaction t ≡ false
no_reaction t c r = ap (λ b. b || is_bare_word t (codes "RESTRICT")) c ∙ r

set_no_reaction : (t : Lexeme) → is_bare_word t (codes "SET") ≡ true → is_reaction t ≡ false
set_no_reaction t h =
    no_reaction t
    (other_length t (codes "CASCADE") (codes "SET") (λ e. let i : 7 ≡ 3 = e in omega (arith, i)) h)
    (other_length t (codes "RESTRICT") (codes "SET") (λ e. let i : 8 ≡ 3 = e in omega (arith, i)) h)

no_no_reaction : (t : Lexeme) → is_bare_word t (codes "NO") ≡ true → is_reaction t ≡ false
no_no_reaction t h =
    no_reaction t
    (other_length t (codes "CASCADE") (codes "NO") (λ e. let i : 7 ≡ 2 = e in omega (arith, i)) h)
    (other_length t (codes "RESTRICT") (codes "NO") (λ e. let i : 8 ≡ 2 = e in omega (arith, i)) h)

no_set : (t : Lexeme) → is_bare_word t (codes "NO") ≡ true → is_bare_word t (codes "SET") ≡ false
no_set t = other_length t (codes "SET") (codes "NO") (λ e. let i : 3 ≡ 2 = e in omega (arith, i))

reaction_complete : {from after : Rest} → Reacts from after → after_reaction from ≡ Some after
reaction_complete (Reacts.alone h) = cond-true _ _ _ h
reaction_complete (Reacts.set_null {word = t} h) = cond-false _ _ _ (set_no_reaction t h) ∙ cond-true _ _ _ h
reaction_complete (Reacts.set_default {word = t} h) = cond-false _ _ _ (set_no_reaction t h) ∙ cond-true _ _ _ h
reaction_complete (Reacts.no_action {word = t} h a) =
    cond-false _ _ _ (no_no_reaction t h)
    ∙ (cond-false _ _ _ (no_set t h) ∙ (cond-true _ _ _ h ∙ cond-true _ _ _ a))

set_sound : (word : Lexeme) (ts rest : Rest) → is_bare_word word (codes "SET") ≡ true → after_set ts ≡ Some rest
    → Reacts (word ∷ ts) rest
set_sound word (Lexeme.Reserved k.Null ∷ ts) rest h e = subst (Reacts _) (some_inj ts rest e) (Reacts.set_null h)
set_sound word (Lexeme.Reserved k.Default ∷ ts) rest h e = subst (Reacts _) (some_inj ts rest e) (Reacts.set_default h)
set_sound word _ rest h e = absurd cc

reaction_sound : (ts rest : Rest) → after_reaction ts ≡ Some rest → Reacts ts rest
reaction_sound [] rest h = absurd cc
reaction_sound (word ∷ ts) rest h = alone (is_reaction word) refl h
  where
    none : Option Rest
    none = None

    no : (b : Bool) → is_bare_word word (codes "NO") ≡ b → cond b (after_word (codes "ACTION") ts) none ≡ Some rest
        → Reacts (word ∷ ts) rest
    no true e h =
        let w = word_sound (codes "ACTION") ts rest h in
        subst (λ ts. Reacts (word ∷ ts) rest) (sym w.1) (Reacts.no_action e w.2)
    no false e h = absurd cc

    set : (b : Bool) → is_bare_word word (codes "SET") ≡ b
        → cond b (after_set ts) (cond (is_bare_word word (codes "NO")) (after_word (codes "ACTION") ts) none) ≡ Some rest
        → Reacts (word ∷ ts) rest
    set true e h = set_sound word ts rest e h
    set false e h = no (is_bare_word word (codes "NO")) refl h

    alone : (b : Bool) → is_reaction word ≡ b
        → cond b (Some ts) (cond (is_bare_word word (codes "SET")) (after_set ts)
        (cond (is_bare_word word (codes "NO")) (after_word (codes "ACTION") ts) none)) ≡ Some rest
        → Reacts (word ∷ ts) rest
    alone true e h = subst (Reacts (word ∷ ts)) (some_inj ts rest h) (Reacts.alone e)
    alone false e h = set (is_bare_word word (codes "SET")) refl h

reaction_length : {from after : Rest} → Reacts from after → length after < length from
reaction_length (Reacts.alone h) = omega arith
reaction_length (Reacts.set_null h) = omega arith
reaction_length (Reacts.set_default h) = omega arith
reaction_length (Reacts.no_action h a) = omega arith

act_found : IsFound Acts (λ ts. Unit {0}) after_on act
act_found x _ mid (Acts.on {word = word} {from = from} h r) f =
    (word ∷ from, refl, cond-true _ _ _ h ∙ ap (option_map (λ rest. (tt, rest))) (reaction_complete r))

act_spelt : IsSpelt Acts after_on act
act_spelt ts [] r e h = absurd cc
act_spelt ts (word ∷ start) r e h =
    subst (λ ts. Acts r.0 ts r.1) (sym (at_keyword k.On ts (word ∷ start) e)) (go (is_event word) refl h)
  where
    none : Option (Unit {0} × Rest)
    none = None

    go : (b : Bool) → is_event word ≡ b → cond b (option_map (λ rest. (tt, rest)) (after_reaction start)) none ≡ Some r
        → Acts r.0 (Lexeme.Reserved k.On ∷ word ∷ start) r.1
    go true e h =
        let m = some_mapped (λ rest. (let r : Unit {0} × Rest = (tt, rest) in r)) (after_reaction start) r h in
        subst (λ (r : Unit {0} × Rest). Acts r.0 (Lexeme.Reserved k.On ∷ word ∷ start) r.1) m.2
        (Acts.on e (reaction_sound start m.0 m.1))
    go false e h = absurd cc

act_length : (x : Unit {0}) (from mid : Rest) → Acts x from mid → length mid < length from
act_length x from mid (Acts.on h r) = let l = reaction_length r in omega (arith, l)

pub act_shortens : Shortens after_on act
act_shortens ts start r e h = act_length r.0 ts r.1 (act_spelt ts start r e h)

acts_complete : {xs : List (Unit {0})} {from after : Rest} → Many Acts xs from after → IsEnd after
    → acts from ≡ Some (xs, after)
acts_complete {after = after} m e =
    many_complete Acts (λ ts. Unit {0}) after_on act act_shortens (λ x from mid a. tt) act_found m tt (no_on after e)

acts_sound : (ts : Rest) (r : List (Unit {0}) × Rest) → acts ts ≡ Some r → At (Many Acts) ts r
acts_sound = many_sound Acts after_on act act_spelt

-- no parenthesis stands before what ON says, or before what follows it
acts_closed : {xs : List (Unit {0})} {from after : Rest} → Many Acts xs from after → IsEnd after → after_open from ≡ None
acts_closed (Many.none {after = after}) e = no_open after e
acts_closed (Many.more (Acts.on h r) m) e = refl

columns_complete : {from after : Rest} → MaybeColumns from after → after_open after ≡ None
    → maybe_columns from ≡ Some after
columns_complete (MaybeColumns.none {after = after}) e = ap (columns_from after) e
columns_complete (MaybeColumns.columns l) e = ap (option_map (λ (r : List Name × Rest). r.1)) (names_complete l)

columns_sound : (ts rest : Rest) → maybe_columns ts ≡ Some rest → MaybeColumns ts rest
columns_sound ts rest h = go (after_open ts) refl h
  where
    go : (o : Option Rest) → after_open ts ≡ o → columns_from ts o ≡ Some rest → MaybeColumns ts rest
    go None e h = subst (MaybeColumns ts) (some_inj ts rest h) MaybeColumns.none
    go (Some inside) e h =
        let m = some_mapped (λ (r : List Name × Rest). r.1) (names inside) rest h in
        subst (λ ts. MaybeColumns ts rest) (sym (at_sign s.Open ts inside e))
        (subst (MaybeColumns (Lexeme.Punctuation s.Open ∷ inside)) m.2
        (MaybeColumns.columns (names_sound inside m.0 m.1)))

pub refers_complete : {from after : Rest} → Refers from after → IsEnd after → refers from ≡ Some after
refers_complete (Refers.refers c m) e =
    ap (option_and_then referred) (columns_complete c (acts_closed m e))
    ∙ ap (option_map (λ (r : List (Unit {0}) × Rest). r.1)) (acts_complete m e)

pub refers_sound : (ts rest : Rest) → refers ts ≡ Some rest → Refers ts rest
refers_sound ts rest h =
    let a = then_parts referred (option_and_then maybe_columns (after_name ts)) rest h in
    let b = then_parts maybe_columns (after_name ts) a.0 a.1 in
    let m = some_mapped (λ (r : List (Unit {0}) × Rest). r.1) (acts a.0) rest a.2 in
    let n = after_name_sound ts b.0 b.1 in
    subst (λ ts. Refers ts rest) (sym n.2)
    (subst (Refers (Lexeme.Name n.0 n.1 ∷ b.0)) m.2
    (Refers.refers (columns_sound b.0 a.0 b.2) (acts_sound a.0 m.0 m.1)))

pub listed_length : {xs : List Name} {from after : Rest} → Listed Named xs from after → length after < length from
listed_length (Listed.listed Named.name m) =
    let l = many_length (AfterComma Named) (λ x from mid c. comma_length x from mid c) m in omega (arith, l)
  where
    comma_length : (x : Name) (from mid : Rest) → AfterComma Named x from mid → length mid ≤ length from
    comma_length x from mid (AfterComma.comma Named.name) = omega arith

columns_length : {from after : Rest} → MaybeColumns from after → length after ≤ length from
columns_length MaybeColumns.none = omega arith
columns_length (MaybeColumns.columns l) = let k = listed_length l in omega (arith, k)

pub refers_length : {from after : Rest} → Refers from after → length after < length from
refers_length (Refers.refers c m) =
    let k = columns_length c in
    let l = many_length Acts (λ x from mid a. let n = act_length x from mid a in omega (arith, n)) m in
    omega (arith, k, l)
