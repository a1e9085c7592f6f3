-- The reader of a key's columns finds exactly what their grammar says.
use Rattle.std.proofs.Common.{◌≡◌, Bool, true, false, ◌<◌, ◌≤◌, List, ◌∷◌, ℕ, length, codes, Option, Some, None, option_map, refl, sym, ap, ◌∙◌, subst, arith}
use Rattle.sql_reader_tokens.specs.Content.{is_bare_word}
use Rattle.sql_reader_tokens.specs.Lexeme.{Lexeme}
use Rattle.sql_reader_tokens.specs.declared.keywords.keyword.Keyword.TheVariants as k
use Rattle.sql_reader_tokens.specs.declared.sign.Sign.TheVariants as s
use Rattle.sql_reader_grammar.proofs.lemmas.phrases.ListLemmas.{Shortens}
use Rattle.sql_reader_grammar.proofs.lemmas.phrases.PhraseLemmas.{At, TakesOne, listed_complete, listed_sound, many_length, shortens_after_comma}
use Rattle.sql_reader_grammar.proofs.lemmas.phrases.OutcomeLemmas.{some_inj}
use Rattle.sql_reader_grammar.proofs.lemmas.phrases.StepLemmas.{at_keyword, at_sign}
use Rattle.sql_reader_grammar.specs.phrases.Lists.{AfterComma, Listed}
use Rattle.sql_reader_grammar.specs.phrases.Steps.{Rest, Found, after_close, after_comma, after_open, listed, name}
use Rattle.sql_reader_creates.proofs.lemmas.column_reader.ConstraintLemmas.{order_complete, order_length, order_sound}
use Rattle.sql_reader_creates.proofs.lemmas.column_reader.WordLemmas.{IsEnd, name_sound, no_word, some_mapped, then_parts}
use Rattle.sql_reader_creates.specs.column_reader.ColumnGrammar.{Ordered}
use Rattle.sql_reader_creates.specs.CreateGrammar.{Indexes, IndexesAll, MaybeCollated}
use Rattle.sql_reader_creates.specs.CreateReading.{after_collate, collation, collation_from, collation_of, indexed, indexed_all, indexed_by, indexed_closed, indexed_within, ordered_by}
use Rattle.sql_reader_syntax.specs.Tree.{Name}
use Rattle.sql_reader_grammar.specs.create_trees.CreateTrees.{IndexedColumnTree}
use Rattle.sql_reader_grammar.specs.declared.create_trees.create.KeyOrder.{KeyOrder}

-- what may follow a column of a key: a comma, or the parenthesis that closes
abbrev pub is_list_end : Rest → Bool
is_list_end (Lexeme.Punctuation s.Comma ∷ ts) = true
is_list_end (Lexeme.Punctuation s.Close ∷ ts) = true
is_list_end _ = false

abbrev pub IsListEnd : Rest → Type 0
IsListEnd ts = is_list_end ts ≡ true

ends_list : (ts : Rest) → IsListEnd ts → IsEnd ts
ends_list (Lexeme.Punctuation s.Comma ∷ ts) e = refl
ends_list (Lexeme.Punctuation s.Close ∷ ts) e = refl
ends_list _ e = absurd cc

no_collate : (ts : Rest) → IsListEnd ts → after_collate ts ≡ None
no_collate (Lexeme.Punctuation s.Comma ∷ ts) e = refl
no_collate (Lexeme.Punctuation s.Close ∷ ts) e = refl
no_collate _ e = absurd cc

word_no_collate : (t : Lexeme) (word : List ℕ) (ts : Rest) → is_bare_word t word ≡ true → after_collate (t ∷ ts) ≡ None
word_no_collate (Lexeme.Name q n) word ts h = refl
word_no_collate _ word ts h = absurd cc

-- COLLATE doesn't stand before an order, or before what follows a column
order_apart : {x : KeyOrder} {from mid : Rest} → Ordered x from mid → IsListEnd mid → after_collate from ≡ None
order_apart (Ordered.neither {after = mid}) e = no_collate mid e
order_apart (Ordered.ascending {word = t} {after = mid} h) e = word_no_collate t (codes "ASC") mid h
order_apart (Ordered.descending {word = t} {after = mid} h) e = word_no_collate t (codes "DESC") mid h

collation_complete : {x : Option Name} {from mid : Rest} → MaybeCollated x from mid → after_collate mid ≡ None
    → (let r : Option Name × Rest = (x, mid) in collation from ≡ Some r)
collation_complete (MaybeCollated.none {after = mid}) e = ap (collation_from mid) e
collation_complete MaybeCollated.collated e = refl

collation_sound : (ts : Rest) (r : Option Name × Rest) → collation ts ≡ Some r → At MaybeCollated ts r
collation_sound ts r h = go (after_collate ts) refl h
  where
    go : (o : Option Rest) → after_collate ts ≡ o → collation_from ts o ≡ Some r → At MaybeCollated ts r
    go None e h = subst (At MaybeCollated ts) (some_inj _ r h) MaybeCollated.none
    go (Some words) e h =
        let m = some_mapped collation_of (name words) r h in
        let n = name_sound words m.0 m.1 in
        subst (λ ts. At MaybeCollated ts r)
        (sym (at_keyword k.Collate ts words e ∙ ap (λ ts. Lexeme.Reserved k.Collate ∷ ts) n.1))
        (subst (At MaybeCollated (Lexeme.Reserved k.Collate ∷ Lexeme.Name n.0 m.0.0 ∷ m.0.1)) m.2
        MaybeCollated.collated)

collation_length : {x : Option Name} {from mid : Rest} → MaybeCollated x from mid → length mid ≤ length from
collation_length MaybeCollated.none = omega arith
collation_length MaybeCollated.collated = omega arith

indexed_complete : (x : IndexedColumnTree) (from mid : Rest) → Indexes x from mid → IsListEnd mid
    → (let r : IndexedColumnTree × Rest = (x, mid) in indexed from ≡ Some r)
indexed_complete x _ mid (Indexes.column {name = n} {collation = c} p w) e =
    let i = ends_list mid e in
    ap (option_map (indexed_by n)) (collation_complete p (order_apart w e))
    ∙ ap (λ r. Some (ordered_by n c r))
    (order_complete w (no_word (codes "ASC") mid i) (no_word (codes "DESC") mid i))

indexed_sound : (ts : Rest) (r : IndexedColumnTree × Rest) → indexed ts ≡ Some r → At Indexes ts r
indexed_sound (Lexeme.Name q n ∷ ts) r h =
    let m = some_mapped (indexed_by n) (collation ts) r h in
    subst (At Indexes (Lexeme.Name q n ∷ ts)) m.2
    (Indexes.column (collation_sound ts m.0 m.1) (order_sound m.0.1))
indexed_sound _ r h = absurd cc

indexed_length : (x : IndexedColumnTree) (from mid : Rest) → Indexes x from mid → length mid < length from
indexed_length x from mid (Indexes.column p w) =
    let i = collation_length p in let j = order_length w in omega (arith, i, j)

indexed_takes_one : TakesOne indexed
indexed_takes_one ts r h = indexed_length r.0 ts r.1 (indexed_sound ts r h)

pub indexed_shortens : Shortens after_comma indexed
indexed_shortens = shortens_after_comma indexed indexed_takes_one

pub all_complete : {xs : List IndexedColumnTree} {from after : Rest} → IndexesAll xs from after
    → indexed_all from ≡ Some (xs, after)
all_complete (IndexesAll.columns l) =
    ap indexed_closed
    (listed_complete Indexes IsListEnd indexed indexed_shortens (λ ts. refl) indexed_complete l refl refl)

within_sound : (ts : Rest) (r : List IndexedColumnTree × Rest) → indexed_within ts ≡ Some r
    → At IndexesAll (Lexeme.Punctuation s.Open ∷ ts) r
within_sound ts r h = go (listed indexed ts) refl h
  where
    go : (o : Found IndexedColumnTree) → listed indexed ts ≡ o → indexed_closed o ≡ Some r
        → At IndexesAll (Lexeme.Punctuation s.Open ∷ ts) r
    go None e h = absurd cc
    go (Some x) e h =
        let m = some_mapped (λ rest. (let r : List IndexedColumnTree × Rest = (x.0, rest) in r)) (after_close x.1) r h in
        let c = at_sign s.Close x.1 m.0 m.1 in
        subst (At IndexesAll (Lexeme.Punctuation s.Open ∷ ts)) m.2
        (IndexesAll.columns (subst (Listed Indexes x.0 ts) c (listed_sound Indexes indexed indexed_sound ts x e)))

pub all_sound : (ts : Rest) (r : List IndexedColumnTree × Rest) → indexed_all ts ≡ Some r → At IndexesAll ts r
all_sound ts r h =
    let p = then_parts indexed_within (after_open ts) r h in
    subst (λ ts. At IndexesAll ts r) (sym (at_sign s.Open ts p.0 p.1)) (within_sound p.0 r p.2)

comma_length : (x : IndexedColumnTree) (from mid : Rest) → AfterComma Indexes x from mid → length mid ≤ length from
comma_length x _ mid (AfterComma.comma {from = from} i) = let l = indexed_length x from mid i in omega (arith, l)

pub all_length : {xs : List IndexedColumnTree} {from after : Rest} → IndexesAll xs from after
    → length after < length from
all_length (IndexesAll.columns (Listed.listed {x = x} {from = from} {mid = mid} i m)) =
    let k = indexed_length x from mid i in
    let l = many_length (AfterComma Indexes) comma_length m in
    omega (arith, k, l)
