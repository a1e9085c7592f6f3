-- The reader of a column's constraints finds exactly what their grammar says.
use Rattle.std.proofs.Common.{◌≡◌, Bool, true, false, ◌<◌, ◌≤◌, List, ◌∷◌, length, codes, Option, Some, None, option_map, option_and_then, cond, refl, sym, ap, ◌∙◌, subst, arith}
use Rattle.std.proofs.lemmas.Bool.{cond-true, cond-false}
use Rattle.sql_reader_tokens.specs.Content.{is_bare_word}
use Rattle.sql_reader_tokens.specs.Lexeme.{Lexeme}
use Rattle.sql_reader_tokens.specs.declared.keywords.keyword.Keyword.TheVariants as k
use Rattle.sql_reader_tokens.specs.declared.sign.Sign.TheVariants as s
use Rattle.sql_reader_grammar.proofs.lemmas.phrases.ListLemmas.{Shortens}
use Rattle.sql_reader_grammar.proofs.lemmas.phrases.PhraseLemmas.{At, IsFound, IsSpelt, many_complete, many_sound}
use Rattle.sql_reader_grammar.proofs.lemmas.phrases.OutcomeLemmas.{some_inj}
use Rattle.sql_reader_grammar.proofs.lemmas.phrases.StepLemmas.{at_keyword, at_sign}
use Rattle.sql_reader_grammar.specs.phrases.Lists.{Many}
use Rattle.sql_reader_grammar.specs.phrases.Steps.{Rest, after_keyword, after_open, after_word, name}
use Rattle.sql_reader_creates.proofs.lemmas.column_reader.BodyLemmas.{balanced_complete, balanced_length, balanced_sound}
use Rattle.sql_reader_creates.proofs.lemmas.column_reader.ReferenceLemmas.{refers_complete, refers_length, refers_sound}
use Rattle.sql_reader_creates.proofs.lemmas.column_reader.WordLemmas.{IsEnd, after_name_sound, name_sound, no_word, other_length, some_mapped, then_parts, word_sound}
use Rattle.sql_reader_creates.specs.column_reader.ColumnGrammar.{Body, Constrains, Defaults, Demands, Increments, MaybeTitled, Ordered}
use Rattle.sql_reader_creates.specs.column_reader.ColumnReading.{after_null, after_title, at_constraint, balanced, begins_constraint, body, constraint, constraints, default_value, demand, increments, incremented, key_of, order, ordered, ordered_key, primary_key, refers, title_from}
use Rattle.sql_reader_syntax.specs.Tree.{Name}
use Rattle.sql_reader_grammar.specs.create_trees.CreateTrees.{ConstraintTree, DefaultTree}
use Rattle.sql_reader_grammar.specs.declared.create_trees.create.KeyOrder.{KeyOrder}
use Rattle.sql_reader_grammar.specs.declared.create_trees.create.KeyOrder.TheVariants as o

pub body_sound : (ts rest : Rest) → body ts ≡ Some rest → Body ts rest
body_sound ts rest h =
    let p = then_parts (balanced 0) (after_open ts) rest h in
    subst (λ ts. Body ts rest) (sym (at_sign s.Open ts p.0 p.1)) (Body.body (balanced_sound 0 p.0 rest p.2))

-- Keys

pub order_complete : {x : KeyOrder} {from mid : Rest} → Ordered x from mid → after_word (codes "ASC") mid ≡ None
    → after_word (codes "DESC") mid ≡ None → (let r : KeyOrder × Rest = (x, mid) in order from ≡ r)
order_complete (Ordered.neither {after = mid}) a d =
    ap (λ o. ordered mid o (after_word (codes "DESC") mid)) a ∙ ap (ordered mid None) d
order_complete (Ordered.ascending {word = t} {after = mid} h) a d =
    ap (λ o. ordered (t ∷ mid) o (after_word (codes "DESC") (t ∷ mid))) (cond-true _ _ _ h)
order_complete (Ordered.descending {word = t} {after = mid} h) a d =
    ap (λ o. ordered (t ∷ mid) o (after_word (codes "DESC") (t ∷ mid)))
    (cond-false _ _ _ (other_length t (codes "ASC") (codes "DESC") (λ e. let i : 3 ≡ 4 = e in omega (arith, i)) h))
    ∙ ap (ordered (t ∷ mid) None) (cond-true _ _ _ h)

increments_complete : {x : Bool} {from mid : Rest} → Increments x from mid → IsEnd mid
    → (let r : Bool × Rest = (x, mid) in increments from ≡ r)
increments_complete (Increments.plain {after = mid}) e = ap (incremented mid) (no_word (codes "AUTOINCREMENT") mid e)
increments_complete (Increments.automatic {word = t} {after = mid} h) e =
    ap (incremented (t ∷ mid)) (cond-true _ _ _ h)

-- neither ASC nor DESC stands before AUTOINCREMENT, or before what follows it
increments_apart : {x : Bool} {from mid : Rest} → Increments x from mid → IsEnd mid
    → (after_word (codes "ASC") from ≡ None) × (after_word (codes "DESC") from ≡ None)
increments_apart (Increments.plain {after = mid}) e = (no_word (codes "ASC") mid e, no_word (codes "DESC") mid e)
increments_apart (Increments.automatic {word = t} h) e = (
  cond-false _ _ _
      (other_length t (codes "ASC") (codes "AUTOINCREMENT") (λ e. let i : 3 ≡ 13 = e in omega (arith, i)) h),
  cond-false _ _ _
      (other_length t (codes "DESC") (codes "AUTOINCREMENT") (λ e. let i : 4 ≡ 13 = e in omega (arith, i)) h),
)

pub order_sound : (ts : Rest) → Ordered (order ts).0 ts (order ts).1
order_sound ts = go (after_word (codes "ASC") ts) (after_word (codes "DESC") ts) refl refl
  where
    go : (a d : Option Rest) → after_word (codes "ASC") ts ≡ a → after_word (codes "DESC") ts ≡ d
        → Ordered (ordered ts a d).0 ts (ordered ts a d).1
    go (Some rest) d e h =
        let w = word_sound (codes "ASC") ts rest e in
        subst (λ ts. Ordered o.Ascending ts rest) (sym w.1) (Ordered.ascending w.2)
    go None (Some rest) e h =
        let w = word_sound (codes "DESC") ts rest h in
        subst (λ ts. Ordered o.Descending ts rest) (sym w.1) (Ordered.descending w.2)
    go None None e h = Ordered.neither

increments_sound : (ts : Rest) → Increments (increments ts).0 ts (increments ts).1
increments_sound ts = go (after_word (codes "AUTOINCREMENT") ts) refl
  where
    go : (a : Option Rest) → after_word (codes "AUTOINCREMENT") ts ≡ a
        → Increments (incremented ts a).0 ts (incremented ts a).1
    go (Some rest) e =
        let w = word_sound (codes "AUTOINCREMENT") ts rest e in
        subst (λ ts. Increments true ts rest) (sym w.1) (Increments.automatic w.2)
    go None e = Increments.plain

key_complete : {x : KeyOrder} {automatic : Bool} (word : Lexeme) {from mid after : Rest}
    → is_bare_word word (codes "KEY") ≡ true → Ordered x from mid → Increments automatic mid after
    → IsEnd after → primary_key (word ∷ from) ≡ Some (ConstraintTree.PrimaryKey x automatic, after)
key_complete {x = x} word h p i e =
    let a = increments_apart i e in
    ap (option_map (λ rest. ordered_key (order rest))) (cond-true _ _ _ h)
    ∙ ap (λ r. Some (ordered_key r)) (order_complete p a.0 a.1)
    ∙ ap (λ r. Some (key_of x r)) (increments_complete i e)

key_sound : (ts : Rest) (r : ConstraintTree × Rest) → primary_key ts ≡ Some r
    → At Demands (Lexeme.Reserved k.Primary ∷ ts) r
key_sound ts r h =
    let m = some_mapped (λ rest. ordered_key (order rest)) (after_word (codes "KEY") ts) r h in
    let w = word_sound (codes "KEY") ts m.0 m.1 in
    subst (λ ts. At Demands (Lexeme.Reserved k.Primary ∷ ts) r) (sym w.1)
    (subst (At Demands (Lexeme.Reserved k.Primary ∷ w.0 ∷ m.0)) m.2
    (Demands.primary_key w.2 (order_sound m.0) (increments_sound (order m.0).1)))

pub order_length : {x : KeyOrder} {from mid : Rest} → Ordered x from mid → length mid ≤ length from
order_length Ordered.neither = omega arith
order_length (Ordered.ascending h) = omega arith
order_length (Ordered.descending h) = omega arith

increments_length : {x : Bool} {from mid : Rest} → Increments x from mid → length mid ≤ length from
increments_length Increments.plain = omega arith
increments_length (Increments.automatic h) = omega arith

-- DEFAULT

default_complete : {x : DefaultTree} {from mid : Rest} → Defaults x from mid
    → (let r : DefaultTree × Rest = (x, mid) in default_value from ≡ Some r)
default_complete Defaults.null = refl
default_complete Defaults.number = refl
default_complete Defaults.plus = refl
default_complete Defaults.minus = refl
default_complete Defaults.text = refl
default_complete Defaults.blob = refl
default_complete (Defaults.expression b) =
    ap (option_map (λ rest. (DefaultTree.Expression, rest))) (balanced_complete b 0)

default_sound : (ts : Rest) (r : DefaultTree × Rest) → default_value ts ≡ Some r → At Defaults ts r
default_sound (Lexeme.Number n ∷ ts) r h = subst (At Defaults _) (some_inj _ r h) Defaults.number
default_sound (Lexeme.Text content ∷ ts) r h = subst (At Defaults _) (some_inj _ r h) Defaults.text
default_sound (Lexeme.Blob bytes ∷ ts) r h = subst (At Defaults _) (some_inj _ r h) Defaults.blob
default_sound (Lexeme.Reserved k.Null ∷ ts) r h = subst (At Defaults _) (some_inj _ r h) Defaults.null
default_sound (Lexeme.Punctuation s.Plus ∷ Lexeme.Number n ∷ ts) r h =
    subst (At Defaults _) (some_inj _ r h) Defaults.plus
default_sound (Lexeme.Punctuation s.Minus ∷ Lexeme.Number n ∷ ts) r h =
    subst (At Defaults _) (some_inj _ r h) Defaults.minus
default_sound (Lexeme.Punctuation s.Open ∷ ts) r h =
    let m = some_mapped (λ rest. (let r : DefaultTree × Rest = (DefaultTree.Expression, rest) in r)) (balanced 0 ts) r h in
    subst (At Defaults (Lexeme.Punctuation s.Open ∷ ts)) m.2 (Defaults.expression (balanced_sound 0 ts m.0 m.1))
default_sound _ r h = absurd cc

default_length : {x : DefaultTree} {from mid : Rest} → Defaults x from mid → length mid < length from
default_length Defaults.null = omega arith
default_length Defaults.number = omega arith
default_length Defaults.plus = omega arith
default_length Defaults.minus = omega arith
default_length Defaults.text = omega arith
default_length Defaults.blob = omega arith
default_length (Defaults.expression b) = let l = balanced_length b in omega (arith, l)

-- Demands

demand_complete : {x : ConstraintTree} {from mid : Rest} → Demands x from mid → IsEnd mid
    → (let r : ConstraintTree × Rest = (x, mid) in demand from ≡ Some r)
demand_complete (Demands.primary_key {word = word} h p i) e = key_complete word h p i e
demand_complete Demands.not_null e = refl
demand_complete Demands.unique e = refl
demand_complete (Demands.check (Body.body b)) e =
    ap (option_map (λ rest. (ConstraintTree.Check, rest))) (balanced_complete b 0)
demand_complete (Demands.default d) e =
    ap (option_map (λ (r : DefaultTree × Rest). (ConstraintTree.Default r.0, r.1))) (default_complete d)
demand_complete Demands.collate e = refl
demand_complete (Demands.references r) e =
    ap (option_map (λ rest. (ConstraintTree.References, rest))) (refers_complete r e)

demand_sound : (ts : Rest) (r : ConstraintTree × Rest) → demand ts ≡ Some r → At Demands ts r
demand_sound (Lexeme.Reserved k.Primary ∷ ts) r h = key_sound ts r h
demand_sound (Lexeme.Reserved k.Not ∷ ts) r h =
    let m = some_mapped (λ rest. (let r : ConstraintTree × Rest = (ConstraintTree.NotNull, rest) in r)) (after_null ts) r h in
    subst (λ ts. At Demands (Lexeme.Reserved k.Not ∷ ts) r) (sym (at_keyword k.Null ts m.0 m.1))
    (subst (At Demands (Lexeme.Reserved k.Not ∷ Lexeme.Reserved k.Null ∷ m.0)) m.2 Demands.not_null)
demand_sound (Lexeme.Reserved k.Unique ∷ ts) r h = subst (At Demands _) (some_inj _ r h) Demands.unique
demand_sound (Lexeme.Reserved k.Check ∷ ts) r h =
    let m = some_mapped (λ rest. (let r : ConstraintTree × Rest = (ConstraintTree.Check, rest) in r)) (body ts) r h in
    subst (At Demands (Lexeme.Reserved k.Check ∷ ts)) m.2 (Demands.check (body_sound ts m.0 m.1))
demand_sound (Lexeme.Reserved k.Default ∷ ts) r h =
    let m = some_mapped (λ (d : DefaultTree × Rest). (let r : ConstraintTree × Rest = (ConstraintTree.Default d.0, d.1) in r))
    (default_value ts) r h in
    subst (At Demands (Lexeme.Reserved k.Default ∷ ts)) m.2 (Demands.default (default_sound ts m.0 m.1))
demand_sound (Lexeme.Reserved k.Collate ∷ ts) r h =
    let m = some_mapped (λ (n : Name × Rest). (let r : ConstraintTree × Rest = (ConstraintTree.Collate n.0, n.1) in r))
    (name ts) r h in
    let n = name_sound ts m.0 m.1 in
    subst (λ ts. At Demands (Lexeme.Reserved k.Collate ∷ ts) r) (sym n.1)
    (subst (At Demands (Lexeme.Reserved k.Collate ∷ Lexeme.Name n.0 m.0.0 ∷ m.0.1)) m.2 Demands.collate)
demand_sound (Lexeme.Reserved k.References ∷ ts) r h =
    let m = some_mapped (λ rest. (let r : ConstraintTree × Rest = (ConstraintTree.References, rest) in r)) (refers ts) r h in
    subst (At Demands (Lexeme.Reserved k.References ∷ ts)) m.2 (Demands.references (refers_sound ts m.0 m.1))
demand_sound _ r h = absurd cc

demand_length : {x : ConstraintTree} {from mid : Rest} → Demands x from mid → length mid < length from
demand_length (Demands.primary_key h p i) =
    let a = order_length p in let b = increments_length i in omega (arith, a, b)
demand_length Demands.not_null = omega arith
demand_length Demands.unique = omega arith
demand_length (Demands.check (Body.body b)) = let l = balanced_length b in omega (arith, l)
demand_length (Demands.default d) = let l = default_length d in omega (arith, l)
demand_length Demands.collate = omega arith
demand_length (Demands.references r) = let l = refers_length r in omega (arith, l)

-- what a demand begins with
demand_front : {x : ConstraintTree} {from mid : Rest} → Demands x from mid
    → (after_title from ≡ Some from) × (at_constraint from ≡ Some from) × IsEnd from
demand_front (Demands.primary_key h p i) = (refl, refl, refl)
demand_front Demands.not_null = (refl, refl, refl)
demand_front Demands.unique = (refl, refl, refl)
demand_front (Demands.check b) = (refl, refl, refl)
demand_front (Demands.default d) = (refl, refl, refl)
demand_front Demands.collate = (refl, refl, refl)
demand_front (Demands.references r) = (refl, refl, refl)

-- Constraints

pub constraint_front : (x : ConstraintTree) (from mid : Rest) → Constrains x from mid → IsEnd from
constraint_front x from mid (Constrains.constraint MaybeTitled.none d) = (demand_front d).2
constraint_front x from mid (Constrains.constraint MaybeTitled.titled d) = refl

constraint_complete : (x : ConstraintTree) (from mid : Rest) → Constrains x from mid → IsEnd mid
    → (at_constraint from ≡ Some from) × (let r : ConstraintTree × Rest = (x, mid) in constraint from ≡ Some r)
constraint_complete x from mid (Constrains.constraint MaybeTitled.none d) e =
    let f = demand_front d in (f.1, ap (option_and_then demand) f.0 ∙ demand_complete d e)
constraint_complete x from mid (Constrains.constraint MaybeTitled.titled d) e = (refl, demand_complete d e)

constraint_found : IsFound Constrains IsEnd at_constraint constraint
constraint_found x from mid c e = let p = constraint_complete x from mid c e in (from, p.0, p.1)

pub title_sound : (ts rest : Rest) → after_title ts ≡ Some rest → MaybeTitled ts rest
title_sound ts rest h = go (after_keyword k.Constraint ts) refl h
  where
    go : (o : Option Rest) → after_keyword k.Constraint ts ≡ o → title_from ts o ≡ Some rest → MaybeTitled ts rest
    go None e h = subst (MaybeTitled ts) (some_inj ts rest h) MaybeTitled.none
    go (Some title) e h =
        let n = after_name_sound title rest h in
        subst (λ ts. MaybeTitled ts rest) (sym (at_keyword k.Constraint ts title e ∙ ap (λ ts. Lexeme.Reserved k.Constraint ∷ ts) n.2))
        MaybeTitled.titled

constraint_sound : (ts : Rest) (r : ConstraintTree × Rest) → constraint ts ≡ Some r → At Constrains ts r
constraint_sound ts r h =
    let p = then_parts demand (after_title ts) r h in
    Constrains.constraint (title_sound ts p.0 p.1) (demand_sound p.0 r p.2)

at_same : (ts start : Rest) → at_constraint ts ≡ Some start → ts ≡ start
at_same ts start h = go (begins_constraint ts) h
  where
    none : Option Rest
    none = None

    go : (b : Bool) → cond b (Some ts) none ≡ Some start → ts ≡ start
    go true h = some_inj ts start h
    go false h = absurd cc

constraint_spelt : IsSpelt Constrains at_constraint constraint
constraint_spelt ts start r e h = constraint_sound ts r (ap constraint (at_same ts start e) ∙ h)

pub constraint_length : (x : ConstraintTree) (from mid : Rest) → Constrains x from mid → length mid < length from
constraint_length x from mid (Constrains.constraint MaybeTitled.none d) = demand_length d
constraint_length x from mid (Constrains.constraint MaybeTitled.titled d) = let l = demand_length d in omega (arith, l)

pub constraint_shortens : Shortens at_constraint constraint
constraint_shortens ts start r e h = constraint_length r.0 ts r.1 (constraint_spelt ts start r e h)

pub constraints_complete : {xs : List ConstraintTree} {from after : Rest} → Many Constrains xs from after
    → IsEnd after → at_constraint after ≡ None → constraints from ≡ Some (xs, after)
constraints_complete m f e =
    many_complete Constrains IsEnd at_constraint constraint constraint_shortens constraint_front constraint_found m f e

pub constraints_sound : (ts : Rest) (r : List ConstraintTree × Rest) → constraints ts ≡ Some r → At (Many Constrains) ts r
constraints_sound = many_sound Constrains at_constraint constraint constraint_spelt
