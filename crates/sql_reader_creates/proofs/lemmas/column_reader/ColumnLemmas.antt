-- The reader of a column finds exactly what its grammar says.
use Rattle.std.proofs.Common.{◌≡◌, ◌<◌, true, false, List, ◌∷◌, length, Option, Some, None, refl, ap, ◌∙◌, map, subst, arith}
use Rattle.std.proofs.lemmas.Bool.{cond-true, cond-false}
use Rattle.values.specs.declared.fault.Fault.{Fault}
use Rattle.values.specs.declared.fault.Fault.TheVariants as f
use Rattle.sql_reader_tokens.specs.Lexeme.{Lexeme}
use Rattle.sql_reader_grammar.proofs.lemmas.phrases.ListLemmas.{GoesOn, goes_end, goes_wrong}
use Rattle.sql_reader_grammar.proofs.lemmas.phrases.OutcomeLemmas.{some_inj}
use Rattle.sql_reader_grammar.proofs.lemmas.phrases.PhraseLemmas.{At, follows_many, many_length}
use Rattle.sql_reader_grammar.specs.phrases.Steps.{Rest, Found, IsMissing, name}
use Rattle.sql_reader_creates.proofs.lemmas.column_reader.ConstraintLemmas.{constraint_front, constraint_length, constraint_shortens, constraints_complete, constraints_sound}
use Rattle.sql_reader_creates.proofs.lemmas.column_reader.TypeLemmas.{type_complete, type_length, type_sound}
use Rattle.sql_reader_creates.proofs.lemmas.column_reader.WordLemmas.{IsEnd}
use Rattle.sql_reader_creates.specs.column_reader.ColumnGrammar.{Constrains, Defines}
use Rattle.sql_reader_creates.specs.column_reader.ColumnReading.{column_type, begins_constraint, at_constraint, constraint, constraints, constrained, typed, column}
use Rattle.sql_reader_syntax.specs.Tree.{Name}
use Rattle.sql_reader_grammar.specs.create_trees.CreateTrees.{TypeTree, ConstraintTree, ColumnTree}
use Rattle.sql_reader_grammar.specs.create_trees.CreateView.{constraint_of}
use Rattle.sql_reader_grammar.specs.declared.create_trees.create.ColumnConstraint.{ColumnConstraint}

-- what may follow a column
abbrev pub EndsColumn : Rest → Type 0
EndsColumn ts = IsEnd ts × (at_constraint ts ≡ None)

pub column_complete : (x : ColumnTree) (from mid : Rest) → Defines x from mid → EndsColumn mid
    → (let r : ColumnTree × Rest = (x, mid) in column from ≡ Some r)
column_complete x _ mid (Defines.column {name = n} {ty = ty} t m) e =
    ap (typed n) (type_complete t (follows_many Constrains IsEnd constraint_front m e.0))
    ∙ ap (constrained n ty) (constraints_complete m e.0 e.1)

some_constrained : (n : Name) (ty : TypeTree) (o : Found ConstraintTree) (r : ColumnTree × Rest)
    → constrained n ty o ≡ Some r
    → (x : List ConstraintTree × Rest) × (o ≡ Some x)
    × ((let p : ColumnTree × Rest = (record { name = n; ty = ty; constraints = x.0 }, x.1) in p) ≡ r)
some_constrained n ty None r h = absurd cc
some_constrained n ty (Some x) r h = (x, refl, some_inj _ r h)

some_typed : (n : Name) (o : Option (TypeTree × Rest)) (r : ColumnTree × Rest) → typed n o ≡ Some r
    → (x : TypeTree × Rest) × (o ≡ Some x) × (constrained n x.0 (constraints x.1) ≡ Some r)
some_typed n None r h = absurd cc
some_typed n (Some x) r h = (x, refl, h)

pub column_sound : (ts : Rest) (r : ColumnTree × Rest) → column ts ≡ Some r → At Defines ts r
column_sound (Lexeme.Name q n ∷ ts) r h =
    let t = some_typed n (column_type ts) r h in
    let c = some_constrained n t.0.0 (constraints t.0.1) r t.2 in
    subst (At Defines (Lexeme.Name q n ∷ ts)) c.2
    (Defines.column (type_sound ts t.0 t.1) (constraints_sound t.0.1 c.0 c.1))
column_sound _ r h = absurd cc

pub column_length : (x : ColumnTree) (from mid : Rest) → Defines x from mid → length mid < length from
column_length x from mid (Defines.column t m) =
    let l = many_length Constrains (λ x from mid c. let k = constraint_length x from mid c in omega (arith, k)) m in
    let k = type_length t in
    omega (arith, l, k)

-- What the definition is, by its parts

pub begins_here : (ts : Rest) → begins_constraint ts ≡ true → at_constraint ts ≡ Some ts
begins_here ts h = cond-true _ _ _ h

pub ends_here : (ts : Rest) → begins_constraint ts ≡ false → at_constraint ts ≡ None
ends_here ts h = cond-false _ _ _ h

column_step : (ts words start : Rest) (n : Name) (ty : TypeTree)
    → (let r : Name × Rest = (n, words) in name ts ≡ Some r)
    → (let r : TypeTree × Rest = (ty, start) in column_type words ≡ Some r)
    → column ts ≡ constrained n ty (constraints start)
column_step (Lexeme.Name q m ∷ ts) words start n ty h k =
    let same : (let r : Name × Rest = (m, ts) in r) ≡ (let r : Name × Rest = (n, words) in r) = cc in
    ap (λ (p : Name × Rest). typed p.0 (column_type p.1)) same ∙ ap (typed n) k
column_step _ words start n ty h k = absurd cc

pub column_found : (ts words start rest : Rest) (n : Name) (ty : TypeTree) (front : List ColumnConstraint)
    → (let r : Name × Rest = (n, words) in name ts ≡ Some r)
    → (let r : TypeTree × Rest = (ty, start) in column_type words ≡ Some r) → at_constraint rest ≡ None
    → GoesOn constraint_of at_constraint constraint (constraints start) front rest
    → (let r : ColumnTree × Rest = (record { name = n; ty = ty; constraints = map constraint_of front }, rest) in
    column ts ≡ Some r)
column_found ts words start rest n ty front h k e g =
    column_step ts words start n ty h k
    ∙ ap (constrained n ty)
    (goes_end constraint_of at_constraint constraint constraint_shortens (constraints start) rest front e g)

pub column_wrong : (e : Fault) (ts words start rest : Rest) (n : Name) (ty : TypeTree) (front : List ColumnConstraint)
    → (let r : Name × Rest = (n, words) in name ts ≡ Some r)
    → (let r : TypeTree × Rest = (ty, start) in column_type words ≡ Some r) → at_constraint rest ≡ Some rest
    → IsMissing e (constraint rest)
    → GoesOn constraint_of at_constraint constraint (constraints start) front rest
    → IsMissing e (column ts)
column_wrong (f.Syntax place) ts words start rest n ty front h k b w g =
    column_step ts words start n ty h k
    ∙ ap (constrained n ty)
    (goes_wrong constraint_of at_constraint constraint constraint_shortens (constraints start) rest rest front b w g)
column_wrong f.NoMemory ts words start rest n ty front h k b w g = tt
column_wrong _ ts words start rest n ty front h k b w g = absurd w
