-- The last DEFAULT of a column.
use Rattle.std.proofs.Common.{◌≡◌, All, inl, inr, List, [], ◌∷◌, ◌++◌, map, refl, sym, ap, ◌∙◌, subst, append_assoc, arith}
use Rattle.std.proofs.lemmas.List.{map_push}
use Rattle.std.proofs.lemmas.List.Elements.{All-contains, All-nil, All-push, Contains-append_right}
use Rattle.sql_reader_grammar.specs.create_trees.CreateTrees.{ConstraintTree, DefaultTree}
use Rattle.sql_reader_grammar.specs.create_trees.CreateView.{constraint_of}
use Rattle.sql_reader_grammar.specs.declared.create_trees.create.ColumnConstraint.{ColumnConstraint}
use Rattle.schema_keys.specs.Missing.{IsMissingValue, IsOther, filled, missing_behind}
use Rattle.schema_tables.specs.TableData.{MissingData}

missing_default : (constraints : List ConstraintTree) (value : DefaultTree) (missing : MissingData) → missing ≡ filled value
    → IsMissingValue (constraints ++ ConstraintTree.Default value ∷ []) missing
missing_default constraints value missing e =
    inr (value, record { front = constraints; back = []; stands = refl; last = All-nil IsOther }, e)

missing_other : (constraints : List ConstraintTree) (c : ConstraintTree) (missing : MissingData) → IsOther c
    → IsMissingValue constraints missing → IsMissingValue (constraints ++ c ∷ []) missing
missing_other constraints c missing other (inl (none, e)) = inl (All-push IsOther constraints c none other, e)
missing_other constraints c missing other (inr (value, is, e)) =
    inr (
      value,
      record {
        front = is.front;
        back = is.back ++ c ∷ [];
        stands = ap (λ cs. cs ++ c ∷ []) is.stands ∙ append_assoc is.front (ConstraintTree.Default value ∷ is.back) (c ∷ []);
        last = All-push IsOther is.back c is.last other;
      },
      e,
    )

-- one constraint more
step : (constraints : List ConstraintTree) (c : ConstraintTree) (missing : MissingData) → IsMissingValue constraints missing
    → IsMissingValue (constraints ++ c ∷ []) (missing_behind missing c)
step constraints (ConstraintTree.Default value) missing is = missing_default constraints value (filled value) refl
step constraints (ConstraintTree.PrimaryKey order automatic) missing is = missing_other constraints _ missing tt is
step constraints ConstraintTree.NotNull missing is = missing_other constraints _ missing tt is
step constraints ConstraintTree.Unique missing is = missing_other constraints _ missing tt is
step constraints ConstraintTree.Check missing is = missing_other constraints _ missing tt is
step constraints (ConstraintTree.Collate name) missing is = missing_other constraints _ missing tt is
step constraints ConstraintTree.References missing is = missing_other constraints _ missing tt is

pub missing_more : (constraints : List ColumnConstraint) (c : ColumnConstraint) (missing next : MissingData)
    → next ≡ missing_behind missing (constraint_of c) → IsMissingValue (map constraint_of constraints) missing
    → IsMissingValue (map constraint_of (constraints ++ c ∷ [])) next
missing_more constraints c missing next e is =
    subst (λ cs. IsMissingValue cs next) (sym (map_push constraint_of constraints c))
    (subst (IsMissingValue (map constraint_of constraints ++ constraint_of c ∷ [])) (sym e)
    (step (map constraint_of constraints) (constraint_of c) missing is))

-- one value
no_default : (front back : List ConstraintTree) (value : DefaultTree) → ¬ All IsOther (front ++ ConstraintTree.Default value ∷ back)
no_default front back value all =
    All-contains IsOther (front ++ ConstraintTree.Default value ∷ back) (ConstraintTree.Default value) all
    (Contains-append_right front (ConstraintTree.Default value ∷ back) (ConstraintTree.Default value) (0, omega arith, refl))

same_value : (front other back rest : List ConstraintTree) (a b : DefaultTree)
    → front ++ ConstraintTree.Default a ∷ back ≡ other ++ ConstraintTree.Default b ∷ rest → All IsOther back → All IsOther rest → a ≡ b
same_value [] [] back rest a b e p q = cc
same_value [] (x ∷ other) back rest a b e p q =
    let tail : back ≡ other ++ ConstraintTree.Default b ∷ rest = cc in
    absurd (no_default other rest b (subst (All IsOther) tail p))
same_value (x ∷ front) [] back rest a b e p q =
    let tail : front ++ ConstraintTree.Default a ∷ back ≡ rest = cc in
    absurd (no_default front back a (subst (All IsOther) (sym tail) q))
same_value (x ∷ front) (y ∷ other) back rest a b e p q = same_value front other back rest a b (cc) p q

pub one_missing : (constraints : List ConstraintTree) (a b : MissingData) → IsMissingValue constraints a → IsMissingValue constraints b → a ≡ b
one_missing constraints a b (inl (none, p)) (inl (nothing, q)) = p ∙ sym q
one_missing constraints a b (inl (none, p)) (inr (value, is, q)) =
    absurd (no_default is.front is.back value (subst (All IsOther) is.stands none))
one_missing constraints a b (inr (value, is, p)) (inl (none, q)) =
    absurd (no_default is.front is.back value (subst (All IsOther) is.stands none))
one_missing constraints a b (inr (value, is, p)) (inr (other, at, q)) =
    p ∙ (ap filled (same_value is.front at.front is.back at.back value other (sym is.stands ∙ at.stands) is.last at.last) ∙ sym q)
