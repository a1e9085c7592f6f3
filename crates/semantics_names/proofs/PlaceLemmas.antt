-- What may stand at a place of a SELECT.
use Rattle.std.proofs.Common.{◌≡◌, Bool, true, false, if◌then◌else◌, ℕ, suc, List, [], ◌∷◌, ◌++◌, Option, Some, None, option_map, Result, Ok, Err, All, refl, sym, subst, ◌∙◌}
use Rattle.std.proofs.lemmas.List.Elements.{All-append, All-cons, All-head, All-nil, All-tail}
use Rattle.values.specs.declared.fault.Fault.{Fault}
use Rattle.values.specs.declared.fault.Fault.TheVariants.{BareColumn, WrongPlace}
use Rattle.expr.specs.Term.{Term}
use Rattle.sql_reader_syntax.specs.ExprTree.{ArmTrees, BehindTree, ExprTree, ExprTrees, MaybeExpr, OverTree, plain}
use Rattle.sql_reader_syntax.specs.declared.expr.Function.{Function}
use Rattle.sql_reader_syntax.specs.declared.expr.Function.TheVariants as w
use Rattle.semantics_names.specs.Expression.{Answers, InnerTree, among_answer, among_items, applied, arms_of, between_bounds, binary, called, case, operand_of, otherwise_of, postfix, prefix, term_of, terms_of}
use Rattle.semantics_names.specs.Laws.{BareIsBeside, ColumnsAreScalar, IsScalar, is_scalar}
use Rattle.semantics_names.specs.Outcome.{also, both, chosen}
use Rattle.semantics_names.specs.Parts.{all_parts, arms_parts, behind_parts, maybe_parts, parts}
use Rattle.semantics_names.specs.Places.{bare, column_from, columns_say, key_column, key_or, place_of}
use Rattle.semantics_names.specs.Same.{is_same_term}
use Rattle.semantics_names.specs.Scope.{Scope, bare_term, called as columns_called, only}
use Rattle.semantics_names.proofs.OutcomeLemmas.{also-ok, both-ok, followed-ok}
use Rattle.semantics_names.proofs.SameLemmas.{itself_term, same_term}

-- ---- bare columns

no_more : (o : Option ℕ) → option_map suc o ≡ None → o ≡ None
no_more None e = refl
no_more (Some at) e = absurd cc

none_is : (t : Term) (keys : List Term) → place_of is_same_term t keys ≡ None → All (λ key. key ≡ t → ⊥) keys
none_is t [] e = All-nil (λ key. key ≡ t → ⊥)
none_is t (key ∷ keys) e = by (is_same_term t key) refl e (none_is t keys)
  where
    by : (b : Bool) → is_same_term t key ≡ b → (if b then Some 0 else option_map suc (place_of is_same_term t keys)) ≡ None
        → (place_of is_same_term t keys ≡ None → All (λ key. key ≡ t → ⊥) keys) → All (λ key. key ≡ t → ⊥) (key ∷ keys)
    by true so e rest = absurd cc
    by false so e rest =
        All-cons (λ key. key ≡ t → ⊥) key keys
        (λ same. let differ : true ≡ false = sym (subst (λ k. is_same_term t k ≡ true) (sym same) (itself_term t)) ∙ so in absurd cc)
        (rest (no_more (place_of is_same_term t keys) e))

is_none : (t : Term) (keys : List Term) → All (λ key. key ≡ t → ⊥) keys → place_of is_same_term t keys ≡ None
is_none t [] all = refl
is_none t (key ∷ keys) all = by (is_same_term t key) refl (is_none t keys (All-tail (λ key. key ≡ t → ⊥) key keys all))
  where
    by : (b : Bool) → is_same_term t key ≡ b → place_of is_same_term t keys ≡ None → (if b then Some 0 else option_map suc (place_of is_same_term t keys)) ≡ None
    by true so rest = absurd (All-head (λ key. key ≡ t → ⊥) key keys all (sym (same_term t key so)))
    by false so rest = subst (λ o. option_map suc o ≡ None) (sym rest) refl

-- what is said of a name, by what it is over the columns of FROM
Said : List Term → Result Term Fault → Result (Option Term) Fault
Said by found = key_or (key_column by (chosen (also Some found) (Err WrongPlace))) (bare found)

said_at : (by : List Term) (t : Term) (place : Option ℕ) → place_of is_same_term t by ≡ place → key_or (column_from 0 place) (Err BareColumn) ≡ Err BareColumn → place ≡ None
said_at by t None so e = refl
said_at by t (Some at) so e = absurd cc

bare_so : (by : List Term) (found : List (List ℕ)) → Said by (also bare_term (only found)) ≡ Err BareColumn
    → (t : Term) × (also bare_term (only found) ≡ Ok t) × All (λ key. key ≡ t → ⊥) by
unfolding Said
bare_so by [] e = absurd cc
bare_so by (places ∷ []) e =
    let t : Term = bare_term places in
    (t, refl, none_is t by (said_at by t (place_of is_same_term t by) refl e))
bare_so by (places ∷ others ∷ rest) e = absurd cc

so_bare : (by : List Term) (found : List (List ℕ)) → (t : Term) × (also bare_term (only found) ≡ Ok t) × All (λ key. key ≡ t → ⊥) by
    → Said by (also bare_term (only found)) ≡ Err BareColumn
unfolding Said
so_bare by [] (t, e, all) = absurd cc
so_bare by (places ∷ []) (t, e, all) =
    let same : bare_term places ≡ t = cc in
    let nowhere : place_of is_same_term (bare_term places) by ≡ None =
    is_none (bare_term places) by (subst (λ u. All (λ key. key ≡ u → ⊥) by) (sym same) all) in
    subst (λ o. key_or (column_from 0 o) (Err BareColumn) ≡ Err BareColumn) (sym nowhere) refl
so_bare by (places ∷ others ∷ rest) (t, e, all) = absurd cc

pub bare_is_beside : BareIsBeside
unfolding Said
bare_is_beside answers scope by aggregates table name = (bare_so by (columns_called table name 0 scope), so_bare by (columns_called table name 0 scope))

-- ---- scalar functions

applied_scalar : (f : Function) (ts : List Term) (t : Term) → applied f ts ≡ Ok t → is_scalar f ≡ true
applied_scalar w.Abs ts t e = refl
applied_scalar w.Coalesce ts t e = refl
applied_scalar w.Hex ts t e = refl
applied_scalar w.IfNull ts t e = refl
applied_scalar w.Iif ts t e = refl
applied_scalar w.Length ts t e = refl
applied_scalar w.Lower ts t e = refl
applied_scalar w.NullIf ts t e = refl
applied_scalar w.TypeOf ts t e = refl
applied_scalar w.Upper ts t e = refl
applied_scalar f ts t e = absurd cc

called_scalar : (behind : BehindTree) (f : Function) (ts : List Term) (t : Term) → called behind f ts ≡ Ok t → (behind ≡ plain) × (is_scalar f ≡ true)
called_scalar (BehindTree.Behind MaybeExpr.Absent OverTree.No_over) f ts t e = (refl, applied_scalar f ts t e)
called_scalar (BehindTree.Behind MaybeExpr.Absent (OverTree.OverName name)) f ts t e = absurd cc
called_scalar (BehindTree.Behind MaybeExpr.Absent (OverTree.Over v)) f ts t e = absurd cc
called_scalar (BehindTree.Behind (MaybeExpr.Present x) over) f ts t e = absurd cc

-- all are, and so is one more behind them
behind_all : (xs : List ExprTree) (e : ExprTree) → All IsScalar xs → IsScalar e → All IsScalar (xs ++ e ∷ [])
behind_all xs e all one = All-append IsScalar xs (e ∷ []) all (All-cons IsScalar e [] one (All-nil IsScalar))

alone : (e : ExprTree) → IsScalar e → All IsScalar (e ∷ [])
alone e one = All-cons IsScalar e [] one (All-nil IsScalar)

module _ (answers : Answers) (scope : Scope) where
  mutual
    are_scalar : (e : ExprTree) (t : Term) → term_of answers (columns_say scope) e ≡ Ok t → All IsScalar (parts e)
    are_scalar ExprTree.Null t h = alone ExprTree.Null tt
    are_scalar (ExprTree.Number z) t h = alone (ExprTree.Number z) tt
    are_scalar (ExprTree.Text content) t h = alone (ExprTree.Text content) tt
    are_scalar (ExprTree.Blob bytes) t h = alone (ExprTree.Blob bytes) tt
    are_scalar (ExprTree.Column table name) t h = alone (ExprTree.Column table name) tt
    are_scalar (ExprTree.Prefix op x) t h =
        let (a, f, same) = also-ok (prefix op) (term_of answers (columns_say scope) x) t h in behind_all (parts x) (ExprTree.Prefix op x) (are_scalar x a f) tt
    are_scalar (ExprTree.Binary op x y) t h =
        let (a, b, f, g, same) = both-ok (binary op) (term_of answers (columns_say scope) x) (term_of answers (columns_say scope) y) t h in
        behind_all (parts x ++ parts y) (ExprTree.Binary op x y) (All-append IsScalar (parts x) (parts y) (are_scalar x a f) (are_scalar y b g)) tt
    are_scalar (ExprTree.Postfix op x) t h =
        let (a, f, same) = also-ok (postfix op) (term_of answers (columns_say scope) x) t h in behind_all (parts x) (ExprTree.Postfix op x) (are_scalar x a f) tt
    are_scalar (ExprTree.Between not x low high) t h =
        let (a, f, more) = followed-ok (term_of answers (columns_say scope) x) _ t h in
        let (b, d, g, k, same) = both-ok (between_bounds not a) (term_of answers (columns_say scope) low) (term_of answers (columns_say scope) high) t more in
        behind_all (parts x ++ parts low ++ parts high) (ExprTree.Between not x low high)
        (All-append IsScalar (parts x ++ parts low) (parts high) (All-append IsScalar (parts x) (parts low) (are_scalar x a f) (are_scalar low b g)) (are_scalar high d k)) tt
    are_scalar (ExprTree.In not x items) t h =
        let (a, ts, f, g, same) = both-ok (among_items not) (term_of answers (columns_say scope) x) (terms_of answers (columns_say scope) items) t h in
        behind_all (parts x ++ all_parts items) (ExprTree.In not x items) (All-append IsScalar (parts x) (all_parts items) (are_scalar x a f) (all_scalar items ts g)) tt
    are_scalar (ExprTree.InQuery not x query) t h =
        let (a, members, f, g, same) = both-ok (among_answer not) (term_of answers (columns_say scope) x) (answers (InnerTree.values_in query)) t h in
        behind_all (parts x) (ExprTree.InQuery not x query) (are_scalar x a f) tt
    are_scalar (ExprTree.Exists query) t h = alone (ExprTree.Exists query) tt
    are_scalar (ExprTree.CountRows behind) t h = absurd cc
    are_scalar (ExprTree.Call function items behind) t h =
        let (ts, f, more) = followed-ok (terms_of answers (columns_say scope) items) (called behind function) t h in
        let (bare_call, scalar_call) = called_scalar behind function ts t more in
        let none_behind : All IsScalar (behind_parts behind) = subst (λ b. All IsScalar (behind_parts b)) (sym bare_call) (All-nil IsScalar) in
        behind_all (all_parts items ++ behind_parts behind) (ExprTree.Call function items behind)
        (All-append IsScalar (all_parts items) (behind_parts behind) (all_scalar items ts f) none_behind) (bare_call, scalar_call)
    are_scalar (ExprTree.Case operand rest otherwise) t h =
        let (x, f, more) = followed-ok (operand_of answers (columns_say scope) operand) _ t h in
        let (xs, y, g, k, same) = both-ok (case x) (arms_of answers (columns_say scope) rest) (otherwise_of answers (columns_say scope) otherwise) t more in
        behind_all (maybe_parts operand ++ arms_parts rest ++ maybe_parts otherwise) (ExprTree.Case operand rest otherwise)
        (All-append IsScalar (maybe_parts operand ++ arms_parts rest) (maybe_parts otherwise)
        (All-append IsScalar (maybe_parts operand) (arms_parts rest) (operand_scalar operand x f) (arms_scalar rest xs g)) (otherwise_scalar otherwise y k)) tt

    all_scalar : (es : ExprTrees) (ts : List Term) → terms_of answers (columns_say scope) es ≡ Ok ts → All IsScalar (all_parts es)
    all_scalar ExprTrees.No_more ts h = All-nil IsScalar
    all_scalar (ExprTrees.More e es) ts h =
        let (a, others, f, g, same) = both-ok ◌∷◌ (term_of answers (columns_say scope) e) (terms_of answers (columns_say scope) es) ts h in
        All-append IsScalar (parts e) (all_parts es) (are_scalar e a f) (all_scalar es others g)

    operand_scalar : (m : MaybeExpr) (o : Option Term) → operand_of answers (columns_say scope) m ≡ Ok o → All IsScalar (maybe_parts m)
    operand_scalar MaybeExpr.Absent o h = All-nil IsScalar
    operand_scalar (MaybeExpr.Present e) o h =
        let (a, f, same) = also-ok Some (term_of answers (columns_say scope) e) o h in are_scalar e a f

    otherwise_scalar : (m : MaybeExpr) (t : Term) → otherwise_of answers (columns_say scope) m ≡ Ok t → All IsScalar (maybe_parts m)
    otherwise_scalar MaybeExpr.Absent t h = All-nil IsScalar
    otherwise_scalar (MaybeExpr.Present e) t h = are_scalar e t h

    arms_scalar : (rest : ArmTrees) (xs : List (Term × Term)) → arms_of answers (columns_say scope) rest ≡ Ok xs → All IsScalar (arms_parts rest)
    arms_scalar ArmTrees.No_arm xs h = All-nil IsScalar
    arms_scalar (ArmTrees.Arm x y rest) xs h =
        let (pair, more, f, g, same) =
        both-ok ◌∷◌ (both (λ c e. (c, e)) (term_of answers (columns_say scope) x) (term_of answers (columns_say scope) y)) (arms_of answers (columns_say scope) rest) xs h in
        let (a, b, k, l, pairs) = both-ok (λ c e. (c, e)) (term_of answers (columns_say scope) x) (term_of answers (columns_say scope) y) pair f in
        All-append IsScalar (parts x ++ parts y) (arms_parts rest) (All-append IsScalar (parts x) (parts y) (are_scalar x a k) (are_scalar y b l))
        (arms_scalar rest more g)

pub columns_are_scalar : ColumnsAreScalar
columns_are_scalar = are_scalar
