-- Which terms stand over the columns that are read.
use Rattle.std.proofs.Common.{◌≡◌, ◌∙◌, ◌==◌, ◌&&◌, ◌+◌, ◌≤◌, ◌<◌, All, Bool, true, false, Contains, MatchBool, ℕ, List, [], ◌∷◌, ◌++◌, get_or, leb, length, map, take, slice_index_or, refl, sym, ap, subst}
use Rattle.std.specs.List.{AllZip, list_all, list_any}
use Rattle.std.proofs.lemmas.Bool.{eq-eqb, eqb-true, le-leb, leb-true}
use Rattle.std.proofs.lemmas.List.{get_or-map, length-map, map-append, take_more}
use Rattle.std.proofs.lemmas.List.Elements.{All-cons, All-get_or, All-head, All-nil, All-push, All-tail, AllZip-push}
use Rattle.std.proofs.lemmas.List.Folds.{Any-from_list_any, list_any-from_Any}
use Rattle.expr.specs.Columns.{columns_of}
use Rattle.expr.specs.Term.{Term}
use Rattle.expr.specs.declared.tree.Expr.{Expr}
use Rattle.expr.specs.View.{term}
use Rattle.expr.specs.Names.{answers_of}
use Rattle.logical_plan_terms.specs.Over.{IsOver}

-- tests of each element, joined, decide whether all hold
pub decides_all : {X : Type 0} (p : X → Bool) (P : X → Type 0) → ((x : X) → MatchBool (p x) (P x) (¬ P x))
    → (xs : List X) → MatchBool (list_all p xs) (All P xs) (¬ All P xs)
decides_all p P each [] = All-nil P
decides_all p P each (x ∷ xs) = joined (p x) (list_all p xs) (each x) (decides_all p P each xs)
  where
    joined : (b c : Bool) → MatchBool b (P x) (¬ P x) → MatchBool c (All P xs) (¬ All P xs)
        → MatchBool (b && c) (All P (x ∷ xs)) (¬ All P (x ∷ xs))
    joined true true here rest = All-cons P x xs here rest
    joined true false here rest = λ all. rest (All-tail P x xs all)
    joined false c here rest = λ all. here (All-head P x xs all)

by_test : (b : Bool) (P : Type 0) → (b ≡ true → P) → (P → b ≡ true) → MatchBool b P (¬ P)
by_test true P to from = to refl
by_test false P to from = λ holds. let e : false ≡ true = from holds in cc

-- a column is read
is_read : (read : List ℕ) (column : ℕ) → MatchBool (list_any (λ at. at == column) read) (Contains read column) (¬ Contains read column)
is_read read column =
    by_test (list_any (λ at. at == column) read) (Contains read column)
    (λ any.
    let found = Any-from_list_any (λ at. at == column) read any in
    let same : found.1 ≡ column = eqb-true found.1 column found.4 in
    (found.0, found.2, subst (λ c. slice_index_or read found.0 c ≡ c) same found.3))
    (λ held. list_any-from_Any (λ at. at == column) read (held.0, column, held.1, held.2, eq-eqb column column refl))

are_read : (read columns : List ℕ)
    → MatchBool (list_all (λ column. list_any (λ at. at == column) read) columns) (All (Contains read) columns) (¬ All (Contains read) columns)
are_read read = decides_all (λ column. list_any (λ at. at == column) read) (Contains read) (is_read read)

are_behind : (inner : ℕ) (answers : List ℕ)
    → MatchBool (list_all (λ at. leb inner at) answers) (All (λ at. inner ≤ at) answers) (¬ All (λ at. inner ≤ at) answers)
are_behind inner = decides_all (λ at. leb inner at) (λ at. inner ≤ at) (λ at. by_test (leb inner at) (inner ≤ at) (leb-true inner at) (le-leb inner at))

-- ---- one term

pub told : (b : Bool) (P : Type 0) → b ≡ true → MatchBool b P (¬ P) → P
told true P is tells = tells
told false P is tells = absurd (let e : false ≡ true = is in cc)

-- what was put into an empty list
pub pushed : (old new seen named : List ℕ) → old ≡ [] → new ≡ old ++ named → seen ≡ new → seen ≡ named
pushed old new seen named empty put is = is ∙ put ∙ ap (λ xs. xs ++ named) empty

refuted : (b : Bool) (P : Type 0) → b ≡ false → MatchBool b P (¬ P) → ¬ P
refuted true P is tells = absurd (let e : true ≡ false = is in cc)
refuted false P is tells = tells

module _ (read : List ℕ) (inner : ℕ) (t : Term) where
  -- where each column is read, the answers tell
  pub tells_answers : (answers : List ℕ) → answers ≡ answers_of t
      → list_all (λ column. list_any (λ at. at == column) read) (columns_of t) ≡ true
      → MatchBool (list_all (λ at. leb inner at) answers) (IsOver read inner t) (¬ IsOver read inner t)
  tells_answers answers are columns =
      by_test (list_all (λ at. leb inner at) answers) (IsOver read inner t)
      (λ behind. record {
        columns = told (list_all (λ column. list_any (λ at. at == column) read) (columns_of t)) (All (Contains read) (columns_of t)) columns (are_read read (columns_of t));
        answers =
            subst (All (λ at. inner ≤ at)) are
            (told (list_all (λ at. leb inner at) answers) (All (λ at. inner ≤ at) answers) behind (are_behind inner answers));
      })
      (λ over. passes (list_all (λ at. leb inner at) answers) (are_behind inner answers) (subst (All (λ at. inner ≤ at)) (sym are) over.answers))
    where
      passes : (b : Bool) → MatchBool b (All (λ at. inner ≤ at) answers) (¬ All (λ at. inner ≤ at) answers) → All (λ at. inner ≤ at) answers → b ≡ true
      passes true tells all = refl
      passes false tells all = absurd (tells all)

  -- where some column isn't, the term stands over no such columns
  pub tells_columns : list_all (λ column. list_any (λ at. at == column) read) (columns_of t) ≡ false → ¬ IsOver read inner t
  tells_columns some over =
      refuted (list_all (λ column. list_any (λ at. at == column) read) (columns_of t)) (All (Contains read) (columns_of t)) some
      (are_read read (columns_of t)) over.columns

-- ---- terms

module _ (read : List ℕ) (inner : ℕ) (terms : List Expr) (i : ℕ) (t : Expr)
    (within : i < length terms) (at : t ≡ get_or terms i t) where
  taken : map term (take (i + 1) terms) ≡ map term (take i terms) ++ term t ∷ []
  taken =
      ap (map term) (take_more terms i t within) ∙ map-append term (take i terms) (get_or terms i t ∷ [])
      ∙ ap (λ t. map term (take i terms) ++ term t ∷ []) (sym at)

  pub over_more : All (IsOver read inner) (map term (take i terms)) → IsOver read inner (term t) → All (IsOver read inner) (map term (take (i + 1) terms))
  over_more all over = subst (All (IsOver read inner)) (sym taken) (All-push (IsOver read inner) (map term (take i terms)) (term t) all over)

  pub zip_more : (R : Term → Term → Type 0) (es : List Expr) (e : Expr) → AllZip R (map term es) (map term (take i terms)) → R (term e) (term t)
      → AllZip R (map term (es ++ e ∷ [])) (map term (take (i + 1) terms))
  zip_more R es e all stands =
      subst (λ ts. AllZip R (map term (es ++ e ∷ [])) ts) (sym taken)
      (subst (λ es. AllZip R es (map term (take i terms) ++ term t ∷ [])) (sym (map-append term es (e ∷ [])))
      (AllZip-push R (map term es) (map term (take i terms)) (term e) (term t) all stands))

  pub not_all : ¬ IsOver read inner (term t) → ¬ All (IsOver read inner) (map term terms)
  not_all refused all =
      refused
      (subst (IsOver read inner) (get_or-map term terms i t (term t) within ∙ ap term (sym at))
      (All-get_or (IsOver read inner) (map term terms) i (term t) (subst (λ n. i < n) (sym (length-map terms term)) within) all))
