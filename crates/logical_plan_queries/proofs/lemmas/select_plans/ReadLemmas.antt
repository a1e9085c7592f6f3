-- What a query names is read, and nothing else.
use Rattle.std.proofs.Common.{◌≡◌, ◌∙◌, ◌↔◌, ◌+◌, ◌<◌, ◌≤◌, ◌++◌, append_assoc, append-nil, get_or, take, All, Contains, ℕ, zero, suc, List, [], ◌∷◌, flat_map, length, sym, ap, subst, arith}
use Rattle.std.proofs.lemmas.List.Concat.{flat_map-append}
use Rattle.std.proofs.lemmas.List.Elements.{All-contains, All-contains_itself, All-weaker, Contains-append_left, Contains-append_right}
use Rattle.expr.specs.Columns.{columns_of}
use Rattle.expr.specs.Term.{Term}
use Rattle.semantics.proofs.ElementLemmas.{All-flat_map}
use Rattle.expr.specs.Names.{answers_of}
use Rattle.logical_plan_terms.specs.Over.{IsOver}
use Rattle.semantics.specs.Hits.{order_terms}
use Rattle.semantics.specs.Query.{From, Key, Select}
use Rattle.logical_plan_queries.specs.select_plans.Read.{AreRead, row_terms, select_terms, terms_in}
use Rattle.expr.specs.View.{term}
use Rattle.logical_plan_terms.specs.table_plans.Input.{from_of}
use Rattle.logical_plan_terms.specs.table_plans.Planned.{on_terms}
use Rattle.logical_plan_terms.specs.declared.table_plans.inputs.JoinedTable.{JoinedTable}
use Rattle.logical_plan_terms.proofs.lemmas.table_plans.InputLemmas.{from_of-take}

-- what one of the lists has that are joined
pub contains_flat : {A B : Type 0} (f : A → List B) (xs : List A) (x : A) (y : B) → Contains xs x → Contains (f x) y → Contains (flat_map f xs) y
contains_flat f [] x y held has = absurd (let within = held.1 in omega (arith, within))
contains_flat f (z ∷ xs) x y (zero, within, same) has =
    Contains-append_left (f z) (flat_map f xs) y (subst (λ x. Contains (f x) y) (sym same) has)
contains_flat f (z ∷ xs) x y (suc k, within, same) has =
    Contains-append_right (f z) (flat_map f xs) y (contains_flat f xs x y (k, omega (arith, within), same) has)

-- each term that is computed stands over the columns that are read
pub all_over : (read : List ℕ) (terms : List Term) → AreRead read terms → All (IsOver read 0) terms
all_over read terms are =
    All-weaker (Contains terms) (IsOver read 0)
    (λ t held. record {
      columns =
          All-weaker (Contains (columns_of t)) (Contains read) (λ c named. (are c).1 (contains_flat columns_of terms t c held named)) (columns_of t) (All-contains_itself (columns_of t));
      answers = All-weaker (Contains (answers_of t)) (λ at. 0 ≤ at) (λ at held. omega arith) (answers_of t) (All-contains_itself (answers_of t));
    })
    terms (All-contains_itself terms)

-- what holds of each column that the terms name holds of those that are read
pub all_read : (P : ℕ → Type 0) (read : List ℕ) (terms : List Term) → AreRead read terms → All (λ t. All P (columns_of t)) terms → All P read
all_read P read terms are all =
    All-weaker (Contains read) P
    (λ c held. All-contains P (flat_map columns_of terms) c (All-flat_map P columns_of terms all) ((are c).0 held))
    read (All-contains_itself read)

-- ---- what the code names

-- result columns and then the terms of ORDER BY
pub computed_named : (columns ordered : List Term) (n0 n1 n2 : List ℕ) → n1 ≡ n0 ++ flat_map columns_of columns → n2 ≡ n1 ++ flat_map columns_of ordered
    → n2 ≡ n0 ++ flat_map columns_of (columns ++ ordered)
computed_named columns ordered n0 n1 n2 first second =
    second ∙ ap (λ n. n ++ flat_map columns_of ordered) first ∙ append_assoc n0 (flat_map columns_of columns) (flat_map columns_of ordered)
    ∙ ap (λ n. n0 ++ n) (sym (flat_map-append columns_of columns ordered))

pub named_is : (n0 n1 n2 n3 xs ys us : List ℕ) → n0 ≡ [] → n1 ≡ n0 ++ xs → n2 ≡ n1 ++ ys → n3 ≡ n2 ++ us → n3 ≡ (xs ++ ys) ++ us
named_is n0 n1 n2 n3 xs ys us none first second third = third ∙ ap (λ n. n ++ us) (second ∙ ap (λ n. n ++ ys) (first ∙ ap (λ n. n ++ xs) none))

pub read_of : (from : From) (s : Select) (order : List Key) (named read : List ℕ)
    → named ≡ (columns_of s.condition ++ flat_map columns_of (row_terms s.grouping (s.columns ++ order_terms order))) ++ flat_map columns_of (on_terms from)
    → ((at : ℕ) → Contains read at ↔ Contains named at) → AreRead read (terms_in from s order)
read_of from s order named read is same at =
    let whole : named ≡ flat_map columns_of (terms_in from s order) =
    is
    ∙ sym (flat_map-append columns_of (select_terms s order) (on_terms from)) in
    subst (λ n. Contains read at ↔ Contains n at) whole (same at)

module _ (ts : List JoinedTable) (i : ℕ) (t : JoinedTable) (within : i < length ts) (found : t ≡ get_or ts i t) where
  -- what one ON more names
  pub on_more : (start before after : List ℕ) → before ≡ start ++ flat_map columns_of (on_terms (from_of (take i ts)))
      → after ≡ before ++ columns_of (term t.condition.now) → after ≡ start ++ flat_map columns_of (on_terms (from_of (take (i + 1) ts)))
  on_more start before after is pushed =
      pushed ∙ ap (λ n. n ++ columns_of (term t.condition.now)) is
      ∙ append_assoc start (flat_map columns_of (on_terms (from_of (take i ts)))) (columns_of (term t.condition.now))
      ∙ ap (λ n. start ++ n)
      (sym (ap (λ from. flat_map columns_of (on_terms from)) (from_of-take ts i t within found)
      ∙ flat_map-append columns_of (on_terms (from_of (take i ts))) (term t.condition.now ∷ [])
      ∙ ap (λ n. flat_map columns_of (on_terms (from_of (take i ts))) ++ n) (append-nil (columns_of (term t.condition.now)))))
