-- What a SELECT stands on: its sources, and the queries in its expressions.
use Rattle.std.proofs.Common.{◌≡◌, ◌⊎◌, ◌<◌, ◌+◌, ℕ, List, [], ◌∷◌, ◌++◌, append_assoc, append-nil, drop, get_or, length, map, Result, Ok, Err, refl, ap, sym, inl, inr, ◌∙◌}
use Rattle.std.proofs.lemmas.List.{at_drop_more}
use Rattle.values.specs.declared.fault.Fault.{Fault}
use Rattle.values.specs.declared.fault.Fault.TheVariants.{NoMemory}
use Rattle.values.specs.declared.value.Ty.{Ty}
use Rattle.resolver_bodies.specs.BodyView as view
use Rattle.resolver_bodies.specs.BodyView.{JoinedData}
use Rattle.resolver_types.specs.body_types.Rows.{all_joined, from_row, joined_to, row}
use Rattle.semantics.specs.Query.{From, InnerQuery}
use Rattle.semantics_names.specs.Outcome.{also, both, each, followed}
use Rattle.semantics_names.specs.Statement.{with_answers}
use Rattle.semantics_names.specs.Types.{answer_types, from_types, inner_type}

abbrev pub whole : List JoinedData → List InnerQuery → From
whole js qs = with_answers (view.joined_all From.nothing js) qs

-- ---- lists of outcomes

none_before : {A : Type 0} (r : Result (List A) Fault) → also (λ xs. [] ++ xs) r ≡ r
none_before (Ok xs) = refl
none_before (Err fault) = refl

none_behind : {A : Type 0} (r : Result (List A) Fault) → r ≡ both ◌++◌ r (Ok [])
none_behind (Ok xs) = ap Ok (sym (append-nil xs))
none_behind (Err fault) = refl

one_between : {A : Type 0} (before : Result (List A) Fault) (one : Result A Fault) (rest : Result (List A) Fault)
    → both ◌++◌ (both (λ xs x. xs ++ x ∷ []) before one) rest ≡ both ◌++◌ before (both ◌∷◌ one rest)
one_between (Ok xs) (Ok x) (Ok ys) = ap Ok (append_assoc xs (x ∷ []) ys)
one_between (Ok xs) (Ok x) (Err fault) = refl
one_between (Ok xs) (Err fault) rest = refl
one_between (Err fault) one rest = refl

module _ (tables : List (List Ty)) where
  -- ---- the queries in the expressions

  answers_joined : (from : From) (js : List JoinedData) → answer_types tables (view.joined_all from js) ≡ answer_types tables from
  answers_joined from [] = refl
  answers_joined from (j ∷ js) = answers_joined (From.joined from j.kind j.source j.condition) js

  answers_behind : (from : From) (qs : List InnerQuery)
      → answer_types tables (with_answers from qs) ≡ both ◌++◌ (answer_types tables from) (each (inner_type tables) qs)
  answers_behind from [] = none_behind (answer_types tables from)
  answers_behind from (q ∷ qs) =
      answers_behind (From.with_inner from q) qs ∙ one_between (answer_types tables from) (inner_type tables q) (each (inner_type tables) qs)

  answers_whole : (js : List JoinedData) (qs : List InnerQuery) → answer_types tables (whole js qs) ≡ each (inner_type tables) qs
  answers_whole js qs =
      answers_behind (view.joined_all From.nothing js) qs
      ∙ ap (λ r. both ◌++◌ r (each (inner_type tables) qs)) (answers_joined From.nothing js)
      ∙ none_before (each (inner_type tables) qs)

  module _ (answers : List Ty) where
    -- ---- the sources

    columns_joined : (from : From) (js : List JoinedData)
        → from_types tables answers (view.joined_all from js) ≡ all_joined tables answers (from_types tables answers from) js
    columns_joined from [] = refl
    columns_joined from (j ∷ js) = columns_joined (From.joined from j.kind j.source j.condition) js

    columns_behind : (from : From) (qs : List InnerQuery) → from_types tables answers (with_answers from qs) ≡ from_types tables answers from
    columns_behind from [] = refl
    columns_behind from (q ∷ qs) = columns_behind (From.with_inner from q) qs

    columns_whole : (js : List JoinedData) (qs : List InnerQuery) → from_types tables answers (whole js qs) ≡ all_joined tables answers (Ok []) js
    columns_whole js qs = columns_behind (view.joined_all From.nothing js) qs ∙ columns_joined From.nothing js

    refused : (js : List JoinedData) (r : Result (List Ty) Fault) (fault : Fault) → r ≡ Err fault → all_joined tables answers r js ≡ Err fault
    refused [] r fault e = e
    refused (j ∷ js) (Err other) fault e = refused js (Err other) fault e
    refused (j ∷ js) (Ok left) fault e = absurd cc

    -- one of the sources is refused; `tree` is what one of the program is
    pub source_refused : {X : Type 0} (tree : X → JoinedData) (xs : List X) (i : ℕ) (x : X) (left : List Ty) (all : Result (List Ty) Fault)
        → i < length xs → x ≡ get_or xs i x → all ≡ all_joined tables answers (Ok left) (map tree (drop i xs)) → (fault : Fault)
        → (fault ≡ NoMemory) ⊎ (joined_to tables answers left (tree x) ≡ Err fault) → (fault ≡ NoMemory) ⊎ (all ≡ Err fault)
    source_refused tree xs i x left all lt at before fault (inl empty) = inl empty
    source_refused tree xs i x left all lt at before fault (inr is) =
        inr (before ∙ at_drop_more (λ ys. all_joined tables answers (Ok left) (map tree ys)) xs i x lt
        ∙ ap (λ y. all_joined tables answers (joined_to tables answers left (tree y)) (map tree (drop (i + 1) xs))) (sym at)
        ∙ refused (map tree (drop (i + 1) xs)) (joined_to tables answers left (tree x)) fault is)

  -- ---- both

  module _ (from : From) (js : List JoinedData) (qs : List InnerQuery) (is : from ≡ whole js qs) where
    rows_are : from_row tables from
        ≡ followed (each (inner_type tables) qs) (λ answers. also (row answers) (all_joined tables answers (Ok []) js))
    rows_are =
        ap (from_row tables) is
        ∙ ap (λ r. followed r (λ answers. also (row answers) (from_types tables answers (whole js qs)))) (answers_whole js qs)
        ∙ ap (followed (each (inner_type tables) qs)) (λ i answers. also (row answers) (columns_whole answers js qs i))

    -- an inner query is refused
    pub answers_refused : (fault : Fault) → (fault ≡ NoMemory) ⊎ (each (inner_type tables) qs ≡ Err fault)
        → (fault ≡ NoMemory) ⊎ (from_row tables from ≡ Err fault)
    answers_refused fault (inl empty) = inl empty
    answers_refused fault (inr e) =
        inr (rows_are ∙ ap (λ r. followed r (λ answers. also (row answers) (all_joined tables answers (Ok []) js))) e)

    module _ (answers : List Ty) (answered : each (inner_type tables) qs ≡ Ok answers) where
      over_answers : from_row tables from ≡ also (row answers) (all_joined tables answers (Ok []) js)
      over_answers = rows_are ∙ ap (λ r. followed r (λ answers. also (row answers) (all_joined tables answers (Ok []) js))) answered

      -- a source is
      pub columns_refused : (fault : Fault) → (fault ≡ NoMemory) ⊎ (all_joined tables answers (Ok []) js ≡ Err fault)
          → (fault ≡ NoMemory) ⊎ (from_row tables from ≡ Err fault)
      columns_refused fault (inl empty) = inl empty
      columns_refused fault (inr e) = inr (over_answers ∙ ap (also (row answers)) e)

      -- none is
      pub row_taken : (columns : List Ty) → all_joined tables answers (Ok []) js ≡ Ok columns → from_row tables from ≡ Ok (row answers columns)
      row_taken columns e = over_answers ∙ ap (also (row answers)) e
