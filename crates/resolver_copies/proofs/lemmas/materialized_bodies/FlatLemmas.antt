-- Sources and inner queries, one after the other.
use Rattle.std.proofs.Common.{◌≡◌, ℕ, ◌+◌, List, [], ◌∷◌, ◌++◌, drop, length, take, append-nil, append_assoc, refl, sym, ap, ◌∙◌, arith}
use Rattle.std.proofs.lemmas.List.{length-append}
use Rattle.values.specs.Datum.{Datum}
use Rattle.expr.specs.Filled.{filled}
use Rattle.expr.specs.Term.{Term}
use Rattle.semantics.specs.Query as q
use Rattle.semantics_names.specs.Statement.{with_answers}
use Rattle.resolver_bodies.specs.BodyView.{JoinedData, SingleData, joined_all}
use Rattle.resolver_copies.specs.materialized_bodies.FlatView.{all_flat, materialized_one, kept_among}
use Rattle.semantics_rewrites.specs.materialized_queries.Flat.{materialized_from, kept_in, kept_of, kept_source}
use Rattle.semantics_rewrites.specs.materialized_queries.FlatWith.{materialized_body_with, queries_in, queries_of}

-- ---- what stands in a FROM

-- these sources, and the queries inside the expressions
abbrev pub whole : List JoinedData → List q.InnerQuery → q.From
whole js qs = with_answers (joined_all q.From.nothing js) qs

kept_joined : (from : q.From) (js : List JoinedData) → kept_in (joined_all from js) ≡ kept_in from ++ kept_among js
kept_joined from [] = sym (append-nil (kept_in from))
kept_joined from (j ∷ js) =
    kept_joined (q.From.joined from j.kind j.source j.condition) js ∙ append_assoc (kept_in from) (kept_source j.source) (kept_among js)

kept_answered : (from : q.From) (qs : List q.InnerQuery) → kept_in (with_answers from qs) ≡ kept_in from
kept_answered from [] = refl
kept_answered from (query ∷ qs) = kept_answered (q.From.with_inner from query) qs

pub kept_whole : (js : List JoinedData) (qs : List q.InnerQuery) → kept_in (whole js qs) ≡ kept_among js
kept_whole js qs = kept_answered (joined_all q.From.nothing js) qs ∙ kept_joined q.From.nothing js

queries_joined : (from : q.From) (js : List JoinedData) → queries_in (joined_all from js) ≡ queries_in from
queries_joined from [] = refl
queries_joined from (j ∷ js) = queries_joined (q.From.joined from j.kind j.source j.condition) js

queries_answered : (from : q.From) (qs : List q.InnerQuery) → queries_in (with_answers from qs) ≡ queries_in from ++ qs
queries_answered from [] = sym (append-nil (queries_in from))
queries_answered from (query ∷ qs) =
    queries_answered (q.From.with_inner from query) qs ∙ append_assoc (queries_in from) (query ∷ []) qs

pub queries_whole : (js : List JoinedData) (qs : List q.InnerQuery) → queries_in (whole js qs) ≡ qs
queries_whole js qs = queries_answered (joined_all q.From.nothing js) qs ∙ ap (λ before. before ++ qs) (queries_joined q.From.nothing js)

module _ (f : Term → Term) (place : ℕ) where
  joined_flat : (from : q.From) (js : List JoinedData)
      → joined_all (materialized_from f place from) (all_flat f (place + length (kept_in from)) js) ≡ materialized_from f place (joined_all from js)
  joined_flat from [] = refl
  joined_flat from (j ∷ js) =
      let next = q.From.joined from j.kind j.source j.condition in
      let behind : (place + length (kept_in from)) + length (kept_source j.source) ≡ place + length (kept_in from ++ kept_source j.source) =
      omega (arith, length-append (kept_in from) (kept_source j.source)) in
      ap (λ at. joined_all (materialized_from f place next) (all_flat f at js)) behind ∙ joined_flat next js

  answered_flat : (from : q.From) (qs : List q.InnerQuery) → materialized_from f place (with_answers from qs) ≡ materialized_from f place from
  answered_flat from [] = refl
  answered_flat from (query ∷ qs) = answered_flat (q.From.with_inner from query) qs

  pub whole_flat : (js : List JoinedData) (qs : List q.InnerQuery) → whole (all_flat f place js) [] ≡ materialized_from f place (whole js qs)
  whole_flat js qs =
      ap (λ at. joined_all q.From.nothing (all_flat f at js)) (omega arith)
      ∙ joined_flat q.From.nothing js ∙ sym (answered_flat (joined_all q.From.nothing js) qs)

pub compound_flat : (answers front back : List (List Datum)) (place behind : ℕ) (left left' : q.Body) (operator : q.Operator) (s s' : SingleData)
    → front ≡ take (length (queries_of left)) answers → back ≡ drop (length (queries_of left)) answers → behind ≡ place + length (kept_of left)
    → left' ≡ materialized_body_with front place left → s' ≡ materialized_one (filled back) behind s
    → q.Body.compound left' operator s'.from s'.select ≡ materialized_body_with answers place (q.Body.compound left operator s.from s.select)
compound_flat answers front back place behind left left' operator s s' front_is back_is behind_is left_is s_is =
    ap (λ body. q.Body.compound body operator s'.from s'.select) (left_is ∙ ap (λ first. materialized_body_with first place left) front_is)
    ∙ ap (λ (z : SingleData). q.Body.compound (materialized_body_with (take (length (queries_of left)) answers) place left) operator z.from z.select)
    (s_is ∙ ap (λ own. materialized_one (filled own) behind s) back_is ∙ ap (λ at. materialized_one (filled (drop (length (queries_of left)) answers)) at s) behind_is)
