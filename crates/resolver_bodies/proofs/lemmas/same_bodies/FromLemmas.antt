-- What a SELECT stands on is told by its sources and its inner queries.
use Rattle.std.proofs.Common.{◌≡◌, List, [], ◌∷◌, ◌++◌, append_assoc, append-nil, refl, ap, sym, ◌∙◌}
use Rattle.resolver_bodies.specs.BodyView.{JoinedData, joined_all}
use Rattle.semantics.specs.Query.{From, InnerQuery}
use Rattle.semantics_names.specs.Statement.{with_answers}

abbrev sources_in : From → List JoinedData
sources_in From.nothing = []
sources_in (From.joined from kind source on) = sources_in from ++ (record { kind = kind; source = source; condition = on }) ∷ []
sources_in (From.with_inner from query) = sources_in from

abbrev queries_in : From → List InnerQuery
queries_in From.nothing = []
queries_in (From.joined from kind source on) = queries_in from
queries_in (From.with_inner from query) = queries_in from ++ query ∷ []

sources_joined : (from : From) (js : List JoinedData) → sources_in (joined_all from js) ≡ sources_in from ++ js
sources_joined from [] = sym (append-nil (sources_in from))
sources_joined from (j ∷ js) = sources_joined (From.joined from j.kind j.source j.condition) js ∙ append_assoc (sources_in from) (j ∷ []) js

queries_joined : (from : From) (js : List JoinedData) → queries_in (joined_all from js) ≡ queries_in from
queries_joined from [] = refl
queries_joined from (j ∷ js) = queries_joined (From.joined from j.kind j.source j.condition) js

sources_answered : (from : From) (qs : List InnerQuery) → sources_in (with_answers from qs) ≡ sources_in from
sources_answered from [] = refl
sources_answered from (q ∷ qs) = sources_answered (From.with_inner from q) qs

queries_answered : (from : From) (qs : List InnerQuery) → queries_in (with_answers from qs) ≡ queries_in from ++ qs
queries_answered from [] = sym (append-nil (queries_in from))
queries_answered from (q ∷ qs) = queries_answered (From.with_inner from q) qs ∙ append_assoc (queries_in from) (q ∷ []) qs

abbrev pub whole : List JoinedData → List InnerQuery → From
whole js qs = with_answers (joined_all From.nothing js) qs

sources_whole : (js : List JoinedData) (qs : List InnerQuery) → sources_in (whole js qs) ≡ js
sources_whole js qs = sources_answered (joined_all From.nothing js) qs ∙ sources_joined From.nothing js

queries_whole : (js : List JoinedData) (qs : List InnerQuery) → queries_in (whole js qs) ≡ qs
queries_whole js qs =
    queries_answered (joined_all From.nothing js) qs ∙ ap (λ before. before ++ qs) (queries_joined From.nothing js)

pub same_whole_sources : (js ks : List JoinedData) (ps qs : List InnerQuery) → whole js ps ≡ whole ks qs → js ≡ ks
same_whole_sources js ks ps qs e = sym (sources_whole js ps) ∙ ap sources_in e ∙ sources_whole ks qs

pub same_whole_queries : (js ks : List JoinedData) (ps qs : List InnerQuery) → whole js ps ≡ whole ks qs → ps ≡ qs
same_whole_queries js ks ps qs e = sym (queries_whole js ps) ∙ ap queries_in e ∙ queries_whole ks qs
