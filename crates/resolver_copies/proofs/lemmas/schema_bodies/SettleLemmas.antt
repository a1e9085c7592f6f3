-- Sources and inner queries, one after the other.
use Rattle.std.proofs.Common.{◌≡◌, ◌<◌, ℕ, suc, List, [], ◌∷◌, length, map, get_or, refl, ap, ◌∙◌, arith}
use Rattle.semantics.specs.Query as q
use Rattle.semantics_names.specs.Statement.{with_answers}
use Rattle.resolver_bodies.specs.BodyView.{JoinedData, SingleData, joined_all}
use Rattle.resolver_copies.specs.schema_bodies.SettledView.{with_schema_joined, with_schema_single}
use Rattle.semantics_rewrites.specs.schema_sources.Settled.{with_schema_body, with_schema_from, with_schema_inner}

-- each element of a list was made from that of another at its place
pub all_settled : {A B : Type 0} (view : A → B) (f : B → B) (xs ys : List A) → length xs ≡ length ys
    → ((k : ℕ) (d : A) → k < length ys → view (get_or xs k d) ≡ f (view (get_or ys k d))) → map view xs ≡ map f (map view ys)
all_settled view f [] [] long each = refl
all_settled view f [] (y ∷ ys) long each = absurd (omega (arith, long))
all_settled view f (x ∷ xs) [] long each = absurd (omega (arith, long))
all_settled view f (x ∷ xs) (y ∷ ys) long each =
    rw (each 0 x (omega arith), all_settled view f xs ys (omega (arith, long)) (λ k d less. each (suc k) d (omega (arith, less)))) refl

module _ (place : ℕ) where
  joined_settled : (from : q.From) (js : List JoinedData) → joined_all (with_schema_from place from) (map (with_schema_joined place) js) ≡ with_schema_from place (joined_all from js)
  joined_settled from [] = refl
  joined_settled from (j ∷ js) = joined_settled (q.From.joined from j.kind j.source j.condition) js

  answers_settled : (from : q.From) (qs : List q.InnerQuery) → with_answers (with_schema_from place from) (map (with_schema_inner place) qs) ≡ with_schema_from place (with_answers from qs)
  answers_settled from [] = refl
  answers_settled from (query ∷ qs) = answers_settled (q.From.with_inner from query) qs

  abbrev pub whole : List JoinedData → List q.InnerQuery → q.From
  whole js qs = with_answers (joined_all q.From.nothing js) qs

  pub tables_settled : (js js' : List JoinedData) (qs qs' : List q.InnerQuery) → js' ≡ map (with_schema_joined place) js → qs' ≡ map (with_schema_inner place) qs
      → whole js' qs' ≡ with_schema_from place (whole js qs)
  tables_settled js js' qs qs' sources inner =
      ap (λ ks. whole ks qs') sources ∙ ap (with_answers (joined_all q.From.nothing (map (with_schema_joined place) js))) inner
      ∙ ap (λ from. with_answers from (map (with_schema_inner place) qs)) (joined_settled q.From.nothing js)
      ∙ answers_settled (joined_all q.From.nothing js) qs

  pub compound_settled : (left left' : q.Body) (operator : q.Operator) (s s' : SingleData) → left' ≡ with_schema_body place left → s' ≡ with_schema_single place s
      → q.Body.compound left' operator s'.from s'.select ≡ with_schema_body place (q.Body.compound left operator s.from s.select)
  compound_settled left left' operator s s' before last =
      ap (λ b. q.Body.compound b operator s'.from s'.select) before
      ∙ ap (λ (z : SingleData). q.Body.compound (with_schema_body place left) operator z.from z.select) last
