-- A source that is joined to those before it.
use Rattle.std.proofs.Common.{◌≡◌, ◌⊎◌, false, if◌then◌else◌, List, [], ◌∷◌, ◌++◌, Option, Result, Ok, Err, map, length, refl, ap, sym, inl, inr, ◌∙◌}
use Rattle.std.proofs.lemmas.List.{map-append}
use Rattle.std.specs.List.{list_any}
use Rattle.values.specs.declared.fault.Fault.{Fault}
use Rattle.values.specs.declared.fault.Fault.TheVariants.{DuplicateName, NoMemory}
use Rattle.expr.specs.Term.{Term}
use Rattle.resolver_bodies.specs.BodyView.{JoinedData, joined_all}
use Rattle.semantics.specs.Query.{Body, From, JoinKind}
use Rattle.semantics_names.specs.Expression.{Answers, term_of}
use Rattle.semantics_names.specs.Outcome.{also}
use Rattle.semantics_names.specs.Places.{columns_say}
use Rattle.semantics_names.specs.Scope.{Scope}
use Rattle.semantics_names.specs.Sources.{Condition, Given, Sources, is_same_source, joined, joined_on, shown_from}
use Rattle.resolver_sources.specs.source_names.Matched.{condition}
use Rattle.sql_reader_syntax.specs.ExprTree.{ExprTree, OnTree}
use Rattle.sql_reader_syntax.specs.Tree.{Name}

-- ---- ON

module _ (answers : Answers) (left right scope : Scope) (e : ExprTree) (both : scope ≡ left ++ right) where
  on_both : joined_on answers (OnTree.On e) left right ≡ also (condition scope) (term_of answers (columns_say scope) e)
  on_both = ap (λ s. also (condition s) (term_of answers (columns_say s) e)) (sym both)

  pub on_is : (t : Term) → term_of answers (columns_say scope) e ≡ Ok t → joined_on answers (OnTree.On e) left right ≡ Ok (condition scope t)
  on_is t is = on_both ∙ ap (also (condition scope)) is

  pub on_refused : (fault : Fault) → (fault ≡ NoMemory) ⊎ (term_of answers (columns_say scope) e ≡ Err fault)
      → (fault ≡ NoMemory) ⊎ (joined_on answers (OnTree.On e) left right ≡ Err fault)
  on_refused fault (inl empty) = inl empty
  on_refused fault (inr is) = inr (on_both ∙ ap (also (condition scope)) is)

-- ---- one source more

abbrev with_one : Sources → JoinKind → Given → Condition → Sources
with_one left kind given c = record {
  from = From.joined left.from kind given.source c.term;
  names = left.names ++ given.name ∷ [];
  scope = c.scope;
  beside = left.beside ++ given.beside;
}

module _ (answers : Answers) (left : Sources) (kind : JoinKind) (on : OnTree) (given : Given) (right : Scope)
    (found : Result Scope Fault) (apart : list_any (is_same_source given.name) left.names ≡ false)
    (of : found ≡ Ok (shown_from given.name (length left.scope) given.columns)) (shown : found ≡ Ok right) where
  is_joined : joined answers left kind on given ≡ also (with_one left kind given) (joined_on answers on left.scope right)
  is_joined =
      let same : shown_from given.name (length left.scope) given.columns ≡ right = cc in
      ap (λ t. if t then Err DuplicateName else also (with_one left kind given)
      (joined_on answers on left.scope (shown_from given.name (length left.scope) given.columns))) apart
      ∙ ap (λ r. also (with_one left kind given) (joined_on answers on left.scope r)) same

  pub one_more : (c : Condition) → joined_on answers on left.scope right ≡ Ok c → joined answers left kind on given ≡ Ok (with_one left kind given c)
  one_more c is = is_joined ∙ ap (also (with_one left kind given)) is

  pub none_more : (fault : Fault) → (fault ≡ NoMemory) ⊎ (joined_on answers on left.scope right ≡ Err fault)
      → (fault ≡ NoMemory) ⊎ (joined answers left kind on given ≡ Err fault)
  none_more fault (inl empty) = inl empty
  none_more fault (inr is) = inr (is_joined ∙ ap (also (with_one left kind given)) is)

joined_last : (from : From) (js : List JoinedData) (j : JoinedData)
    → joined_all from (js ++ j ∷ []) ≡ From.joined (joined_all from js) j.kind j.source j.condition
joined_last from [] j = refl
joined_last from (k ∷ js) j = joined_last (From.joined from k.kind k.source k.condition) js j

abbrev made : Scope → From → List (Option Name) → List Body → Sources
made scope from names beside = record { from = from; names = names; scope = scope; beside = beside }

-- the lists of the program, one longer
pub lists_are : {A B C : Type 0} (joined_of : A → JoinedData) (name_of : B → Option Name) (body_of : C → Body) (scope : Scope) (js more_js : List A) (j : A) (said : JoinedData)
    (ns more_ns : List B) (n : B) (bs more_bs ws : List C) → joined_of j ≡ said → more_js ≡ js ++ j ∷ [] → more_ns ≡ ns ++ n ∷ [] → more_bs ≡ bs ++ ws
    → made scope (From.joined (joined_all From.nothing (map joined_of js)) said.kind said.source said.condition)
    (map name_of ns ++ name_of n ∷ []) (map body_of bs ++ map body_of ws)
    ≡ made scope (joined_all From.nothing (map joined_of more_js)) (map name_of more_ns) (map body_of more_bs)
lists_are joined_of name_of body_of scope js more_js j said ns more_ns n bs more_bs ws d e f g =
    let from = joined_all From.nothing (map joined_of more_js) in
    let sources : From.joined (joined_all From.nothing (map joined_of js)) said.kind said.source said.condition ≡ from =
    sym (joined_last From.nothing (map joined_of js) said)
    ∙ ap (λ k. joined_all From.nothing (map joined_of js ++ k ∷ [])) (sym d)
    ∙ ap (joined_all From.nothing) (sym (map-append joined_of js (j ∷ [])))
    ∙ ap (λ js. joined_all From.nothing (map joined_of js)) (sym e) in
    ap (λ f. made scope f (map name_of ns ++ name_of n ∷ []) (map body_of bs ++ map body_of ws)) sources
    ∙ ap (λ names. made scope from names (map body_of bs ++ map body_of ws)) (sym (map-append name_of ns (n ∷ [])) ∙ ap (map name_of) (sym f))
    ∙ ap (made scope from (map name_of more_ns)) (sym (map-append body_of bs ws) ∙ ap (map body_of) (sym g))
