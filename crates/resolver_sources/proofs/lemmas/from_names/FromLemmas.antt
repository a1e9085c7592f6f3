-- FROM, source by source.
use Rattle.std.proofs.Common.{◌≡◌, ◌⊎◌, List, [], ◌∷◌, Ok, Err, refl, ap, inl, inr, ◌∙◌}
use Rattle.values.specs.declared.fault.Fault.{Fault}
use Rattle.values.specs.declared.fault.Fault.TheVariants.{NoMemory}
use Rattle.resolver_sources.proofs.lemmas.from_names.StepLemmas.{ends}
use Rattle.resolver_sources.specs.from_names.Resolved.{QueryNames, joined_to}
use Rattle.resolver_sources.specs.from_names.Steps.{stepped}
use Rattle.semantics_names.specs.Expression.{Answers}
use Rattle.semantics.specs.Query.{JoinKind}
use Rattle.semantics_names.specs.Outcome.{followed}
use Rattle.semantics_names.specs.Sources.{Given, Known, Sources, joined, no_sources}
use Rattle.semantics_names.specs.Statement.{from_of, source_of}
use Rattle.sql_reader_grammar.specs.statement_trees.TreeView.{JoinedTree, joined_all}
use Rattle.sql_reader_syntax.specs.ExprTree.{FromTree, OnTree, SourceTree}

module _ (answers : Answers) (known : List Known) (queries : QueryNames) where
  from_is : (from : FromTree) (js : List JoinedTree)
      → from_of known queries answers (joined_all from js) ≡ stepped (joined_to answers known queries) (from_of known queries answers from) js
  from_is from [] = refl
  from_is from (j ∷ js) = from_is (FromTree.Joined from j.0 j.1.0 j.1.1) js

  module _ (source : SourceTree) (js : List JoinedTree) where
    -- the first source is refused
    pub first_refused : (fault : Fault) → (fault ≡ NoMemory) ⊎ (source_of known queries source ≡ Err fault)
        → (fault ≡ NoMemory) ⊎ (from_of known queries answers (joined_all (FromTree.First source) js) ≡ Err fault)
    first_refused fault (inl empty) = inl empty
    first_refused fault (inr is) =
        inr (from_is (FromTree.First source) js
        ∙ ends (joined_to answers known queries) js (followed (source_of known queries source) (joined answers no_sources JoinKind.inner OnTree.Always)) fault
        (ap (λ r. followed r (joined answers no_sources JoinKind.inner OnTree.Always)) is))

    -- it is taken
    pub first_taken : (given : Given) (left : Sources) → source_of known queries source ≡ Ok given
        → joined answers no_sources JoinKind.inner OnTree.Always given ≡ Ok left
        → from_of known queries answers (joined_all (FromTree.First source) js) ≡ stepped (joined_to answers known queries) (Ok left) js
    first_taken given left is first =
        from_is (FromTree.First source) js
        ∙ ap (λ r. stepped (joined_to answers known queries) (followed r (joined answers no_sources JoinKind.inner OnTree.Always)) js) is
        ∙ ap (λ r. stepped (joined_to answers known queries) r js) first
