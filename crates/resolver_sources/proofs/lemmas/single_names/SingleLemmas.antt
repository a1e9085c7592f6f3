-- One SELECT with its FROM, behind the queries in its expressions.
use Rattle.std.proofs.Common.{◌≡◌, ◌⊎◌, List, [], ◌∷◌, map, Result, Ok, Err, refl, ap, sym, inl, inr, ◌∙◌}
use Rattle.std.specs.List.{flat_map}
use Rattle.values.specs.declared.fault.Fault.{Fault}
use Rattle.values.specs.declared.fault.Fault.TheVariants.{NoMemory}
use Rattle.resolver_sources.specs.from_names.Resolved.{QueryNames}
use Rattle.resolver_sources.specs.inner_names.InnerNames.{answers_by, inner_by}
use Rattle.semantics.specs.Query.{Body, InnerQuery}
use Rattle.semantics_names.specs.Expression.{Answers, InnerTree}
use Rattle.semantics_names.specs.Outcome.{also, both, each, followed}
use Rattle.semantics_names.specs.Parts.{inner_trees}
use Rattle.semantics_names.specs.Sources.{Known}
use Rattle.semantics_names.specs.Statement.{Inner, Single, answers_of, core_of, from_of, from_tree, inner_of, single, single_of}
use Rattle.resolver_sources.specs.single_names.Singles.{behind_inner}
use Rattle.sql_reader_syntax.specs.ExprTree.{CoreTree, TermTrees}

module _ (known : List Known) (queries : QueryNames) where
  one_alone : (tree : InnerTree) → inner_of known queries tree ≡ inner_by queries tree
  one_alone (InnerTree.values_in query) = refl
  one_alone (InnerTree.exists_in query) = refl

  each_alone : (trees : List InnerTree) → each (inner_of known queries) trees ≡ each (inner_by queries) trees
  each_alone [] = refl
  each_alone (t ∷ ts) =
      ap (λ r. both ◌∷◌ r (each (inner_of known queries) ts)) (one_alone t) ∙ ap (both ◌∷◌ (inner_by queries t)) (each_alone ts)

  one_answer : (inner : List InnerQuery) (tree : InnerTree) → answers_of known queries inner tree ≡ answers_by queries inner tree
  one_answer inner (InnerTree.values_in query) = refl
  one_answer inner (InnerTree.exists_in query) = refl

  answers_alone : (inner : List InnerQuery) → answers_of known queries inner ≡ answers_by queries inner
  answers_alone inner = λ i tree. one_answer inner tree i

  module _ (core : CoreTree) (order : TermTrees) where
    abbrev over_answers : List Inner → Answers → Result Single Fault
    over_answers inners answers =
        followed (from_of known queries answers (from_tree core)) (λ f. also (single inners f) (core_of answers f.scope core order))

    single_is : single_of known queries core order
        ≡ followed (each (inner_by queries) (inner_trees core order))
        (λ inners. over_answers inners (answers_of known queries (map (λ i. i.query) inners)))
    single_is = ap (λ r. followed r (λ inners. over_answers inners (answers_of known queries (map (λ i. i.query) inners)))) (each_alone (inner_trees core order))

    -- a query in an expression is refused
    pub inner_refused : (fault : Fault) → (fault ≡ NoMemory) ⊎ (each (inner_by queries) (inner_trees core order) ≡ Err fault)
        → (fault ≡ NoMemory) ⊎ (single_of known queries core order ≡ Err fault)
    inner_refused fault (inl empty) = inl empty
    inner_refused fault (inr is) =
        inr (single_is ∙ ap (λ r. followed r (λ inners. over_answers inners (answers_of known queries (map (λ i. i.query) inners)))) is)

    -- they are these, split
    pub inner_taken : (inners : List Inner) (inner : List InnerQuery) (written : List Body) → each (inner_by queries) (inner_trees core order) ≡ Ok inners
        → inner ≡ map (λ i. i.query) inners → written ≡ flat_map (λ i. i.beside) inners
        → single_of known queries core order ≡ behind_inner known queries core order inner written
    inner_taken inners inner written is split beside =
        single_is
        ∙ ap (λ r. followed r (λ inners. over_answers inners (answers_of known queries (map (λ i. i.query) inners)))) is
        ∙ ap (over_answers inners) (answers_alone (map (λ i. i.query) inners))
        ∙ ap (λ qs. behind_inner known queries core order qs (flat_map (λ i. i.beside) inners)) (sym split)
        ∙ ap (behind_inner known queries core order inner) (sym beside)
