-- HAVING stands behind GROUP BY alone in a query where it does in each of its SELECTs, and in the queries that stand in these.
use Rattle.std.proofs.Common.{Bool, List, [], ◌∷◌, ◌++◌, Option}
use Rattle.sql_reader_syntax.specs.ExprTree.{CoreTree, ExprTree, QueryTree, SourceTree, TermTrees}
use Rattle.sql_reader_syntax.specs.Tree.{Name}
use Rattle.sql_reader_syntax.specs.declared.query.CompoundOperator.{CompoundOperator}
use Rattle.semantics_names.specs.Parts.{core_parts, terms_parts}
use Rattle.semantics_names.specs.Statement.{from_tree}
use Rattle.semantics_refusals.specs.Written.{HasQuery, IsDerived, IsLooseHaving, IsOperand, IsSelect, StandsIn, sources_in}
use Rattle.semantics_refusals.proofs.PartLemmas.{Each, among, join, none, one}

-- none of the SELECTs of a query, nor of one that stands in it at any depth, has HAVING without GROUP BY
pub record IsTight (query : QueryTree) (order : TermTrees) : Type 0 where
  pub is : {deep : QueryTree} {by own : TermTrees} {core : CoreTree} → HasQuery query order deep by → IsSelect deep by core own
      → ¬ IsLooseHaving core

-- the query that is an operand of an expression, or a source, is tight
pub record OperandIsTight (e : ExprTree) : Type 0 where
  pub is : {inner : QueryTree} → IsOperand e inner → IsTight inner TermTrees.No_term

pub record SourceIsTight (source : SourceTree) : Type 0 where
  pub is : {inner : QueryTree} → IsDerived source inner → IsTight inner TermTrees.No_term

-- each query that is an operand of one of these is tight
abbrev pub AreTightParts : List ExprTree → Type 0
AreTightParts parts = Each OperandIsTight parts

-- an expression that has no query as its operand
abbrev HasNoQuery : ExprTree → Type 0
HasNoQuery (ExprTree.InQuery not x query) = ⊥
HasNoQuery (ExprTree.Exists query) = ⊥
HasNoQuery _ = Unit {0}

no_operand : {e : ExprTree} {inner : QueryTree} → IsOperand e inner → HasNoQuery e → ⊥
no_operand IsOperand.members without = without
no_operand IsOperand.tested without = without

-- an expression without a query, an IN, and an EXISTS
pub plain : (e : ExprTree) → HasNoQuery e → AreTightParts (e ∷ [])
plain e without = one (record { is = λ is. absurd (no_operand is without) })

pub members : (not : Bool) (x : ExprTree) {query : QueryTree} → IsTight query TermTrees.No_term
    → AreTightParts (ExprTree.InQuery not x query ∷ [])
members not x {query} tight = one (record { is = by tight })
  where
    by : {inner : QueryTree} → IsTight query TermTrees.No_term → IsOperand (ExprTree.InQuery not x query) inner
        → IsTight inner TermTrees.No_term
    by tight IsOperand.members = tight

pub tested : {query : QueryTree} → IsTight query TermTrees.No_term → AreTightParts (ExprTree.Exists query ∷ [])
tested {query} tight = one (record { is = by tight })
  where
    by : {inner : QueryTree} → IsTight query TermTrees.No_term → IsOperand (ExprTree.Exists query) inner
        → IsTight inner TermTrees.No_term
    by tight IsOperand.tested = tight

-- a source that is written by its name, and one that is a query
pub no_query : {name : Name} {alias : Option Name} → SourceIsTight (SourceTree.Named name alias)
no_query {name} {alias} = record { is = λ is. absurd (by is) }
  where
    by : {inner : QueryTree} → IsDerived (SourceTree.Named name alias) inner → ⊥
    by = elim [ ]

pub derived : {query : QueryTree} {alias : Option Name} → IsTight query TermTrees.No_term
    → SourceIsTight (SourceTree.Derived query alias)
derived {query} {alias} tight = record { is = by tight }
  where
    by : {inner : QueryTree} → IsTight query TermTrees.No_term → IsDerived (SourceTree.Derived query alias) inner
        → IsTight inner TermTrees.No_term
    by tight IsDerived.query = tight

-- two lists of parts, one behind the other
pub both : {xs ys : List ExprTree} → AreTightParts xs → AreTightParts ys → AreTightParts (xs ++ ys)
both {xs} {ys} a b = join xs ys a b

-- a SELECT: it has no HAVING without GROUP BY, its sources are tight, and so are its parts where those of its ORDER BY are
pub record IsTightSelect (core : CoreTree) : Type 0 where
  pub having : ¬ IsLooseHaving core
  pub sources : Each SourceIsTight (sources_in (from_tree core))
  pub parts : (by : TermTrees) → AreTightParts (terms_parts by) → AreTightParts (core_parts core by)

-- all SELECTs of a query, and what stands in the ORDER BY of each
pub record AreTight (query : QueryTree) : Type 0 where
  pub are : {order by : TermTrees} {core : CoreTree} → IsSelect query order core by → AreTightParts (terms_parts order)
      → IsTightSelect core × AreTightParts (terms_parts by)

pub tight_core : {core : CoreTree} → IsTightSelect core → AreTight (QueryTree.Core core)
tight_core tight = record { are = by tight }
  where
    by : {core other : CoreTree} {order own : TermTrees} → IsTightSelect core → IsSelect (QueryTree.Core core) order other own
        → AreTightParts (terms_parts order) → IsTightSelect other × AreTightParts (terms_parts own)
    by tight IsSelect.alone terms = (tight, terms)

pub tight_compound : {left : QueryTree} (operator : CompoundOperator) {core : CoreTree} → AreTight left → IsTightSelect core
    → AreTight (QueryTree.Compound left operator core)
tight_compound operator left tight = record { are = by left tight }
  where
    by : {left : QueryTree} {core other : CoreTree} {order own : TermTrees} → AreTight left → IsTightSelect core
        → IsSelect (QueryTree.Compound left operator core) order other own → AreTightParts (terms_parts order)
        → IsTightSelect other × AreTightParts (terms_parts own)
    by left tight IsSelect.last terms = (tight, none)
    by left tight (IsSelect.before select) terms = left.are select none

-- then the query is tight where its ORDER BY is
pub tight_query : {query : QueryTree} → AreTight query → {order : TermTrees} → AreTightParts (terms_parts order)
    → IsTight query order
tight_query {query} tight {order} terms = record { is = λ has select. by has select }
  where
    stands : {inner : QueryTree} → StandsIn query order inner → IsTight inner TermTrees.No_term
    stands (StandsIn.derived core by inner source select there is) =
        let (own, sorted) = tight.are select terms in
        let found : SourceIsTight source = among own.sources there in found.is is
    stands (StandsIn.operand core by inner part select there is) =
        let (own, sorted) = tight.are select terms in
        let found : OperandIsTight part = among (own.parts by sorted) there in found.is is
    stands (StandsIn.sorted inner part there is) = let found : OperandIsTight part = among terms there in found.is is

    by : {deep : QueryTree} {by own : TermTrees} {core : CoreTree} → HasQuery query order deep by → IsSelect deep by core own
        → ¬ IsLooseHaving core
    by HasQuery.own select = let (own, sorted) = tight.are select terms in own.having
    by (HasQuery.inside inner is has) select = (stands is).is has select
