-- Queries, one deeper.
use Rattle.std.proofs.Common.{◌≡◌, ◌⊎◌, ℕ, suc, List, Result, Err, ap, inr, subst, sym}
use Rattle.values.specs.declared.fault.Fault.{Fault}
use Rattle.values.specs.declared.fault.Fault.TheVariants.{Limit, NoMemory}
use Rattle.semantics_names.specs.Sources.{Known}
use Rattle.semantics_names.specs.Statement.{Queried, queried, query_of}
use Rattle.resolver_terms.specs.Outcome.{Gives}
use Rattle.sql_reader_syntax.specs.ExprTree.{QueryTree, TermTrees}

-- none may stand so deep
pub none_deep : (depth : ℕ) (known : List Known) (tree : QueryTree) (order : TermTrees) → depth ≡ 0
    → (Limit ≡ NoMemory) ⊎ (queried depth known tree order ≡ Err Limit)
none_deep depth known tree order e = inr (ap (λ d. queried d known tree order) e)

pub one_deeper : {A : Type 0} (view : A → Queried) (r : Result A Fault) (depth below : ℕ) (known : List Known) (tree : QueryTree) (order : TermTrees)
    → Gives view r (query_of known (λ inside. queried below known inside TermTrees.No_term) tree order) → depth ≡ suc below
    → Gives view r (queried depth known tree order)
one_deeper view r depth below known tree order gives e = subst (Gives view r) (sym (ap (λ d. queried d known tree order) e)) gives
