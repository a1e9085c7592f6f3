-- What the loop over the SELECTs of a query keeps.
use Rattle.std.proofs.Common.{◌≡◌, ◌<◌, ◌≤◌, suc, max, List, [], ◌∷◌, ◌++◌, ℕ, map, Some, None, Ok, Err, refl, sym, ap, ◌∙◌, arith}
use Rattle.std.proofs.lemmas.Bool.{cond-true, lt-ltb}
use Rattle.values.specs.declared.fault.Fault.{Fault}
use Rattle.sql_reader_grammar.specs.phrases.Outcomes.{Fails, Outcome, Read, Refusal, ◌>>=◌, read}
use Rattle.sql_reader_grammar.specs.phrases.Steps.{Rest}
use Rattle.sql_reader_grammar.proofs.lemmas.phrases.OutcomeLemmas.{fails_along, fails_bind}
use Rattle.sql_reader_syntax.specs.ExprTree.{CoreTree, QueryTree}
use Rattle.sql_reader_syntax.specs.declared.query.CompoundOperator.{CompoundOperator}
use Rattle.sql_reader_grammar.specs.Fronts.{compound}
use Rattle.sql_reader_grammar.specs.Reading.{compounded, compounds, core, made, query_by}
use Rattle.sql_reader_grammar.proofs.Turns.{compounded_full, compounds_step, compounds_stops}
use Rattle.sql_reader_grammar.specs.statement_trees.TreeView.{arranged_of, compounds_of}
use Rattle.sql_reader_grammar.specs.declared.statement_trees.queries.CompoundArm.{CompoundArm}
use Rattle.sql_reader_exprs.specs.window_reader.Setting.{Setting, at, inner_at}

-- what the SELECTs still to come make of those that were read
abbrev pub goes_on : Setting → Read QueryTree → Outcome (Read QueryTree)
goes_on s x = at compounds s s.depth x

-- with these SELECTs behind the first
abbrev pub query_so_far : CoreTree → List CompoundArm → QueryTree
query_so_far first cs = compounds_of (QueryTree.Core first) (map arranged_of cs)

pub first_err : (s : Setting) (ts : Rest) (e : Fault) → Fails e (at core s ts) → Fails e (at query_by s ts)
unfolding query_by
first_err s ts e h =
    fails_bind e (made (λ c. QueryTree.Core c) (at core s ts)) (goes_on s)
    (fails_bind e (at core s ts) (λ x. Ok (read (QueryTree.Core x.tree) x.levels x.rest)) h)

pub first_ok : (s : Setting) (ts : Rest) (cs : List CompoundArm) (x : Read CoreTree) → cs ≡ [] → at core s ts ≡ Ok x
    → goes_on s (read (query_so_far x.tree cs) x.levels x.rest) ≡ at query_by s ts
unfolding query_by
first_ok s ts cs x e h =
    ap (λ cs. goes_on s (read (query_so_far x.tree cs) x.levels x.rest)) e
    ∙ sym (ap (λ r. made (λ c. QueryTree.Core c) r >>= goes_on s) h)

step : (s : Setting) (x : Read QueryTree) (o : CompoundOperator × Rest) → compound x.rest ≡ Some o
    → goes_on s x ≡ at compounded s x o >>= goes_on s
step s x o h = compounds_step s.source (inner_at s) s.depth s.depth x o (omega arith) h

-- where there is no room for one more
pub full : (s : Setting) (x : Read QueryTree) (whole : Outcome (Read QueryTree)) (o : CompoundOperator × Rest)
    → goes_on s x ≡ whole → compound x.rest ≡ Some o → s.depth ≤ x.levels → whole ≡ Err Refusal.Limit
full s x whole o g h k =
    sym g ∙ (step s x o h ∙ ap (λ r. r >>= goes_on s) (compounded_full s.source (inner_at s) s.depth x o k))

-- the SELECT behind an operator, where there is room for it
behind : (s : Setting) (x : Read QueryTree) (o : CompoundOperator × Rest) → x.levels < s.depth
    → at compounded s x o
    ≡ (inner_at s).core o.1 >>= λ y. Ok (read (QueryTree.Compound x.tree o.0 y.tree) (max (suc x.levels) y.levels) y.rest)
behind s x o k = cond-true _ _ _ (lt-ltb x.levels s.depth k)

pub next_err : (s : Setting) (x : Read QueryTree) (whole : Outcome (Read QueryTree)) (o : CompoundOperator × Rest) (e : Fault)
    → goes_on s x ≡ whole → compound x.rest ≡ Some o → x.levels < s.depth → Fails e ((inner_at s).core o.1) → Fails e whole
next_err s x whole o e g h k f =
    fails_along e _ whole (sym (step s x o h ∙ ap (λ r. r >>= goes_on s) (behind s x o k)) ∙ g)
    (fails_bind e _ (goes_on s) (fails_bind e ((inner_at s).core o.1) _ f))

compounds_push : (query : QueryTree) (cs : List CompoundArm) (c : CompoundArm)
    → compounds_of query (map arranged_of (cs ++ c ∷ []))
    ≡ QueryTree.Compound (compounds_of query (map arranged_of cs)) (arranged_of c).0 (arranged_of c).1
compounds_push query [] c = refl
compounds_push query (b ∷ cs) c = compounds_push (QueryTree.Compound query (arranged_of b).0 (arranged_of b).1) cs c

pub next_ok : (s : Setting) (first : CoreTree) (cs ds : List CompoundArm) (h : ℕ) (ts : Rest) (whole : Outcome (Read QueryTree))
    (o : CompoundOperator × Rest) (c : CompoundArm) (y : Read CoreTree)
    → goes_on s (read (query_so_far first cs) h ts) ≡ whole → compound ts ≡ Some o → h < s.depth
    → (inner_at s).core o.1 ≡ Ok y → arranged_of c ≡ (o.0, y.tree) → ds ≡ cs ++ c ∷ []
    → goes_on s (read (query_so_far first ds) (max (suc h) y.levels) y.rest) ≡ whole
next_ok s first cs ds h ts whole o c y g is k i j e =
    ap (λ f. goes_on s (read f (max (suc h) y.levels) y.rest))
    (ap (query_so_far first) e ∙ (compounds_push (QueryTree.Core first) cs c
    ∙ ap (λ (c : CompoundOperator × CoreTree). QueryTree.Compound (query_so_far first cs) c.0 c.1) j))
    ∙ (sym (ap
    (λ r. (r >>= λ y. Ok (read (QueryTree.Compound (query_so_far first cs) o.0 y.tree) (max (suc h) y.levels) y.rest))
    >>= goes_on s) i)
    ∙ (sym (step s (read (query_so_far first cs) h ts) o is
    ∙ ap (λ r. r >>= goes_on s) (behind s (read (query_so_far first cs) h ts) o k)) ∙ g))

pub queries_end : (s : Setting) (x : Read QueryTree) (whole : Outcome (Read QueryTree)) → goes_on s x ≡ whole
    → compound x.rest ≡ None → whole ≡ Ok x
queries_end s x whole g h = sym g ∙ compounds_stops s.source (inner_at s) s.depth s.depth x h
