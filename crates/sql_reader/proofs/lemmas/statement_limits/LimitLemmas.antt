-- What may still be written behind a phrase tells whether its SELECTs are within the limits.
use Rattle.std.proofs.Common.{◌≡◌, ℕ, ◌+◌, ◌-◌, ◌<◌, ◌≤◌, ◌⊎◌, Bool, true, false, List, [], ◌∷◌, ◌++◌, Option, Some, None, refl, sym, ap, ◌∙◌, inl, inr, leb, arith}
use Rattle.std.proofs.lemmas.Bool.{leb-true, leb-false}
use Rattle.std.proofs.lemmas.List.Sums.{sum_by-cons}
use Rattle.std.proofs.lemmas.List.Elements.{All-contains, All-cons, All-nil, Contains-append_right}
use Rattle.std.specs.Prelude.{All, Contains, sum_by, if◌then◌else◌}
use Rattle.sql_reader.proofs.lemmas.statement_limits.ShapeLemmas.{bind_assoc, bind_same}
use Rattle.sql_reader_grammar.specs.phrases.Texts.{max_columns}
use Rattle.sql_reader.specs.statement_limits.Limits.{IsBeyond, IsSmallSelect, IsWithin, columns_of_core, count_from, count_results, max_sources, max_written, sources_of_core}
use Rattle.sql_reader.specs.statement_limits.Selects.{
  in_arms,
  in_behind,
  in_core,
  in_definitions,
  in_expr,
  in_exprs,
  in_from,
  in_items,
  in_maybe,
  in_on,
  in_over,
  in_query,
  in_result,
  in_results,
  in_source,
  in_statement,
  in_terms,
  in_window,
}
use Rattle.sql_reader.specs.statement_limits.Spending.{
  ◌>>=◌,
  after_arms,
  after_behind,
  after_core,
  after_definitions,
  after_expr,
  after_exprs,
  after_from,
  after_items,
  after_maybe,
  after_on,
  after_over,
  after_query,
  after_result,
  after_results,
  after_source,
  after_statement,
  after_terms,
  after_window,
  spent,
  without,
}
use Rattle.sql_reader_syntax.specs.ExprTree.{
  ArmTrees,
  BehindTree,
  CoreTree,
  DefinitionTrees,
  ExprTree,
  ExprTrees,
  FromTree,
  MaybeExpr,
  OnTree,
  OverTree,
  QueryTree,
  ResultTree,
  ResultTrees,
  SourceTree,
  TermTrees,
  WindowTree,
}
use Rattle.sql_reader_syntax.specs.StatementTree.{ItemTree, StatementTree}

-- A phrase leaves what its SELECTs leave, one after the other.

abbrev after_all : List CoreTree → ℕ → Option ℕ
after_all [] left = Some left
after_all (c ∷ cs) left = without left c >>= after_all cs

after_append : (xs ys : List CoreTree) (left : ℕ) → after_all (xs ++ ys) left ≡ (after_all xs left >>= after_all ys)
after_append [] ys left = refl
after_append (x ∷ xs) ys left =
    bind_same (without left x) (after_all (xs ++ ys)) (λ l. after_all xs l >>= after_all ys) (after_append xs ys)
    ∙ sym (bind_assoc (without left x) (after_all xs) (after_all ys))

both : {o : Option ℕ} {f : ℕ → Option ℕ} (xs ys : List CoreTree) (left : ℕ) → o ≡ after_all xs left
    → ((l : ℕ) → f l ≡ after_all ys l) → (o >>= f) ≡ after_all (xs ++ ys) left
both {f = f} xs ys left h k =
    ap (λ o. o >>= f) h
    ∙ (bind_same (after_all xs left) f (after_all ys) k ∙ sym (after_append xs ys left))

mutual
  of_expr : (e : ExprTree) (left : ℕ) → after_expr e left ≡ after_all (in_expr e) left
  of_expr ExprTree.Null left = refl
  of_expr (ExprTree.Number n) left = refl
  of_expr (ExprTree.Text content) left = refl
  of_expr (ExprTree.Blob bytes) left = refl
  of_expr (ExprTree.Column table name) left = refl
  of_expr (ExprTree.Prefix op e) left = of_expr e left
  of_expr (ExprTree.Binary op x y) left = both (in_expr x) (in_expr y) left (of_expr x left) (of_expr y)
  of_expr (ExprTree.Postfix op e) left = of_expr e left
  of_expr (ExprTree.Between n e x y) left =
      both (in_expr e) (in_expr x ++ in_expr y) left (of_expr e left)
      (λ l. both (in_expr x) (in_expr y) l (of_expr x l) (of_expr y))
  of_expr (ExprTree.In n e es) left = both (in_expr e) (in_exprs es) left (of_expr e left) (of_exprs es)
  of_expr (ExprTree.InQuery n e query) left = both (in_expr e) (in_query query) left (of_expr e left) (of_query query)
  of_expr (ExprTree.Exists query) left = of_query query left
  of_expr (ExprTree.CountRows behind) left = of_behind behind left
  of_expr (ExprTree.Call function es behind) left =
      both (in_exprs es) (in_behind behind) left (of_exprs es left) (of_behind behind)
  of_expr (ExprTree.Case operand arms otherwise) left =
      both (in_maybe operand) (in_arms arms ++ in_maybe otherwise) left (of_maybe operand left)
      (λ l. both (in_arms arms) (in_maybe otherwise) l (of_arms arms l) (of_maybe otherwise))

  of_exprs : (es : ExprTrees) (left : ℕ) → after_exprs es left ≡ after_all (in_exprs es) left
  of_exprs ExprTrees.No_more left = refl
  of_exprs (ExprTrees.More e es) left = both (in_expr e) (in_exprs es) left (of_expr e left) (of_exprs es)

  of_maybe : (m : MaybeExpr) (left : ℕ) → after_maybe m left ≡ after_all (in_maybe m) left
  of_maybe MaybeExpr.Absent left = refl
  of_maybe (MaybeExpr.Present e) left = of_expr e left

  of_arms : (arms : ArmTrees) (left : ℕ) → after_arms arms left ≡ after_all (in_arms arms) left
  of_arms ArmTrees.No_arm left = refl
  of_arms (ArmTrees.Arm x y arms) left =
      both (in_expr x) (in_expr y ++ in_arms arms) left (of_expr x left)
      (λ l. both (in_expr y) (in_arms arms) l (of_expr y l) (of_arms arms))

  of_behind : (behind : BehindTree) (left : ℕ) → after_behind behind left ≡ after_all (in_behind behind) left
  of_behind (BehindTree.Behind filter over) left =
      both (in_maybe filter) (in_over over) left (of_maybe filter left) (of_over over)

  of_over : (over : OverTree) (left : ℕ) → after_over over left ≡ after_all (in_over over) left
  of_over OverTree.No_over left = refl
  of_over (OverTree.OverName name) left = refl
  of_over (OverTree.Over window) left = of_window window left

  of_window : (window : WindowTree) (left : ℕ) → after_window window left ≡ after_all (in_window window) left
  of_window (WindowTree.Window partition order frame) left =
      both (in_exprs partition) (in_terms order) left (of_exprs partition left) (of_terms order)

  of_terms : (terms : TermTrees) (left : ℕ) → after_terms terms left ≡ after_all (in_terms terms) left
  of_terms TermTrees.No_term left = refl
  of_terms (TermTrees.Term e direction terms) left =
      both (in_expr e) (in_terms terms) left (of_expr e left) (of_terms terms)

  of_result : (result : ResultTree) (left : ℕ) → after_result result left ≡ after_all (in_result result) left
  of_result ResultTree.All left = refl
  of_result (ResultTree.AllOf table) left = refl
  of_result (ResultTree.Value e name) left = of_expr e left

  of_results : (results : ResultTrees) (left : ℕ) → after_results results left ≡ after_all (in_results results) left
  of_results ResultTrees.No_result left = refl
  of_results (ResultTrees.Result r rs) left =
      both (in_result r) (in_results rs) left (of_result r left) (of_results rs)

  of_source : (source : SourceTree) (left : ℕ) → after_source source left ≡ after_all (in_source source) left
  of_source (SourceTree.Named name alias) left = refl
  of_source (SourceTree.Derived query alias) left = of_query query left

  of_on : (on : OnTree) (left : ℕ) → after_on on left ≡ after_all (in_on on) left
  of_on OnTree.Always left = refl
  of_on (OnTree.On e) left = of_expr e left
  of_on (OnTree.Using names) left = refl

  of_from : (from : FromTree) (left : ℕ) → after_from from left ≡ after_all (in_from from) left
  of_from FromTree.No_source left = refl
  of_from (FromTree.First source) left = of_source source left
  of_from (FromTree.Joined from join source on) left =
      both (in_from from) (in_source source ++ in_on on) left (of_from from left)
      (λ l. both (in_source source) (in_on on) l (of_source source l) (of_on on))

  of_definitions : (windows : DefinitionTrees) (left : ℕ)
      → after_definitions windows left ≡ after_all (in_definitions windows) left
  of_definitions DefinitionTrees.No_definition left = refl
  of_definitions (DefinitionTrees.Definition name window windows) left =
      both (in_window window) (in_definitions windows) left (of_window window left) (of_definitions windows)

  of_core : (c : CoreTree) (left : ℕ) → after_core c left ≡ after_all (in_core c) left
  of_core (CoreTree.Select distinct results from condition groups having windows) left =
      bind_same (spent left (count_results results) (count_from from)) _ _
      (λ l. both (in_results results) _ l (of_results results l)
      (λ l. both (in_from from) _ l (of_from from l)
      (λ l. both (in_maybe condition) _ l (of_maybe condition l)
      (λ l. both (in_exprs groups) _ l (of_exprs groups l)
      (λ l. both (in_maybe having) (in_definitions windows) l (of_maybe having l) (of_definitions windows))))))

  of_query : (query : QueryTree) (left : ℕ) → after_query query left ≡ after_all (in_query query) left
  of_query (QueryTree.Core c) left = of_core c left
  of_query (QueryTree.Compound query op c) left =
      both (in_query query) (in_core c) left (of_query query left) (of_core c)

of_items : (items : List ItemTree) (left : ℕ) → after_items items left ≡ after_all (in_items items) left
of_items [] left = refl
of_items (item ∷ items) left =
    both (in_query item.query) (in_items items) left (of_query item.query left) (of_items items)

of_statement : (s : StatementTree) (left : ℕ) → after_statement s left ≡ after_all (in_statement s) left
of_statement s left =
    both (in_items s.items) (in_query s.query ++ in_terms s.order) left (of_items s.items left)
    (λ l. both (in_query s.query) (in_terms s.order) l (of_query s.query l) (of_terms s.order))

-- What is left tells what is within the limits.

spent_by : (a b c : Bool) (left sources rest : ℕ)
    → (if a then (if b then (if c then Some (left - sources) else None) else None) else None) ≡ Some rest
    → (a ≡ true) × ((b ≡ true) × ((c ≡ true) × (left - sources ≡ rest)))
spent_by true true true left sources rest h = (refl, (refl, (refl, cc)))
spent_by true true false left sources rest h = absurd cc
spent_by true false c left sources rest h = absurd cc
spent_by false b c left sources rest h = absurd cc

refused_by : (a b c : Bool) (left sources : ℕ)
    → (if a then (if b then (if c then Some (left - sources) else None) else None) else None) ≡ None
    → (a ≡ false) ⊎ ((b ≡ false) ⊎ (c ≡ false))
refused_by true true true left sources h = absurd cc
refused_by true true false left sources h = inr (inr refl)
refused_by true false c left sources h = inr (inl refl)
refused_by false b c left sources h = inl refl

step_left : (o : Option ℕ) (left rest : ℕ) (c : CoreTree) (cs : List CoreTree) → without left c ≡ o
    → (o >>= after_all cs) ≡ Some rest
    → ((k : ℕ) → after_all cs k ≡ Some rest → All IsSmallSelect cs × (sum_by sources_of_core cs + rest ≡ k))
    → All IsSmallSelect (c ∷ cs) × (sum_by sources_of_core (c ∷ cs) + rest ≡ left)
step_left None left rest c cs e h more = absurd cc
step_left (Some k) left rest c cs e h more =
    let p = spent_by (leb (columns_of_core c) max_columns) (leb (sources_of_core c) max_sources)
    (leb (sources_of_core c) left) left (sources_of_core c) k e in
    let m = more k h in
    let l = leb-true (sources_of_core c) left p.1.1.0 in
    let d = p.1.1.1 in let n = m.1 in (
      All-cons IsSmallSelect c cs
          (record {
            columns = leb-true (columns_of_core c) max_columns p.0;
            sources = leb-true (sources_of_core c) max_sources p.1.0;
          })
          m.0,
      omega (arith, l, d, n, sum_by-cons sources_of_core c cs),
    )

left_within : (left rest : ℕ) (cs : List CoreTree) → after_all cs left ≡ Some rest
    → All IsSmallSelect cs × (sum_by sources_of_core cs + rest ≡ left)
left_within left rest [] h = let i : left ≡ rest = cc in (All-nil IsSmallSelect, omega (arith, i))
left_within left rest (c ∷ cs) h = step_left (without left c) left rest c cs refl h (λ k. left_within k rest cs)

-- one of the SELECTs has too many result columns or sources, or they have more sources than are left
data Exceeds (cs : List CoreTree) (left : ℕ) : Type 0 where
  Columns : (c : CoreTree) → Contains cs c → max_columns < columns_of_core c → Exceeds cs left
  Sources : (c : CoreTree) → Contains cs c → max_sources < sources_of_core c → Exceeds cs left
  Written : left < sum_by sources_of_core cs → Exceeds cs left

head : (c : CoreTree) (cs : List CoreTree) → Contains (c ∷ cs) c
head c cs = (0, omega arith, refl)

later : (left k : ℕ) (c : CoreTree) (cs : List CoreTree) → sources_of_core c ≤ left → left - sources_of_core c ≡ k
    → Exceeds cs k → Exceeds (c ∷ cs) left
later left k c cs l d (Columns x h m) = Columns x (Contains-append_right (c ∷ []) cs x h) m
later left k c cs l d (Sources x h m) = Sources x (Contains-append_right (c ∷ []) cs x h) m
later left k c cs l d (Written m) = Written (omega (arith, l, d, m, sum_by-cons sources_of_core c cs))

now : (left : ℕ) (c : CoreTree) (cs : List CoreTree)
    → (leb (columns_of_core c) max_columns ≡ false)
    ⊎ ((leb (sources_of_core c) max_sources ≡ false) ⊎ (leb (sources_of_core c) left ≡ false))
    → Exceeds (c ∷ cs) left
now left c cs (inl h) = Columns c (head c cs) (leb-false (columns_of_core c) max_columns h)
now left c cs (inr (inl h)) = Sources c (head c cs) (leb-false (sources_of_core c) max_sources h)
now left c cs (inr (inr h)) =
    let m = leb-false (sources_of_core c) left h in Written (omega (arith, m, sum_by-cons sources_of_core c cs))

step_none : (o : Option ℕ) (left : ℕ) (c : CoreTree) (cs : List CoreTree) → without left c ≡ o
    → (o >>= after_all cs) ≡ None → ((k : ℕ) → after_all cs k ≡ None → Exceeds cs k) → Exceeds (c ∷ cs) left
step_none None left c cs e h more =
    now left c cs (refused_by (leb (columns_of_core c) max_columns) (leb (sources_of_core c) max_sources)
    (leb (sources_of_core c) left) left (sources_of_core c) e)
step_none (Some k) left c cs e h more =
    let p = spent_by (leb (columns_of_core c) max_columns) (leb (sources_of_core c) max_sources)
    (leb (sources_of_core c) left) left (sources_of_core c) k e in
    later left k c cs (leb-true (sources_of_core c) left p.1.1.0) p.1.1.1 (more k h)

none_left : (left : ℕ) (cs : List CoreTree) → after_all cs left ≡ None → Exceeds cs left
none_left left [] h = absurd cc
none_left left (c ∷ cs) h = step_none (without left c) left c cs refl h (λ k. none_left k cs)

exceeds : (s : StatementTree) → Exceeds (in_statement s) max_written → IsBeyond s
exceeds s (Columns c h m) = IsBeyond.Columns c h m
exceeds s (Sources c h m) = IsBeyond.Sources c h m
exceeds s (Written m) = IsBeyond.Written m

-- a statement behind which so many sources may still be written is within the limits
pub some_within : (s : StatementTree) (rest : ℕ) → after_statement s max_written ≡ Some rest → IsWithin s
some_within s rest h =
    let w = left_within max_written rest (in_statement s) (sym (of_statement s max_written) ∙ h) in
    let n = w.1 in record { each = w.0; written = omega (arith, n) }

pub none_beyond : (s : StatementTree) → after_statement s max_written ≡ None → IsBeyond s
none_beyond s h = exceeds s (none_left max_written (in_statement s) (sym (of_statement s max_written) ∙ h))

-- no statement is both
pub not_both : (s : StatementTree) → IsWithin s → IsBeyond s → ⊥
not_both s w (IsBeyond.Columns c h m) =
    let small = All-contains IsSmallSelect (in_statement s) c w.each h in let l = small.columns in absurd (omega (arith, l, m))
not_both s w (IsBeyond.Sources c h m) =
    let small = All-contains IsSmallSelect (in_statement s) c w.each h in let l = small.sources in absurd (omega (arith, l, m))
not_both s w (IsBeyond.Written m) = let l = w.written in absurd (omega (arith, l, m))
