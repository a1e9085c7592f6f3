-- What spells an expression is read, with its levels: each production, where its parts are read.
use Rattle.std.proofs.Common.{◌≡◌, Bool, true, false, ℕ, zero, suc, ◌+◌, ◌<◌, ◌≤◌, max, ℤ, List, [], ◌∷◌, length, Some, None, Ok, Err, leb, refl, sym, ap, ◌∙◌, arith}
use mathlib.Core.Logic.{inl, inr}
use Rattle.std.proofs.lemmas.Bool.{cases_lt, le-leb, cond-true}
use Rattle.sql_reader_tokens.specs.Lexeme.{Lexeme}
use Rattle.sql_reader_tokens.specs.declared.keywords.keyword.Keyword.TheVariants as k
use Rattle.sql_reader_tokens.specs.declared.sign.Sign.TheVariants as s
use Rattle.sql_reader_tokens.specs.declared.token.Quoting.{Quoting}
use Rattle.sql_reader_tokens.specs.declared.token.Quoting.TheVariants as q
use Rattle.sql_reader_grammar.specs.phrases.Outcomes.{Outcome, Read, Refusal, ◌>>=◌, kept_if, needed, read, series}
use Rattle.sql_reader_grammar.specs.phrases.Steps.{Rest, after_close, after_comma, after_keyword}
use Rattle.sql_reader_grammar.proofs.lemmas.phrases.OutcomeLemmas.{fits, fits_bind, fits_in, fits_out, fits_suc, step, step_last}
use Rattle.sql_reader_syntax.specs.ExprTree.{ArmTrees, BehindTree, CoreTree, ExprTree, ExprTrees, MaybeExpr, QueryTree, count, trees_of}
use Rattle.sql_reader_syntax.specs.Functions.{function_of, takes, takes_number}
use Rattle.sql_reader_syntax.specs.Tree.{Name}
use Rattle.sql_reader_syntax.specs.declared.expr.BinaryOperator.{BinaryOperator}
use Rattle.sql_reader_syntax.specs.declared.expr.Function.{Function}
use Rattle.sql_reader_syntax.specs.declared.expr.Function.TheVariants as f
use Rattle.sql_reader_syntax.specs.declared.expr.PostfixOperator.{PostfixOperator}
use Rattle.sql_reader_syntax.specs.declared.expr.PrefixOperator.{PrefixOperator}
use Rattle.sql_reader_grammar.specs.Fronts.{Inside, Joint, Membership, Opening, binds, inside, joint, level_of_joint, membership, opening}
use Rattle.sql_reader_grammar.specs.Operators.{level_of, level_of_prefix}
use Rattle.sql_reader_grammar.specs.Queries.{nowhere}
use Rattle.sql_reader_grammar.specs.Reading.{arguments, arm, behind, called, choice, chosen, climb, closed, counted, expr, expr_by, extended_at, inner, item, list, loosely, made, members, named, one, operand, operand_at, operand_of_case, otherwise, present, raised, some}
use Rattle.sql_reader_grammar.proofs.Got.{Comes, Got, comes_both, comes_closed, comes_counted, comes_flat, comes_joined, comes_last, comes_levels, comes_made, comes_more, fits_read, got_absent, got_both, got_closed, got_flat, got_inner, got_made, got_present, got_same}
use Rattle.sql_reader_grammar.proofs.Shape.{arms_list, arms_of_list, below_prefix, count_of_list, list_of, no_following, prefix_large, trees_of_list}
use Rattle.sql_reader_grammar.proofs.Turns.{climb_stops, climb_step, extended_full, extended_room}

-- what may stand behind a list
pub record Ends (after : Rest) : Type 0 where
  pub no_operator : binds after ≡ 0
  pub no_comma : after_comma after ≡ None

pub close_ends : (after : Rest) → Ends (Lexeme.Punctuation s.Close ∷ after)
close_ends after = record { no_operator = refl; no_comma = refl }

-- what may stand behind the arms of a CASE
pub record ArmsEnd (after : Rest) : Type 0 where
  pub no_operator : binds after ≡ 0
  pub no_when : after_keyword k.When after ≡ None

pub is_loose : (ts : Rest) → binds ts ≤ 4 → loosely ts ≡ Some ts
is_loose ts stop = cond-true _ _ _ (le-leb (binds ts) 4 stop)

module _ (source : ℕ → ℕ → List ℕ) where
  pub expr_is : (d p : ℕ) (ts : Rest)
      → expr source d p ts ≡ operand source (inner source d) d p ts >>= climb source (inner source d) d d p
  unfolding expr_by
  expr_is d p ts = refl

  -- From these tokens the reader comes to this tree and goes on behind it.
  abbrev pub Reads : ℕ → ℕ → ExprTree → Rest → Rest → Type 0
  Reads q h e from after =
      (d p : ℕ) → 1 ≤ p → p ≤ q → binds after ≤ q
      → expr source d p from ≡ fits d h (climb source (inner source d) d d p (read e h after))

  pub inner_reads : (q h : ℕ) (e : ExprTree) (from after : Rest) → Reads q h e from after → (d p : ℕ) → 1 ≤ p → p ≤ q
      → binds after < p → Comes d (suc h) ((inner source d).expr p from) e after
  unfolding inner
  inner_reads q h e from after x zero p one below stop = sym (fits_out 0 (suc h) _ (omega arith))
  inner_reads q h e from after x (suc d) p one below stop =
      ap (raised source)
      (x d p one below (omega (arith, stop, below))
      ∙ ap (fits d h) (climb_stops source (inner source d) d d p (read e h after) stop))
      ∙ (fits_bind d h (read e h after) _ ∙ fits_suc d h (Ok (read e (suc h) after)))

  pub reads_one : (h : ℕ) (e : ExprTree) (from after : Rest) → Reads 1 h e from after → (d : ℕ) → binds after ≡ 0
      → Comes d (suc h) (one source (inner source d) d from) e after
  reads_one h e from after x d stop =
      inner_reads 1 h e from after x d 1 (omega arith) (omega arith) (omega (arith, stop))

  pub reads_present : (h : ℕ) (e : ExprTree) (from after : Rest) → Reads 1 h e from after → (d : ℕ) → binds after ≡ 0
      → Got d h (present source (inner source d) d from) (MaybeExpr.Present e) after
  reads_present h e from after x d stop =
      got_made d h (λ e. MaybeExpr.Present e) _ e after (got_inner d h _ e after (reads_one h e from after x d stop))

  -- Queries

  abbrev pub ReadsCore : ℕ → CoreTree → Rest → Rest → Type 0
  ReadsCore h c from after = (d : ℕ) → Comes d (suc h) ((inner source d).core from) c after

  abbrev pub ReadsQuery : ℕ → QueryTree → Rest → Rest → Type 0
  ReadsQuery h query from after = (d : ℕ) → Comes d (suc h) ((inner source d).query from) query after

  -- a phrase that begins with its operator, or with none
  by_operand : (d p m : ℕ) (e : ExprTree) (from after : Rest)
      → Comes d m (operand source (inner source d) d p from) e after
      → expr source d p from ≡ fits d m (climb source (inner source d) d d p (read e m after))
  by_operand d p m e from after h =
      expr_is d p from
      ∙ (ap (λ r. r >>= climb source (inner source d) d d p) h
      ∙ fits_bind d m (read e m after) (climb source (inner source d) d d p))

  -- a phrase whose operator stands behind its first operand
  by_extension : (d p q h m : ℕ) (a e : ExprTree) (from mid after : Rest) (j : Joint) → 1 ≤ p → p ≤ q → joint mid ≡ j
      → level_of_joint j ≡ q → h < m → Reads q h a from mid
      → (h < d → Comes d m (extended_at source (inner source d) d (read a h mid) j) e after)
      → expr source d p from ≡ fits d m (climb source (inner source d) d d p (read e m after))
  by_extension d p q h m a e from mid after j one below is at more x ext =
      let level : binds mid ≡ q = ap level_of_joint is ∙ at in
      x d p one below (omega (arith, level))
      ∙ elim (cases_lt d h) [
        | inl k ↦ fits_out d h _ k ∙ sym (fits_out d m _ (omega (arith, k, more)))
        | inr k ↦
            fits_in d h _ k
            ∙ (climb_step source (inner source d) d d p (read a h mid) (omega arith) (omega (arith, level, below))
            ∙ elim (cases_lt h d) [
              | inl i ↦
                  ap (λ r. r >>= climb source (inner source d) d d p)
                  (extended_room source (inner source d) d (read a h mid) i
                  ∙ (ap (extended_at source (inner source d) d (read a h mid)) is ∙ ext i))
                  ∙ fits_bind d m (read e m after) (climb source (inner source d) d d p)
              | inr i ↦
                  ap (λ r. r >>= climb source (inner source d) d d p)
                  (extended_full source (inner source d) d (read a h mid) i)
                  ∙ sym (fits_out d m _ (omega (arith, i, more)))
            ])
      ]

  pub binary_reads : (op : BinaryOperator) (h i : ℕ) (a b : ExprTree) (from mid right after : Rest)
      → joint mid ≡ Joint.Binary op right → Reads (level_of op) h a from mid → Reads (suc (level_of op)) i b right after
      → Reads (level_of op) (suc (max h i)) (ExprTree.Binary op a b) from after
  unfolding extended_at
  binary_reads op h i a b from mid right after j x y d p one below stop =
      by_extension d p (level_of op) h (suc (max h i)) a (ExprTree.Binary op a b) from mid after (Joint.Binary op right)
      one below j refl (omega arith) x (λ room.
      comes_joined source (inner source d) d h i a mid _ (ExprTree.Binary op a b) after room
      (got_made d i (λ b. ExprTree.Binary op a b) _ b after
      (got_inner d i _ b after
      (inner_reads (suc (level_of op)) i b right after y d (suc (level_of op)) (omega arith) (omega arith)
      (omega (arith, stop))))))

  pub between_reads : (n : Bool) (h i j : ℕ) (e a b : ExprTree) (from mid low high after : Rest)
      → joint mid ≡ Joint.Between n low → Reads 4 h e from mid → Reads 5 i a low (Lexeme.Reserved k.And ∷ high)
      → Reads 5 j b high after → Reads 4 (suc (max h (max i j))) (ExprTree.Between n e a b) from after
  unfolding extended_at
  between_reads n h i j e a b from mid low high after is x y z d p one below stop =
      by_extension d p 4 h (suc (max h (max i j))) e (ExprTree.Between n e a b) from mid after (Joint.Between n low) one
      below is refl (omega arith) x (λ room.
      comes_joined source (inner source d) d h (max i j) e mid _ (ExprTree.Between n e a b) after room
      (got_made d (max i j) (λ (r : ExprTree × ExprTree). ExprTree.Between n e r.0 r.1) _ (a, b) after
      (got_both d i j _ _ a b high after
      (got_closed d i (after_keyword k.And) _ a (Lexeme.Reserved k.And ∷ high) high
      (got_inner d i _ a (Lexeme.Reserved k.And ∷ high)
      (inner_reads 5 i a low (Lexeme.Reserved k.And ∷ high) y d 5 (omega arith) (omega arith) (omega arith))) refl)
      (got_inner d j _ b after (inner_reads 5 j b high after z d 5 (omega arith) (omega arith) (omega (arith, stop)))))))

  pub postfix_reads : (op : PostfixOperator) (h : ℕ) (e : ExprTree) (from mid after : Rest)
      → joint mid ≡ Joint.Postfix op after → Reads 4 h e from mid → Reads 4 (suc h) (ExprTree.Postfix op e) from after
  unfolding extended_at
  postfix_reads op h e from mid after j x d p one below stop =
      by_extension d p 4 h (suc h) e (ExprTree.Postfix op e) from mid after (Joint.Postfix op after) one below j refl
      (omega arith) x (λ room.
      ap (λ o. needed o >>= λ rest. Ok (read (ExprTree.Postfix op e) (suc h) rest)) (is_loose after stop)
      ∙ sym (fits_in d (suc h) _ (omega (arith, room))))

  -- what stands in the parentheses of IN
  by_members : (n : Bool) (h i : ℕ) (e t : ExprTree) (from mid rest last after : Rest)
      → joint mid ≡ Joint.In n (Lexeme.Punctuation s.Open ∷ rest) → Reads 4 h e from mid
      → ((d : ℕ) → Got d i (members source (inner source d) d n (read e h mid) rest (membership rest)) t after)
      → Reads 4 (suc (max h i)) t from after
  unfolding extended_at
  by_members n h i e t from mid rest last after j x g d p one below stop =
      by_extension d p 4 h (suc (max h i)) e t from mid after _ one below j refl (omega arith) x (λ room.
      comes_joined source (inner source d) d h i e mid _ t after room
      (got_closed d i loosely _ t after after (g d) (is_loose after stop)))

  pub in_none_reads : (n : Bool) (h : ℕ) (e : ExprTree) (from mid after : Rest)
      → joint mid ≡ Joint.In n (Lexeme.Punctuation s.Open ∷ Lexeme.Punctuation s.Close ∷ after) → Reads 4 h e from mid
      → Reads 4 (suc (max h 0)) (ExprTree.In n e ExprTrees.No_more) from after
  in_none_reads n h e from mid after j x =
      by_members n h 0 e (ExprTree.In n e ExprTrees.No_more) from mid (Lexeme.Punctuation s.Close ∷ after) after after j x
      (λ d. got_flat d _ _ after refl)

  pub in_query_reads : (n : Bool) (h i : ℕ) (e : ExprTree) (query : QueryTree) (from mid rest after : Rest)
      → joint mid ≡ Joint.In n (Lexeme.Punctuation s.Open ∷ rest) → membership rest ≡ Membership.Query
      → Reads 4 h e from mid → ReadsQuery i query rest (Lexeme.Punctuation s.Close ∷ after)
      → Reads 4 (suc (max h i)) (ExprTree.InQuery n e query) from after
  in_query_reads n h i e query from mid rest after j is x y =
      by_members n h i e (ExprTree.InQuery n e query) from mid rest after after j x (λ d.
      got_same d i _ _ _ after (ap (members source (inner source d) d n (read e h mid) rest) is)
      (got_made d i (λ query. ExprTree.InQuery n e query) _ query after
      (got_closed d i after_close _ query (Lexeme.Punctuation s.Close ∷ after) after (got_inner d i _ query _ (y d)) refl)))

  pub prefix_reads : (op : PrefixOperator) (h : ℕ) (e : ExprTree) (from rest after : Rest)
      → opening from ≡ Opening.Operator op rest → Reads (level_of_prefix op) h e rest after
      → Reads (level_of_prefix op) (suc h) (ExprTree.Prefix op e) from after
  unfolding operand_at
  prefix_reads op h e from rest after is x d p one below stop =
      by_operand d p (suc h) (ExprTree.Prefix op e) from after
      (ap (operand_at source (inner source d) d p) is
      ∙ (cond-true _ _ _ (le-leb p (level_of_prefix op) below)
      ∙ comes_made d (suc h) (λ e. ExprTree.Prefix op e) _ e after
      (inner_reads (level_of_prefix op) h e rest after x d (level_of_prefix op) (omega (arith, (prefix_large op).0))
      (omega arith) (below_prefix op after stop))))

  pub literal_reads : (e : ExprTree) (from after : Rest) → opening from ≡ Opening.Value e after
      → Reads 11 0 e from after
  unfolding operand_at
  literal_reads e from after is d p one below stop =
      by_operand d p 0 e from after (comes_flat d _ e after (ap (operand_at source (inner source d) d p) is))

  pub column_reads : (q : Quoting) (name : Name) (after : Rest)
      → Reads 11 0 (ExprTree.Column None name) (Lexeme.Name q name ∷ after) after
  unfolding operand_at
  column_reads q name after d p one below stop =
      by_operand d p 0 (ExprTree.Column None name) (Lexeme.Name q name ∷ after) after
      (comes_flat d _ _ after (ap (named source (inner source d) d q name after) (no_following source after stop)))

  pub column_of_reads : (q r : Quoting) (table name : Name) (after : Rest)
      → Reads 11 0 (ExprTree.Column (Some table) name)
      (Lexeme.Name q table ∷ Lexeme.Punctuation s.Dot ∷ Lexeme.Name r name ∷ after) after
  unfolding operand_at
  column_of_reads q r table name after d p one below stop =
      by_operand d p 0 (ExprTree.Column (Some table) name) _ after (comes_flat d _ _ after refl)

  pub parentheses_reads : (h : ℕ) (e : ExprTree) (from after : Rest)
      → Reads 1 h e from (Lexeme.Punctuation s.Close ∷ after)
      → Reads 11 (suc h) e (Lexeme.Punctuation s.Open ∷ from) after
  unfolding operand_at
  parentheses_reads h e from after x d p one below stop =
      by_operand d p (suc h) e (Lexeme.Punctuation s.Open ∷ from) after
      (comes_closed d (suc h) after_close _ e (Lexeme.Punctuation s.Close ∷ after) after
      (reads_one h e from (Lexeme.Punctuation s.Close ∷ after) x d refl) refl)

  pub exists_reads : (h : ℕ) (query : QueryTree) (from after : Rest)
      → ReadsQuery h query from (Lexeme.Punctuation s.Close ∷ after)
      → Reads 11 (suc h) (ExprTree.Exists query) (Lexeme.Reserved k.Exists ∷ Lexeme.Punctuation s.Open ∷ from) after
  unfolding operand_at
  exists_reads h query from after x d p one below stop =
      by_operand d p (suc h) (ExprTree.Exists query) _ after
      (comes_made d (suc h) (λ query. ExprTree.Exists query) _ query after
      (comes_closed d (suc h) after_close _ query (Lexeme.Punctuation s.Close ∷ after) after (x d) refl))

  -- Calls

  abbrev pub ReadsBehind : ℕ → BehindTree → Rest → Rest → Type 0
  ReadsBehind h b from after = (d : ℕ) → binds after ≤ 11 → Got d h (behind source (inner source d) d from) b after

  pub count_rows_reads : (word : Name) (h : ℕ) (b : BehindTree) (from after : Rest) → function_of word ≡ Some f.Count
      → ReadsBehind h b from after
      → Reads 11 (suc h) (ExprTree.CountRows b)
      (Lexeme.Name q.Bare word ∷ Lexeme.Punctuation s.Open ∷ Lexeme.Punctuation s.Star ∷ Lexeme.Punctuation s.Close
      ∷ from) after
  unfolding operand_at
  count_rows_reads word h b from after is x d p one below stop =
      by_operand d p (suc h) (ExprTree.CountRows b) _ after
      (ap (λ o. called source (inner source d) d o (Lexeme.Punctuation s.Star ∷ Lexeme.Punctuation s.Close ∷ from)) is
      ∙ comes_counted source (inner source d) d h _ (ExprTree.CountRows b) after
      (got_made d h (λ b. ExprTree.CountRows b) _ b after (x d stop)))

  pub call_none_reads : (word : Name) (function : Function) (h : ℕ) (b : BehindTree) (from after : Rest)
      → function_of word ≡ Some function → takes function 0 ≡ true → ReadsBehind h b from after
      → Reads 11 (suc h) (ExprTree.Call function ExprTrees.No_more b)
      (Lexeme.Name q.Bare word ∷ Lexeme.Punctuation s.Open ∷ Lexeme.Punctuation s.Close ∷ from) after
  unfolding operand_at
  call_none_reads word function h b from after is takes_none x d p one below stop =
      by_operand d p (suc h) (ExprTree.Call function ExprTrees.No_more b) _ after
      (ap (λ o. called source (inner source d) d o (Lexeme.Punctuation s.Close ∷ from)) is
      ∙ (ap (λ t. kept_if t from
      >>= λ rest. counted source (inner source d) d (made (λ b. ExprTree.Call function ExprTrees.No_more b)
      (behind source (inner source d) d rest))) takes_none
      ∙ comes_counted source (inner source d) d h _ (ExprTree.Call function ExprTrees.No_more b) after
      (got_made d h (λ b. ExprTree.Call function ExprTrees.No_more b) _ b after (x d stop))))

  -- Lists

  abbrev pub ReadsItem : Bool → ℕ → ExprTree → Rest → Rest → Type 0
  ReadsItem b h e from after = (d : ℕ) → binds after ≡ 0 → Comes d (suc h) (item source (inner source d) d b from) e after

  pub expression_reads : (h : ℕ) (e : ExprTree) (from after : Rest) → Reads 1 h e from after
      → ReadsItem false h e from after
  expression_reads h e from after x d stop = reads_one h e from after x d stop

  pub number_reads : (n : ℤ) (after : Rest) → ReadsItem true 0 (ExprTree.Number n) (Lexeme.Number n ∷ after) after
  number_reads n after d stop =
      ap (λ r. r >>= one source (inner source d) d)
      (cond-true (leb (binds after) 0) (Ok (Lexeme.Number n ∷ after)) (Err Refusal.Syntax)
      (le-leb (binds after) 0 (omega (arith, stop))))
      ∙ inner_reads 11 0 (ExprTree.Number n) (Lexeme.Number n ∷ after) after
      (literal_reads (ExprTree.Number n) (Lexeme.Number n ∷ after) after refl) d 1 (omega arith) (omega arith)
      (omega (arith, stop))

  -- an item at any place
  abbrev pub items : ℕ → (ℕ → Bool) → ℕ → Rest → Outcome (Read ExprTree)
  items d numbers place = item source (inner source d) d (numbers place)

  abbrev pub ReadsAll : (ℕ → Bool) → ℕ → ℕ → ExprTrees → Rest → Rest → Type 0
  ReadsAll numbers place h es from after =
      (d n : ℕ) → length from < n → Ends after
      → Comes d (suc h) (series (items d numbers) after_comma n place from) (list_of es) after

  pub last_reads : (numbers : ℕ → Bool) (place h : ℕ) (e : ExprTree) (from after : Rest)
      → ReadsItem (numbers place) h e from after
      → ReadsAll numbers place h (ExprTrees.More e ExprTrees.No_more) from after
  last_reads numbers place h e from after x d zero less ends = absurd (omega (arith, less))
  last_reads numbers place h e from after x d (suc n) less ends =
      comes_levels d (max (suc h) 0) (suc h) _ (e ∷ []) after (omega arith)
      (comes_last d (suc h) (items d numbers) after_comma n place e from after (x d ends.no_operator) ends.no_comma)

  pub more_reads : (numbers : ℕ → Bool) (place h i : ℕ) (e : ExprTree) (es : ExprTrees) (from rest after : Rest)
      → h + length (Lexeme.Punctuation s.Comma ∷ rest) < length from
      → ReadsItem (numbers place) h e from (Lexeme.Punctuation s.Comma ∷ rest)
      → ReadsAll numbers (suc place) i es rest after
      → ReadsAll numbers place (max h i) (ExprTrees.More e es) from after
  more_reads numbers place h i e es from rest after shorter x xs d zero less ends = absurd (omega (arith, less))
  more_reads numbers place h i e es from rest after shorter x xs d (suc n) less ends =
      comes_levels d (max (suc h) (suc i)) (suc (max h i)) _ (e ∷ list_of es) after (omega arith)
      (comes_more d (suc h) (suc i) (items d numbers) after_comma n place e (list_of es) from
      (Lexeme.Punctuation s.Comma ∷ rest) rest after (x d refl) refl (xs d n (omega (arith, less, shorter)) ends))

  -- one expression or more
  pub reads_some : (h : ℕ) (es : ExprTrees) (from after : Rest) → ReadsAll nowhere 0 h es from after → (d : ℕ)
      → Ends after → Comes d (suc h) (some source (inner source d) d from) es after
  reads_some h es from after xs d ends =
      comes_made d (suc h) trees_of _ (list_of es) after (xs d (suc (length from)) (omega arith) ends)
      ∙ ap (λ es. fits d (suc h) (Ok (read es (suc h) after))) (trees_of_list es)

  pub in_list_reads : (n : Bool) (h i : ℕ) (e : ExprTree) (es : ExprTrees) (from mid rest after : Rest)
      → joint mid ≡ Joint.In n (Lexeme.Punctuation s.Open ∷ rest) → membership rest ≡ Membership.Members
      → Reads 4 h e from mid → ReadsAll nowhere 0 i es rest (Lexeme.Punctuation s.Close ∷ after)
      → Reads 4 (suc (max h i)) (ExprTree.In n e es) from after
  in_list_reads n h i e es from mid rest after j is x xs =
      by_members n h i e (ExprTree.In n e es) from mid rest after after j x (λ d.
      got_same d i _ _ _ after (ap (members source (inner source d) d n (read e h mid) rest) is)
      (got_made d i (λ es. ExprTree.In n e es) _ es after
      (got_closed d i after_close _ es (Lexeme.Punctuation s.Close ∷ after) after
      (got_inner d i _ es (Lexeme.Punctuation s.Close ∷ after)
      (reads_some i es rest (Lexeme.Punctuation s.Close ∷ after) xs d (close_ends after))) refl)))

  pub call_reads : (word : Name) (function : Function) (h i : ℕ) (es : ExprTrees) (b : BehindTree) (from rest after : Rest)
      → function_of word ≡ Some function → inside from ≡ Inside.Arguments → takes function (count es) ≡ true
      → ReadsAll (takes_number function) 0 h es from (Lexeme.Punctuation s.Close ∷ rest) → ReadsBehind i b rest after
      → Reads 11 (suc (max h i)) (ExprTree.Call function es b)
      (Lexeme.Name q.Bare word ∷ Lexeme.Punctuation s.Open ∷ from) after
  unfolding operand_at
  call_reads word function h i es b from rest after is some enough xs y d p one below stop =
      let g = y d stop in
      by_operand d p (suc (max h i)) (ExprTree.Call function es b) _ after
      (ap (λ o. called source (inner source d) d o from) is
      ∙ (ap (arguments source (inner source d) d function from) some
      ∙ (step d (suc h) g.levels (closed after_close (list source (inner source d) d (takes_number function) from))
      (read (list_of es) (suc h) rest)
      (λ xs. kept_if (takes function (length xs.tree)) xs.rest >>= λ rest. behind source (inner source d) d rest
      >>= λ b. Ok (read (ExprTree.Call function (trees_of xs.tree) b.tree) (max xs.levels b.levels) b.rest))
      (read (ExprTree.Call function es b) (max (suc h) g.levels) after)
      (comes_closed d (suc h) after_close _ (list_of es) (Lexeme.Punctuation s.Close ∷ rest) rest
      (xs d (suc (length from)) (omega arith) (close_ends rest)) refl)
      (ap (λ t. kept_if t rest >>= λ rest. behind source (inner source d) d rest
      >>= λ b. Ok (read (ExprTree.Call function (trees_of (list_of es)) b.tree) (max (suc h) b.levels) b.rest))
      (ap (takes function) (count_of_list es) ∙ enough)
      ∙ step_last d g.levels (behind source (inner source d) d rest) (read b g.levels after)
      (λ b. Ok (read (ExprTree.Call function (trees_of (list_of es)) b.tree) (max (suc h) b.levels) b.rest))
      (read (ExprTree.Call function es b) (max (suc h) g.levels) after) g.gives
      (ap (λ es. Ok (read (ExprTree.Call function es b) (max (suc h) g.levels) after)) (trees_of_list es)))
      ∙ fits_read d (max (suc h) g.levels) (suc (max h i)) (max (suc h) g.levels) (suc (max h i))
      (ExprTree.Call function es b) after (omega (arith, g.is)) (omega (arith, g.is)))))

  -- CASE

  abbrev pub ReadsOperand : ℕ → MaybeExpr → Rest → Rest → Type 0
  ReadsOperand h e from after =
      (d : ℕ) → Got d h (operand_of_case source (inner source d) d from (after_keyword k.When from)) e after

  pub no_operand_reads : (whens rest : Rest) → whens ≡ Lexeme.Reserved k.When ∷ rest
      → ReadsOperand 0 MaybeExpr.Absent whens whens
  no_operand_reads whens rest is d =
      got_flat d _ MaybeExpr.Absent whens
      (ap (λ ts. operand_of_case source (inner source d) d whens (after_keyword k.When ts)) is)

  pub operand_reads : (h : ℕ) (e : ExprTree) (from whens rest : Rest) → whens ≡ Lexeme.Reserved k.When ∷ rest
      → after_keyword k.When from ≡ None → Reads 1 h e from whens → ReadsOperand h (MaybeExpr.Present e) from whens
  operand_reads h e from whens rest is begins x d =
      got_same d h _ _ (MaybeExpr.Present e) whens (ap (operand_of_case source (inner source d) d from) begins)
      (reads_present h e from whens x d (ap binds is))

  -- WHEN stands before the arms
  pub record ReadsArms (h : ℕ) (es : ArmTrees) (from after : Rest) : Type 0 where
    pub rest : Rest
    pub is : from ≡ Lexeme.Reserved k.When ∷ rest
    pub reads : (d n place : ℕ) → length rest < n → ArmsEnd after
        → Comes d (suc h) (series (λ place. arm source (inner source d) d) (after_keyword k.When) n place rest)
        (arms_list es) after

  arm_reads : (h i d : ℕ) (x y : ExprTree) (from mid after : Rest) → Reads 1 h x from (Lexeme.Reserved k.Then ∷ mid)
      → Reads 1 i y mid after → binds after ≡ 0
      → Comes d (suc (max h i)) (arm source (inner source d) d from) (x, y) after
  arm_reads h i d x y from mid after rx ry stop =
      comes_levels d (max (suc h) (suc i)) (suc (max h i)) _ (x, y) after (omega arith)
      (comes_both d (suc h) (suc i) _ _ x y mid after
      (comes_closed d (suc h) (after_keyword k.Then) _ x (Lexeme.Reserved k.Then ∷ mid) mid
      (reads_one h x from (Lexeme.Reserved k.Then ∷ mid) rx d refl) refl)
      (reads_one i y mid after ry d stop))

  pub last_arm_reads : (h i : ℕ) (x y : ExprTree) (from mid after : Rest)
      → Reads 1 h x from (Lexeme.Reserved k.Then ∷ mid) → Reads 1 i y mid after → (d n place : ℕ) → length from < n
      → ArmsEnd after
      → Comes d (suc (max h i)) (series (λ place. arm source (inner source d) d) (after_keyword k.When) n place from)
      ((x, y) ∷ []) after
  last_arm_reads h i x y from mid after rx ry d zero place less ends = absurd (omega (arith, less))
  last_arm_reads h i x y from mid after rx ry d (suc n) place less ends =
      comes_levels d (max (suc (max h i)) 0) (suc (max h i)) _ _ after (omega arith)
      (comes_last d (suc (max h i)) (λ place. arm source (inner source d) d) (after_keyword k.When) n place (x, y) from
      after (arm_reads h i d x y from mid after rx ry ends.no_operator) ends.no_when)

  pub more_arms_reads : (h i j : ℕ) (x y : ExprTree) (es : ArmTrees) (from mid whens after : Rest)
      → h + suc (length mid) < length from → i + length whens < length mid
      → Reads 1 h x from (Lexeme.Reserved k.Then ∷ mid) → Reads 1 i y mid whens → ReadsArms j es whens after
      → (d n place : ℕ) → length from < n → ArmsEnd after
      → Comes d (suc (max (max h i) j))
      (series (λ place. arm source (inner source d) d) (after_keyword k.When) n place from) ((x, y) ∷ arms_list es) after
  more_arms_reads h i j x y es from mid whens after short shorter rx ry rs d zero place less ends =
      absurd (omega (arith, less))
  more_arms_reads h i j x y es from mid whens after short shorter rx ry rs d (suc n) place less ends =
      comes_levels d (max (suc (max h i)) (suc j)) (suc (max (max h i) j)) _ _ after (omega arith)
      (comes_more d (suc (max h i)) (suc j) (λ place. arm source (inner source d) d) (after_keyword k.When) n place (x, y)
      (arms_list es) from whens rs.rest after (arm_reads h i d x y from mid whens rx ry (ap binds rs.is))
      (ap (after_keyword k.When) rs.is)
      (rs.reads d n (suc place) (let b = ap length rs.is in omega (arith, b, less, short, shorter)) ends))

  -- END stands behind what ELSE begins
  abbrev pub ReadsElse : ℕ → MaybeExpr → Rest → Rest → Type 0
  ReadsElse h e from after =
      (d : ℕ) → Got d h (otherwise source (inner source d) d from) e (Lexeme.Reserved k.End ∷ after)

  pub no_else_reads : (after : Rest) → ReadsElse 0 MaybeExpr.Absent (Lexeme.Reserved k.End ∷ after) after
  no_else_reads after d = got_absent d MaybeExpr.Absent (present source (inner source d) d) (Lexeme.Reserved k.End ∷ after) _ refl

  pub otherwise_reads : (h : ℕ) (e : ExprTree) (from after : Rest) → Reads 1 h e from (Lexeme.Reserved k.End ∷ after)
      → ReadsElse h (MaybeExpr.Present e) (Lexeme.Reserved k.Else ∷ from) after
  otherwise_reads h e from after x d =
      got_present d h MaybeExpr.Absent (present source (inner source d) d) (Lexeme.Reserved k.Else ∷ from) from _ (MaybeExpr.Present e)
      (Lexeme.Reserved k.End ∷ after) refl (reads_present h e from (Lexeme.Reserved k.End ∷ after) x d refl)

  pub choice_reads : (h i j : ℕ) (base other : MaybeExpr) (es : ArmTrees) (from whens rest after : Rest) → ArmsEnd rest
      → ReadsOperand h base from whens → ReadsArms i es whens rest → ReadsElse j other rest after
      → Reads 11 (suc (max h (max i j))) (ExprTree.Case base es other) (Lexeme.Reserved k.Case ∷ from) after
  unfolding operand_at choice
  choice_reads h i j base other es from whens rest after ends rx rs ry d p one below stop =
      let x = rx d in
      let y = ry d in
      by_operand d p (suc (max h (max i j))) (ExprTree.Case base es other) (Lexeme.Reserved k.Case ∷ from) after
      (comes_levels d (max x.levels (max (suc i) y.levels)) (suc (max h (max i j))) _ (ExprTree.Case base es other) after
      (omega (arith, x.is, y.is))
      (comes_made d (max x.levels (max (suc i) y.levels)) (chosen source (inner source d) d) _ (base, (arms_list es, other)) after
      (comes_both d x.levels (max (suc i) y.levels) _ _ base (arms_list es, other) rs.rest after
      (comes_closed d x.levels (after_keyword k.When) _ base whens rs.rest x.gives (ap (after_keyword k.When) rs.is))
      (comes_closed d (max (suc i) y.levels) (after_keyword k.End) _ (arms_list es, other)
      (Lexeme.Reserved k.End ∷ after) after
      (comes_both d (suc i) y.levels _ _ (arms_list es) other rest (Lexeme.Reserved k.End ∷ after)
      (rs.reads d (suc (length rs.rest)) 0 (omega arith) ends) y.gives) refl))
      ∙ ap (λ es. fits d (max x.levels (max (suc i) y.levels)) (Ok (read (ExprTree.Case base es other) (max x.levels (max (suc i) y.levels)) after)))
      (arms_of_list es)))
