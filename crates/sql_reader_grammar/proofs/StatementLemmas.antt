-- What spells a statement is read, and tokens spell at most one.
use Rattle.std.proofs.Common.{◌≡◌, Bool, true, false, ℕ, suc, zero, ◌+◌, ◌<◌, ◌≤◌, max, ℤ, List, [], ◌∷◌, length, Option, None, Ok, Err, refl, sym, ap, ◌∙◌, arith, subst}
use Rattle.sql_reader_tokens.specs.Lexeme.{Lexeme}
use Rattle.sql_reader_tokens.specs.declared.keywords.keyword.Keyword.TheVariants as k
use Rattle.sql_reader_tokens.specs.declared.sign.Sign.TheVariants as s
use Rattle.sql_reader_grammar.specs.phrases.Outcomes.{Refusal, ◌>>=◌, kept_if, read, series}
use Rattle.sql_reader_grammar.specs.phrases.Steps.{Rest, after_close, after_comma, after_keyword, ends}
use Rattle.sql_reader_grammar.proofs.lemmas.phrases.OutcomeLemmas.{fits, fits_in, fits_same, fits_suc, ok_inj, step_last}
use Rattle.sql_reader_syntax.specs.StatementTree.{ItemTree, StatementTree}
use Rattle.sql_reader_syntax.specs.Tree.{Name}
use Rattle.sql_reader_grammar.specs.Clauses.{Ends, Limits}
use Rattle.sql_reader_grammar.specs.Fronts.{explained}
use Rattle.sql_reader_grammar.specs.Reading.{a_name, an_item, clauses, closed, columns, item_of, item_query, items, items_at, limit, statement, stated}
use Rattle.sql_reader_grammar.specs.Statements.{Columns, Explains, IsItem, Items, States, Withs}
use Rattle.sql_reader_grammar.proofs.Clauses.{limit_read, name_read, names_read}
use Rattle.sql_reader_grammar.proofs.Complete.{complete_order, complete_query, stage_order}
use Rattle.sql_reader_grammar.proofs.CompleteQueries.{inner_query}
use Rattle.sql_reader_grammar.proofs.Got.{Got, got_absent, got_both, got_closed, got_flat, got_inner, got_last, got_levels, got_made, got_more}
use Rattle.sql_reader_grammar.proofs.Room.{names_room, listed_room, room_order, room_query}
use Rattle.sql_reader_grammar.proofs.Shape.{begins_query}
use Rattle.sql_reader_grammar.proofs.Stages.{stage}

columns_read : {ns : List Name} {from rest : Rest} → Columns ns from (Lexeme.Reserved k.As ∷ rest)
    → columns from ≡ Ok (read ns 0 (Lexeme.Reserved k.As ∷ rest))
columns_read Columns.no_columns = refl
columns_read (Columns.columns x) = ap (closed after_close) (names_read x refl)

columns_room : {ns : List Name} {from after : Rest} → Columns ns from after → length after ≤ length from
columns_room Columns.no_columns = omega arith
columns_room (Columns.columns x) = omega (arith, listed_room x)

ends_read : {ts : Rest} → Ends ts → (ends ts ≡ true) × (10 ≤ stage ts)
ends_read Ends.nothing = (refl, omega arith)
ends_read Ends.semicolon = (refl, omega arith)

limits_stage : {l o : Option ℤ} {from after : Rest} → Limits l o from after → 10 ≤ stage after → 8 ≤ stage from
limits_stage x st = (limit_read x st).1

module _ (source : ℕ → ℕ → List ℕ) where
  item_room : {h : ℕ} {i : ItemTree} {from after : Rest} → IsItem source h i from after → h + length after < length from
  item_room (IsItem.item n cs x) = omega (arith, names_room n, columns_room cs, room_query source x)

  item_reads : {h : ℕ} {i : ItemTree} {from after : Rest} → IsItem source h i from after → (d : ℕ)
      → Got (suc d) h (an_item source d from) i after
  item_reads (IsItem.item {h = h} {name = n} {columns = cs} {query = query} {from = from} {mid = mid} {rest = rest} {after = after} x y z) d =
      let start : Rest = Lexeme.Punctuation s.Open ∷ rest in
      got_levels (suc d) (max 0 h) h _ _ after (omega arith)
      (got_made (suc d) (max 0 h) (item_of source) _ ((n, cs), query) after
      (got_both (suc d) 0 h _ (item_query source d) (n, cs) query start after
      (got_closed (suc d) 0 (after_keyword k.As) _ (n, cs) (Lexeme.Reserved k.As ∷ start) start
      (got_both (suc d) 0 0 (a_name from) columns n cs mid (Lexeme.Reserved k.As ∷ start)
      (got_flat (suc d) _ n mid (name_read x)) (got_flat (suc d) _ cs _ (columns_read y))) refl)
      (got_closed (suc d) h after_close _ query (Lexeme.Punctuation s.Close ∷ after) after
      (got_inner (suc d) h _ query _ (inner_query source h query rest _ (complete_query source z) (omega arith) (suc d)))
      refl)))

  items_read : {h : ℕ} {is : List ItemTree} {from after : Rest} → Items source h is from after → (d n place : ℕ)
      → length from < n → after_comma after ≡ None
      → Got (suc d) h (series (λ place. an_item source d) after_comma n place from) is after
  items_read (Items.last_item x) d zero place less stop = absurd (omega (arith, less))
  items_read (Items.last_item {h = h} {i = i} {from = from} {after = after} x) d (suc n) place less stop =
      got_last (suc d) h (λ place. an_item source d) after_comma n place i from after (item_reads x d) stop
  items_read (Items.more_items x xs) d zero place less stop = absurd (omega (arith, less))
  items_read (Items.more_items {h = h} {j = j} {i = i} {items = is} {from = from} {rest = rest} {after = after} x xs) d (suc n) place less stop =
      got_more (suc d) h j (λ place. an_item source d) after_comma n place i is from (Lexeme.Punctuation s.Comma ∷ rest)
      rest after (item_reads x d) refl
      (items_read xs d n (suc place) (let r = item_room x in omega (arith, less, r)) stop)

  withs_read : {h : ℕ} {is : List ItemTree} {from after rest : Rest} → Withs source h is from after
      → after ≡ Lexeme.Reserved k.Select ∷ rest → (d : ℕ) → Got (suc d) h (items source d from) is after
  withs_read (Withs.no_items {after = after}) e d =
      got_absent (suc d) [] (items_at source d) after _ (ap (after_keyword k.With) e)
  withs_read (Withs.items {h = h} {items = is} {from = from} {after = after} xs) e d =
      items_read xs d (suc (length from)) 0 (omega arith) (ap after_comma e)

  explains_read : {b : Bool} {from start : Rest} → Explains b from start → explained start ≡ (false, start)
      → explained from ≡ (b, start)
  explains_read Explains.plain h = h
  explains_read Explains.explain h = refl

  plain_start : {h : ℕ} {is : List ItemTree} {from after rest : Rest} → Withs source h is from after
      → after ≡ Lexeme.Reserved k.Select ∷ rest → explained from ≡ (false, from)
  plain_start Withs.no_items e = subst (λ ts. explained ts ≡ (false, ts)) (sym e) refl
  plain_start (Withs.items xs) e = refl

  -- a statement is read, where there may be so many levels
  pub statement_reads : {h : ℕ} {tree : StatementTree} {ts : Rest} → States source h tree ts → (d : ℕ)
      → statement source d ts ≡ fits d h (Ok tree)
  unfolding statement
  statement_reads (States.states {h = h} {i = i} {j = j} {explain = b} {items = is} {query = query} {order = terms}
      {limit = l} {offset = o} {from = from} {with = with} {start = start} {sorted = sorted} {limited = limited}
      {after = after} e w x y z end) d =
      let begins = begins_query source x in
      let last = ends_read end in
      let lim = limit_read z last.1 in
      let g = got_both (suc d) h (max i j) _ _ is (query, (terms, (l, o))) with after (withs_read w begins.is d)
      (got_both (suc d) i j _ _ query (terms, (l, o)) sorted after
      (got_inner (suc d) i _ query sorted
      (inner_query source i query with sorted (complete_query source x)
      (stage_order source y lim.1) (suc d)))
      (got_levels (suc d) (max j 0) j _ _ after (omega arith)
      (got_both (suc d) j 0 _ limit terms (l, o) limited after (complete_order source y (suc d) lim.1)
      (got_flat (suc d) _ (l, o) after lim.0)))) in
      ap (λ (q : Bool × Rest). clauses source d q.1 >>= λ x. kept_if (ends x.rest) (stated source q.0 x.tree))
      (explains_read e (plain_start w begins.is))
      ∙ (step_last (suc d) g.levels (clauses source d start) (read (is, (query, (terms, (l, o)))) g.levels after)
      (λ x. kept_if (ends x.rest) (stated source b x.tree)) (stated source b (is, (query, (terms, (l, o))))) g.gives
      (ap (λ t. kept_if t (stated source b (is, (query, (terms, (l, o)))))) last.0)
      ∙ fits_same (suc d) g.levels (suc (max h (max i j))) _ _ (λ k. omega (arith, k, g.is)) (λ k. omega (arith, k, g.is))
      (λ k. refl)
      ∙ sym (fits_suc d (max h (max i j)) _))

  -- tokens spell at most one statement, of so many levels
  pub one_statement : (h i : ℕ) (a b : StatementTree) (ts : Rest) → States source h a ts → States source i b ts → a ≡ b
  one_statement h i a b ts x y =
      let d : ℕ = max h i in
      ok_inj a b
      (sym (statement_reads x d ∙ fits_in d h _ (omega arith)) ∙ (statement_reads y d ∙ fits_in d i _ (omega arith)))

  items_room : {h : ℕ} {is : List ItemTree} {from after : Rest} → Items source h is from after
      → h + length after < length from
  items_room (Items.last_item x) = item_room x
  items_room (Items.more_items x xs) = omega (arith, item_room x, items_room xs)

  withs_room : {h : ℕ} {is : List ItemTree} {from after : Rest} → Withs source h is from after
      → h + length after ≤ length from
  withs_room Withs.no_items = omega arith
  withs_room (Withs.items xs) = omega (arith, items_room xs)

  explains_room : {b : Bool} {from after : Rest} → Explains b from after → length after ≤ length from
  explains_room Explains.plain = omega arith
  explains_room Explains.explain = omega arith

  -- a statement has no more levels than tokens
  pub statement_room : {h : ℕ} {tree : StatementTree} {ts : Rest} → States source h tree ts → h ≤ length ts
  statement_room (States.states e w x y z end) =
      omega (arith, explains_room e, withs_room w, room_query source x, room_order source y)

  -- what the reader refuses is no statement
  pub nothing_stated : (ts : Rest) → statement source (length ts) ts ≡ Err Refusal.Syntax → (h : ℕ) (tree : StatementTree)
      → ¬ (States source h tree ts)
  nothing_stated ts e h tree x =
      let i = statement_reads x (length ts) ∙ fits_in (length ts) h _ (statement_room x) in
      let j = sym e ∙ i in absurd cc
