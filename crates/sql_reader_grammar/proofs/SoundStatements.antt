-- What was read as a statement is one: the sources of FROM, levels, WITH, the end.
use Rattle.std.proofs.Common.{◌≡◌, Bool, true, ℕ, zero, suc, ◌≤◌, max, ℤ, List, [], ◌∷◌, length, Option, Some, None, Ok, Err, refl, sym, ap, ◌∙◌, arith, subst}
use mathlib.Core.Logic.{inl, inr}
use Rattle.std.proofs.lemmas.Bool.{cases_lt}
use Rattle.sql_reader_tokens.specs.Lexeme.{Lexeme}
use Rattle.sql_reader_tokens.specs.declared.keywords.keyword.Keyword.TheVariants as k
use Rattle.sql_reader_tokens.specs.declared.sign.Sign.TheVariants as s
use Rattle.sql_reader_grammar.specs.phrases.Lists.{Listed}
use Rattle.sql_reader_grammar.specs.phrases.Outcomes.{Outcome, Read, Refusal, kept_if, read}
use Rattle.sql_reader_grammar.specs.phrases.Steps.{Rest, after_close, after_comma, after_keyword, after_open, ends}
use Rattle.sql_reader_grammar.proofs.lemmas.phrases.OutcomeLemmas.{bind_ok, fits_in, fits_out, ok_inj, some_inj}
use Rattle.sql_reader_grammar.proofs.lemmas.phrases.StepLemmas.{at_keyword, at_sign, kept}
use Rattle.sql_reader_syntax.specs.ExprTree.{FromTree, QueryTree, TermTrees}
use Rattle.sql_reader_syntax.specs.StatementTree.{ItemTree, StatementTree}
use Rattle.sql_reader_syntax.specs.Tree.{Name}
use Rattle.sql_reader_syntax.specs.declared.query.Join.{Join}
use Rattle.sql_reader_syntax.specs.declared.query.Join.TheVariants as j
use Rattle.sql_reader_grammar.specs.Clauses.{Ends, Joins, Limits, Names, Offsets, Outer, Wants, Whole}
use Rattle.sql_reader_grammar.specs.Fronts.{Joining, explained, join_at, outer}
use Rattle.sql_reader_grammar.specs.Queries.{Froms, IsSource, Ons, Orders, Queries, Selects, Sources}
use Rattle.sql_reader_grammar.specs.Read.{SaysOfStatement}
use Rattle.sql_reader_grammar.specs.Reading.{
  Inner,
  a_name,
  a_source,
  an_item,
  both,
  clauses,
  closed,
  columns,
  core,
  expr_by,
  from,
  heading,
  inner,
  item_of,
  item_query,
  items,
  items_at,
  limit,
  made,
  names,
  next_source,
  offset,
  on,
  optional,
  order,
  outermost,
  query_by,
  some_whole,
  source_and,
  sources,
  sources_from,
  stated,
  statement,
  whole,
}
use Rattle.sql_reader_grammar.specs.Statements.{Columns, Explains, IsItem, Items, States, Withs}
use Rattle.sql_reader_grammar.proofs.Sound.{Flat, finds_close, finds_comma, finds_keyword, materialized_sound, name_sound}
use Rattle.sql_reader_grammar.proofs.SoundExprs.{sound_expr}
use Rattle.sql_reader_grammar.proofs.SoundParts.{Enclosed, SoundInner, Stopped, enclosed_within, order_sound}
use Rattle.sql_reader_grammar.proofs.SoundQueries.{SoundFrom, core_sound, names_sound, on_sound, query_sound, source_sound}
use Rattle.sql_reader_grammar.proofs.SoundSteps.{Before, Both, Phrase, Sound, Within, sound_behind, sound_both, sound_closed, sound_less, sound_made, sound_needed, sound_optional, sound_series}
use Rattle.sql_reader_grammar.proofs.StatementLemmas.{statement_reads}

-- How a source is joined

outer_is : (join : Join) (ts : Rest) (o : Joining) → outer join ts ≡ Some o
    → (o.join ≡ join) × (o.wants ≡ Wants.Always) × Outer ts o.rest
outer_is join (Lexeme.Reserved k.Join ∷ ts) o e =
    let i = some_inj (record { join = join; wants = Wants.Always; rest = ts }) o e in (
      sym (ap (λ (o : Joining). o.join) i),
      sym (ap (λ (o : Joining). o.wants) i),
      subst (λ (o : Joining). Outer (Lexeme.Reserved k.Join ∷ ts) o.rest) i Outer.join,
    )
outer_is join (Lexeme.Reserved k.Outer ∷ Lexeme.Reserved k.Join ∷ ts) o e =
    let i = some_inj (record { join = join; wants = Wants.Always; rest = ts }) o e in (
      sym (ap (λ (o : Joining). o.join) i),
      sym (ap (λ (o : Joining). o.wants) i),
      subst (λ (o : Joining). Outer (Lexeme.Reserved k.Outer ∷ Lexeme.Reserved k.Join ∷ ts) o.rest) i Outer.outer,
    )
outer_is join _ o e = absurd cc

outer_joins : (join : Join) (from ts : Rest) (o : Joining)
    → ((after : Rest) → Outer ts after → Joins join Wants.Always from after) → outer join ts ≡ Some o
    → Joins o.join o.wants from o.rest
outer_joins join from ts o f e =
    let i = outer_is join ts o e in
    subst (λ join. Joins join o.wants from o.rest) (sym i.0)
    (subst (λ wants. Joins join wants from o.rest) (sym i.1) (f o.rest i.2))

joins_as : (join : Join) (wants : Wants) (from ts : Rest) (o : Joining) → Joins join wants from ts
    → Some (let j : Joining = record { join = join; wants = wants; rest = ts } in j) ≡ Some o → Joins o.join o.wants from o.rest
joins_as join wants from ts o x e =
    subst (λ (o : Joining). Joins o.join o.wants from o.rest) (some_inj (record { join = join; wants = wants; rest = ts }) o e) x

join_is : (ts : Rest) (o : Joining) → join_at ts ≡ Some o → Joins o.join o.wants ts o.rest
join_is (Lexeme.Punctuation s.Comma ∷ ts) o e = joins_as j.Inner Wants.Never _ ts o Joins.comma e
join_is (Lexeme.Reserved k.Cross ∷ Lexeme.Reserved k.Join ∷ ts) o e = joins_as j.Inner Wants.Never _ ts o Joins.cross e
join_is (Lexeme.Reserved k.Join ∷ ts) o e = joins_as j.Inner Wants.Maybe _ ts o Joins.join e
join_is (Lexeme.Reserved k.Inner ∷ Lexeme.Reserved k.Join ∷ ts) o e = joins_as j.Inner Wants.Maybe _ ts o Joins.inner e
join_is (Lexeme.Reserved k.Left ∷ ts) o e = outer_joins j.Left _ ts o (λ after x. Joins.left x) e
join_is (Lexeme.Reserved k.Right ∷ ts) o e = outer_joins j.Right _ ts o (λ after x. Joins.right x) e
join_is (Lexeme.Reserved k.Full ∷ ts) o e = outer_joins j.Full _ ts o (λ after x. Joins.full x) e
join_is _ o e = absurd cc

-- The end of a statement

whole_sound : (d : ℕ) (ts : Rest) → Sound 0 (Flat Whole) d (whole ts) ts
whole_sound d (Lexeme.Number n ∷ ts) x e = materialized_sound Whole d _ n ts x e Whole.number
whole_sound d (Lexeme.Punctuation s.Minus ∷ Lexeme.Number n ∷ ts) x e = materialized_sound Whole d _ _ ts x e Whole.minus
whole_sound d _ x e = absurd cc

abbrev IsSome : Phrase (Option ℤ)
IsSome h t from after = (n : ℤ) × (t ≡ Some n) × (h ≡ 0) × Whole n from after

some_sound : (d : ℕ) (ts : Rest) → Sound 0 IsSome d (some_whole ts) ts
some_sound d ts =
    sound_made 0 (Flat Whole) IsSome d (λ n. Some n) (whole ts) ts (λ h n after w. (n, refl, w.0, w.1)) (whole_sound d ts)

offset_sound : (d : ℕ) (ts : Rest) → Sound 0 (Flat Offsets) d (offset ts) ts
offset_sound d ts =
    sound_optional (Flat Offsets) d None some_whole ts (after_keyword k.Offset ts) (refl, Offsets.no_offset)
    (λ rest e. sound_behind 0 IsSome (Flat Offsets) d (some_whole rest) ts rest
    (λ h t after w. (
      w.2,
      subst (λ us. Offsets t us after) (sym (at_keyword k.Offset ts rest e))
          (subst (λ t. Offsets t (Lexeme.Reserved k.Offset ∷ rest) after) (sym w.1) (Offsets.offset w.3)),
    ))
    (some_sound d rest))

abbrev AreLimits : Phrase (Option ℤ × Option ℤ)
AreLimits h t from after = (h ≡ 0) × Limits t.0 t.1 from after

limit_sound : (d : ℕ) (ts : Rest) → Sound 0 AreLimits d (limit ts) ts
limit_sound d ts =
    sound_optional AreLimits d (None, None) (λ rest. both (some_whole rest) offset) ts (after_keyword k.Limit ts)
    (refl, Limits.no_limit)
    (λ rest e. sound_behind 0 (Both IsSome (Flat Offsets)) AreLimits d (both (some_whole rest) offset) ts rest
    (λ h t after b.
    let i = b.is in let m = b.front.2 in let o = b.rest.0 in (
      omega (arith, i, m, o),
      subst (λ us. Limits t.0 t.1 us after) (sym (at_keyword k.Limit ts rest e))
          (subst (λ l. Limits l t.1 (Lexeme.Reserved k.Limit ∷ rest) after) (sym b.front.1)
          (Limits.limit b.front.3 b.rest.1)),
    ))
    (sound_both 0 0 IsSome (Flat Offsets) d (some_whole rest) offset rest (some_sound d rest) (offset_sound d)))

ends_is : (ts : Rest) → ends ts ≡ true → Ends ts
ends_is [] e = Ends.nothing
ends_is (Lexeme.Punctuation s.Semicolon ∷ []) e = Ends.semicolon
ends_is _ e = absurd cc

explained_is : (ts : Rest) → Explains (explained ts).0 ts (explained ts).1
explained_is (Lexeme.Reserved k.Explain ∷ Lexeme.Reserved k.Query ∷ Lexeme.Reserved k.Plan ∷ ts) = Explains.explain
explained_is _ = Explains.plain

module _ (source : ℕ → ℕ → List ℕ) where
  module _ (inner : Inner) (d : ℕ) (inside : SoundInner source inner d) where
    -- The sources of FROM

    further_sound : (ts : Rest) (x y : Read FromTree) (o : Joining) → Within 0 (Sources source) d ts x
        → join_at x.rest ≡ Some o → source_and source inner d x o ≡ Ok y → Within 0 (Sources source) d ts y
    further_sound ts x y o w is e =
        let a = bind_ok (both (a_source source inner d o.rest) (on source inner d o.wants))
        (λ y. Ok (read (FromTree.Joined x.tree o.join y.tree.0 y.tree.1) (max x.levels y.levels) y.rest)) y e in
        let v = sound_both 0 0 (IsSource source) (Ons source o.wants) d (a_source source inner d o.rest)
        (on source inner d o.wants) o.rest (source_sound source inner d inside o.rest)
        (on_sound source inner d inside o.wants) a.0 a.1 in
        subst (Within 0 (Sources source) d ts)
        (ok_inj (read (FromTree.Joined x.tree o.join a.0.tree.0 a.0.tree.1) (max x.levels a.0.levels) a.0.rest) y a.2)
        (record {
          h = max w.h v.h;
          is = omega (arith, w.is, v.is);
          least = omega arith;
          within = omega (arith, w.within, v.within);
          spelt = subst (λ n. Sources source (max w.h n) (FromTree.Joined x.tree o.join a.0.tree.0 a.0.tree.1) ts a.0.rest)
              (sym v.spelt.is) (Sources.joined w.spelt (join_is x.rest o is) v.spelt.front v.spelt.rest);
        })

    all_sources : (n : ℕ) (ts : Rest) (x y : Read FromTree) (o : Option Joining) → Within 0 (Sources source) d ts x
        → join_at x.rest ≡ o → sources_from source inner d n x ≡ Ok y → Within 0 (Sources source) d ts y
    unfolding sources_from
    all_sources zero ts x y None w is e =
        subst (Within 0 (Sources source) d ts)
        (ok_inj x y (sym (ap (next_source source inner d (λ y. Err Refusal.Syntax) x) is) ∙ e)) w
    all_sources zero ts x y (Some o) w is e =
        let a = bind_ok (source_and source inner d x o) (λ y. Err Refusal.Syntax) y
        (sym (ap (next_source source inner d (λ y. Err Refusal.Syntax) x) is) ∙ e) in
        let f = a.2 in absurd cc
    all_sources (suc n) ts x y None w is e =
        subst (Within 0 (Sources source) d ts)
        (ok_inj x y (sym (ap (next_source source inner d (sources_from source inner d n) x) is) ∙ e)) w
    all_sources (suc n) ts x y (Some o) w is e =
        let a = bind_ok (source_and source inner d x o) (sources_from source inner d n) y
        (sym (ap (next_source source inner d (sources_from source inner d n) x) is) ∙ e) in
        all_sources n ts a.0 y (join_at a.0.rest) (further_sound ts x a.0 o w is a.1) refl a.2

    sources_sound : (ts : Rest) → Sound 0 (Sources source) d (sources source inner d ts) ts
    sources_sound ts x e =
        let a = bind_ok (made (λ source. FromTree.First source) (a_source source inner d ts))
        (sources_from source inner d (length ts)) x e in
        all_sources (length ts) ts a.0 x (join_at a.0.rest)
        (sound_made 0 (IsSource source) (Sources source) d (λ source. FromTree.First source) (a_source source inner d ts) ts
        (λ h t after y. Sources.first y) (source_sound source inner d inside ts) a.0 a.1) refl a.2

    pub from_sound : SoundFrom source inner d inside
    from_sound ts =
        sound_optional (Froms source) d FromTree.No_source (sources source inner d) ts (after_keyword k.From ts) Froms.no_sources
        (λ rest e. sound_behind 0 (Sources source) (Froms source) d (sources source inner d rest) ts rest
        (λ h t after x. subst (λ us. Froms source h t us after) (sym (at_keyword k.From ts rest e)) (Froms.sources x))
        (sources_sound rest))

  -- Levels

  pub inner_sound : (d : ℕ) → SoundInner source (inner source d) d
  unfolding inner
  inner_sound zero = record { expr = λ p from x small e. absurd cc; core = λ from x e. absurd cc; query = λ from x e. absurd cc }
  inner_sound (suc d) = record {
    expr = λ p from x small e.
        let a = bind_ok (expr_by source (inner source d) d p from) (λ x. Ok (read x.tree (suc x.levels) x.rest)) x e in
        let w = sound_expr source (inner source d) d (inner_sound d) p from a.0 small a.1 in
        let l = w.1 in
        subst (Enclosed (Stopped source p) (suc d) from) (ok_inj (read a.0.tree (suc a.0.levels) a.0.rest) x a.2)
        (record { h = a.0.levels; is = refl; within = omega (arith, l); spelt = w.0 });
    core = λ from x e.
        let a = bind_ok (core source (inner source d) d from) (λ x. Ok (read x.tree (suc x.levels) x.rest)) x e in
        let w = core_sound source (inner source d) d (inner_sound d) (from_sound (inner source d) d (inner_sound d)) from a.0 a.1 in
        let l = w.within in
        subst (Enclosed (Selects source) (suc d) from) (ok_inj (read a.0.tree (suc a.0.levels) a.0.rest) x a.2)
        (record { h = a.0.levels; is = refl; within = omega (arith, l); spelt = w.spelt });
    query = λ from x e.
        let a = bind_ok (query_by source (inner source d) d from) (λ x. Ok (read x.tree (suc x.levels) x.rest)) x e in
        let w = query_sound source (inner source d) d (inner_sound d) (from_sound (inner source d) d (inner_sound d)) from a.0 a.1 in
        let l = w.within in
        subst (Enclosed (Queries source) (suc d) from) (ok_inj (read a.0.tree (suc a.0.levels) a.0.rest) x a.2)
        (record { h = a.0.levels; is = refl; within = omega (arith, l); spelt = w.spelt });
  }

  -- WITH

  columns_sound : (d : ℕ) (ts : Rest) → Sound 0 (Flat Columns) d (columns ts) ts
  columns_sound d ts =
      let AreNames : Phrase (List Name) = λ h ns from after. (h ≡ 0) × Listed Names ns from after in
      sound_optional (Flat Columns) d [] (λ rest. closed after_close (names rest)) ts (after_open ts)
      (refl, Columns.no_columns)
      (λ rest e. sound_behind 0 (Before (Lexeme.Punctuation s.Close) AreNames) (Flat Columns) d
      (closed after_close (names rest)) ts rest
      (λ h ns after w. (
        w.0,
        subst (λ us. Columns ns us after) (sym (at_sign s.Open ts rest e)) (Columns.columns w.1),
      ))
      (sound_closed 0 AreNames d after_close (Lexeme.Punctuation s.Close) (names rest) rest finds_close
      (names_sound source (inner source d) d (inner_sound d) rest)))

  -- behind its name and columns
  abbrev IsQuery : Phrase QueryTree
  IsQuery h query from after =
      (rest : Rest) × (from ≡ Lexeme.Punctuation s.Open ∷ rest) × Queries source h query rest (Lexeme.Punctuation s.Close ∷ after)

  item_query_sound : (d : ℕ) (ts : Rest) → Sound 0 IsQuery (suc d) (item_query source d ts) ts
  item_query_sound d ts =
      sound_needed 0 IsQuery (suc d) (after_open ts) (λ rest. closed after_close ((outermost source d).query rest)) ts
      (λ rest e. sound_behind 1 (Before (Lexeme.Punctuation s.Close) (Queries source)) IsQuery (suc d)
      (closed after_close ((outermost source d).query rest)) ts rest (λ h query after x. (rest, at_sign s.Open ts rest e, x))
      (sound_closed 1 (Queries source) (suc d) after_close (Lexeme.Punctuation s.Close) ((outermost source d).query rest) rest
      finds_close (λ x i. enclosed_within (Queries source) (suc d) rest x ((inner_sound (suc d)).query rest x i))))

  abbrev IsHeading : Phrase (Name × List Name)
  IsHeading = Both (Flat Names) (Flat Columns)

  heading_sound : (d : ℕ) (ts : Rest) → Sound 0 (Before (Lexeme.Reserved k.As) IsHeading) d (heading source ts) ts
  heading_sound d ts =
      sound_closed 0 IsHeading d (after_keyword k.As) (Lexeme.Reserved k.As) (both (a_name ts) columns) ts (finds_keyword k.As)
      (sound_both 0 0 (Flat Names) (Flat Columns) d (a_name ts) columns ts (name_sound d ts) (columns_sound d))

  item_is : (h : ℕ) (t : (Name × List Name) × QueryTree) (from after : Rest)
      → Both (Before (Lexeme.Reserved k.As) IsHeading) IsQuery h t from after → IsItem source h (item_of source t) from after
  item_is h t from after b =
      let i = b.is in let j = b.front.is in let m = b.front.front.0 in let o = b.front.rest.0 in
      subst (λ n. IsItem source n (item_of source t) from after) (let e : b.j ≡ h = omega (arith, i, j, m, o) in e)
      (IsItem.item b.front.front.1
      (subst (λ us. Columns t.0.1 b.front.mid (Lexeme.Reserved k.As ∷ us)) b.rest.1 b.front.rest.1) b.rest.2)

  pub item_sound : (d : ℕ) (ts : Rest) → Sound 0 (IsItem source) (suc d) (an_item source d ts) ts
  item_sound d ts =
      sound_made 0 (Both (Before (Lexeme.Reserved k.As) IsHeading) IsQuery) (IsItem source) (suc d) (item_of source)
      (both (heading source ts) (item_query source d)) ts (λ h t after b. item_is h t ts after b)
      (sound_both 0 0 (Before (Lexeme.Reserved k.As) IsHeading) IsQuery (suc d) (heading source ts) (item_query source d) ts
      (heading_sound (suc d) ts) (item_query_sound d))

  items_sound : (d : ℕ) (ts : Rest) → Sound 0 (Withs source) (suc d) (items source d ts) ts
  items_sound d ts =
      sound_optional (Withs source) (suc d) [] (items_at source d) ts (after_keyword k.With ts) Withs.no_items
      (λ rest e. sound_behind 0 (Items source) (Withs source) (suc d) (items_at source d rest) ts rest
      (λ h is after x. subst (λ us. Withs source h is us after) (sym (at_keyword k.With ts rest e)) (Withs.items x))
      (sound_series 0 (λ place. IsItem source) (λ place. Items source) (suc d) (λ place. an_item source d) after_comma
      (Lexeme.Punctuation s.Comma) finds_comma (λ place from. item_sound d from) (λ place h x from after y. Items.last_item y)
      (λ place h i x xs from rest after y ys. Items.more_items y ys) (suc (length rest)) 0 rest))

  -- Statements

  abbrev AreClauses : Phrase (List ItemTree × (QueryTree × (TermTrees × (Option ℤ × Option ℤ))))
  AreClauses = Both (Withs source) (Both (Queries source) (Both (Orders source) AreLimits))

  clauses_sound : (d : ℕ) (ts : Rest) → Sound 0 AreClauses (suc d) (clauses source d ts) ts
  clauses_sound d ts =
      sound_both 0 0 (Withs source) (Both (Queries source) (Both (Orders source) AreLimits)) (suc d) (items source d ts)
      (λ ts. both ((outermost source d).query ts) (λ ts. both (order source (outermost source d) (suc d) ts) limit)) ts
      (items_sound d ts)
      (λ mid x e. sound_less (max 1 0) 0 (Both (Queries source) (Both (Orders source) AreLimits)) (suc d) mid x (omega arith)
      (sound_both 1 0 (Queries source) (Both (Orders source) AreLimits) (suc d) ((outermost source d).query mid)
      (λ ts. both (order source (outermost source d) (suc d) ts) limit) mid
      (λ x e. enclosed_within (Queries source) (suc d) mid x ((inner_sound (suc d)).query mid x e))
      (λ mid. sound_both 0 0 (Orders source) AreLimits (suc d) (order source (outermost source d) (suc d) mid) limit mid
      (order_sound source (outermost source d) (suc d) (inner_sound (suc d)) mid) (limit_sound (suc d))) x e))

  states_as : (h : ℕ) (t : List ItemTree × (QueryTree × (TermTrees × (Option ℤ × Option ℤ)))) (ts start after : Rest)
      (b : Bool) → Explains b ts start → AreClauses h t start after → Ends after
      → States source h (stated source b t) ts
  states_as h t ts start after b x c end =
      let i = c.is in let j = c.rest.is in let m = c.rest.rest.is in let o = c.rest.rest.rest.0 in
      subst (λ n. States source n (stated source b t) ts)
      (let e : max c.i (max c.rest.i c.rest.rest.i) ≡ h = omega (arith, i, j, m, o) in e)
      (States.states x c.front c.rest.front c.rest.rest.front c.rest.rest.rest.1 end)

  statement_sound : (d : ℕ) (ts : Rest) (tree : StatementTree) → statement source d ts ≡ Ok tree
      → (h : ℕ) × (h ≤ d) × States source h tree ts
  unfolding statement
  statement_sound d ts tree e =
      let a = bind_ok (clauses source d (explained ts).1) (λ x. kept_if (ends x.rest) (stated source (explained ts).0 x.tree)) tree e in
      let w = clauses_sound d (explained ts).1 a.0 a.1 in
      let b = kept (ends a.0.rest) (stated source (explained ts).0 a.0.tree) tree a.2 in
      let i = w.is in let j = w.within in (
        w.h,
        omega (arith, i, j),
        subst (λ tree. States source w.h tree ts) b.1
            (states_as w.h a.0.tree ts (explained ts).1 a.0.rest (explained ts).0 (explained_is ts) w.spelt (ends_is a.0.rest b.0)),
      )

  -- what an outcome says of the tokens
  says_by : (d : ℕ) (ts : Rest) (r : Outcome StatementTree) → statement source d ts ≡ r → SaysOfStatement source d ts r
  says_by d ts (Ok tree) e = statement_sound d ts tree e
  says_by d ts (Err Refusal.Syntax) e = λ h tree x. elim (cases_lt d h) [
    | inl l ↦ (let i = sym e ∙ (statement_reads source x d ∙ fits_out d h _ l) in absurd cc)
    | inr l ↦ (let i = sym e ∙ (statement_reads source x d ∙ fits_in d h _ l) in absurd cc)
  ]
  says_by d ts (Err Refusal.Limit) e = λ h tree x. elim (cases_lt d h) [
    | inl l ↦ l
    | inr l ↦ (let i = sym e ∙ (statement_reads source x d ∙ fits_in d h _ l) in absurd cc)
  ]

  pub says : (d : ℕ) (ts : Rest) → SaysOfStatement source d ts (statement source d ts)
  says d ts = says_by d ts (statement source d ts) refl
