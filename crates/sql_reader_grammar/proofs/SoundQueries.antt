-- What was read as a query is one.
use Rattle.std.proofs.Common.{◌≡◌, Bool, true, ℕ, zero, suc, ◌≤◌, max, List, [], ◌∷◌, length, Option, Some, None, Ok, Err, ltb, refl, sym, ap, ◌∙◌, arith, subst}
use mathlib.Core.Logic.{inl, inr}
use Rattle.std.proofs.lemmas.Bool.{cases_lt, cond-false, cond-true, le-ltb, lt-ltb}
use Rattle.sql_reader_tokens.specs.Lexeme.{Lexeme}
use Rattle.sql_reader_tokens.specs.declared.keywords.keyword.Keyword.TheVariants as k
use Rattle.sql_reader_tokens.specs.declared.sign.Sign.TheVariants as s
use Rattle.sql_reader_tokens.specs.declared.token.Quoting.{Quoting}
use Rattle.sql_reader_grammar.specs.phrases.Lists.{AfterComma, Listed, Many}
use Rattle.sql_reader_grammar.specs.phrases.Outcomes.{Read, Refusal, ◌>>=◌, needed, read, series}
use Rattle.sql_reader_grammar.specs.phrases.Steps.{Rest, after_close, after_comma, after_keyword, after_open, name}
use Rattle.sql_reader_grammar.proofs.lemmas.phrases.OutcomeLemmas.{bind_ok, ok_inj, some_inj}
use Rattle.sql_reader_grammar.proofs.lemmas.phrases.StepLemmas.{at_keyword, at_sign, needed_some}
use Rattle.sql_reader_syntax.specs.ExprTree.{CoreTree, DefinitionTrees, ExprTrees, FromTree, MaybeExpr, NameTree, OnTree, QueryTree, ResultTree, ResultTrees, SourceTree, WindowTree}
use Rattle.sql_reader_syntax.specs.Tree.{Name}
use Rattle.sql_reader_syntax.specs.declared.query.CompoundOperator.{CompoundOperator}
use Rattle.sql_reader_grammar.specs.Clauses.{Aliases, Compounds, Names, Quantifies, Titles, Wants, may_have}
use Rattle.sql_reader_grammar.specs.Fronts.{after_group_by, compound, quantifier}
use Rattle.sql_reader_grammar.specs.Queries.{Defines, DefinesAll, Expresses, ExpressesAll, Froms, Groups, Havings, IsResult, IsSource, Ons, Queries, Results, Selects, Wheres, Windows, nowhere}
use Rattle.sql_reader_grammar.specs.Reading.{Inner, a_name, a_source, absent_on, alias, both, closed, compounded, compounds, condition, core, counted, definition, definitions, definitions_of, from, groups, having, made, names, next_core, on, on_at, one, parts, query_by, result, results, results_of, selected, some, source_at, using_at, title, value, window, windows}
use Rattle.sql_reader_grammar.proofs.Sound.{Flat, alias_sound, finds_comma, finds_group, finds_keyword, name_sound}
use Rattle.sql_reader_grammar.proofs.SoundParts.{SoundInner, condition_sound, enclosed_within, having_sound, one_sound, some_sound, window_sound}
use Rattle.sql_reader_grammar.proofs.SoundSteps.{Before, Both, Phrase, Sound, Within, sound_behind, sound_both, sound_closed, sound_flat, sound_less, sound_made, sound_optional, sound_series}

quantifies : (ts : Rest) → Quantifies (quantifier ts).0 ts (quantifier ts).1
quantifies (Lexeme.Reserved k.Distinct ∷ ts) = Quantifies.distinct
quantifies (Lexeme.Reserved k.All ∷ ts) = Quantifies.all
quantifies _ = Quantifies.plain

title_found : (text : List ℕ) (ts : Rest) (x : Read NameTree) → title text ts ≡ Ok x
    → Titles text x.tree ts x.rest
title_found text (Lexeme.Reserved k.As ∷ ts) x e =
    let a = bind_ok (a_name ts) (λ x. Ok (read (NameTree.Alias x.tree) x.levels x.rest)) x e in
    let w = name_sound 0 ts a.0 a.1 in
    subst (λ (r : Read NameTree). Titles text r.tree (Lexeme.Reserved k.As ∷ ts) r.rest)
    (ok_inj (read (NameTree.Alias a.0.tree) a.0.levels a.0.rest) x a.2) (behind_as text a.0.tree ts a.0.rest w.spelt.1)
  where
    behind_as : (text : List ℕ) (n : Name) (ts after : Rest) → Names n ts after
        → Titles text (NameTree.Alias n) (Lexeme.Reserved k.As ∷ ts) after
    behind_as text n _ _ Names.name = Titles.as_alias
title_found text (Lexeme.Name q n ∷ ts) x e =
    subst (λ (r : Read NameTree). Titles text r.tree (Lexeme.Name q n ∷ ts) r.rest)
    (ok_inj (read (NameTree.Alias n) 0 ts) x e) Titles.alias
title_found text ts x e =
    subst (λ (r : Read NameTree). Titles text r.tree ts r.rest)
    (ok_inj (read (NameTree.SourceText text) 0 ts) x e) Titles.untitled

module _ (source : ℕ → ℕ → List ℕ) (inner : Inner) (d : ℕ) (inside : SoundInner source inner d) where
  -- GROUP BY and WINDOW

  abbrev pub AreGroups : Phrase (ExprTrees × MaybeExpr)
  AreGroups h t from after = Groups source h t.0 t.1 from after

  pub groups_sound : (ts : Rest) → Sound 0 AreGroups d (groups source inner d ts) ts
  groups_sound ts =
      sound_optional AreGroups d (ExprTrees.No_more, MaybeExpr.Absent)
      (λ rest. both (some source inner d rest) (having source inner d)) ts (after_group_by ts) Groups.no_groups
      (λ rest e. sound_behind (max 1 0) (Both (ExpressesAll source nowhere 0) (Havings source)) AreGroups d
      (both (some source inner d rest) (having source inner d)) ts rest
      (λ h t after b. subst (λ us. Groups source h t.0 t.1 us after) (sym (finds_group ts rest e))
      (subst (λ n. Groups source n t.0 t.1 (Lexeme.Reserved k.Group ∷ Lexeme.Reserved k.By ∷ rest) after) (sym b.is)
      (Groups.groups b.front b.rest)))
      (sound_both 1 0 (ExpressesAll source nowhere 0) (Havings source) d (some source inner d rest) (having source inner d) rest
      (some_sound source inner d inside rest) (having_sound source inner d inside)))

  abbrev pub AreDefinitions : ℕ → Phrase (List (Name × WindowTree))
  AreDefinitions place h ws from after = DefinesAll source h (definitions_of ws) from after

  abbrev pub IsDefinition : Phrase (Name × WindowTree)
  IsDefinition = Both (Before (Lexeme.Reserved k.As) (Flat Names)) (Windows source)

  pub definition_sound : (ts : Rest) → Sound 0 IsDefinition d (definition source inner d ts) ts
  definition_sound ts x e =
      sound_less (max 0 0) 0 IsDefinition d ts x (omega arith)
      (sound_both 0 0 (Before (Lexeme.Reserved k.As) (Flat Names)) (Windows source) d
      (closed (after_keyword k.As) (a_name ts)) (window source inner d) ts
      (sound_closed 0 (Flat Names) d (after_keyword k.As) (Lexeme.Reserved k.As) (a_name ts) ts (finds_keyword k.As)
      (name_sound d ts)) (window_sound source inner d inside) x e)

  with_windows : (h i : ℕ) (ws : DefinitionTrees) (from after : Rest) → h ≡ i → DefinesAll source h ws from after
      → DefinesAll source i ws from after
  with_windows h i ws from after e x = subst (λ n. DefinesAll source n ws from after) e x

  definition_is : (h : ℕ) (t : Name × WindowTree) (from after : Rest) → IsDefinition h t from after
      → (i : ℕ) × (h ≡ i) × (q : Quoting) × (rest : Rest)
      × (from ≡ Lexeme.Name q t.0 ∷ Lexeme.Reserved k.As ∷ rest) × Windows source i t.1 rest after
  definition_is h t from after b =
      let z = b.front.0 in let i = b.is in
      named (t.0) from b.mid after b.j t.1 b.front.1 b.rest h (let e : h ≡ b.j = omega (arith, z, i) in e)
    where
      named : (n : Name) (from mid after : Rest) (j : ℕ) (w : WindowTree)
          → Names n from (Lexeme.Reserved k.As ∷ mid) → Windows source j w mid after → (h : ℕ) → h ≡ j
          → (i : ℕ) × (h ≡ i) × (q : Quoting) × (rest : Rest)
          × (from ≡ Lexeme.Name q n ∷ Lexeme.Reserved k.As ∷ rest) × Windows source i w rest after
      named n _ mid after j w (Names.name {q = q}) y h e = (j, e, q, mid, refl, y)

  pub definitions_sound : (ts : Rest) → Sound 0 (DefinesAll source) d (definitions source inner d ts) ts
  definitions_sound ts =
      sound_made 0 (AreDefinitions 0) (DefinesAll source) d definitions_of
      (series (λ place. definition source inner d) after_comma (suc (length ts)) 0 ts) ts (λ h t after x. x)
      (sound_series 0 (λ place. IsDefinition) AreDefinitions d (λ place. definition source inner d) after_comma
      (Lexeme.Punctuation s.Comma) finds_comma (λ place from. definition_sound from)
      (λ place h x from after y.
      let r = definition_is h x from after y in
      subst (λ us. DefinesAll source h (definitions_of (x ∷ [])) us after) (sym r.4)
      (with_windows r.0 h _ _ after (sym r.1) (DefinesAll.last_window r.5)))
      (λ place h i x xs from rest after y ys.
      let r = definition_is h x from (Lexeme.Punctuation s.Comma ∷ rest) y in
      let e = r.1 in
      subst (λ us. DefinesAll source (max h i) (definitions_of (x ∷ xs)) us after) (sym r.4)
      (with_windows (max r.0 i) (max h i) _ _ after (omega (arith, e)) (DefinesAll.more_windows r.5 ys)))
      (suc (length ts)) 0 ts)

  pub windows_sound : (ts : Rest) → Sound 0 (Defines source) d (windows source inner d ts) ts
  windows_sound ts =
      sound_optional (Defines source) d DefinitionTrees.No_definition (definitions source inner d) ts
      (after_keyword k.Window ts) Defines.no_windows
      (λ rest e. sound_behind 0 (DefinesAll source) (Defines source) d (definitions source inner d rest) ts rest
      (λ h t after x. subst (λ us. Defines source h t us after) (sym (at_keyword k.Window ts rest e)) (Defines.windows x))
      (definitions_sound rest))

  -- Result columns

  value_sound : (ts : Rest) → Sound 0 (IsResult source) d (value source inner d ts) ts
  value_sound ts z e =
      let a = bind_ok (one source inner d ts)
      (λ x. title (source (length ts) (length x.rest)) x.rest
      >>= λ t. Ok (read (ResultTree.Value x.tree t.tree) x.levels t.rest)) z e in
      let b = bind_ok (title (source (length ts) (length a.0.rest)) a.0.rest)
      (λ t. Ok (read (ResultTree.Value a.0.tree t.tree) a.0.levels t.rest)) z a.2 in
      let w = one_sound source inner d inside ts a.0 a.1 in
      subst (Within 0 (IsResult source) d ts) (ok_inj (read (ResultTree.Value a.0.tree b.0.tree) a.0.levels b.0.rest) z b.2)
      (record {
        h = w.h;
        is = w.is;
        least = omega arith;
        within = w.within;
        spelt = IsResult.value w.spelt (title_found (source (length ts) (length a.0.rest)) a.0.rest b.0 b.1);
      })

  pub result_sound : (ts : Rest) → Sound 0 (IsResult source) d (result source inner d ts) ts
  result_sound (Lexeme.Punctuation s.Star ∷ ts) x e = sound_flat (IsResult source) d _ ts ResultTree.All x e IsResult.all
  result_sound (Lexeme.Name q n ∷ Lexeme.Punctuation s.Dot ∷ Lexeme.Punctuation s.Star ∷ ts) x e =
      sound_flat (IsResult source) d _ ts (ResultTree.AllOf n) x e IsResult.all_of
  result_sound ts x e = value_sound ts x e

  abbrev pub AreResults : ℕ → Phrase (List ResultTree)
  AreResults place h rs from after = Results source h (results_of rs) from after

  pub results_sound : (ts : Rest) → Sound 0 (Results source) d (results source inner d ts) ts
  unfolding results
  results_sound ts =
      sound_made 0 (AreResults 0) (Results source) d results_of
      (series (λ place. result source inner d) after_comma (suc (length ts)) 0 ts) ts (λ h t after x. x)
      (sound_series 0 (λ place. IsResult source) AreResults d (λ place. result source inner d) after_comma
      (Lexeme.Punctuation s.Comma) finds_comma (λ place from. result_sound from)
      (λ place h x from after y. Results.last_result y)
      (λ place h i x xs from rest after y ys. Results.more_results y ys) (suc (length ts)) 0 ts)

  -- SELECTs, where their FROM is

  abbrev pub SoundFrom : Type 0
  SoundFrom = (ts : Rest) → Sound 0 (Froms source) d (from source inner d ts) ts

  abbrev pub AreParts : Phrase (ResultTrees × (FromTree × (MaybeExpr × ((ExprTrees × MaybeExpr) × DefinitionTrees))))
  AreParts = Both (Results source) (Both (Froms source) (Both (Wheres source) (Both AreGroups (Defines source))))

  parts_sound : SoundFrom → (ts : Rest) → Sound 0 AreParts d (parts source inner d ts) ts
  parts_sound sf ts =
      sound_both 0 0 (Results source) (Both (Froms source) (Both (Wheres source) (Both AreGroups (Defines source)))) d
      (results source inner d ts) (λ ts. both (from source inner d ts) (λ ts. both (condition source inner d ts) (λ ts. both (groups source inner d ts) (windows source inner d)))) ts
      (results_sound ts)
      (λ mid. sound_both 0 0 (Froms source) (Both (Wheres source) (Both AreGroups (Defines source))) d (from source inner d mid)
      (λ ts. both (condition source inner d ts) (λ ts. both (groups source inner d ts) (windows source inner d))) mid (sf mid)
      (λ mid. sound_both 0 0 (Wheres source) (Both AreGroups (Defines source)) d (condition source inner d mid)
      (λ ts. both (groups source inner d ts) (windows source inner d)) mid (condition_sound source inner d inside mid)
      (λ mid. sound_both 0 0 AreGroups (Defines source) d (groups source inner d mid) (windows source inner d) mid
      (groups_sound mid) windows_sound)))

  -- what was read as a SELECT is one, of so many levels
  pub record SoundSelect (from : Rest) (x : Read CoreTree) : Type 0 where
    pub spelt : Selects source x.levels x.tree from x.rest
    pub within : x.levels ≤ d

  select_is : (h : ℕ) (distinct : Bool)
      (t : ResultTrees × (FromTree × (MaybeExpr × ((ExprTrees × MaybeExpr) × DefinitionTrees)))) (ts items after : Rest)
      → Quantifies distinct ts items → AreParts h t items after
      → Selects source (suc h) (selected source inner d distinct t) (Lexeme.Reserved k.Select ∷ ts) after
  select_is h distinct t ts items after q b =
      let i = b.is in let j = b.rest.is in let l = b.rest.rest.is in let m = b.rest.rest.rest.is in
      subst (λ n. Selects source (suc n) (selected source inner d distinct t) (Lexeme.Reserved k.Select ∷ ts) after)
      (let e : max b.i (max b.rest.i (max b.rest.rest.i (max b.rest.rest.rest.i b.rest.rest.rest.j))) ≡ h = omega (arith, i, j, l, m) in e)
      (Selects.select q b.front b.rest.front b.rest.rest.front b.rest.rest.rest.front b.rest.rest.rest.rest)

  pub core_sound : SoundFrom → (ts : Rest) (x : Read CoreTree) → core source inner d ts ≡ Ok x → SoundSelect ts x
  unfolding core
  core_sound sf ts x e =
      let a = bind_ok (needed (after_keyword k.Select ts))
      (λ rest. counted source inner d (made (selected source inner d (quantifier rest).0) (parts source inner d (quantifier rest).1))) x e in
      counted_core a.0 (at_keyword k.Select ts a.0 (needed_some (after_keyword k.Select ts) a.0 a.1)) a.2
    where
      counted_core : (rest : Rest) → ts ≡ Lexeme.Reserved k.Select ∷ rest
          → counted source inner d (made (selected source inner d (quantifier rest).0) (parts source inner d (quantifier rest).1)) ≡ Ok x
          → SoundSelect ts x
      counted_core rest is c = elim (cases_lt 0 d) [
        | inl l ↦
            let r = made (selected source inner d (quantifier rest).0) (parts source inner d (quantifier rest).1) in
            let b = bind_ok r (λ x. Ok (read x.tree (max 1 x.levels) x.rest)) x
            (sym (cond-true (ltb 0 d) (r >>= λ x. Ok (read x.tree (max 1 x.levels) x.rest)) (Err Refusal.Limit) (lt-ltb 0 d l)) ∙ c) in
            let p = bind_ok (parts source inner d (quantifier rest).1)
            (λ x. Ok (read (selected source inner d (quantifier rest).0 x.tree) x.levels x.rest)) b.0 b.1 in
            let w = parts_sound sf (quantifier rest).1 p.0 p.1 in
            subst (SoundSelect ts)
            (ap (λ (r : Read CoreTree). read r.tree (max 1 r.levels) r.rest)
            (ok_inj (read (selected source inner d (quantifier rest).0 p.0.tree) p.0.levels p.0.rest) b.0 p.2)
            ∙ ok_inj (read b.0.tree (max 1 b.0.levels) b.0.rest) x b.2)
            (record {
              spelt = subst (λ us. Selects source (max 1 p.0.levels) (selected source inner d (quantifier rest).0 p.0.tree) us p.0.rest)
                  (sym is)
                  (subst (λ n. Selects source n (selected source inner d (quantifier rest).0 p.0.tree) (Lexeme.Reserved k.Select ∷ rest) p.0.rest)
                  (sym w.is)
                  (select_is w.h (quantifier rest).0 p.0.tree rest (quantifier rest).1 p.0.rest (quantifies rest) w.spelt));
              within = let i = w.within in omega (arith, i, l);
            })
        | inr l ↦
            absurd (let i = cond-false (ltb 0 d)
            (made (selected source inner d (quantifier rest).0) (parts source inner d (quantifier rest).1) >>= λ x. Ok (read x.tree (max 1 x.levels) x.rest))
            (Err Refusal.Limit) (le-ltb 0 d l) in cc)
      ]

  -- Queries

  compound_is : (ts : Rest) (o : CompoundOperator × Rest) → compound ts ≡ Some o → Compounds o.0 ts o.1
  compound_is (Lexeme.Reserved k.Union ∷ Lexeme.Reserved k.All ∷ ts) o e =
      subst (λ (o : CompoundOperator × Rest). Compounds o.0 (Lexeme.Reserved k.Union ∷ Lexeme.Reserved k.All ∷ ts) o.1)
      (some_inj _ o e) Compounds.union_all
  compound_is (Lexeme.Reserved k.Union ∷ ts) o e =
      subst (λ (o : CompoundOperator × Rest). Compounds o.0 (Lexeme.Reserved k.Union ∷ ts) o.1) (some_inj _ o e) Compounds.union
  compound_is (Lexeme.Reserved k.Intersect ∷ ts) o e =
      subst (λ (o : CompoundOperator × Rest). Compounds o.0 (Lexeme.Reserved k.Intersect ∷ ts) o.1) (some_inj _ o e)
      Compounds.intersect
  compound_is (Lexeme.Reserved k.Except ∷ ts) o e =
      subst (λ (o : CompoundOperator × Rest). Compounds o.0 (Lexeme.Reserved k.Except ∷ ts) o.1) (some_inj _ o e)
      Compounds.except
  compound_is _ o e = absurd cc

  pub record SoundQuery (from : Rest) (x : Read QueryTree) : Type 0 where
    pub spelt : Queries source x.levels x.tree from x.rest
    pub within : x.levels ≤ d

  compounded_sound : (ts : Rest) (x y : Read QueryTree) (o : CompoundOperator × Rest) → SoundQuery ts x
      → compound x.rest ≡ Some o → compounded source inner d x o ≡ Ok y → SoundQuery ts y
  compounded_sound ts x y o s is e = elim (cases_lt x.levels d) [
    | inl l ↦
        let a = bind_ok (inner.core o.1)
        (λ y. Ok (read (QueryTree.Compound x.tree o.0 y.tree) (max (suc x.levels) y.levels) y.rest)) y
        (sym (cond-true (ltb x.levels d)
        (inner.core o.1 >>= λ y. Ok (read (QueryTree.Compound x.tree o.0 y.tree) (max (suc x.levels) y.levels) y.rest))
        (Err Refusal.Limit) (lt-ltb x.levels d l)) ∙ e) in
        let w = inside.core o.1 a.0 a.1 in
        let i = w.is in let j = w.within in
        subst (SoundQuery ts)
        (ok_inj (read (QueryTree.Compound x.tree o.0 a.0.tree) (max (suc x.levels) a.0.levels) a.0.rest) y a.2) (record {
          spelt = subst (λ n. Queries source n (QueryTree.Compound x.tree o.0 a.0.tree) ts a.0.rest)
              (let g : suc (max x.levels w.h) ≡ max (suc x.levels) a.0.levels = omega (arith, i) in g)
              (Queries.compound s.spelt (compound_is x.rest o is) w.spelt);
          within = omega (arith, l, i, j);
        })
    | inr l ↦
        absurd (let i = cond-false (ltb x.levels d)
        (inner.core o.1 >>= λ y. Ok (read (QueryTree.Compound x.tree o.0 y.tree) (max (suc x.levels) y.levels) y.rest))
        (Err Refusal.Limit) (le-ltb x.levels d l) in cc)
  ]

  compounds_sound : (n : ℕ) (ts : Rest) (x y : Read QueryTree) (c : Option (CompoundOperator × Rest)) → SoundQuery ts x
      → compound x.rest ≡ c → compounds source inner d n x ≡ Ok y → SoundQuery ts y
  unfolding compounds
  compounds_sound zero ts x y None s is e =
      subst (SoundQuery ts) (ok_inj x y (sym (ap (next_core source inner d (λ y. Err Refusal.Limit) x) is) ∙ e)) s
  compounds_sound zero ts x y (Some o) s is e =
      let a = bind_ok (compounded source inner d x o) (λ y. Err Refusal.Limit) y
      (sym (ap (next_core source inner d (λ y. Err Refusal.Limit) x) is) ∙ e) in
      let w = a.2 in absurd cc
  compounds_sound (suc n) ts x y None s is e =
      subst (SoundQuery ts) (ok_inj x y (sym (ap (next_core source inner d (compounds source inner d n) x) is) ∙ e)) s
  compounds_sound (suc n) ts x y (Some o) s is e =
      let a = bind_ok (compounded source inner d x o) (compounds source inner d n) y
      (sym (ap (next_core source inner d (compounds source inner d n) x) is) ∙ e) in
      compounds_sound n ts a.0 y (compound a.0.rest) (compounded_sound ts x a.0 o s is a.1) refl a.2

  pub query_sound : SoundFrom → (ts : Rest) (x : Read QueryTree) → query_by source inner d ts ≡ Ok x → SoundQuery ts x
  unfolding query_by
  query_sound sf ts x e =
      let a = bind_ok (made (λ c. QueryTree.Core c) (core source inner d ts)) (compounds source inner d d) x e in
      let b = bind_ok (core source inner d ts) (λ x. Ok (read (QueryTree.Core x.tree) x.levels x.rest)) a.0 a.1 in
      let w = core_sound sf ts b.0 b.1 in
      compounds_sound d ts a.0 x (compound a.0.rest)
      (subst (SoundQuery ts) (ok_inj (read (QueryTree.Core b.0.tree) b.0.levels b.0.rest) a.0 b.2)
      (record { spelt = Queries.core w.spelt; within = w.within })) refl a.2

  -- Sources

  pub names_sound : (ts : Rest) → Sound 0 (λ h ns from after. (h ≡ 0) × Listed Names ns from after) d (names ts) ts
  names_sound ts x e =
      let w = sound_series 0 (λ place. Flat Names) (λ place h ns from after. (h ≡ 0) × Listed Names ns from after) d
      (λ place. a_name) after_comma (Lexeme.Punctuation s.Comma) finds_comma (λ place from. name_sound d from)
      (λ place h x from after y. (y.0, Listed.listed y.1 Many.none))
      (λ place h i x xs from rest after y ys. (let a = y.0 in let b = ys.0 in omega (arith, a, b), further x xs from rest after y.1 ys.1))
      (suc (length ts)) 0 ts x e in w
    where
      further : (n : Name) (ns : List Name) (from rest after : Rest) → Names n from (Lexeme.Punctuation s.Comma ∷ rest)
          → Listed Names ns rest after → Listed Names (n ∷ ns) from after
      further n _ from rest after y (Listed.listed x xs) = Listed.listed y (Many.more (AfterComma.comma x) xs)

  source_at_sound : (ts : Rest) (o : Option Rest) → after_open ts ≡ o → Sound 0 (IsSource source) d (source_at source inner d ts o) ts
  source_at_sound ts None is =
      sound_made 0 (Both (Flat Names) (Flat Aliases)) (IsSource source) d
      (λ (r : Name × Option Name). SourceTree.Named r.0 r.1) (both (a_name ts) alias) ts
      (λ h t after b.
      let i = b.is in let j = b.front.0 in let l = b.rest.0 in
      subst (λ n. IsSource source n (SourceTree.Named t.0 t.1) ts after) (let g : 0 ≡ h = omega (arith, i, j, l) in g)
      (IsSource.table b.front.1 b.rest.1))
      (sound_both 0 0 (Flat Names) (Flat Aliases) d (a_name ts) alias ts (name_sound d ts) (alias_sound d))
  source_at_sound ts (Some rest) is =
      sound_behind (max 1 0) (λ h t from after. IsSource source h t (Lexeme.Punctuation s.Open ∷ from) after) (IsSource source) d
      (made (λ (r : QueryTree × Option Name). SourceTree.Derived r.0 r.1) (both (closed after_close (inner.query rest)) alias)) ts rest
      (λ h t after x. subst (λ us. IsSource source h t us after) (sym (at_sign s.Open ts rest is)) x)
      (sound_made (max 1 0) (Both (Before (Lexeme.Punctuation s.Close) (Queries source)) (Flat Aliases))
      (λ h t from after. IsSource source h t (Lexeme.Punctuation s.Open ∷ from) after) d
      (λ (r : QueryTree × Option Name). SourceTree.Derived r.0 r.1) (both (closed after_close (inner.query rest)) alias) rest
      (λ h t after b.
      let i = b.is in let l = b.rest.0 in
      subst (λ n. IsSource source n (SourceTree.Derived t.0 t.1) (Lexeme.Punctuation s.Open ∷ rest) after)
      (let g : b.i ≡ h = omega (arith, i, l) in g) (IsSource.derived b.front b.rest.1))
      (sound_both 1 0 (Before (Lexeme.Punctuation s.Close) (Queries source)) (Flat Aliases) d
      (closed after_close (inner.query rest)) alias rest
      (sound_closed 1 (Queries source) d after_close (Lexeme.Punctuation s.Close) (inner.query rest) rest
      (λ us vs h. at_sign s.Close us vs h) (λ x e. enclosed_within (Queries source) d rest x (inside.query rest x e)))
      (alias_sound d)))

  pub source_sound : (ts : Rest) → Sound 0 (IsSource source) d (a_source source inner d ts) ts
  source_sound ts = source_at_sound ts (after_open ts) refl

  absent_sound : (wants : Wants) (ts : Rest) → Sound 0 (Ons source wants) d (absent_on source inner d wants ts) ts
  absent_sound Wants.Never ts x e = sound_flat (Ons source Wants.Never) d ts ts OnTree.Always x e (Ons.always refl)
  absent_sound Wants.Maybe ts x e = sound_flat (Ons source Wants.Maybe) d ts ts OnTree.Always x e (Ons.always refl)
  absent_sound Wants.Always ts x e = absurd cc

  using_sound : (wants : Wants) (ts : Rest) (o : Option Rest) → may_have wants ≡ true → after_keyword k.Using ts ≡ o
      → Sound 0 (Ons source wants) d (using_at source inner d wants ts o) ts
  using_sound wants ts None have is x e = absent_sound wants ts x e
  using_sound wants ts (Some rest) have is x e =
      let r = needed (after_open rest) >>= λ rest. closed after_close (names rest) in
      let a = bind_ok r (λ x. Ok (read (OnTree.Using x.tree) x.levels x.rest)) x e in
      let b = bind_ok (needed (after_open rest)) (λ rest. closed after_close (names rest)) a.0 a.1 in
      let w = sound_closed 0 (λ h ns from after. (h ≡ 0) × Listed Names ns from after) d after_close
      (Lexeme.Punctuation s.Close) (names b.0) b.0 (λ us vs h. at_sign s.Close us vs h) (names_sound b.0) a.0 b.2 in
      let z = w.spelt.0 in
      subst (Within 0 (Ons source wants) d ts) (ok_inj (read (OnTree.Using a.0.tree) a.0.levels a.0.rest) x a.2) (record {
        h = w.h;
        is = w.is;
        least = omega arith;
        within = w.within;
        spelt = subst (λ us. Ons source wants w.h (OnTree.Using a.0.tree) us a.0.rest)
            (sym (at_keyword k.Using ts rest is
            ∙ ap (λ us. Lexeme.Reserved k.Using ∷ us) (at_sign s.Open rest b.0 (needed_some (after_open rest) b.0 b.1))))
            (subst (λ n. Ons source wants n (OnTree.Using a.0.tree) (Lexeme.Reserved k.Using ∷ Lexeme.Punctuation s.Open ∷ b.0) a.0.rest)
            (sym z) (Ons.using have w.spelt.1));
      })

  on_at_sound : (wants : Wants) (ts : Rest) (o : Option Rest) → may_have wants ≡ true → after_keyword k.On ts ≡ o
      → Sound 0 (Ons source wants) d (on_at source inner d wants ts o) ts
  on_at_sound wants ts None have is x e = using_sound wants ts (after_keyword k.Using ts) have refl x e
  on_at_sound wants ts (Some rest) have is x e =
      sound_behind 1 (λ h t us after. Ons source wants h t (Lexeme.Reserved k.On ∷ us) after) (Ons source wants) d
      (made (λ e. OnTree.On e) (one source inner d rest)) ts rest
      (λ h t after y. subst (λ us. Ons source wants h t us after) (sym (at_keyword k.On ts rest is)) y)
      (sound_made 1 (Expresses source 1) (λ h t us after. Ons source wants h t (Lexeme.Reserved k.On ∷ us) after) d
      (λ e. OnTree.On e) (one source inner d rest) rest (λ h t after y. Ons.on have y) (one_sound source inner d inside rest)) x e

  pub on_sound : (wants : Wants) (ts : Rest) → Sound 0 (Ons source wants) d (on source inner d wants ts) ts
  on_sound Wants.Never ts x e = absent_sound Wants.Never ts x e
  on_sound Wants.Maybe ts x e = on_at_sound Wants.Maybe ts (after_keyword k.On ts) refl refl x e
  on_sound Wants.Always ts x e = on_at_sound Wants.Always ts (after_keyword k.On ts) refl refl x e
