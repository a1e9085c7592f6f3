-- What was read is spelt: each phrase of a statement but expressions with operators, where its inner phrases are.
use Rattle.std.proofs.Common.{◌≡◌, Bool, true, false, ℕ, ◌∷◌, Option, Some, None, Ok, refl, sym, ap, ◌∙◌, arith, subst}
use Rattle.sql_reader_tokens.specs.Lexeme.{Lexeme}
use Rattle.std.specs.Prelude.{not}
use Rattle.sql_reader_tokens.specs.declared.keywords.keyword.Keyword.{Keyword}
use Rattle.sql_reader_tokens.specs.declared.keywords.keyword.Keyword.TheVariants as k
use Rattle.sql_reader_tokens.specs.declared.sign.Sign.TheVariants as s
use Rattle.sql_reader_grammar.specs.phrases.Outcomes.{Outcome, Read, needed, read}
use Rattle.sql_reader_grammar.specs.phrases.Steps.{Rest, after_close, after_comma, after_keyword, name}
use Rattle.sql_reader_grammar.proofs.lemmas.phrases.OutcomeLemmas.{bind_ok, ok_inj, some_inj}
use Rattle.sql_reader_grammar.proofs.lemmas.phrases.StepLemmas.{at_keyword, at_sign, names}
use Rattle.sql_reader_syntax.specs.ExprTree.{
  BehindTree,
  CoreTree,
  DefinitionTrees,
  ExprTree,
  ExprTrees,
  FromTree,
  MaybeExpr,
  NameTree,
  OnTree,
  OverTree,
  QueryTree,
  ResultTree,
  ResultTrees,
  SourceTree,
  TermTrees,
  WindowTree,
}
use Rattle.sql_reader_syntax.specs.Tree.{Name}
use Rattle.sql_reader_syntax.specs.declared.query.Edge.{Edge}
use Rattle.sql_reader_syntax.specs.declared.query.Edge.TheVariants as v
use Rattle.sql_reader_syntax.specs.declared.query.FrameUnit.{FrameUnit}
use Rattle.sql_reader_grammar.specs.Clauses.{Aliases, Directs, Edges, Excludes, Frames, Names, PlacesNulls, Spans, Turns, Units}
use Rattle.sql_reader_grammar.specs.Fronts.{after_group_by, after_order_by, after_partition_by, exclusion, nulls, turn, unit_at}
use Rattle.sql_reader_grammar.specs.Queries.{
  Expresses,
  ExpressesAll,
  ExpressesItem,
  Filters,
  Groups,
  Havings,
  Orders,
  Overs,
  Partitions,
  Queries,
  Selects,
  StandsBehind,
  Terms,
  Wheres,
  Windows,
  nowhere,
}
use Rattle.sql_reader_grammar.specs.Reading.{
  Inner,
  a_name,
  alias,
  both,
  closed,
  condition,
  direction,
  edge,
  edges,
  edges_at,
  filter,
  filter_at,
  flat,
  frame,
  frame_at,
  framed,
  having,
  made,
  one,
  optional,
  order,
  over,
  over_at,
  partition,
  present,
  some,
  term,
  terms,
  terms_of,
  title,
  window,
  window_at,
  windowed,
}
use Rattle.sql_reader_grammar.proofs.SoundSteps.{Before, Both, Finds, Phrase, Sound, Within, sound_behind, sound_both, sound_closed, sound_flat, sound_made}

-- Steps

pub finds_keyword : (word : Keyword) → Finds (after_keyword word) (Lexeme.Reserved word)
finds_keyword word ts us h = at_keyword word ts us h

pub finds_close : Finds after_close (Lexeme.Punctuation s.Close)
finds_close ts us h = at_sign s.Close ts us h

pub finds_comma : Finds after_comma (Lexeme.Punctuation s.Comma)
finds_comma ts us h = at_sign s.Comma ts us h

pub finds_order : (ts us : Rest) → after_order_by ts ≡ Some us → ts ≡ Lexeme.Reserved k.Order ∷ Lexeme.Reserved k.By ∷ us
finds_order (Lexeme.Reserved k.Order ∷ Lexeme.Reserved k.By ∷ ts) us h = cc
finds_order _ us h = absurd cc

pub finds_partition : (ts us : Rest) → after_partition_by ts ≡ Some us
    → ts ≡ Lexeme.Reserved k.Partition ∷ Lexeme.Reserved k.By ∷ us
finds_partition (Lexeme.Reserved k.Partition ∷ Lexeme.Reserved k.By ∷ ts) us h = cc
finds_partition _ us h = absurd cc

pub finds_group : (ts us : Rest) → after_group_by ts ≡ Some us → ts ≡ Lexeme.Reserved k.Group ∷ Lexeme.Reserved k.By ∷ us
finds_group (Lexeme.Reserved k.Group ∷ Lexeme.Reserved k.By ∷ ts) us h = cc
finds_group _ us h = absurd cc

-- Phrases without expressions

-- one that counts no levels
abbrev pub Flat : {A : Type 0} → (A → Rest → Rest → Type 0) → Phrase A
Flat X h t from after = (h ≡ 0) × X t from after

pub materialized_sound : {A : Type 0} (X : A → Rest → Rest → Type 0) (d : ℕ) (from : Rest) (t : A) (after : Rest) (x : Read A)
    → (let r : Outcome (Read A) = Ok (read t 0 after) in r) ≡ Ok x → X t from after → Within 0 (Flat X) d from x
materialized_sound X d from t after x e s = sound_flat (Flat X) d from after t x e (refl, s)

pub name_sound : (d : ℕ) (ts : Rest) → Sound 0 (Flat Names) d (a_name ts) ts
name_sound d ts x e =
    let a = bind_ok (needed (name ts)) flat x e in
    let n = names ts a.0 a.1 in
    materialized_sound Names d ts a.0.0 a.0.1 x a.2
    (subst (λ us. Names a.0.0 us a.0.1) (sym n.1) (Names.name {q = n.0}))

pub alias_sound : (d : ℕ) (ts : Rest) → Sound 0 (Flat Aliases) d (alias ts) ts
alias_sound d (Lexeme.Reserved k.As ∷ ts) x e =
    let a = bind_ok (a_name ts) (λ x. Ok (read (Some x.tree) x.levels x.rest)) x e in
    let b = bind_ok (needed (name ts)) flat a.0 a.1 in
    let n = names ts b.0 b.1 in
    subst (Within 0 (Flat Aliases) d (Lexeme.Reserved k.As ∷ ts))
    (ap (λ (r : Read Name). read (Some r.tree) r.levels r.rest) (ok_inj (read b.0.0 0 b.0.1) a.0 b.2)
    ∙ ok_inj (read (Some a.0.tree) a.0.levels a.0.rest) x a.2)
    (record {
      h = 0;
      is = refl;
      least = omega arith;
      within = omega arith;
      spelt = (
        refl,
        subst (λ us. Aliases (Some b.0.0) (Lexeme.Reserved k.As ∷ us) b.0.1) (sym n.1) (Aliases.as_alias {q = n.0}),
      );
    })
alias_sound d (Lexeme.Name q n ∷ ts) x e = materialized_sound Aliases d _ (Some n) ts x e Aliases.alias
alias_sound d ts x e = materialized_sound Aliases d ts None ts x e Aliases.no_alias

turn_sound : (ts : Rest) → Turns (turn ts).0 ts (turn ts).1
turn_sound (Lexeme.Reserved k.Asc ∷ ts) = Turns.ascending
turn_sound (Lexeme.Reserved k.Desc ∷ ts) = Turns.descending
turn_sound _ = Turns.plain

nulls_plain : (d : Bool) (ts : Rest) → PlacesNulls d (not d) ts ts
nulls_plain true ts = PlacesNulls.descending
nulls_plain false ts = PlacesNulls.ascending

nulls_sound : (d : Bool) (ts : Rest) → PlacesNulls d (nulls d ts).0 ts (nulls d ts).1
nulls_sound d (Lexeme.Reserved k.Nulls ∷ Lexeme.Reserved k.First ∷ ts) = PlacesNulls.first
nulls_sound d (Lexeme.Reserved k.Nulls ∷ Lexeme.Reserved k.Last ∷ ts) = PlacesNulls.last
nulls_sound d ts = nulls_plain d ts

pub direction_sound : (d : ℕ) (ts : Rest) → Sound 0 (Flat Directs) d (direction ts) ts
direction_sound d ts x e =
    materialized_sound Directs d ts _ (nulls (turn ts).0 (turn ts).1).1 x e
    (Directs.directs (turn_sound ts) (nulls_sound (turn ts).0 (turn ts).1))

-- Frames

edge_sound : (d : ℕ) (ts : Rest) → Sound 0 (Flat Edges) d (edge ts) ts
edge_sound d (Lexeme.Reserved k.Unbounded ∷ Lexeme.Reserved k.Preceding ∷ ts) x e =
    materialized_sound Edges d _ _ ts x e Edges.unbounded_preceding
edge_sound d (Lexeme.Number n ∷ Lexeme.Reserved k.Preceding ∷ ts) x e = materialized_sound Edges d _ _ ts x e Edges.preceding
edge_sound d (Lexeme.Reserved k.Current ∷ Lexeme.Reserved k.Row ∷ ts) x e = materialized_sound Edges d _ _ ts x e Edges.current_row
edge_sound d (Lexeme.Number n ∷ Lexeme.Reserved k.Following ∷ ts) x e = materialized_sound Edges d _ _ ts x e Edges.following
edge_sound d (Lexeme.Reserved k.Unbounded ∷ Lexeme.Reserved k.Following ∷ ts) x e =
    materialized_sound Edges d _ _ ts x e Edges.unbounded_following
edge_sound d _ x e = absurd cc

abbrev pub AreEdges : Phrase (Edge × Edge)
AreEdges h t from after = (h ≡ 0) × Spans t.0 t.1 from after

edges_at_sound : (d : ℕ) (ts : Rest) (o : Option Rest) → after_keyword k.Between ts ≡ o
    → Sound 0 AreEdges d (edges_at ts o) ts
edges_at_sound d ts None is x e =
    sound_made 0 (Flat Edges) AreEdges d (λ start. (start, v.CurrentRow)) (edge ts) ts
    (λ h t after x. (x.0, Spans.alone x.1)) (edge_sound d ts) x e
edges_at_sound d ts (Some rest) is x e =
    let w = sound_both 0 0 (Before (Lexeme.Reserved k.And) (Flat Edges)) (Flat Edges) d
    (closed (after_keyword k.And) (edge rest)) edge rest
    (sound_closed 0 (Flat Edges) d (after_keyword k.And) (Lexeme.Reserved k.And) (edge rest) rest (finds_keyword k.And)
    (edge_sound d rest)) (edge_sound d) x e in
    let b = w.spelt in
    let i = b.is in let j = b.front.0 in let l = b.rest.0 in
    record {
      h = w.h;
      is = w.is;
      least = w.least;
      within = w.within;
      spelt = (
        omega (arith, i, j, l),
        subst (λ us. Spans x.tree.0 x.tree.1 us x.rest) (sym (at_keyword k.Between ts rest is))
            (Spans.between b.front.1 b.rest.1),
      );
    }

exclusion_sound : (ts : Rest) → Excludes (exclusion ts).0 ts (exclusion ts).1
exclusion_sound (Lexeme.Reserved k.Exclude ∷ Lexeme.Reserved k.No ∷ Lexeme.Reserved k.Others ∷ ts) = Excludes.no_others
exclusion_sound (Lexeme.Reserved k.Exclude ∷ Lexeme.Reserved k.Current ∷ Lexeme.Reserved k.Row ∷ ts) = Excludes.current_row
exclusion_sound (Lexeme.Reserved k.Exclude ∷ Lexeme.Reserved k.Group ∷ ts) = Excludes.group
exclusion_sound (Lexeme.Reserved k.Exclude ∷ Lexeme.Reserved k.Ties ∷ ts) = Excludes.ties
exclusion_sound _ = Excludes.nothing

unit_sound : (ts : Rest) (r : FrameUnit × Rest) → unit_at ts ≡ Some r → Units r.0 ts r.1
unit_sound (Lexeme.Reserved k.Rows ∷ ts) r e =
    subst (λ (r : FrameUnit × Rest). Units r.0 (Lexeme.Reserved k.Rows ∷ ts) r.1) (some_inj _ r e) Units.rows
unit_sound (Lexeme.Reserved k.Range ∷ ts) r e =
    subst (λ (r : FrameUnit × Rest). Units r.0 (Lexeme.Reserved k.Range ∷ ts) r.1) (some_inj _ r e) Units.range
unit_sound (Lexeme.Reserved k.Groups ∷ ts) r e =
    subst (λ (r : FrameUnit × Rest). Units r.0 (Lexeme.Reserved k.Groups ∷ ts) r.1) (some_inj _ r e) Units.groups
unit_sound _ r e = absurd cc

frame_at_sound : (d : ℕ) (ts : Rest) (o : Option (FrameUnit × Rest)) → unit_at ts ≡ o
    → Sound 0 (Flat Frames) d (frame_at ts o) ts
frame_at_sound d ts None is x e = materialized_sound Frames d ts None ts x e Frames.no_frame
frame_at_sound d ts (Some r) is x e =
    sound_behind 0 (λ h t from after. (h ≡ 0) × ((u : Rest) → Units r.0 u from → Frames t u after)) (Flat Frames) d
    (made (framed r.0) (both (edges r.1) (λ rest. flat (exclusion rest)))) ts r.1
    (λ h t after p. (p.0, p.1 ts (unit_sound ts r is)))
    (sound_made 0 (Both AreEdges (Flat Excludes)) (λ h t from after. (h ≡ 0) × ((u : Rest) → Units r.0 u from → Frames t u after))
    d (framed r.0) (both (edges r.1) (λ rest. flat (exclusion rest))) r.1
    (λ h t after b. (
      (let i = b.is in let j = b.front.0 in let l = b.rest.0 in omega (arith, i, j, l)),
      λ u w. Frames.frame w b.front.1 b.rest.1,
    ))
    (sound_both 0 0 AreEdges (Flat Excludes) d (edges r.1) (λ rest. flat (exclusion rest)) r.1
    (edges_at_sound d r.1 (after_keyword k.Between r.1) refl)
    (λ mid x e. materialized_sound Excludes d mid (exclusion mid).0 (exclusion mid).1 x e (exclusion_sound mid)))) x e

pub frame_sound : (d : ℕ) (ts : Rest) → Sound 0 (Flat Frames) d (frame ts) ts
frame_sound d ts = frame_at_sound d ts (unit_at ts) refl
