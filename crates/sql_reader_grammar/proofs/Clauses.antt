-- Phrases without expressions are read.
use Rattle.std.proofs.Common.{◌≡◌, Bool, true, false, ℕ, zero, suc, ◌<◌, ◌≤◌, max, ℤ, List, ◌∷◌, length, Option, Some, None, Ok, refl, ap, ◌∙◌, arith}
use Rattle.std.specs.Prelude.{not}
use Rattle.sql_reader_tokens.specs.Lexeme.{Lexeme}
use Rattle.sql_reader_tokens.specs.declared.keywords.keyword.Keyword.TheVariants as k
use Rattle.sql_reader_tokens.specs.declared.sign.Sign.TheVariants as s
use Rattle.sql_reader_grammar.specs.phrases.Lists.{AfterComma, Listed, Many}
use Rattle.sql_reader_grammar.specs.phrases.Outcomes.{Outcome, Read, ◌>>=◌, others, put, read, series}
use Rattle.sql_reader_grammar.specs.phrases.Steps.{Rest, after_comma, after_keyword}
use Rattle.sql_reader_syntax.specs.ExprTree.{NameTree}
use Rattle.sql_reader_syntax.specs.Tree.{Name}
use Rattle.sql_reader_syntax.specs.declared.query.Direction.{Direction}
use Rattle.sql_reader_syntax.specs.declared.query.Edge.{Edge}
use Rattle.sql_reader_syntax.specs.declared.query.Exclusion.{Exclusion}
use Rattle.sql_reader_syntax.specs.declared.query.Frame.{Frame}
use Rattle.sql_reader_syntax.specs.declared.query.FrameUnit.{FrameUnit}
use Rattle.sql_reader_syntax.specs.declared.query.Join.{Join}
use Rattle.sql_reader_grammar.specs.Clauses.{Aliases, Directs, Edges, Excludes, Frames, Joins, Limits, Names, Offsets, Outer, PlacesNulls, Spans, Titles, Turns, Units, Wants, Whole}
use Rattle.sql_reader_grammar.specs.Fronts.{binds, outer, exclusion, join_at, nulls, turn, unit_at}
use Rattle.sql_reader_grammar.specs.Reading.{a_name, alias, both, closed, direction, directed, edge, edges, edges_at, flat, frame, frame_at, framed, limit, made, names, offset, optional, some_whole, title}
use Rattle.sql_reader_grammar.proofs.Stages.{no_exclusion, no_frame, no_limit, no_offset, stage}

-- Names

pub name_read : {n : Name} {from after : Rest} → Names n from after → a_name from ≡ Ok (read n 0 after)
name_read Names.name = refl

pub name_room : {n : Name} {from after : Rest} → Names n from after → length after < length from
name_room Names.name = omega arith

abbrev pub each : ℕ → Rest → Outcome (Read Name)
each place = a_name

pub more_names : {ns : List Name} {from after : Rest} → Many (AfterComma Names) ns from after → (n place : ℕ)
    → length from ≤ n → after_comma after ≡ None
    → others (series each after_comma n place) from (after_comma from) ≡ Ok (read ns 0 after)
unfolding series
more_names {from = from} Many.none n place le stop = ap (others (series each after_comma n place) from) stop
more_names (Many.more (AfterComma.comma Names.name) xs) zero place le stop = absurd (omega (arith, le))
more_names (Many.more {mid = mid} (AfterComma.comma (Names.name {n = x})) xs) (suc n) place le stop =
    ap (λ r. r >>= λ xs. Ok (put (read x 0 mid) xs)) (more_names xs n (suc place) (omega (arith, le)) stop)

pub names_read : {ns : List Name} {from after : Rest} → Listed Names ns from after → after_comma after ≡ None
    → names from ≡ Ok (read ns 0 after)
unfolding series
names_read (Listed.listed (Names.name {n = x} {after = mid}) xs) stop =
    ap (λ r. r >>= λ xs. Ok (put (read x 0 mid) xs)) (more_names xs (suc (length mid)) 1 (omega arith) stop)

pub alias_read : {a : Option Name} {from after : Rest} → Aliases a from after → alias after ≡ Ok (read None 0 after)
    → alias from ≡ Ok (read a 0 after)
alias_read Aliases.no_alias h = h
alias_read Aliases.alias h = refl
alias_read Aliases.as_alias h = refl

pub title_read : {source : List ℕ} {t : NameTree} {from after : Rest} → Titles source t from after
    → title source after ≡ Ok (read (NameTree.SourceText source) 0 after) → title source from ≡ Ok (read t 0 after)
title_read Titles.untitled h = h
title_read Titles.alias h = refl
title_read Titles.as_alias h = refl

pub title_stops : {source : List ℕ} {t : NameTree} {from after : Rest} → Titles source t from after
    → binds after ≡ 0 → binds from ≡ 0
title_stops Titles.untitled h = h
title_stops Titles.alias h = refl
title_stops Titles.as_alias h = refl

-- Joins

outer_read : {from after : Rest} → Outer from after → (join : Join)
    → outer join from ≡ Some (record { join = join; wants = Wants.Always; rest = after })
outer_read Outer.join join = refl
outer_read Outer.outer join = refl

pub join_read : {join : Join} {wants : Wants} {from after : Rest} → Joins join wants from after
    → join_at from ≡ Some (record { join = join; wants = wants; rest = after })
join_read Joins.comma = refl
join_read Joins.cross = refl
join_read Joins.join = refl
join_read Joins.inner = refl
join_read (Joins.left {from = from} x) = outer_read x _
join_read (Joins.right x) = outer_read x _
join_read (Joins.full x) = outer_read x _

-- Order

-- what may stand behind an expression of ORDER BY
pub record TermEnds (after : Rest) : Type 0 where
  pub no_operator : binds after ≡ 0
  pub no_turn : turn after ≡ (false, after)
  pub no_nulls : (d : Bool) → nulls d after ≡ (not d, after)

pub comma_term : (rest : Rest) → TermEnds (Lexeme.Punctuation s.Comma ∷ rest)
comma_term rest = record { no_operator = refl; no_turn = refl; no_nulls = λ d. refl }

pub direction_read : {dir : Direction} {from after : Rest} → Directs dir from after → TermEnds after
    → (direction from ≡ Ok (read dir 0 after)) × (binds from ≡ 0)
direction_read {after = after} (Directs.directs Turns.plain PlacesNulls.ascending) e = (
  ap (λ (t : Bool × Rest). directed t (nulls t.0 t.1)) e.no_turn ∙ ap (directed (false, after)) (e.no_nulls false),
  e.no_operator,
)
direction_read (Directs.directs Turns.plain PlacesNulls.first) e = (refl, refl)
direction_read (Directs.directs Turns.plain PlacesNulls.last) e = (refl, refl)
direction_read {after = after} (Directs.directs Turns.ascending PlacesNulls.ascending) e =
    (ap (directed (false, after)) (e.no_nulls false), refl)
direction_read (Directs.directs Turns.ascending PlacesNulls.first) e = (refl, refl)
direction_read (Directs.directs Turns.ascending PlacesNulls.last) e = (refl, refl)
direction_read {after = after} (Directs.directs Turns.descending PlacesNulls.descending) e =
    (ap (directed (true, after)) (e.no_nulls true), refl)
direction_read (Directs.directs Turns.descending PlacesNulls.first) e = (refl, refl)
direction_read (Directs.directs Turns.descending PlacesNulls.last) e = (refl, refl)

-- Frames

unit_read : {u : FrameUnit} {from after : Rest} → Units u from after → unit_at from ≡ Some (u, after)
unit_read Units.rows = refl
unit_read Units.range = refl
unit_read Units.groups = refl

unit_stage : {u : FrameUnit} {from after : Rest} → Units u from after → 8 ≤ stage from
unit_stage Units.rows = omega arith
unit_stage Units.range = omega arith
unit_stage Units.groups = omega arith

edge_read : {x : Edge} {from after : Rest} → Edges x from after → edge from ≡ Ok (read x 0 after)
edge_read Edges.unbounded_preceding = refl
edge_read Edges.preceding = refl
edge_read Edges.current_row = refl
edge_read Edges.following = refl
edge_read Edges.unbounded_following = refl

edge_no_between : {x : Edge} {from after : Rest} → Edges x from after → after_keyword k.Between from ≡ None
edge_no_between Edges.unbounded_preceding = refl
edge_no_between Edges.preceding = refl
edge_no_between Edges.current_row = refl
edge_no_between Edges.following = refl
edge_no_between Edges.unbounded_following = refl

span_read : {x y : Edge} {from after : Rest} → Spans x y from after
    → edges from ≡ Ok (read (x, y) 0 after)
span_read (Spans.alone {from = from} x) =
    ap (edges_at from) (edge_no_between x) ∙ ap (made (λ x. (x, _))) (edge_read x)
span_read (Spans.between {start = start} x y) =
    ap (λ r. both (closed (after_keyword k.And) r) edge) (edge_read x)
    ∙ ap (λ r. r >>= λ y. Ok (read (start, y.tree) (max 0 y.levels) y.rest)) (edge_read y)

exclude_read : {x : Exclusion} {from after : Rest} → Excludes x from after → 10 ≤ stage after
    → exclusion from ≡ (x, after)
exclude_read Excludes.nothing h = no_exclusion _ h
exclude_read Excludes.no_others h = refl
exclude_read Excludes.current_row h = refl
exclude_read Excludes.group h = refl
exclude_read Excludes.ties h = refl

pub frame_read : {f : Option Frame} {from after : Rest} → Frames f from after → 10 ≤ stage after
    → (frame from ≡ Ok (read f 0 after)) × (8 ≤ stage from)
frame_read {after = after} Frames.no_frame h = (ap (frame_at after) (no_frame after (omega (arith, h))), omega (arith, h))
frame_read (Frames.frame {unit = u} {start = start} {end = end} {from = from} x y z) h = (
  ap (frame_at from) (unit_read x)
      ∙ (ap (λ r. made (framed u) (both r (λ rest. flat (exclusion rest)))) (span_read y)
      ∙ ap (λ (x : Exclusion × Rest). Ok (read (framed u ((start, end), x.0)) 0 x.1)) (exclude_read z h)),
  unit_stage x,
)

-- LIMIT

whole_read : {n : ℤ} {from after : Rest} → Whole n from after → some_whole from ≡ Ok (read (Some n) 0 after)
whole_read Whole.number = refl
whole_read Whole.minus = refl

pub limit_read : {l o : Option ℤ} {from after : Rest} → Limits l o from after → 10 ≤ stage after
    → (limit from ≡ Ok (read (l, o) 0 after)) × (8 ≤ stage from)
limit_read {after = after} Limits.no_limit h =
    (ap (optional (None, None) _ after) (no_limit after (omega (arith, h))), omega (arith, h))
limit_read (Limits.limit {n = n} {mid = mid} x Offsets.no_offset) h = (
  ap (λ r. both r offset) (whole_read x)
      ∙ ap (λ r. r >>= λ y. Ok (read (Some n, y.tree) (max 0 y.levels) y.rest))
      (ap (optional None some_whole mid) (no_offset mid h)),
  omega arith,
)
limit_read (Limits.limit {n = n} {mid = mid} x (Offsets.offset y)) h = (
  ap (λ r. both r offset) (whole_read x)
      ∙ ap (λ r. r >>= λ y. Ok (read (Some n, y.tree) (max 0 y.levels) y.rest)) (whole_read y),
  omega arith,
)
