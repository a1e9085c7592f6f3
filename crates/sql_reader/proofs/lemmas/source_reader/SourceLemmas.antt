-- What the loop over the sources of FROM keeps.
use Rattle.std.proofs.Common.{◌≡◌, ◌<◌, ◌≤◌, ℕ, zero, suc, max, List, [], ◌∷◌, ◌++◌, length, map, Option, Some, None, Ok, Err, refl, sym, ap, ◌∙◌, arith}
use Rattle.values.specs.declared.fault.Fault.{Fault}
use Rattle.sql_reader_tokens.specs.Lexeme.{Lexeme}
use Rattle.sql_reader_tokens.specs.declared.keywords.keyword.Keyword.TheVariants as k
use Rattle.sql_reader_tokens.specs.declared.sign.Sign.TheVariants as s
use Rattle.sql_reader_grammar.specs.phrases.Outcomes.{Fails, Outcome, Read, Refusal, ◌>>=◌, needed, read}
use Rattle.sql_reader_grammar.specs.phrases.Steps.{Rest, after_close, after_open}
use Rattle.sql_reader_grammar.proofs.lemmas.phrases.OutcomeLemmas.{bind_ok, bind_same, fails_along, fails_bind, ok_inj, some_inj}
use Rattle.sql_reader_syntax.specs.ExprTree.{FromTree, OnTree, QueryTree, SourceTree}
use Rattle.sql_reader_syntax.specs.Tree.{Name}
use Rattle.sql_reader_syntax.specs.declared.query.Join.{Join}
use Rattle.sql_reader_syntax.specs.declared.query.Join.TheVariants as j
use Rattle.sql_reader_grammar.specs.Clauses.{Wants}
use Rattle.sql_reader_grammar.specs.Fronts.{Joining, join_at, outer}
use Rattle.sql_reader_grammar.specs.Queries.{IsSource, Ons}
use Rattle.sql_reader_grammar.specs.Reading.{a_source, alias, both, closed, made, next_source, on, source_and, source_at, sources, sources_from}
use Rattle.sql_reader_grammar.proofs.Room.{room_on, room_source}
use Rattle.sql_reader_grammar.proofs.SoundQueries.{on_sound, source_sound}
use Rattle.sql_reader_grammar.proofs.SoundStatements.{inner_sound}
use Rattle.sql_reader_grammar.proofs.SoundSteps.{sound_both}
use Rattle.sql_reader_grammar.specs.statement_trees.TreeView.{JoinedTree, joined_all, joined_of}
use Rattle.sql_reader_grammar.specs.declared.statement_trees.queries.Joined.{Joined}
use Rattle.sql_reader_exprs.specs.window_reader.Setting.{Setting, at, inner_at}

-- a query behind which its parenthesis isn't closed
pub not_closed : (t : Setting) (ts rest : Rest) (x : Read QueryTree) (e : Fault) → after_open ts ≡ Some rest
    → (inner_at t).query rest ≡ Ok x → Fails e (needed (after_close x.rest)) → Fails e (at a_source t ts)
not_closed t ts rest x e i h f =
    let end : Outcome (Read QueryTree) = needed (after_close x.rest) >>= λ rest. Ok (read x.tree x.levels rest) in
    let aliased : Outcome (Read (QueryTree × Option Name)) = both end alias in
    fails_along e (made (λ (r : QueryTree × Option Name). SourceTree.Derived r.0 r.1) aliased) (at a_source t ts)
    (sym (ap (at source_at t ts) i
    ∙ ap (λ r. made (λ (r : QueryTree × Option Name). SourceTree.Derived r.0 r.1) (both (closed after_close r) alias)) h))
    (fails_bind e aliased (λ y. Ok (read (SourceTree.Derived y.tree.0 y.tree.1) y.levels y.rest))
    (fails_bind e end (λ x. alias x.rest >>= λ y. Ok (read (x.tree, y.tree) (max x.levels y.levels) y.rest))
    (fails_bind e (needed (after_close x.rest)) (λ rest. Ok (read x.tree x.levels rest)) f)))

outer_room : (join : Join) (ts : Rest) (o : Joining) → outer join ts ≡ Some o → length o.rest < length ts
outer_room join (Lexeme.Reserved k.Join ∷ ts) o e =
    let i = ap (λ (o : Joining). length o.rest) (some_inj (record { join = join; wants = Wants.Always; rest = ts }) o e) in
    omega (arith, i)
outer_room join (Lexeme.Reserved k.Outer ∷ Lexeme.Reserved k.Join ∷ ts) o e =
    let i = ap (λ (o : Joining). length o.rest) (some_inj (record { join = join; wants = Wants.Always; rest = ts }) o e) in
    omega (arith, i)
outer_room join _ o e = absurd cc

rest_is : (join : Join) (wants : Wants) (ts : Rest) (o : Joining)
    → Some (let j : Joining = record { join = join; wants = wants; rest = ts } in j) ≡ Some o → length ts ≡ length o.rest
rest_is join wants ts o e = ap (λ (o : Joining). length o.rest) (some_inj (record { join = join; wants = wants; rest = ts }) o e)

join_room : (ts : Rest) (o : Joining) → join_at ts ≡ Some o → length o.rest < length ts
join_room (Lexeme.Punctuation s.Comma ∷ ts) o e = omega (arith, rest_is j.Inner Wants.Never ts o e)
join_room (Lexeme.Reserved k.Cross ∷ Lexeme.Reserved k.Join ∷ ts) o e = omega (arith, rest_is j.Inner Wants.Never ts o e)
join_room (Lexeme.Reserved k.Join ∷ ts) o e = omega (arith, rest_is j.Inner Wants.Maybe ts o e)
join_room (Lexeme.Reserved k.Inner ∷ Lexeme.Reserved k.Join ∷ ts) o e = omega (arith, rest_is j.Inner Wants.Maybe ts o e)
join_room (Lexeme.Reserved k.Left ∷ ts) o e = omega (arith, outer_room j.Left ts o e)
join_room (Lexeme.Reserved k.Right ∷ ts) o e = omega (arith, outer_room j.Right ts o e)
join_room (Lexeme.Reserved k.Full ∷ ts) o e = omega (arith, outer_room j.Full ts o e)
join_room _ o e = absurd cc

-- a further source
abbrev pub a_further : Setting → Joining → Outcome (Read (SourceTree × OnTree))
a_further t o = both (at a_source t o.rest) (at on t o.wants)

pub further_shorter : (t : Setting) (ts : Rest) (o : Joining) (y : Read (SourceTree × OnTree)) → join_at ts ≡ Some o
    → a_further t o ≡ Ok y → length y.rest < length ts
further_shorter t ts o y is e =
    let w = sound_both 0 0 (IsSource t.source) (Ons t.source o.wants) t.depth (at a_source t o.rest) (at on t o.wants) o.rest
    (source_sound t.source (inner_at t) t.depth (inner_sound t.source t.depth) o.rest)
    (on_sound t.source (inner_at t) t.depth (inner_sound t.source t.depth) o.wants) y e in
    omega (arith, join_room ts o is, room_source t.source w.spelt.front, room_on t.source w.spelt.rest)

and_shorter : (t : Setting) (x y : Read FromTree) (o : Joining) → join_at x.rest ≡ Some o → at source_and t x o ≡ Ok y
    → length y.rest < length x.rest
and_shorter t x y o is e =
    let a = bind_ok (a_further t o)
    (λ y. Ok (read (FromTree.Joined x.tree o.join y.tree.0 y.tree.1) (max x.levels y.levels) y.rest)) y e in
    let i = ap (λ (r : Read FromTree). length r.rest)
    (ok_inj (read (FromTree.Joined x.tree o.join a.0.tree.0 a.0.tree.1) (max x.levels a.0.levels) a.0.rest) y a.2) in
    omega (arith, further_shorter t x.rest o a.0 is a.1, i)

-- more turns than there are tokens find nothing else
same_turns : (t : Setting) (m n : ℕ) (x : Read FromTree) (o : Option Joining) → join_at x.rest ≡ o → length x.rest ≤ m
    → length x.rest ≤ n → at sources_from t m x ≡ at sources_from t n x
unfolding sources_from
same_turns t zero zero x o is h l = refl
same_turns t zero (suc n) x None is h l =
    ap (next_source t.source (inner_at t) t.depth (λ y. Err Refusal.Syntax) x) is
    ∙ sym (ap (next_source t.source (inner_at t) t.depth (at sources_from t n) x) is)
same_turns t (suc m) zero x None is h l =
    ap (next_source t.source (inner_at t) t.depth (at sources_from t m) x) is
    ∙ sym (ap (next_source t.source (inner_at t) t.depth (λ y. Err Refusal.Syntax) x) is)
same_turns t zero (suc n) x (Some o) is h l = absurd (omega (arith, join_room x.rest o is, h))
same_turns t (suc m) zero x (Some o) is h l = absurd (omega (arith, join_room x.rest o is, l))
same_turns t (suc m) (suc n) x None is h l =
    ap (next_source t.source (inner_at t) t.depth (at sources_from t m) x) is
    ∙ sym (ap (next_source t.source (inner_at t) t.depth (at sources_from t n) x) is)
same_turns t (suc m) (suc n) x (Some o) is h l =
    ap (next_source t.source (inner_at t) t.depth (at sources_from t m) x) is
    ∙ (bind_same (at source_and t x o) (at sources_from t m) (at sources_from t n)
    (λ y e. let k = and_shorter t x y o is e in same_turns t m n y (join_at y.rest) refl (omega (arith, k, h)) (omega (arith, k, l)))
    ∙ sym (ap (next_source t.source (inner_at t) t.depth (at sources_from t n) x) is))

-- what the sources still to come make of those that were read
abbrev pub goes_on : Setting → Read FromTree → Outcome (Read FromTree)
goes_on t x = at sources_from t (length x.rest) x

step : (t : Setting) (x : Read FromTree) (o : Joining) → join_at x.rest ≡ Some o
    → goes_on t x ≡ at source_and t x o >>= goes_on t
unfolding sources_from
step t x o is =
    same_turns t (length x.rest) (suc (length x.rest)) x (Some o) is (omega arith) (omega arith)
    ∙ (ap (next_source t.source (inner_at t) t.depth (at sources_from t (length x.rest)) x) is
    ∙ bind_same (at source_and t x o) (at sources_from t (length x.rest)) (goes_on t)
    (λ y e. let k = and_shorter t x y o is e in
    same_turns t (length x.rest) (length y.rest) y (join_at y.rest) refl (omega (arith, k)) (omega arith)))

pub first_err : (t : Setting) (ts : Rest) (e : Fault) → Fails e (at a_source t ts) → Fails e (at sources t ts)
first_err t ts e h =
    fails_bind e (made (λ source. FromTree.First source) (at a_source t ts)) (at sources_from t (length ts))
    (fails_bind e (at a_source t ts) (λ x. Ok (read (FromTree.First x.tree) x.levels x.rest)) h)

source_shorter : (t : Setting) (ts : Rest) (x : Read SourceTree) → at a_source t ts ≡ Ok x → length x.rest < length ts
source_shorter t ts x h =
    let w = source_sound t.source (inner_at t) t.depth (inner_sound t.source t.depth) ts x h in
    omega (arith, room_source t.source w.spelt)

-- with these sources behind the first
abbrev pub sources_so_far : SourceTree → List Joined → FromTree
sources_so_far first js = joined_all (FromTree.First first) (map joined_of js)

pub first_ok : (t : Setting) (ts : Rest) (js : List Joined) (x : Read SourceTree) → js ≡ [] → at a_source t ts ≡ Ok x
    → goes_on t (read (sources_so_far x.tree js) x.levels x.rest) ≡ at sources t ts
first_ok t ts js x e h =
    let l = source_shorter t ts x h in
    ap (λ js. goes_on t (read (sources_so_far x.tree js) x.levels x.rest)) e
    ∙ sym (ap (λ r. made (λ source. FromTree.First source) r >>= at sources_from t (length ts)) h
    ∙ same_turns t (length ts) (length x.rest) (read (FromTree.First x.tree) x.levels x.rest) (join_at x.rest) refl
    (omega (arith, l)) (omega arith))

joined_push : (from : FromTree) (js : List Joined) (x : Joined)
    → joined_all from (map joined_of (js ++ x ∷ []))
    ≡ FromTree.Joined (joined_all from (map joined_of js)) (joined_of x).0 (joined_of x).1.0 (joined_of x).1.1
joined_push from [] x = refl
joined_push from (y ∷ js) x = joined_push (FromTree.Joined from (joined_of y).0 (joined_of y).1.0 (joined_of y).1.1) js x

pub next_err : (t : Setting) (x : Read FromTree) (whole : Outcome (Read FromTree)) (o : Joining) (e : Fault)
    → goes_on t x ≡ whole → join_at x.rest ≡ Some o → Fails e (a_further t o) → Fails e whole
next_err t x whole o e g is h =
    fails_along e _ whole (sym (step t x o is) ∙ g)
    (fails_bind e (at source_and t x o) (goes_on t) (fails_bind e (a_further t o) _ h))

pub next_ok : (t : Setting) (first : SourceTree) (js ks : List Joined) (h : ℕ) (ts : Rest) (whole : Outcome (Read FromTree))
    (o : Joining) (x : Joined) (y : Read (SourceTree × OnTree))
    → goes_on t (read (sources_so_far first js) h ts) ≡ whole → join_at ts ≡ Some o → a_further t o ≡ Ok y
    → joined_of x ≡ (o.join, y.tree) → ks ≡ js ++ x ∷ []
    → goes_on t (read (sources_so_far first ks) (max h y.levels) y.rest) ≡ whole
next_ok t first js ks h ts whole o x y g is k j e =
    ap (λ f. goes_on t (read f (max h y.levels) y.rest))
    (ap (sources_so_far first) e ∙ (joined_push (FromTree.First first) js x
    ∙ ap (λ (j : JoinedTree). FromTree.Joined (sources_so_far first js) j.0 j.1.0 j.1.1) j))
    ∙ (sym (ap
    (λ r. (r >>= λ y. Ok (read (FromTree.Joined (sources_so_far first js) o.join y.tree.0 y.tree.1) (max h y.levels) y.rest))
    >>= goes_on t) k) ∙ (sym (step t (read (sources_so_far first js) h ts) o is) ∙ g))

stops : (t : Setting) (n : ℕ) (x : Read FromTree) → join_at x.rest ≡ None → at sources_from t n x ≡ Ok x
unfolding sources_from
stops t zero x is = ap (next_source t.source (inner_at t) t.depth (λ y. Err Refusal.Syntax) x) is
stops t (suc n) x is = ap (next_source t.source (inner_at t) t.depth (at sources_from t n) x) is

pub sources_end : (t : Setting) (x : Read FromTree) (whole : Outcome (Read FromTree)) → goes_on t x ≡ whole
    → join_at x.rest ≡ None → whole ≡ Ok x
sources_end t x whole g is = sym g ∙ stops t (length x.rest) x is
