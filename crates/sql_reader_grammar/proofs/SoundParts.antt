-- What was read is spelt: the parts of expressions, windows and what stands behind a call, where inner phrases are.
use Rattle.std.proofs.Common.{◌≡◌, Bool, true, false, ℕ, suc, ◌<◌, ◌≤◌, max, List, [], ◌∷◌, length, Option, Some, None, Ok, Err, leb, refl, sym, ap, ◌∙◌, arith, subst}
use mathlib.Core.Logic.{inl, inr}
use Rattle.std.proofs.lemmas.Bool.{cases_lt, cond-false, cond-true, le-leb, lt-leb}
use Rattle.sql_reader_tokens.specs.Lexeme.{Lexeme}
use Rattle.sql_reader_tokens.specs.declared.keywords.keyword.Keyword.{Keyword}
use Rattle.sql_reader_tokens.specs.declared.keywords.keyword.Keyword.TheVariants as k
use Rattle.sql_reader_tokens.specs.declared.sign.Sign.TheVariants as s
use Rattle.sql_reader_grammar.specs.phrases.Outcomes.{Outcome, Read, Refusal, ◌>>=◌, needed, read, series}
use Rattle.sql_reader_grammar.specs.phrases.Steps.{Rest, after_close, after_comma, after_keyword, after_open}
use Rattle.sql_reader_grammar.proofs.lemmas.phrases.OutcomeLemmas.{bind_ok, fits, fits_in, ok_inj}
use Rattle.sql_reader_grammar.proofs.lemmas.phrases.StepLemmas.{at_keyword, at_sign}
use Rattle.sql_reader_syntax.specs.ExprTree.{CoreTree, ExprTree, ExprTrees, MaybeExpr, OverTree, QueryTree, TermTrees, WindowTree, arms_of, trees_of}
use Rattle.sql_reader_syntax.specs.declared.query.Direction.{Direction}
use Rattle.sql_reader_syntax.specs.declared.query.Frame.{Frame}
use Rattle.sql_reader_grammar.specs.Clauses.{Directs, Frames}
use Rattle.sql_reader_grammar.specs.Fronts.{after_order_by, after_partition_by, binds}
use Rattle.sql_reader_grammar.specs.Operators.{IsLiteral}
use Rattle.sql_reader_grammar.specs.Queries.{Expresses, ExpressesAll, ExpressesArms, ExpressesElse, ExpressesItem, ExpressesOperand, Filters, Havings, Orders, Overs, Partitions, Queries, Selects, StandsBehind, Terms, Wheres, Windows, nowhere}
use Rattle.sql_reader_grammar.specs.Reading.{Inner, alone, arm, arms, behind, both, closed, condition, direction, expr, filter, filter_at, frame, having, inner, item, list, made, one, operand_of_case, optional, order, otherwise, over, over_at, partition, present, some, standing, term, terms, terms_of, window, window_at, windowed}
use Rattle.sql_reader_grammar.proofs.Complete.{complete}
use Rattle.sql_reader_grammar.proofs.Shape.{loose}
use Rattle.sql_reader_grammar.proofs.Sound.{Flat, direction_sound, finds_comma, finds_keyword, finds_order, finds_partition, frame_sound}
use Rattle.sql_reader_grammar.proofs.SoundSteps.{Before, Both, Phrase, Sound, Within, sound_behind, sound_both, sound_closed, sound_flat, sound_less, sound_made, sound_needed, sound_optional, sound_series}
use Rattle.sql_reader_grammar.proofs.Turns.{climb_stops}

-- what was read within one more construct
pub record Enclosed {A : Type 0} (X : Phrase A) (d : ℕ) (from : Rest) (x : Read A) : Type 0 where
  pub h : ℕ
  pub is : x.levels ≡ suc h
  pub within : suc h ≤ d
  pub spelt : X h x.tree from x.rest

pub enclosed_within : {A : Type 0} (X : Phrase A) (d : ℕ) (from : Rest) (x : Read A) → Enclosed X d from x
    → Within 1 X d from x
enclosed_within X d from x e = record {
  h = e.h;
  is = omega (arith, e.is);
  least = omega (arith, e.is);
  within = omega (arith, e.is, e.within);
  spelt = e.spelt;
}

module _ (source : ℕ → ℕ → List ℕ) where
  -- an expression of level p, which no operator of that level goes on
  abbrev pub Stopped : ℕ → Phrase ExprTree
  Stopped p h e from after = Expresses source p h e from after × (binds after < p)

  pub record SoundInner (inner : Inner) (d : ℕ) : Type 0 where
    pub expr : (p : ℕ) (from : Rest) (x : Read ExprTree) → p ≤ 10 → inner.expr p from ≡ Ok x → Enclosed (Stopped p) d from x
    pub core : (from : Rest) (x : Read CoreTree) → inner.core from ≡ Ok x → Enclosed (Selects source) d from x
    pub query : (from : Rest) (x : Read QueryTree) → inner.query from ≡ Ok x → Enclosed (Queries source) d from x

  -- two phrases at the same front, which nothing goes on with
  pub one_front : (h i : ℕ) (e g : ExprTree) (from after rest : Rest) → Expresses source 1 h e from after → binds after < 1
      → Expresses source 1 i g from rest → binds rest < 1 → read e h after ≡ read g i rest
  one_front h i e g from after rest x stop y halt =
      let d : ℕ = max h i in
      ok_inj (read e h after) (read g i rest)
      (sym (complete source x d 1 (omega arith) (omega arith) (omega (arith, stop))
      ∙ (ap (fits d h) (climb_stops source (inner source d) d d 1 (read e h after) stop) ∙ fits_in d h _ (omega arith)))
      ∙ (complete source y d 1 (omega arith) (omega arith) (omega (arith, halt))
      ∙ (ap (fits d i) (climb_stops source (inner source d) d d 1 (read g i rest) halt) ∙ fits_in d i _ (omega arith))))

  -- an expression that is there
  abbrev pub IsPresent : Phrase MaybeExpr
  IsPresent h m from after = (e : ExprTree) × (m ≡ MaybeExpr.Present e) × Expresses source 1 h e from after

  module _ (inner : Inner) (d : ℕ) (inside : SoundInner inner d) where
    pub one_stopped : (from : Rest) → Sound 1 (Stopped 1) d (one source inner d from) from
    one_stopped from x e = enclosed_within (Stopped 1) d from x (inside.expr 1 from x (omega arith) e)

    pub one_sound : (from : Rest) → Sound 1 (Expresses source 1) d (one source inner d from) from
    one_sound from x e =
        let w = one_stopped from x e in
        record { h = w.h; is = w.is; least = w.least; within = w.within; spelt = w.spelt.0 }

    pub present_sound : (from : Rest) → Sound 1 IsPresent d (present source inner d from) from
    present_sound from =
        sound_made 1 (Expresses source 1) IsPresent d (λ e. MaybeExpr.Present e) (one source inner d from) from
        (λ h t after s. (t, refl, s)) (one_sound from)

    -- an expression behind a keyword, which may be absent
    behind_keyword : (Y : Phrase MaybeExpr) (word : Keyword)
        → ((ts : Rest) → Y 0 MaybeExpr.Absent ts ts)
        → ((h : ℕ) (e : ExprTree) (ts after : Rest) → Expresses source 1 h e ts after
        → Y h (MaybeExpr.Present e) (Lexeme.Reserved word ∷ ts) after)
        → (ts : Rest) → Sound 0 Y d (optional MaybeExpr.Absent (present source inner d) ts (after_keyword word ts)) ts
    behind_keyword Y word absent there ts =
        sound_optional Y d MaybeExpr.Absent (present source inner d) ts (after_keyword word ts) (absent ts)
        (λ rest e. sound_behind 1 IsPresent Y d (present source inner d rest) ts rest
        (λ h m after p. subst (λ us. Y h m us after) (sym (at_keyword word ts rest e))
        (subst (λ m. Y h m (Lexeme.Reserved word ∷ rest) after) (sym p.1) (there h p.0 rest after p.2)))
        (present_sound rest))

    pub condition_sound : (ts : Rest) → Sound 0 (Wheres source) d (condition source inner d ts) ts
    condition_sound = behind_keyword (Wheres source) k.Where (λ ts. Wheres.no_condition) (λ h e ts after x. Wheres.condition x)

    pub having_sound : (ts : Rest) → Sound 0 (Havings source) d (having source inner d ts) ts
    having_sound = behind_keyword (Havings source) k.Having (λ ts. Havings.no_having) (λ h e ts after x. Havings.having x)

    -- Lists of expressions

    pub item_sound : (b : Bool) (ts : Rest) → Sound 1 (ExpressesItem source b) d (item source inner d b ts) ts
    item_sound false ts x e =
        let w = one_sound ts x e in
        record { h = w.h; is = w.is; least = w.least; within = w.within; spelt = ExpressesItem.expression w.spelt }
    item_sound true (Lexeme.Number n ∷ ts) x h =
        let a = bind_ok (alone (Lexeme.Number n ∷ ts)) (one source inner d) x h in
        elim (cases_lt 0 (binds ts)) [
          | inl l ↦
              absurd (let e = cond-false (leb (binds ts) 0) (let r : Outcome Rest = Ok (Lexeme.Number n ∷ ts) in r)
              (Err Refusal.Syntax) (lt-leb (binds ts) 0 l) in let i = a.1 in cc)
          | inr l ↦
              let same = ok_inj (Lexeme.Number n ∷ ts) a.0
              (sym (cond-true (leb (binds ts) 0) (Ok (Lexeme.Number n ∷ ts)) (Err Refusal.Syntax)
              (le-leb (binds ts) 0 l)) ∙ a.1) in
              let w = one_stopped (Lexeme.Number n ∷ ts) x (ap (one source inner d) same ∙ a.2) in
              let e = one_front 0 w.h (ExprTree.Number n) x.tree (Lexeme.Number n ∷ ts) ts x.rest
              (loose source (omega arith) (Expresses.literal IsLiteral.number)) (omega (arith, l)) w.spelt.0 w.spelt.1 in
              record {
                h = w.h;
                is = w.is;
                least = w.least;
                within = w.within;
                spelt = subst
                    (λ (r : Read ExprTree). ExpressesItem source true r.levels r.tree (Lexeme.Number n ∷ ts) r.rest) e
                    ExpressesItem.number;
              }
        ]
    item_sound true _ x h = absurd cc

    abbrev pub AllOf : (ℕ → Bool) → ℕ → Phrase (List ExprTree)
    AllOf numbers place h es from after = ExpressesAll source numbers place h (trees_of es) from after

    pub list_sound : (numbers : ℕ → Bool) (ts : Rest) → Sound 1 (AllOf numbers 0) d (list source inner d numbers ts) ts
    list_sound numbers ts =
        sound_series 1 (λ place. ExpressesItem source (numbers place)) (AllOf numbers) d
        (λ place. item source inner d (numbers place)) after_comma (Lexeme.Punctuation s.Comma) finds_comma
        (λ place from. item_sound (numbers place) from) (λ place h x from after y. ExpressesAll.last y)
        (λ place h i x xs from rest after y ys. ExpressesAll.more y ys) (suc (length ts)) 0 ts

    pub some_sound : (ts : Rest) → Sound 1 (ExpressesAll source nowhere 0) d (some source inner d ts) ts
    some_sound ts =
        sound_made 1 (AllOf nowhere 0) (ExpressesAll source nowhere 0) d trees_of (list source inner d nowhere ts) ts
        (λ h t after x. x) (list_sound nowhere ts)

    -- Windows

    pub partition_sound : (ts : Rest) → Sound 0 (Partitions source) d (partition source inner d ts) ts
    partition_sound ts =
        sound_optional (Partitions source) d ExprTrees.No_more (some source inner d) ts (after_partition_by ts)
        Partitions.no_partition
        (λ rest e. sound_behind 1 (ExpressesAll source nowhere 0) (Partitions source) d (some source inner d rest) ts rest
        (λ h t after x. subst (λ us. Partitions source h t us after) (sym (finds_partition ts rest e)) (Partitions.partition x))
        (some_sound rest))

    abbrev pub IsTerm : Phrase (ExprTree × Direction)
    IsTerm = Both (Expresses source 1) (Flat Directs)

    abbrev pub AreTerms : ℕ → Phrase (List (ExprTree × Direction))
    AreTerms place h ts from after = Terms source h (terms_of ts) from after

    with_levels : (h i : ℕ) (t : TermTrees) (from after : Rest) → h ≡ i → Terms source h t from after
        → Terms source i t from after
    with_levels h i t from after e x = subst (λ n. Terms source n t from after) e x

    pub term_sound : (ts : Rest) → Sound 1 IsTerm d (term source inner d ts) ts
    term_sound ts x e =
        sound_less (max 1 0) 1 IsTerm d ts x (omega arith)
        (sound_both 1 0 (Expresses source 1) (Flat Directs) d (one source inner d ts) direction ts (one_sound ts)
        (direction_sound d) x e)

    pub terms_sound : (ts : Rest) → Sound 1 (Terms source) d (terms source inner d ts) ts
    terms_sound ts =
        sound_made 1 (AreTerms 0) (Terms source) d terms_of (series (λ place. term source inner d) after_comma (suc (length ts)) 0 ts) ts
        (λ h t after x. x)
        (sound_series 1 (λ place. IsTerm) AreTerms d (λ place. term source inner d) after_comma
        (Lexeme.Punctuation s.Comma) finds_comma (λ place from. term_sound from)
        (λ place h x from after y.
        let z = y.rest.0 in let i = y.is in
        with_levels y.i h _ from after (omega (arith, i, z)) (Terms.last_term y.front y.rest.1))
        (λ place h i x xs from rest after y ys.
        let z = y.rest.0 in let j = y.is in
        with_levels (max y.i i) (max h i) _ from after (omega (arith, j, z)) (Terms.more_terms y.front y.rest.1 ys))
        (suc (length ts)) 0 ts)

    pub order_sound : (ts : Rest) → Sound 0 (Orders source) d (order source inner d ts) ts
    order_sound ts =
        sound_optional (Orders source) d TermTrees.No_term (terms source inner d) ts (after_order_by ts) Orders.no_order
        (λ rest e. sound_behind 1 (Terms source) (Orders source) d (terms source inner d rest) ts rest
        (λ h t after x. subst (λ us. Orders source h t us after) (sym (finds_order ts rest e)) (Orders.order x))
        (terms_sound rest))

    abbrev pub Closed : Phrase (ExprTrees × (TermTrees × Option Frame))
    Closed = Both (Partitions source) (Both (Orders source) (Flat Frames))

    -- behind its parenthesis
    abbrev pub IsWindow : Phrase WindowTree
    IsWindow h w from after = Windows source h w (Lexeme.Punctuation s.Open ∷ from) after

    window_is : (h : ℕ) (t : ExprTrees × (TermTrees × Option Frame)) (from after : Rest)
        → Before (Lexeme.Punctuation s.Close) Closed h t from after → IsWindow h (windowed source inner d t) from after
    window_is h t from after b =
        let i = b.is in let j = b.rest.is in let l = b.rest.rest.0 in
        subst (λ n. IsWindow n (windowed source inner d t) from after)
        (let e : max b.i b.rest.i ≡ h = omega (arith, i, j, l) in e)
        (Windows.window b.front b.rest.front b.rest.rest.1)

    window_at_sound : (ts : Rest) → Sound 0 IsWindow d (window_at source inner d ts) ts
    window_at_sound ts =
        sound_made 0 (Before (Lexeme.Punctuation s.Close) Closed) IsWindow d (windowed source inner d)
        (closed after_close (both (partition source inner d ts) (λ rest. both (order source inner d rest) frame))) ts
        (λ h t after b. window_is h t ts after b)
        (sound_closed 0 Closed d after_close (Lexeme.Punctuation s.Close)
        (both (partition source inner d ts) (λ rest. both (order source inner d rest) frame)) ts
        (λ us vs h. at_sign s.Close us vs h)
        (sound_both 0 0 (Partitions source) (Both (Orders source) (Flat Frames)) d (partition source inner d ts)
        (λ rest. both (order source inner d rest) frame) ts (partition_sound ts)
        (λ mid. sound_both 0 0 (Orders source) (Flat Frames) d (order source inner d mid) frame mid (order_sound mid)
        (frame_sound d))))

    pub window_sound : (ts : Rest) → Sound 0 (Windows source) d (window source inner d ts) ts
    unfolding window
    window_sound ts =
        sound_needed 0 (Windows source) d (after_open ts) (window_at source inner d) ts
        (λ rest e. sound_behind 0 IsWindow (Windows source) d (window_at source inner d rest) ts rest
        (λ h w after x. subst (λ us. Windows source h w us after) (sym (at_sign s.Open ts rest e)) x) (window_at_sound rest))

    -- What stands behind a call

    -- behind OVER
    abbrev pub IsOver : Phrase OverTree
    IsOver h o from after = Overs source h o (Lexeme.Reserved k.Over ∷ from) after

    over_window : (ts : Rest) → Sound 0 IsOver d (made (λ w. OverTree.Over w) (window source inner d ts)) ts
    over_window ts =
        sound_made 0 (Windows source) IsOver d (λ w. OverTree.Over w) (window source inner d ts) ts
        (λ h w after x. Overs.over x) (window_sound ts)

    over_at_sound : (ts : Rest) → Sound 0 IsOver d (over_at source inner d ts) ts
    over_at_sound (Lexeme.Name q n ∷ ts) x e = sound_flat IsOver d _ ts (OverTree.OverName n) x e Overs.over_name
    over_at_sound [] x e = over_window [] x e
    over_at_sound (Lexeme.Number n ∷ ts) x e = over_window (Lexeme.Number n ∷ ts) x e
    over_at_sound (Lexeme.Text n ∷ ts) x e = over_window (Lexeme.Text n ∷ ts) x e
    over_at_sound (Lexeme.Blob n ∷ ts) x e = over_window (Lexeme.Blob n ∷ ts) x e
    over_at_sound (Lexeme.Reserved n ∷ ts) x e = over_window (Lexeme.Reserved n ∷ ts) x e
    over_at_sound (Lexeme.Punctuation n ∷ ts) x e = over_window (Lexeme.Punctuation n ∷ ts) x e

    over_sound : (ts : Rest) → Sound 0 (Overs source) d (over source inner d ts) ts
    over_sound ts =
        sound_optional (Overs source) d OverTree.No_over (over_at source inner d) ts (after_keyword k.Over ts) Overs.no_over
        (λ rest e. sound_behind 0 IsOver (Overs source) d (over_at source inner d rest) ts rest
        (λ h o after x. subst (λ us. Overs source h o us after) (sym (at_keyword k.Over ts rest e)) x) (over_at_sound rest))

    -- behind FILTER
    abbrev pub IsFilter : Phrase MaybeExpr
    IsFilter h m from after = Filters source h m (Lexeme.Reserved k.Filter ∷ from) after

    filter_at_sound : (ts : Rest) → Sound 0 IsFilter d (filter_at source inner d ts) ts
    filter_at_sound ts =
        sound_needed 0 IsFilter d (after_open ts)
        (λ rest. needed (after_keyword k.Where rest) >>= λ rest. closed after_close (present source inner d rest)) ts
        (λ us e. sound_needed 0 IsFilter d (after_keyword k.Where us)
        (λ rest. closed after_close (present source inner d rest)) ts
        (λ vs i. sound_behind 1 (Before (Lexeme.Punctuation s.Close) IsPresent) IsFilter d
        (closed after_close (present source inner d vs)) ts vs
        (λ h m after p. subst (λ ts. IsFilter h m ts after)
        (sym (at_sign s.Open ts us e ∙ ap (λ us. Lexeme.Punctuation s.Open ∷ us) (at_keyword k.Where us vs i)))
        (subst (λ m. IsFilter h m (Lexeme.Punctuation s.Open ∷ Lexeme.Reserved k.Where ∷ vs) after) (sym p.1)
        (Filters.filter p.2)))
        (sound_closed 1 IsPresent d after_close (Lexeme.Punctuation s.Close) (present source inner d vs) vs
        (λ us vs h. at_sign s.Close us vs h) (present_sound vs))))

    filter_sound : (ts : Rest) → Sound 0 (Filters source) d (filter source inner d ts) ts
    filter_sound ts =
        sound_optional (Filters source) d MaybeExpr.Absent (filter_at source inner d) ts (after_keyword k.Filter ts)
        Filters.no_filter
        (λ rest e. sound_behind 0 IsFilter (Filters source) d (filter_at source inner d rest) ts rest
        (λ h m after x. subst (λ us. Filters source h m us after) (sym (at_keyword k.Filter ts rest e)) x)
        (filter_at_sound rest))

    behind_is : (h : ℕ) (t : MaybeExpr × OverTree) (from after : Rest) → Both (Filters source) (Overs source) h t from after
        → StandsBehind source h (standing source inner d t) from after
    behind_is h t from after b =
        subst (λ n. StandsBehind source n (standing source inner d t) from after) (sym b.is)
        (StandsBehind.behind b.front b.rest)

    pub behind_sound : (ts : Rest) → Sound 0 (StandsBehind source) d (behind source inner d ts) ts
    unfolding behind
    behind_sound ts =
        sound_made 0 (Both (Filters source) (Overs source)) (StandsBehind source) d (standing source inner d)
        (both (filter source inner d ts) (over source inner d)) ts (λ h t after b. behind_is h t ts after b)
        (sound_both 0 0 (Filters source) (Overs source) d (filter source inner d ts) (over source inner d) ts
        (filter_sound ts) over_sound)

    -- CASE

    -- the arms behind the first WHEN
    abbrev pub AreArms : ℕ → Phrase (List (ExprTree × ExprTree))
    AreArms place h xs from after = ExpressesArms source h (arms_of xs) (Lexeme.Reserved k.When ∷ from) after

    abbrev pub IsArm : Phrase (ExprTree × ExprTree)
    IsArm = Both (Before (Lexeme.Reserved k.Then) (Expresses source 1)) (Expresses source 1)

    pub arm_sound : (ts : Rest) → Sound 1 IsArm d (arm source inner d ts) ts
    arm_sound ts x e =
        sound_less (max 1 1) 1 IsArm d ts x (omega arith)
        (sound_both 1 1 (Before (Lexeme.Reserved k.Then) (Expresses source 1)) (Expresses source 1) d
        (closed (after_keyword k.Then) (one source inner d ts)) (one source inner d) ts
        (sound_closed 1 (Expresses source 1) d (after_keyword k.Then) (Lexeme.Reserved k.Then) (one source inner d ts) ts
        (finds_keyword k.Then) (one_sound ts)) one_sound x e)

    pub arms_sound : (ts : Rest) → Sound 1 (AreArms 0) d (arms source inner d ts) ts
    arms_sound ts =
        sound_series 1 (λ place. IsArm) AreArms d (λ place. arm source inner d) (after_keyword k.When)
        (Lexeme.Reserved k.When) (finds_keyword k.When) (λ place from. arm_sound from)
        (λ place h x from after y.
        subst (λ n. AreArms place n (x ∷ []) from after) (sym y.is) (ExpressesArms.last_arm y.front y.rest))
        (λ place h i x xs from rest after y ys.
        subst (λ n. AreArms place (max n i) (x ∷ xs) from after) (sym y.is) (ExpressesArms.more_arms y.front y.rest ys))
        (suc (length ts)) 0 ts

    pub operand_sound : (ts : Rest) (o : Option Rest) → Sound 0 (ExpressesOperand source) d (operand_of_case source inner d ts o) ts
    operand_sound ts (Some whens) x e =
        sound_flat (ExpressesOperand source) d ts ts MaybeExpr.Absent x e ExpressesOperand.no_operand
    operand_sound ts None x e =
        sound_behind 1 IsPresent (ExpressesOperand source) d (present source inner d ts) ts ts
        (λ h m after p. subst (λ m. ExpressesOperand source h m ts after) (sym p.1) (ExpressesOperand.operand p.2))
        (present_sound ts) x e

    -- END stands behind it
    abbrev pub IsElse : Phrase MaybeExpr
    IsElse h m from after = (rest : Rest) → after ≡ Lexeme.Reserved k.End ∷ rest → ExpressesElse source h m from rest

    pub otherwise_sound : (ts : Rest) → Sound 0 IsElse d (otherwise source inner d ts) ts
    otherwise_sound ts =
        sound_optional IsElse d MaybeExpr.Absent (present source inner d) ts (after_keyword k.Else ts)
        (λ rest e. subst (λ us. ExpressesElse source 0 MaybeExpr.Absent us rest) (sym e) ExpressesElse.no_else)
        (λ rest e. sound_behind 1 IsPresent IsElse d (present source inner d rest) ts rest
        (λ h m after p. λ end i. subst (λ us. ExpressesElse source h m us end) (sym (at_keyword k.Else ts rest e))
        (subst (λ m. ExpressesElse source h m (Lexeme.Reserved k.Else ∷ rest) end) (sym p.1)
        (ExpressesElse.otherwise (subst (λ us. Expresses source 1 h p.0 rest us) i p.2))))
        (present_sound rest))
