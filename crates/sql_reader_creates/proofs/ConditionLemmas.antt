-- The reader of an index's condition finds exactly what its grammar says.
use Rattle.std.proofs.Common.{◌≡◌, Bool, true, false, ℕ, ◌≤◌, List, [], ◌∷◌, length, Option, Some, None, Ok, Err, cond, refl, sym, ap, ◌∙◌, subst, arith}
use Rattle.std.proofs.lemmas.Bool.{cond-false}
use Rattle.sql_reader_tokens.specs.Lexeme.{Lexeme}
use Rattle.sql_reader_tokens.specs.declared.keywords.keyword.Keyword.TheVariants as k
use Rattle.sql_reader_grammar.specs.phrases.Outcomes.{Read, Refusal, read}
use Rattle.sql_reader_grammar.specs.phrases.Steps.{Rest}
use Rattle.sql_reader_grammar.proofs.lemmas.phrases.OutcomeLemmas.{bind_ok, fits, fits_bind, fits_in, ok_inj, step_last}
use Rattle.sql_reader_grammar.proofs.Complete.{complete}
use Rattle.sql_reader_grammar.proofs.Room.{room}
use Rattle.sql_reader_grammar.proofs.SoundExprs.{sound_expr}
use Rattle.sql_reader_grammar.proofs.SoundStatements.{inner_sound}
use Rattle.sql_reader_grammar.proofs.Turns.{climb_stops}
use Rattle.sql_reader_grammar.specs.Queries.{Expresses}
use Rattle.sql_reader_grammar.specs.Reading.{expr, inner}
use Rattle.sql_reader_syntax.specs.ExprTree.{ExprTree}
use Rattle.sql_reader_creates.specs.IndexGrammar.{MaybePartial, has_query}
use Rattle.sql_reader_creates.specs.IndexReading.{condition, ended, predicate, whole}

ended_is : (t : ExprTree) (rest : Rest) (e : ExprTree) → ended t rest ≡ Ok e → (rest ≡ []) × (t ≡ e)
ended_is t [] e h = (refl, ok_inj t e h)
ended_is t (_ ∷ rest) e h = absurd cc

module _ (source : ℕ → ℕ → List ℕ) where
  expr_reads : {h : ℕ} {e : ExprTree} {ts : Rest} → Expresses source 1 h e ts [] → (d : ℕ)
      → whole (expr source d 1 ts) ≡ fits d h (Ok e)
  expr_reads {h = h} {e = e} x d =
      ap whole
      (complete source x d 1 (omega arith) (omega arith) (omega arith)
      ∙ ap (fits d h) (climb_stops source (inner source d) d d 1 (read e h []) (omega arith)))
      ∙ fits_bind d h (read e h []) (λ (x : Read ExprTree). ended x.tree x.rest)

  predicate_reads : {h : ℕ} {e : ExprTree} {ts : Rest} → has_query ts ≡ false → Expresses source 1 h e ts [] → (d : ℕ)
      → predicate source d ts ≡ fits d h (Ok e)
  unfolding predicate
  predicate_reads {ts = ts} none x d = cond-false (has_query ts) _ _ none ∙ expr_reads x d

  pub condition_reads : {h : ℕ} {c : Option ExprTree} {ts : Rest} → MaybePartial source h c ts → (d : ℕ)
      → condition source d ts ≡ fits d h (Ok c)
  condition_reads MaybePartial.whole d = sym (fits_in d 0 (Ok None) (omega arith))
  condition_reads (MaybePartial.partial {h = h} {e = e} {tokens = ts} none x) d =
      step_last d h (predicate source d ts) e (λ e. Ok (Some e)) (Some e) (predicate_reads none x d) refl

  pub condition_room : {h : ℕ} {c : Option ExprTree} {ts : Rest} → MaybePartial source h c ts → h ≤ length ts
  condition_room MaybePartial.whole = omega arith
  condition_room (MaybePartial.partial none x) = omega (arith, room source x)

  -- an expression that is all of the tokens
  pub record IsAll (d : ℕ) (e : ExprTree) (ts : Rest) : Type 0 where
    pub levels : ℕ
    pub few : levels ≤ d
    pub spelt : Expresses source 1 levels e ts []

  expr_sound : (d : ℕ) (ts : Rest) (e : ExprTree) → whole (expr source d 1 ts) ≡ Ok e → IsAll d e ts
  expr_sound d ts e h =
      let a = bind_ok (expr source d 1 ts) (λ x. ended x.tree x.rest) e h in
      let s = sound_expr source (inner source d) d (inner_sound source d) 1 ts a.0 (omega arith) a.1 in
      let n = ended_is a.0.tree a.0.rest e a.2 in
      record {
        levels = a.0.levels;
        few = s.1;
        spelt = subst (λ e. Expresses source 1 a.0.levels e ts []) n.1
            (subst (λ after. Expresses source 1 a.0.levels a.0.tree ts after) n.0 s.0.0);
      }

  tested : (d : ℕ) (ts : Rest) (e : ExprTree) (b : Bool) → has_query ts ≡ b
      → cond b (Err Refusal.Syntax) (whole (expr source d 1 ts)) ≡ Ok e → (has_query ts ≡ false) × IsAll d e ts
  tested d ts e true i h = absurd cc
  tested d ts e false i h = (i, expr_sound d ts e h)

  predicate_sound : (d : ℕ) (ts : Rest) (e : ExprTree) → predicate source d ts ≡ Ok e
      → (has_query ts ≡ false) × IsAll d e ts
  unfolding predicate
  predicate_sound d ts e h = tested d ts e (has_query ts) refl h

  pub condition_sound : (d : ℕ) (ts : Rest) (c : Option ExprTree) → condition source d ts ≡ Ok c
      → (h : ℕ) × (h ≤ d) × MaybePartial source h c ts
  condition_sound d [] c h =
      (0, omega arith, subst (λ c. MaybePartial source 0 c []) (ok_inj None c h) MaybePartial.whole)
  condition_sound d (Lexeme.Reserved k.Where ∷ ts) c h =
      let a = bind_ok (predicate source d ts) (λ e. Ok (Some e)) c h in
      let p = predicate_sound d ts a.0 a.1 in (
        p.1.levels,
        p.1.few,
        subst (λ c. MaybePartial source p.1.levels c (Lexeme.Reserved k.Where ∷ ts)) (ok_inj (Some a.0) c a.2)
            (MaybePartial.partial p.0 p.1.spelt),
      )
  condition_sound d _ c h = absurd cc
