-- What was read as an expression is one.
use Rattle.std.proofs.Common.{◌≡◌, Bool, true, ℕ, zero, suc, ◌<◌, ◌≤◌, max, List, ◌∷◌, length, Option, Some, None, Ok, Err, leb, ltb, refl, sym, ap, ◌∙◌, arith, subst}
use mathlib.Core.Logic.{inl, inr}
use Rattle.std.proofs.lemmas.Bool.{cases_lt, cond-false, cond-true, le-leb, le-ltb, lt-leb, lt-ltb}
use Rattle.sql_reader_tokens.specs.Lexeme.{Lexeme}
use Rattle.sql_reader_tokens.specs.declared.keywords.keyword.Keyword.TheVariants as k
use Rattle.sql_reader_tokens.specs.declared.sign.Sign.TheVariants as s
use Rattle.sql_reader_tokens.specs.declared.token.Quoting.{Quoting}
use Rattle.sql_reader_tokens.specs.declared.token.Quoting.TheVariants as q
use Rattle.sql_reader_grammar.specs.phrases.Outcomes.{Outcome, Read, Refusal, ◌>>=◌, kept_if, needed, read}
use Rattle.sql_reader_grammar.specs.phrases.Steps.{Rest, after_close, after_keyword, after_open, name}
use Rattle.sql_reader_grammar.proofs.lemmas.phrases.OutcomeLemmas.{bind_ok, ok_inj, some_inj}
use Rattle.sql_reader_grammar.proofs.lemmas.phrases.StepLemmas.{at_keyword, at_sign, kept, names, needed_some, needs_sign}
use Rattle.sql_reader_syntax.specs.ExprTree.{BehindTree, ExprTree, ExprTrees, MaybeExpr, trees_of}
use Rattle.sql_reader_syntax.specs.Functions.{function_of, takes, takes_number}
use Rattle.sql_reader_syntax.specs.Tree.{Name}
use Rattle.sql_reader_syntax.specs.declared.expr.Function.{Function}
use Rattle.sql_reader_syntax.specs.declared.expr.Function.TheVariants as f
use Rattle.sql_reader_grammar.specs.Fronts.{Following, Inside, Joint, Membership, Opening, binds, following, inside, joint, level_of_joint, membership, opening}
use Rattle.sql_reader_grammar.specs.Operators.{MaybeNot, level_of, level_of_prefix}
use Rattle.sql_reader_grammar.specs.Queries.{Expresses, ExpressesAll, ExpressesOperand, Queries, StandsBehind, nowhere}
use Rattle.sql_reader_grammar.specs.Reading.{Inner, a_name, arguments, arms, behind, both, called, choice, chosen, climb, closed, counted, expr, expr_by, extended, extended_at, flat, inner, joined, list, loosely, made, members, named, one, operand, operand_at, operand_of_case, otherwise, some}
use Rattle.sql_reader_grammar.proofs.Shape.{count_trees, level_small, loose, prefix_large}
use Rattle.sql_reader_grammar.proofs.SoundFronts.{Continues, HasMembers, Holds, IsFollowed, Opens, continues, followed, has_members, holds, opens}
use Rattle.sql_reader_grammar.proofs.SoundParts.{AllOf, AreArms, IsElse, enclosed_within, SoundInner, Stopped, arms_sound, behind_sound, list_sound, one_sound, operand_sound, otherwise_sound, some_sound}
use Rattle.sql_reader_grammar.proofs.SoundSteps.{Before, Both, Phrase, Sound, Within, sound_both, sound_closed, sound_flat, sound_less, sound_made}
use Rattle.sql_reader_grammar.proofs.Turns.{climb_stops, extended_full, extended_room}

is_loose : (ts us : Rest) → loosely ts ≡ Some us → (ts ≡ us) × (binds ts ≤ 4)
is_loose ts us h = elim (cases_lt 4 (binds ts)) [
  | inl l ↦
      absurd (let e = cond-false (leb (binds ts) 4) (let r : Option Rest = Some ts in r) None (lt-leb (binds ts) 4 l) in cc)
  | inr l ↦ (some_inj ts us (sym (cond-true (leb (binds ts) 4) (Some ts) None (le-leb (binds ts) 4 l)) ∙ h), l)
]

module _ (source : ℕ → ℕ → List ℕ) where
  -- what was read stands at some level, and no operator behind it binds tighter
  pub record StandsAt (d p : ℕ) (from : Rest) (x : Read ExprTree) : Type 0 where
    pub level : ℕ
    pub at_least : p ≤ level
    pub spelt : Expresses source level x.levels x.tree from x.rest
    pub behind : binds x.rest ≤ 9 → binds x.rest ≤ level
    pub within : x.levels ≤ d

  -- a phrase of the tightest level
  stands_alone : (d p : ℕ) (from : Rest) (x : Read ExprTree) → p ≤ 10 → Expresses source 11 x.levels x.tree from x.rest
      → x.levels ≤ d → StandsAt d p from x
  stands_alone d p from x small spelt within = record {
    level = 11;
    at_least = omega (arith, small);
    spelt = spelt;
    behind = λ l. omega (arith, l);
    within = within;
  }

  -- one of which each part stands in it
  stands_around : (d p : ℕ) (X : Phrase ExprTree) (from start : Rest) (x : Read ExprTree) → p ≤ 10
      → ((h : ℕ) (t : ExprTree) (after : Rest) → X h t start after → Expresses source 11 (suc h) t from after)
      → Within 1 X d start x → StandsAt d p from x
  stands_around d p X from start x small f w =
      stands_alone d p from x small
      (subst (λ n. Expresses source 11 n x.tree from x.rest)
      (let i = w.is in let l = w.least in let e : suc w.h ≡ x.levels = omega (arith, i, l) in e)
      (f w.h x.tree x.rest w.spelt)) w.within

  module _ (inner : Inner) (d : ℕ) (inside_is : SoundInner source inner d) where
    query_sound : (from : Rest) → Sound 1 (Queries source) d (inner.query from) from
    query_sound from x e = enclosed_within (Queries source) d from x (inside_is.query from x e)

    -- Calls

    counted_sound : (p : ℕ) (X : Phrase ExprTree) (r : Outcome (Read ExprTree)) (from start : Rest) (x : Read ExprTree) → p ≤ 10
        → ((h : ℕ) (t : ExprTree) (after : Rest) → X h t start after → Expresses source 11 (suc h) t from after)
        → Sound 0 X d r start → counted source inner d r ≡ Ok x → StandsAt d p from x
    counted_sound p X r from start x small f s e = elim (cases_lt 0 d) [
      | inl l ↦
          let a = bind_ok r (λ x. Ok (read x.tree (max 1 x.levels) x.rest)) x
          (sym (cond-true (ltb 0 d) (r >>= λ x. Ok (read x.tree (max 1 x.levels) x.rest)) (Err Refusal.Limit) (lt-ltb 0 d l)) ∙ e) in
          let w = s a.0 a.1 in
          subst (StandsAt d p from) (ok_inj (read a.0.tree (max 1 a.0.levels) a.0.rest) x a.2)
          (stands_around d p X from start (read a.0.tree (max 1 a.0.levels) a.0.rest) small f (record {
            h = w.h;
            is = omega (arith, w.is);
            least = omega arith;
            within = omega (arith, w.within, l);
            spelt = w.spelt;
          }))
      | inr l ↦
          absurd (let i = cond-false (ltb 0 d) (r >>= λ x. Ok (read x.tree (max 1 x.levels) x.rest)) (Err Refusal.Limit) (le-ltb 0 d l) in cc)
    ]

    -- a tree around what stands behind a call
    abbrev pub Around : (BehindTree → ExprTree) → Phrase ExprTree
    Around g h t from after = (b : BehindTree) × (t ≡ g b) × StandsBehind source h b from after

    around_sound : (g : BehindTree → ExprTree) (ts : Rest) → Sound 0 (Around g) d (made g (behind source inner d ts)) ts
    around_sound g ts =
        sound_made 0 (StandsBehind source) (Around g) d g (behind source inner d ts) ts (λ h b after x. (b, refl, x))
        (behind_sound source inner d inside_is ts)

    call_is : (word : Name) (function : Function) (h i : ℕ) (es : List ExprTree) (b : BehindTree) (ts rest after : Rest)
        → function_of word ≡ Some function → takes function (length es) ≡ true
        → ExpressesAll source (takes_number function) 0 h (trees_of es) ts (Lexeme.Punctuation s.Close ∷ rest)
        → StandsBehind source i b rest after
        → Expresses source 11 (suc (max h i)) (ExprTree.Call function (trees_of es) b)
        (Lexeme.Name q.Bare word ∷ Lexeme.Punctuation s.Open ∷ ts) after
    call_is word function h i es b ts rest after is enough xs y =
        Expresses.call is xs (ap (takes function) (count_trees es) ∙ enough) y

    sound_arguments : (p : ℕ) (word : Name) (function : Function) (ts : Rest) (j : Inside) (x : Read ExprTree) → p ≤ 10
        → function_of word ≡ Some function → Holds ts j → arguments source inner d function ts j ≡ Ok x
        → StandsAt d p (Lexeme.Name q.Bare word ∷ Lexeme.Punctuation s.Open ∷ ts) x
    sound_arguments p word function _ _ x small is (Holds.closed {after = after}) e =
        let a = bind_ok (kept_if (takes function 0) after)
        (λ rest. counted source inner d (made (λ b. ExprTree.Call function ExprTrees.No_more b) (behind source inner d rest))) x e in
        let t = kept (takes function 0) after a.0 a.1 in
        counted_sound p (Around (λ b. ExprTree.Call function ExprTrees.No_more b))
        (made (λ b. ExprTree.Call function ExprTrees.No_more b) (behind source inner d after)) _ after x small
        (λ h tree end r. subst (λ tree. Expresses source 11 (suc h) tree
        (Lexeme.Name q.Bare word ∷ Lexeme.Punctuation s.Open ∷ Lexeme.Punctuation s.Close ∷ after) end) (sym r.1)
        (Expresses.call_none is t.0 r.2))
        (around_sound (λ b. ExprTree.Call function ExprTrees.No_more b) after)
        (ap (λ rest. counted source inner d (made (λ b. ExprTree.Call function ExprTrees.No_more b) (behind source inner d rest))) t.1 ∙ a.2)
    sound_arguments p word f.Count _ _ x small is (Holds.star {after = after}) e =
        let a = bind_ok (needed (after_close after))
        (λ rest. counted source inner d (made (λ b. ExprTree.CountRows b) (behind source inner d rest))) x e in
        counted_sound p (Around (λ b. ExprTree.CountRows b)) (made (λ b. ExprTree.CountRows b) (behind source inner d a.0)) _ a.0
        x small
        (λ h t end r. subst (λ t. Expresses source 11 (suc h) t
        (Lexeme.Name q.Bare word ∷ Lexeme.Punctuation s.Open ∷ Lexeme.Punctuation s.Star ∷ after) end) (sym r.1)
        (subst
        (λ us. Expresses source 11 (suc h) (ExprTree.CountRows r.0)
        (Lexeme.Name q.Bare word ∷ Lexeme.Punctuation s.Open ∷ Lexeme.Punctuation s.Star ∷ us) end)
        (sym (needs_sign s.Close after a.0 a.1)) (Expresses.count_rows is r.2)))
        (around_sound (λ b. ExprTree.CountRows b) a.0) a.2
    sound_arguments p word function _ _ x small is Holds.star e = absurd cc
    sound_arguments p word function ts _ x small is Holds.arguments e =
        let a = bind_ok (closed after_close (list source inner d (takes_number function) ts))
        (λ xs. kept_if (takes function (length xs.tree)) xs.rest >>= λ rest. behind source inner d rest
        >>= λ b. Ok (read (ExprTree.Call function (trees_of xs.tree) b.tree) (max xs.levels b.levels) b.rest)) x e in
        let b = bind_ok (kept_if (takes function (length a.0.tree)) a.0.rest)
        (λ rest. behind source inner d rest
        >>= λ b. Ok (read (ExprTree.Call function (trees_of a.0.tree) b.tree) (max a.0.levels b.levels) b.rest)) x a.2 in
        let c = bind_ok (behind source inner d b.0)
        (λ b. Ok (read (ExprTree.Call function (trees_of a.0.tree) b.tree) (max a.0.levels b.levels) b.rest)) x b.2 in
        let t = kept (takes function (length a.0.tree)) a.0.rest b.0 b.1 in
        let v = sound_closed 1 (AllOf source inner d inside_is (takes_number function) 0) d after_close (Lexeme.Punctuation s.Close)
        (list source inner d (takes_number function) ts) ts (λ us vs h. at_sign s.Close us vs h)
        (list_sound source inner d inside_is (takes_number function) ts) a.0 a.1 in
        let w = behind_sound source inner d inside_is b.0 c.0 c.1 in
        let from : Rest = Lexeme.Name q.Bare word ∷ Lexeme.Punctuation s.Open ∷ ts in
        subst (StandsAt d p from)
        (ok_inj (read (ExprTree.Call function (trees_of a.0.tree) c.0.tree) (max a.0.levels c.0.levels) c.0.rest) x c.2)
        (stands_alone d p from
        (read (ExprTree.Call function (trees_of a.0.tree) c.0.tree) (max a.0.levels c.0.levels) c.0.rest) small
        (subst (λ n. Expresses source 11 n (ExprTree.Call function (trees_of a.0.tree) c.0.tree) from c.0.rest)
        (let i = v.is in let j = v.least in let l = w.is in
        let e : suc (max v.h w.h) ≡ max a.0.levels c.0.levels = omega (arith, i, j, l) in e)
        (call_is word function v.h w.h a.0.tree c.0.tree ts b.0 c.0.rest is t.0
        (subst (λ us. ExpressesAll source (takes_number function) 0 v.h (trees_of a.0.tree) ts (Lexeme.Punctuation s.Close ∷ us)) t.1 v.spelt)
        w.spelt))
        (let i = v.within in let j = w.within in omega (arith, i, j)))

    sound_called : (p : ℕ) (word : Name) (o : Option Function) (ts : Rest) (x : Read ExprTree) → p ≤ 10
        → function_of word ≡ o → called source inner d o ts ≡ Ok x
        → StandsAt d p (Lexeme.Name q.Bare word ∷ Lexeme.Punctuation s.Open ∷ ts) x
    sound_called p word None ts x small is h = absurd cc
    sound_called p word (Some function) ts x small is h =
        sound_arguments p word function ts (inside ts) x small is (holds ts) h

    sound_named : (p : ℕ) (r : Quoting) (word : Name) (ts : Rest) (j : Following) (x : Read ExprTree) → p ≤ 10
        → IsFollowed ts j → named source inner d r word ts j ≡ Ok x → StandsAt d p (Lexeme.Name r word ∷ ts) x
    sound_named p q.Bare word _ _ x small (IsFollowed.call {after = after}) h =
        sound_called p word (function_of word) after x small refl h
    sound_named p q.DoubleQuotes word _ _ x small IsFollowed.call h = absurd cc
    sound_named p q.Brackets word _ _ x small IsFollowed.call h = absurd cc
    sound_named p q.Backquotes word _ _ x small IsFollowed.call h = absurd cc
    sound_named p r word _ _ x small (IsFollowed.dot {after = after}) h =
        let a = bind_ok (a_name after) (λ x. Ok (read (ExprTree.Column (Some word) x.tree) x.levels x.rest)) x h in
        let b = bind_ok (needed (name after)) flat a.0 a.1 in
        let n = names after b.0 b.1 in
        let from : Rest = Lexeme.Name r word ∷ Lexeme.Punctuation s.Dot ∷ after in
        subst (StandsAt d p from)
        (ap (λ (r : Read Name). read (ExprTree.Column (Some word) r.tree) r.levels r.rest) (ok_inj (read b.0.0 0 b.0.1) a.0 b.2)
        ∙ ok_inj (read (ExprTree.Column (Some word) a.0.tree) a.0.levels a.0.rest) x a.2)
        (stands_alone d p from (read (ExprTree.Column (Some word) b.0.0) 0 b.0.1) small
        (subst
        (λ t. Expresses source 11 0 (ExprTree.Column (Some word) b.0.0)
        (Lexeme.Name r word ∷ Lexeme.Punctuation s.Dot ∷ t) b.0.1)
        (sym n.1) Expresses.column_of)
        (omega arith))
    sound_named p r word ts _ x small IsFollowed.other h =
        subst (StandsAt d p (Lexeme.Name r word ∷ ts)) (ok_inj (read (ExprTree.Column None word) 0 ts) x h)
        (stands_alone d p (Lexeme.Name r word ∷ ts) (read (ExprTree.Column None word) 0 ts) small Expresses.column
        (omega arith))

    -- CASE

    chosen_is : (h : ℕ) (t : MaybeExpr × (List (ExprTree × ExprTree) × MaybeExpr)) (from after : Rest)
        → Both (Before (Lexeme.Reserved k.When) (ExpressesOperand source))
        (Before (Lexeme.Reserved k.End) (Both (AreArms source inner d inside_is 0) (IsElse source inner d inside_is))) h t from after
        → Expresses source 11 (suc h) (chosen source inner d t) (Lexeme.Reserved k.Case ∷ from) after
    chosen_is h t from after b =
        let i = b.is in let j = b.rest.is in
        subst (λ n. Expresses source 11 (suc n) (chosen source inner d t) (Lexeme.Reserved k.Case ∷ from) after)
        (let e : max b.i (max b.rest.i b.rest.j) ≡ h = omega (arith, i, j) in e)
        (Expresses.choice b.front b.rest.front (b.rest.rest after refl))

    choice_sound : (p : ℕ) (ts : Rest) (x : Read ExprTree) → p ≤ 10 → choice source inner d ts ≡ Ok x
        → StandsAt d p (Lexeme.Reserved k.Case ∷ ts) x
    unfolding choice
    choice_sound p ts x small e =
        stands_around d p
        (λ h t from after. Expresses source 11 (suc h) t (Lexeme.Reserved k.Case ∷ from) after) (Lexeme.Reserved k.Case ∷ ts) ts x
        small (λ h t after s. s)
        (sound_made (max 0 (max 1 0))
        (Both (Before (Lexeme.Reserved k.When) (ExpressesOperand source))
        (Before (Lexeme.Reserved k.End) (Both (AreArms source inner d inside_is 0) (IsElse source inner d inside_is))))
        (λ h t from after. Expresses source 11 (suc h) t (Lexeme.Reserved k.Case ∷ from) after) d (chosen source inner d)
        (both (closed (λ rest. after_keyword k.When rest) (operand_of_case source inner d ts (after_keyword k.When ts)))
        (λ whens. closed (after_keyword k.End) (both (arms source inner d whens) (otherwise source inner d)))) ts
        (λ h t after b. chosen_is h t ts after b)
        (sound_both 0 (max 1 0) (Before (Lexeme.Reserved k.When) (ExpressesOperand source))
        (Before (Lexeme.Reserved k.End) (Both (AreArms source inner d inside_is 0) (IsElse source inner d inside_is))) d
        (closed (λ rest. after_keyword k.When rest) (operand_of_case source inner d ts (after_keyword k.When ts)))
        (λ whens. closed (after_keyword k.End) (both (arms source inner d whens) (otherwise source inner d))) ts
        (sound_closed 0 (ExpressesOperand source) d (λ rest. after_keyword k.When rest) (Lexeme.Reserved k.When)
        (operand_of_case source inner d ts (after_keyword k.When ts)) ts (λ us vs h. at_keyword k.When us vs h)
        (operand_sound source inner d inside_is ts (after_keyword k.When ts)))
        (λ whens. sound_closed (max 1 0) (Both (AreArms source inner d inside_is 0) (IsElse source inner d inside_is)) d
        (after_keyword k.End) (Lexeme.Reserved k.End) (both (arms source inner d whens) (otherwise source inner d)) whens
        (λ us vs h. at_keyword k.End us vs h)
        (sound_both 1 0 (AreArms source inner d inside_is 0) (IsElse source inner d inside_is) d (arms source inner d whens)
        (otherwise source inner d) whens (arms_sound source inner d inside_is whens) (otherwise_sound source inner d inside_is)))) x e)

    -- Operands

    sound_operand_at : (p : ℕ) (from : Rest) (j : Opening) (x : Read ExprTree) → p ≤ 10 → Opens from j
        → operand_at source inner d p j ≡ Ok x → StandsAt d p from x
    unfolding operand_at
    sound_operand_at p _ _ x small (Opens.value {e = e} {word = word} {after = after} w) h =
        subst (StandsAt d p (word ∷ after)) (ok_inj (read e 0 after) x h)
        (stands_alone d p (word ∷ after) (read e 0 after) small (Expresses.literal w) (omega arith))
    sound_operand_at p _ _ x small (Opens.word {q = r} {n = n} {after = after}) h =
        sound_named p r n after (following after) x small (followed after) h
    sound_operand_at p _ _ x small (Opens.operator {op = op} {word = word} {after = after} w) h =
        elim (cases_lt (level_of_prefix op) p) [
          | inl l ↦
              absurd (let e = cond-false (leb p (level_of_prefix op))
              (made (λ e. ExprTree.Prefix op e) (inner.expr (level_of_prefix op) after))
              (Err Refusal.Syntax) (lt-leb p (level_of_prefix op) l) in cc)
          | inr l ↦
              let a = bind_ok (inner.expr (level_of_prefix op) after)
              (λ x. Ok (read (ExprTree.Prefix op x.tree) x.levels x.rest)) x
              (sym (cond-true (leb p (level_of_prefix op))
              (made (λ e. ExprTree.Prefix op e) (inner.expr (level_of_prefix op) after))
              (Err Refusal.Syntax) (le-leb p (level_of_prefix op) l)) ∙ h) in
              let i = inside_is.expr (level_of_prefix op) after a.0 ((prefix_large op).1) a.1 in
              subst (StandsAt d p (word ∷ after)) (ok_inj (read (ExprTree.Prefix op a.0.tree) a.0.levels a.0.rest) x a.2) (record {
                level = level_of_prefix op;
                at_least = l;
                spelt = subst (λ n. Expresses source (level_of_prefix op) n (ExprTree.Prefix op a.0.tree) (word ∷ after) a.0.rest)
                    (sym i.is) (Expresses.prefix w i.spelt.0);
                behind = λ b. let stop = i.spelt.1 in omega (arith, stop);
                within = let e = i.is in let f = i.within in omega (arith, e, f);
              })
        ]
    sound_operand_at p _ _ x small (Opens.parenthesis {after = after}) h =
        stands_around d p (Before (Lexeme.Punctuation s.Close) (Expresses source 1)) (Lexeme.Punctuation s.Open ∷ after) after x small
        (λ h t end y. Expresses.parentheses y)
        (sound_closed 1 (Expresses source 1) d after_close (Lexeme.Punctuation s.Close) (one source inner d after) after
        (λ us vs h. at_sign s.Close us vs h) (one_sound source inner d inside_is after) x h)
    sound_operand_at p _ _ x small (Opens.choice {after = after}) h = choice_sound p after x small h
    sound_operand_at p _ _ x small (Opens.existence {after = after}) h =
        stands_around d p
        (λ h t from end. Expresses source 11 (suc h) t (Lexeme.Reserved k.Exists ∷ Lexeme.Punctuation s.Open ∷ from) end) _ after x
        small (λ h t end y. y)
        (sound_made 1 (Before (Lexeme.Punctuation s.Close) (Queries source))
        (λ h t from end. Expresses source 11 (suc h) t (Lexeme.Reserved k.Exists ∷ Lexeme.Punctuation s.Open ∷ from) end) d
        (λ query. ExprTree.Exists query) (closed after_close (inner.query after)) after (λ h t end y. Expresses.exists y)
        (sound_closed 1 (Queries source) d after_close (Lexeme.Punctuation s.Close) (inner.query after) after
        (λ us vs h. at_sign s.Close us vs h) (query_sound after)) x h)
    sound_operand_at p _ _ x small Opens.nothing h = absurd cc

    sound_operand : (p : ℕ) (from : Rest) (x : Read ExprTree) → p ≤ 10 → operand source inner d p from ≡ Ok x
        → StandsAt d p from x
    sound_operand p from x small h = sound_operand_at p from (opening from) x small (opens from) h

    -- Operators

    -- an operator behind its left operand
    joined_sound : (p h : ℕ) (X : Phrase ExprTree) (e : ExprTree) (from mid start : Rest) (r : Outcome (Read ExprTree))
        (x : Read ExprTree) (level : ℕ) → p ≤ level → h < d
        → ((i : ℕ) (t : ExprTree) (after : Rest) → X i t start after → Expresses source level (suc (max h i)) t from after
        × (binds after ≤ 9 → binds after ≤ level))
        → Sound 0 X d r start → joined source inner d (read e h mid) r ≡ Ok x → StandsAt d p from x
    joined_sound p h X e from mid start r x level least room f s i =
        let a = bind_ok r (λ y. Ok (read y.tree (max (suc h) y.levels) y.rest)) x i in
        let w = s a.0 a.1 in
        let y = f w.h a.0.tree a.0.rest w.spelt in
        subst (StandsAt d p from) (ok_inj (read a.0.tree (max (suc h) a.0.levels) a.0.rest) x a.2) (record {
          level = level;
          at_least = least;
          spelt = subst (λ n. Expresses source level n a.0.tree from a.0.rest)
              (let j = w.is in let g : suc (max h w.h) ≡ max (suc h) a.0.levels = omega (arith, j) in g) y.0;
          behind = y.1;
          within = let j = w.within in omega (arith, room, j);
        })

    -- an inner phrase of level p, with what stands behind it
    stopped_sound : (p : ℕ) (from : Rest) → p ≤ 10 → Sound 1 (Stopped source p) d (inner.expr p from) from
    stopped_sound p from small x e = enclosed_within (Stopped source p) d from x (inside_is.expr p from x small e)

    -- what stands in the parentheses of IN and behind them
    abbrev pub IsMember : (ℕ → ExprTree → Rest → Type 0) → Phrase ExprTree
    IsMember X i t from after = X i t after × (binds after ≤ 4)

    sound_members : (n : Bool) (h : ℕ) (e : ExprTree) (from mid ts : Rest) (j : Membership) → HasMembers ts j
        → MaybeNot k.In n mid (Lexeme.Punctuation s.Open ∷ ts) → Expresses source 4 h e from mid
        → Sound 0 (λ i t us after. Expresses source 4 (suc (max h i)) t from after) d (members source inner d n (read e h mid) ts j) ts
    sound_members n h e from mid _ _ (HasMembers.empty {after = after}) m front x i =
        sound_flat (λ i t us after. Expresses source 4 (suc (max h i)) t from after) d _ after
        (ExprTree.In n e ExprTrees.No_more) x i
        (subst (λ l. Expresses source 4 (suc l) (ExprTree.In n e ExprTrees.No_more) from after)
        (let g : h ≡ max h 0 = omega arith in g) (Expresses.in_none front m))
    sound_members n h e from mid ts _ HasMembers.query m front x i =
        sound_less 1 0 (λ i t us after. Expresses source 4 (suc (max h i)) t from after) d ts x (omega arith)
        (sound_made 1 (Before (Lexeme.Punctuation s.Close) (Queries source))
        (λ i t us after. Expresses source 4 (suc (max h i)) t from after) d (λ query. ExprTree.InQuery n e query)
        (closed after_close (inner.query ts)) ts (λ i t after y. Expresses.in_query front m y)
        (sound_closed 1 (Queries source) d after_close (Lexeme.Punctuation s.Close) (inner.query ts) ts
        (λ us vs h. at_sign s.Close us vs h) (query_sound ts)) x i)
    sound_members n h e from mid ts _ HasMembers.members m front x i =
        sound_less 1 0 (λ i t us after. Expresses source 4 (suc (max h i)) t from after) d ts x (omega arith)
        (sound_made 1 (Before (Lexeme.Punctuation s.Close) (ExpressesAll source nowhere 0))
        (λ i t us after. Expresses source 4 (suc (max h i)) t from after) d (λ es. ExprTree.In n e es)
        (closed after_close (some source inner d ts)) ts (λ i t after y. Expresses.in_list front m y)
        (sound_closed 1 (ExpressesAll source nowhere 0) d after_close (Lexeme.Punctuation s.Close) (some source inner d ts) ts
        (λ us vs h. at_sign s.Close us vs h) (some_sound source inner d inside_is ts)) x i)

    -- what was read goes on with nothing tighter
    loose_sound : (X : Phrase ExprTree) (r : Outcome (Read ExprTree)) (ts : Rest) → Sound 0 X d r ts
        → Sound 0 (λ i t us after. X i t us after × (binds after ≤ 4)) d (closed loosely r) ts
    loose_sound X r ts s z e =
        let a = bind_ok r (λ x. needed (loosely x.rest) >>= λ rest. Ok (read x.tree x.levels rest)) z e in
        let b = bind_ok (needed (loosely a.0.rest)) (λ rest. Ok (read a.0.tree a.0.levels rest)) z a.2 in
        let w = s a.0 a.1 in
        let l = is_loose a.0.rest b.0 (needed_some (loosely a.0.rest) b.0 b.1) in
        subst (Within 0 (λ i t us after. X i t us after × (binds after ≤ 4)) d ts)
        (ap (λ rest. read a.0.tree a.0.levels rest) l.0 ∙ ok_inj (read a.0.tree a.0.levels b.0) z b.2)
        (record { h = w.h; is = w.is; least = w.least; within = w.within; spelt = (w.spelt, l.1) })

    sound_extended_at : (p r h : ℕ) (e : ExprTree) (from mid : Rest) (j : Joint) (x : Read ExprTree)
        → p ≤ level_of_joint j → (level_of_joint j ≤ 9 → level_of_joint j ≤ r) → h < d → Continues mid j
        → Expresses source r h e from mid → extended_at source inner d (read e h mid) j ≡ Ok x → StandsAt d p from x
    unfolding extended_at
    sound_extended_at p r h e from mid (Joint.Binary op ts) x one two room (Continues.binary c) s g =
        joined_sound p h (λ i t us after. (b : ExprTree) × (t ≡ ExprTree.Binary op e b) × Stopped source (suc (level_of op)) i b us after)
        e from mid ts _ x (level_of op) one room
        (λ i t after y. (
          subst (λ t. Expresses source (level_of op) (suc (max h i)) t from after) (sym y.1)
              (Expresses.binary (loose source (two (level_small op)) s) c y.2.0),
          λ b. let stop = y.2.1 in omega (arith, stop),
        ))
        (λ z q. sound_less 1 0 _ d ts z (omega arith)
        (sound_made 1 (Stopped source (suc (level_of op)))
        (λ i t us after. (b : ExprTree) × (t ≡ ExprTree.Binary op e b) × Stopped source (suc (level_of op)) i b us after) d
        (λ b. ExprTree.Binary op e b) (inner.expr (suc (level_of op)) ts) ts (λ i b after y. (b, refl, y))
        (stopped_sound (suc (level_of op)) ts (let l = level_small op in omega (arith, l))) z q)) g
    sound_extended_at p r h e from mid (Joint.Between n ts) x one two room (Continues.between c) s g =
        joined_sound p h
        (λ i t us after. (a : ExprTree × ExprTree) × (t ≡ ExprTree.Between n e a.0 a.1)
        × Both (Before (Lexeme.Reserved k.And) (Stopped source 5)) (Stopped source 5) i a us after)
        e from mid ts _ x 4 one room
        (λ i t after y.
        let b = y.2 in (
          subst (λ t. Expresses source 4 (suc (max h i)) t from after) (sym y.1)
              (subst (λ l. Expresses source 4 (suc (max h l)) (ExprTree.Between n e y.0.0 y.0.1) from after) (sym b.is)
              (Expresses.between (loose source (two (omega arith)) s) c b.front.0 b.rest.0)),
          λ q. let stop = b.rest.1 in omega (arith, stop),
        ))
        (λ z q. sound_less (max 1 1) 0 _ d ts z (omega arith)
        (sound_made (max 1 1) (Both (Before (Lexeme.Reserved k.And) (Stopped source 5)) (Stopped source 5))
        (λ i t us after. (a : ExprTree × ExprTree) × (t ≡ ExprTree.Between n e a.0 a.1)
        × Both (Before (Lexeme.Reserved k.And) (Stopped source 5)) (Stopped source 5) i a us after) d
        (λ (r : ExprTree × ExprTree). ExprTree.Between n e r.0 r.1)
        (both (closed (after_keyword k.And) (inner.expr 5 ts)) (inner.expr 5)) ts (λ i a after y. (a, refl, y))
        (sound_both 1 1 (Before (Lexeme.Reserved k.And) (Stopped source 5)) (Stopped source 5) d
        (closed (after_keyword k.And) (inner.expr 5 ts)) (inner.expr 5) ts
        (sound_closed 1 (Stopped source 5) d (after_keyword k.And) (Lexeme.Reserved k.And) (inner.expr 5 ts) ts
        (λ us vs h. at_keyword k.And us vs h) (stopped_sound 5 ts (omega arith)))
        (λ mid. stopped_sound 5 mid (omega arith))) z q)) g
    sound_extended_at p r h e from mid (Joint.In n ts) x one two room (Continues.within c) front g =
        let a = bind_ok (needed (after_open ts))
        (λ rest. joined source inner d (read e h mid) (closed loosely (members source inner d n (read e h mid) rest (membership rest)))) x g in
        joined_sound p h (λ i t us after. Expresses source 4 (suc (max h i)) t from after × (binds after ≤ 4)) e from mid a.0
        (closed loosely (members source inner d n (read e h mid) a.0 (membership a.0))) x 4 one room
        (λ i t after y. (y.0, λ b. y.1))
        (loose_sound (λ i t us after. Expresses source 4 (suc (max h i)) t from after)
        (members source inner d n (read e h mid) a.0 (membership a.0)) a.0
        (sound_members n h e from mid a.0 (membership a.0) (has_members a.0)
        (subst (λ us. MaybeNot k.In n mid us) (needs_sign s.Open ts a.0 a.1) c) (loose source (two (omega arith)) front))) a.2
    sound_extended_at p r h e from _ (Joint.Postfix op ts) x one two room (Continues.postfix c) s g =
        let a = bind_ok (needed (loosely ts)) (λ rest. Ok (read (ExprTree.Postfix op e) (suc h) rest)) x g in
        let l = is_loose ts a.0 (needed_some (loosely ts) a.0 a.1) in
        subst (StandsAt d p from)
        (ap (λ r. read (ExprTree.Postfix op e) (suc h) r) l.0 ∙ ok_inj (read (ExprTree.Postfix op e) (suc h) a.0) x a.2) (record {
          level = 4;
          at_least = one;
          spelt = Expresses.postfix (loose source (two (omega arith)) s) c;
          behind = λ b. l.1;
          within = room;
        })
    sound_extended_at p r h e from mid Joint.Dangling x one two room c s g = absurd cc
    sound_extended_at p r h e from mid Joint.Tight x one two room c s g = absurd cc
    sound_extended_at p r h e from mid Joint.Stop x one two room c s g = absurd cc

    sound_extended : (p : ℕ) (from : Rest) (x y : Read ExprTree) → p ≤ binds x.rest → StandsAt d p from x
        → extended source inner d x ≡ Ok y → StandsAt d p from y
    sound_extended p from x y one s h = elim (cases_lt x.levels d) [
      | inl l ↦
          sound_extended_at p s.level x.levels x.tree from x.rest (joint x.rest) y one s.behind l (continues x.rest)
          s.spelt (sym (extended_room source inner d x l) ∙ h)
      | inr l ↦ absurd (let e = extended_full source inner d x l in cc)
    ]

    climb_end : (n p : ℕ) (from : Rest) (x y : Read ExprTree) → StandsAt d p from x → climb source inner d n p x ≡ Ok y
        → binds x.rest < p → StandsAt d p from y × (binds y.rest < p)
    climb_end n p from x y s h l =
        let e = ok_inj x y (sym (climb_stops source inner d n p x l) ∙ h) in
        (subst (StandsAt d p from) e s, subst (λ (r : Read ExprTree). binds r.rest < p) e l)

    sound_climb : (n p : ℕ) (from : Rest) (x y : Read ExprTree) → StandsAt d p from x → climb source inner d n p x ≡ Ok y
        → StandsAt d p from y × (binds y.rest < p)
    unfolding climb
    sound_climb zero p from x y s h = elim (cases_lt (binds x.rest) p) [
      | inl l ↦ climb_end zero p from x y s h l
      | inr l ↦
          absurd (let e = cond-true (leb p (binds x.rest)) (Err Refusal.Limit)
          (let r : Outcome (Read ExprTree) = Ok x in r) (le-leb p (binds x.rest) l) in cc)
    ]
    sound_climb (suc n) p from x y s h = elim (cases_lt (binds x.rest) p) [
      | inl l ↦ climb_end (suc n) p from x y s h l
      | inr l ↦
          let a = bind_ok (extended source inner d x) (climb source inner d n p) y
          (sym (cond-true (leb p (binds x.rest)) (extended source inner d x >>= climb source inner d n p) (Ok x)
          (le-leb p (binds x.rest) l)) ∙ h) in
          sound_climb n p from a.0 y (sound_extended p from x a.0 l s a.1) a.2
    ]

    -- an expression of at most d levels
    pub sound_expr : (p : ℕ) (from : Rest) (x : Read ExprTree) → p ≤ 10 → expr_by source inner d p from ≡ Ok x
        → Stopped source p x.levels x.tree from x.rest × (x.levels ≤ d)
    unfolding expr_by
    sound_expr p from x small h =
        let a = bind_ok (operand source inner d p from) (climb source inner d d p) x h in
        let t = sound_climb d p from a.0 x (sound_operand p from a.0 small a.1) a.2 in
        ((loose source t.0.at_least t.0.spelt, t.1), t.0.within)
