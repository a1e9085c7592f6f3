-- What a phrase comes to, in one more construct and as a tree of its kind.
use Rattle.std.proofs.Common.{◌≡◌, ℕ, suc, List, Ok, Err, refl, sym, ap, ◌∙◌}
use Rattle.values.specs.declared.fault.Fault.{Fault}
use Rattle.values.specs.declared.fault.Fault.TheVariants as f
use Rattle.sql_reader_grammar.specs.Reading.{inner, made}
use Rattle.sql_reader.specs.nested_reader.Phrases.{PhraseTree, phrase_by, phrase_in, setting_of}
use Rattle.sql_reader.specs.declared.nested_reader.sources.Source.{Source}
use Rattle.sql_reader.specs.declared.nested_reader.trees.Phrase.{Phrase}
use Rattle.sql_reader.specs.declared.nested_reader.trees.Phrase.TheVariants as p
use Rattle.sql_reader_grammar.specs.phrases.Outcomes.{Fails, Outcome, Read, Refusal, ◌>>=◌, read}
use Rattle.sql_reader_grammar.specs.phrases.Steps.{Rest}
use Rattle.sql_reader_grammar.proofs.lemmas.phrases.OutcomeLemmas.{fails_along, fails_bind, ok_inj}
use Rattle.sql_reader_syntax.specs.ExprTree.{CoreTree, ExprTree, QueryTree}
use Rattle.sql_reader_exprs.specs.window_reader.Setting.{Setting}

-- one construct more
abbrev raise : {A : Type 0} → Outcome (Read A) → Outcome (Read A)
raise r = r >>= λ x. Ok (read x.tree (suc x.levels) x.rest)

made_raised : {A B : Type 0} (g : A → B) (r : Outcome (Read A)) → made g (raise r) ≡ raise (made g r)
made_raised g (Ok x) = refl
made_raised g (Err e) = refl

raised : (source : ℕ → ℕ → List ℕ) (d : ℕ) (phrase : Phrase) (ts : Rest)
    → phrase_in (let s : Setting = record { source = source; depth = suc d } in s) phrase ts
    ≡ raise (phrase_by (let s : Setting = record { source = source; depth = d } in s) phrase ts)
unfolding inner
raised source d (p.Expr least) ts = made_raised (λ e. PhraseTree.Expr e) _
raised source d p.Select ts = made_raised (λ c. PhraseTree.Select c) _
raised source d p.Query ts = made_raised (λ q. PhraseTree.Query q) _

deeper : (s : Source) (depth below : ℕ) (phrase : Phrase) (ts : Rest) → depth ≡ suc below
    → phrase_in (setting_of s depth) phrase ts ≡ raise (phrase_by (setting_of s below) phrase ts)
deeper s depth below phrase ts e =
    ap (λ d. phrase_in (setting_of s d) phrase ts) e ∙ raised (setting_of s below).source below phrase ts

pub phrase_err : (s : Source) (depth below : ℕ) (phrase : Phrase) (ts : Rest) (e : Fault) → depth ≡ suc below
    → Fails e (phrase_by (setting_of s below) phrase ts) → Fails e (phrase_in (setting_of s depth) phrase ts)
phrase_err s depth below phrase ts e is h =
    fails_along e (raise (phrase_by (setting_of s below) phrase ts)) (phrase_in (setting_of s depth) phrase ts)
    (sym (deeper s depth below phrase ts is)) (fails_bind e (phrase_by (setting_of s below) phrase ts) _ h)

pub phrase_ok : (s : Source) (depth below : ℕ) (phrase : Phrase) (ts : Rest) (x : Read PhraseTree) → depth ≡ suc below
    → phrase_by (setting_of s below) phrase ts ≡ Ok x
    → phrase_in (setting_of s depth) phrase ts ≡ Ok (read x.tree (suc x.levels) x.rest)
phrase_ok s depth below phrase ts x is h = deeper s depth below phrase ts is ∙ ap raise h

pub phrase_limit : (s : Source) (depth : ℕ) (phrase : Phrase) (ts : Rest) → depth ≡ 0
    → phrase_in (setting_of s depth) phrase ts ≡ Err Refusal.Limit
unfolding inner
phrase_limit s depth (p.Expr least) ts e = ap (λ d. phrase_in (setting_of s d) (p.Expr least) ts) e
phrase_limit s depth p.Select ts e = ap (λ d. phrase_in (setting_of s d) p.Select ts) e
phrase_limit s depth p.Query ts e = ap (λ d. phrase_in (setting_of s d) p.Query ts) e

-- A tree of its kind

pub made_err : {A B : Type 0} (g : A → B) (r : Outcome (Read A)) (e : Fault) → Fails e (made g r) → Fails e r
made_err g (Err x) (f.Syntax place) h = cc
made_err g (Err x) f.Limit h = cc
made_err g (Err x) f.NoMemory h = tt
made_err g (Err x) _ h = absurd h
made_err g (Ok x) (f.Syntax place) h = absurd cc
made_err g (Ok x) f.Limit h = absurd cc
made_err g (Ok x) f.NoMemory h = tt
made_err g (Ok x) _ h = absurd h

made_ok : {A B : Type 0} (g : A → B) → ((x y : A) → g x ≡ g y → x ≡ y) → (r : Outcome (Read A)) (t : A) (h : ℕ)
    (rest : Rest) → made g r ≡ Ok (read (g t) h rest) → r ≡ Ok (read t h rest)
made_ok g inj (Ok x) t h rest i =
    let e = ok_inj (read (g x.tree) x.levels x.rest) (read (g t) h rest) i in
    ap (λ t. Ok (read t x.levels x.rest)) (inj x.tree t (ap (λ (r : Read _). r.tree) e))
    ∙ (ap (λ n. Ok (read t n x.rest)) (ap (λ (r : Read _). r.levels) e)
    ∙ ap (λ ts. Ok (read t h ts)) (ap (λ (r : Read _). r.rest) e))
made_ok g inj (Err e) t h rest i = absurd cc

made_other : {A B : Type 0} (g : A → B) (other : B) → ((x : A) → g x ≡ other → ⊥) → (r : Outcome (Read A)) (h : ℕ)
    (rest : Rest) → made g r ≡ Ok (read other h rest) → ⊥
made_other g other apart (Ok x) h rest i =
    apart x.tree (ap (λ (r : Read _). r.tree) (ok_inj (read (g x.tree) x.levels x.rest) (read other h rest) i))
made_other g other apart (Err e) h rest i = cc

pub expr_ok : (r : Outcome (Read ExprTree)) (t : ExprTree) (h : ℕ) (rest : Rest)
    → made (λ e. PhraseTree.Expr e) r ≡ Ok (read (PhraseTree.Expr t) h rest) → r ≡ Ok (read t h rest)
expr_ok r t h rest i = made_ok (λ e. PhraseTree.Expr e) (λ x y e. cc) r t h rest i

pub select_ok : (r : Outcome (Read CoreTree)) (t : CoreTree) (h : ℕ) (rest : Rest)
    → made (λ c. PhraseTree.Select c) r ≡ Ok (read (PhraseTree.Select t) h rest) → r ≡ Ok (read t h rest)
select_ok r t h rest i = made_ok (λ c. PhraseTree.Select c) (λ x y e. cc) r t h rest i

pub query_ok : (r : Outcome (Read QueryTree)) (t : QueryTree) (h : ℕ) (rest : Rest)
    → made (λ q. PhraseTree.Query q) r ≡ Ok (read (PhraseTree.Query t) h rest) → r ≡ Ok (read t h rest)
query_ok r t h rest i = made_ok (λ q. PhraseTree.Query q) (λ x y e. cc) r t h rest i

pub expr_no_select : (r : Outcome (Read ExprTree)) (t : CoreTree) (h : ℕ) (rest : Rest)
    → made (λ e. PhraseTree.Expr e) r ≡ Ok (read (PhraseTree.Select t) h rest) → ⊥
expr_no_select r t h rest i = made_other (λ e. PhraseTree.Expr e) (PhraseTree.Select t) (λ x e. cc) r h rest i

pub expr_no_query : (r : Outcome (Read ExprTree)) (t : QueryTree) (h : ℕ) (rest : Rest)
    → made (λ e. PhraseTree.Expr e) r ≡ Ok (read (PhraseTree.Query t) h rest) → ⊥
expr_no_query r t h rest i = made_other (λ e. PhraseTree.Expr e) (PhraseTree.Query t) (λ x e. cc) r h rest i

pub select_no_expr : (r : Outcome (Read CoreTree)) (t : ExprTree) (h : ℕ) (rest : Rest)
    → made (λ c. PhraseTree.Select c) r ≡ Ok (read (PhraseTree.Expr t) h rest) → ⊥
select_no_expr r t h rest i = made_other (λ c. PhraseTree.Select c) (PhraseTree.Expr t) (λ x e. cc) r h rest i

pub select_no_query : (r : Outcome (Read CoreTree)) (t : QueryTree) (h : ℕ) (rest : Rest)
    → made (λ c. PhraseTree.Select c) r ≡ Ok (read (PhraseTree.Query t) h rest) → ⊥
select_no_query r t h rest i = made_other (λ c. PhraseTree.Select c) (PhraseTree.Query t) (λ x e. cc) r h rest i

pub query_no_expr : (r : Outcome (Read QueryTree)) (t : ExprTree) (h : ℕ) (rest : Rest)
    → made (λ q. PhraseTree.Query q) r ≡ Ok (read (PhraseTree.Expr t) h rest) → ⊥
query_no_expr r t h rest i = made_other (λ q. PhraseTree.Query q) (PhraseTree.Expr t) (λ x e. cc) r h rest i

pub query_no_select : (r : Outcome (Read QueryTree)) (t : CoreTree) (h : ℕ) (rest : Rest)
    → made (λ q. PhraseTree.Query q) r ≡ Ok (read (PhraseTree.Select t) h rest) → ⊥
query_no_select r t h rest i = made_other (λ q. PhraseTree.Query q) (PhraseTree.Select t) (λ x e. cc) r h rest i
