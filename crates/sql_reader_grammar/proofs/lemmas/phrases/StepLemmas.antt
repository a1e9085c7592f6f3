-- What stands at the front of the tokens where a step finds something.
use Rattle.std.proofs.Common.{◌≡◌, Bool, true, false, ◌∷◌, Option, Some, None, Ok, refl, ap}
use denote.Enum.Bare.{sameb, same_true}
use Rattle.sql_reader_tokens.specs.Lexeme.{Lexeme}
use Rattle.sql_reader_tokens.specs.contracts.keywords.keyword.Keyword as keywords
use Rattle.sql_reader_tokens.specs.contracts.sign.Sign as signs
use Rattle.sql_reader_tokens.specs.declared.keywords.keyword.Keyword.{Keyword}
use Rattle.sql_reader_tokens.specs.declared.sign.Sign.{Sign}
use Rattle.sql_reader_tokens.specs.declared.token.Quoting.{Quoting}
use Rattle.sql_reader_grammar.specs.phrases.Outcomes.{kept_if, needed}
use Rattle.sql_reader_grammar.specs.phrases.Steps.{Rest, after_keyword, after_sign, name}
use Rattle.sql_reader_grammar.proofs.lemmas.phrases.OutcomeLemmas.{ok_inj, some_inj}
use Rattle.std.specs.Prelude.{if◌then◌else◌}
use Rattle.sql_reader_syntax.specs.Tree.{Name}

pub needed_some : {A : Type 0} (o : Option A) (x : A) → needed o ≡ Ok x → o ≡ Some x
needed_some (Some y) x h = ap (λ z. Some z) (ok_inj y x h)
needed_some None x h = absurd cc

pub kept : {A : Type 0} (b : Bool) (x y : A) → kept_if b x ≡ Ok y → (b ≡ true) × (x ≡ y)
kept true x y h = (refl, ok_inj x y h)
kept false x y h = absurd cc

-- a test that lets this pass
passed : {A : Type 0} (b : Bool) (x y : A) → (if b then Some x else None) ≡ Some y → (b ≡ true) × (x ≡ y)
passed true x y h = (refl, some_inj x y h)
passed false x y h = absurd cc

pub at_keyword : (word : Keyword) (ts us : Rest) → after_keyword word ts ≡ Some us → ts ≡ Lexeme.Reserved word ∷ us
at_keyword word (Lexeme.Reserved first ∷ ts) us h =
    let p = passed (sameb keywords.the_type first word) ts us h in
    let same = same_true keywords.the_type tt first word p.0 in
    let rest = p.1 in cc
at_keyword word _ us h = absurd cc

pub at_sign : (sign : Sign) (ts us : Rest) → after_sign sign ts ≡ Some us → ts ≡ Lexeme.Punctuation sign ∷ us
at_sign sign (Lexeme.Punctuation first ∷ ts) us h =
    let p = passed (sameb signs.the_type first sign) ts us h in
    let same = same_true signs.the_type tt first sign p.0 in
    let rest = p.1 in cc
at_sign sign _ us h = absurd cc

-- the same of what has to stand there
pub needs_keyword : (word : Keyword) (ts us : Rest) → needed (after_keyword word ts) ≡ Ok us
    → ts ≡ Lexeme.Reserved word ∷ us
needs_keyword word ts us h = at_keyword word ts us (needed_some (after_keyword word ts) us h)

pub needs_sign : (sign : Sign) (ts us : Rest) → needed (after_sign sign ts) ≡ Ok us
    → ts ≡ Lexeme.Punctuation sign ∷ us
needs_sign sign ts us h = at_sign sign ts us (needed_some (after_sign sign ts) us h)

pub names : (ts : Rest) (r : Name × Rest) → needed (name ts) ≡ Ok r
    → (q : Quoting) × (ts ≡ Lexeme.Name q r.0 ∷ r.1)
names (Lexeme.Name q n ∷ ts) r h = (q, ap (λ (r : Name × Rest). Lexeme.Name q r.0 ∷ r.1) (ok_inj (n, ts) r h))
names _ r h = absurd cc
