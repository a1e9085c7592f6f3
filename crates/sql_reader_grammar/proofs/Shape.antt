-- What each phrase of an expression has.
use Rattle.std.proofs.Common.{◌≡◌, ◌≢◌, ◌⊎◌, Bool, ℕ, zero, suc, ◌+◌, ◌-◌, ◌<◌, ◌≤◌, List, [], ◌∷◌, length, None, refl, ap, arith, subst, zero-add, suc-add}
use mathlib.Core.Logic.{inl, inr}
use Rattle.sql_reader_tokens.specs.Lexeme.{Lexeme}
use Rattle.sql_reader_tokens.specs.declared.keywords.keyword.Keyword.TheVariants as k
use Rattle.sql_reader_tokens.specs.declared.sign.Sign.TheVariants as s
use Rattle.sql_reader_grammar.specs.phrases.Steps.{Rest, after_keyword}
use Rattle.sql_reader_syntax.specs.ExprTree.{ExprTree, ExprTrees, ArmTrees, QueryTree, trees_of, arms_of, count}
use Rattle.sql_reader_syntax.specs.declared.expr.BinaryOperator.{BinaryOperator}
use Rattle.sql_reader_syntax.specs.declared.expr.BinaryOperator.TheVariants as o
use Rattle.sql_reader_syntax.specs.declared.expr.PostfixOperator.{PostfixOperator}
use Rattle.sql_reader_syntax.specs.declared.expr.PrefixOperator.{PrefixOperator}
use Rattle.sql_reader_syntax.specs.declared.expr.PrefixOperator.TheVariants as p
use Rattle.sql_reader_grammar.specs.Fronts.{Following, Inside, Joint, Membership, Opening, binds, following, inside, joint, joint_after_is, level_of_joint, membership, opening}
use Rattle.sql_reader_grammar.specs.Operators.{Follows, IsLiteral, MaybeNot, Precedes, Stands, level_of, level_of_prefix}
use Rattle.sql_reader_grammar.specs.Queries.{Expresses, ExpressesAll, ExpressesItem, Queries, Selects}

-- Levels

pub level_small : (op : BinaryOperator) → level_of op ≤ 9
level_small o.Or = omega arith
level_small _ = omega arith

pub level_large : (op : BinaryOperator) → 1 ≤ level_of op
level_large o.Or = omega arith
level_large _ = omega arith

level_gap : (op : BinaryOperator) → level_of op ≢ 3
level_gap o.Or = λ h. absurd (omega arith)
level_gap _ = λ h. absurd (omega arith)

joint_cases : (j : Joint) → (level_of_joint j ≤ 9) ⊎ (level_of_joint j ≡ 12)
joint_cases (Joint.Binary op ts) = inl (level_small op)
joint_cases Joint.Tight = inr refl
joint_cases _ = inl (omega arith)

-- an operator's level, or what belongs to a name
pub binds_cases : (ts : Rest) → (binds ts ≤ 9) ⊎ (binds ts ≡ 12)
binds_cases ts = joint_cases (joint ts)

joint_gap : (j : Joint) → level_of_joint j ≢ 3
joint_gap (Joint.Binary op ts) = level_gap op
joint_gap _ = λ h. absurd (omega arith)

-- no operator between operands stands at the level of one before its operand
pub below_prefix : (op : PrefixOperator) (ts : Rest) → binds ts ≤ level_of_prefix op → binds ts < level_of_prefix op
below_prefix p.Not ts h = let gap = joint_gap (joint ts) in omega (arith, gap, h)
below_prefix _ ts h = elim (binds_cases ts) [ inl k ↦ omega (arith, k) | inr k ↦ absurd (omega (arith, h, k)) ]

pub prefix_large : (op : PrefixOperator) → (3 ≤ level_of_prefix op) × (level_of_prefix op ≤ 10)
prefix_large p.Not = (omega arith, omega arith)
prefix_large _ = (omega arith, omega arith)

-- Lists of trees

abbrev pub list_of : ExprTrees → List ExprTree
list_of ExprTrees.No_more = []
list_of (ExprTrees.More e es) = e ∷ list_of es

abbrev pub arms_list : ArmTrees → List (ExprTree × ExprTree)
arms_list ArmTrees.No_arm = []
arms_list (ArmTrees.Arm x y arms) = (x, y) ∷ arms_list arms

pub trees_of_list : (es : ExprTrees) → trees_of (list_of es) ≡ es
trees_of_list ExprTrees.No_more = refl
trees_of_list (ExprTrees.More e es) = ap (ExprTrees.More e) (trees_of_list es)

pub arms_of_list : (arms : ArmTrees) → arms_of (arms_list arms) ≡ arms
arms_of_list ArmTrees.No_arm = refl
arms_of_list (ArmTrees.Arm x y arms) = ap (ArmTrees.Arm x y) (arms_of_list arms)

pub count_of_list : (es : ExprTrees) → length (list_of es) ≡ count es
count_of_list ExprTrees.No_more = refl
count_of_list (ExprTrees.More e es) = ap suc (count_of_list es)

pub count_trees : (es : List ExprTree) → count (trees_of es) ≡ length es
count_trees [] = refl
count_trees (e ∷ es) = ap suc (count_trees es)

module _ (source : ℕ → ℕ → List ℕ) where
  -- A phrase of a level is one of each looser level

  looser : (n : ℕ) {q h : ℕ} {e : ExprTree} {from after : Rest} → Expresses source (n + q) h e from after
      → Expresses source q h e from after
  looser zero s = rw zero-add at s
  looser (suc n) s = looser n (Expresses.tighter (rw suc-add at s))

  pub loose : {p q h : ℕ} {e : ExprTree} {from after : Rest} → p ≤ q → Expresses source q h e from after
      → Expresses source p h e from after
  loose {p} {q} {h} {e} {from} {after} le x =
      looser (q - p) (let i : q ≡ (q - p) + p = omega arith in subst (λ n. Expresses source n h e from after) i x)

  -- The front of a phrase

  pub literal_opening : {e : ExprTree} {word : Lexeme} → IsLiteral e word → (ts : Rest)
      → opening (word ∷ ts) ≡ Opening.Value e ts
  literal_opening IsLiteral.number ts = refl
  literal_opening IsLiteral.text ts = refl
  literal_opening IsLiteral.blob ts = refl
  literal_opening IsLiteral.null ts = refl

  pub prefix_opening : {op : PrefixOperator} {word : Lexeme} → Precedes op word → (ts : Rest)
      → opening (word ∷ ts) ≡ Opening.Operator op ts
  prefix_opening Precedes.not ts = refl
  prefix_opening Precedes.minus ts = refl
  prefix_opening Precedes.plus ts = refl
  prefix_opening Precedes.tilde ts = refl

  -- a phrase begins with an operand
  pub begins : {q h : ℕ} {e : ExprTree} {from after : Rest} → Expresses source q h e from after
      → opening from ≢ Opening.Nothing
  begins (Expresses.tighter x) = begins x
  begins (Expresses.binary x j y) = begins x
  begins (Expresses.between x n y z) = begins x
  begins (Expresses.in_none x n) = begins x
  begins (Expresses.in_list x n xs) = begins x
  begins (Expresses.in_query x n xs) = begins x
  begins (Expresses.postfix x w) = begins x
  begins (Expresses.prefix {from = from} w x) = λ i. let j = prefix_opening w from in cc
  begins (Expresses.literal {after = after} w) = λ i. let j = literal_opening w after in cc
  begins Expresses.column = λ i. cc
  begins Expresses.column_of = λ i. cc
  begins (Expresses.parentheses x) = λ i. cc
  begins (Expresses.exists x) = λ i. cc
  begins (Expresses.count_rows f b) = λ i. cc
  begins (Expresses.call_none f t b) = λ i. cc
  begins (Expresses.call f xs t b) = λ i. cc
  begins (Expresses.choice x xs y) = λ i. cc

  pub begins_item : {b : Bool} {h : ℕ} {e : ExprTree} {from after : Rest} → ExpressesItem source b h e from after
      → opening from ≢ Opening.Nothing
  begins_item (ExpressesItem.expression x) = begins x
  begins_item ExpressesItem.number = λ i. cc

  pub begins_all : {numbers : ℕ → Bool} {place h : ℕ} {es : ExprTrees} {from after : Rest}
      → ExpressesAll source numbers place h es from after → opening from ≢ Opening.Nothing
  begins_all (ExpressesAll.last x) = begins_item x
  begins_all (ExpressesAll.more x xs) = begins_item x

  is_members : (ts : Rest) → opening ts ≢ Opening.Nothing → membership ts ≡ Membership.Members
  is_members (Lexeme.Punctuation s.Close ∷ ts) h = absurd (h refl)
  is_members (Lexeme.Reserved k.Select ∷ ts) h = absurd (h refl)
  is_members _ h = refl

  pub all_members : {numbers : ℕ → Bool} {place h : ℕ} {es : ExprTrees} {from after : Rest}
      → ExpressesAll source numbers place h es from after → membership from ≡ Membership.Members
  all_members {from = from} x = is_members from (begins_all x)

  has_arguments : (ts : Rest) → opening ts ≢ Opening.Nothing → inside ts ≡ Inside.Arguments
  has_arguments (Lexeme.Punctuation s.Close ∷ ts) h = absurd (h refl)
  has_arguments (Lexeme.Punctuation s.Star ∷ ts) h = absurd (h refl)
  has_arguments _ h = refl

  pub all_arguments : {numbers : ℕ → Bool} {place h : ℕ} {es : ExprTrees} {from after : Rest}
      → ExpressesAll source numbers place h es from after → inside from ≡ Inside.Arguments
  all_arguments {from = from} x = has_arguments from (begins_all x)

  no_when : (ts : Rest) → opening ts ≢ Opening.Nothing → after_keyword k.When ts ≡ None
  no_when (Lexeme.Reserved k.When ∷ ts) h = absurd (h refl)
  no_when _ h = refl

  pub begins_no_when : {q h : ℕ} {e : ExprTree} {from after : Rest} → Expresses source q h e from after
      → after_keyword k.When from ≡ None
  begins_no_when {from = from} x = no_when from (begins x)

  -- a phrase tighter than NOT doesn't begin with it
  pub begins_tight : {q h : ℕ} {e : ExprTree} {from after : Rest} → Expresses source q h e from after → 3 < q
      → (ts : Rest) → from ≢ Lexeme.Reserved k.Not ∷ ts
  begins_tight (Expresses.tighter x) l = begins_tight x (omega (arith, l))
  begins_tight (Expresses.binary x j y) l = begins_tight x l
  begins_tight (Expresses.between x n y z) l = begins_tight x l
  begins_tight (Expresses.in_none x n) l = begins_tight x l
  begins_tight (Expresses.in_list x n xs) l = begins_tight x l
  begins_tight (Expresses.in_query x n xs) l = begins_tight x l
  begins_tight (Expresses.postfix x w) l = begins_tight x l
  begins_tight (Expresses.prefix Precedes.not x) l = absurd (omega (arith, l))
  begins_tight (Expresses.prefix Precedes.minus x) l = λ ts i. cc
  begins_tight (Expresses.prefix Precedes.plus x) l = λ ts i. cc
  begins_tight (Expresses.prefix Precedes.tilde x) l = λ ts i. cc
  begins_tight (Expresses.literal IsLiteral.number) l = λ ts i. cc
  begins_tight (Expresses.literal IsLiteral.text) l = λ ts i. cc
  begins_tight (Expresses.literal IsLiteral.blob) l = λ ts i. cc
  begins_tight (Expresses.literal IsLiteral.null) l = λ ts i. cc
  begins_tight Expresses.column l = λ ts i. cc
  begins_tight Expresses.column_of l = λ ts i. cc
  begins_tight (Expresses.parentheses x) l = λ ts i. cc
  begins_tight (Expresses.exists x) l = λ ts i. cc
  begins_tight (Expresses.count_rows f b) l = λ ts i. cc
  begins_tight (Expresses.call_none f t b) l = λ ts i. cc
  begins_tight (Expresses.call f xs t b) l = λ ts i. cc
  begins_tight (Expresses.choice x xs y) l = λ ts i. cc

  -- What stands behind a phrase

  is_joint : (ts : Rest) → ((us : Rest) → ts ≢ Lexeme.Reserved k.Not ∷ us) → joint_after_is ts ≡ Joint.Binary o.Is ts
  is_joint (Lexeme.Reserved k.Not ∷ ts) h = absurd (h ts refl)
  is_joint _ h = refl

  pub joins_joint : {op : BinaryOperator} {from after : Rest} → Stands op from after
      → ((us : Rest) → after ≢ Lexeme.Reserved k.Not ∷ us) → joint from ≡ Joint.Binary op after
  joins_joint Stands.is h = is_joint _ h
  joins_joint Stands.or h = refl
  joins_joint Stands.and h = refl
  joins_joint Stands.equal h = refl
  joins_joint Stands.double_equal h = refl
  joins_joint Stands.not_equal h = refl
  joins_joint Stands.less_greater h = refl
  joins_joint Stands.is_not h = refl
  joins_joint Stands.like h = refl
  joins_joint Stands.not_like h = refl
  joins_joint Stands.less h = refl
  joins_joint Stands.less_equal h = refl
  joins_joint Stands.greater h = refl
  joins_joint Stands.greater_equal h = refl
  joins_joint Stands.ampersand h = refl
  joins_joint Stands.bar h = refl
  joins_joint Stands.plus h = refl
  joins_joint Stands.minus h = refl
  joins_joint Stands.star h = refl
  joins_joint Stands.slash h = refl
  joins_joint Stands.percent h = refl
  joins_joint Stands.double_bar h = refl

  -- OR and AND may stand before NOT
  pub joint_of : {op : BinaryOperator} {from after : Rest} {h : ℕ} {e : ExprTree} {rest : Rest} → Stands op from after
      → Expresses source (suc (level_of op)) h e after rest → joint from ≡ Joint.Binary op after
  joint_of Stands.or x = refl
  joint_of Stands.and x = refl
  joint_of Stands.is x = is_joint _ (begins_tight x (omega arith))
  joint_of j x = joins_joint j (begins_tight x (omega arith))

  pub between_joint : {n : Bool} {from after : Rest} → MaybeNot k.Between n from after
      → joint from ≡ Joint.Between n after
  between_joint MaybeNot.plain = refl
  between_joint MaybeNot.negated = refl

  pub in_joint : {n : Bool} {from after : Rest} → MaybeNot k.In n from after → joint from ≡ Joint.In n after
  in_joint MaybeNot.plain = refl
  in_joint MaybeNot.negated = refl

  pub postfix_joint : {op : PostfixOperator} {word : Lexeme} → Follows op word → (ts : Rest)
      → joint (word ∷ ts) ≡ Joint.Postfix op ts
  postfix_joint Follows.is_null ts = refl
  postfix_joint Follows.not_null ts = refl

  -- nothing that belongs to a name
  pub no_following : (ts : Rest) → binds ts ≤ 11 → following ts ≡ Following.Else
  no_following (Lexeme.Punctuation s.Open ∷ ts) h = absurd (omega (arith, h))
  no_following (Lexeme.Punctuation s.Dot ∷ ts) h = absurd (omega (arith, h))
  no_following _ h = refl

  -- a query begins with SELECT
  pub record BeginsQuery (from : Rest) : Type 0 where
    pub rest : Rest
    pub is : from ≡ Lexeme.Reserved k.Select ∷ rest

  pub begins_query : {h : ℕ} {query : QueryTree} {from after : Rest} → Queries source h query from after
      → BeginsQuery from
  begins_query (Queries.core (Selects.select x rs f w g ws)) = record { rest = _; is = refl }
  begins_query (Queries.compound x op c) = begins_query x

  pub query_member : {h : ℕ} {query : QueryTree} {from after : Rest} → Queries source h query from after
      → membership from ≡ Membership.Query
  query_member x = ap membership (begins_query x).is
