-- Expressions in which others stand in the places of columns and of the answers of inner queries.
use Rattle.std.specs.Prelude.{◌==◌, ℕ, List, length, position, unwrap_or}
use Rattle.expr.specs.Term.{Term, Terms, Arms, literal, column, call, arithmetic, concat, compare, is, and, or, between, among, coalesce, choice, choice_of, null_if, like, none, answer, more, no_arms, arm}

-- the place of a column among those that are read, or the place after them
abbrev pub place_in : List ℕ → ℕ → ℕ
place_in read at = unwrap_or (position (λ c. c == at) read) (length read)

-- what stands for a column, for the members that an inner query answers, and for these as the arguments of coalesce, where
-- none ever stand
module _ (of_column : ℕ → ℕ) (of_answer of_first : ℕ → Terms) where
  abbrev mutual
    pub with_leaves : Term → Term
    with_leaves (literal v) = literal v
    with_leaves (column i) = column (of_column i)
    with_leaves (call f a) = call f (with_leaves a)
    with_leaves (arithmetic op a b) = arithmetic op (with_leaves a) (with_leaves b)
    with_leaves (concat a b) = concat (with_leaves a) (with_leaves b)
    with_leaves (compare op a b) = compare op (with_leaves a) (with_leaves b)
    with_leaves (is a b) = is (with_leaves a) (with_leaves b)
    with_leaves (and a b) = and (with_leaves a) (with_leaves b)
    with_leaves (or a b) = or (with_leaves a) (with_leaves b)
    with_leaves (between x a b) = between (with_leaves x) (with_leaves a) (with_leaves b)
    with_leaves (among x items) = among (with_leaves x) (leaves_of_all items)
    with_leaves (coalesce items) = coalesce (leaves_of_firsts items)
    with_leaves (choice rest e) = choice (leaves_of_arms rest) (with_leaves e)
    with_leaves (choice_of x rest e) = choice_of (with_leaves x) (leaves_of_arms rest) (with_leaves e)
    with_leaves (null_if a b) = null_if (with_leaves a) (with_leaves b)
    with_leaves (like a b) = like (with_leaves a) (with_leaves b)

    pub leaves_of_all : Terms → Terms
    leaves_of_all none = none
    leaves_of_all (more t ts) = more (with_leaves t) (leaves_of_all ts)
    leaves_of_all (answer k) = of_answer k

    pub leaves_of_firsts : Terms → Terms
    leaves_of_firsts none = none
    leaves_of_firsts (more t ts) = more (with_leaves t) (leaves_of_firsts ts)
    leaves_of_firsts (answer k) = of_first k

    pub leaves_of_arms : Arms → Arms
    leaves_of_arms no_arms = no_arms
    leaves_of_arms (arm c e rest) = arm (with_leaves c) (with_leaves e) (leaves_of_arms rest)
