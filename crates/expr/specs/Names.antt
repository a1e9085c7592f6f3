-- What an expression names: columns, and the answers of inner queries.
use Rattle.std.specs.Prelude.{◌≡◌, ℕ, List, [], ◌∷◌, ◌++◌}
use Rattle.expr.specs.Term.{Term, Terms, Arms, literal, column, call, arithmetic, concat, compare, is, and, or, between, among, coalesce, choice, choice_of, null_if, like, none, answer, more, no_arms, arm}

-- what is taken of the mention of a column, and of that of an answer
module _ (of_column of_answer : ℕ → List ℕ) where
  abbrev mutual
    -- in the order of the mentions
    pub named : Term → List ℕ
    named (literal v) = []
    named (column i) = of_column i
    named (call f a) = named a
    named (arithmetic op a b) = named a ++ named b
    named (concat a b) = named a ++ named b
    named (compare op a b) = named a ++ named b
    named (is a b) = named a ++ named b
    named (and a b) = named a ++ named b
    named (or a b) = named a ++ named b
    named (between x a b) = named x ++ (named a ++ named b)
    named (among x items) = named x ++ named_all items
    named (coalesce items) = named_all items
    named (choice rest e) = named_arms rest ++ named e
    named (choice_of x rest e) = named x ++ (named_arms rest ++ named e)
    named (null_if a b) = named a ++ named b
    named (like a b) = named a ++ named b

    pub named_all : Terms → List ℕ
    named_all none = []
    named_all (answer k) = of_answer k
    named_all (more t ts) = named t ++ named_all ts

    pub named_arms : Arms → List ℕ
    named_arms no_arms = []
    named_arms (arm c e rest) = named c ++ (named e ++ named_arms rest)

abbrev pub one : ℕ → List ℕ
one at = at ∷ []

abbrev pub nothing : ℕ → List ℕ
nothing at = []

-- the places of inner queries, in the order of the mentions of their answers, one for each
abbrev pub answers_of : Term → List ℕ
answers_of = named nothing one

-- it names none
abbrev pub IsAnswered : Term → Type 0
IsAnswered t = answers_of t ≡ []

abbrev pub answers_of_all : Terms → List ℕ
answers_of_all = named_all nothing one

abbrev pub answers_of_arms : Arms → List ℕ
answers_of_arms = named_arms nothing one
