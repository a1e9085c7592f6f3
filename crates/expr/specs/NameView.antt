-- What is looked for in an expression.
use Rattle.std.specs.Prelude.{ℕ, List}
use Rattle.expr.specs.Names.{named, named_all, named_arms, nothing, one}
use Rattle.expr.specs.Term.{Term, Terms, Arms}
use Rattle.expr.specs.declared.names.Named.{Named}
use Rattle.expr.specs.declared.names.Named.TheVariants.{Columns, Answers}

abbrev pub named_column : Named → ℕ → List ℕ
named_column Columns = one
named_column Answers = nothing

abbrev pub named_answer : Named → ℕ → List ℕ
named_answer Columns = nothing
named_answer Answers = one

abbrev pub names_of : Named → Term → List ℕ
names_of of = named (named_column of) (named_answer of)

abbrev pub names_of_all : Named → Terms → List ℕ
names_of_all of = named_all (named_column of) (named_answer of)

abbrev pub names_of_arms : Named → Arms → List ℕ
names_of_arms of = named_arms (named_column of) (named_answer of)
