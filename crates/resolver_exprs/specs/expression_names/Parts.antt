-- A part of an expression of which its place says nothing: it is what its operator makes of its own parts. (SQL Language
-- Expressions)
use Rattle.std.specs.Prelude.{Bool, Option, Some, None, Result, Ok, Err}
use Rattle.values.specs.Datum.{null, int, text, blob}
use Rattle.values.specs.declared.fault.Fault.{Fault}
use Rattle.values.specs.declared.fault.Fault.TheVariants.{WrongPlace}
use Rattle.expr.specs.Term.{Term, literal}
use Rattle.sql_reader_syntax.specs.ExprTree.{ArmTrees, ExprTree, MaybeExpr}
use Rattle.semantics_names.specs.Expression as e
use Rattle.semantics_names.specs.Expression.{Answers, InnerTree, Says, among_answer, among_items, arms_of, between_bounds, binary, called, exists, operand_of, otherwise_of, postfix, prefix, term_of, terms_of}
use Rattle.semantics_names.specs.Outcome.{also, both, followed}

-- literals, and EXISTS, which asks an inner query; nothing else is a term without operands
abbrev pub without_operands : Answers → ExprTree → Result Term Fault
without_operands answers ExprTree.Null = Ok (literal null)
without_operands answers (ExprTree.Number z) = Ok (literal (int z))
without_operands answers (ExprTree.Text content) = Ok (literal (text content))
without_operands answers (ExprTree.Blob bytes) = Ok (literal (blob bytes))
without_operands answers (ExprTree.Exists query) = also exists (answers (InnerTree.exists_in query))
without_operands answers _ = Err WrongPlace

-- NULL where nothing is written
abbrev pub or_null : Option Term → Term
or_null None = literal null
or_null (Some t) = t

module _ (answers : Answers) (says : Says) where
  abbrev pub between : Bool → ExprTree → ExprTree → ExprTree → Result Term Fault
  between not x low high =
      followed (term_of answers says x) (λ t. both (between_bounds not t) (term_of answers says low) (term_of answers says high))

  abbrev pub case : MaybeExpr → ArmTrees → MaybeExpr → Result Term Fault
  case operand rest otherwise =
      followed (operand_of answers says operand) (λ x. both (e.case x) (arms_of answers says rest) (otherwise_of answers says otherwise))

  abbrev pub of_parts : ExprTree → Result Term Fault
  of_parts (ExprTree.Prefix op x) = also (prefix op) (term_of answers says x)
  of_parts (ExprTree.Postfix op x) = also (postfix op) (term_of answers says x)
  of_parts (ExprTree.Binary op x y) = both (binary op) (term_of answers says x) (term_of answers says y)
  of_parts (ExprTree.Between not x low high) = between not x low high
  of_parts (ExprTree.In not x items) = both (among_items not) (term_of answers says x) (terms_of answers says items)
  of_parts (ExprTree.InQuery not x query) = both (among_answer not) (term_of answers says x) (answers (InnerTree.values_in query))
  of_parts (ExprTree.Call function items after) = followed (terms_of answers says items) (called after function)
  of_parts (ExprTree.Case operand rest otherwise) = case operand rest otherwise
  of_parts tree = without_operands answers tree
