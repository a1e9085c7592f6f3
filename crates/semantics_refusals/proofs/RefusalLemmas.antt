-- A statement that is no query is refused by a fault of names and types, and has what the fault says.
use Rattle.std.proofs.Common.{◌≡◌, ◌⊎◌, false, true≢false, ◌∙◌, inl, inr, List, Ok, Err, ap, subst, sym, arith}
use Rattle.values.specs.declared.fault.Fault.{Fault}
use Rattle.sql_reader_syntax.specs.StatementTree.{StatementTree}
use Rattle.sql_reader_syntax.specs.Tree.{Name}
use Rattle.semantics_names.specs.Laws.{AmbiguousIsTwo, AreDistinctInAnyCase, ColumnsAreScalar, DistinctIsSaid, NameIsColumn, SameIsEqual, UnknownIsNone}
use Rattle.semantics_names.specs.Statement.{Named, are_distinct, named}
use Rattle.semantics_names.specs.Typed.{Table, column_types, known_tables, typed_query, with_types}
use Rattle.semantics_refusals.specs.BadFrames.{HasBadFrame}
use Rattle.semantics_refusals.specs.Reasons.{IsReason, RefusalsHaveReasons}
use Rattle.semantics_refusals.specs.Refusals.{IsNameFault, RefusalsAreNumbered}
use Rattle.semantics_refusals.proofs.ErrLemmas.{followed-err}
use Rattle.semantics_refusals.proofs.FrameLemmas.{frames_err}
use Rattle.semantics_refusals.proofs.MismatchStatementLemmas.{mismatch_is_mistyped}
use Rattle.semantics_refusals.proofs.MistypedFaultLemmas.{IsTypeFault, statement_only}
use Rattle.semantics_refusals.proofs.ReasonLemmas.{HasReasons, names_for_reasons, only_for_reasons}
use Rattle.semantics_refusals.proofs.ScopeLemmas.{Says}
use Rattle.semantics_refusals.proofs.StatementLemmas.{fault_is}
use Rattle.semantics_refusals.proofs.TypeLemmas.{TakesTypes}

numbered : (tables : List Table) (tree : StatementTree) → HasReasons IsNameFault tables tree
numbered tables tree = record {
  takes = record { laws = inr (omega arith, omega arith) };
  bare_laws = inr (omega arith, omega arith);
  unknown_table = λ _. (omega arith, omega arith);
  unknown_column = λ _. (omega arith, omega arith);
  ambiguous = λ _. (omega arith, omega arith);
  duplicate = λ _. (omega arith, omega arith);
  column_count = λ _. (omega arith, omega arith);
  limit = λ _. (omega arith, omega arith);
  frame = λ _. (omega arith, omega arith);
  wrong_place = λ _. (omega arith, omega arith);
  bare_column = λ _. (omega arith, omega arith);
}

types_numbered : TakesTypes IsNameFault
types_numbered = record { mismatch = (omega arith, omega arith); bad_frame = (omega arith, omega arith) }

no_names : Says IsNameFault
no_names = record {
  unknown = λ scope table name e so. (omega arith, omega arith);
  twice = λ scope table name e so. (omega arith, omega arith);
  repeated = λ names e so. (omega arith, omega arith);
}

pub refusals_are_numbered : RefusalsAreNumbered
refusals_are_numbered tables tree fault (inl none) = inl none
refusals_are_numbered tables tree fault (inr is) =
    inr (fault_is (typed_query tables tree) fault (only_for_reasons IsNameFault tables tree no_names (numbered tables tree) (omega arith, omega arith) types_numbered) is)

-- ---- what the fault says

-- what the definitions of names are known to say
abbrev pub NameLaws : Type 0
NameLaws = UnknownIsNone × AmbiguousIsTwo × DistinctIsSaid × SameIsEqual × NameIsColumn × ColumnsAreScalar

apart_or : (said : DistinctIsSaid) (names : List Name) → are_distinct names ≡ false → ¬ AreDistinctInAnyCase names
apart_or said names e apart = absurd (true≢false (sym ((said names).1 apart) ∙ e))

by_laws : (F : Fault → Type 0) → NameLaws → Says F
by_laws F laws = record {
  unknown = λ scope table name e so. so ((laws.0 scope table name).0 e);
  twice = λ scope table name e so. so ((laws.1 scope table name).0 e);
  repeated = λ names e so. so (apart_or laws.2 names e);
}

reasons : SameIsEqual → NameIsColumn → ColumnsAreScalar → (tables : List Table) (tree : StatementTree) → HasReasons (IsReason tables tree) tables tree
reasons equal names scalars tables tree = record {
  takes = record { laws = inl equal };
  bare_laws = inl (equal, names, scalars);
  unknown_table = λ is. is;
  unknown_column = λ is. is;
  ambiguous = λ is. is;
  duplicate = λ is. is;
  column_count = λ is. is;
  limit = λ is. is;
  frame = λ is. HasBadFrame.written is;
  wrong_place = λ is. is;
  bare_column = λ is. is;
}

pub refusals_have_reasons : NameLaws → RefusalsHaveReasons
refusals_have_reasons laws tables tree fault (inl out) = subst (IsReason tables tree) (sym out) tt
refusals_have_reasons laws tables tree fault (inr is) =
    by (followed-err (named (known_tables tables) tree) (with_types (column_types tables)) fault is)
  where
    of_types : (n : Named) → named (known_tables tables) tree ≡ Ok n → with_types (column_types tables) n ≡ Err fault → IsTypeFault fault
        → IsReason tables tree fault
    of_types n names d (inl same) = subst (IsReason tables tree) (sym same) (mismatch_is_mistyped tables tree (is ∙ ap Err same))
    of_types n names d (inr same) =
        subst (IsReason tables tree) (sym same) (HasBadFrame.made n names (frames_err (column_types tables) n (d ∙ ap Err same)))

    by : (named (known_tables tables) tree ≡ Err fault)
        ⊎ ((n : Named) × (named (known_tables tables) tree ≡ Ok n) × (with_types (column_types tables) n ≡ Err fault)) → IsReason tables tree fault
    by (inl d) =
        fault_is (named (known_tables tables) tree) fault
        (names_for_reasons (IsReason tables tree) tables tree (by_laws (IsReason tables tree) laws) (reasons laws.3 laws.4 laws.5 tables tree)) d
    by (inr (n, names, d)) = of_types n names d (fault_is (typed_query tables tree) fault (statement_only tables tree n names) is)
