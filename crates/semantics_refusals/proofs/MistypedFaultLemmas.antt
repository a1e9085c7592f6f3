-- A statement in which an expression is of another type than its place wants is refused by its types, or by a frame.
use Rattle.std.proofs.Common.{◌≡◌, ◌⊎◌, inl, inr, Bool, true, false, not, List, Result, Ok, Err, slice_get, ap, refl, subst, sym, ◌∙◌}
use Rattle.values.specs.declared.fault.Fault.{Fault}
use Rattle.values.specs.declared.fault.Fault.TheVariants.{BadFrame, TypeMismatch}
use Rattle.values.specs.declared.value.Ty.{Ty}
use Rattle.sql_reader_syntax.specs.StatementTree.{StatementTree}
use Rattle.semantics.specs.Query.{Body, Key, KeyTerm}
use Rattle.semantics_names.specs.Laws.{TypedIsTaken}
use Rattle.semantics_names.specs.Outcome.{each, followed}
use Rattle.semantics_names.specs.Statement.{Named, named}
use Rattle.semantics_names.specs.Typed.{IsNoQuery, Table, column_types, known_tables, typed_query, with_types}
use Rattle.semantics_names.specs.Types.{body_types, key_type, query_types}
use Rattle.semantics_refusals.specs.Mismatches.{MistypedIsMismatch}
use Rattle.semantics_refusals.proofs.EvenLemmas.{IsEvenBody, named_even, tables_even}
use Rattle.semantics_refusals.proofs.MistypedQueryLemmas.{mistyped_is_refused}
use Rattle.semantics_refusals.proofs.OutcomeLemmas.{Only, also_only, each_only, followed_only}
use Rattle.semantics_refusals.proofs.PartLemmas.{Each, weaker}
use Rattle.semantics_refusals.proofs.StatementLemmas.{fault_is}
use Rattle.semantics_refusals.proofs.TypeLemmas.{TakesTypes, body_only, order_only, typed_only}
use Rattle.semantics_refusals.proofs.WithinLemmas.{IsWithinKey}
use Rattle.semantics_refusals.proofs.WithinStatementLemmas.{IsWithinNamed, statement_within}

abbrev pub IsTypeFault : Fault → Type 0
IsTypeFault fault = (fault ≡ TypeMismatch) ⊎ (fault ≡ BadFrame)

takes : TakesTypes IsTypeFault
takes = record { mismatch = inl refl; bad_frame = inr refl }

plain_is : (distinct : Bool) → distinct ≡ false → not distinct ≡ false → ⊥
plain_is true e d = absurd cc
plain_is false e d = absurd cc

module _ (tables : List (List Ty)) where
  key_only : (body : Body) (types : List Ty) (key : KeyTerm) → IsEvenBody tables body → IsWithinKey body key
      → Only IsTypeFault (key_type tables body types key)
  key_only body types (KeyTerm.result at) even w = typed_only IsTypeFault takes (slice_get types at)
  key_only (Body.select from s) types (KeyTerm.term t) even w =
      order_only IsTypeFault takes tables from s t even (λ e. absurd (plain_is s.distinct w.is.0 e)) types
  key_only (Body.compound left operator from s) types (KeyTerm.term t) even w = absurd w.is

  types_only : (n : Named) → IsEvenBody tables n.query.body → Each (IsEvenBody tables) n.beside → IsWithinNamed tables n
      → Only IsTypeFault (with_types tables n)
  types_only n even all w =
      followed_only (each (body_types tables) n.beside) _
      (each_only (body_types tables) n.beside (weaker (λ body even. body_only IsTypeFault takes tables body even) all))
      (λ _. also_only (λ _. n) (query_types tables n.query)
      (followed_only (body_types tables n.query.body) _ (body_only IsTypeFault takes tables n.query.body even) (λ types.
      also_only (λ _. types) (each (λ (k : Key). key_type tables n.query.body types k.by) n.query.order)
      (each_only (λ (k : Key). key_type tables n.query.body types k.by) n.query.order
      (weaker (λ (k : Key) there. key_only n.query.body types k.by even there) w.order)))))

pub statement_only : (tables : List Table) (tree : StatementTree) (n : Named) → named (known_tables tables) tree ≡ Ok n
    → Only IsTypeFault (typed_query tables tree)
statement_only tables tree n names =
    let (even, all) = named_even (column_types tables) (known_tables tables) tree n (tables_even tables) names in
    subst (λ r. Only IsTypeFault (followed r (with_types (column_types tables)))) (sym names)
    (types_only (column_types tables) n even all (statement_within tables tree n names))

pub mistyped_is_mismatch : TypedIsTaken → MistypedIsMismatch
mistyped_is_mismatch taken tables tree m = by (typed_query tables tree) refl
  where
    faults : (fault : Fault) → typed_query tables tree ≡ Err fault → IsTypeFault fault
        → IsNoQuery tables tree TypeMismatch ⊎ IsNoQuery tables tree BadFrame
    faults fault e (inl same) = inl (inr (e ∙ ap Err same))
    faults fault e (inr same) = inr (inr (e ∙ ap Err same))

    by : (r : Result Named Fault) → typed_query tables tree ≡ r → IsNoQuery tables tree TypeMismatch ⊎ IsNoQuery tables tree BadFrame
    by (Ok n) e = absurd (mistyped_is_refused taken tables tree n m e)
    by (Err fault) e = faults fault e (fault_is (typed_query tables tree) fault (statement_only tables tree m.0 m.1) e)
