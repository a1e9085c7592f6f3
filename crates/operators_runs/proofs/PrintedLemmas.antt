-- Faults of operators, and the text of rows.
use Rattle.std.proofs.Common.{◌≡◌, ◌≢◌, ◌∙◌, inl, inr, List, [], ◌∷◌, ◌++◌, refl, sym, ap, append-nil, append_assoc}
use Rattle.values.specs.Row.{Row}
use Rattle.values.specs.Sink.{SinkFacts}
use Rattle.values.specs.declared.fault.Fault.{Fault}
use Rattle.values.specs.declared.fault.Fault.TheVariants.{WriteFailed}
use Rattle.values.proofs.SinkLemmas.{Appends-none}
use Rattle.operators_loops.specs.Basis.{IsOperatorFault}
use Rattle.explain.specs.Text.{row_text, rows_text}
use Rattle.operators_runs.specs.Faults.{IsRunFault}
use Rattle.operators_runs.specs.Printed.{PrintsUntil}
use Rattle.operators_runs.proofs.StreamLemmas.{not_write}

-- ---- faults

pub not_operators : (e : Fault) → IsOperatorFault e → e ≢ WriteFailed
not_operators e (inl (inl is)) same = not_write e is same
not_operators e (inl (inr is)) same = cc
not_operators e (inr is) same = cc

pub operator_fault : (e : Fault) → IsOperatorFault e → IsRunFault e
operator_fault e (inl (inl is)) = inl (inl is)
operator_fault e (inl (inr is)) = inr (inl is)
operator_fault e (inr is) = inr (inr is)

-- ---- texts of rows

pub rows_text-append : (xs ys : List Row) → rows_text (xs ++ ys) ≡ rows_text xs ++ rows_text ys
rows_text-append [] ys = refl
rows_text-append (x ∷ xs) ys = ap (λ t. row_text x ++ t) (rows_text-append xs ys) ∙ sym (append_assoc (row_text x) (rows_text xs) (rows_text ys))

pub rows_text-push : (given : List Row) (row : Row) → rows_text (given ++ (row ∷ [])) ≡ rows_text given ++ row_text row
rows_text-push given row = rows_text-append given (row ∷ []) ∙ ap (λ t. rows_text given ++ t) (append-nil (row_text row))

-- nothing was written, at a fault that is no failed write
pub nothing_printed : (e : Fault) (old : SinkFacts) → e ≢ WriteFailed → PrintsUntil e [] old old
nothing_printed e old other = record { cut = λ is. absurd (other is); whole = λ _. Appends-none old.written }
