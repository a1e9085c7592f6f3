-- The faults of a text that isn't opened.
use Rattle.std.proofs.Common.{◌≡◌, ◌≤◌, ◌∙◌, ◌⊎◌, inl, inr, ℕ, List, refl, subst, sym, arith}
use Rattle.values.specs.Fault.{number_of}
use Rattle.values.specs.declared.fault.Fault.{Fault}
use Rattle.values.specs.declared.fault.Fault.TheVariants as f
use Rattle.pager.specs.Calls.{TellsFailedRead}
use Rattle.resolver.specs.Resolved.{tables_of}
use Rattle.sql_reader.specs.StatementTexts.{IsRefusedStatement}
use Rattle.semantics_refusals.proofs.RefusalLemmas.{refusals_are_numbered}
use Rattle.semantics_refusals.specs.Refusals.{IsNameFault}
use Rattle.schema_tables.specs.TableData.{TableData}
use Rattle.shell.specs.Stepped.{IsUnstarted}
use Rattle.shell_sessions.specs.Replies.{IsTextFault}

wrong_place : IsTextFault f.WrongPlace
wrong_place = inr (omega arith, omega arith)

spelling : (text : List ℕ) (fault : Fault) → IsRefusedStatement text fault → IsTextFault fault
spelling text (f.Syntax place) refused = inr (omega arith, omega arith)
spelling text f.Limit refused = inr (omega arith, omega arith)
spelling text f.NoMemory refused = inl refl
spelling text _ refused = absurd refused

naming : (fault : Fault) → (fault ≡ f.NoMemory) ⊎ IsNameFault fault → IsTextFault fault
naming fault (inl is) = inl is
naming fault (inr named) = let low : 31 ≤ number_of fault = named.0 in inr (omega arith, named.1)

pub text_fault : (tables : List TableData) (text : List ℕ) (fault : Fault) → IsUnstarted tables text fault → IsTextFault fault
text_fault tables text fault (inl refused) = spelling text fault refused
text_fault tables text fault (inr (inl unresolved)) = naming fault (refusals_are_numbered (tables_of tables) unresolved.tree fault unresolved.refused)
text_fault tables text fault (inr (inr explained)) = subst IsTextFault (sym explained.fault_is) wrong_place

-- so no read has failed
pub tells_none : (fault : Fault) (failures : ℕ) → IsTextFault fault → TellsFailedRead fault failures failures
tells_none fault failures (inl is) = (λ read same. let other : f.NoMemory ≡ f.ReadFailed = sym is ∙ read in cc, λ risen. absurd (risen refl))
tells_none fault failures (inr text) = (
  λ read.
      let number : 30 ≤ number_of f.ReadFailed = subst (λ (e : Fault). 30 ≤ number_of e) read text.0 in
      absurd (omega (arith, number)),
  λ risen. absurd (risen refl),
)
