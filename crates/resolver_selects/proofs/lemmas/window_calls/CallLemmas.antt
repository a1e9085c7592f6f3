-- What is said where a part is a call over a window, and where it is none.
use Rattle.std.proofs.Common.{◌≡◌, ◌⊎◌, ℕ, List, Option, Some, None, Result, Ok, Err, refl, ap, inl, inr}
use Rattle.values.specs.declared.fault.Fault.{Fault}
use Rattle.values.specs.declared.fault.Fault.TheVariants.{NoMemory}
use Rattle.expr.specs.Term.{Term}
use Rattle.semantics.specs.Query.{Aggregate, WindowCall, WindowFunction}
use Rattle.semantics_names.specs.Places.{call_column, column_from, function_or, place_of}
use Rattle.semantics_names.specs.Same.{is_same_call}
use Rattle.resolver_exprs.specs.places.Transposed.{transposed}

pub no_aggregate : (o : Option (Result Aggregate Fault)) (otherwise : Result WindowFunction Fault) → transposed o ≡ Ok None
    → function_or o otherwise ≡ otherwise
no_aggregate None otherwise e = refl
no_aggregate (Some (Ok a)) otherwise e = absurd cc
no_aggregate (Some (Err fault)) otherwise e = absurd cc

module _ (width : ℕ) (calls : List WindowCall) (beneath : Result (Option Term) Fault) where
  pub is_none : (o : Option (Result WindowCall Fault)) → transposed o ≡ Ok None → call_column width calls o beneath ≡ beneath
  is_none None e = refl
  is_none (Some (Ok c)) e = absurd cc
  is_none (Some (Err fault)) e = absurd cc

  pub is_found : (o : Option (Result WindowCall Fault)) (call : WindowCall) → transposed o ≡ Ok (Some call)
      → call_column width calls o beneath ≡ Ok (column_from width (place_of is_same_call call calls))
  is_found None call e = absurd cc
  is_found (Some (Ok c)) call e = let same : c ≡ call = cc in cc
  is_found (Some (Err fault)) call e = absurd cc

  pub is_refused : (o : Option (Result WindowCall Fault)) (fault : Fault) → (fault ≡ NoMemory) ⊎ (transposed o ≡ Err fault)
      → (fault ≡ NoMemory) ⊎ (call_column width calls o beneath ≡ Err fault)
  is_refused o fault (inl empty) = inl empty
  is_refused None fault (inr e) = absurd cc
  is_refused (Some (Ok c)) fault (inr e) = absurd cc
  is_refused (Some (Err other)) fault (inr e) = let same : other ≡ fault = cc in inr (ap Err same)
