-- What a SELECT computes over the rows of FROM, or of groups.
use Rattle.std.specs.Prelude.{Bool, ℕ, List, Option, map, string_bytes}
use Rattle.expr.specs.Term as t
use Rattle.semantics.specs.Query.{Grouping, WindowCall}
use Rattle.semantics_names.specs.Expression.{Says}
use Rattle.semantics_names.specs.Places.{Defined}
use Rattle.semantics_names.specs.Statement.{CoreData, Input}
use Rattle.resolver_terms.specs.SelectView.{call_of, key_of}
use Rattle.expr.specs.View.{term}
use Rattle.resolver_selects.specs.result_columns.Inputs.{over_input}
use Rattle.resolver_selects.specs.declared.behind.Behind.{Behind}
use Rattle.resolver_selects.specs.declared.behind.Shown.{Shown}
use Rattle.resolver_selects.specs.window_names.DefinedView.{defined_of}

-- behind this condition and grouping, with these windows and calls over them
abbrev pub core_shown : Bool → t.Term → Option Grouping → List Defined → List WindowCall → Shown → CoreData
core_shown distinct condition grouping defined calls s = record {
  select = record {
    condition = condition;
    grouping = grouping;
    windows = calls;
    columns = map term s.columns.items;
    distinct = distinct;
  };
  names = map (λ n. string_bytes n) s.names.items;
  order = map key_of s.order.items;
  defined = defined;
}

abbrev pub core_behind : Bool → t.Term → Option Grouping → Behind → CoreData
core_behind distinct condition grouping b =
    core_shown distinct condition grouping (map defined_of b.defined.items) (map call_of b.calls.items) b.shown

-- the rows of which this is said, of so many values, with these expressions of GROUP BY
abbrev pub input_of : Says → Option (List t.Term) → ℕ → Option Grouping → Input
input_of says by width grouping = record { says = says; over_input = over_input by; width = width; grouping = grouping }
