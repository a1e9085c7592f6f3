-- The columns of both sides that USING names. (SELECT, "Determination of input data")
use Rattle.std.specs.Prelude.{ℕ, List, [], ◌∷◌, Option, Some, None, Result, Ok}
use Rattle.values.specs.declared.fault.Fault.{Fault}
use Rattle.expr.specs.Term.{Term, and}
use Rattle.semantics_names.specs.Outcome.{also, followed}
use Rattle.semantics_names.specs.Scope.{Scope, places_of}
use Rattle.semantics_names.specs.Sources.{Condition, all_of, equal, merged}
use Rattle.sql_reader_syntax.specs.Tree.{Name}

-- where the columns of both sides look at these places: the columns of the left side, and the equality
abbrev pub paired : Name → Scope → List ℕ → List ℕ → Scope × Term
paired name left mine places = (merged name places left, equal mine places)

-- the columns of the left side, and the equality that one name says; `theirs` are those of the right side
abbrev pub one_matched : Scope → Scope → Name → Result (Scope × Term) Fault
one_matched theirs left name = followed (places_of left None name) (λ mine. also (paired name left mine) (places_of theirs None name))

abbrev pub before : Term → Scope × List Term → Scope × List Term
before t rest = (rest.0, t ∷ rest.1)

-- by all names, from the left to the right
abbrev pub matched : Scope → Scope → List Name → Result (Scope × List Term) Fault
matched theirs left [] = Ok (left, [])
matched theirs left (name ∷ names) = followed (one_matched theirs left name) (λ m. also (before m.1) (matched theirs m.0 names))

-- what a join shows, and its condition
abbrev pub condition : Scope → Term → Condition
condition scope t = record { scope = scope; term = t }

-- a further condition, behind those before it
abbrev pub and_then : Option Term → Term → Term
and_then None t = t
and_then (Some all) t = and all t

-- all of these, if there are any
abbrev pub so_far : List Term → Option Term
so_far [] = None
so_far (t ∷ ts) = Some (all_of t ts)
