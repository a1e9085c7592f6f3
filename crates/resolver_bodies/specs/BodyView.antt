-- The queries of the program, as plain data.
use Rattle.std.specs.Prelude.{List, [], ◌∷◌}
use Rattle.expr.specs.Term as t
use Rattle.semantics.specs.Query as q
use Rattle.semantics_names.specs.Sources.{kind_of}
use Rattle.semantics_names.specs.Statement.{operator_of, with_answers}
use Rattle.resolver_terms.specs.SelectView.{select_of}
use Rattle.expr.specs.View.{term}
use Rattle.resolver_bodies.specs.declared.bodies.Body.{Body}
use Rattle.resolver_bodies.specs.declared.bodies.Body.TheFolds as folds
use Rattle.resolver_bodies.specs.declared.bodies.Body.TheOpen as f
use Rattle.resolver_bodies.specs.declared.bodies.InnerQuery.{InnerQuery}
use Rattle.resolver_bodies.specs.declared.bodies.Joined.{Joined}
use Rattle.resolver_bodies.specs.declared.bodies.Single.{Single}
use Rattle.resolver_bodies.specs.declared.bodies.Source.{Source}
use Rattle.resolver_bodies.specs.declared.bodies.Tables.{Tables}

-- a source, how it is joined, and on what
pub record JoinedData : Type 0 where
  pub kind : q.JoinKind
  pub source : q.Source
  pub condition : t.Term

-- a SELECT with what it stands on
pub record SingleData : Type 0 where
  pub from : q.From
  pub select : q.Select

-- these sources, joined from the left to those before them
abbrev pub joined_all : q.From → List JoinedData → q.From
joined_all from [] = from
joined_all from (j ∷ js) = joined_all (q.From.joined from j.kind j.source j.condition) js

-- One node of each kind, with what each child is in its place

abbrev pub source_node : f.Source-F q.Body q.InnerQuery q.Source JoinedData SingleData q.From → q.Source
source_node (f.Source-F.Table at width) = q.Source.table at width
source_node f.Source-F.Schema = q.Source.schema
source_node (f.Source-F.Derived body) = q.Source.derived body.value

abbrev pub inner_node : f.InnerQuery-F q.Body q.InnerQuery q.Source JoinedData SingleData q.From → q.InnerQuery
inner_node (f.InnerQuery-F.Values body) = q.InnerQuery.values_of body.value
inner_node (f.InnerQuery-F.Exists body) = q.InnerQuery.exists body.value

abbrev pub body_node : f.Body-F q.Body q.InnerQuery q.Source JoinedData SingleData q.From → q.Body
body_node (f.Body-F.Select single) = q.Body.select single.from single.select
body_node (f.Body-F.Compound left operator single) = q.Body.compound left.value (operator_of operator) single.from single.select

abbrev pub joined_node : f.Joined-F q.Body q.InnerQuery q.Source JoinedData SingleData q.From → JoinedData
joined_node j = record { kind = kind_of j.join; source = j.source; condition = term j.condition }

abbrev pub single_node : f.Single-F q.Body q.InnerQuery q.Source JoinedData SingleData q.From → SingleData
single_node s = record { from = s.tables; select = select_of s.select }

abbrev pub tables_node : f.Tables-F q.Body q.InnerQuery q.Source JoinedData SingleData q.From → q.From
tables_node t = with_answers (joined_all q.From.nothing t.sources.items) t.inner.items

-- Whole trees

abbrev pub body_of : Body → q.Body
body_of =
    folds.fold-Body q.Body q.InnerQuery q.Source JoinedData SingleData q.From
    body_node inner_node source_node joined_node single_node tables_node

abbrev pub inner_of : InnerQuery → q.InnerQuery
inner_of =
    folds.fold-InnerQuery q.Body q.InnerQuery q.Source JoinedData SingleData q.From
    body_node inner_node source_node joined_node single_node tables_node

abbrev pub source_of : Source → q.Source
source_of =
    folds.fold-Source q.Body q.InnerQuery q.Source JoinedData SingleData q.From
    body_node inner_node source_node joined_node single_node tables_node

abbrev pub joined_of : Joined → JoinedData
joined_of =
    folds.fold-Joined q.Body q.InnerQuery q.Source JoinedData SingleData q.From
    body_node inner_node source_node joined_node single_node tables_node

abbrev pub single_of : Single → SingleData
single_of =
    folds.fold-Single q.Body q.InnerQuery q.Source JoinedData SingleData q.From
    body_node inner_node source_node joined_node single_node tables_node

abbrev pub tables_of : Tables → q.From
tables_of =
    folds.fold-Tables q.Body q.InnerQuery q.Source JoinedData SingleData q.From
    body_node inner_node source_node joined_node single_node tables_node
