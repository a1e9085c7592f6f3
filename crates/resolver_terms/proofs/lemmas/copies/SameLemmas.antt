-- What stands in a copy with the same leaves.
use Rattle.std.proofs.Common.{◌≡◌, ◌∙◌, List, map, Option, option_map, ap}
use Rattle.expr.specs.CopyView.{copied}
use Rattle.expr.specs.declared.copies.Leaves.TheVariants.{Same}
use Rattle.expr.proofs.CopyLemmas.{same_term}
use Rattle.semantics.specs.Mapped.{mapped_aggregate, mapped_call, mapped_grouping, mapped_key, mapped_select, mapped_window}
use Rattle.semantics.specs.Query as q
use Rattle.semantics.proofs.ItselfLemmas.{aggregates_itself, calls_itself, grouping_itself, itself, order_itself, select_itself, window_itself}

same_leaves : copied Same ≡ itself
same_leaves = λ j t. same_term t j

pub same_aggregates : (aggregates : List q.Aggregate) → map (mapped_aggregate (copied Same)) aggregates ≡ aggregates
same_aggregates aggregates = ap (λ f. map (mapped_aggregate f) aggregates) same_leaves ∙ aggregates_itself aggregates

pub same_window : (window : q.Window) → mapped_window (copied Same) window ≡ window
same_window window = ap (λ f. mapped_window f window) same_leaves ∙ window_itself window

pub same_calls : (calls : List q.WindowCall) → map (mapped_call (copied Same)) calls ≡ calls
same_calls calls = ap (λ f. map (mapped_call f) calls) same_leaves ∙ calls_itself calls

pub same_grouping : (grouping : Option q.Grouping) → option_map (mapped_grouping (copied Same)) grouping ≡ grouping
same_grouping grouping = ap (λ f. option_map (mapped_grouping f) grouping) same_leaves ∙ grouping_itself grouping

pub same_select : (select : q.Select) → mapped_select (copied Same) select ≡ select
same_select select = ap (λ f. mapped_select f select) same_leaves ∙ select_itself select

pub same_order : (order : List q.Key) → map (mapped_key (copied Same)) order ≡ order
same_order order = ap (λ f. map (mapped_key f) order) same_leaves ∙ order_itself order
