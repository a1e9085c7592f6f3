-- A SELECT in which each expression stands in its own place.
use Rattle.std.proofs.Common.{◌≡◌, List, [], ◌∷◌, map, Option, Some, None, option_map, refl}
use Rattle.expr.specs.Term.{Term}
use Rattle.semantics.proofs.ScanLemmas.{map-identity}
use Rattle.semantics.specs.Mapped.{mapped_aggregate, mapped_call, mapped_function, mapped_grouping, mapped_key, mapped_key_term, mapped_select, mapped_window}
use Rattle.semantics.specs.Query.{Aggregate, Grouping, Key, KeyTerm, Select, Window, WindowCall, WindowFunction}

abbrev pub itself : Term → Term
itself t = t

function_itself : (function : WindowFunction) → mapped_function itself function ≡ function
function_itself (WindowFunction.aggregate a) = refl
function_itself WindowFunction.row_number = refl
function_itself WindowFunction.rank = refl
function_itself WindowFunction.dense_rank = refl
function_itself (WindowFunction.ntile n) = refl
function_itself (WindowFunction.lag x n otherwise) = refl
function_itself (WindowFunction.lead x n otherwise) = refl
function_itself (WindowFunction.first_value x) = refl
function_itself (WindowFunction.last_value x) = refl
function_itself (WindowFunction.nth_value x n) = refl

pub window_itself : (window : Window) → mapped_window itself window ≡ window
window_itself window = rw (map-identity window.partition, map-identity window.order) refl

call_itself : (call : WindowCall) → mapped_call itself call ≡ call
call_itself call = rw (map-identity call.window.partition, map-identity call.window.order, function_itself call.function) refl

pub calls_itself : (calls : List WindowCall) → map (mapped_call itself) calls ≡ calls
calls_itself [] = refl
calls_itself (call ∷ calls) = rw (call_itself call, calls_itself calls) refl

pub aggregates_itself : (aggregates : List Aggregate) → map (mapped_aggregate itself) aggregates ≡ aggregates
aggregates_itself aggregates = map-identity aggregates

pub grouping_itself : (g : Option Grouping) → option_map (mapped_grouping itself) g ≡ g
grouping_itself None = refl
grouping_itself (Some g) = rw (map-identity g.by, map-identity g.aggregates) refl

pub select_itself : (s : Select) → mapped_select itself s ≡ s
select_itself s = rw (grouping_itself s.grouping, calls_itself s.windows, map-identity s.columns) refl

key_term_itself : (by : KeyTerm) → mapped_key_term itself by ≡ by
key_term_itself (KeyTerm.result at) = refl
key_term_itself (KeyTerm.term t) = refl

pub order_itself : (order : List Key) → map (mapped_key itself) order ≡ order
order_itself [] = refl
order_itself (key ∷ order) = rw (key_term_itself key.by, order_itself order) refl
