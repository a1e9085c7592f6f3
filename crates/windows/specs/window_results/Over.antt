-- The window of a sequence.
use Rattle.std.specs.Prelude.{◌≡◌, map}
use Rattle.semantics.specs.Query.{Window}
use Rattle.semantics.specs.Valuation.{Valuation}
use Rattle.semantics.specs.Windows.{directions, sort_values}
use Rattle.resolver_terms.specs.SelectView.{frame_of}
use Rattle.resolver_terms.specs.declared.selects.Frame.{Frame}
use Rattle.windows_groups.specs.declared.window_order.placed.Sequence.{Sequence}
use Rattle.windows_groups.specs.window_order.Placed.{keys_in, rows_in, ways_in}

-- the sequence is in the order of the window, its frames are so, and the values of ORDER BY on its rows are these
pub record IsWindowOver (value : Valuation) (window : Window) (sequence : Sequence) (frame : Frame) : Type 0 where
  pub ways : directions window.order ≡ ways_in sequence
  pub edges : window.frame ≡ frame_of frame
  pub keys : keys_in sequence ≡ map (sort_values value window.order) (rows_in sequence)
