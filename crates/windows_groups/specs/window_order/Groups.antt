-- Peer groups along a sequence. (Window Functions, "Frame Type")
use Rattle.std.specs.Prelude.{◌≡◌, ℕ, zero, suc, ◌+◌, ◌<◌, ◌≤◌, nat_lt, List, length, slice_index}
use Rattle.values.specs.Row.{Row}
use Rattle.semantics.specs.Query.{Direction}
use Rattle.semantics.specs.Windows.{peer_group}
use Rattle.windows_groups.specs.declared.window_order.peers.PeerGroups.{PeerGroups}

-- how many groups the first places make
abbrev pub groups_made : List Direction → List Row → ℕ → ℕ
groups_made ds keys zero = 0
groups_made ds keys (suc i) = peer_group ds keys i + 1

-- the number of each place, and where each group and the end begin: the groups that come before one are the places before it
pub record AreGroups (ds : List Direction) (keys : List Row) (groups : PeerGroups) : Type 0 where
  pub size : length groups.numbers.items ≡ length keys
  pub each : (i : ℕ) → i < length keys → slice_index groups.numbers.items i ≡ peer_group ds keys i
  pub within : (g : ℕ) → g < length groups.starts.items → slice_index groups.starts.items g ≤ length keys
  pub cuts : (g i : ℕ) → g < length groups.starts.items → i < length keys → nat_lt i (slice_index groups.starts.items g) ≡ nat_lt (peer_group ds keys i) g
  pub last : (i : ℕ) → i < length keys → peer_group ds keys i + 1 < length groups.starts.items
