-- Rows whose ranks tell their whole order.
use Rattle.std.specs.Prelude.{◌≡◌, All, List, [], ◌∷◌}
use Rattle.values.specs.Row.{Row}
use Rattle.semantics.specs.Sequence.{value_at}
use Rattle.resolver_terms.specs.SelectView.{direction_of}
use Rattle.windows_groups.specs.window_order.Ranks.{IsNumber, rank_of}
use Rattle.windows_groups.specs.declared.window_order.ranks.Rank.{Rank}
use Rattle.windows_groups.specs.declared.order.ResultKey.{ResultKey}

-- the rank of the first value that a row is put in order by; one rank, if by none
abbrev pub first_rank : List ResultKey → Row → Rank
first_rank [] row = record { class = 0; bits = 0 }
first_rank (key ∷ order) row = rank_of (direction_of key.direction) (value_at row key.at)

-- they are put in order by one value, which is a number or NULL in each
pub record AreRanked (order : List ResultKey) (rows : List Row) : Type 0 where
  pub key : ResultKey
  pub one : order ≡ key ∷ []
  pub numbers : All (λ row. IsNumber (value_at row key.at)) rows
