use Rattle.std.proofs.lemmas.List.Filters.{dedup_is}
use Rattle.std.proofs.lemmas.List.Kept.{Contains-dedup_nat, Contains-from_dedup}
use Rattle.std.proofs.lemmas.List.Sorted.{Contains-permutation, IsPermutation-sym}
use Rattle.std.proofs.lemmas.Map.Keys.{IsStrictlyIncreasing-dedup}
use Rattle.logical_plan_terms.proofs.names.read_columns.Goals as goal

pub returns : goal.returns
returns c =
    let is = dedup_is _ _ _ c.dedup.ensures.filtered in
    let moved = c.sort_unstable.ensures.permutation in
    record {
      once = rw is (IsStrictlyIncreasing-dedup _ c.sort_unstable.ensures.sorted);
      same = λ at. (
        λ held. Contains-permutation _ _ at (IsPermutation-sym _ _ moved) (Contains-from_dedup _ _ at (rw is at held)),
        λ held. rw is (Contains-dedup_nat _ at (Contains-permutation _ _ at moved held)),
      );
    }
