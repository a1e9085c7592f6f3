-- LIMIT and OFFSET along rows that are given one by one.
use Rattle.std.proofs.Common.{◌≡◌, ◌∙◌, ◌-◌, arith, ℕ, List, [], ◌∷◌, ◌++◌, append-nil, append_assoc, length, map, refl, sym, ap}
use Rattle.std.specs.Global.{Vec}
use Rattle.std.proofs.lemmas.List.{map_push, take_all}
use Rattle.values.specs.Datum.{datum_of}
use Rattle.values.specs.Row.{Row, rows_data}
use Rattle.values.specs.declared.value.Value.{Value}
use Rattle.operators_results.specs.declared.limits.LimitOffset.{LimitOffset}
use Rattle.operators_results.specs.Slices.{sliced}
use Rattle.logical_plan.specs.answers.Answers.{without}
use Rattle.operators_results.proofs.SliceLemmas.{none_sliced}
use Rattle.operators_results.proofs.StreamLemmas.{GivesFirst, PassesFirst}
use Rattle.windows_groups.proofs.FirstLemmas.{row_of}

pub slice_whole : (first last : LimitOffset) (done given : List Row) → ((rest : List Row) → sliced first (done ++ rest) ≡ given ++ sliced last rest)
    → given ≡ sliced first done
slice_whole first last done given all =
    sym (append-nil given) ∙ ap (λ t. given ++ t) (sym (none_sliced last [] refl)) ∙ sym (all []) ∙ ap (sliced first) (append-nil done)

pub slice_gives : (first old new : LimitOffset) (done given : List Row) (row : Row) → ((rest : List Row) → sliced first (done ++ rest) ≡ given ++ sliced old rest)
    → GivesFirst old new → (rest : List Row) → sliced first ((done ++ row ∷ []) ++ rest) ≡ (given ++ row ∷ []) ++ sliced new rest
slice_gives first old new done given row before gives rest =
    ap (sliced first) (append_assoc done (row ∷ []) rest) ∙ before (row ∷ rest) ∙ ap (λ t. given ++ t) (gives row rest)
    ∙ sym (append_assoc given (row ∷ []) (sliced new rest))

pub slice_passes : (first old new : LimitOffset) (done given : List Row) (row : Row) → ((rest : List Row) → sliced first (done ++ rest) ≡ given ++ sliced old rest)
    → PassesFirst old new → (rest : List Row) → sliced first ((done ++ row ∷ []) ++ rest) ≡ given ++ sliced new rest
slice_passes first old new done given row before passes rest =
    ap (sliced first) (append_assoc done (row ∷ []) rest) ∙ before (row ∷ rest) ∙ ap (λ t. given ++ t) (passes row rest)

-- what is shown of rows, and of one more
pub shown_more : (hidden : ℕ) (rows : List (Vec Value)) (row : Vec Value)
    → map (without hidden) (rows_data (rows ++ row ∷ [])) ≡ map (without hidden) (rows_data rows) ++ without hidden (map datum_of row.items) ∷ []
shown_more hidden rows row = ap (map (without hidden)) (map_push row_of rows row) ∙ map_push (without hidden) (rows_data rows) (row_of row)

-- where nothing is hidden they are shown whole
pub shown_whole : (rows : List Row) → map (without 0) rows ≡ rows
shown_whole [] = refl
shown_whole (row ∷ rows) = λ i. take_all (length row - 0) row (omega arith) i ∷ shown_whole rows i
