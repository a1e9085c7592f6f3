-- The last of the tables, behind those before it.
use Rattle.std.proofs.Common.{◌≡◌, ◌∙◌, ◌||◌, ◌+◌, ◌-◌, ◌<◌, ◌≤◌, Bool, true, false, ℕ, List, [], ◌∷◌, ◌++◌, get_or, length, map, take, refl, sym, ap, subst, arith}
use Rattle.std.proofs.Math.Seq.{take-append_seam}
use Rattle.std.proofs.lemmas.List.{length-append, length-map, take_all}
use Rattle.semantics.specs.Joins.{pads_left}
use Rattle.semantics.specs.Query.{From, from_width, joined, nothing, table}
use Rattle.semantics_names.specs.Sources.{kind_of}
use Rattle.logical_plan_terms.specs.Over.{IsOver}
use Rattle.logical_plan.specs.JoinPlan.{columns_before, has_right}
use Rattle.expr.specs.View.{term}
use Rattle.logical_plan_terms.specs.table_plans.Input.{from_of}
use Rattle.logical_plan_terms.specs.table_plans.Parted.{AreParted, columns_from}
use Rattle.logical_plan_terms.specs.table_plans.Planned.{AreOnOver}
use Rattle.logical_plan_terms.specs.declared.table_plans.inputs.JoinedTable.{JoinedTable}
use Rattle.logical_plan_terms.proofs.lemmas.table_plans.InputLemmas.{from_of-take}

pub none_are : (tables : List JoinedTable) → length tables < 1 → from_of tables ≡ nothing
none_are [] none = refl
none_are (t ∷ tables) none = absurd (omega (arith, none))

module _ (tables : List JoinedTable) (last : JoinedTable) (some : 1 ≤ length tables) (found : last ≡ get_or tables (length tables - 1) last) where
  abbrev before : From
  before = from_of (take (length tables - 1) tables)

  pub whole_is : from_of tables ≡ joined before (kind_of last.join) (table last.table last.width) (term last.condition.now)
  whole_is =
      let short : length tables - 1 < length tables = omega (arith, some) in
      let all : length tables ≤ length tables - 1 + 1 = omega (arith, some) in
      ap from_of (sym (take_all (length tables - 1 + 1) tables all)) ∙ from_of-take tables (length tables - 1) last short found

  module _ (read : List ℕ) (parted : AreParted (from_of tables) read) where
    abbrev Split : Type 0
    Split = (read ≡ columns_before (from_width before) read ++ columns_from (from_width before) read) × AreParted before (columns_before (from_width before) read)

    pub split : Split
    split = subst (λ from. AreParted from read) whole_is parted

    module _ (columns : List ℕ) (count : ℕ) (columns_are : map (λ c. from_width before + c) columns ≡ columns_from (from_width before) read)
        (long : count ≡ length columns) where
      behind_long : length (columns_from (from_width before) read) ≡ count
      behind_long = ap length (sym columns_are) ∙ length-map columns (λ c. from_width before + c) ∙ sym long

      read_long : length read ≡ length (columns_before (from_width before) read) + length (columns_from (from_width before) read)
      read_long = ap length split.0 ∙ length-append (columns_before (from_width before) read) (columns_from (from_width before) read)

      pub few : count ≤ length read
      few = omega (arith, behind_long, read_long)

      pub front : take (length read - count) read ≡ columns_before (from_width before) read
      front =
          let left : length read - count ≡ length (columns_before (from_width before) read) = omega (arith, behind_long, read_long) in
          ap (λ n. take n read) left ∙ ap (take (length (columns_before (from_width before) read))) split.0
          ∙ take-append_seam (columns_before (from_width before) read) (columns_from (from_width before) read)

  pub on_parts : (read : List ℕ) → AreOnOver read (from_of tables) → IsOver read 0 (term last.condition.now) × AreOnOver (columns_before (from_width before) read) before
  on_parts read over = subst (AreOnOver read) whole_is over

  pub on_whole : (read : List ℕ) → IsOver read 0 (term last.condition.now) → AreOnOver (columns_before (from_width before) read) before → AreOnOver read (from_of tables)
  on_whole read here rest = subst (AreOnOver read) (sym whole_is) (here, rest)

  -- where none is joined by a RIGHT or FULL JOIN, neither are those before the last nor the last
  pub none_right : has_right (from_of tables) ≡ false → (has_right before ≡ false) × (pads_left (kind_of last.join) ≡ false)
  none_right none = neither (has_right before) (pads_left (kind_of last.join)) (sym (ap has_right whole_is) ∙ none)
    where
      neither : (a b : Bool) → (a || b) ≡ false → (a ≡ false) × (b ≡ false)
      neither true b is = absurd cc
      neither false b is = (refl, is)
