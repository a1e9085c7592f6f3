-- An entry more in a batch.
use Rattle.std.proofs.Common.{◌≡◌, ◌∙◌, ◌+◌, ℕ, List, [], ◌∷◌, ◌++◌, length, take, sym, ap, subst, arith}
use Rattle.std.proofs.lemmas.List.{length-append, length-take-le}
use Rattle.integrity_trees.specs.wanted_entries.Bags.{Coded}
use Rattle.integrity_indexes.specs.declared.entry_batches.batch.Slot.{Slot}
use Rattle.integrity_indexes.specs.entry_batches.Batches.{AreBelow, IsBatch, IsCut, coded, last_end}
use Rattle.integrity_indexes.proofs.lemmas.entry_batches.CutLemmas.{coded_front, coded_kept, coded_push, cut_more, cut_push, cut_tight, last_within}
use Rattle.integrity_indexes.proofs.lemmas.entry_batches.KeyLemmas.{ascend_push}

-- bytes behind the last code are cut off
module _ (slots : List Slot) (codes : List ℕ) (is : IsBatch slots codes) (start : ℕ) (start_is : start ≡ last_end 0 slots)
    (kept : List ℕ) (kept_is : kept ≡ take start codes) where
  kept_long : length kept ≡ last_end 0 slots
  kept_long = ap length kept_is ∙ ap (λ (n : ℕ). length (take n codes)) start_is
      ∙ length-take-le (last_end 0 slots) codes (last_within 0 slots (length codes) is.cut)

  cut_kept : IsCut 0 slots (length kept)
  cut_kept = subst (λ (n : ℕ). IsCut 0 slots n) (sym kept_long) (cut_tight 0 slots (length codes) is.cut)

  pub batch_kept : IsBatch slots kept
  batch_kept = record { ascend = is.ascend; cut = cut_kept }

  pub same_kept : coded 0 slots kept ≡ coded 0 slots codes
  same_kept = ap (coded 0 slots) (kept_is ∙ ap (λ (n : ℕ). take n codes) start_is) ∙ coded_kept slots codes is.cut

  -- those of an entry stand behind them
  module _ (code all : List ℕ) (all_is : all ≡ kept ++ code) where
    all_long : length all ≡ length kept + length code
    all_long = ap length all_is ∙ length-append kept code

    pub batch_longer : IsBatch slots all
    batch_longer = record { ascend = is.ascend; cut = cut_more 0 slots (length kept) (length all) (let e = all_long in omega (arith, e)) cut_kept }

    pub same_longer : coded 0 slots all ≡ coded 0 slots codes
    same_longer = ap (coded 0 slots) all_is ∙ coded_front 0 slots kept code cut_kept ∙ same_kept

    -- and its slot
    module _ (slot : Slot) (end_is : slot.end ≡ length all) (above : AreBelow slot.key slots) (now : List Slot) (now_is : now ≡ slots ++ slot ∷ []) where
      pub batch_pushed : IsBatch now all
      batch_pushed = subst (λ (s : List Slot). IsBatch s all) (sym now_is) (record {
        ascend = ascend_push slots slot is.ascend above;
        cut = cut_push 0 slots slot (length kept) (length all) cut_kept (let e = all_long in omega (arith, e, end_is)) (omega (arith, end_is));
      })

      pub entries_pushed : coded 0 now all ≡ coded 0 slots codes ++ record { key = slot.key; code = code } ∷ []
      entries_pushed = (λ k. coded 0 (now_is k) (all_is k))
          ∙ coded_push 0 slots slot kept code cut_kept (sym kept_long) (end_is ∙ all_long)
          ∙ ap (λ (l : List Coded). l ++ record { key = slot.key; code = code } ∷ []) same_kept
