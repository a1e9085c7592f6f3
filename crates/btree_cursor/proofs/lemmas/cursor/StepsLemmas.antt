-- How many pages a cursor asks for that goes on from where a search has led to.
use Rattle.std.proofs.Common.{◌≡◌, ◌+◌, ◌*◌, ◌≤◌, ℕ, ℤ, suc, Bool, false, IsTrue, List, drop, sym, subst, arith}
use Rattle.values.specs.Datum.{Datum}
use Rattle.pager.specs.PagerState.{PagerState}
use Rattle.pager.specs.Calls.{AsksChainsOnly, SameImage}
use Rattle.pager.proofs.CallLemmas.{SameImage-none, SameImage-trans}
use Rattle.btree.specs.declared.image.kind.TreeKind.{TreeKind}
use Rattle.btree.specs.declared.image.kind.TreeKind.TheVariants.{Table, Index}
use Rattle.btree.specs.image.Pages.{Pages, pages_seen}
use Rattle.btree.specs.image.Tree.{Place}
use Rattle.btree_cursor.specs.declared.index_entries.columns.IndexKey.{IndexKey}
use Rattle.btree.proofs.SeenLemmas.{same_pages, still_steady}
use Rattle.btree_cursor.specs.declared.cursor.cursor.Cursor.{Cursor}
use Rattle.btree_cursor.specs.cursor.Calls.{HasStepped}
use Rattle.btree_cursor.specs.cursor.Listing.{IsAt}
use Rattle.btree_cursor.specs.cursor.Search.{HasRowWith, IsEntrySought, IsRowSought, IsSearchable, IsSearchableIndex}
use Rattle.btree_cursor.specs.cursor.Steps.{HasGoneOn, not_yet, once_more}

-- from a cell of a tree, over a steady source
module _ (start : PagerState) (first : Cursor) (kind : TreeKind) (levels : ℕ) (places : List Place) (budget : ℕ)
    (steady : IsTrue start.source.steady) (at_first : IsAt (pages_seen start) kind levels first places start.asked budget) where
  abbrev StandsAt : PagerState → Cursor → List Place → Type 0
  StandsAt now cursor rest = IsAt (pages_seen start) kind levels cursor rest now.asked budget

  pub record HasAsked (m : ℕ) (now : PagerState) (cursor : Cursor) : Type 0 where
    pub image : SameImage start now
    pub rest : List Place
    pub at : StandsAt now cursor rest
    pub few : now.asked ≤ start.asked + m * levels

  -- pages of chains leave it where it stands
  chains_later : (m : ℕ) (old now : PagerState) (cursor : Cursor) → AsksChainsOnly old now → HasAsked m old cursor
      → HasAsked m now cursor
  chains_later m old now cursor chains has = record {
    image = SameImage-trans _ _ _ has.image chains.image;
    rest = has.rest;
    at = subst (λ (a : ℕ). IsAt (pages_seen start) kind levels cursor has.rest a budget) (sym chains.unasked) has.at;
    few = omega (arith, has.few, chains.unasked);
  }

  step_later : (m : ℕ) (old new : PagerState) (was cursor : Cursor) → HasStepped old new was cursor → SameImage old new
      → HasAsked m old was → HasAsked (suc m) new cursor
  step_later m old new was cursor stepped image has =
      let same = same_pages _ _ has.image in
      let gone = stepped.lists (still_steady _ _ has.image steady) kind levels has.rest budget
      (subst (λ (p : Pages). IsAt p kind levels was has.rest old.asked budget) (sym same) has.at) in
      let more : new.asked ≤ old.asked + levels = gone.1 in
      let before : old.asked ≤ start.asked + m * levels = has.few in
      record {
        image = SameImage-trans _ _ _ has.image image;
        rest = drop 1 has.rest;
        at = subst (λ (p : Pages). IsAt p kind levels cursor (drop 1 has.rest) new.asked budget) same gone.0;
        few = omega arith;
      }

  pub asked_on : {m : ℕ} {now : PagerState} {cursor : Cursor} → HasGoneOn start first m now cursor → HasAsked m now cursor
  asked_on (not_yet now chains) =
      chains_later 0 start now first chains
      (record { image = SameImage-none start; rest = places; at = at_first; few = omega arith })
  asked_on (once_more {m} {old} {was} new now cursor before stepped image chains) =
      chains_later (suc m) new now cursor chains (step_later m old new was cursor stepped image (asked_on before))

module _ (old new : PagerState) (image : SameImage old new) (steady : IsTrue old.source.steady) (levels m : ℕ)
    (last : PagerState) (cursor now : Cursor) (on : HasGoneOn new cursor m last now) where
  -- behind a search that has asked for so many pages and stands in the tree
  behind : (kind : TreeKind) (places : List Place) (budget : ℕ) → IsAt (pages_seen old) kind levels cursor places new.asked budget
      → last.asked ≤ new.asked + m * levels
  behind kind places budget at =
      (asked_on new cursor kind levels places budget (still_steady _ _ image steady)
      (subst (λ (p : Pages). IsAt p kind levels cursor places new.asked budget) (sym (same_pages _ _ image)) at) on).few

  module _ (root : ℕ) (back : Bool) (rowid : ℤ) (sought : IsRowSought old new root back rowid cursor)
      (table : IsSearchable (pages_seen old) levels root) where
    pub rows_behind : last.asked ≤ old.asked + (levels + 1) * (m + 2)
    rows_behind =
        let s = sought.seeks steady levels table in
        let more = behind Table s.0.rest _ s.0.leads in
        let first : new.asked ≤ old.asked + (2 * levels + 1) = s.1 in
        omega arith

    pub rows_direct : back ≡ false → HasRowWith (pages_seen old) levels root rowid
        → last.asked ≤ old.asked + (levels + 1) * (m + 1)
    rows_direct exact has =
        let s = sought.seeks steady levels table in
        let more = behind Table s.0.rest _ s.0.leads in
        let first : new.asked ≤ old.asked + (levels + 1) = sought.direct steady levels table exact has in
        omega arith

  pub entries_behind : (root : ℕ) (key : IndexKey) (values : Place → List Datum) → IsEntrySought old new root key cursor
      → IsSearchableIndex (pages_seen old) key.descends.now values levels root → last.asked ≤ old.asked + (levels + 1) * (m + 1)
  entries_behind root key values sought index =
      let s = sought.seeks steady levels values index in
      let more = behind Index s.0.rest _ s.0.leads in
      let first : new.asked ≤ old.asked + (levels + 1) = s.1 in
      omega arith
