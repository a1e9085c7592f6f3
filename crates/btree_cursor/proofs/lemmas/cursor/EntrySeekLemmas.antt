-- A search of an index: the order of its entries, and the steps of the search.
use Rattle.std.proofs.Common.{◌≡◌, ◌⊎◌, ℕ, ◌+◌, ◌<◌, ◌≤◌, Bool, IsTrue, List, [], ◌∷◌, ◌++◌, length, take, refl, sym, ◌∙◌, ap, subst, inl, inr}
use Rattle.std.specs.Ordering.{is_lt}
use Rattle.std.specs.declared.cmp.Ordering.{Ordering}
use Rattle.std.specs.declared.cmp.Ordering.TheVariants.{Less, Equal, Greater}
use Rattle.values.specs.Datum.{Datum}
use Rattle.values.specs.declared.fault.Fault.{Fault}
use Rattle.values.specs.declared.fault.Fault.TheVariants.{ReadFailed, NoMemory, BadPage, BadDepth}
use Rattle.pager.specs.Calls.{IsReadFault}
use Rattle.btree.specs.declared.image.kind.TreeKind.TheVariants.{Index}
use Rattle.btree.specs.declared.image.kind.Level.{Level}
use Rattle.btree.specs.declared.image.kind.Level.TheVariants.{Leaf, Interior}
use Rattle.btree.specs.image.Broken.{BlamesMet}
use Rattle.btree.specs.image.Entries.{IsAtPlace}
use Rattle.btree.specs.image.Layout.{header_at}
use Rattle.btree.specs.image.Pages.{Pages}
use Rattle.btree.specs.image.Search.{IsBoundary, IsCut}
use Rattle.btree.specs.image.Shape.{place_at, size_under}
use Rattle.btree.specs.image.Tree.{Place, HasHeader, IsPageOf, child_at}
use Rattle.btree.proofs.lemmas.image.OrderLemmas.{AreKeys}
use Rattle.btree_cursor.specs.key_ranges.Ranges.{key_cmp}
use Rattle.btree_cursor.proofs.lemmas.key_ranges.RunLemmas.{before_too, key_after, key_never}
use Rattle.btree_cursor.specs.declared.index_entries.columns.IndexKey.{IndexKey}
use Rattle.btree.specs.ViewData.{IsViewOf, ViewData}
use Rattle.btree_cursor.specs.index_entries.Entries.{AreValuesOf, IsViewIn}
use Rattle.btree_cursor.specs.index_entries.Sought.{comes_before, sought}
use Rattle.btree_cursor.specs.cursor.Search.{AreEntriesSought, BlamesEntry, IsIndexFault, IsSearchableIndex, entry_order}
use Rattle.btree_cursor.specs.cursor.Calls.{IsCursorFault}
use Rattle.btree_cursor.specs.cursor.Rest.{Holds, IsInLeaf}
use Rattle.btree_cursor.specs.declared.cursor.cursor.Frame.{Frame}
use Rattle.btree_cursor.proofs.lemmas.cursor.FrameLemmas.{frame_level, page_long, used}
use Rattle.btree_cursor.proofs.lemmas.cursor.DownLemmas.{IsSeekingIn, seek_down, seek_first, seek_header, seek_leaf, seek_page, seek_short}

lt_less : (o : Ordering) → IsTrue (is_lt o) → o ≡ Less
lt_less Less e = refl
lt_less Equal e = cc
lt_less Greater e = cc

less_lt : (o : Ordering) → o ≡ Less → IsTrue (is_lt o)
less_lt Less e = refl
less_lt Equal e = cc
less_lt Greater e = cc

pub one_place : (level : Level) (n i : ℕ) (a b : Place) → IsAtPlace level n i a → IsAtPlace level n i b → a ≡ b
one_place level n i a b at_a at_b = at_a ∙ sym at_b

module _ (descends : List Bool) (values : Place → List Datum) where
  abbrev pub Earlier : Place → Place → Type 0
  Earlier x y = IsTrue (entry_order descends values x y)

  pub earlier : (x y : Place) → Earlier x y → key_cmp descends (values x) (values y) ≡ Less
  earlier x y is = lt_less _ is

  pub entry_keys : (pages : Pages) → AreKeys IsAtPlace Earlier Earlier pages Index
  entry_keys pages = record {
    after = λ x y z a b. less_lt _ (key_after descends (values x) (values y) (values z) (earlier x y a) (earlier y z b));
    after_most = λ x y z a b. less_lt _ (key_after descends (values x) (values y) (values z) (earlier x y a) (earlier y z b));
    strict = λ _ x y h. h;
    never = λ x h. key_never descends (values x) (earlier x x h);
    key_of = λ level n i page within. (place_at n i, refl);
  }

module _ (pages : Pages) (key : IndexKey) (values : Place → List Datum) (levels root : ℕ) (index : IsSearchableIndex pages key.descends.now values levels root) where
  abbrev is_front : Place → Bool
  is_front place = comes_before key (values place)

  -- what comes before an entry that comes before what is sought does so too
  pub entry_cut : IsCut (Earlier key.descends.now values) (Earlier key.descends.now values) is_front
  entry_cut = record {
    less = λ x y less is. before_too key.descends.now (sought key).key (values x) (values y) (sought key).behind (earlier key.descends.now values x y less) is;
    most = λ x y less is. before_too key.descends.now (sought key).key (values x) (values y) (sought key).behind (earlier key.descends.now values x y less) is;
  }

  -- a search of this index that asks for page n next
  abbrev pub IsEntrySeeking : List Frame → ℕ → ℕ → ℕ → Type 0
  IsEntrySeeking = IsSeekingIn IsAtPlace (Earlier key.descends.now values) (Earlier key.descends.now values) pages Index root (entry_keys key.descends.now values pages) one_place index.order is_front entry_cut levels

  pub entry_first : (frames : List Frame) (asked : ℕ) → frames ≡ [] → IsEntrySeeking frames root asked (asked + size_under pages levels root)
  entry_first frames asked none = seek_first IsAtPlace (Earlier key.descends.now values) (Earlier key.descends.now values) pages Index root (entry_keys key.descends.now values pages) one_place index.order is_front entry_cut levels frames asked index.tree.few index.tree.number index.tree.shape none

  module _ (frames : List Frame) (n asked budget : ℕ) (s : IsEntrySeeking frames n asked budget) where
    pub entry_header : (level : Level) × HasHeader pages Index level n
    entry_header = seek_header IsAtPlace (Earlier key.descends.now values) (Earlier key.descends.now values) pages Index root (entry_keys key.descends.now values pages) one_place index.order is_front entry_cut levels frames n asked budget s

    pub entry_short : length frames < 20
    entry_short = seek_short IsAtPlace (Earlier key.descends.now values) (Earlier key.descends.now values) pages Index root (entry_keys key.descends.now values pages) one_place index.order is_front entry_cut levels frames n asked budget s

    module _ (frame : Frame) (number : frame.number ≡ n) where
      pub entry_page : (level : Level) → HasHeader pages Index level n → IsPageOf pages Index level frame.number
      entry_page = seek_page IsAtPlace (Earlier key.descends.now values) (Earlier key.descends.now values) pages Index root (entry_keys key.descends.now values pages) one_place index.order is_front entry_cut levels frames n asked budget s frame number

      pub entry_values : (level : Level) → HasHeader pages Index level n → AreValuesOf pages values level frame.number
      entry_values level header = subst (λ (x : ℕ). AreValuesOf pages values level x) (sym number)
          (index.entries level n (s.depth, s.stands) (subst (λ (x : ℕ). IsPageOf pages Index level x) number (entry_page level header)))

      module _ (holds : Holds pages frame) (p now : ℕ) (more : now ≤ asked + 1) where
        pub entry_down : frame.level ≡ Interior → HasHeader pages Index Interior n → IsBoundary IsAtPlace is_front pages Index Interior frame.number p
            → IsEntrySeeking (frames ++ (record frame { at = p }) ∷ []) (child_at pages frame.number p) now budget
        entry_down = seek_down IsAtPlace (Earlier key.descends.now values) (Earlier key.descends.now values) pages Index root (entry_keys key.descends.now values pages) one_place index.order is_front entry_cut levels frames n asked budget s frame number holds p now more

        pub entry_leaf : HasHeader pages Index Leaf n → IsBoundary IsAtPlace is_front pages Index Leaf frame.number p
            → AreEntriesSought pages key values levels root (λ places. IsInLeaf pages Index levels frames (record frame { at = p }) places now budget)
        entry_leaf = seek_leaf IsAtPlace (Earlier key.descends.now values) (Earlier key.descends.now values) pages Index root (entry_keys key.descends.now values pages) one_place index.order is_front entry_cut levels frames n asked budget s frame number holds p now more

-- the view of a page that a frame holds
module _ (pages : Pages) (frame : Frame) (usable : ℕ) (holds : Holds pages frame) (same : pages.usable ≡ usable) (view : ViewData)
    (of : IsViewOf Index frame.number (take usable frame.page) view) where
  pub view_held : IsViewIn pages frame.number view
  view_held = record {
    is = of.is ∙ ap (λ (b : List ℕ). record { at = header_at frame.number; kind = Index; level = view.level; page = b }) (used pages Index frame usable holds same);
    long = page_long pages Index frame usable holds same;
  }

  pub view_level : (level : Level) → HasHeader pages Index level frame.number → view.level ≡ level
  view_level level header = frame_level pages Index frame usable holds same level view.level header of.header

pub read_fault : (root : ℕ) (e : Fault) → IsCursorFault root e → IsIndexFault root e
read_fault root ReadFailed is = tt
read_fault root NoMemory is = tt
read_fault root (BadPage m) is = tt
read_fault root (BadDepth m) is = is
read_fault root other is = absurd is

pub way_fault : (pages : Pages) (root : ℕ) (e : Fault) → IsReadFault e ⊎ BlamesMet pages Index root e
    → IsReadFault e ⊎ (BlamesMet pages Index root e ⊎ BlamesEntry pages root e)
way_fault pages root e (inl read) = inl read
way_fault pages root e (inr met) = inr (inl met)
