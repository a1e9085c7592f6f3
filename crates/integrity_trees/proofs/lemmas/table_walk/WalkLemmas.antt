-- The steps of a walk.
use Rattle.std.proofs.Common.{◌≡◌, ◌≢◌, ℕ, ℤ, zero, suc, ◌+◌, ◌<◌, ◌≤◌, List, length, Option, Some, None, inl, refl, sym, ◌∙◌, ap, subst, ⊎_elim, arith, add-one, below_more, take, length-take, ◌*◌}
use Rattle.std.proofs.lemmas.Bool.{cases_lt}
use Rattle.values.specs.declared.fault.Fault.{Fault}
use Rattle.values.specs.declared.fault.Fault.TheVariants.{BadPage, BadDepth}
use Rattle.btree.specs.declared.image.kind.TreeKind.TheVariants.{Table}
use Rattle.btree.specs.declared.image.kind.Level.{Level}
use Rattle.btree.specs.declared.image.kind.Level.TheVariants.{Leaf, Interior}
use Rattle.btree.specs.image.Layout.{header_at, cell_count, child, HasHeaderAt}
use Rattle.btree.specs.image.Pages.{pages_seen, Pages, IsNumber}
use Rattle.btree.specs.image.Tree.{IsPageOf, IsChild, IsUnder, StandsAt, top, below, Reaches, child_at, count_at}
use Rattle.btree.specs.image.Shape.{places_under, place_at}
use Rattle.btree.specs.image.Broken.{HasRowid, IsSound, IsBroken}
use Rattle.btree.proofs.lemmas.image.ShapeLemmas.{one_level}
use Rattle.btree.specs.Bytes.{IsDividerCell}
use Rattle.records_tables.specs.stored_rows.Keys.{IsHead, IsHeadFault, IsSeen, KeysFit, HasCells}
use Rattle.integrity_trees.specs.table_walk.Walked.{IsLowAt, IsHighAt, IsTree, IsBranch, StandsWithin}
use Rattle.std.proofs.lemmas.List.FromFn.{length-map-range_with_len}
use Rattle.pager.specs.declared.header.Header.{Header}
use Rattle.pager.specs.Page.{page_of}
use Rattle.pager.specs.PagerState.{PagerState, IsSoundHeader}
use Rattle.btree.specs.ViewData.{ViewData}
use Rattle.btree.proofs.SeenLemmas.{readable}
use Rattle.integrity_trees.specs.tree_walk.Counts.{AreCounts}
use Rattle.integrity_trees.proofs.lemmas.table_walk.HeadLemmas.{is_page, fit_here, no_header, head_fault}

module _ (pages : Pages) (root : ℕ) where
  pub start_met : IsNumber pages root → StandsWithin pages root 1 None None root
  start_met number = record { number = number; stands = top; low_from = λ k e. cc; high_from = λ k e. cc }

  module _ (depth : ℕ) (low high : Option ℤ) (n : ℕ) (met : StandsWithin pages root depth low high n) where
    pub bad_child : (i : ℕ) → IsPageOf pages Table Interior n → i ≤ count_at pages n → ¬ IsNumber pages (child_at pages n i) → IsBroken pages root (BadPage n)
    bad_child i page within not =
        ((depth, met.stands), λ (sound : IsSound pages Table root n). not (sound.children (one_level pages Table sound.level Interior n sound.page page) i within))

    under_child : (a i j m : ℕ) → IsUnder pages Table a i n → IsChild pages Table n j m → IsUnder pages Table a i m
    under_child a i j m under c = record { head = under.head; is = under.is; reaches = (suc under.reaches.0, below j under.reaches.1 c) }

    under_self : (i m : ℕ) → IsChild pages Table n i m → IsUnder pages Table n i m
    under_self i m c = record { head = m; is = c; reaches = (1, top) }

    some_key : (x y : ℤ) → Some x ≡ Some y → x ≡ y
    some_key x y e = cc

    -- a child is met a level deeper, with the keys beside it as its bounds
    pub child_met : (i : ℕ) (l h : Option ℤ) → IsPageOf pages Table Interior n → i ≤ count_at pages n → IsNumber pages (child_at pages n i)
        → IsLowAt pages n low i l → IsHighAt pages n high i h → StandsWithin pages root (depth + 1) l h (child_at pages n i)
    child_met i l h page within number low_is high_is = record {
      number = number;
      stands = rw add-one (below i met.stands c);
      low_from = low_up i l low_is c;
      high_from = high_up;
    } where
      c : IsChild pages Table n i (child_at pages n i)
      c = record { interior = page; within = within; is = refl; number = number }

      low_up : (i : ℕ) (l : Option ℤ) → IsLowAt pages n low i l → IsChild pages Table n i (child_at pages n i) → (key : ℤ) → l ≡ Some key
          → (a b : ℕ) × Reaches pages Table root a × IsUnder pages Table a (b + 1) (child_at pages n i) × HasRowid pages Interior a b key
      low_up zero l is here key e =
          let up = met.low_from key (sym is ∙ e) in (up.0, up.1, up.2, under_child up.0 (up.1 + 1) 0 (child_at pages n 0) up.3 here, up.4)
      low_up (suc i) l (k, is, has) here key e = (
        n,
        i,
        (depth, met.stands),
        rw add-one (under_self (suc i) (child_at pages n (suc i)) here),
        subst (λ (x : ℤ). HasRowid pages Interior n i x) (some_key k key (sym is ∙ e)) has,
      )

      high_up : (key : ℤ) → h ≡ Some key
          → (a b : ℕ) × Reaches pages Table root a × IsUnder pages Table a b (child_at pages n i) × (b < count_at pages a) × HasRowid pages Interior a b key
      high_up key e = ⊎_elim
          (λ (inside : i < count_at pages n). let at = high_is.inner inside in
          (n, i, (depth, met.stands), under_self i (child_at pages n i) c, inside, subst (λ (x : ℤ). HasRowid pages Interior n i x) (some_key at.0 key (sym at.1 ∙ e)) at.2))
          (λ (past : count_at pages n ≤ i). let up = met.high_from key (sym (high_is.last past) ∙ e) in
          (up.0, up.1, up.2, under_child up.0 up.1 i (child_at pages n i) up.3 c, up.4, up.5))
          (cases_lt i (count_at pages n))

    -- so many levels under a page stands a leaf
    leaf_under : (levels depth n : ℕ) (low high : Option ℤ) → IsTree pages root levels low high n → StandsAt pages Table root depth n
        → (m : ℕ) × StandsAt pages Table root (levels + depth) m × IsPageOf pages Table Leaf m
    leaf_under zero depth n low high tree stands = let e : depth ≡ 0 + depth = omega arith in (n, subst (λ (x : ℕ). StandsAt pages Table root x n) e stands, tree.0)
    leaf_under (suc levels) depth n low high tree stands =
        let first = tree.2 0 (omega arith) in
        let found = leaf_under levels (suc depth) (child_at pages n 0) first.1.0 first.1.1 first.1.4
        (below 0 stands (record { interior = tree.0; within = omega arith; is = refl; number = first.0 })) in
        let e : levels + suc depth ≡ suc levels + depth = omega arith in
        (found.0, subst (λ (x : ℕ). StandsAt pages Table root x found.0) e found.1, found.2)

    leaf_at : (i levels : ℕ) → IsPageOf pages Table Interior n → i ≤ count_at pages n → IsBranch pages root levels low high n i
        → (m : ℕ) × StandsAt pages Table root (levels + suc depth) m × IsPageOf pages Table Leaf m
    leaf_at i levels page within branch = leaf_under levels (suc depth) (child_at pages n i) branch.1.0 branch.1.1 branch.1.4
        (below i met.stands (record { interior = page; within = within; is = refl; number = branch.0 }))

    pub uneven : (i levels other : ℕ) → IsPageOf pages Table Interior n → i ≤ count_at pages n → IsBranch pages root levels low high n 0
        → IsBranch pages root other low high n i → (other ≢ levels) → IsBroken pages root (BadDepth root)
    uneven i levels other page within first later differ =
        let a = leaf_at 0 levels page (omega arith) first in
        let b = leaf_at i other page within later in (
          refl,
          inl (⊎_elim
              (λ (less : levels < other). record { one = a.0; other = b.0; depth = levels + suc depth; deeper = other + suc depth; one_at = a.1; other_at = b.1; one_leaf = a.2; other_leaf = b.2; differ = omega arith })
              (λ (least : other ≤ levels). record { one = b.0; other = a.0; depth = other + suc depth; deeper = levels + suc depth; one_at = b.1; other_at = a.1; one_leaf = b.2; other_leaf = a.2; differ = omega arith })
              (cases_lt levels other)),
        )

    -- one more branch, of as many levels as those before it
    pub more_branches : (i levels now : ℕ) → (0 < i → levels ≡ now) → ((k : ℕ) → k < i → IsBranch pages root levels low high n k)
        → IsBranch pages root now low high n i → (k : ℕ) → k < i + 1 → IsBranch pages root now low high n k
    more_branches i levels now same branches here =
        below_more (λ k. IsBranch pages root now low high n k) i
        (λ k within. subst (λ (x : ℕ). IsBranch pages root x low high n k) (same (omega arith)) (branches k within)) here

-- the same as the bytes that were seen tell it
module _ (pages : Pages) (n at most : ℕ) (page : List ℕ) (seen : IsSeen pages n at most page) where
  here : (P : ℕ → ℕ → List ℕ → Type 0) → P at most page → P (header_at n) pages.size (pages.page n)
  here P p = subst (λ (a : ℕ). P a pages.size (pages.page n)) seen.at_is
      (subst (λ (m : ℕ). P at m (pages.page n)) seen.most_is (subst (λ (b : List ℕ). P at most b) seen.page_is p))

  long_here : length (pages.page n) ≡ pages.usable
  long_here = sym (ap length seen.page_is) ∙ seen.long

  pub seen_page : (level : Level) (root : ℕ) (low high : Option ℤ) → HasHeaderAt at Table level page → IsHead at most page level root n low high
      → IsPageOf pages Table level n × KeysFit (HasRowid pages level n) (count_at pages n) low high × (level ≡ Leaf → n ≢ root → 0 < count_at pages n)
  seen_page level root low high header head =
      let header_here = here (λ a m b. HasHeaderAt a Table level b) header in
      let head_here = here (λ a m b. IsHead a m b level root n low high) head in
      let page_here = is_page pages n long_here level header_here head_here.cells in
      (page_here, fit_here pages n long_here level low high page_here head_here.fit, head_here.filled)

  pub seen_child : (i m : ℕ) → m ≡ child at page i → m ≡ child_at pages n i
  seen_child i m is = here (λ a k b. m ≡ child a b i) is

  pub seen_within : (i : ℕ) → i ≤ cell_count at page → i ≤ count_at pages n
  seen_within i within = here (λ a k b. i ≤ cell_count a b) within

  pub seen_count : (c : ℕ) → c ≡ cell_count at page → c ≡ count_at pages n
  seen_count c is = here (λ a k b. c ≡ cell_count a b) is

  pub seen_low : (low l : Option ℤ) (i : ℕ) → (i ≡ 0 → l ≡ low)
      → ((k : ℕ) → i ≡ suc k → (key : ℤ) × (l ≡ Some key) × IsDividerCell at page k key) → IsLowAt pages n low i l
  seen_low low l zero first inner = first refl
  seen_low low l (suc i) first inner =
      let at_key = inner i refl in
      (at_key.0, at_key.1, (here (λ a m b. IsDividerCell a b i at_key.0) at_key.2).is)

  pub seen_high : (high h : Option ℤ) (i : ℕ) → (i < cell_count at page → (key : ℤ) × (h ≡ Some key) × IsDividerCell at page i key)
      → (cell_count at page ≤ i → h ≡ high) → IsHighAt pages n high i h
  seen_high high h i inner last = record {
    inner = λ within. let at_key = here (λ a m b. i < cell_count a b → (key : ℤ) × (h ≡ Some key) × IsDividerCell a b i key) inner within in (at_key.0, at_key.1, at_key.2.is);
    last = here (λ a m b. cell_count a b ≤ i → h ≡ high) last;
  }

  module _ (root depth : ℕ) (low high : Option ℤ) (met : StandsWithin pages root depth low high n) where
    pub seen_none : ((level : Level) → ¬ HasHeaderAt at Table level page) → IsBroken pages root (BadPage n)
    seen_none none = no_header pages n long_here root depth low high met (here (λ a m b. (level : Level) → ¬ HasHeaderAt a Table level b) none)

    pub seen_fault : (level : Level) (fault : Fault) → HasHeaderAt at Table level page → IsHeadFault at most page level root n low high fault → IsBroken pages root fault
    seen_fault level fault header h = head_fault pages n long_here root depth low high met level fault
        (here (λ a m b. HasHeaderAt a Table level b) header) (here (λ a m b. IsHeadFault a m b level root n low high fault) h)

-- an interior page of the tree as its used bytes tell it
pub record IsInner (pages : Pages) (root depth : ℕ) (low high : Option ℤ) (n at most : ℕ) (page : List ℕ) : Type 0 where
  pub seen : IsSeen pages n at most page
  pub met : StandsWithin pages root depth low high n
  pub cells : HasCells at most page Interior
  pub page_is : IsPageOf pages Table Interior n
  pub fit : KeysFit (HasRowid pages Interior n) (count_at pages n) low high

module _ (state : PagerState) (header : Header) (header_is : header ≡ state.header) (sound : IsSoundHeader header) (n : ℕ) (bytes : List ℕ)
    (bytes_is : bytes ≡ page_of state.source.bytes n) (long : length bytes ≡ state.header.page_size) where
  used_long : length (take header.usable bytes) ≡ header.usable
  used_long =
      let most : header.usable ≤ header.page_size = sound.usable_most in
      let size : header.page_size ≡ state.header.page_size = ap (λ (h : Header). h.page_size) header_is in
      omega (arith, length-take header.usable bytes, long, size, most)

  used_is : take header.usable bytes ≡ (pages_seen state).page n
  used_is = ap (λ (b : List ℕ). take header.usable b) bytes_is ∙ ap (λ (h : Header). take h.usable (page_of state.source.bytes n)) header_is

  see_bytes : IsSeen (pages_seen state) n (header_at n) (header.pages * header.page_size) (take header.usable bytes)
  see_bytes = record {
    at_is = refl;
    page_is = used_is;
    most_is = ap (λ (h : Header). h.pages * h.page_size) header_is;
    long = used_long ∙ ap (λ (h : Header). h.usable) header_is;
  }

  module _ (root depth : ℕ) (low high : Option ℤ) (met : StandsWithin (pages_seen state) root depth low high n) where
    pub broken_header : (480 ≤ header.usable → header.usable ≤ 65536 → header.usable ≤ length bytes → (level : Level) → ¬ HasHeaderAt (header_at n) Table level (take header.usable bytes))
        → IsBroken (pages_seen state) root (BadPage n)
    broken_header none =
        let most : header.usable ≤ header.page_size = sound.usable_most in
        let size : header.page_size ≡ state.header.page_size = ap (λ (h : Header). h.page_size) header_is in
        let readable_is = readable header state.source.bytes sound in
        seen_none (pages_seen state) n (header_at n) (header.pages * header.page_size) (take header.usable bytes) see_bytes root depth low high met
        (none sound.usable readable_is.most (omega (arith, long, size, most)))

    module _ (view : ViewData) (found : view ≡ record { at = header_at n; kind = Table; level = view.level; page = take header.usable bytes })
        (has : HasHeaderAt (header_at n) Table view.level (take header.usable bytes)) where
      at_is : view.at ≡ header_at n
      at_is = ap (λ (v : ViewData). v.at) found

      page_is : view.page ≡ take header.usable bytes
      page_is = ap (λ (v : ViewData). v.page) found

      pub see : IsSeen (pages_seen state) n view.at (header.pages * header.page_size) view.page
      see = record { at_is = at_is; page_is = page_is ∙ used_is; most_is = see_bytes.most_is; long = ap length page_is ∙ see_bytes.long }

      pub has_header : HasHeaderAt view.at Table view.level view.page
      has_header = subst (λ (a : ℕ). HasHeaderAt a Table view.level view.page) (sym at_is) (subst (λ (b : List ℕ). HasHeaderAt (header_at n) Table view.level b) (sym page_is) has)

      pub broken_head : (fault : Fault) → IsHeadFault view.at (header.pages * header.page_size) view.page view.level root n low high fault → IsBroken (pages_seen state) root fault
      broken_head fault h = seen_fault (pages_seen state) n view.at (header.pages * header.page_size) view.page see root depth low high met view.level fault has_header h

      pub leaf_tree : IsHead view.at (header.pages * header.page_size) view.page view.level root n low high → view.level ≡ Leaf
          → IsTree (pages_seen state) root 0 low high n
      leaf_tree head leaf =
          let p = seen_page (pages_seen state) n view.at (header.pages * header.page_size) view.page see view.level root low high has_header head in (
            subst (λ (l : Level). IsPageOf (pages_seen state) Table l n) leaf p.0,
            subst (λ (l : Level). KeysFit (HasRowid (pages_seen state) l n) (count_at (pages_seen state) n) low high) leaf p.1,
            p.2 leaf,
          )

      pub leaf_counts : (count : ℕ) → count ≡ cell_count view.at view.page → count ≤ 65535 → AreCounts (pages_seen state) Table 0 n count 1
      leaf_counts count is few =
          let at : count ≡ count_at (pages_seen state) n = seen_count (pages_seen state) n view.at (header.pages * header.page_size) view.page see count is in
          let all : length (places_under (pages_seen state) Table 0 n) ≡ count_at (pages_seen state) n = length-map-range_with_len (place_at n) 0 (count_at (pages_seen state) n) in
          record { cells_is = omega (arith, at, all, few); size_is = omega arith }

      pub inner : IsHead view.at (header.pages * header.page_size) view.page view.level root n low high → view.level ≡ Interior
          → IsInner (pages_seen state) root depth low high n view.at (header.pages * header.page_size) view.page
      inner head interior =
          let p = seen_page (pages_seen state) n view.at (header.pages * header.page_size) view.page see view.level root low high has_header head in
          record {
            seen = see;
            met = met;
            cells = subst (λ (l : Level). HasCells view.at (header.pages * header.page_size) view.page l) interior head.cells;
            page_is = subst (λ (l : Level). IsPageOf (pages_seen state) Table l n) interior p.0;
            fit = subst (λ (l : Level). KeysFit (HasRowid (pages_seen state) l n) (count_at (pages_seen state) n) low high) interior p.1;
          }

-- a step at child i of such a page
module _ (pages : Pages) (root depth : ℕ) (low high : Option ℤ) (n at most : ℕ) (page : List ℕ) (inner_is : IsInner pages root depth low high n at most page)
    (i : ℕ) (within : i ≤ cell_count at page) where
  pub here_within : i ≤ count_at pages n
  here_within = seen_within pages n at most page inner_is.seen i within

  pub broken_child : ¬ ((1 ≤ child at page i) × (child at page i ≤ pages.count)) → IsBroken pages root (BadPage n)
  broken_child not =
      let is = seen_child pages n at most page inner_is.seen i (child at page i) refl in
      bad_child pages root depth low high n inner_is.met i inner_is.page_is here_within (λ number. not (subst (λ (m : ℕ). IsNumber pages m) (sym is) number))

  module _ (m : ℕ) (l h : Option ℤ) (m_is : m ≡ child at page i) (number : IsNumber pages m)
      (first : i ≡ 0 → l ≡ low) (low_inner : (k : ℕ) → i ≡ suc k → (key : ℤ) × (l ≡ Some key) × IsDividerCell at page k key)
      (high_inner : i < cell_count at page → (key : ℤ) × (h ≡ Some key) × IsDividerCell at page i key) (last : cell_count at page ≤ i → h ≡ high) where
    child_is : m ≡ child_at pages n i
    child_is = seen_child pages n at most page inner_is.seen i m m_is

    low_is : IsLowAt pages n low i l
    low_is = seen_low pages n at most page inner_is.seen low l i first low_inner

    high_is : IsHighAt pages n high i h
    high_is = seen_high pages n at most page inner_is.seen high h i high_inner last

    pub step_met : StandsWithin pages root (depth + 1) l h m
    step_met = subst (λ (x : ℕ). StandsWithin pages root (depth + 1) l h x) (sym child_is)
        (child_met pages root depth low high n inner_is.met i l h inner_is.page_is here_within (subst (λ (x : ℕ). IsNumber pages x) child_is number) low_is high_is)

    pub step_branch : (levels : ℕ) → IsTree pages root levels l h m → IsBranch pages root levels low high n i
    step_branch levels tree =
        (subst (λ (x : ℕ). IsNumber pages x) child_is number, (l, h, low_is, high_is, subst (λ (x : ℕ). IsTree pages root levels l h x) child_is tree))

    pub step_under : (levels rows size : ℕ) → AreCounts pages Table levels m rows size → AreCounts pages Table levels (child_at pages n i) rows size
    step_under levels rows size counts = subst (λ (x : ℕ). AreCounts pages Table levels x rows size) child_is counts

-- all children were walked
module _ (pages : Pages) (root depth : ℕ) (low high : Option ℤ) (n at most : ℕ) (page : List ℕ) (inner_is : IsInner pages root depth low high n at most page)
    (i levels : ℕ) (end : i ≡ cell_count at page + 1) where
  pub end_is : i ≡ count_at pages n + 1
  end_is = let e = seen_count pages n at most page inner_is.seen (cell_count at page) refl in omega (arith, end, e)

  pub inner_tree : ((k : ℕ) → k < i → IsBranch pages root levels low high n k) → IsTree pages root (suc levels) low high n
  inner_tree branches = (inner_is.page_is, inner_is.fit, λ k within. branches k (let e = end_is in omega arith))
