-- How many cells the tree of an image has.
use Rattle.std.proofs.Common.{◌≡◌, ◌*◌, ◌+◌, ◌-◌, ◌^◌, ◌<◌, ◌≤◌, ℕ, Contains, List, Some, length, map, slice_get, refl, sym, ◌∙◌, subst, ⊎_elim, arith}
use Rattle.std.specs.List.{range_with_len}
use Rattle.std.proofs.Math.Nat.{mul-le-mul_left}
use Rattle.std.proofs.lemmas.Bool.{cases_lt}
use Rattle.std.proofs.lemmas.List.{length-take, length-map}
use Rattle.std.proofs.lemmas.List.FromFn.{get_or-range_with_len, length-range_with_len}
use Rattle.std.proofs.lemmas.List.Sorted.{length_permutation}
use Rattle.std.proofs.lemmas.Option.{slice_get_read}
use Rattle.pager.specs.PagerState.{IsSoundHeader}
use Rattle.pager.specs.Page.{page_of}
use Rattle.pager.specs.declared.header.Header.{Header}
use Rattle.btree.specs.declared.image.kind.TreeKind.{TreeKind}
use Rattle.btree.specs.declared.image.kind.TreeKind.TheVariants.{Index}
use Rattle.btree.specs.image.Pages.{IsNumber, Pages, pages_in}
use Rattle.btree.specs.image.Tree.{ArePlacesOf, IsPlaceOf, Place, StandsAt, below, top}
use Rattle.btree.proofs.lemmas.image.ListLemmas.{get_contains}
use Rattle.btree.proofs.SeenLemmas.{readable}
use Rattle.integrity_trees.specs.wanted_entries.Bags.{IsOnce}
use Rattle.integrity_trees.proofs.lemmas.entry_prefixes.ListLemmas.{mapped_at}
use Rattle.values.specs.Bounds.{counted}
use Rattle.integrity_trees.proofs.lemmas.wanted_entries.BagLemmas.{same}

-- so many different numbers aren't all below a smaller one
few_below : (most : ℕ) (ns : List ℕ) → IsOnce ns → ((n : ℕ) → Contains ns n → n < most) → length ns ≤ most
few_below most ns once lower = ⊎_elim
    (λ (many : most < length ns).
    let run = length-range_with_len 0 most in
    let bag = same ns (range_with_len 0 most) once
    (λ n h. let less = lower n h in (n, omega (arith, less, run), get_or-range_with_len 0 most n n less ∙ omega arith))
    (omega (arith, run, many)) in
    let e = length_permutation ns (range_with_len 0 most) bag in
    omega (arith, e, run))
    (λ (few : length ns ≤ most). few)
    (cases_lt most (length ns))

-- a place as one number
abbrev code : Place → ℕ
code place = (place.page - 1) * 65536 + place.index

number_of : (pages : Pages) (kind : TreeKind) (root : ℕ) → IsNumber pages root → {depth n : ℕ} → StandsAt pages kind root depth n → IsNumber pages n
number_of pages kind root number top = number
number_of pages kind root number (below i stands child) = child.number

module _ (header : Header) (image : List ℕ) (kind : TreeKind) (root : ℕ) (sound : IsSoundHeader header) (number : IsNumber (pages_in header image) root) where
  abbrev pages : Pages
  pages = pages_in header image

  on_page : (place : Place) → IsPlaceOf pages kind root place → place.index < 65536
  on_page place is =
      let long = length-take header.usable (page_of image place.page) in
      let most = (readable header image sound).most in
      let inside = is.page.header.places in
      let within = is.within in
      omega (arith, long, most, inside, within)

  few_code : (place : Place) → IsPlaceOf pages kind root place → code place < header.pages * 65536
  few_code place is =
      let n = number_of pages kind root number is.reaches.1 in
      let i = on_page place is in
      omega (arith, n.0, n.1, i)

  one_code : (a b : Place) → IsPlaceOf pages kind root a → IsPlaceOf pages kind root b → code a ≡ code b → a ≡ b
  one_code a b is_a is_b e =
      let i = on_page a is_a in
      let j = on_page b is_b in
      let n = number_of pages kind root number is_a.reaches.1 in
      let m = number_of pages kind root number is_b.reaches.1 in
      let p : a.page ≡ b.page = omega (arith, e, i, j, n.0, m.0) in
      let q : a.index ≡ b.index = omega (arith, e, i, j, n.0, m.0) in
      λ k. record { page = p k; index = q k }

  few_places : (places : List Place) → ArePlacesOf pages kind root places → length places ≤ header.pages * 65536
  few_places places are =
      let few = few_below (header.pages * 65536) (map code places)
      (λ i j n at_i at_j.
      let x = mapped_at code places i n at_i in
      let y = mapped_at code places j n at_j in
      let same = one_code x.x y.x (are.sound x.x (get_contains places i x.x x.at)) (are.sound y.x (get_contains places j y.x y.at)) (x.is ∙ sym y.is) in
      are.once i j y.x (subst (λ (p : Place). slice_get places i ≡ Some p) same x.at) y.at)
      (λ n h.
      let x = mapped_at code places h.0 n (slice_get_read (map code places) (length (map code places)) h.0 n refl h.1 (sym h.2)) in
      subst (λ (k : ℕ). k < header.pages * 65536) x.is (few_code x.x (are.sound x.x (get_contains places h.0 x.x x.at)))) in
      let long = length-map places code in
      omega (arith, few, long)

few_pages : (header : Header) → IsSoundHeader header → header.pages ≤ 2 ^ 30
few_pages header sound =
    let most = sound.most in
    let least : 480 ≤ header.page_size = let a = sound.usable in let b = sound.usable_most in omega (arith, a, b) in
    let product = mul-le-mul_left header.pages least in
    omega (arith, most, product)

-- a count of so few cells doesn't stay at the greatest number
pub counts_tell : (header : Header) → IsSoundHeader header → (n m rows entries : ℕ) → m ≤ header.pages * 65536 → rows ≡ counted n → entries ≡ counted m
    → (rows ≡ entries → rows ≤ header.pages * 65536 → n ≡ m) × (n ≡ m → (rows ≡ entries) × (rows ≤ header.pages * 65536))
counts_tell header sound n m rows entries few rows_are entries_are =
    let pages = few_pages header sound in (
      λ same least. omega (arith, pages, few, rows_are, entries_are, same, least),
      λ same. (omega (arith, rows_are, entries_are, same), omega (arith, pages, few, same, rows_are)),
    )

-- the counts of rows and of an index's cells
pub as_many_tell : (header : Header) (image : List ℕ) → IsSoundHeader header → (root many : ℕ) (places : List Place) → IsNumber (pages_in header image) root
    → ArePlacesOf (pages_in header image) Index root places → (rows entries : ℕ) → rows ≡ counted many → entries ≡ counted (length places)
    → (rows ≡ entries → rows ≤ header.pages * 65536 → many ≡ length places)
    × (many ≡ length places → (rows ≡ entries) × (rows ≤ header.pages * 65536))
as_many_tell header image sound root many places number are rows entries =
    counts_tell header sound many (length places) rows entries (few_places header image Index root sound number places are)
