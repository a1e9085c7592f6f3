-- The freelist as it is read.
use Rattle.std.proofs.Common.{◌≡◌, ◌≢◌, ℕ, suc, ◌+◌, ◌*◌, ◌<◌, ◌≤◌, ◌⊎◌, Bool, true, false, List, length, take, Option, Some, IfSome, slice_set, sym, ap, ◌∙◌, subst, inl, inr, ⊎_elim, arith}
use Rattle.std.proofs.lemmas.Bool.{cases_lt}
use Rattle.values.specs.declared.fault.Fault.{Fault}
use Rattle.values.specs.declared.fault.Fault.TheVariants.{PageUse, BadFreelist}
use Rattle.pager.specs.declared.header.Header.{Header}
use Rattle.pager.specs.Header.{field}
use Rattle.pager.specs.Calls.{IsReadFault}
use Rattle.pager.specs.PagerState.{PagerState}
use Rattle.btree.specs.image.Pages.{Pages, IsNumber, pages_seen}
use Rattle.btree.specs.image.Freelist.{IsFreelist, IsSoundTrunk, IsTrunk, leaf_count, leaf_of, next_trunk, trunk_at}
use Rattle.btree.specs.image.Use.{Use, as_root, as_child, as_link, as_trunk, as_leaf, IsBrokenUse, IsUsedOnce, Names, Users}
use Rattle.btree.specs.page_use.Marks.{AreAllOfTrees, AreMarks, AreTreeMarks, IsGoneAfter, IsGoneWith, IsUsedTwice, is_marked}
use Rattle.btree.specs.page_use.FreeWalk.{IsFreeFault, IsFreeTwice, IsFreeWalk, IsLeafTwice, IsNextTrunk, IsOpenTrunk, IsTrunkFault, IsTrunkTwice, IsWithin, leaf_in}
use Rattle.btree.proofs.lemmas.page_use.FreeLemmas.{bad_trunk, too_few}
use Rattle.btree.proofs.lemmas.page_use.MarkLemmas.{all_done, blank_unused, leaf_more, leaf_new, leaves_done, marked_once, start, trunk_more, trunk_new, used_twice}

-- a place names pages of the image
names_number : (pages : Pages) (users : Users) (place : Use) (m : ℕ) → Names pages users place m → IsNumber pages m
names_number pages users (as_root t) m names = names.0
names_number pages users (as_child n i) m names = names.3.number
names_number pages users (as_link n i k) m names = names.0
names_number pages users (as_trunk k) m names = names.0
names_number pages users (as_leaf k i) m names = names.0

module _ (pages : Pages) (users : Users) (m : ℕ) (twice : IsUsedTwice pages users m) where
  pub twice_number : IsNumber pages m
  twice_number = names_number pages users twice.one m twice.is

  pub twice_not : ¬ IsUsedOnce pages users m
  twice_not once = twice.differ (once.only twice.one twice.is ∙ sym (once.only twice.other twice.is_too))

-- number i of a trunk page
module _ (image : Pages) (users : Users) (done : List Use) (k all count i : ℕ) (bytes : List ℕ) (old now : List Bool) (leaf : ℕ)
    (count_same : image.count ≡ all) (opened : IsOpenTrunk image users done k 0 bytes count old) (less : i < count)
    (leaf_is : leaf ≡ leaf_in bytes i) (within : IsWithin all leaf) (are : AreMarks image users (IsGoneWith done k (suc k) i) now) where
  leaf_names : Names image users (as_leaf k i) leaf
  leaf_names = (
    (within.0, omega (arith, within.1, count_same)),
    opened.reached,
    omega (arith, less, opened.count_is),
    leaf_is ∙ ap (λ (b : List ℕ). leaf_in b i) opened.bytes_are,
  )

  pub leaf_step : (after : List Bool) → is_marked now leaf ≡ false → leaf < length now → after ≡ slice_set now leaf true
      → AreMarks image users (IsGoneWith done k (suc k) (i + 1)) after
  leaf_step after blank inside is = subst (λ (m : List Bool). AreMarks image users (IsGoneWith done k (suc k) (i + 1)) m) (sym is)
      (leaf_more image users done k opened.none_free i now leaf are blank inside leaf_names)

  pub leaf_twice : is_marked now leaf ≡ true → IsUsedTwice image users leaf
  leaf_twice marked = used_twice image users (IsGoneWith done k (suc k) i) now (as_leaf k i) leaf are marked leaf_names
      (leaf_new image users done k opened.none_free i)

-- a trunk page as its used bytes tell it
pub record IsSeenTrunk (pages : Pages) (number : ℕ) (bytes : List ℕ) (count all : ℕ) : Type 0 where
  pub number_is : IsNumber pages number
  pub bytes_are : bytes ≡ pages.page number
  pub count_is : count ≡ field bytes 4 4
  pub all_is : pages.count ≡ all

pub see_trunk : (state : PagerState) (header : Header) → header ≡ state.header → (number : ℕ) (found : Option (List ℕ)) (page : List ℕ) → found ≡ Some page
    → IfSome found (λ (p : List ℕ). take state.header.usable p ≡ (pages_seen state).page number)
    → IfSome found (λ (p : List ℕ). IsNumber (pages_seen state) number)
    → (slice : List ℕ) → slice ≡ page → (count : ℕ) → count ≡ field (take header.usable slice) 4 4
    → IsSeenTrunk (pages_seen state) number (take header.usable slice) count header.pages
see_trunk state header header_is number found page is seen number_is slice slice_is count count_is = record {
  number_is = subst (λ (o : Option (List ℕ)). IfSome o (λ (p : List ℕ). IsNumber (pages_seen state) number)) is number_is;
  bytes_are = (λ i. take ((header_is i).usable) (slice_is i))
      ∙ subst (λ (o : Option (List ℕ)). IfSome o (λ (p : List ℕ). take state.header.usable p ≡ (pages_seen state).page number)) is seen;
  count_is = count_is;
  all_is = ap (λ (h : Header). h.pages) (sym header_is);
}

module _ (pages : Pages) (number : ℕ) (bytes : List ℕ) (count all : ℕ) (seen : IsSeenTrunk pages number bytes count all) where
  pub count_seen : count ≡ leaf_count pages number
  count_seen = seen.count_is ∙ ap (λ (b : List ℕ). field b 4 4) seen.bytes_are

  leaf_seen : (i : ℕ) → leaf_in bytes i ≡ leaf_of pages number i
  leaf_seen i = ap (λ (b : List ℕ). leaf_in b i) seen.bytes_are

  pub bad_leaf : (i : ℕ) → i < count → ¬ IsWithin all (leaf_in bytes i) → ¬ IsSoundTrunk pages number
  bad_leaf i less none sound =
      let n : IsNumber pages (leaf_of pages number i) = sound.leaves i (omega (arith, less, count_seen)) in
      none (omega (arith, n.0, leaf_seen i), omega (arith, n.1, leaf_seen i, seen.all_is))

  module _ (room : 8 + 4 * count ≤ pages.usable) where
    trunk_seen : IsTrunk pages number
    trunk_seen = record { number = seen.number_is; room = omega (arith, count_seen, room) }

    module _ (users : Users) (done : List Use) (k : ℕ) (old : List Bool) (next : IsNextTrunk pages users done k number old) where
      trunk_names : Names pages users (as_trunk k) number
      trunk_names = (seen.number_is, next.reached, next.number_is)

      pub trunk_twice : is_marked old number ≡ true → IsUsedTwice pages users number
      trunk_twice marked = used_twice pages users (IsGoneWith done k k 0) old (as_trunk k) number next.marks_are marked trunk_names
          (trunk_new pages users done k next.none_free)

      pub open_trunk : (after : List Bool) → is_marked old number ≡ false → number < length old → after ≡ slice_set old number true
          → IsOpenTrunk pages users done k 0 bytes count after
      open_trunk after blank inside is = record {
        reached = λ j less. ⊎_elim
            (λ (before : j < k). next.reached j before)
            (λ (least : k ≤ j). let e : j ≡ k = omega (arith, less) in
            subst (λ (x : ℕ). IsTrunk pages x) (next.number_is ∙ ap (λ (x : ℕ). trunk_at pages users.first x) (sym e)) trunk_seen)
            (cases_lt j k);
        bytes_are = seen.bytes_are ∙ ap (λ (x : ℕ). pages.page x) next.number_is;
        count_is = count_seen ∙ ap (λ (x : ℕ). leaf_count pages x) next.number_is;
        none_free = next.none_free;
        marks_are = subst (λ (m : List Bool). AreMarks pages users (IsGoneWith done k (suc k) 0) m) (sym is)
            (trunk_more pages users done k next.none_free old number next.marks_are blank inside trunk_names);
      }

      pub close_trunk : (marks : List Bool) → AreMarks pages users (IsGoneWith done k (suc k) count) marks
          → AreMarks pages users (IsGoneWith done (suc k) (suc k) 0) marks
      close_trunk marks are = leaves_done pages users done k next.none_free count marks
          (count_seen ∙ ap (λ (x : ℕ). leaf_count pages x) next.number_is) are

-- from trunk page to trunk page
module _ (pages : Pages) (users : Users) (done : List Use) where
  pub next_start : (first : ℕ) (marks : List Bool) → users.first ≡ first → AreTreeMarks pages users done marks → IsNextTrunk pages users done 0 first marks
  next_start first marks is trees = record {
    number_is = sym is;
    reached = λ j less. absurd (omega (arith, less));
    none_free = trees.none_free;
    marks_are = start pages users done marks trees.marks_are;
  }

  module _ (k number : ℕ) (old : List Bool) (next : IsNextTrunk pages users done k number old) where
    pub next_more : (after : ℕ) (now : List Bool) → IsSoundTrunk pages number → after ≡ next_trunk pages number
        → AreMarks pages users (IsGoneWith done (suc k) (suc k) 0) now → IsNextTrunk pages users done (suc k) after now
    next_more after now sound is are = record {
      number_is = is ∙ ap (λ (x : ℕ). next_trunk pages x) next.number_is;
      reached = λ j less. ⊎_elim
          (λ (before : j < k). next.reached j before)
          (λ (least : k ≤ j). let e : j ≡ k = omega (arith, less) in
          subst (λ (x : ℕ). IsTrunk pages x) (next.number_is ∙ ap (λ (x : ℕ). trunk_at pages users.first x) (sym e)) sound.trunk)
          (cases_lt j k);
      none_free = next.none_free;
      marks_are = are;
    }

    pub next_end : number ≡ 0 → AreMarks pages users (IsGoneAfter done) old
    next_end last = all_done pages users done k next.none_free old (sym next.number_is ∙ last) next.marks_are

  -- of each page, where all places of the trees and of the freelist were gone through
  all_gone : AreAllOfTrees pages users done → (place : Use) (m : ℕ) → Names pages users place m → IsGoneAfter done place
  all_gone all (as_trunk k) m names = inr tt
  all_gone all (as_leaf k i) m names = inr tt
  all_gone all place m names = inl (all place m names (λ f. f))

  pub once_all : (marks : List Bool) → AreMarks pages users (IsGoneAfter done) marks → AreAllOfTrees pages users done
      → (n : ℕ) → is_marked marks n ≡ true → IsUsedOnce pages users n
  once_all marks are all n marked = marked_once pages users (IsGoneAfter done) marks are (all_gone all) n marked

  pub unused_all : (marks : List Bool) → AreMarks pages users (IsGoneAfter done) marks → AreAllOfTrees pages users done
      → (n : ℕ) → is_marked marks n ≡ false → ¬ IsUsedOnce pages users n
  unused_all marks are all n blank = blank_unused pages users (IsGoneAfter done) marks are (all_gone all) n blank

-- a page that is used twice where the walk stands, is used twice
pub twice_first : (pages : Pages) (first number k : ℕ) (old now : List Bool)
    → ((users : Users) (done : List Use) → users.first ≡ first → AreTreeMarks pages users done old → IsNextTrunk pages users done k number now)
    → (fault : Fault) → IsTrunkTwice pages number now fault → IsFreeTwice pages first old fault
twice_first pages first number k old now next (PageUse m) twice = λ users done is trees. twice users done k (next users done is trees)
twice_first pages first number k old now next _ twice = twice

-- a fault of a trunk page's numbers is one of the trunk page
module _ (pages : Pages) (number : ℕ) (bytes : List ℕ) (count all : ℕ) (seen : IsSeenTrunk pages number bytes count all) (room : 8 + 4 * count ≤ pages.usable)
    (left : ℕ) (old after : List Bool) (blank : is_marked old number ≡ false) (inside : number < length old) (is : after ≡ slice_set old number true) where
  leaf_then : (fault : Fault) → IsLeafTwice all bytes count after fault → IsTrunkTwice pages number old fault
  leaf_then (PageUse m) twice = λ users done k next. twice pages users done k seen.all_is (open_trunk pages number bytes count all seen room users done k old next after blank inside is)
  leaf_then _ twice = twice

  pub leaf_fault : (fault : Fault) → ((fault ≡ BadFreelist) × ((i : ℕ) × (i < count) × (¬ IsWithin all (leaf_in bytes i)))) ⊎ IsLeafTwice all bytes count after fault
      → IsTrunkFault pages number left old fault
  leaf_fault fault (inl bad) = inr (inl (bad.0, inl (bad_leaf pages number bytes count all seen bad.1.0 bad.1.1 bad.1.2)))
  leaf_fault fault (inr twice) = inr (inr (leaf_then fault twice))

-- a fault of a trunk page is one of the freelist
pub trunk_fault : (pages : Pages) (first total k next left : ℕ) (old now : List Bool) → IsFreeWalk pages first total k next left → next ≢ 0
    → ((users : Users) (done : List Use) → users.first ≡ first → AreTreeMarks pages users done old → IsNextTrunk pages users done k next now)
    → (fault : Fault) → IsTrunkFault pages next left now fault → IsFreeFault pages first total old fault
trunk_fault pages first total k next left old now walk some nexts fault (inl read) = inl read
trunk_fault pages first total k next left old now walk some nexts fault (inr (inl bad)) = inr (inl (
  bad.0,
  ⊎_elim
      (λ (none : ¬ IsSoundTrunk pages next). bad_trunk pages first total k next left walk some none)
      (λ (less : left < 1 + leaf_count pages next). too_few pages first total k next left walk some less)
      bad.1,
))
trunk_fault pages first total k next left old now walk some nexts fault (inr (inr twice)) = inr (inr (twice_first pages first next k old now nexts fault twice))

-- a fault of the freelist is a condition of the use of pages that is broken
pub free_fault : (pages : Pages) (first total : ℕ) (marks : List Bool) (fault : Fault) → IsFreeFault pages first total marks fault
    → IsReadFault fault ⊎ ((users : Users) (done : List Use) → users.first ≡ first → AreTreeMarks pages users done marks
    → AreAllOfTrees pages users done → IsBrokenUse pages users total fault)
free_fault pages first total marks fault (inl read) = inl read
free_fault pages first total marks fault (inr (inl bad)) = inr (λ users done is trees all.
    subst (λ (f : Fault). IsBrokenUse pages users total f) (sym bad.0)
    (subst (λ (n : ℕ). ¬ IsFreelist pages n total) (sym is) bad.1))
free_fault pages first total marks (PageUse m) (inr (inr twice)) = inr (λ users done is trees all.
    let found = twice users done is trees in (twice_number pages users m found, twice_not pages users m found))
free_fault pages first total marks _ (inr (inr twice)) = absurd twice
