-- Marks along a chain.
use Rattle.std.proofs.Common.{Some, None, ◌≡◌, ℕ, zero, suc, ◌-◌, ◌*◌, ◌<◌, ◌≤◌, min, Bool, Contains, List, [], ◌∷◌, ◌++◌, length, refl, sym, ap, ◌∙◌, subst, inl, inr, ⊎_elim, arith, append-nil, append_assoc}
use Rattle.std.proofs.lemmas.Bool.{cases_lt}
use Rattle.std.proofs.lemmas.List.Elements.{Contains-append_left, Contains-append_right, Contains-append_cases}
use Rattle.std.proofs.Math.Nat.{mul-le-mul_right}
use Rattle.pager.specs.Header.{field}
use Rattle.btree.specs.image.Chain.{chain_room, next_page}
use Rattle.btree.specs.image.Pages.{Pages, IsNumber}
use Rattle.btree.specs.image.Use.{Use, as_link, Names, Users, link_at}
use Rattle.btree.specs.page_use.Marks.{AreTreeMarks, IsNamedBy, IsNewPlace, IsUsedTwice}
use Rattle.btree.specs.page_use.Links.{IsChainOf, IsLinkTwice, IsPayloadTwice, MarksChain, MarksPayload}
use Rattle.btree.specs.image.Cell.{PayloadData}
use Rattle.values.specs.declared.fault.Fault.{Fault}
use Rattle.values.specs.declared.fault.Fault.TheVariants.{PageUse}

-- the first links of the chain of cell i of page n
abbrev pub links_of : ℕ → ℕ → ℕ → List Use
links_of n i zero = []
links_of n i (suc k) = links_of n i k ++ as_link n i k ∷ []

-- so many links were gone through, page `next` is the next, and so many bytes are left
pub record IsLinkWalk (pages : Pages) (first size : ℕ) (old now : List Bool) (k next left : ℕ) : Type 0 where
  pub next_is : next ≡ link_at pages first k
  pub before : (j : ℕ) → j < k → IsNumber pages (link_at pages first j)
  pub left_is : left ≡ size - k * chain_room pages
  pub marks : (users : Users) (done : List Use) (n i : ℕ) → IsChainOf pages users done n i first size → AreTreeMarks pages users done old
      → AreTreeMarks pages users (done ++ links_of n i k) now

pub links_none : (pages : Pages) (first size : ℕ) (marks : List Bool) → IsLinkWalk pages first size marks marks 0 first size
links_none pages first size marks = record {
  next_is = refl;
  before = λ j less. absurd (omega (arith, less));
  left_is = omega arith;
  marks = λ users done n i chain trees. subst (λ (d : List Use). AreTreeMarks pages users d marks) (sym (append-nil done)) trees;
}

-- a link among the first k is one of these
link_before : (n i j k : ℕ) → Contains (links_of n i k) (as_link n i j) → j < k
link_before n i j zero h = absurd (omega (arith, h.1))
link_before n i j (suc k) h = ⊎_elim
    (λ (d : Contains (links_of n i k) (as_link n i j)). let less : j < k = link_before n i j k d in omega (arith, less))
    (λ (l : Contains (as_link n i k ∷ []) (as_link n i j)). last l)
    (Contains-append_cases (links_of n i k) (as_link n i k ∷ []) (as_link n i j) h)
  where
    last : Contains (as_link n i k ∷ []) (as_link n i j) → j < suc k
    last (zero, less, e) = let same : as_link n i k ≡ as_link n i j = e in let s : k ≡ j = cc in omega (arith, s)
    last (suc p, less, e) = absurd (omega (arith, less))

module _ (pages : Pages) (first size : ℕ) (old now : List Bool) (k next left : ℕ) (walk : IsLinkWalk pages first size old now k next left)
    (number : IsNumber pages next) (some : 0 < left) where
  more_named : (users : Users) (done : List Use) (n i : ℕ) → IsNamedBy pages users done n → IsNamedBy pages users (done ++ links_of n i k) n
  more_named users done n i named = record { place = named.place; gone = Contains-append_left done (links_of n i k) named.place named.gone; is = named.is }

  pub new_link : (users : Users) (done : List Use) (n i : ℕ) → IsChainOf pages users done n i first size
      → IsNewPlace pages users (done ++ links_of n i k) (as_link n i k) next
  new_link users done n i chain = record {
    names = subst (λ (m : ℕ). Names pages users (as_link n i k) m) (sym walk.next_is)
        (chain.names k (omega (arith, some, walk.left_is)) walk.before (subst (λ (m : ℕ). IsNumber pages m) walk.next_is number));
    one = λ m names. chain.one k m names ∙ sym walk.next_is;
    new = λ h. ⊎_elim
        (λ (d : Contains done (as_link n i k)). chain.new k d)
        (λ (l : Contains (links_of n i k) (as_link n i k)). let less : k < k = link_before n i k k l in omega (arith, less))
        (Contains-append_cases done (links_of n i k) (as_link n i k) h);
    no_free = λ f. f;
    stands = λ p on. subst (λ (x : ℕ). IsNamedBy pages users (done ++ links_of n i k) x) on (more_named users done n i (chain.stands));
  }

  pub link_twice : ((users : Users) (done : List Use) (place : Use) → AreTreeMarks pages users done now → IsNewPlace pages users done place next → IsUsedTwice pages users next)
      → (users : Users) (done : List Use) (n i : ℕ) → IsChainOf pages users done n i first size → AreTreeMarks pages users done old → IsUsedTwice pages users next
  link_twice twice users done n i chain trees =
      twice users (done ++ links_of n i k) (as_link n i k) (walk.marks users done n i chain trees) (new_link users done n i chain)

  pub link_more : (used : List ℕ) (usable taken after less : ℕ) (later : List Bool) → used ≡ pages.page next → usable ≡ pages.usable
      → taken ≡ min left (usable - 4) → after ≡ field used 0 4 → less ≡ left - taken
      → ((users : Users) (done : List Use) (place : Use) → AreTreeMarks pages users done now → IsNewPlace pages users done place next
      → AreTreeMarks pages users (done ++ place ∷ []) later)
      → IsLinkWalk pages first size old later (suc k) after less
  link_more used usable taken after less later same usable_is taken_is after_is less_is more = record {
    next_is = after_is ∙ ap (λ (b : List ℕ). field b 0 4) same ∙ ap (λ (m : ℕ). next_page pages m) walk.next_is;
    before = λ j under. ⊎_elim
        (λ (early : j < k). walk.before j early)
        (λ (late : k ≤ j). let e : j ≡ k = omega (arith, under) in
        subst (λ (m : ℕ). IsNumber pages m) (walk.next_is ∙ ap (λ (x : ℕ). link_at pages first x) (sym e)) number)
        (cases_lt j k);
    left_is = omega (arith, walk.left_is, taken_is, less_is, usable_is);
    marks = λ users done n i chain trees.
        subst (λ (d : List Use). AreTreeMarks pages users d later) (append_assoc done (links_of n i k) (as_link n i k ∷ []))
        (more users (done ++ links_of n i k) (as_link n i k) (walk.marks users done n i chain trees) (new_link users done n i chain));
  }

-- what is one of the first k links
link_of : (n i k : ℕ) (u : Use) → Contains (links_of n i k) u → (j : ℕ) × (u ≡ as_link n i j)
link_of n i zero u h = absurd (omega (arith, h.1))
link_of n i (suc k) u h = ⊎_elim
    (λ (d : Contains (links_of n i k) u). link_of n i k u d)
    (λ (l : Contains (as_link n i k ∷ []) u). last l)
    (Contains-append_cases (links_of n i k) (as_link n i k ∷ []) u h)
  where
    last : Contains (as_link n i k ∷ []) u → (j : ℕ) × (u ≡ as_link n i j)
    last (zero, less, e) = (k, sym e)
    last (suc p, less, e) = absurd (omega (arith, less))

has_link : (n i j k : ℕ) → j < k → Contains (links_of n i k) (as_link n i j)
has_link n i j zero less = absurd (omega (arith, less))
has_link n i j (suc k) less = ⊎_elim
    (λ (before : j < k). Contains-append_left (links_of n i k) (as_link n i k ∷ []) (as_link n i j) (has_link n i j k before))
    (λ (least : k ≤ j). let e : k ≡ j = omega (arith, less) in
    Contains-append_right (links_of n i k) (as_link n i k ∷ []) (as_link n i j) (0, omega arith, ap (λ (x : ℕ). as_link n i x) e))
    (cases_lt j k)

-- none is left
pub links_all : (pages : Pages) (first size : ℕ) (old now : List Bool) (k next left : ℕ) → IsLinkWalk pages first size old now k next left → left ≡ 0
    → MarksChain pages first size old now
links_all pages first size old now k next left walk none users done n i chain trees = (
  done ++ links_of n i k,
  record {
    marks_are = walk.marks users done n i chain trees;
    kept = λ place gone. Contains-append_left done (links_of n i k) place gone;
    added = λ place h. ⊎_elim
        (λ (d : Contains done place). inl d)
        (λ (l : Contains (links_of n i k) place). inr (link_of n i k place l))
        (Contains-append_cases done (links_of n i k) place h);
    all = λ j m names. Contains-append_right done (links_of n i k) (as_link n i j) (has_link n i j k (before j m names));
  },
)
  where
    before : (j m : ℕ) → Names pages users (as_link n i j) m → j < k
    before j m names = ⊎_elim
        (λ (less : j < k). less)
        (λ (least : k ≤ j).
        let under : j * chain_room pages < size = chain.needed j m names in
        let most : k * chain_room pages ≤ j * chain_room pages = mul-le-mul_right (chain_room pages) least in
        absurd (omega (arith, under, most, none, walk.left_is)))
        (cases_lt j k)

-- a cell without overflow pages has no links
pub no_links : (pages : Pages) (payload : PayloadData) (marks : List Bool) → payload.overflow ≡ None → MarksPayload pages payload marks marks
no_links pages payload marks none users done n i is trees = (
  done,
  record {
    marks_are = trees;
    kept = λ place gone. gone;
    added = λ place gone. inl gone;
    all = λ k m names. let has = is.has k m names in let no : Some has.0 ≡ None = sym has.1 ∙ none in cc;
  },
)

pub payload_marks : (pages : Pages) (payload : PayloadData) (first size : ℕ) (old now : List Bool) → payload.overflow ≡ Some first
    → size ≡ payload.size - length payload.local → MarksChain pages first size old now → MarksPayload pages payload old now
payload_marks pages payload first size old now overflow size_is marks users done n i is trees =
    marks users done n i (subst (λ (s : ℕ). IsChainOf pages users done n i first s) (sym size_is) (is.chain first overflow)) trees

pub payload_twice : (pages : Pages) (payload : PayloadData) (first size : ℕ) (marks : List Bool) → payload.overflow ≡ Some first
    → size ≡ payload.size - length payload.local → (fault : Fault) → IsLinkTwice pages first size marks fault → IsPayloadTwice pages payload marks fault
payload_twice pages payload first size marks overflow size_is (PageUse m) twice = λ users done n i is trees.
    twice users done n i (subst (λ (s : ℕ). IsChainOf pages users done n i first s) (sym size_is) (is.chain first overflow)) trees
payload_twice pages payload first size marks overflow size_is _ twice = absurd twice
