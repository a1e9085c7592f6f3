-- The pages of a tree, as a walk gives them their marks.
use Rattle.std.proofs.Common.{◌≡◌, ◌⊎◌, ◌∙◌, ℕ, zero, suc, ◌+◌, ◌<◌, ◌≤◌, Bool, true, false, Contains, List, [], ◌∷◌, ◌++◌, Some, refl, sym, ap, subst, inl, inr, ⊎_elim, arith}
use Rattle.std.proofs.lemmas.Bool.{cases_Bool, cases_lt}
use Rattle.std.proofs.lemmas.List.Elements.{Contains-append_left, Contains-append_right, Contains-append_cases}
use Rattle.values.specs.declared.fault.Fault.{Fault}
use Rattle.values.specs.declared.fault.Fault.TheVariants.{PageUse}
use Rattle.btree.specs.declared.image.kind.Level.{Level}
use Rattle.btree.specs.declared.image.kind.Level.TheVariants.{Leaf, Interior}
use Rattle.btree.specs.image.Cell.{CellData}
use Rattle.btree.specs.image.Pages.{Pages, IsNumber}
use Rattle.btree.specs.image.Shape.{HasShape, place_at}
use Rattle.btree.specs.image.Tree.{HasEntries, IsChild, IsEntryAt, IsPageOf, Reaches, StandsAt, below, top, child_at, count_at}
use Rattle.btree.specs.image.Use.{Use, as_root, as_child, as_link, as_trunk, as_leaf, Names, TreeData, Users, link_at}
use Rattle.btree.proofs.lemmas.image.ListLemmas.{get_contains}
use Rattle.btree.proofs.lemmas.image.ShapeLemmas.{not_both}
use Rattle.btree.specs.page_use.Links.{IsPayloadOf, IsPayloadTwice, MarksPayload}
use Rattle.btree.specs.page_use.Marks.{AreTreeMarks, IsNamedBy, IsNewPlace, IsOn, IsUsedTwice, is_marked}
use Rattle.integrity_trees.specs.tree_walk.Cells.{IsOpenPage, IsTwiceOn, MarksCells}
use Rattle.integrity_trees.specs.tree_walk.Used.{GoesOn, IsComing, IsDoneOn, IsDoneUnder, IsFresh, IsTreeComing, IsTreeTwice, IsUnderTwice, MarksTree, MarksUnder}
use Rattle.btree.proofs.KindLemmas.{one_page}
use Rattle.integrity_trees.proofs.lemmas.tree_walk.LinkLemmas.{IsLinkOf, link_of_cell, link_within}

not_true_false : (b : Bool) → b ≡ true → b ≡ false → ⊥
not_true_false b t f = let no : true ≡ false = sym t ∙ f in cc

single : (place u : Use) → Contains (place ∷ []) u → u ≡ place
single place u (zero, less, e) = sym e
single place u (suc k, less, e) = absurd (omega (arith, less))

pub last_of : (done : List Use) (place : Use) → Contains (done ++ place ∷ []) place
last_of done place = Contains-append_right done (place ∷ []) place (0, omega arith, refl)

-- what is told by a page without a mark is fresh
on_fresh : (marks : List Bool) (n : ℕ) (u : Use) → IsOn n u → is_marked marks n ≡ false → IsFresh marks u
on_fresh marks n (as_root t) on blank = on
on_fresh marks n (as_child p i) on blank = subst (λ (x : ℕ). is_marked marks x ≡ false) (sym on) blank
on_fresh marks n (as_link p i k) on blank = subst (λ (x : ℕ). is_marked marks x ≡ false) (sym on) blank
on_fresh marks n (as_trunk k) on blank = on
on_fresh marks n (as_leaf k i) on blank = on

fresh_on : (marks : List Bool) (n : ℕ) (u : Use) → IsFresh marks u → IsOn n u → is_marked marks n ≡ false
fresh_on marks n (as_root t) fresh on = absurd on
fresh_on marks n (as_child p i) fresh on = subst (λ (x : ℕ). is_marked marks x ≡ false) on fresh
fresh_on marks n (as_link p i k) fresh on = subst (λ (x : ℕ). is_marked marks x ≡ false) on fresh
fresh_on marks n (as_trunk k) fresh on = absurd on
fresh_on marks n (as_leaf k i) fresh on = absurd on

-- what is fresh later was so before, where no mark goes away
fresh_before : (old new : List Bool) → ((n : ℕ) → is_marked old n ≡ true → is_marked new n ≡ true) → (u : Use) → IsFresh new u → IsFresh old u
fresh_before old new stays (as_root t) fresh = fresh
fresh_before old new stays (as_child p i) fresh = ⊎_elim
    (λ (t : is_marked old p ≡ true). absurd (not_true_false (is_marked new p) (stays p t) fresh))
    (λ (f : is_marked old p ≡ false). f)
    (cases_Bool (is_marked old p))
fresh_before old new stays (as_link p i k) fresh = ⊎_elim
    (λ (t : is_marked old p ≡ true). absurd (not_true_false (is_marked new p) (stays p t) fresh))
    (λ (f : is_marked old p ≡ false). f)
    (cases_Bool (is_marked old p))
fresh_before old new stays (as_trunk k) fresh = fresh
fresh_before old new stays (as_leaf k i) fresh = fresh

child_index : (n i j : ℕ) → as_child n i ≡ as_child n j → i ≡ j
child_index n i j e = cc

link_cell : (n i j k l : ℕ) → as_link n i k ≡ as_link n j l → i ≡ j
link_cell n i j k l e = cc

no_link : (n i j k : ℕ) → as_child n i ≡ as_link n j k → ⊥
no_link n i j k e = cc

some_same : (a b : ℕ) → Some a ≡ Some b → a ≡ b
some_same a b e = cc

-- more was gone through
module _ (pages : Pages) (users : Users) (now later : List Use) (kept : (place : Use) → Contains now place → Contains later place) where
  pub done_on_later : (n : ℕ) → IsDoneOn pages users now n → IsDoneOn pages users later n
  done_on_later n done = record {
    children = λ i m names. kept (as_child n i) (done.children i m names);
    links = λ i k m names. kept (as_link n i k) (done.links i k m names);
  }

  pub done_later : (height n : ℕ) → IsDoneUnder pages users now height n → IsDoneUnder pages users later height n
  done_later zero n done = done_on_later n done
  done_later (suc height) n done = (done_on_later n done.0, λ i within. done_later height (child_at pages n i) (done.1 i within))

-- Of page n the links of the cells before cell c, and the children before child i with all under them, were gone through,
-- since it got its mark.
pub record ArePartlyGone (pages : Pages) (users : Users) (done : List Use) (n i c levels : ℕ) (gone : List Use) (marked now : List Bool) : Type 0 where
  pub marks_are : AreTreeMarks pages users gone now
  pub kept : (u : Use) → Contains done u → Contains gone u
  pub added : (u : Use) → Contains gone u → Contains done u ⊎ (IsOn n u ⊎ ((0 < i) × IsFresh marked u))
  pub children : (k : ℕ) → k < i → Contains gone (as_child n k)
  pub only_children : (k : ℕ) → Contains gone (as_child n k) → k < i
  pub links : (j k m : ℕ) → j < c → Names pages users (as_link n j k) m → Contains gone (as_link n j k)
  pub only_links : (j k : ℕ) → Contains gone (as_link n j k) → j < c
  pub under : (k : ℕ) → k < i → IsDoneUnder pages users gone levels (child_at pages n k)

abbrev pub MarksPart : Pages → TreeData → Level → ℕ → ℕ → ℕ → ℕ → List Bool → List Bool → Type 0
MarksPart pages tree level n i c levels marked now = (users : Users) (done : List Use) → IsOpenPage pages users done tree level n
    → AreTreeMarks pages users done marked → (gone : List Use) × ArePartlyGone pages users done n i c levels gone marked now

pub part_none : (pages : Pages) (tree : TreeData) (level : Level) (n levels : ℕ) (marked : List Bool) → MarksPart pages tree level n 0 0 levels marked marked
part_none pages tree level n levels marked users done opened trees = (
  done,
  record {
    marks_are = trees;
    kept = λ u h. h;
    added = λ u h. inl h;
    children = λ k less. absurd (omega (arith, less));
    only_children = λ k h. absurd (opened.none (as_child n k) refl h);
    links = λ j k m less. absurd (omega (arith, less));
    only_links = λ j k h. absurd (opened.none (as_link n j k) refl h);
    under = λ k less. absurd (omega (arith, less));
  },
)

-- one cell more
module _ (pages : Pages) (tree : TreeData) (level : Level) (n i c levels : ℕ) (marked now : List Bool) (part : MarksPart pages tree level n i c levels marked now)
    (cell : CellData) (at : IsEntryAt pages tree.kind (place_at n c) cell) (entries : HasEntries tree.kind level) (within : c < count_at pages n) where
  module _ (users : Users) (done : List Use) (opened : IsOpenPage pages users done tree level n) (gone : List Use)
      (before : ArePartlyGone pages users done n i c levels gone marked now) where
    link_here : (k m : ℕ) → Names pages users (as_link n c k) m → IsLinkOf pages k m cell
    link_here k m names = link_of_cell pages users tree.kind level n opened.page c k m cell at names

    new_link : (k : ℕ) → ¬ Contains gone (as_link n c k)
    new_link k h = let less = before.only_links c k h in omega (arith, less)

    payload_of_cell : IsPayloadOf pages users gone n c cell.payload
    payload_of_cell = record {
      chain = λ first overflow. record {
        names = λ k needed reached number. (
          number,
          record {
            tree = tree;
            cell = cell;
            first = first;
            is_tree = opened.is_tree;
            place = record { level = level; entries = entries; reaches = opened.reaches; page = opened.page; within = within };
            at = at;
            overflow = overflow;
            needed = needed;
            before = reached;
            is = refl;
          },
        );
        one = λ k m names. let l = link_here k m names in
            l.is ∙ ap (λ (f : ℕ). link_at pages f k) (some_same l.first first (sym l.overflow ∙ overflow));
        needed = λ k m names. (link_here k m names).needed;
        new = new_link;
        stands = record { place = opened.stands.place; gone = before.kept opened.stands.place opened.stands.gone; is = opened.stands.is };
      };
      has = λ k m names. let l = link_here k m names in (l.first, l.overflow);
    }

    one_cell_more : (later : List Bool) → MarksPayload pages cell.payload now later → (next : List Use) × ArePartlyGone pages users done n i (c + 1) levels next marked later
    one_cell_more later payload =
        let found = payload users gone n c payload_of_cell before.marks_are in
        let all = found.1 in (
          found.0,
          record {
            marks_are = all.marks_are;
            kept = λ u h. all.kept u (before.kept u h);
            added = λ u h. ⊎_elim
                (λ (was : Contains gone u). before.added u was)
                (λ (l : (k : ℕ) × (u ≡ as_link n c k)). inr (inl (subst (λ (x : Use). IsOn n x) (sym l.1) refl)))
                (all.added u h);
            children = λ k less. all.kept (as_child n k) (before.children k less);
            only_children = λ k h. ⊎_elim
                (λ (was : Contains gone (as_child n k)). before.only_children k was)
                (λ (l : (x : ℕ) × (as_child n k ≡ as_link n c x)). absurd (no_link n k c l.0 l.1))
                (all.added (as_child n k) h);
            links = λ j k m less names. ⊎_elim
                (λ (early : j < c). all.kept (as_link n j k) (before.links j k m early names))
                (λ (late : c ≤ j).
                let e : c ≡ j = omega (arith, less, late) in
                subst (λ (x : ℕ). Contains found.0 (as_link n x k)) e
                (all.all k m (subst (λ (x : ℕ). Names pages users (as_link n x k) m) (sym e) names)))
                (cases_lt j c);
            only_links = λ j k h. ⊎_elim
                (λ (was : Contains gone (as_link n j k)). let less = before.only_links j k was in omega (arith, less))
                (λ (l : (x : ℕ) × (as_link n j k ≡ as_link n c x)). let e : j ≡ c = link_cell n j c k l.0 l.1 in omega (arith, e))
                (all.added (as_link n j k) h);
            under = λ k less. done_later pages users gone found.0 all.kept levels (child_at pages n k) (before.under k less);
          },
        )

  pub part_cell : (later : List Bool) → MarksPayload pages cell.payload now later → MarksPart pages tree level n i (c + 1) levels marked later
  part_cell later payload users done opened trees =
      let before = part users done opened trees in one_cell_more users done opened before.0 before.1 later payload

  pub payload_twice : (fault : Fault) → IsPayloadTwice pages cell.payload now fault → IsTwiceOn pages tree level n marked fault
  payload_twice (PageUse m) twice = λ users done opened trees.
      let before = part users done opened trees in
      twice users before.0 n c (payload_of_cell users done opened before.0 before.1) before.1.marks_are
  payload_twice _ twice = absurd twice

-- all cells were gone through
pub cells_gone : (pages : Pages) (tree : TreeData) (level : Level) (n c levels : ℕ) (marked now : List Bool) → count_at pages n ≤ c
    → MarksPart pages tree level n 0 c levels marked now → MarksCells pages tree level n marked now
cells_gone pages tree level n c levels marked now last part users done opened trees =
    let before = part users done opened trees in (
      before.0,
      record {
        marks_are = before.1.marks_are;
        kept = before.1.kept;
        added = λ u h. ⊎_elim
            (λ (d : Contains done u). inl d)
            (λ (other : IsOn n u ⊎ ((0 < 0) × IsFresh marked u)). ⊎_elim
            (λ (on : IsOn n u). inr on)
            (λ (f : (0 < 0) × IsFresh marked u). absurd (omega (arith, f.0)))
            other)
            (before.1.added u h);
        all = λ j k m names. before.1.links j k m (let within = link_within pages users tree.kind level n opened.page j k m names in omega (arith, within, last)) names;
      },
    )

-- one child more
module _ (pages : Pages) (tree : TreeData) (level : Level) (n i c levels : ℕ) (marked now : List Bool) (part : MarksPart pages tree level n i c levels marked now)
    (interior : IsPageOf pages tree.kind Interior n) where
  module _ (users : Users) (done : List Use) (opened : IsOpenPage pages users done tree level n) (trees : AreTreeMarks pages users done marked)
      (gone : List Use) (before : ArePartlyGone pages users done n i c levels gone marked now) where
    stays_marked : (m : ℕ) → is_marked marked m ≡ true → is_marked now m ≡ true
    stays_marked m was =
        let from = trees.marks_are.from m was in
        before.marks_are.marks_are.closed from.0 m (before.kept from.0 from.1) from.2

    -- page n has its mark
    marked_here : is_marked now n ≡ true
    marked_here = before.marks_are.marks_are.closed opened.stands.place n (before.kept opened.stands.place opened.stands.gone) opened.stands.is

    child_coming : i ≤ count_at pages n → IsNumber pages (child_at pages n i) → IsComing pages users gone tree (as_child n i) (child_at pages n i) now
    child_coming within number = record {
      is_tree = opened.is_tree;
      marks_are = before.marks_are;
      new = record {
        names = (tree, opened.is_tree, opened.reaches, record { interior = interior; within = within; is = refl; number = number });
        one = λ m names. sym names.3.is;
        new = λ h. let less = before.only_children i h in omega (arith, less);
        no_free = λ f. f;
        stands = λ p on. record {
          place = opened.stands.place;
          gone = before.kept opened.stands.place opened.stands.gone;
          is = subst (λ (x : ℕ). Names pages users opened.stands.place x) on opened.stands.is;
        };
      };
    }

    -- what was added with the child is told by pages that had no mark
    not_here : (u : Use) → IsOn n u → ¬ IsFresh now u
    not_here u on fresh = not_true_false (is_marked now n) marked_here (fresh_on now n u fresh on)

    one_child_more : (new : List Bool) (other : ℕ) (same : 0 < i → levels ≡ other) (later : List Use) → GoesOn pages users (gone ++ as_child n i ∷ []) later now new
        → IsDoneUnder pages users later other (child_at pages n i) → ArePartlyGone pages users done n (i + 1) c other later marked new
    one_child_more new other same later goes under = record {
      marks_are = goes.marks_are;
      kept = λ u h. kept u (before.kept u h);
      added = λ u h. ⊎_elim
          (λ (d : Contains (gone ++ as_child n i ∷ []) u). ⊎_elim
          (λ (g : Contains gone u). ⊎_elim
          (λ (was : Contains done u). inl was)
          (λ (more : IsOn n u ⊎ ((0 < i) × IsFresh marked u)). inr (⊎_elim
          (λ (on : IsOn n u). inl on)
          (λ (f : (0 < i) × IsFresh marked u). inr (omega (arith, f.0), f.1))
          more))
          (before.added u g))
          (λ (l : Contains (as_child n i ∷ []) u). inr (inl (subst (λ (x : Use). IsOn n x) (sym (single (as_child n i) u l)) refl)))
          (Contains-append_cases gone (as_child n i ∷ []) u d))
          (λ (f : IsFresh now u). inr (inr (omega arith, fresh_before marked now stays_marked u f)))
          (goes.added u h);
      children = λ k less. ⊎_elim
          (λ (early : k < i). kept (as_child n k) (before.children k early))
          (λ (late : i ≤ k). let e : i ≡ k = omega (arith, less, late) in
          subst (λ (x : ℕ). Contains later (as_child n x)) e (goes.kept (as_child n i) (last_of gone (as_child n i))))
          (cases_lt k i);
      only_children = λ k h. ⊎_elim
          (λ (d : Contains (gone ++ as_child n i ∷ []) (as_child n k)). ⊎_elim
          (λ (g : Contains gone (as_child n k)). let less = before.only_children k g in omega (arith, less))
          (λ (l : Contains (as_child n i ∷ []) (as_child n k)). let e : k ≡ i = child_index n k i (single (as_child n i) (as_child n k) l) in omega (arith, e))
          (Contains-append_cases gone (as_child n i ∷ []) (as_child n k) d))
          (λ (f : IsFresh now (as_child n k)). absurd (not_here (as_child n k) refl f))
          (goes.added (as_child n k) h);
      links = λ j k m less names. kept (as_link n j k) (before.links j k m less names);
      only_links = λ j k h. ⊎_elim
          (λ (d : Contains (gone ++ as_child n i ∷ []) (as_link n j k)). ⊎_elim
          (λ (g : Contains gone (as_link n j k)). before.only_links j k g)
          (λ (l : Contains (as_child n i ∷ []) (as_link n j k)). absurd (no_link n i j k (sym (single (as_child n i) (as_link n j k) l))))
          (Contains-append_cases gone (as_child n i ∷ []) (as_link n j k) d))
          (λ (f : IsFresh now (as_link n j k)). absurd (not_here (as_link n j k) refl f))
          (goes.added (as_link n j k) h);
      under = λ k less. ⊎_elim
          (λ (early : k < i). let some : 0 < i = omega (arith, early) in
          done_later pages users gone later kept other (child_at pages n k) (subst (λ (l : ℕ). IsDoneUnder pages users gone l (child_at pages n k)) (same some) (before.under k early)))
          (λ (late : i ≤ k). let e : i ≡ k = omega (arith, less, late) in
          subst (λ (x : ℕ). IsDoneUnder pages users later other (child_at pages n x)) e under)
          (cases_lt k i);
    }
      where
        kept : (u : Use) → Contains gone u → Contains later u
        kept u g = goes.kept u (Contains-append_left gone (as_child n i ∷ []) u g)

  module _ (m : ℕ) (m_is : m ≡ child_at pages n i) (within : i ≤ count_at pages n) (number : IsNumber pages m) where
    coming_here : (users : Users) (done : List Use) (opened : IsOpenPage pages users done tree level n) (trees : AreTreeMarks pages users done marked)
        → IsComing pages users (part users done opened trees).0 tree (as_child n i) m now
    coming_here users done opened trees =
        let before = part users done opened trees in
        subst (λ (x : ℕ). IsComing pages users before.0 tree (as_child n i) x now) (sym m_is)
        (child_coming users done opened trees before.0 before.1 within (subst (λ (x : ℕ). IsNumber pages x) m_is number))

    pub part_child : (new : List Bool) (other : ℕ) → (0 < i → levels ≡ other) → MarksUnder pages tree other m now new
        → MarksPart pages tree level n (i + 1) c other marked new
    part_child new other same walked users done opened trees =
        let before = part users done opened trees in
        let found = walked users before.0 (as_child n i) (coming_here users done opened trees) in (
          found.0,
          one_child_more users done opened trees before.0 before.1 new other same found.0 found.1
              (subst (λ (x : ℕ). IsDoneUnder pages users found.0 other x) m_is found.2),
        )

    pub child_then : (fault : Fault) → IsUnderTwice pages tree m now fault → IsTwiceOn pages tree level n marked fault
    child_then (PageUse x) twice = λ users done opened trees.
        twice users (part users done opened trees).0 (as_child n i) (coming_here users done opened trees)
    child_then _ twice = absurd twice

-- Page n had no mark and has got it, then so much of it was gone through.
pub record IsPartWalked (pages : Pages) (tree : TreeData) (level : Level) (n i c levels : ℕ) (old now : List Bool) : Type 0 where
  pub marked : List Bool
  pub blank : is_marked old n ≡ false
  pub marks : (users : Users) (done : List Use) (place : Use) → AreTreeMarks pages users done old → IsNewPlace pages users done place n
      → AreTreeMarks pages users (done ++ place ∷ []) marked
  pub part : MarksPart pages tree level n i c levels marked now

pub none_walked : (pages : Pages) (tree : TreeData) (level : Level) (n levels : ℕ) (old marked : List Bool) → is_marked old n ≡ false
    → ((users : Users) (done : List Use) (place : Use) → AreTreeMarks pages users done old → IsNewPlace pages users done place n
    → AreTreeMarks pages users (done ++ place ∷ []) marked)
    → IsPartWalked pages tree level n 0 0 levels old marked
none_walked pages tree level n levels old marked blank marks = record {
  marked = marked;
  blank = blank;
  marks = marks;
  part = part_none pages tree level n levels marked;
}

module _ (pages : Pages) (tree : TreeData) (level : Level) (n i c levels : ℕ) (old now : List Bool) (walked : IsPartWalked pages tree level n i c levels old now)
    (page : IsPageOf pages tree.kind level n) (reaches : Reaches pages tree.kind tree.root n) where
  module _ (users : Users) (done : List Use) (place : Use) (coming : IsComing pages users done tree place n old) where
    unnamed : IsNamedBy pages users done n → ⊥
    unnamed named = not_true_false (is_marked old n) (coming.marks_are.marks_are.closed named.place n named.gone named.is) walked.blank

    -- nothing on it was gone through
    none_on : (u : Use) → IsOn n u → ¬ Contains (done ++ place ∷ []) u
    none_on u on h = unnamed (⊎_elim
        (λ (d : Contains done u). coming.marks_are.stand u n d on)
        (λ (l : Contains (place ∷ []) u). coming.new.stands n (subst (λ (x : Use). IsOn n x) (single place u l) on))
        (Contains-append_cases done (place ∷ []) u h))

    opened_here : IsOpenPage pages users (done ++ place ∷ []) tree level n
    opened_here = record {
      page = page;
      reaches = reaches;
      is_tree = coming.is_tree;
      stands = record { place = place; gone = last_of done place; is = coming.new.names };
      none = none_on;
    }

    marked_now : AreTreeMarks pages users (done ++ place ∷ []) walked.marked
    marked_now = walked.marks users done place coming.marks_are coming.new

    still_marked : (m : ℕ) → is_marked old m ≡ true → is_marked walked.marked m ≡ true
    still_marked m was =
        let from = coming.marks_are.marks_are.from m was in
        marked_now.marks_are.closed from.0 m (Contains-append_left done (place ∷ []) from.0 from.1) from.2

    on_or_fresh : (u : Use) → IsOn n u ⊎ IsFresh walked.marked u → IsFresh old u
    on_or_fresh u (inl on) = on_fresh old n u on walked.blank
    on_or_fresh u (inr fresh) = fresh_before old walked.marked still_marked u fresh

    module _ (gone : List Use) (all : ArePartlyGone pages users (done ++ place ∷ []) n i c levels gone walked.marked now) where
      goes_on : GoesOn pages users (done ++ place ∷ []) gone old now
      goes_on = record {
        marks_are = all.marks_are;
        kept = all.kept;
        added = λ u h. ⊎_elim
            (λ (d : Contains (done ++ place ∷ []) u). inl d)
            (λ (other : IsOn n u ⊎ ((0 < i) × IsFresh walked.marked u)). inr (on_or_fresh u (⊎_elim
            (λ (on : IsOn n u). inl on)
            (λ (f : (0 < i) × IsFresh walked.marked u). inr f.1)
            other)))
            (all.added u h);
      }

  pub twice_under : (fault : Fault) → IsTwiceOn pages tree level n walked.marked fault → IsUnderTwice pages tree n old fault
  twice_under (PageUse m) twice = λ users done place coming.
      twice users (done ++ place ∷ []) (opened_here users done place coming) (marked_now users done place coming)
  twice_under _ twice = absurd twice

  -- one cell more
  module _ (cell : CellData) (at : IsEntryAt pages tree.kind (place_at n c) cell) (entries : HasEntries tree.kind level) (within : c < count_at pages n) where
    pub cell_walked : (later : List Bool) → MarksPayload pages cell.payload now later → IsPartWalked pages tree level n i (c + 1) levels old later
    cell_walked later payload = record {
      marked = walked.marked;
      blank = walked.blank;
      marks = walked.marks;
      part = part_cell pages tree level n i c levels walked.marked now walked.part cell at entries within later payload;
    }

    pub cell_twice : (fault : Fault) → IsPayloadTwice pages cell.payload now fault → IsUnderTwice pages tree n old fault
    cell_twice fault twice = twice_under fault (payload_twice pages tree level n i c levels walked.marked now walked.part cell at entries within fault twice)

  -- one child more
  module _ (interior : level ≡ Interior) (m : ℕ) (m_is : m ≡ child_at pages n i) (within : i ≤ count_at pages n) (number : IsNumber pages m) where
    inner_page : IsPageOf pages tree.kind Interior n
    inner_page = subst (λ (l : Level). IsPageOf pages tree.kind l n) interior page

    pub child_walked : (new : List Bool) (other : ℕ) → (0 < i → levels ≡ other) → MarksUnder pages tree other m now new
        → IsPartWalked pages tree level n (i + 1) c other old new
    child_walked new other same under = record {
      marked = walked.marked;
      blank = walked.blank;
      marks = walked.marks;
      part = part_child pages tree level n i c levels walked.marked now walked.part inner_page m m_is within number new other same under;
    }

    pub child_twice : (fault : Fault) → IsUnderTwice pages tree m now fault → IsUnderTwice pages tree n old fault
    child_twice fault twice = twice_under fault (child_then pages tree level n i c levels walked.marked now walked.part inner_page m m_is within number fault twice)

  -- all that an interior page tells
  module _ (interior : level ≡ Interior) (end : i ≡ count_at pages n + 1)
      (all_links : (users : Users) (j k m : ℕ) → Names pages users (as_link n j k) m → j < c) where
    pub inner_walked : MarksUnder pages tree (suc levels) n old now
    inner_walked users done place coming =
        let found = walked.part users (done ++ place ∷ []) (opened_here users done place coming) (marked_now users done place coming) in (
          found.0,
          goes_on users done place coming found.0 found.1,
          (
            record {
              children = λ k m names. let within : k ≤ count_at pages n = names.3.within in found.1.children k (omega (arith, end, within));
              links = λ j k m names. found.1.links j k m (all_links users j k m names) names;
            },
            λ k within. found.1.under k (omega (arith, end, within)),
          ),
        )

  -- all that a leaf tells
  module _ (leaf : level ≡ Leaf) where
    no_children : (users : Users) (k m : ℕ) → ¬ Names pages users (as_child n k) m
    no_children users k m names =
        let other : level ≡ Interior = (one_page pages n tree.kind level names.0.kind Interior page names.3.interior).1 in
        let e : Leaf ≡ Interior = sym leaf ∙ other in cc

    pub leaf_walked : ((users : Users) (j k m : ℕ) → Names pages users (as_link n j k) m → j < c) → MarksUnder pages tree 0 n old now
    leaf_walked all_links users done place coming =
        let found = walked.part users (done ++ place ∷ []) (opened_here users done place coming) (marked_now users done place coming) in (
          found.0,
          goes_on users done place coming found.0 found.1,
          record {
            children = λ k m names. absurd (no_children users k m names);
            links = λ j k m names. found.1.links j k m (all_links users j k m names) names;
          },
        )

    -- the links of all its cells were gone through at once
    pub cells_walked : (new : List Bool) → MarksCells pages tree level n walked.marked new → MarksUnder pages tree 0 n old new
    cells_walked new cells users done place coming =
        let found = cells users (done ++ place ∷ []) (opened_here users done place coming) (marked_now users done place coming) in (
          found.0,
          record {
            marks_are = found.1.marks_are;
            kept = found.1.kept;
            added = λ u h. ⊎_elim
                (λ (d : Contains (done ++ place ∷ []) u). inl d)
                (λ (on : IsOn n u). inr (on_fresh old n u on walked.blank))
                (found.1.added u h);
          },
          record { children = λ k m names. absurd (no_children users k m names); links = found.1.all },
        )

-- the page that is walked has its mark
pub marked_twice : (pages : Pages) (tree : TreeData) (n : ℕ) (old : List Bool)
    → ((users : Users) (done : List Use) (place : Use) → AreTreeMarks pages users done old → IsNewPlace pages users done place n → IsUsedTwice pages users n)
    → (fault : Fault) → fault ≡ PageUse n → IsUnderTwice pages tree n old fault
marked_twice pages tree n old twice fault is = subst (λ (f : Fault). IsUnderTwice pages tree n old f) (sym is)
    (λ users done place coming. twice users done place coming.marks_are coming.new)

-- from the root down
module _ (pages : Pages) (tree : TreeData) (old : List Bool) (number : IsNumber pages tree.root) where
  root_coming : (users : Users) (done : List Use) (t : ℕ) → IsTreeComing pages users done t tree old → IsComing pages users done tree (as_root t) tree.root old
  root_coming users done t coming = record {
    is_tree = get_contains users.trees t tree coming.is_tree;
    marks_are = coming.marks_are;
    new = record {
      names = (number, (tree, coming.is_tree, refl));
      one = λ m names. let e : Some names.1.0 ≡ Some tree = sym names.1.1 ∙ coming.is_tree in names.1.2 ∙ ap (λ (x : TreeData). x.root) (some_tree names.1.0 tree e);
      new = coming.new;
      no_free = λ f. f;
      stands = λ p on. absurd on;
    };
  }
    where
      some_tree : (a b : TreeData) → Some a ≡ Some b → a ≡ b
      some_tree a b e = cc

  -- each page that a tree's root reaches has a shape, and all that it tells was gone through
  reached : (users : Users) (now : List Use) (levels : ℕ) → HasShape pages tree.kind levels tree.root → IsDoneUnder pages users now levels tree.root
      → {depth n : ℕ} → StandsAt pages tree.kind tree.root depth n → (height : ℕ) × HasShape pages tree.kind height n × IsDoneUnder pages users now height n
  reached users now levels shape done top = (levels, shape, done)
  reached users now levels shape done (below i stands child) =
      let up = reached users now levels shape done stands in step up.0 up.1 up.2 child
    where
      step : {n m i : ℕ} (height : ℕ) → HasShape pages tree.kind height n → IsDoneUnder pages users now height n → IsChild pages tree.kind n i m
          → (height : ℕ) × HasShape pages tree.kind height m × IsDoneUnder pages users now height m
      step {n} {m} {i} zero shape done child = absurd (not_both pages tree.kind n shape child.interior)
      step {n} {m} {i} (suc height) shape done child = (
        height,
        subst (λ (x : ℕ). HasShape pages tree.kind height x) child.is (shape.1 i child.within).1,
        subst (λ (x : ℕ). IsDoneUnder pages users now height x) child.is (done.1 i child.within),
      )

  done_at : (users : Users) (now : List Use) (height n : ℕ) → IsDoneUnder pages users now height n → IsDoneOn pages users now n
  done_at users now zero n done = done
  done_at users now (suc height) n done = done.0

  pub tree_gone : (levels : ℕ) (new : List Bool) → HasShape pages tree.kind levels tree.root → MarksUnder pages tree levels tree.root old new
      → MarksTree pages tree old new
  tree_gone levels new shape walked users done t coming =
      let found = walked users done (as_root t) (root_coming users done t coming) in (
        found.0,
        record {
          marks_are = found.1.marks_are;
          kept = λ u h. found.1.kept u (Contains-append_left done (as_root t ∷ []) u h);
          roots = λ s h. ⊎_elim
              (λ (d : Contains (done ++ as_root t ∷ []) (as_root s)). ⊎_elim
              (λ (g : Contains done (as_root s)). inl g)
              (λ (l : Contains (as_root t ∷ []) (as_root s)). inr (root_index s t (single (as_root t) (as_root s) l)))
              (Contains-append_cases done (as_root t ∷ []) (as_root s) d))
              (λ (f : IsFresh old (as_root s)). absurd f)
              (found.1.added (as_root s) h);
          root = found.1.kept (as_root t) (last_of done (as_root t));
          each = λ n reaches. let r = reached users found.0 levels shape found.2 reaches.1 in done_at users found.0 r.0 n r.2;
        },
      )
    where
      root_index : (s t : ℕ) → as_root s ≡ as_root t → s ≡ t
      root_index s t e = cc

  pub tree_twice : (fault : Fault) → IsUnderTwice pages tree tree.root old fault → IsTreeTwice pages tree old fault
  tree_twice (PageUse m) twice = λ users done t coming. twice users done (as_root t) (root_coming users done t coming)
  tree_twice _ twice = absurd twice
