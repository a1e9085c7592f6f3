-- The pages of all trees of an image, as they get their marks.
use Rattle.std.proofs.Common.{◌≡◌, ◌∙◌, ℕ, zero, suc, ◌+◌, ◌<◌, ◌≤◌, Bool, false, Contains, List, [], ◌++◌, length, map, replicate, slice_get, Some, refl, sym, ap, subst, inl, inr, ⊎_elim, arith}
use Rattle.std.proofs.lemmas.Bool.{cases_lt}
use Rattle.std.proofs.lemmas.Option.{slice_get-get_or, slice_get_within}
use Rattle.values.specs.declared.fault.Fault.{Fault}
use Rattle.values.specs.declared.fault.Fault.TheVariants.{PageUse, BadFreelist}
use Rattle.pager.specs.declared.header.Header.{Header}
use Rattle.btree.specs.image.Freelist.{IsFreelist}
use Rattle.btree.specs.image.Pages.{Pages, IsNumber}
use Rattle.btree.specs.image.Tree.{Reaches}
use Rattle.btree.specs.image.Use.{Use, as_root, as_child, as_link, as_trunk, as_leaf, IsBrokenUse, IsUsedOnce, Names, TreeData, Users}
use Rattle.btree.proofs.lemmas.image.ListLemmas.{cons_cases, in_head, in_none}
use Rattle.btree.specs.page_use.Free.{header_on}
use Rattle.btree.specs.page_use.Marks.{AreAllOfTrees, AreTreeMarks, IsUsedTwice}
use Rattle.btree.proofs.lemmas.page_use.FrontLemmas.{none_gone}
use Rattle.btree.proofs.lemmas.page_use.WalkLemmas.{twice_not, twice_number}
use Rattle.values.specs.Row.{Row}
use Rattle.schema_keys.proofs.ListLemmas.{get_front}
use Rattle.schema_tables.specs.TableData.{schema_table}
use Rattle.schema.specs.CatalogData.{CatalogData}
use Rattle.integrity_trees.specs.tree_walk.Used.{IsDoneOn, IsTreeComing, IsTreeGone, IsTreeTwice, MarksTree}
use Rattle.integrity_trees.proofs.lemmas.tree_walk.UsedLemmas.{done_on_later}
use Rattle.integrity.specs.Checked.{IsMisused, empty_catalog}
use Rattle.integrity.specs.Denotes.{HasCatalog}
use Rattle.integrity.specs.Used.{AreTreesComing, AreTreesGone, AreTreesTwice, MarksTrees, index_tree_of, users_of}
use Rattle.integrity.specs.Tables.{any_tree}
use Rattle.integrity.proofs.ListLemmas.{get_behind, get_cases}
use Rattle.integrity.proofs.OneLemmas.{same_catalog}

-- of these trees those before tree j were walked
pub record AreTreesBefore (pages : Pages) (users : Users) (done : List Use) (first : ℕ) (trees : List TreeData) (j : ℕ) (gone : List Use) (marks : List Bool) : Type 0 where
  pub marks_are : AreTreeMarks pages users gone marks
  pub kept : (place : Use) → Contains done place → Contains gone place
  pub new : (t : ℕ) → first + j ≤ t → ¬ Contains gone (as_root t)
  pub roots : (k : ℕ) → k < j → Contains gone (as_root (first + k))
  pub each : (k : ℕ) (tree : TreeData) → k < j → slice_get trees k ≡ Some tree → (n : ℕ) → Reaches pages tree.kind tree.root n → IsDoneOn pages users gone n

abbrev pub MarksTreesBefore : Pages → List TreeData → ℕ → List Bool → List Bool → Type 0
MarksTreesBefore pages trees j old now = (users : Users) (done : List Use) (first : ℕ) → AreTreesComing pages users done first trees old
    → (gone : List Use) × AreTreesBefore pages users done first trees j gone now

module _ (pages : Pages) (trees : List TreeData) where
  pub trees_none : (marks : List Bool) → MarksTreesBefore pages trees 0 marks marks
  trees_none marks users done first coming = (
    done,
    record {
      marks_are = coming.marks_are;
      kept = λ u h. h;
      new = λ t least. coming.new t (omega (arith, least));
      roots = λ k less. absurd (omega (arith, less));
      each = λ k tree less. absurd (omega (arith, less));
    },
  )

  some_tree : (a b : TreeData) → Some a ≡ Some b → a ≡ b
  some_tree a b e = cc

  module _ (j : ℕ) (tree : TreeData) (here : slice_get trees j ≡ Some tree) (old now : List Bool) (befores : MarksTreesBefore pages trees j old now) where
    next_coming : (users : Users) (done : List Use) (first : ℕ) (coming : AreTreesComing pages users done first trees old)
        → IsTreeComing pages users (befores users done first coming).0 (first + j) tree now
    next_coming users done first coming =
        let before = befores users done first coming in
        record { is_tree = coming.stand j tree here; marks_are = before.1.marks_are; new = before.1.new (first + j) (omega arith) }

    pub trees_more : (new : List Bool) → MarksTree pages tree now new → MarksTreesBefore pages trees (j + 1) old new
    trees_more new walked users done first coming =
        let before = befores users done first coming in
        let found = walked users before.0 (first + j) (next_coming users done first coming) in (
          found.0,
          record {
            marks_are = found.1.marks_are;
            kept = λ u h. found.1.kept u (before.1.kept u h);
            new = λ t least h. ⊎_elim
                (λ (was : Contains before.0 (as_root t)). before.1.new t (omega (arith, least)) was)
                (λ (e : t ≡ first + j). omega (arith, least, e))
                (found.1.roots t h);
            roots = λ k less. ⊎_elim
                (λ (early : k < j). found.1.kept (as_root (first + k)) (before.1.roots k early))
                (λ (late : j ≤ k). let e : j ≡ k = omega (arith, less, late) in subst (λ (x : ℕ). Contains found.0 (as_root (first + x))) e found.1.root)
                (cases_lt k j);
            each = λ k other less at n reaches. ⊎_elim
                (λ (early : k < j). done_on_later pages users before.0 found.0 found.1.kept n (before.1.each k other early at n reaches))
                (λ (late : j ≤ k).
                let e : k ≡ j = omega (arith, less, late) in
                let same : other ≡ tree = some_tree other tree (sym at ∙ ap (λ (x : ℕ). slice_get trees x) e ∙ here) in
                found.1.each n (subst (λ (t : TreeData). Reaches pages t.kind t.root n) same reaches))
                (cases_lt k j);
          },
        )

    pub next_twice : (fault : Fault) → IsTreeTwice pages tree now fault → AreTreesTwice pages trees old fault
    next_twice (PageUse m) twice = λ users done first coming. twice users (befores users done first coming).0 (first + j) (next_coming users done first coming)
    next_twice _ twice = absurd twice

  pub trees_all : (j : ℕ) (old now : List Bool) → j ≡ length trees → MarksTreesBefore pages trees j old now → MarksTrees pages trees old now
  trees_all j old now all befores users done first coming =
      let before = befores users done first coming in (
        before.0,
        record {
          marks_are = before.1.marks_are;
          kept = before.1.kept;
          new = λ t least. before.1.new t (omega (arith, least, all));
          roots = λ k less. before.1.roots k (omega (arith, less, all));
          each = λ k tree at n reaches. let within = slice_get_within trees k tree at in before.1.each k tree (omega (arith, within, all)) at n reaches;
        },
      )

-- an element of a list stands at one of its places
place_in : {A : Type 0} (xs : List A) (x : A) → Contains xs x → (k : ℕ) × (slice_get xs k ≡ Some x)
place_in xs x (k, within, is) = (k, slice_get-get_or xs k x within ∙ ap Some is)

-- what is told of what is left behind the trees, where this is the header
abbrev pub IsRestFault : Pages → Header → List Bool → Fault → Type 0
IsRestFault pages header marks fault = (users : Users) (done : List Use) → users.first ≡ header.freelist → AreTreeMarks pages users done marks
    → AreAllOfTrees pages users done → IsBrokenUse pages users header.free_pages fault

abbrev pub IsRestOnce : Pages → Header → List Bool → Type 0
IsRestOnce pages header marks = (users : Users) (done : List Use) → users.first ≡ header.freelist → AreTreeMarks pages users done marks
    → AreAllOfTrees pages users done → (n : ℕ) → IsNumber pages n → IsUsedOnce pages users n

-- the trees of an image with this catalog
module _ (pages : Pages) (catalog : CatalogData) where
  abbrev users : Users
  users = users_of pages catalog

  abbrev index_trees : List TreeData
  index_trees = map index_tree_of catalog.indexes

  abbrev table_trees : List TreeData
  table_trees = map any_tree catalog.tables

  schema_coming : (n : ℕ) (marks : List Bool) → marks ≡ replicate n false → IsTreeComing pages users [] 0 (any_tree schema_table) marks
  schema_coming n marks blank = record {
    is_tree = refl;
    marks_are = subst (λ (m : List Bool). AreTreeMarks pages users [] m) (sym blank) (none_gone pages users n);
    new = λ h. omega (arith, h.1);
  }

  tables_coming : (now : List Use) (marks : List Bool) → IsTreeGone pages users [] 0 (any_tree schema_table) now marks → AreTreesComing pages users now 1 table_trees marks
  tables_coming now marks first = record {
    stand = λ k tree at.
        let behind : suc k ≡ 1 + k = omega arith in
        subst (λ (t : ℕ). slice_get users.trees t ≡ Some tree) behind (get_front table_trees index_trees k tree at);
    marks_are = first.marks_are;
    new = λ t least h. ⊎_elim
        (λ (was : Contains [] (as_root t)). omega (arith, was.1))
        (λ (e : t ≡ 0). omega (arith, e, least))
        (first.roots t h);
  }

  indexes_coming : (done now : List Use) (marks : List Bool) → AreTreesGone pages users done 1 table_trees now marks
      → AreTreesComing pages users now (1 + length table_trees) index_trees marks
  indexes_coming done now marks gone = record {
    stand = λ k tree at.
        let behind : suc (length table_trees + k) ≡ 1 + length table_trees + k = omega arith in
        subst (λ (t : ℕ). slice_get users.trees t ≡ Some tree) behind
        (get_behind table_trees index_trees (length table_trees + k) k tree refl at);
    marks_are = gone.marks_are;
    new = gone.new;
  }

  module _ (first : List Use) (marks : List Bool) (first_gone : IsTreeGone pages users [] 0 (any_tree schema_table) first marks)
      (middle : List Use) (between : List Bool) (tables_gone : AreTreesGone pages users first 1 table_trees middle between)
      (now : List Use) (later : List Bool) (indexes_gone : AreTreesGone pages users middle (1 + length table_trees) index_trees now later) where
    done_at : (t : ℕ) (tree : TreeData) → slice_get users.trees t ≡ Some tree → (n : ℕ) → Reaches pages tree.kind tree.root n → IsDoneOn pages users now n
    done_at zero tree at n reaches =
        let same : any_tree schema_table ≡ tree = cc in
        done_on_later pages users middle now indexes_gone.kept n
        (done_on_later pages users first middle tables_gone.kept n
        (first_gone.each n (subst (λ (t : TreeData). Reaches pages t.kind t.root n) (sym same) reaches)))
    done_at (suc k) tree at n reaches = ⊎_elim
        (λ (front : slice_get table_trees k ≡ Some tree). done_on_later pages users middle now indexes_gone.kept n (tables_gone.each k tree front n reaches))
        (λ (behind : (j : ℕ) × (k ≡ length table_trees + j) × (slice_get index_trees j ≡ Some tree)). indexes_gone.each behind.0 tree behind.2 n reaches)
        (get_cases table_trees index_trees k tree at)

    done_in : (tree : TreeData) → Contains users.trees tree → (n : ℕ) → Reaches pages tree.kind tree.root n → IsDoneOn pages users now n
    done_in tree has n reaches =
        let at = place_in users.trees tree has in
        done_at at.0 tree at.1 n reaches

    root_gone : (t : ℕ) (tree : TreeData) → slice_get users.trees t ≡ Some tree → Contains now (as_root t)
    root_gone zero tree at = indexes_gone.kept (as_root 0) (tables_gone.kept (as_root 0) first_gone.root)
    root_gone (suc k) tree at = ⊎_elim
        (λ (front : slice_get table_trees k ≡ Some tree).
        let within = slice_get_within table_trees k tree front in
        let behind : 1 + k ≡ suc k = omega arith in
        indexes_gone.kept (as_root (suc k)) (subst (λ (t : ℕ). Contains middle (as_root t)) behind (tables_gone.roots k within)))
        (λ (behind : (j : ℕ) × (k ≡ length table_trees + j) × (slice_get index_trees j ≡ Some tree)).
        let within = slice_get_within index_trees behind.0 tree behind.2 in
        let is = behind.1 in
        let here : 1 + length table_trees + behind.0 ≡ suc k = omega (arith, is) in
        subst (λ (t : ℕ). Contains now (as_root t)) here (indexes_gone.roots behind.0 within))
        (get_cases table_trees index_trees k tree at)

    pub all_of_trees : AreAllOfTrees pages users now
    all_of_trees (as_root t) m names of_trees = root_gone t names.1.0 names.1.1
    all_of_trees (as_child n i) m names of_trees = (done_in names.0 names.1 n names.2).children i m names
    all_of_trees (as_link n i k) m names of_trees = (done_in names.1.tree names.1.is_tree n names.1.place.reaches).links i k m names
    all_of_trees (as_trunk k) m names of_trees = absurd (of_trees tt)
    all_of_trees (as_leaf k i) m names of_trees = absurd (of_trees tt)

  -- what uses pages where there are no tables uses them where there are
  is_tree_too : (tree : TreeData) → Contains (users_of pages empty_catalog).trees tree → Contains users.trees tree
  is_tree_too tree h = ⊎_elim
      (λ (e : any_tree schema_table ≡ tree). subst (λ (t : TreeData). Contains users.trees t) e (in_head (any_tree schema_table) (map any_tree catalog.tables ++ index_trees)))
      (λ (none : Contains [] tree). absurd (in_none tree none))
      (cons_cases (any_tree schema_table) tree [] h)

  no_table : (k : ℕ) (tree : TreeData) → slice_get [] k ≡ Some tree → ⊥
  no_table k tree e = cc

  names_too : (place : Use) (m : ℕ) → Names pages (users_of pages empty_catalog) place m → Names pages users place m
  names_too (as_root zero) m names = names
  names_too (as_root (suc k)) m names = absurd (no_table k names.1.0 names.1.1)
  names_too (as_child n i) m names = (names.0, is_tree_too names.0 names.1, names.2, names.3)
  names_too (as_link n i k) m names = (
    names.0,
    record {
      tree = names.1.tree;
      cell = names.1.cell;
      first = names.1.first;
      is_tree = is_tree_too names.1.tree names.1.is_tree;
      place = names.1.place;
      at = names.1.at;
      overflow = names.1.overflow;
      needed = names.1.needed;
      before = names.1.before;
      is = names.1.is;
    },
  )
  names_too (as_trunk k) m names = names
  names_too (as_leaf k i) m names = names

  twice_too : (n : ℕ) → IsUsedTwice pages (users_of pages empty_catalog) n → IsUsedTwice pages users n
  twice_too n twice = record {
    one = twice.one;
    other = twice.other;
    is = names_too twice.one n twice.is;
    is_too = names_too twice.other n twice.is_too;
    differ = twice.differ;
  }

  module _ (rows : List Row) (has : HasCatalog pages rows catalog) where
    misused : (fault : Fault) → IsBrokenUse pages users (header_on pages).free_pages fault → IsMisused pages fault
    misused (PageUse m) broken = inr (rows, catalog, has, broken.0, broken.1)
    misused BadFreelist broken = broken
    misused _ broken = absurd broken

    module _ (n : ℕ) (blank marks : List Bool) (is : blank ≡ replicate n false) (walked : MarksTree pages (any_tree schema_table) blank marks) where
      first : (now : List Use) × IsTreeGone pages users [] 0 (any_tree schema_table) now marks
      first = walked users [] 0 (schema_coming n blank is)

      twice_misused : (m : ℕ) → IsUsedTwice pages users m → IsMisused pages (PageUse m)
      twice_misused m twice = inr (rows, catalog, has, twice_number pages users m twice, twice_not pages users m twice)

      -- a tree of a table has a page that is used twice
      pub tables_twice : (fault : Fault) → AreTreesTwice pages table_trees marks fault → IsMisused pages fault
      tables_twice (PageUse m) twice = twice_misused m (twice users first.0 1 (tables_coming first.0 marks first.1))
      tables_twice _ twice = absurd twice

      module _ (between : List Bool) (tables : MarksTrees pages table_trees marks between) where
        middle : (now : List Use) × AreTreesGone pages users first.0 1 table_trees now between
        middle = tables users first.0 1 (tables_coming first.0 marks first.1)

        -- and that of an index
        pub indexes_twice : (fault : Fault) → AreTreesTwice pages index_trees between fault → IsMisused pages fault
        indexes_twice (PageUse m) twice =
            twice_misused m (twice users middle.0 (1 + length table_trees) (indexes_coming first.0 middle.0 between middle.1))
        indexes_twice _ twice = absurd twice

        -- behind the trees
        module _ (later : List Bool) (indexes : MarksTrees pages index_trees between later) where
          last : (now : List Use) × AreTreesGone pages users middle.0 (1 + length table_trees) index_trees now later
          last = indexes users middle.0 (1 + length table_trees) (indexes_coming first.0 middle.0 between middle.1)

          all_gone : AreAllOfTrees pages users last.0
          all_gone = all_of_trees first.0 marks first.1 middle.0 between middle.1 last.0 later last.1

          pub rest_broken : (fault : Fault) → IsRestFault pages (header_on pages) later fault → IsMisused pages fault
          rest_broken fault broken = misused fault (broken users last.0 refl last.1.marks_are all_gone)

          pub rest_once : IsRestOnce pages (header_on pages) later → (m : ℕ) → IsNumber pages m → IsUsedOnce pages users m
          rest_once once = once users last.0 refl last.1.marks_are all_gone

    -- nothing is, where each page is used once and the freelist is one
    pub no_misuse : IsFreelist pages (header_on pages).freelist (header_on pages).free_pages → ((n : ℕ) → IsNumber pages n → IsUsedOnce pages users n)
        → (fault : Fault) → IsMisused pages fault → ⊥
    no_misuse free once (PageUse n) (inl twice) =
        let too = twice_too n twice in twice_not pages users n too (once n (twice_number pages users n too))
    no_misuse free once (PageUse n) (inr (others, other, too, number, not)) =
        not (subst (λ (c : CatalogData). IsUsedOnce pages (users_of pages c) n) (same_catalog pages rows others catalog other has too) (once n number))
    no_misuse free once BadFreelist broken = broken free
    no_misuse free once _ broken = broken

-- the schema's tree has a page that is used twice
pub schema_twice : (pages : Pages) (n : ℕ) (marks : List Bool) → marks ≡ replicate n false → (fault : Fault) → IsTreeTwice pages (any_tree schema_table) marks fault
    → IsMisused pages fault
schema_twice pages n marks blank (PageUse m) twice = inl (twice (users_of pages empty_catalog) [] 0 (schema_coming pages empty_catalog n marks blank))
schema_twice pages n marks blank _ twice = absurd twice
