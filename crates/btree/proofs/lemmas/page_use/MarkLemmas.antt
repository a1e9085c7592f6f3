-- Marks, as more places are gone through.
use Rattle.std.proofs.Common.{◌≡◌, ℕ, zero, suc, ◌+◌, ◌<◌, ◌≤◌, ◌⊎◌, Bool, true, false, Contains, List, [], ◌∷◌, ◌++◌, length, slice_set, refl, sym, ap, ◌∙◌, subst, inl, inr, ⊎_elim, arith, get_or-set_same, get_or-set_other}
use Rattle.std.proofs.lemmas.Bool.{cases_eq, cases_lt}
use Rattle.std.proofs.lemmas.List.Elements.{Contains-append_left, Contains-append_right, Contains-append_cases}
use Rattle.btree.specs.image.Pages.{Pages, IsNumber}
use Rattle.btree.specs.image.Freelist.{leaf_count, trunk_at}
use Rattle.btree.specs.image.Use.{Use, as_root, as_child, as_link, as_trunk, as_leaf, IsUsedOnce, Names, Users}
use Rattle.btree.specs.page_use.Marks.{AreMarks, AreTreeMarks, HasNoneFree, IsFreeBefore, IsGoneAfter, IsGoneWith, IsNamedBy, IsNewPlace, IsOfFreelist, IsOn, IsUsedTwice, is_marked}

module _ (pages : Pages) (users : Users) where
  -- a page that has its mark, and that a place names that wasn't gone through, is used twice
  pub used_twice : (IsGone : Use → Type 0) (marks : List Bool) (place : Use) (m : ℕ) → AreMarks pages users IsGone marks → is_marked marks m ≡ true
      → Names pages users place m → ¬ IsGone place → IsUsedTwice pages users m
  used_twice IsGone marks place m are marked names new =
      let other = are.from m marked in
      record {
        one = other.0;
        other = place;
        is = other.2;
        is_too = names;
        differ = λ (e : other.0 ≡ place). new (subst (λ (u : Use). IsGone u) e other.1);
      }

  -- one place more, that names a page without a mark, and no other
  pub mark_more : (IsGone IsMore : Use → Type 0) (marks : List Bool) (place : Use) (m : ℕ) → AreMarks pages users IsGone marks
      → is_marked marks m ≡ false → m < length marks → Names pages users place m
      → ((n : ℕ) → Names pages users place n → n ≡ m) → ((u : Use) → IsGone u → IsMore u) → IsMore place
      → ((u : Use) → IsMore u → IsGone u ⊎ (u ≡ place)) → AreMarks pages users IsMore (slice_set marks m true)
  mark_more IsGone IsMore marks place m are blank within names one kept here cases = record {
    closed = λ u n more named. ⊎_elim
        (λ (gone : IsGone u). still n (are.closed u n gone named))
        (λ (e : u ≡ place). at n (one n (subst (λ (x : Use). Names pages users x n) e named)))
        (cases u more);
    from = λ n marked. ⊎_elim
        (λ (e : n ≡ m). (place, here, subst (λ (x : ℕ). Names pages users place x) (sym e) names))
        (λ (ne : n ≡ m → ⊥). let before = are.from n (sym (other n ne) ∙ marked) in (before.0, kept before.0 before.1, before.2))
        (cases_eq n m);
    once = λ u v n more_u more_v named_u named_v. ⊎_elim
        (λ (gone_u : IsGone u). ⊎_elim
        (λ (gone_v : IsGone v). are.once u v n gone_u gone_v named_u named_v)
        (λ (e : v ≡ place). absurd (fresh u n gone_u named_u (one n (subst (λ (x : Use). Names pages users x n) e named_v))))
        (cases v more_v))
        (λ (e : u ≡ place). ⊎_elim
        (λ (gone_v : IsGone v). absurd (fresh v n gone_v named_v (one n (subst (λ (x : Use). Names pages users x n) e named_u))))
        (λ (f : v ≡ place). e ∙ sym f)
        (cases v more_v))
        (cases u more_u);
  }
    where
      other : (n : ℕ) → (n ≡ m → ⊥) → is_marked (slice_set marks m true) n ≡ is_marked marks n
      other n ne = get_or-set_other marks m n true false ne

      at : (n : ℕ) → n ≡ m → is_marked (slice_set marks m true) n ≡ true
      at n e = subst (λ (x : ℕ). is_marked (slice_set marks m true) x ≡ true) (sym e) (get_or-set_same marks m true false within)

      still : (n : ℕ) → is_marked marks n ≡ true → is_marked (slice_set marks m true) n ≡ true
      still n marked = ⊎_elim (at n) (λ (ne : n ≡ m → ⊥). other n ne ∙ marked) (cases_eq n m)

      fresh : (u : Use) (n : ℕ) → IsGone u → Names pages users u n → n ≡ m → ⊥
      fresh u n gone named e =
          let marked : is_marked marks m ≡ true = subst (λ (x : ℕ). is_marked marks x ≡ true) e (are.closed u n gone named) in
          let no : true ≡ false = sym marked ∙ blank in
          cc

  -- one place more of a tree or of a chain
  pub place_more : (done : List Use) (marks : List Bool) (place : Use) (m : ℕ) → AreTreeMarks pages users done marks → IsNewPlace pages users done place m
      → is_marked marks m ≡ false → m < length marks → AreTreeMarks pages users (done ++ place ∷ []) (slice_set marks m true)
  place_more done marks place m trees place_is blank within = record {
    none_free = λ u h free. ⊎_elim
        (λ (d : Contains done u). trees.none_free u d free)
        (λ (l : Contains (place ∷ []) u). place_is.no_free (subst (λ (x : Use). IsOfFreelist x) (single u l) free))
        (Contains-append_cases done (place ∷ []) u h);
    stand = λ u n h on. more_named n (⊎_elim
        (λ (d : Contains done u). trees.stand u n d on)
        (λ (l : Contains (place ∷ []) u). place_is.stands n (subst (λ (x : Use). IsOn n x) (single u l) on))
        (Contains-append_cases done (place ∷ []) u h));
    marks_are = mark_more (Contains done) (Contains (done ++ place ∷ [])) marks place m trees.marks_are blank within place_is.names place_is.one
        (λ u d. Contains-append_left done (place ∷ []) u d)
        (Contains-append_right done (place ∷ []) place (0, omega arith, refl))
        (λ u h. ⊎_elim (λ (d : Contains done u). inl d) (λ (l : Contains (place ∷ []) u). inr (single u l)) (Contains-append_cases done (place ∷ []) u h));
  }
    where
      more_named : (n : ℕ) → IsNamedBy pages users done n → IsNamedBy pages users (done ++ place ∷ []) n
      more_named n named = record { place = named.place; gone = Contains-append_left done (place ∷ []) named.place named.gone; is = named.is }

      single : (u : Use) → Contains (place ∷ []) u → u ≡ place
      single u (zero, less, e) = sym e
      single u (suc k, less, e) = absurd (omega (arith, less))

  -- the same places, but for those that name nothing
  pub marks_same : (IsGone IsMore : Use → Type 0) (marks : List Bool) → AreMarks pages users IsGone marks
      → ((u : Use) → IsGone u → IsMore u) → ((u : Use) (m : ℕ) → IsMore u → Names pages users u m → IsGone u) → AreMarks pages users IsMore marks
  marks_same IsGone IsMore marks are kept back = record {
    closed = λ u m more named. are.closed u m (back u m more named) named;
    from = λ m marked. let before = are.from m marked in (before.0, kept before.0 before.1, before.2);
    once = λ u v m more_u more_v named_u named_v. are.once u v m (back u m more_u named_u) (back v m more_v named_v) named_u named_v;
  }

  -- of a page: where every place that names a page was gone through, a page with a mark is used once, one without is not
  pub marked_once : (IsGone : Use → Type 0) (marks : List Bool) → AreMarks pages users IsGone marks
      → ((u : Use) (m : ℕ) → Names pages users u m → IsGone u) → (n : ℕ) → is_marked marks n ≡ true → IsUsedOnce pages users n
  marked_once IsGone marks are all n marked =
      let place = are.from n marked in
      record { place = place.0; is = place.2; only = λ other named. are.once other place.0 n (all other n named) place.1 named place.2 }

  pub blank_unused : (IsGone : Use → Type 0) (marks : List Bool) → AreMarks pages users IsGone marks
      → ((u : Use) (m : ℕ) → Names pages users u m → IsGone u) → (n : ℕ) → is_marked marks n ≡ false → ¬ IsUsedOnce pages users n
  blank_unused IsGone marks are all n blank once =
      let marked : is_marked marks n ≡ true = are.closed once.place n (all once.place n once.is) once.is in
      let no : true ≡ false = sym marked ∙ blank in
      cc

  module _ (done : List Use) where
    none_before : (k t i : ℕ) (u : Use) → IsOfFreelist u → HasNoneFree done → (IsFreeBefore k t i u → ⊥) → IsGoneWith done k t i u → ⊥
    none_before k t i u free none not gone = ⊎_elim (λ (d : Contains done u). none u d free) not gone

    -- before the freelist
    pub start : (marks : List Bool) → AreMarks pages users (Contains done) marks → AreMarks pages users (IsGoneWith done 0 0 0) marks
    start marks are = marks_same (Contains done) (IsGoneWith done 0 0 0) marks are (λ u d. inl d)
        (λ u m more named. ⊎_elim (λ (d : Contains done u). d) (λ (f : IsFreeBefore 0 0 0 u). absurd (nothing u f)) more)
      where
        nothing : (u : Use) → IsFreeBefore 0 0 0 u → ⊥
        nothing (as_root _) f = f
        nothing (as_child _ _) f = f
        nothing (as_link _ _ _) f = f
        nothing (as_trunk j) f = omega (arith, f)
        nothing (as_leaf j l) f = ⊎_elim (λ (a : j < 0). omega (arith, a)) (λ (b : (j ≡ 0) × (l < 0)). omega (arith, b.1)) f

    module _ (k : ℕ) (none : HasNoneFree done) where
      -- trunk page k itself
      pub trunk_new : ¬ IsGoneWith done k k 0 (as_trunk k)
      trunk_new gone = none_before k k 0 (as_trunk k) tt none (λ (f : k < k). omega (arith, f)) gone

      pub trunk_more : (marks : List Bool) (m : ℕ) → AreMarks pages users (IsGoneWith done k k 0) marks → is_marked marks m ≡ false → m < length marks
          → Names pages users (as_trunk k) m → AreMarks pages users (IsGoneWith done k (suc k) 0) (slice_set marks m true)
      trunk_more marks m are blank within names =
          mark_more (IsGoneWith done k k 0) (IsGoneWith done k (suc k) 0) marks (as_trunk k) m are blank within names
          (λ n named. named.2 ∙ sym names.2)
          (λ u gone. ⊎_elim (λ (d : Contains done u). inl d) (λ (f : IsFreeBefore k k 0 u). inr (kept u f)) gone)
          (inr (omega arith))
          (λ u more. ⊎_elim (λ (d : Contains done u). inl (inl d)) (λ (f : IsFreeBefore k (suc k) 0 u). cases u f) more)
        where
          kept : (u : Use) → IsFreeBefore k k 0 u → IsFreeBefore k (suc k) 0 u
          kept (as_root _) f = f
          kept (as_child _ _) f = f
          kept (as_link _ _ _) f = f
          kept (as_trunk j) f = omega (arith, f)
          kept (as_leaf j l) f = f

          cases : (u : Use) → IsFreeBefore k (suc k) 0 u → IsGoneWith done k k 0 u ⊎ (u ≡ as_trunk k)
          cases (as_root _) f = absurd f
          cases (as_child _ _) f = absurd f
          cases (as_link _ _ _) f = absurd f
          cases (as_trunk j) f = ⊎_elim (λ (less : j < k). inl (inr less)) (λ (least : k ≤ j). inr (ap (λ (x : ℕ). as_trunk x) (omega (arith, f)))) (cases_lt j k)
          cases (as_leaf j l) f = inl (inr f)

      -- number i of trunk page k
      pub leaf_new : (i : ℕ) → ¬ IsGoneWith done k (suc k) i (as_leaf k i)
      leaf_new i gone = none_before k (suc k) i (as_leaf k i) tt none
          (λ (f : (k < k) ⊎ ((k ≡ k) × (i < i))). ⊎_elim (λ (a : k < k). omega (arith, a)) (λ (b : (k ≡ k) × (i < i)). omega (arith, b.1)) f) gone

      pub leaf_more : (i : ℕ) (marks : List Bool) (m : ℕ) → AreMarks pages users (IsGoneWith done k (suc k) i) marks → is_marked marks m ≡ false → m < length marks
          → Names pages users (as_leaf k i) m → AreMarks pages users (IsGoneWith done k (suc k) (i + 1)) (slice_set marks m true)
      leaf_more i marks m are blank within names =
          mark_more (IsGoneWith done k (suc k) i) (IsGoneWith done k (suc k) (i + 1)) marks (as_leaf k i) m are blank within names
          (λ n named. named.3 ∙ sym names.3)
          (λ u gone. ⊎_elim (λ (d : Contains done u). inl d) (λ (f : IsFreeBefore k (suc k) i u). inr (kept u f)) gone)
          (inr (inr (refl, omega arith)))
          (λ u more. ⊎_elim (λ (d : Contains done u). inl (inl d)) (λ (f : IsFreeBefore k (suc k) (i + 1) u). cases u f) more)
        where
          kept : (u : Use) → IsFreeBefore k (suc k) i u → IsFreeBefore k (suc k) (i + 1) u
          kept (as_root _) f = f
          kept (as_child _ _) f = f
          kept (as_link _ _ _) f = f
          kept (as_trunk j) f = f
          kept (as_leaf j l) f = ⊎_elim (λ (a : j < k). inl a) (λ (b : (j ≡ k) × (l < i)). inr (b.0, omega (arith, b.1))) f

          cases : (u : Use) → IsFreeBefore k (suc k) (i + 1) u → IsGoneWith done k (suc k) i u ⊎ (u ≡ as_leaf k i)
          cases (as_root _) f = absurd f
          cases (as_child _ _) f = absurd f
          cases (as_link _ _ _) f = absurd f
          cases (as_trunk j) f = inl (inr f)
          cases (as_leaf j l) f = ⊎_elim (λ (a : j < k). inl (inr (inl a)))
              (λ (b : (j ≡ k) × (l < i + 1)). ⊎_elim
              (λ (less : l < i). inl (inr (inr (b.0, less))))
              (λ (least : i ≤ l). let e : l ≡ i = omega (arith, b.1) in inr (λ x. as_leaf (b.0 x) (e x)))
              (cases_lt l i))
              f

      -- the numbers of trunk page k are all gone through
      pub leaves_done : (count : ℕ) (marks : List Bool) → count ≡ leaf_count pages (trunk_at pages users.first k)
          → AreMarks pages users (IsGoneWith done k (suc k) count) marks → AreMarks pages users (IsGoneWith done (suc k) (suc k) 0) marks
      leaves_done count marks is are = marks_same (IsGoneWith done k (suc k) count) (IsGoneWith done (suc k) (suc k) 0) marks are
          (λ u gone. ⊎_elim (λ (d : Contains done u). inl d) (λ (f : IsFreeBefore k (suc k) count u). inr (kept u f)) gone)
          (λ u m more named. ⊎_elim (λ (d : Contains done u). inl d) (λ (f : IsFreeBefore (suc k) (suc k) 0 u). inr (back u m named f)) more)
        where
          kept : (u : Use) → IsFreeBefore k (suc k) count u → IsFreeBefore (suc k) (suc k) 0 u
          kept (as_root _) f = f
          kept (as_child _ _) f = f
          kept (as_link _ _ _) f = f
          kept (as_trunk j) f = f
          kept (as_leaf j l) f = ⊎_elim (λ (a : j < k). inl (omega (arith, a))) (λ (b : (j ≡ k) × (l < count)). inl (omega (arith, b.0))) f

          back : (u : Use) (m : ℕ) → Names pages users u m → IsFreeBefore (suc k) (suc k) 0 u → IsFreeBefore k (suc k) count u
          back (as_root _) m named f = f
          back (as_child _ _) m named f = f
          back (as_link _ _ _) m named f = f
          back (as_trunk j) m named f = f
          back (as_leaf j l) m named f = ⊎_elim
              (λ (a : j < suc k). ⊎_elim
              (λ (less : j < k). inl less)
              (λ (least : k ≤ j). let e : j ≡ k = omega (arith, a) in
              inr (e, subst (λ (c : ℕ). l < c) (ap (λ (x : ℕ). leaf_count pages (trunk_at pages users.first x)) e ∙ sym is) named.2))
              (cases_lt j k))
              (λ (b : (j ≡ suc k) × (l < 0)). absurd (omega (arith, b.1)))
              f

      -- there is no trunk page k: all of the freelist is gone through
      pub all_done : (marks : List Bool) → trunk_at pages users.first k ≡ 0 → AreMarks pages users (IsGoneWith done k k 0) marks
          → AreMarks pages users (IsGoneAfter done) marks
      all_done marks last are = marks_same (IsGoneWith done k k 0) (IsGoneAfter done) marks are
          (λ u gone. ⊎_elim (λ (d : Contains done u). inl d) (λ (f : IsFreeBefore k k 0 u). inr (kept u f)) gone)
          (λ u m more named. ⊎_elim (λ (d : Contains done u). inl d) (λ (f : IsOfFreelist u). inr (back u m named f)) more)
        where
          kept : (u : Use) → IsFreeBefore k k 0 u → IsOfFreelist u
          kept (as_root _) f = f
          kept (as_child _ _) f = f
          kept (as_link _ _ _) f = f
          kept (as_trunk j) f = tt
          kept (as_leaf j l) f = tt

          no_trunk : IsNumber pages (trunk_at pages users.first k) → ⊥
          no_trunk number = let n : IsNumber pages 0 = subst (λ (x : ℕ). IsNumber pages x) last number in omega (arith, n.0)

          back : (u : Use) (m : ℕ) → Names pages users u m → IsOfFreelist u → IsFreeBefore k k 0 u
          back (as_root _) m named f = f
          back (as_child _ _) m named f = f
          back (as_link _ _ _) m named f = f
          back (as_trunk j) m named f = ⊎_elim
              (λ (less : j < k). less)
              (λ (least : k ≤ j). absurd (⊎_elim
              (λ (after : k < j). no_trunk (named.1 k after).number)
              (λ (most : j ≤ k). let e : j ≡ k = omega arith in
              no_trunk (subst (λ (x : ℕ). IsNumber pages x) (named.2 ∙ ap (λ (x : ℕ). trunk_at pages users.first x) e) named.0))
              (cases_lt k j)))
              (cases_lt j k)
          back (as_leaf j l) m named f = ⊎_elim
              (λ (less : j < k). inl less)
              (λ (least : k ≤ j). absurd (no_trunk (named.1 k (omega arith)).number))
              (cases_lt j k)
