-- Names that two rows have.
use Rattle.std.proofs.Common.{◌≡◌, ℕ, ◌+◌, ◌<◌, ◌≤◌, ◌⊎◌, inl, inr, Bool, true, false, IsTrue, ◌↔◌, List, [], ◌∷◌, ◌++◌, length, get_or, take, drop, slice_get, Some, refl, sym, ap, ◌∙◌, subst, arith}
use Rattle.std.proofs.lemmas.List.{length-take-le, take-append-drop, take_all, take_more}
use Rattle.std.proofs.lemmas.Option.{get_or_from_slice_get, slice_get-get_or, slice_get_within}
use Rattle.std.specs.List.{Any}
use Rattle.values.specs.Row.{Row}
use Rattle.schema_keys.proofs.ListLemmas.{get_front, get_pushed}
use Rattle.schema_keys.specs.Names.{IsSameName}
use Rattle.sql_reader_syntax.specs.Tree.{Name}
use Rattle.schema.specs.Objects.{ObjectData, object_row}
use Rattle.schema.specs.Says.{Doubled, HasTree}
use Rattle.schema.specs.Taken.{HasName, RepeatsName, TakesName}
use Rattle.schema.proofs.ObjectLemmas.{one_kind, one_name}

pub no_name : (row : Row) (o : ObjectData) → row ≡ object_row o → ¬ HasTree o.kind → (name : Name) → ¬ HasName row name
no_name row o is none name h = none (subst HasTree (one_kind h.object o (sym h.row_is ∙ is)) h.has_tree)

-- no table or index has the row, whatever its name
module _ (row : Row) (none : (name : Name) → ¬ HasName row name) where
  pub takes_none : (name : Name) → ¬ TakesName name row
  takes_none name t = none t.object.name (record { object = t.object; row_is = t.row_is; has_tree = t.has_tree; name_is = refl })

  pub repeats_none : (before : List Row) → ¬ RepeatsName before row
  repeats_none before r = none r.name r.named

-- a row of a table or an index of this name
module _ (row : Row) (given : Name) (named : HasName row given) where
  same_given : (other : ObjectData) → row ≡ object_row other → given ≡ other.name
  same_given other is = named.name_is ∙ one_name named.object other (sym named.row_is ∙ is)

  pub takes_tested : (name : Name) (found : Bool) → IsTrue found ↔ IsSameName given name → IsTrue found ↔ TakesName name row
  takes_tested name found tested = (
    (λ e. record {
      object = named.object;
      row_is = named.row_is;
      has_tree = named.has_tree;
      same = subst (λ n. IsSameName n name) named.name_is (tested.0 e);
    }),
    (λ t. tested.1 (subst (λ n. IsSameName n name) (sym (same_given t.object t.row_is)) t.same)),
  )

  pub repeats_tested : (before : List Row) (found : Bool) → IsTrue found ↔ Any (TakesName given) before → IsTrue found ↔ RepeatsName before row
  repeats_tested before found tested = (
    (λ e. record { name = given; named = named; taken = tested.0 e }),
    (λ r. tested.1 (subst (λ n. Any (TakesName n) before)
        (r.named.name_is ∙ sym (same_given r.named.object r.named.row_is)) r.taken)),
  )

pub none_doubled : (rows : List Row) → ¬ Doubled (take 0 rows)
none_doubled [] d = let is = d.one_is in absurd cc
none_doubled (row ∷ rows) d = let is = d.one_is in absurd cc

pub none_at_end : (rows : List Row) (count : ℕ) → length rows ≤ count → ¬ Doubled (take count rows) → ¬ Doubled rows
none_at_end rows count all none d = none (subst Doubled (sym (take_all count rows all)) d)

-- rows as far as one of them, where it was tested whether it repeats a name
module _ (rows : List Row) (i : ℕ) (row : Row) (found : Bool) (within : i < length rows) (is : row ≡ get_or rows i row)
    (tested : IsTrue found ↔ RepeatsName (take i rows) row) where
  pub doubled_here : found ≡ true → Doubled rows
  doubled_here e =
      let r : RepeatsName (take i rows) row = tested.0 e in
      let k = r.taken.0 in
      let y = r.taken.1 in
      let t : TakesName r.name y = r.taken.4 in
      let less = r.taken.2 in
      let size = length-take-le i rows (omega (arith, within)) in
      let front : slice_get (take i rows) k ≡ Some y = slice_get-get_or (take i rows) k y less ∙ ap Some r.taken.3 in
      let first : slice_get rows k ≡ Some y =
      subst (λ rs. slice_get rs k ≡ Some y) (take-append-drop i rows) (get_front (take i rows) (drop i rows) k y front) in
      let second : slice_get rows i ≡ Some row = slice_get-get_or rows i row within ∙ ap Some (sym is) in
      record {
        first = k;
        second = i;
        before = omega (arith, less, size);
        one = t.object;
        other = r.named.object;
        one_is = first ∙ ap Some t.row_is;
        other_is = second ∙ ap Some r.named.row_is;
        one_has_tree = t.has_tree;
        other_has_tree = r.named.has_tree;
        same = subst (λ n. IsSameName t.object.name n) r.named.name_is t.same;
      }

  in_front : (d : Doubled (take i rows ++ row ∷ [])) → slice_get (take i rows) d.first ≡ Some (object_row d.one)
      → row ≡ object_row d.other → RepeatsName (take i rows) row
  in_front d p f = record {
    name = d.other.name;
    named = record { object = d.other; row_is = f; has_tree = d.other_has_tree; name_is = refl };
    taken = (
      d.first,
      object_row d.one,
      slice_get_within (take i rows) d.first (object_row d.one) p,
      get_or_from_slice_get (take i rows) d.first (object_row d.one) (object_row d.one) p,
      record { object = d.one; row_is = refl; has_tree = d.one_has_tree; same = d.same },
    );
  }

  pub none_more : found ≡ false → ¬ Doubled (take i rows) → ¬ Doubled (take (i + 1) rows)
  none_more new none all =
      let d : Doubled (take i rows ++ row ∷ []) =
      subst Doubled (take_more rows i row within ∙ ap (λ r. take i rows ++ r ∷ []) (sym is)) all in
      go d (get_pushed (take i rows) row d.first (object_row d.one) d.one_is) (get_pushed (take i rows) row d.second (object_row d.other) d.other_is)
    where
      go : (d : Doubled (take i rows ++ row ∷ []))
          → (slice_get (take i rows) d.first ≡ Some (object_row d.one)) ⊎ ((d.first ≡ length (take i rows)) × (row ≡ object_row d.one))
          → (slice_get (take i rows) d.second ≡ Some (object_row d.other)) ⊎ ((d.second ≡ length (take i rows)) × (row ≡ object_row d.other))
          → ⊥
      go d (inl p) (inl q) = none (record {
        first = d.first;
        second = d.second;
        before = d.before;
        one = d.one;
        other = d.other;
        one_is = p;
        other_is = q;
        one_has_tree = d.one_has_tree;
        other_has_tree = d.other_has_tree;
        same = d.same;
      })
      go d (inl p) (inr (e, f)) = let h : found ≡ true = tested.1 (in_front d p f) in absurd cc
      go d (inr (e, f)) (inl q) =
          let less = slice_get_within (take i rows) d.second (object_row d.other) q in
          let before = d.before in
          absurd (omega (arith, less, before, e))
      go d (inr (e, f)) (inr (g, h)) = let before = d.before in absurd (omega (arith, before, e, g))
