-- How two records stand, column by column.
use Rattle.std.proofs.Common.{◌≡◌, ◌≢◌, ◌+◌, ◌<◌, ◌≤◌, ℕ, zero, suc, Bool, true, false, List, [], ◌∷◌, drop, length, take, refl, sym, ◌∙◌, ap, subst, arith}
use Rattle.std.proofs.lemmas.Cmp.{tied_itself}
use Rattle.std.specs.Ordering.{is_ne, ordering_then}
use Rattle.std.specs.declared.cmp.Ordering.{Ordering}
use Rattle.std.specs.declared.cmp.Ordering.TheVariants.{Less, Equal, Greater}
use Rattle.values.specs.Datum.{Datum}
use Rattle.values.specs.Order.{datum_cmp}
use Rattle.values.specs.OrderLaws.{datum_cmp_total, datum_cmp-IsAntisymmetric}
use Rattle.records.specs.Fields.{AreUnread, Unread}
use Rattle.records.specs.Record.{IsRecord}
use Rattle.btree_cursor.specs.key_ranges.Ranges.{directed, direction, key_cmp}

then_other : (o rest : Ordering) → o ≢ Equal → ordering_then o rest ≡ o
then_other Less rest other = refl
then_other Equal rest other = absurd (other refl)
then_other Greater rest other = refl

then_equal : (o rest : Ordering) → o ≡ Equal → ordering_then o rest ≡ rest
then_equal o rest is = subst (λ (x : Ordering). ordering_then x rest ≡ rest) (sym is) refl

pub other_of : (o : Ordering) (b : Bool) → b ≡ is_ne o → b ≡ true → o ≢ Equal
other_of o b is t e = let f : false ≡ true = ap is_ne (sym e) ∙ sym is ∙ t in cc

pub equal_of : (o : Ordering) (b : Bool) → b ≡ is_ne o → b ≡ false → o ≡ Equal
equal_of Less b is f = let e : true ≡ false = sym is ∙ f in cc
equal_of Equal b is f = refl
equal_of Greater b is f = let e : true ≡ false = sym is ∙ f in cc

directed_equal : (d : Bool) → directed d Equal ≡ Equal
directed_equal true = refl
directed_equal false = refl

undirected : (d : Bool) (o : Ordering) → directed d o ≡ Equal → o ≡ Equal
undirected true Less e = let f : Greater ≡ Equal = e in cc
undirected true Equal e = refl
undirected true Greater e = let f : Less ≡ Equal = e in cc
undirected false o e = e

-- values are the same where neither comes before the other
pub same_of : (d : Bool) (order : Ordering) (x y : Datum) → order ≡ directed d (datum_cmp x y) → order ≡ Equal → x ≡ y
same_of d order x y is equal = datum_cmp-IsAntisymmetric x y (undirected d (datum_cmp x y) (sym is ∙ equal))

pub differ_of : (d : Bool) (order : Ordering) (x y : Datum) → order ≡ directed d (datum_cmp x y) → order ≢ Equal → x ≢ y
differ_of d order x y is other same =
    let tied : datum_cmp x y ≡ Equal = ap (λ (z : Datum). datum_cmp x z) (sym same) ∙ tied_itself datum_cmp_total x in
    other (is ∙ ap (directed d) tied ∙ directed_equal d)

next_column : (descends : List Bool) (at : ℕ) (x y : Datum) (xs ys : List Datum)
    → key_cmp (drop at descends) (x ∷ xs) (y ∷ ys) ≡ ordering_then (directed (direction descends at) (datum_cmp x y)) (key_cmp (drop (suc at) descends) xs ys)
next_column [] zero x y xs ys = refl
next_column [] (suc at) x y xs ys = refl
next_column (d ∷ descends) zero x y xs ys = refl
next_column (d ∷ descends) (suc at) x y xs ys = next_column descends at x y xs ys

-- The columns before this one agree, of so many that are compared: how the records stand is how their next columns stand.
pub record IsPassed (descends : List Bool) (columns at : ℕ) (one other : Unread) (x y : List Datum) : Type 0 where
  pub xs : List Datum
  pub ys : List Datum
  pub left : ℕ
  pub left_is : at + left ≡ columns
  pub one_is : AreUnread one xs
  pub other_is : AreUnread other ys
  pub one_long : left ≤ length xs
  pub other_long : left ≤ length ys
  pub same : key_cmp descends (take columns x) (take columns y) ≡ key_cmp (drop at descends) (take left xs) (take left ys)

-- of each two lists of values that the records may have
abbrev pub ArePassed : List Bool → ℕ → ℕ → List ℕ → List ℕ → Unread → Unread → Type 0
ArePassed descends columns at a b one other = (x y : List Datum) → IsRecord a x → columns ≤ length x → IsRecord b y → columns ≤ length y
    → IsPassed descends columns at one other x y

-- the next column of both
record HasNext (descends : List Bool) (at left : ℕ) (one other : Unread) (p q : List Datum) : Type 0 where
  x : Datum
  y : Datum
  xs : List Datum
  ys : List Datum
  more : ℕ
  left_is : left ≡ suc more
  one_is : AreUnread one (x ∷ xs)
  other_is : AreUnread other (y ∷ ys)
  one_long : more ≤ length xs
  other_long : more ≤ length ys
  same : key_cmp (drop at descends) (take left p) (take left q)
      ≡ ordering_then (directed (direction descends at) (datum_cmp x y)) (key_cmp (drop (suc at) descends) (take more xs) (take more ys))

has_next : (descends : List Bool) (at left : ℕ) (one other : Unread) (p q : List Datum) → AreUnread one p → AreUnread other q
    → left ≤ length p → left ≤ length q → 0 < left → HasNext descends at left one other p q
has_next descends at zero one other p q one_is other_is one_long other_long some = absurd (omega (arith, some))
has_next descends at (suc more) one other [] q one_is other_is one_long other_long some = absurd (omega (arith, one_long))
has_next descends at (suc more) one other (x ∷ xs) [] one_is other_is one_long other_long some = absurd (omega (arith, other_long))
has_next descends at (suc more) one other (x ∷ xs) (y ∷ ys) one_is other_is one_long other_long some = record {
  x = x;
  y = y;
  xs = xs;
  ys = ys;
  more = more;
  left_is = refl;
  one_is = one_is;
  other_is = other_is;
  one_long = omega (arith, one_long);
  other_long = omega (arith, other_long);
  same = next_column descends at x y (take more xs) (take more ys);
}

module _ (descends : List Bool) (columns at : ℕ) (a b : List ℕ) (one other : Unread) (passed : ArePassed descends columns at a b one other) where
  module _ (within : at < columns) (x y : List Datum) (one_is : IsRecord a x) (one_long : columns ≤ length x) (other_is : IsRecord b y) (other_long : columns ≤ length y) where
    abbrev p : IsPassed descends columns at one other x y
    p = passed x y one_is one_long other_is other_long

    next : HasNext descends at p.left one other p.xs p.ys
    next =
        let l = p.left_is in
        has_next descends at p.left one other p.xs p.ys p.one_is p.other_is p.one_long p.other_long (omega (arith, l, within))

    -- there is a column
    pub some_column : ((x y : Datum) (xs ys : List Datum) → AreUnread one (x ∷ xs) → ¬ AreUnread other (y ∷ ys)) → ⊥
    some_column none = none next.x next.y next.xs next.ys next.one_is next.other_is

    here : key_cmp descends (take columns x) (take columns y)
        ≡ ordering_then (directed (direction descends at) (datum_cmp next.x next.y)) (key_cmp (drop (suc at) descends) (take next.more next.xs) (take next.more next.ys))
    here = p.same ∙ next.same

    -- a column in which they differ decides
    pub decided : (order : Ordering) → order ≢ Equal → (one_new other_new : Unread)
        → ((x y : Datum) (xs ys : List Datum) → AreUnread one (x ∷ xs) → AreUnread other (y ∷ ys)
        → (order ≡ directed (direction descends at) (datum_cmp x y)) × AreUnread one_new xs × AreUnread other_new ys)
        → key_cmp descends (take columns x) (take columns y) ≡ order
    decided order differ one_new other_new found =
        let told = found next.x next.y next.xs next.ys next.one_is next.other_is in
        let e : directed (direction descends at) (datum_cmp next.x next.y) ≡ order = sym told.0 in
        here ∙ ap (λ (o : Ordering). ordering_then o (key_cmp (drop (suc at) descends) (take next.more next.xs) (take next.more next.ys))) e ∙ then_other order _ differ

    -- else those behind it do
    pub agreed : (order : Ordering) → order ≡ Equal → (one_new other_new : Unread)
        → ((x y : Datum) (xs ys : List Datum) → AreUnread one (x ∷ xs) → AreUnread other (y ∷ ys)
        → (order ≡ directed (direction descends at) (datum_cmp x y)) × AreUnread one_new xs × AreUnread other_new ys)
        → IsPassed descends columns (at + 1) one_new other_new x y
    agreed order equal one_new other_new found =
        let told = found next.x next.y next.xs next.ys next.one_is next.other_is in
        let e : directed (direction descends at) (datum_cmp next.x next.y) ≡ Equal = sym told.0 ∙ equal in
        let i : suc at ≡ at + 1 = omega arith in
        let l = p.left_is in
        let m = next.left_is in
        record {
          xs = next.xs;
          ys = next.ys;
          left = next.more;
          left_is = omega (arith, l, m);
          one_is = told.1;
          other_is = told.2;
          one_long = next.one_long;
          other_long = next.other_long;
          same = here ∙ then_equal _ _ e ∙ ap (λ (k : ℕ). key_cmp (drop k descends) (take next.more next.xs) (take next.more next.ys)) i;
        }

  -- none is left
  pub all_agreed : at ≡ columns → (x y : List Datum) → IsRecord a x → columns ≤ length x → IsRecord b y → columns ≤ length y
      → key_cmp descends (take columns x) (take columns y) ≡ Equal
  all_agreed end x y one_is one_long other_is other_long =
      let p = passed x y one_is one_long other_is other_long in
      let l = p.left_is in
      let none : p.left ≡ 0 = omega (arith, l, end) in
      p.same ∙ ap (λ (k : ℕ). key_cmp (drop at descends) (take k p.xs) (take k p.ys)) none
