-- The rowid of an entry, and where the entry is placed.
use Rattle.std.proofs.Common.{◌≡◌, ◌∙◌, ◌+◌, ◌-◌, ◌<◌, ℕ, ℤ, All, Bool, true, false, Contains, IsTrue, List, [], ◌∷◌, ◌++◌, Option, drop, length, take, refl, sym, ap, subst, arith}
use Rattle.std.proofs.Math.Seq.{drop-append_seam, take-append_seam}
use Rattle.std.proofs.lemmas.List.{length-append, length-drop, length-take-le, take-append-drop}
use Rattle.std.specs.Prelude.{◌↔◌, IfNone, IfSome, None, Some}
use Rattle.values.specs.Datum.{Datum, int}
use Rattle.values.specs.Row.{Row}
use Rattle.records.specs.Fields.{AreUnread, Unread}
use Rattle.integrity_trees.specs.wanted_entries.Bags.{Coded, IsWithin}
use Rattle.integrity_indexes.specs.entry_batches.Codes.{IsHeld, codes_of}
use Rattle.integrity_indexes.specs.index_batches.Placed.{IsAstray, IsKeyed, IsPlaced, TellsPlaced, coded_entry}

-- what is said of a value that there is, and of none
pub if_some : {T : Type 0} {P Q : T → Type 0} (o : Option T) → ((x : T) → P x → Q x) → IfSome o P → IfSome o Q
if_some None f h = tt
if_some (Some x) f h = f x h

pub if_none : {T : Type 0} {P Q : Type 0} (o : Option T) → (P → Q) → IfNone o P → IfNone o Q
if_none None f h = f h
if_none (Some x) f h = tt

module _ (columns : ℕ) (values : Row) where
  -- what stands behind the columns' values
  pub last_of : (rowid : ℤ) (front : Row) → IsKeyed columns values rowid front → drop columns values ≡ int rowid ∷ []
  last_of rowid front is =
      (λ k. drop (sym is.long k) (is.is k)) ∙ drop-append_seam front (int rowid ∷ [])

  pub front_of : (rowid : ℤ) (front : Row) → IsKeyed columns values rowid front → front ≡ take columns values
  front_of rowid front is =
      sym ((λ k. take (sym is.long k) (is.is k)) ∙ take-append_seam front (int rowid ∷ []))

  pub long_keyed : (rowid : ℤ) (front : Row) → IsKeyed columns values rowid front → length values ≡ columns + 1
  long_keyed rowid front is =
      let all = ap length is.is in
      let parts = length-append front (int rowid ∷ []) in
      let long = is.long in
      omega (arith, all, parts, long)

  -- an entry ends with one rowid
  pub one_rowid : (a b : ℤ) (f g : Row) → IsKeyed columns values a f → IsKeyed columns values b g → a ≡ b
  one_rowid a b f g one other =
      let e : int a ∷ [] ≡ int b ∷ [] = sym (last_of a f one) ∙ last_of b g other in
      cc

  pub one_front : (a b : ℤ) (f g : Row) → IsKeyed columns values a f → IsKeyed columns values b g → f ≡ g
  one_front a b f g one other = front_of a f one ∙ sym (front_of b g other)

  -- an entry that has one value behind those of its columns
  pub keyed_by : (rowid : ℤ) → drop columns values ≡ int rowid ∷ [] → IsKeyed columns values rowid (take columns values)
  keyed_by rowid last =
      let long : length (drop columns values) ≡ 1 = ap length last in
      let fewer = length-drop columns values in
      record {
        long = length-take-le columns values (omega (arith, long, fewer));
        is = sym (take-append-drop columns values) ∙ ap (λ (l : Row). take columns values ++ l) last;
      }

  begins : (x : Datum) (rowid : ℤ) → x ≡ int rowid → (more : Row) → drop columns values ≡ x ∷ more → length more < 1
      → IsKeyed columns values rowid (take columns values)
  begins x rowid is [] here few = keyed_by rowid (here ∙ ap (λ (v : Datum). v ∷ []) is)
  begins x rowid is (y ∷ more) here few = absurd (omega (arith, few))

  -- one whose first field behind these is a rowid, and that has no further one
  pub read_last : (passed next : Unread) (last : Datum) → AreUnread passed (drop columns values) → (¬ AreUnread passed [])
      → ((first : Datum) (others : Row) → AreUnread passed (first ∷ others) ↔ ((first ≡ last) × AreUnread next others))
      → ((others : Row) → AreUnread next others → length others < 1) → (rowid : ℤ) → last ≡ int rowid → IsKeyed columns values rowid (take columns values)
  read_last passed next last unread some read ends rowid is = by_fields (drop columns values) refl unread
    where
      by_fields : (l : Row) → drop columns values ≡ l → AreUnread passed l → IsKeyed columns values rowid (take columns values)
      by_fields [] here un = absurd (some un)
      by_fields (x ∷ others) here un =
          let told = (read x others).0 un in
          begins x rowid (told.0 ∙ is) others here (ends others told.1)

  module _ (batch : List Coded) (low high : Option ℤ) where
    -- an entry whose rowid the batch isn't for
    pub passed : (rowid : ℤ) → IsKeyed columns values rowid (take columns values) → ¬ IsWithin low high rowid → IsPlaced batch low high columns values
    passed rowid keyed outside = record { rowid = rowid; front = take columns values; keyed = keyed; there = λ within. absurd (outside within) }

    -- one that is there
    pub found : (rowid : ℤ) → IsKeyed columns values rowid (take columns values) → Contains batch (coded_entry rowid (take columns values))
        → All IsHeld (take columns values) → IsPlaced batch low high columns values
    found rowid keyed there held = record {
      rowid = rowid;
      front = take columns values;
      keyed = keyed;
      there = λ within. record { there = there; held = held };
    }

    -- one that isn't
    pub lacking : (rowid : ℤ) → IsKeyed columns values rowid (take columns values) → IsWithin low high rowid
        → ¬ Contains batch (coded_entry rowid (take columns values)) → IsAstray batch low high columns values
    lacking rowid keyed within none = record {
      within = λ other front is. subst (λ (r : ℤ). IsWithin low high r) (one_rowid rowid other (take columns values) front keyed is) within;
      lacks = λ other front is there. none (subst (λ (x : Coded). Contains batch x)
          (λ k. coded_entry (one_rowid other rowid front (take columns values) is keyed k) (one_front other rowid front (take columns values) is keyed k)) there);
    }

    -- one that ends with no rowid
    pub rowless : ((rowid : ℤ) (front : Row) → ¬ IsKeyed columns values rowid front) → IsAstray batch low high columns values
    rowless none = record {
      within = λ rowid front is. absurd (none rowid front is);
      lacks = λ rowid front is there. none rowid front is;
    }

-- a look-up in the batch tells
pub by_has : (columns : ℕ) (values : Row) (batch : List Coded) (low high : Option ℤ) (there : Bool) (rowid : ℤ) → IsKeyed columns values rowid (take columns values)
    → IsWithin low high rowid → (code : List ℕ) → code ≡ codes_of (take columns values) → All IsHeld (take columns values)
    → (IsTrue there ↔ Contains batch (record { key = rowid; code = code })) → TellsPlaced batch low high columns there values
by_has columns values batch low high true rowid keyed within code code_is held tells =
    found columns values batch low high rowid keyed
    (subst (λ (b : List ℕ). Contains batch (record { key = rowid; code = b })) code_is (tells.0 refl)) held
by_has columns values batch low high false rowid keyed within code code_is held tells =
    lacking columns values batch low high rowid keyed within
    (λ h. let t = tells.1 (subst (λ (b : List ℕ). Contains batch (record { key = rowid; code = b })) (sym code_is) h) in
    let e : false ≡ true = t in cc)
