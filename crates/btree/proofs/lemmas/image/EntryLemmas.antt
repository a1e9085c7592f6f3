-- The cells of an index tree, in the order of its entries.
use Rattle.std.proofs.Common.{ℕ, Bool, IsTrue, refl}
use Rattle.btree.specs.declared.image.kind.TreeKind.TheVariants.{Index}
use Rattle.btree.specs.image.Pages.{Pages}
use Rattle.btree.specs.image.Tree.{Place, Reaches}
use Rattle.btree.specs.image.Shape.{HasShape, place_at, places_under}
use Rattle.btree.specs.image.Entries.{IsStrictOrder, IsAtPlace, IsEntryOrder, AreEntriesOf}
use Rattle.btree.proofs.lemmas.image.ListLemmas.{get_contains, pairs_at}
use Rattle.btree.proofs.lemmas.image.PlaceLemmas.{sound}
use Rattle.btree.proofs.lemmas.image.OrderLemmas.{AreKeys, KeyBefore, root_rises, root_places}

module _ (pages : Pages) (before : Place → Place → Bool) (strict : IsStrictOrder before) where
  abbrev IsEarlier : Place → Place → Type 0
  IsEarlier x y = IsTrue (before x y)

  entries : AreKeys IsAtPlace IsEarlier IsEarlier pages Index
  entries = record {
    after = strict.after;
    after_most = strict.after;
    strict = λ _ x y h. h;
    never = strict.never;
    key_of = λ level n i page within. (place_at n i, refl);
  }

  pub entries_of : (root levels : ℕ) → HasShape pages Index levels root
      → ((n : ℕ) → Reaches pages Index root n → IsEntryOrder pages before root n)
      → AreEntriesOf pages before root (places_under pages Index levels root)
  entries_of root levels shape order = record {
    cells = root_places IsAtPlace IsEarlier IsEarlier pages Index root entries order levels shape;
    ascend = λ i j x y less get_x get_y.
        let places = places_under pages Index levels root in
        let pairs = root_rises IsAtPlace IsEarlier IsEarlier pages Index root entries order levels shape in
        let at_x = sound pages Index levels root shape x (get_contains places i x get_x) in
        let at_y = sound pages Index levels root shape y (get_contains places j y get_y) in
        pairs_at (KeyBefore IsAtPlace IsEarlier pages Index) places pairs i j x y less get_x get_y at_x.level at_y.level x y
        at_x.page at_x.within at_y.page at_y.within refl refl;
  }
