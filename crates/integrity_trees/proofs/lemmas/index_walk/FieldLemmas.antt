-- A record whose fields are read one after the other.
use Rattle.std.proofs.Common.{◌≡◌, ◌≤◌, ◌+◌, ℕ, List, [], ◌∷◌, ◌++◌, append-nil, append_assoc, length, length-append, refl, sym, subst, arith}
use Rattle.std.specs.Prelude.{◌↔◌}
use Rattle.values.specs.Datum.{Datum}
use Rattle.records.specs.Fields.{AreUnread, Unread}
use Rattle.records.specs.Record.{IsRecord}
use Rattle.integrity_trees.specs.declared.index_walk.tree.EntryWidths.{EntryWidths}
use Rattle.integrity_trees.specs.index_walk.Walked.{IsRecordOf}

-- so many first values of the record were read
pub record FrontRead (bytes : List ℕ) (unread : Unread) (count : ℕ) : Type 0 where
  pub values : List Datum
  pub long : length values ≡ count
  pub found : (rest : List Datum) → AreUnread unread rest → IsRecord bytes (values ++ rest)

pub front_none : (bytes : List ℕ) (unread : Unread) → ((values : List Datum) → AreUnread unread values ↔ IsRecord bytes values)
    → FrontRead bytes unread 0
front_none bytes unread found = record { values = []; long = refl; found = λ rest. (found rest).0 }

pub front_more : (bytes : List ℕ) (old new : Unread) (count : ℕ) (value : Datum) → FrontRead bytes old count
    → ((first : Datum) (others : List Datum) → AreUnread old (first ∷ others) ↔ ((first ≡ value) × AreUnread new others))
    → FrontRead bytes new (count + 1)
front_more bytes old new count value front read = record {
  values = front.values ++ value ∷ [];
  long = omega (arith, length-append front.values (value ∷ []), front.long);
  found = λ rest unread.
      subst (λ (l : List Datum). IsRecord bytes l) (sym (append_assoc front.values (value ∷ []) rest))
      (front.found (value ∷ rest) ((read value rest).1 (refl, unread)));
}

pub front_whole : (widths : EntryWidths) (bytes : List ℕ) (unread : Unread) → widths.key ≤ widths.most → FrontRead bytes unread widths.most
    → AreUnread unread [] → IsRecordOf widths bytes
front_whole widths bytes unread few front done = (
  front.values,
  subst (λ (l : List Datum). IsRecord bytes l) (append-nil front.values) (front.found [] done),
  record { least = omega (arith, few, front.long); most = omega (arith, front.long) },
)
