-- A record whose values are copied one after the other.
use Rattle.std.proofs.Common.{◌≡◌, ℕ, List, [], ◌∷◌, ◌++◌, append_assoc, sym, subst}
use Rattle.std.specs.Prelude.{◌↔◌}
use Rattle.values.specs.Datum.{Datum}
use Rattle.records.specs.Fields.{AreUnread, Unread}
use Rattle.records.specs.Record.{IsRecord}

pub copied_more : (bytes : List ℕ) (old new : Unread) (row more : List Datum) (copied value : Datum)
    → ((rest : List Datum) → AreUnread old rest → IsRecord bytes (row ++ rest))
    → ((first : Datum) (others : List Datum) → AreUnread old (first ∷ others) ↔ ((first ≡ value) × AreUnread new others))
    → more ≡ row ++ copied ∷ [] → copied ≡ value
    → (rest : List Datum) → AreUnread new rest → IsRecord bytes (more ++ rest)
copied_more bytes old new row more copied value front read is same rest unread =
    subst (λ (l : List Datum). IsRecord bytes (l ++ rest)) (sym is)
    (subst (λ (l : List Datum). IsRecord bytes l) (sym (append_assoc row (copied ∷ []) rest)) (front (copied ∷ rest) ((read copied rest).1 (same, unread))))
