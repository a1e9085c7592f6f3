-- The fields of a record that are still to be read. (Database File Format, section 2.1)
use Rattle.std.specs.Prelude.{ℕ, ℤ, List}
use Rattle.values.specs.Datum.{Datum}
use Rattle.records.specs.Record.{AreBodies, AreTypes}

-- the bytes that spell the types of these fields, and the bytes that are their bodies
pub record Unread : Type 0 where
  pub spelt : List ℕ
  pub bodies : List ℕ

-- the fields are these values
pub record AreUnread (unread : Unread) (values : List Datum) : Type 0 where
  pub types : List ℤ
  pub are_types : AreTypes unread.spelt types
  pub are_bodies : AreBodies types unread.bodies values
