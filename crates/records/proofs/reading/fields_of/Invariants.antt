use Rattle.std.proofs.Common.{List, ◌++◌, map, drop}
use Rattle.values.specs.Datum.{Datum, datum_of_ref}
use Rattle.records.specs.Record.{AreBodies}
use Rattle.records.proofs.BodyLemmas.{IsPlace}
use Rattle.records.proofs.reading.fields_of.Given as goal

-- what is left ends the whole, and it is where the types say
abbrev pub invariant-loop-serial : goal.invariant-loop-serial
invariant-loop-serial l = record {
  found : (more : List Datum) → AreBodies (drop l.serial-index l.types) l.rest more
      → AreBodies l.types l.bodies (map datum_of_ref l.fields.items ++ more);
  place : IsPlace l.types l.bodies l.serial-index l.rest;
}
