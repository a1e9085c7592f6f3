use Rattle.records_tables.proofs.key_reader.KeyReader.go_back.Goals as goal

pub returns-in_default-clause-none : goal.returns-in_default-clause-none
returns-in_default-clause-none c = rw (← c.self.view_is) (λ no row is. c.in_default.ensures.none is.values is.record_is)
