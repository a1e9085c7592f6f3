-- What the program's automatic indexes are.
use Rattle.schema_keys.specs.declared_keys.KeyView.{key_data}
use Rattle.schema_keys.specs.table_keys.Automatic.{AutomaticData}
use Rattle.schema_keys.specs.declared.table_keys.automatic.AutomaticIndex.{AutomaticIndex}

abbrev pub automatic_data : AutomaticIndex → AutomaticData
automatic_data index = record { number = index.number; columns = (key_data index.key.now).columns }
