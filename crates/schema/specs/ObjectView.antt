-- What the program's objects are.
use Rattle.std.specs.Prelude.{option_map}
use Rattle.schema.specs.Objects.{ObjectData}
use Rattle.schema.specs.declared.objects.Object.{Object}

abbrev pub object_data : Object → ObjectData
object_data o = record {
  kind = o.kind;
  name = o.name.now;
  owner = o.owner.now;
  root = o.root;
  sql = option_map (λ t. t.now) o.sql;
}
