-- The rows of the schema. (The Schema Table)
use Rattle.std.specs.Prelude.{ℕ, ℤ, List, [], ◌∷◌, Option, None, Some, codes}
use Rattle.values.specs.Datum.{Datum, int, null, text}
use Rattle.values.specs.Row.{Row}
use Rattle.sql_reader_syntax.specs.Tree.{Name}
use Rattle.schema.specs.declared.objects.Kind.{Kind}
use Rattle.schema.specs.declared.objects.Kind.TheVariants as k

-- what a row has of an object: what it is, its name, the name of its table, the page at the root of its tree, and its text
pub record ObjectData : Type 0 where
  pub kind : Kind
  pub name : Name
  pub owner : Name
  pub root : Option ℤ
  pub sql : Option (List ℕ)

-- the word for what an object is
abbrev pub kind_name : Kind → List ℕ
kind_name k.Table = codes "table"
kind_name k.Index = codes "index"
kind_name k.View = codes "view"
kind_name k.Trigger = codes "trigger"

abbrev pub int_or_null : Option ℤ → Datum
int_or_null None = null
int_or_null (Some number) = int number

abbrev pub text_or_null : Option (List ℕ) → Datum
text_or_null None = null
text_or_null (Some content) = text content

-- the row of an object
abbrev pub object_row : ObjectData → Row
object_row object =
    text (kind_name object.kind) ∷ text object.name ∷ text object.owner ∷ int_or_null object.root ∷ text_or_null object.sql ∷ []
