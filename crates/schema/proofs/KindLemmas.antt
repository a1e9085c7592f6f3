-- The objects of rows, and their kinds.
use Rattle.std.proofs.Common.{◌≡◌, ℕ, ℤ, pos, inl, inr, List, slice_get, Option, None, Some, refl, sym, ap, ◌∙◌, subst}
use Rattle.values.specs.Datum.{text}
use Rattle.values.specs.Row.{Row}
use Rattle.schema.specs.indexes.IndexData.{IndexData}
use Rattle.schema_keys.specs.Rows.{SaysTable}
use Rattle.schema_tables.specs.TableData.{TableData}
use Rattle.schema.specs.Objects.{ObjectData, int_or_null, object_row, text_or_null}
use Rattle.schema.specs.Says.{IsNoIndex, IsNoTable, IsOfKind, IsTrigger, SaysAnyIndex, SaysKeyIndex}
use Rattle.schema.specs.declared.objects.Kind.{Kind}
use Rattle.schema.specs.declared.objects.Kind.TheVariants as k
use Rattle.schema.proofs.ObjectLemmas.{one_kind, one_name}

-- ---- An object's row is that of one object

same_root : (a b : Option ℤ) → int_or_null a ≡ int_or_null b → a ≡ b
same_root None None e = refl
same_root None (Some b) e = absurd cc
same_root (Some a) None e = absurd cc
same_root (Some a) (Some b) e = cc

same_text : (a b : Option (List ℕ)) → text_or_null a ≡ text_or_null b → a ≡ b
same_text None None e = refl
same_text None (Some b) e = absurd cc
same_text (Some a) None e = absurd cc
same_text (Some a) (Some b) e = cc

pub one_object : (a b : ObjectData) → object_row a ≡ object_row b → a ≡ b
one_object a b same =
    let kind : a.kind ≡ b.kind = one_kind a b same in
    let name : a.name ≡ b.name = one_name a b same in
    let owners : Some (text a.owner) ≡ Some (text b.owner) = ap (λ r. slice_get r 2) same in
    let owner : a.owner ≡ b.owner = cc in
    let roots : Some (int_or_null a.root) ≡ Some (int_or_null b.root) = ap (λ r. slice_get r 3) same in
    let root : a.root ≡ b.root = same_root a.root b.root cc in
    let texts : Some (text_or_null a.sql) ≡ Some (text_or_null b.sql) = ap (λ r. slice_get r 4) same in
    let sql : a.sql ≡ b.sql = same_text a.sql b.sql cc in
    λ i. record { kind = kind i; name = name i; owner = owner i; root = root i; sql = sql i }

-- the object of a row that says a table
abbrev pub object_of : {pages : ℕ} {row : Row} {t : TableData} → SaysTable pages row t → ObjectData
object_of {t = t} says = record {
  kind = k.Table;
  name = says.name;
  owner = says.owner;
  root = Some (pos t.root);
  sql = Some says.sql;
}

-- the kind of an object whose row is of a kind
pub kind_of : (o : ObjectData) (kind : Kind) → IsOfKind kind (object_row o) → o.kind ≡ kind
kind_of o kind is = one_kind o is.object is.row_is ∙ is.kind_is

pub trigger_kind : (o : ObjectData) → IsTrigger (object_row o) → o.kind ≡ k.Trigger
trigger_kind o is = one_kind o is.object is.row_is ∙ is.kind_is

pub table_kind : (pages : ℕ) (o : ObjectData) (t : TableData) → SaysTable pages (object_row o) t → o.kind ≡ k.Table
table_kind pages o t says = one_kind o (object_of says) says.row_is

pub table_apart : (pages : ℕ) (row : Row) (t : TableData) → SaysTable pages row t → ¬ IsNoTable row
table_apart pages row t says (inl index) =
    let kind = kind_of (object_of says) k.Index (subst (IsOfKind k.Index) says.row_is index) in cc
table_apart pages row t says (inr trigger) =
    let kind = trigger_kind (object_of says) (subst IsTrigger says.row_is trigger) in cc

key_kind : (pages : ℕ) (rows : List Row) (row : Row) (x : IndexData) (says : SaysKeyIndex pages rows row x) (kind : Kind) → IsOfKind kind row
    → kind ≡ k.Index
key_kind pages rows row x says kind is =
    sym is.kind_is ∙ (one_kind is.object says.key_row.object (sym is.row_is ∙ says.key_row.row_is) ∙ says.key_row.kind_is)

pub index_apart : (pages : ℕ) (rows : List Row) (tables : List TableData) (row : Row) (x : IndexData) → SaysAnyIndex pages rows tables row x
    → ¬ IsNoIndex row
index_apart pages rows tables row x (inl says) (inl table) =
    let kind = kind_of says.object k.Table (subst (IsOfKind k.Table) says.row_is table) in let is = says.kind_is in cc
index_apart pages rows tables row x (inl says) (inr trigger) =
    let kind = kind_of says.object k.Trigger (subst (IsOfKind k.Trigger) says.row_is trigger) in let is = says.kind_is in cc
index_apart pages rows tables row x (inr says) (inl table) = let kind = key_kind pages rows row x says k.Table table in cc
index_apart pages rows tables row x (inr says) (inr trigger) = let kind = key_kind pages rows row x says k.Trigger trigger in cc
