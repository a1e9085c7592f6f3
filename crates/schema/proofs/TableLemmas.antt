-- Tables of one name.
use Rattle.std.proofs.Common.{◌≡◌, ℕ, ◌<◌, ◌⊎◌, inl, inr, Contains, List, map, slice_get, Some, sym, ap, ◌∙◌, subst}
use Rattle.std.proofs.lemmas.Bool.{cases_order}
use Rattle.std.proofs.lemmas.Option.{slice_get-get_or}
use Rattle.std.specs.Char.{to_ascii_lowercase}
use Rattle.values.specs.Row.{Row}
use Rattle.schema_keys.proofs.OneLemmas.{one_table}
use Rattle.schema_keys.specs.Names.{IsSameName}
use Rattle.schema_keys.specs.Rows.{SaysTable}
use Rattle.schema_tables.specs.TableData.{TableData}
use Rattle.schema.specs.Says.{Doubled}
use Rattle.schema.proofs.KindLemmas.{object_of}

stands_at : (rows : List Row) (row : Row) (at : Contains rows row) → slice_get rows at.0 ≡ Some row
stands_at rows row (i, within, is) = slice_get-get_or rows i row within ∙ ap Some is

-- a table's row has its name
pub row_name : {pages : ℕ} {row : Row} {t : TableData} → (says : SaysTable pages row t) → IsSameName says.name t.name
row_name says = says.name_is ∙ sym (ap (map to_ascii_lowercase) says.created.name_is)

module _ (pages : ℕ) (rows : List Row) (apart : ¬ Doubled rows) where
  doubled : (i j : ℕ) (first second : Row) (a b : TableData) → i < j → slice_get rows i ≡ Some first → slice_get rows j ≡ Some second
      → SaysTable pages first a → SaysTable pages second b → IsSameName a.name b.name → Doubled rows
  doubled i j first second a b less p q x y same = record {
    first = i;
    second = j;
    before = less;
    one = object_of x;
    other = object_of y;
    one_is = p ∙ ap Some x.row_is;
    other_is = q ∙ ap Some y.row_is;
    one_has_tree = tt;
    other_has_tree = tt;
    same = row_name x ∙ (same ∙ sym (row_name y));
  }

  pub same_row : (first second : Row) (a b : TableData) → Contains rows first → Contains rows second → SaysTable pages first a
      → SaysTable pages second b → IsSameName a.name b.name → second ≡ first
  same_row first second a b p q x y same = go (cases_order p.0 q.0)
    where
      go : (p.0 ≡ q.0) ⊎ ((p.0 < q.0) ⊎ (q.0 < p.0)) → second ≡ first
      go (inl e) =
          let here = stands_at rows first p in
          let there = stands_at rows second q in
          let both : Some first ≡ Some second = sym here ∙ (ap (slice_get rows) e ∙ there) in
          cc
      go (inr (inl less)) =
          absurd (apart (doubled p.0 q.0 first second a b less (stands_at rows first p) (stands_at rows second q) x y same))
      go (inr (inr less)) =
          absurd (apart (doubled q.0 p.0 second first b a less (stands_at rows second q) (stands_at rows first p) y x (sym same)))

  pub same_table : (first second : Row) (a b : TableData) → Contains rows first → Contains rows second → SaysTable pages first a
      → SaysTable pages second b → IsSameName a.name b.name → a ≡ b
  same_table first second a b p q x y same =
      one_table pages first a b x (subst (λ r. SaysTable pages r b) (same_row first second a b p q x y same) y)
