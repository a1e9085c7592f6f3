-- What a row has of an object.
use Rattle.std.proofs.Common.{◌≡◌, ℕ, ℤ, pos, ◌<◌, List, [], ◌∷◌, codes, length, get_or, map, slice_get, Option, Some, option_map, refl, sym, ap, ◌∙◌, arith}
use Rattle.std.proofs.lemmas.Option.{slice_get-get_or, slice_get-map}
use Rattle.values.specs.Datum.{Datum, datum_of, int, text}
use Rattle.values.specs.Row.{Row}
use Rattle.values.specs.declared.value.Value.{Value}
use Rattle.schema.specs.declared.objects.Kind.{Kind}
use Rattle.schema.specs.declared.objects.Kind.TheVariants as k
use Rattle.schema.specs.Objects.{ObjectData, int_or_null, kind_name, object_row, text_or_null}

module _ (values : List Value) (row : Row) (same : map datum_of values ≡ row) (i : ℕ) (x : Value) (within : i < length values)
    (is : x ≡ get_or values i x) where
  -- a value of a row is what stands at its place
  pub value_is : (d : Datum) → slice_get row i ≡ Some d → datum_of x ≡ d
  value_is d at =
      let stands : slice_get values i ≡ Some x = slice_get-get_or values i x within ∙ ap Some (sym is) in
      let there : slice_get row i ≡ Some (datum_of x) =
      ap (λ r. slice_get r i) (sym same) ∙ (slice_get-map datum_of values i ∙ ap (option_map datum_of) stands) in
      let both : Some (datum_of x) ≡ Some d = sym there ∙ at in cc

-- a value that is none of those that an object's row has there
module _ (values : List Value) (row : Row) (same : map datum_of values ≡ row) (x : Value) where
  pub no_kind : (word : List ℕ) → 0 < length values → x ≡ get_or values 0 x → datum_of x ≡ text word
      → ((kind : Kind) → ¬ (word ≡ kind_name kind)) → (object : ObjectData) → ¬ (row ≡ object_row object)
  no_kind word within is told none object e =
      let there : text word ≡ text (kind_name object.kind) =
      sym told ∙ value_is values row same 0 x within is (text (kind_name object.kind)) (ap (λ r. slice_get r 0) e) in
      none object.kind cc

  pub no_number : 3 < length values → x ≡ get_or values 3 x → ((number : Option ℤ) → ¬ (datum_of x ≡ int_or_null number))
      → (object : ObjectData) → ¬ (row ≡ object_row object)
  no_number within is none object e =
      none object.root (value_is values row same 3 x within is (int_or_null object.root) (ap (λ r. slice_get r 3) e))

  pub no_text : 4 < length values → x ≡ get_or values 4 x → ((content : Option (List ℕ)) → ¬ (datum_of x ≡ text_or_null content))
      → (object : ObjectData) → ¬ (row ≡ object_row object)
  no_text within is none object e =
      none object.sql (value_is values row same 4 x within is (text_or_null object.sql) (ap (λ r. slice_get r 4) e))

-- an object's row is that of one kind
same_kind : (a b : Kind) → kind_name a ≡ kind_name b → a ≡ b
same_kind k.Table k.Table e = refl
same_kind k.Index k.Index e = refl
same_kind k.View k.View e = refl
same_kind k.Trigger k.Trigger e = refl
same_kind k.Table k.Index e = let first : 116 ≡ 105 = ap (λ l. get_or l 0 0) e in absurd (omega (arith, first))
same_kind k.Index k.Table e = let first : 105 ≡ 116 = ap (λ l. get_or l 0 0) e in absurd (omega (arith, first))
same_kind _ _ e = let size = ap length e in absurd (omega (arith, size))

module _ (a b : ObjectData) (same : object_row a ≡ object_row b) where
  pub one_kind : a.kind ≡ b.kind
  one_kind =
      let there : Some (text (kind_name a.kind)) ≡ Some (text (kind_name b.kind)) = ap (λ r. slice_get r 0) same in
      same_kind a.kind b.kind cc

  pub one_name : a.name ≡ b.name
  one_name = let there : Some (text a.name) ≡ Some (text b.name) = ap (λ r. slice_get r 1) same in cc

-- the row of a table, by its parts
pub table_row : (o : ObjectData) (root : ℕ) (sql : List ℕ) → o.kind ≡ k.Table → o.root ≡ Some (pos root) → o.sql ≡ Some sql
    → object_row o ≡ text (codes "table") ∷ text o.name ∷ text o.owner ∷ int (pos root) ∷ text sql ∷ []
table_row o root sql kind_is root_is sql_is =
    ap (λ kind. text (kind_name kind) ∷ text o.name ∷ text o.owner ∷ int_or_null o.root ∷ text_or_null o.sql ∷ []) kind_is
    ∙ (ap (λ r. text (codes "table") ∷ text o.name ∷ text o.owner ∷ int_or_null r ∷ text_or_null o.sql ∷ []) root_is
    ∙ ap (λ s. text (codes "table") ∷ text o.name ∷ text o.owner ∷ int (pos root) ∷ text_or_null s ∷ []) sql_is)

-- the parts of a row that says a table
pub table_parts : (o : ObjectData) (name owner sql : List ℕ) (root : ℤ)
    → object_row o ≡ text (codes "table") ∷ text name ∷ text owner ∷ int root ∷ text sql ∷ []
    → (o.kind ≡ k.Table) × (o.name ≡ name)
table_parts o name owner sql root same =
    let there : Some (text (kind_name o.kind)) ≡ Some (text (codes "table")) = ap (λ r. slice_get r 0) same in
    let names : Some (text o.name) ≡ Some (text name) = ap (λ r. slice_get r 1) same in
    (same_kind o.kind k.Table cc, cc)
