-- What a name stands for among the tables and the items of WITH.
use Rattle.std.proofs.Common.{◌≡◌, ◌<◌, Bool, true, false, if◌then◌else◌, ℕ, zero, suc, List, [], ◌∷◌, Ok, Err, refl, sym, subst, ◌∙◌, arith}
use Rattle.std.specs.Str.{str_eq_ignore_ascii_case}
use Rattle.values.specs.declared.fault.Fault.TheVariants.{UnknownTable}
use Rattle.sql_reader_syntax.specs.Tree.{Name}
use Rattle.semantics_names.specs.Laws.{IsFirst, IsNamedAt, IsSameInAnyCase, NameIsSource, UnknownSourceIsNone}
use Rattle.semantics_names.specs.Sources.{Known, known_as}

module _ (name : Name) where
  none_here : (known : Known) (rest : List Known) → str_eq_ignore_ascii_case known.name name ≡ false → IsNamedAt (known ∷ rest) name 0 → ⊥
  none_here known rest e (k, there, is) =
      let same : known ≡ k = cc in
      let differ : true ≡ false = sym (subst (λ k. IsSameInAnyCase k.name name) (sym same) is) ∙ e in absurd cc

  found_first : (known : List Known) (k : Known) → known_as known name ≡ Ok k → (at : ℕ) × IsFirst known name at k
  found_first [] k e = absurd cc
  found_first (known ∷ rest) k e = by (str_eq_ignore_ascii_case known.name name) refl e (found_first rest k)
    where
      first : str_eq_ignore_ascii_case known.name name ≡ false → (at : ℕ) → IsFirst rest name at k → (other : ℕ) → other < suc at → IsNamedAt (known ∷ rest) name other → ⊥
      first isn't at is zero below named = none_here known rest isn't named
      first isn't at is (suc other) below named = is.first other (omega arith) named

      by : (b : Bool) → str_eq_ignore_ascii_case known.name name ≡ b → (if b then Ok known else known_as rest name) ≡ Ok k
          → (known_as rest name ≡ Ok k → (at : ℕ) × IsFirst rest name at k) → (at : ℕ) × IsFirst (known ∷ rest) name at k
      by true is e more =
          let same : known ≡ k = cc in
          (0, record { there = cc; named = subst (λ k. IsSameInAnyCase k.name name) same is; first = λ other below. absurd (omega arith) })
      by false is e more =
          let (at, later) = more e in
          (suc at, record { there = later.there; named = later.named; first = first is at later })

  unknown : (known : List Known) → known_as known name ≡ Err UnknownTable → (at : ℕ) → IsNamedAt known name at → ⊥
  unknown [] e zero (k, there, is) = absurd cc
  unknown [] e (suc at) (k, there, is) = absurd cc
  unknown (known ∷ rest) e at is = by (str_eq_ignore_ascii_case known.name name) refl e at is (unknown rest)
    where
      by : (b : Bool) → str_eq_ignore_ascii_case known.name name ≡ b → (if b then Ok known else known_as rest name) ≡ Err UnknownTable → (at : ℕ) → IsNamedAt (known ∷ rest) name at
          → (known_as rest name ≡ Err UnknownTable → (at : ℕ) → IsNamedAt rest name at → ⊥) → ⊥
      by true same e at is more = absurd cc
      by false same e zero is more = none_here known rest same is
      by false same e (suc at) is more = more e at is

  none_known : (known : List Known) → ((at : ℕ) → IsNamedAt known name at → ⊥) → known_as known name ≡ Err UnknownTable
  none_known [] nowhere = refl
  none_known (known ∷ rest) nowhere = by (str_eq_ignore_ascii_case known.name name) refl (none_known rest (λ at is. nowhere (suc at) is))
    where
      by : (b : Bool) → str_eq_ignore_ascii_case known.name name ≡ b → known_as rest name ≡ Err UnknownTable → (if b then Ok known else known_as rest name) ≡ Err UnknownTable
      by true same more = absurd (nowhere 0 (known, refl, same))
      by false same more = more

pub name_is_source : NameIsSource
name_is_source known name k = found_first name known k

pub unknown_source_is_none : UnknownSourceIsNone
unknown_source_is_none known name = (unknown name known, none_known name known)
