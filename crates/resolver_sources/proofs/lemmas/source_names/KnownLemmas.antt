-- The names that FROM may mention, one after another.
use Rattle.std.proofs.Common.{◌≡◌, ◌<◌, ◌+◌, ℕ, Bool, true, false, if◌then◌else◌, List, ◌∷◌, Result, Ok, drop, get_or, length, map, ap, sym, ◌∙◌}
use Rattle.std.proofs.lemmas.List.{at_drop_more}
use Rattle.std.specs.Str.{str_eq_ignore_ascii_case}
use Rattle.values.specs.declared.fault.Fault.{Fault}
use Rattle.semantics_names.specs.Sources.{Known, known_as}
use Rattle.sql_reader_syntax.specs.Tree.{Name}

module _ {A : Type 0} (view : A → Known) (name : Name) (known : List A) (i : ℕ) (k : A) (all : Result Known Fault) (lt : i < length known) (is : k ≡ get_or known i k)
    (before : all ≡ known_as (map view (drop i known)) name) where
  step : (b : Bool) → str_eq_ignore_ascii_case ((view k).name) name ≡ b → all ≡ (if b then Ok (view k) else known_as (map view (drop (i + 1) known)) name)
  step b told =
      before
      ∙ at_drop_more (λ ks. known_as (map view ks) name) known i k lt
      ∙ ap (λ k. known_as (map view (k ∷ drop (i + 1) known)) name) (sym is)
      ∙ ap (λ t. if t then Ok (view k) else known_as (map view (drop (i + 1) known)) name) told

  pub is_found : str_eq_ignore_ascii_case ((view k).name) name ≡ true → all ≡ Ok (view k)
  is_found told = step true told

  pub is_passed : str_eq_ignore_ascii_case ((view k).name) name ≡ false → all ≡ known_as (map view (drop (i + 1) known)) name
  is_passed told = step false told
