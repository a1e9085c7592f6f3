-- Names, one after another.
use Rattle.std.proofs.Common.{◌≡◌, ◌<◌, ◌+◌, ℕ, Bool, true, false, ◌||◌, List, ◌∷◌, drop, get_or, length, map, ap, sym, ◌∙◌}
use Rattle.std.proofs.lemmas.List.{at_drop_more}
use Rattle.std.specs.Str.{str_eq_ignore_ascii_case}
use Rattle.semantics_names.specs.Statement.{is_among}
use Rattle.sql_reader_syntax.specs.Tree.{Name}

module _ {A : Type 0} (view : A → Name) (name : Name) (names : List A) (i : ℕ) (other : A) (all : Bool) (lt : i < length names)
    (is : other ≡ get_or names i other) (before : all ≡ is_among name (map view (drop i names))) where
  step : (b : Bool) → str_eq_ignore_ascii_case (view other) name ≡ b → all ≡ (b || is_among name (map view (drop (i + 1) names)))
  step b told =
      before
      ∙ at_drop_more (λ ns. is_among name (map view ns)) names i other lt
      ∙ ap (λ n. is_among name (map view (n ∷ drop (i + 1) names))) (sym is)
      ∙ ap (λ t. t || is_among name (map view (drop (i + 1) names))) told

  pub is_found : str_eq_ignore_ascii_case (view other) name ≡ true → all ≡ true
  is_found told = step true told

  pub is_passed : str_eq_ignore_ascii_case (view other) name ≡ false → all ≡ is_among name (map view (drop (i + 1) names))
  is_passed told = step false told
