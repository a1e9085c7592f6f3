-- The result columns of a name, one after another.
use Rattle.std.proofs.Common.{◌≡◌, ◌<◌, ◌+◌, ℕ, suc, Bool, true, false, if◌then◌else◌, List, ◌∷◌, drop, get_or, length, map, ap, sym, ◌∙◌, add-one}
use Rattle.std.proofs.lemmas.List.{at_drop_more}
use Rattle.std.specs.Str.{str_eq_ignore_ascii_case}
use Rattle.semantics_names.specs.Statement.{named_at}
use Rattle.sql_reader_syntax.specs.Tree.{Name}

module _ {A : Type 0} (f : A → Name) (name : Name) (names : List A) (at : ℕ) (n : A) (all : List ℕ) (lt : at < length names) (is : n ≡ get_or names at n)
    (before : all ≡ named_at name at (map f (drop at names))) where
  step : (b : Bool) → str_eq_ignore_ascii_case (f n) name ≡ b
      → all ≡ (if b then at ∷ named_at name (suc at) (map f (drop (at + 1) names)) else named_at name (suc at) (map f (drop (at + 1) names)))
  step b told =
      before
      ∙ at_drop_more (λ ns. named_at name at (map f ns)) names at n lt
      ∙ ap (λ m. named_at name at (f m ∷ map f (drop (at + 1) names))) (sym is)
      ∙ ap (λ t. if t then at ∷ named_at name (suc at) (map f (drop (at + 1) names)) else named_at name (suc at) (map f (drop (at + 1) names))) told

  pub is_found : str_eq_ignore_ascii_case (f n) name ≡ true → all ≡ at ∷ named_at name (suc at) (map f (drop (suc at) names))
  is_found told = step true told ∙ ap (λ i. at ∷ named_at name (suc at) (map f (drop i names))) (add-one at)

  pub is_passed : str_eq_ignore_ascii_case (f n) name ≡ false → all ≡ named_at name (at + 1) (map f (drop (at + 1) names))
  is_passed told = step false told ∙ ap (λ i. named_at name i (map f (drop (at + 1) names))) (sym (add-one at))
