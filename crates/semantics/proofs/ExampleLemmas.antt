-- The examples, computed.
use Rattle.std.proofs.Common.{◌≡◌, List, [], ◌∷◌, map, refl, inr, lit<, arith}
use Rattle.values.specs.Datum.{Datum}
use Rattle.expr.specs.operations.Functions.{call_of}
use Rattle.expr.specs.operations.Operations.{settle, same, is_null, truth, condition, test_of, comparison, arithmetic_of, of_integers}
use Rattle.expr.specs.Term.{column}
use Rattle.semantics.specs.Examples.{Examples, Show, by_column, catalog, compound_examples, group_examples, inner_examples, item_types, items, join_examples, running_sum, up, window_examples}
use Rattle.semantics.specs.Typed.{HasTypes, IsKeyTerm, IsTerm}
use Rattle.values.specs.declared.value.Ty.TheVariants.{Int, Text}
use Rattle.std.proofs.lemmas.List.Elements.{All-cons, All-nil}
use Rattle.semantics.proofs.AnswerLemmas.{answer, permitted_as}

heads : {X : Type 0} (x y : X) (xs ys : List X) → x ∷ xs ≡ y ∷ ys → x ≡ y
heads x y xs ys e = cc

tails : {X : Type 0} (x y : X) (xs ys : List X) → x ∷ xs ≡ y ∷ ys → xs ≡ ys
tails x y xs ys e = cc

-- the rows that were computed are permitted
all_show : (w : Datum) (examples : Examples) → map (λ example. answer w items example.0) examples ≡ map (λ example. example.1) examples → Show w examples
all_show w [] e = tt
all_show w (example ∷ examples) e =
    (permitted_as w items example.0 example.1 (heads _ _ _ _ e), all_show w examples (tails _ _ _ _ e))

module _ (w : Datum) where
  pub joins_show : Show w join_examples
  unfolding settle same is_null truth condition test_of comparison arithmetic_of of_integers
  joins_show = all_show w join_examples refl

  pub groups_show : Show w group_examples
  unfolding settle same is_null truth condition test_of comparison
  groups_show = all_show w group_examples refl

  pub windows_show : Show w window_examples
  unfolding settle same is_null truth condition test_of comparison
  windows_show = all_show w window_examples refl

  pub compounds_show : Show w compound_examples
  unfolding settle same is_null truth condition test_of comparison
  compounds_show = all_show w compound_examples refl

  pub inner_show : Show w inner_examples
  unfolding settle same is_null truth condition test_of comparison call_of
  inner_show = all_show w inner_examples refl

pub sums_typed : HasTypes catalog running_sum (Int ∷ Int ∷ [])
sums_typed = record {
  body = (
    [],
    item_types,
    refl,
    ([], item_types, refl, (refl, refl), refl, refl),
    (
      Int ∷ Text ∷ Int ∷ Int ∷ [],
      record {
        inputs = item_types;
        values = Int ∷ [];
        condition = refl;
        grouped = refl;
        windows = (
          (
            record {
              partition = All-nil (IsTerm [] item_types);
              order = All-cons (λ s. IsTerm [] item_types s.term) (record { term = column 2; direction = up }) [] (Int, (Int, refl, inr refl)) (All-nil _);
              frame = record {
                starts = lit< tt;
                ends = lit< tt;
                in_turn = omega arith;
                unit = λ at. (record { term = column 2; direction = up }, refl, (Int, refl, inr refl));
              };
            },
            ((Int, refl, inr refl), refl),
          ),
          tt,
        );
        types_are = refl;
      },
      ((Int, refl, inr refl), ((Int, refl, inr refl), tt)),
    ),
  );
  order = All-cons (λ key. IsKeyTerm catalog running_sum.body (Int ∷ Int ∷ []) key.by) (by_column 0) [] (lit< tt) (All-nil _);
}
