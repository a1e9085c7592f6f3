-- Expressions whose inner queries have been answered.
use Rattle.std.proofs.Common.{◌≡◌, ℕ, zero, suc, Bool, true, false, List, [], ◌∷◌, slice_get, slice_index_or, map, Option, Some, None, refl, sym, ap, subst, ◌∙◌, arith, IsPermutation}
use Rattle.std.specs.List.{All, AllZip}
use Rattle.std.specs.Option.{option_and_then}
use Rattle.std.proofs.lemmas.List.{map-append}
use Rattle.std.proofs.lemmas.List.Sorted.{IsPermutation-cons, IsPermutation-refl}
use Rattle.values.specs.declared.value.Ty.{Ty}
use Rattle.values.specs.declared.value.Ty.TheVariants.{Int, Text}
use Rattle.expr.specs.declared.operations.kinds.Comparison.TheVariants.{Eq}
use Rattle.values.specs.Datum.{Datum}
use Rattle.expr.specs.Conjuncts.{conjuncts}
use Rattle.expr.specs.operations.Operations.{any_equal, comparison, condition, or3}
use Rattle.expr.specs.Meaning.{both, or_otherwise, run, run_all, run_arms, run_first}
use Rattle.expr.specs.Term.{Term, Terms, Arms, literal, column, call, arithmetic, concat, compare, is, and, or, between, among, coalesce, choice, choice_of, null_if, like, none, more, answer, no_arms, arm}
use Rattle.expr.specs.Types.{ArmsHaveTypes, FitsType, HasType, HaveType, IsOfType}
use Rattle.expr.specs.Leaves.{leaves_of_all, leaves_of_arms, leaves_of_firsts, place_in, with_leaves}
use Rattle.expr.specs.Names.{answers_of, answers_of_all, answers_of_arms}
use Rattle.expr.specs.declared.names.Named.TheVariants.{Answers}
use Rattle.expr.specs.Filled.{answered, filled, filled_all, filled_arms, filled_firsts, literals, unanswered, AnswersAreBags, FilledHasType, FilledIsAnswered, FillsConjuncts, PlacedIsAnswered}
use Rattle.expr.proofs.TypeLemmas.{fits_type}
use Rattle.expr.proofs.BagLemmas.{along_permutation}
use Rattle.expr.proofs.MemberLemmas.{no_names, run_literals}

-- a copy with other leaves has the copies of the conjuncts
module _ (of_column : ℕ → ℕ) (of_answer of_first : ℕ → Terms) where
  pub leaves_conjuncts : (t : Term) → conjuncts (with_leaves of_column of_answer of_first t) ≡ map (with_leaves of_column of_answer of_first) (conjuncts t)
  leaves_conjuncts (and a b) =
      rw (leaves_conjuncts a, leaves_conjuncts b) (sym (map-append (with_leaves of_column of_answer of_first) (conjuncts a) (conjuncts b)))
  leaves_conjuncts (between x a b) = refl
  leaves_conjuncts (literal v) = refl
  leaves_conjuncts (column i) = refl
  leaves_conjuncts (call f a) = refl
  leaves_conjuncts (arithmetic op a b) = refl
  leaves_conjuncts (concat a b) = refl
  leaves_conjuncts (compare op a b) = refl
  leaves_conjuncts (is a b) = refl
  leaves_conjuncts (or a b) = refl
  leaves_conjuncts (among x items) = refl
  leaves_conjuncts (coalesce items) = refl
  leaves_conjuncts (choice rest e) = refl
  leaves_conjuncts (choice_of x rest e) = refl
  leaves_conjuncts (null_if a b) = refl
  leaves_conjuncts (like a b) = refl

pub fills_conjuncts : FillsConjuncts
fills_conjuncts answers = leaves_conjuncts (λ i. i) (answered answers) unanswered

or3_turned : (a b c : Option Bool) → or3 a (or3 b c) ≡ or3 b (or3 a c)
or3_turned (Some true) (Some true) c = refl
or3_turned (Some true) (Some false) c = refl
or3_turned (Some true) None (Some true) = refl
or3_turned (Some true) None (Some false) = refl
or3_turned (Some true) None None = refl
or3_turned (Some false) (Some true) c = refl
or3_turned (Some false) (Some false) c = refl
or3_turned (Some false) None c = refl
or3_turned None (Some true) c = refl
or3_turned None (Some false) c = refl
or3_turned None None c = refl

any_equal-same : (x : Datum) (vs others : List Datum) → IsPermutation vs others → any_equal x vs ≡ any_equal x others
any_equal-same x = along_permutation (λ vs others. any_equal x vs ≡ any_equal x others)
    (λ vs. refl) (λ v vs others h. ap (or3 (comparison Eq x v)) h)
    (λ v u vs. or3_turned (comparison Eq x v) (comparison Eq x u) (any_equal x vs)) (λ vs us ws p q. p ∙ q)

-- two results of a list's values: none twice, or the same bag
abbrev Alike : Option (List Datum) → Option (List Datum) → Type 0
Alike None None = Unit {0}
Alike (Some vs) (Some others) = IsPermutation vs others
Alike None (Some others) = ⊥
Alike (Some vs) None = ⊥

alike_more : (m : Option Datum) (vs others : Option (List Datum)) → Alike vs others
    → Alike (both (λ x xs. Some (x ∷ xs)) m vs) (both (λ x xs. Some (x ∷ xs)) m others)
alike_more None vs others h = tt
alike_more (Some x) None None h = tt
alike_more (Some x) (Some vs) (Some others) h = IsPermutation-cons x vs others h
alike_more (Some x) None (Some others) h = h
alike_more (Some x) (Some vs) None h = h

alike_among : (m : Option Datum) (vs others : Option (List Datum)) → Alike vs others
    → both (λ v items. Some (condition (any_equal v items))) m vs ≡ both (λ v items. Some (condition (any_equal v items))) m others
alike_among None vs others h = refl
alike_among (Some x) None None h = refl
alike_among (Some x) (Some vs) (Some others) h = ap (λ b. Some (condition b)) (any_equal-same x vs others h)
alike_among (Some x) None (Some others) h = absurd h
alike_among (Some x) (Some vs) None h = absurd h

answer_alike : (answers others : List (List Datum)) (k : ℕ) → AllZip IsPermutation answers others
    → IsPermutation (slice_index_or answers k []) (slice_index_or others k [])
answer_alike [] [] k same = IsPermutation-refl []
answer_alike [] (o ∷ os) k same = absurd same
answer_alike (a ∷ rest) [] k same = absurd same
answer_alike (a ∷ rest) (o ∷ os) zero same = same.0
answer_alike (a ∷ rest) (o ∷ os) (suc k) same = answer_alike rest os k same.1

module _ (o : Option Datum) (row : List Datum) (answers others : List (List Datum)) (same : AllZip IsPermutation answers others) where
  mutual
    same_value : (t : Term) → run o row (filled answers t) ≡ run o row (filled others t)
    same_value (literal v) = refl
    same_value (column i) = refl
    same_value (call f a) = rw (same_value a) refl
    same_value (arithmetic op a b) = rw (same_value a, same_value b) refl
    same_value (concat a b) = rw (same_value a, same_value b) refl
    same_value (compare op a b) = rw (same_value a, same_value b) refl
    same_value (is a b) = rw (same_value a, same_value b) refl
    same_value (and a b) = rw (same_value a, same_value b) refl
    same_value (or a b) = rw (same_value a, same_value b) refl
    same_value (between x a b) = rw (same_value x, same_value a, same_value b) refl
    same_value (among x items) = rw (same_value x) (alike_among (run o row (filled others x)) _ _ (same_values items))
    same_value (coalesce items) = same_first items
    same_value (choice rest e) = rw (same_arms None rest, same_value e) refl
    same_value (choice_of x rest e) =
        rw (same_value x) (ap (λ f. option_and_then f (run o row (filled others x))) (λ i v. or_otherwise (same_arms (Some v) rest i) (same_value e i)))
    same_value (null_if a b) = rw (same_value a, same_value b) refl
    same_value (like a b) = rw (same_value a, same_value b) refl

    same_values : (ts : Terms) → Alike (run_all o row (filled_all answers ts)) (run_all o row (filled_all others ts))
    same_values none = IsPermutation-refl []
    same_values (more t ts) = rw (same_value t) (alike_more (run o row (filled others t)) _ _ (same_values ts))
    same_values (answer k) =
        rw (run_literals o row (slice_index_or answers k []), run_literals o row (slice_index_or others k [])) (answer_alike answers others k same)

    same_first : (ts : Terms) → run_first o row (filled_firsts answers ts) ≡ run_first o row (filled_firsts others ts)
    same_first none = refl
    same_first (more t ts) = rw (same_value t, same_first ts) refl
    same_first (answer k) = refl

    same_arms : (x : Option Datum) (rest : Arms) → run_arms o row x (filled_arms answers rest) ≡ run_arms o row x (filled_arms others rest)
    same_arms x no_arms = refl
    same_arms x (arm c e rest) = rw (same_value c, same_value e, same_arms x rest) refl

pub answers_are_bags : AnswersAreBags
answers_are_bags o row t answers others same = same_value o row answers others same t

-- ---- types

literals_typed : (columns answers : List Ty) (of ty : Ty) (vs : List Datum) → FitsType of ty → All (IsOfType of) vs → HaveType columns answers (literals vs) ty
literals_typed columns answers of ty [] h all = tt
literals_typed columns answers of ty (v ∷ vs) h all =
    (fits_type of ty v h (all 0 v (omega arith)), literals_typed columns answers of ty vs h (λ k d below. all (suc k) d (omega (arith, below))))

abbrev AnswerHasType : Ty → List Datum → Type 0
AnswerHasType of values = All (IsOfType of) values

answer_typed : (types : List Ty) (answers : List (List Datum)) (k : ℕ) (of : Ty) → AllZip AnswerHasType types answers → slice_get types k ≡ Some of
    → All (IsOfType of) (slice_index_or answers k [])
answer_typed [] answers k of all e = cc
answer_typed (ty ∷ types) [] k of all e = absurd all
answer_typed (ty ∷ types) (a ∷ answers) zero of all e = let found : ty ≡ of = cc in subst (λ t. All (IsOfType t) a) found all.0
answer_typed (ty ∷ types) (a ∷ answers) (suc k) of all e = answer_typed types answers k of all.1 e

module _ (columns types none_left : List Ty) (answers : List (List Datum)) (all : AllZip AnswerHasType types answers) where
  mutual
    still : (t : Term) (ty : Ty) → HasType columns types t ty → HasType columns none_left (filled answers t) ty
    still (literal v) ty h = h
    still (column i) ty h = h
    still (call f a) ty h = (h.0, still a h.0 h.1, h.2, h.3)
    still (arithmetic op a b) ty h = (still a Int h.0, still b Int h.1, h.2)
    still (concat a b) ty h = (still a Text h.0, still b Text h.1, h.2)
    still (compare op a b) ty h = (h.0, still a h.0 h.1, still b h.0 h.2, h.3)
    still (is a b) ty h = (h.0, still a h.0 h.1, still b h.0 h.2, h.3)
    still (and a b) ty h = (still a Int h.0, still b Int h.1, h.2)
    still (or a b) ty h = (still a Int h.0, still b Int h.1, h.2)
    still (between x a b) ty h = (h.0, still x h.0 h.1, still a h.0 h.2, still b h.0 h.3, h.4)
    still (among x items) ty h = (h.0, still x h.0 h.1, still_all items h.0 h.2, h.3)
    still (coalesce items) ty h = still_firsts items ty h
    still (choice rest e) ty h = (still_arms rest Int ty h.0, still e ty h.1)
    still (choice_of x rest e) ty h = (h.0, still x h.0 h.1, still_arms rest h.0 ty h.2, still e ty h.3)
    still (null_if a b) ty h = (still a ty h.0, still b ty h.1)
    still (like a b) ty h = (still a Text h.0, still b Text h.1, h.2)

    still_all : (ts : Terms) (ty : Ty) → HaveType columns types ts ty → HaveType columns none_left (filled_all answers ts) ty
    still_all none ty h = tt
    still_all (more t ts) ty h = (still t ty h.0, still_all ts ty h.1)
    still_all (answer k) ty h = literals_typed columns none_left h.0 ty _ h.2 (answer_typed types answers k h.0 all h.1)

    still_firsts : (ts : Terms) (ty : Ty) → HaveType columns types ts ty → HaveType columns none_left (filled_firsts answers ts) ty
    still_firsts none ty h = tt
    still_firsts (more t ts) ty h = (still t ty h.0, still_firsts ts ty h.1)
    still_firsts (answer k) ty h = tt

    still_arms : (rest : Arms) (of ty : Ty) → ArmsHaveTypes columns types rest of ty → ArmsHaveTypes columns none_left (filled_arms answers rest) of ty
    still_arms no_arms of ty h = tt
    still_arms (arm c e rest) of ty h = (still c of h.0, still e ty h.1, still_arms rest of ty h.2)

pub filled_has_type : FilledHasType
filled_has_type columns types none_left answers t ty all h = still columns types none_left answers all t ty h

-- ---- names

-- where no leaf names an answer, nothing does
module _ (of_column : ℕ → ℕ) (of_answer of_first : ℕ → Terms) (gone : (k : ℕ) → answers_of_all (of_answer k) ≡ [])
    (none_first : (k : ℕ) → answers_of_all (of_first k) ≡ []) where
  mutual
    pub leaves_answered : (t : Term) → answers_of (with_leaves of_column of_answer of_first t) ≡ []
    leaves_answered (literal v) = refl
    leaves_answered (column i) = refl
    leaves_answered (call f a) = leaves_answered a
    leaves_answered (arithmetic op a b) = rw (leaves_answered a, leaves_answered b) refl
    leaves_answered (concat a b) = rw (leaves_answered a, leaves_answered b) refl
    leaves_answered (compare op a b) = rw (leaves_answered a, leaves_answered b) refl
    leaves_answered (is a b) = rw (leaves_answered a, leaves_answered b) refl
    leaves_answered (and a b) = rw (leaves_answered a, leaves_answered b) refl
    leaves_answered (or a b) = rw (leaves_answered a, leaves_answered b) refl
    leaves_answered (between x a b) = rw (leaves_answered x, leaves_answered a, leaves_answered b) refl
    leaves_answered (among x items) = rw (leaves_answered x, all_answered items) refl
    leaves_answered (coalesce items) = firsts_answered items
    leaves_answered (choice rest e) = rw (arms_answered rest, leaves_answered e) refl
    leaves_answered (choice_of x rest e) = rw (leaves_answered x, arms_answered rest, leaves_answered e) refl
    leaves_answered (null_if a b) = rw (leaves_answered a, leaves_answered b) refl
    leaves_answered (like a b) = rw (leaves_answered a, leaves_answered b) refl

    all_answered : (ts : Terms) → answers_of_all (leaves_of_all of_column of_answer of_first ts) ≡ []
    all_answered none = refl
    all_answered (more t ts) = rw (leaves_answered t, all_answered ts) refl
    all_answered (answer k) = gone k

    firsts_answered : (ts : Terms) → answers_of_all (leaves_of_firsts of_column of_answer of_first ts) ≡ []
    firsts_answered none = refl
    firsts_answered (more t ts) = rw (leaves_answered t, firsts_answered ts) refl
    firsts_answered (answer k) = none_first k

    arms_answered : (rest : Arms) → answers_of_arms (leaves_of_arms of_column of_answer of_first rest) ≡ []
    arms_answered no_arms = refl
    arms_answered (arm c e rest) = rw (leaves_answered c, leaves_answered e, arms_answered rest) refl

pub filled_is_answered : FilledIsAnswered
filled_is_answered answers t =
    leaves_answered (λ i. i) (answered answers) unanswered (λ k. no_names Answers (slice_index_or answers k [])) (λ k. refl) t

pub placed_is_answered : PlacedIsAnswered
placed_is_answered read t = leaves_answered (place_in read) unanswered unanswered (λ k. refl) (λ k. refl) t
