-- A typed expression names columns that there are.
use Rattle.std.proofs.Common.{◌<◌, All, ℕ, List, [], ◌++◌, length}
use Rattle.std.proofs.lemmas.List.Elements.{All-append, All-cons, All-nil}
use Rattle.std.proofs.lemmas.Option.{slice_get_within}
use Rattle.values.specs.declared.value.Ty.{Ty}
use Rattle.values.specs.declared.value.Ty.TheVariants.{Int, Text}
use Rattle.expr.specs.Columns.{columns_of, columns_of_all, columns_of_arms}
use Rattle.expr.specs.Term.{Term, Terms, Arms, literal, column, call, arithmetic, concat, compare, is, and, or, between, among, coalesce, choice, choice_of, null_if, like, none, answer, more, no_arms, arm}
use Rattle.expr.specs.Types.{ArmsHaveTypes, HasType, HaveType}

module _ (row answers : List Ty) where
  abbrev Within : List ℕ → Type 0
  Within columns = All (λ c. c < length row) columns

  both : (xs ys : List ℕ) → Within xs → Within ys → Within (xs ++ ys)
  both xs ys left right = All-append (λ c. c < length row) xs ys left right

  mutual
    pub term_within : (t : Term) (ty : Ty) → HasType row answers t ty → Within (columns_of t)
    term_within (literal v) ty h = All-nil (λ c. c < length row)
    term_within (column i) ty h = All-cons (λ c. c < length row) i [] (slice_get_within row i h.0 h.1) (All-nil (λ c. c < length row))
    term_within (call f a) ty h = term_within a h.0 h.1
    term_within (arithmetic op a b) ty h = both (columns_of a) (columns_of b) (term_within a Int h.0) (term_within b Int h.1)
    term_within (concat a b) ty h = both (columns_of a) (columns_of b) (term_within a Text h.0) (term_within b Text h.1)
    term_within (compare op a b) ty h = both (columns_of a) (columns_of b) (term_within a h.0 h.1) (term_within b h.0 h.2)
    term_within (is a b) ty h = both (columns_of a) (columns_of b) (term_within a h.0 h.1) (term_within b h.0 h.2)
    term_within (and a b) ty h = both (columns_of a) (columns_of b) (term_within a Int h.0) (term_within b Int h.1)
    term_within (or a b) ty h = both (columns_of a) (columns_of b) (term_within a Int h.0) (term_within b Int h.1)
    term_within (between x a b) ty h =
        both (columns_of x) (columns_of a ++ columns_of b) (term_within x h.0 h.1)
        (both (columns_of a) (columns_of b) (term_within a h.0 h.2) (term_within b h.0 h.3))
    term_within (among x items) ty h = both (columns_of x) (columns_of_all items) (term_within x h.0 h.1) (terms_within items h.0 h.2)
    term_within (coalesce items) ty h = terms_within items ty h
    term_within (choice rest e) ty h = both (columns_of_arms rest) (columns_of e) (arms_within rest Int ty h.0) (term_within e ty h.1)
    term_within (choice_of x rest e) ty h =
        both (columns_of x) (columns_of_arms rest ++ columns_of e) (term_within x h.0 h.1)
        (both (columns_of_arms rest) (columns_of e) (arms_within rest h.0 ty h.2) (term_within e ty h.3))
    term_within (null_if a b) ty h = both (columns_of a) (columns_of b) (term_within a ty h.0) (term_within b ty h.1)
    term_within (like a b) ty h = both (columns_of a) (columns_of b) (term_within a Text h.0) (term_within b Text h.1)

    terms_within : (ts : Terms) (ty : Ty) → HaveType row answers ts ty → Within (columns_of_all ts)
    terms_within none ty h = All-nil (λ c. c < length row)
    terms_within (answer k) ty h = All-nil (λ c. c < length row)
    terms_within (more t ts) ty h = both (columns_of t) (columns_of_all ts) (term_within t ty h.0) (terms_within ts ty h.1)

    arms_within : (rest : Arms) (of ty : Ty) → ArmsHaveTypes row answers rest of ty → Within (columns_of_arms rest)
    arms_within no_arms of ty h = All-nil (λ c. c < length row)
    arms_within (arm c e rest) of ty h =
        both (columns_of c) (columns_of e ++ columns_of_arms rest) (term_within c of h.0)
        (both (columns_of e) (columns_of_arms rest) (term_within e ty h.1) (arms_within rest of ty h.2))
