-- What holds of each element, through the operations on lists.
use Rattle.std.proofs.Common.{◌≡◌, ℕ, suc, Bool, true, false, cond, List, [], ◌∷◌, ◌++◌, map, length, replicate, All, Option, Some, None, ℤ, pos, negsuc, refl, ap, arith}
use Rattle.std.specs.List.{AllZip, filter, flat_map, list_any}
use Rattle.std.proofs.lemmas.List.Elements.{All-append, All-cons, All-drop, All-filter, All-map, All-nil, All-replicate, All-take, All-weaker}
use Rattle.values.specs.Row.{Row}
use Rattle.semantics.specs.Query.{JoinKind, Operator}
use Rattle.semantics.specs.Times.{combined, once, rule_of, same_row, times}
use Rattle.semantics.specs.Joins.{join, nulls, pads_left, pads_right, when}
use Rattle.semantics.specs.Body.{distinct}
use Rattle.semantics.specs.Answer.{limited, skipped}

pub length_all_zip : {A B : Type 0} (R : A → B → Type 0) (xs : List A) (ys : List B) → AllZip R xs ys → length xs ≡ length ys
length_all_zip R [] [] all = refl
length_all_zip R [] (y ∷ ys) all = absurd all
length_all_zip R (x ∷ xs) [] all = absurd all
length_all_zip R (x ∷ xs) (y ∷ ys) all = ap suc (length_all_zip R xs ys all.1)

pub AllZip-both : {A B : Type 0} (R : A → B → Type 0) (xs others : List A) (ys rest : List B) → AllZip R xs ys → AllZip R others rest → AllZip R (xs ++ others) (ys ++ rest)
AllZip-both R [] others [] rest p q = q
AllZip-both R [] others (y ∷ ys) rest p q = absurd p
AllZip-both R (x ∷ xs) others [] rest p q = absurd p
AllZip-both R (x ∷ xs) others (y ∷ ys) rest p q = (p.0, AllZip-both R xs others ys rest p.1 q)

pub All-everywhere : {X : Type 0} (P : X → Type 0) → ((x : X) → P x) → (xs : List X) → All P xs
All-everywhere P all xs k d below = all _

pub All-flat_map : {A B : Type 0} (P : B → Type 0) (f : A → List B) (xs : List A) → All (λ x. All P (f x)) xs → All P (flat_map f xs)
All-flat_map P f [] all = All-nil P
All-flat_map P f (x ∷ xs) all =
    All-append P (f x) (flat_map f xs) (all 0 x (omega arith)) (All-flat_map P f xs (λ k d below. all (suc k) d (omega (arith, below))))

pub All-when : (P : Row → Type 0) (b : Bool) (xs : List Row) → (b ≡ true → All P xs) → All P (when b xs)
All-when P true xs all = all refl
All-when P false xs all = All-nil P

pub All-once : (P : Row → Type 0) (xs : List Row) → All P xs → All P (once xs)
All-once P [] all = All-nil P
All-once P (x ∷ xs) all =
    let rest : All P (once xs) = All-once P xs (λ k d below. all (suc k) d (omega (arith, below))) in
    elim (list_any (same_row x) xs) as (λ b. All P (cond b (once xs) (x ∷ once xs)))
    [ true ↦ rest | false ↦ All-cons P x (once xs) (all 0 x (omega arith)) rest ]

pub All-distinct : (P : Row → Type 0) (b : Bool) (xs : List Row) → All P xs → All P (distinct b xs)
All-distinct P true xs all = All-once P xs all
All-distinct P false xs all = all

pub All-combined : (P : Row → Type 0) (operator : Operator) (xs ys : List Row) → All P xs → All P ys → All P (combined operator xs ys)
All-combined P operator xs ys p q =
    All-flat_map P (λ row. replicate (rule_of operator (times row xs) (times row ys)) row) (once (xs ++ ys))
    (All-weaker P (λ row. All P (replicate (rule_of operator (times row xs) (times row ys)) row))
    (λ row one. All-replicate P _ row one) (once (xs ++ ys)) (All-once P (xs ++ ys) (All-append P xs ys p q)))

pub All-limited : {X : Type 0} (P : X → Type 0) (limit : Option ℤ) (xs : List X) → All P xs → All P (limited limit xs)
All-limited P None xs all = all
All-limited P (Some (pos n)) xs all = All-take P n xs all
All-limited P (Some (negsuc n)) xs all = all

pub All-skipped : {X : Type 0} (P : X → Type 0) (offset : ℤ) (xs : List X) → All P xs → All P (skipped offset xs)
All-skipped P (pos n) xs all = All-drop P n xs all
All-skipped P (negsuc n) xs all = all

-- what holds of each left row and of each right row, of NULLs too, makes what holds of each row of a join
pub All-join : (P Q S : Row → Type 0) → ((l r : Row) → P l → Q r → S (l ++ r)) → (kind : JoinKind) (m n : ℕ) (on : Row → Row → Bool) (ls rs : List Row)
    → P (nulls m) → Q (nulls n) → All P ls → All Q rs → All S (join kind m n on ls rs)
All-join P Q S both kind m n on ls rs left_nulls right_nulls left_all right_all =
    All-append S _ _
    (All-append S _ _
    (All-flat_map S (λ l. map (λ r. l ++ r) (filter (on l) rs)) ls
    (All-weaker P (λ l. All S (map (λ r. l ++ r) (filter (on l) rs)))
    (λ l is. All-map S (λ r. l ++ r) _ (All-filter (on l) (λ r. S (l ++ r)) rs (All-weaker Q (λ r. S (l ++ r)) (λ r too. both l r is too) rs right_all)))
    ls left_all))
    (All-when S (pads_right kind) _
    (λ pads. All-map S (λ l. l ++ nulls n) _ (All-filter _ (λ l. S (l ++ nulls n)) ls
    (All-weaker P (λ l. S (l ++ nulls n)) (λ l is. both l (nulls n) is right_nulls) ls left_all)))))
    (All-when S (pads_left kind) _
    (λ pads. All-map S (λ r. nulls m ++ r) _ (All-filter _ (λ r. S (nulls m ++ r)) rs
    (All-weaker Q (λ r. S (nulls m ++ r)) (λ r too. both (nulls m) r left_nulls too) rs right_all))))
