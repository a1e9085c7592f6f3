-- Types of which each may stand for that of another list: what is NULL alone stands for every type.
use Rattle.std.proofs.Common.{◌≡◌, ℕ, zero, suc, List, [], ◌∷◌, length, Option, Some, None, refl, sym, ap, subst, ◌∙◌, arith, inl, inr}
use Rattle.std.specs.List.{AllZip}
use Rattle.values.specs.declared.value.Ty.{Ty}
use Rattle.values.specs.declared.value.Ty.TheVariants.{Int, Text, Blob, Null}
use Rattle.expr.proofs.TermTypeLemmas.{types_are_found}
use Rattle.expr.specs.Term.{Term, Terms, Arms, literal, column, call, arithmetic, concat, compare, is, and, or, between, among, coalesce, choice, choice_of, null_if, like, none, more, answer, no_arms, arm}
use Rattle.expr.specs.TermType.{Finds, type_of_term}
use Rattle.expr.specs.Types.{ArmsHaveTypes, FitsAt, FitsType, HasType, HaveType}

abbrev pub Finer : List Ty → List Ty → Type 0
Finer = AllZip FitsType

fits_chain : (a b c : Ty) → FitsType a b → FitsType b c → FitsType a c
fits_chain a b c (inl null) q = inl null
fits_chain a b c (inr same) (inl null) = inl (same ∙ null)
fits_chain a b c (inr same) (inr last) = inr (same ∙ last)

pub finer_self : (ts : List Ty) → Finer ts ts
finer_self [] = tt
finer_self (t ∷ ts) = (inr refl, finer_self ts)

pub finer_chain : (ts us vs : List Ty) → Finer ts us → Finer us vs → Finer ts vs
finer_chain [] [] [] p q = tt
finer_chain [] [] (v ∷ vs) p q = absurd q
finer_chain [] (u ∷ us) vs p q = absurd p
finer_chain (t ∷ ts) [] vs p q = absurd p
finer_chain (t ∷ ts) (u ∷ us) [] p q = absurd q
finer_chain (t ∷ ts) (u ∷ us) (v ∷ vs) p q = (fits_chain t u v p.0 q.0, finer_chain ts us vs p.1 q.1)

fits_at : (ts us : List Ty) (i : ℕ) (ty : Ty) → Finer ts us → FitsAt us i ty → FitsAt ts i ty
fits_at [] [] i ty all (of, got, fits) = absurd cc
fits_at [] (u ∷ us) i ty all at = absurd all
fits_at (t ∷ ts) [] i ty all at = absurd all
fits_at (t ∷ ts) (u ∷ us) zero ty all (of, got, fits) =
    let same : u ≡ of = cc in (t, refl, fits_chain t u ty all.0 (subst (λ x. FitsType x ty) (sym same) fits))
fits_at (t ∷ ts) (u ∷ us) (suc i) ty all (of, got, fits) = fits_at ts us i ty all.1 (of, got, fits)

-- over finer types of columns and answers an expression has the types that it had
module _ (columns columns' answers answers' : List Ty) (finer : Finer columns' columns) (alike : Finer answers' answers) where
  mutual
    pub finer_term : (t : Term) (ty : Ty) → HasType columns answers t ty → HasType columns' answers' t ty
    finer_term (literal v) ty h = h
    finer_term (column i) ty h = fits_at columns' columns i ty finer h
    finer_term (call f a) ty h = (h.0, finer_term a h.0 h.1, h.2, h.3)
    finer_term (arithmetic op a b) ty h = (finer_term a Int h.0, finer_term b Int h.1, h.2)
    finer_term (concat a b) ty h = (finer_term a Text h.0, finer_term b Text h.1, h.2)
    finer_term (compare op a b) ty h = (h.0, finer_term a h.0 h.1, finer_term b h.0 h.2, h.3)
    finer_term (is a b) ty h = (h.0, finer_term a h.0 h.1, finer_term b h.0 h.2, h.3)
    finer_term (and a b) ty h = (finer_term a Int h.0, finer_term b Int h.1, h.2)
    finer_term (or a b) ty h = (finer_term a Int h.0, finer_term b Int h.1, h.2)
    finer_term (between x a b) ty h = (h.0, finer_term x h.0 h.1, finer_term a h.0 h.2, finer_term b h.0 h.3, h.4)
    finer_term (among x items) ty h = (h.0, finer_term x h.0 h.1, finer_all items h.0 h.2, h.3)
    finer_term (coalesce items) ty h = finer_all items ty h
    finer_term (choice rest e) ty h = (finer_arms rest Int ty h.0, finer_term e ty h.1)
    finer_term (choice_of x rest e) ty h = (h.0, finer_term x h.0 h.1, finer_arms rest h.0 ty h.2, finer_term e ty h.3)
    finer_term (null_if a b) ty h = (finer_term a ty h.0, finer_term b ty h.1)
    finer_term (like a b) ty h = (finer_term a Text h.0, finer_term b Text h.1, h.2)

    finer_all : (ts : Terms) (ty : Ty) → HaveType columns answers ts ty → HaveType columns' answers' ts ty
    finer_all none ty h = tt
    finer_all (more t ts) ty h = (finer_term t ty h.0, finer_all ts ty h.1)
    finer_all (answer k) ty h = fits_at answers' answers k ty alike h

    finer_arms : (rest : Arms) (of ty : Ty) → ArmsHaveTypes columns answers rest of ty → ArmsHaveTypes columns' answers' rest of ty
    finer_arms no_arms of ty h = tt
    finer_arms (arm c e rest) of ty h = (finer_term c of h.0, finer_term e ty h.1, finer_arms rest of ty h.2)

-- ---- the type that may stand for two

abbrev pub meet : Ty → Ty → Ty
meet Int Int = Int
meet Text Text = Text
meet Blob Blob = Blob
meet _ _ = Null

abbrev pub meets : List Ty → List Ty → List Ty
meets [] us = []
meets (t ∷ ts) [] = t ∷ ts
meets (t ∷ ts) (u ∷ us) = meet t u ∷ meets ts us

meet_left : (a b : Ty) → FitsType (meet a b) a
meet_left Int Int = inr refl
meet_left Int Text = inl refl
meet_left Int Blob = inl refl
meet_left Int Null = inl refl
meet_left Text Int = inl refl
meet_left Text Text = inr refl
meet_left Text Blob = inl refl
meet_left Text Null = inl refl
meet_left Blob Int = inl refl
meet_left Blob Text = inl refl
meet_left Blob Blob = inr refl
meet_left Blob Null = inl refl
meet_left Null Int = inl refl
meet_left Null Text = inl refl
meet_left Null Blob = inl refl
meet_left Null Null = inr refl

meet_right : (a b : Ty) → FitsType (meet a b) b
meet_right Int Int = inr refl
meet_right Int Text = inl refl
meet_right Int Blob = inl refl
meet_right Int Null = inl refl
meet_right Text Int = inl refl
meet_right Text Text = inr refl
meet_right Text Blob = inl refl
meet_right Text Null = inl refl
meet_right Blob Int = inl refl
meet_right Blob Text = inl refl
meet_right Blob Blob = inr refl
meet_right Blob Null = inl refl
meet_right Null Int = inl refl
meet_right Null Text = inl refl
meet_right Null Blob = inl refl
meet_right Null Null = inr refl

meet_self : (a : Ty) → meet a a ≡ a
meet_self Int = refl
meet_self Text = refl
meet_self Blob = refl
meet_self Null = refl

pub meets_self : (ts : List Ty) → meets ts ts ≡ ts
meets_self [] = refl
meets_self (t ∷ ts) = rw (meet_self t, meets_self ts) refl

pub finer_left : (ts us : List Ty) → Finer (meets ts us) ts
finer_left [] us = tt
finer_left (t ∷ ts) [] = finer_self (t ∷ ts)
finer_left (t ∷ ts) (u ∷ us) = (meet_left t u, finer_left ts us)

pub finer_right : (ts us : List Ty) → length ts ≡ length us → Finer (meets ts us) us
finer_right [] [] long = tt
finer_right [] (u ∷ us) long = absurd (omega (arith, long))
finer_right (t ∷ ts) [] long = absurd (omega (arith, long))
finer_right (t ∷ ts) (u ∷ us) long = (meet_right t u, finer_right ts us (omega (arith, long)))

fits_meet : (f a b : Ty) → FitsType f a → FitsType f b → FitsType f (meet a b)
fits_meet f a b (inl null) q = inl null
fits_meet f a b (inr same) (inl null) = inl null
fits_meet f a b (inr p) (inr q) = inr (p ∙ sym (meet_self a) ∙ ap (meet a) (sym p ∙ q))

found_meet : (m : Option Ty) (a b : Ty) → Finds m a → Finds m b → Finds m (meet a b)
found_meet None a b p q = absurd p
found_meet (Some f) a b p q = fits_meet f a b p q

-- an expression of two types is of the one that may stand for both
pub term_meet : (columns answers : List Ty) (t : Term) (a b : Ty) → HasType columns answers t a → HasType columns answers t b
    → HasType columns answers t (meet a b)
term_meet columns answers t a b p q =
    (types_are_found columns answers t (meet a b)).1
    (found_meet (type_of_term columns answers t) a b ((types_are_found columns answers t a).0 p) ((types_are_found columns answers t b).0 q))
