-- The computed type of an expression is sound and complete.
use Rattle.std.proofs.Common.{◌≡◌, ◌⊎◌, ℕ, List, Option, Some, None, refl, subst, inl, inr, slice_get}
use Rattle.values.specs.declared.value.Ty.{Ty}
use Rattle.values.specs.declared.value.Ty.TheVariants.{Int, Text, Blob, Null}
use Rattle.values.specs.Datum.{Datum, null, int, text, blob, type_of}
use Rattle.expr.specs.declared.operations.kinds.Function.{Function}
use Rattle.expr.specs.declared.operations.kinds.Function.TheVariants.{Neg, BitNot, Not, Abs, Length, Lower, Upper, Hex, TypeOf}
use Rattle.expr.specs.Term.{Term, Terms, Arms, literal, column, call, arithmetic, concat, compare, is, and, or, between, among, coalesce, choice, choice_of, null_if, like, none, answer, more, no_arms, arm}
use Rattle.expr.specs.Types.{ArmsHaveTypes, FitsAt, FitsType, HasType, HaveType, IsOfType, Takes, gives}
use Rattle.expr.specs.TermType.{Finds, TypesAreFound, behind, giving, of_bytes, one_of, one_type, type_of_call, type_of_term, type_of_terms, type_of_thens, type_of_whens, wanted}

-- ---- two types at once

apart : (a b ty : Ty) → (a ≡ Null → ⊥) → (b ≡ Null → ⊥) → (a ≡ b → ⊥) → FitsType a ty → FitsType b ty → ⊥
apart a b ty p q differ (inl e) there = p e
apart a b ty p q differ (inr e) (inl f) = q f
apart a b ty p q differ (inr e) (inr f) = differ cc

types_fit : (a b ty : Ty) → FitsType a ty → FitsType b ty → Finds (one_type a b) ty
types_fit Null b ty p q = q
types_fit Int Null ty p q = p
types_fit Text Null ty p q = p
types_fit Blob Null ty p q = p
types_fit Int Int ty p q = p
types_fit Text Text ty p q = p
types_fit Blob Blob ty p q = p
types_fit Int Text ty p q = apart Int Text ty (λ e. cc) (λ e. cc) (λ e. cc) p q
types_fit Int Blob ty p q = apart Int Blob ty (λ e. cc) (λ e. cc) (λ e. cc) p q
types_fit Text Int ty p q = apart Text Int ty (λ e. cc) (λ e. cc) (λ e. cc) p q
types_fit Text Blob ty p q = apart Text Blob ty (λ e. cc) (λ e. cc) (λ e. cc) p q
types_fit Blob Int ty p q = apart Blob Int ty (λ e. cc) (λ e. cc) (λ e. cc) p q
types_fit Blob Text ty p q = apart Blob Text ty (λ e. cc) (λ e. cc) (λ e. cc) p q

each_fits : (a b ty : Ty) → Finds (one_type a b) ty → FitsType a ty × FitsType b ty
each_fits Null b ty h = (inl refl, h)
each_fits Int Null ty h = (h, inl refl)
each_fits Text Null ty h = (h, inl refl)
each_fits Blob Null ty h = (h, inl refl)
each_fits Int Int ty h = (h, h)
each_fits Text Text ty h = (h, h)
each_fits Blob Blob ty h = (h, h)
each_fits Int Text ty h = absurd h
each_fits Int Blob ty h = absurd h
each_fits Text Int ty h = absurd h
each_fits Text Blob ty h = absurd h
each_fits Blob Int ty h = absurd h
each_fits Blob Text ty h = absurd h

joined : (a b : Option Ty) (ty : Ty) → Finds a ty → Finds b ty → Finds (one_of a b) ty
joined None b ty p q = p
joined (Some a) None ty p q = q
joined (Some a) (Some b) ty p q = types_fit a b ty p q

parted : (a b : Option Ty) (ty : Ty) → Finds (one_of a b) ty → Finds a ty × Finds b ty
parted None b ty h = absurd h
parted (Some a) None ty h = absurd h
parted (Some a) (Some b) ty h = each_fits a b ty h

-- ---- a type that is wanted, and one that is given

is_itself : (of ty : Ty) → (of ≡ Null → ⊥) → FitsType of ty → ty ≡ of
is_itself of ty differs (inl e) = absurd (differs e)
is_itself of ty differs (inr e) = cc

some_type : (found : Option Ty) (of ty : Ty) → Finds found ty → Finds (giving of found) of
some_type None of ty h = h
some_type (Some found) of ty h = inr refl

-- the type that was found
found_type : (found : Option Ty) (of ty : Ty) → Finds (giving of found) ty → (some : Ty) × Finds found some
found_type None of ty h = absurd h
found_type (Some found) of ty h = (found, inr refl)

given_type : (found : Option Ty) (of ty : Ty) → (of ≡ Null → ⊥) → Finds (giving of found) ty → ty ≡ of
given_type None of ty differs h = absurd h
given_type (Some found) of ty differs h = is_itself of ty differs h

is_wanted : (found : Option Ty) (of : Ty) → Finds found of → Finds (wanted of found) of
is_wanted found of h = joined (Some of) found of (inr refl) h

wanted_type : (found : Option Ty) (of ty : Ty) → (of ≡ Null → ⊥) → Finds (wanted of found) ty → Finds found of × (ty ≡ of)
wanted_type found of ty differs h =
    let parts = parted (Some of) found ty h in
    let same : ty ≡ of = is_itself of ty differs parts.0 in (subst (Finds found) same parts.1, same)

int_differs : Int ≡ Null → ⊥
int_differs e = cc

text_differs : Text ≡ Null → ⊥
text_differs e = cc

-- ---- functions

found_bytes : (found : Option Ty) (of ty : Ty) → (of ≡ Text) ⊎ (of ≡ Blob) → Finds found of → Finds (of_bytes ty found) ty
found_bytes None of ty takes h = h
found_bytes (Some Text) of ty takes h = inr refl
found_bytes (Some Blob) of ty takes h = inr refl
found_bytes (Some Null) of ty takes h = inr refl
found_bytes (Some Int) of ty (inl e) h = let same : of ≡ Int = is_itself Int of int_differs h in cc
found_bytes (Some Int) of ty (inr e) h = let same : of ≡ Int = is_itself Int of int_differs h in cc

bytes_found : (found : Option Ty) (ty out : Ty) → (ty ≡ Null → ⊥) → Finds (of_bytes ty found) out
    → (of : Ty) × Finds found of × ((of ≡ Text) ⊎ (of ≡ Blob)) × (out ≡ ty)
bytes_found None ty out differs h = absurd h
bytes_found (Some Int) ty out differs h = absurd h
bytes_found (Some Text) ty out differs h = (Text, inr refl, inl refl, is_itself ty out differs h)
bytes_found (Some Blob) ty out differs h = (Blob, inr refl, inr refl, is_itself ty out differs h)
bytes_found (Some Null) ty out differs h = (Text, inl refl, inl refl, is_itself ty out differs h)

call_found : (f : Function) (found : Option Ty) (of : Ty) → Takes f of → Finds found of → Finds (type_of_call f found) (gives f)
call_found Neg found of takes h = is_wanted found Int (subst (Finds found) takes h)
call_found BitNot found of takes h = is_wanted found Int (subst (Finds found) takes h)
call_found Not found of takes h = is_wanted found Int (subst (Finds found) takes h)
call_found Abs found of takes h = is_wanted found Int (subst (Finds found) takes h)
call_found Length found of takes h = found_bytes found of Int takes h
call_found Lower found of takes h = is_wanted found Text (subst (Finds found) takes h)
call_found Upper found of takes h = is_wanted found Text (subst (Finds found) takes h)
call_found Hex found of takes h = found_bytes found of Text takes h
call_found TypeOf found of takes h = some_type found Text of h

wanted_call : (found : Option Ty) (of ty : Ty) → (of ≡ Null → ⊥) → Finds (wanted of found) ty
    → (some : Ty) × Finds found some × (some ≡ of) × (ty ≡ of)
wanted_call found of ty differs h = let parts = wanted_type found of ty differs h in (of, parts.0, refl, parts.1)

call_takes : (f : Function) (found : Option Ty) (ty : Ty) → Finds (type_of_call f found) ty
    → (of : Ty) × Finds found of × Takes f of × (ty ≡ gives f)
call_takes Neg found ty h = wanted_call found Int ty int_differs h
call_takes BitNot found ty h = wanted_call found Int ty int_differs h
call_takes Not found ty h = wanted_call found Int ty int_differs h
call_takes Abs found ty h = wanted_call found Int ty int_differs h
call_takes Length found ty h = bytes_found found Int ty int_differs h
call_takes Lower found ty h = wanted_call found Text ty text_differs h
call_takes Upper found ty h = wanted_call found Text ty text_differs h
call_takes Hex found ty h = bytes_found found Text ty text_differs h
call_takes TypeOf found ty h =
    let some = found_type found Text ty h in (some.0, some.1, tt, given_type found Text ty text_differs h)

-- ---- the other parts

behind_found : (a b : Option Ty) (of ty : Ty) → Finds a of → Finds b ty → Finds (behind a b) ty
behind_found None b of ty p q = absurd p
behind_found (Some a) b of ty p q = q

behind_both : (a b : Option Ty) (ty : Ty) → Finds (behind a b) ty → ((of : Ty) × Finds a of) × Finds b ty
behind_both None b ty h = absurd h
behind_both (Some a) b ty h = ((a, inr refl), h)

value_found : (v : Datum) (ty : Ty) → IsOfType ty v → FitsType (type_of v) ty
value_found null ty h = inl refl
value_found (int z) ty h = inr h
value_found (text s) ty h = inr h
value_found (blob b) ty h = inr h

value_has : (v : Datum) (ty : Ty) → FitsType (type_of v) ty → IsOfType ty v
value_has null ty h = tt
value_has (int z) ty (inl e) = cc
value_has (int z) ty (inr e) = e
value_has (text s) ty (inl e) = cc
value_has (text s) ty (inr e) = e
value_has (blob b) ty (inl e) = cc
value_has (blob b) ty (inr e) = e

place_found : (types : List Ty) (at : ℕ) (ty : Ty) → FitsAt types at ty → Finds (slice_get types at) ty
place_found types at ty h = rw h.1 h.2

some_place : (found : Option Ty) (ty : Ty) → Finds found ty → (of : Ty) × (found ≡ Some of) × FitsType of ty
some_place None ty h = absurd h
some_place (Some of) ty h = (of, refl, h)

module _ (columns answers : List Ty) where
  abbrev of_term : Term → Option Ty
  of_term = type_of_term columns answers

  mutual
    complete : (t : Term) (ty : Ty) → HasType columns answers t ty → Finds (of_term t) ty
    complete (literal v) ty h = value_found v ty h
    complete (column i) ty h = place_found columns i ty h
    complete (call f a) ty h = rw h.3 (call_found f (of_term a) h.0 h.2 (complete a h.0 h.1))
    complete (arithmetic op a b) ty h = rw h.2 (is_wanted _ Int (joined (of_term a) (of_term b) Int (complete a Int h.0) (complete b Int h.1)))
    complete (concat a b) ty h = rw h.2 (is_wanted _ Text (joined (of_term a) (of_term b) Text (complete a Text h.0) (complete b Text h.1)))
    complete (compare op a b) ty h = rw h.3 (some_type _ Int h.0 (joined (of_term a) (of_term b) h.0 (complete a h.0 h.1) (complete b h.0 h.2)))
    complete (is a b) ty h = rw h.3 (some_type _ Int h.0 (joined (of_term a) (of_term b) h.0 (complete a h.0 h.1) (complete b h.0 h.2)))
    complete (and a b) ty h = rw h.2 (is_wanted _ Int (joined (of_term a) (of_term b) Int (complete a Int h.0) (complete b Int h.1)))
    complete (or a b) ty h = rw h.2 (is_wanted _ Int (joined (of_term a) (of_term b) Int (complete a Int h.0) (complete b Int h.1)))
    complete (between x a b) ty h = rw h.4 (some_type _ Int h.0 (joined (of_term x) _ h.0 (complete x h.0 h.1) (joined (of_term a) (of_term b) h.0 (complete a h.0 h.2) (complete b h.0 h.3))))
    complete (among x items) ty h = rw h.3 (some_type _ Int h.0 (joined (of_term x) _ h.0 (complete x h.0 h.1) (complete_all items h.0 h.2)))
    complete (coalesce items) ty h = complete_all items ty h
    complete (choice rest e) ty h =
        let arms = complete_arms rest Int ty h.0 in
        behind_found _ _ Int ty (is_wanted _ Int arms.0) (joined _ (of_term e) ty arms.1 (complete e ty h.1))
    complete (choice_of x rest e) ty h =
        let arms = complete_arms rest h.0 ty h.2 in
        behind_found _ _ h.0 ty (joined (of_term x) _ h.0 (complete x h.0 h.1) arms.0) (joined _ (of_term e) ty arms.1 (complete e ty h.3))
    complete (null_if a b) ty h = joined (of_term a) (of_term b) ty (complete a ty h.0) (complete b ty h.1)
    complete (like a b) ty h =
        rw h.2 (some_type _ Int Text (is_wanted _ Text (joined (of_term a) (of_term b) Text (complete a Text h.0) (complete b Text h.1))))

    complete_all : (ts : Terms) (ty : Ty) → HaveType columns answers ts ty → Finds (type_of_terms columns answers ts) ty
    complete_all none ty h = inl refl
    complete_all (answer k) ty h = place_found answers k ty h
    complete_all (more t ts) ty h = joined (of_term t) _ ty (complete t ty h.0) (complete_all ts ty h.1)

    complete_arms : (rest : Arms) (of ty : Ty) → ArmsHaveTypes columns answers rest of ty
        → Finds (type_of_whens columns answers rest) of × Finds (type_of_thens columns answers rest) ty
    complete_arms no_arms of ty h = (inl refl, inl refl)
    complete_arms (arm c e rest) of ty h =
        let others = complete_arms rest of ty h.2 in
        (joined (of_term c) _ of (complete c of h.0) others.0, joined (of_term e) _ ty (complete e ty h.1) others.1)

  mutual
    sound : (t : Term) (ty : Ty) → Finds (of_term t) ty → HasType columns answers t ty
    sound (literal v) ty h = value_has v ty h
    sound (column i) ty h = some_place (slice_get columns i) ty h
    sound (call f a) ty h = let parts = call_takes f (of_term a) ty h in (parts.0, sound a parts.0 parts.1, parts.2, parts.3)
    sound (arithmetic op a b) ty h =
        let whole = wanted_type _ Int ty int_differs h in
        let parts = parted (of_term a) (of_term b) Int whole.0 in (sound a Int parts.0, sound b Int parts.1, whole.1)
    sound (concat a b) ty h =
        let whole = wanted_type _ Text ty text_differs h in
        let parts = parted (of_term a) (of_term b) Text whole.0 in (sound a Text parts.0, sound b Text parts.1, whole.1)
    sound (compare op a b) ty h =
        let some = found_type _ Int ty h in
        let parts = parted (of_term a) (of_term b) some.0 some.1 in (some.0, sound a some.0 parts.0, sound b some.0 parts.1, given_type _ Int ty int_differs h)
    sound (is a b) ty h =
        let some = found_type _ Int ty h in
        let parts = parted (of_term a) (of_term b) some.0 some.1 in (some.0, sound a some.0 parts.0, sound b some.0 parts.1, given_type _ Int ty int_differs h)
    sound (and a b) ty h =
        let whole = wanted_type _ Int ty int_differs h in
        let parts = parted (of_term a) (of_term b) Int whole.0 in (sound a Int parts.0, sound b Int parts.1, whole.1)
    sound (or a b) ty h =
        let whole = wanted_type _ Int ty int_differs h in
        let parts = parted (of_term a) (of_term b) Int whole.0 in (sound a Int parts.0, sound b Int parts.1, whole.1)
    sound (between x a b) ty h =
        let some = found_type _ Int ty h in
        let parts = parted (of_term x) (one_of (of_term a) (of_term b)) some.0 some.1 in
        let bounds = parted (of_term a) (of_term b) some.0 parts.1 in
        (some.0, sound x some.0 parts.0, sound a some.0 bounds.0, sound b some.0 bounds.1, given_type _ Int ty int_differs h)
    sound (among x items) ty h =
        let some = found_type _ Int ty h in
        let parts = parted (of_term x) _ some.0 some.1 in
        (some.0, sound x some.0 parts.0, sound_all items some.0 parts.1, given_type _ Int ty int_differs h)
    sound (coalesce items) ty h = sound_all items ty h
    sound (choice rest e) ty h =
        let parts = behind_both (wanted Int (type_of_whens columns answers rest)) _ ty h in
        let whens = wanted_type (type_of_whens columns answers rest) Int parts.0.0 int_differs parts.0.1 in
        let thens = parted (type_of_thens columns answers rest) (of_term e) ty parts.1 in
        (sound_arms rest Int ty whens.0 thens.0, sound e ty thens.1)
    sound (choice_of x rest e) ty h =
        let parts = behind_both (one_of (of_term x) (type_of_whens columns answers rest)) _ ty h in
        let whens = parted (of_term x) (type_of_whens columns answers rest) parts.0.0 parts.0.1 in
        let thens = parted (type_of_thens columns answers rest) (of_term e) ty parts.1 in
        (parts.0.0, sound x parts.0.0 whens.0, sound_arms rest parts.0.0 ty whens.1 thens.0, sound e ty thens.1)
    sound (null_if a b) ty h = let parts = parted (of_term a) (of_term b) ty h in (sound a ty parts.0, sound b ty parts.1)
    sound (like a b) ty h =
        let some = found_type (wanted Text (one_of (of_term a) (of_term b))) Int ty h in
        let whole = wanted_type (one_of (of_term a) (of_term b)) Text some.0 text_differs some.1 in
        let parts = parted (of_term a) (of_term b) Text whole.0 in
        (sound a Text parts.0, sound b Text parts.1, given_type (wanted Text (one_of (of_term a) (of_term b))) Int ty int_differs h)

    sound_all : (ts : Terms) (ty : Ty) → Finds (type_of_terms columns answers ts) ty → HaveType columns answers ts ty
    sound_all none ty h = tt
    sound_all (answer k) ty h = some_place (slice_get answers k) ty h
    sound_all (more t ts) ty h = let parts = parted (of_term t) _ ty h in (sound t ty parts.0, sound_all ts ty parts.1)

    sound_arms : (rest : Arms) (of ty : Ty) → Finds (type_of_whens columns answers rest) of → Finds (type_of_thens columns answers rest) ty
        → ArmsHaveTypes columns answers rest of ty
    sound_arms no_arms of ty p q = tt
    sound_arms (arm c e rest) of ty p q =
        let whens = parted (of_term c) _ of p in
        let thens = parted (of_term e) _ ty q in
        (sound c of whens.0, sound e ty thens.0, sound_arms rest of ty whens.1 thens.1)

pub types_are_found : TypesAreFound
types_are_found columns answers t ty = (complete columns answers t ty, sound columns answers t ty)
