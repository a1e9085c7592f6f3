-- A term whose columns and answers are there has a type, or a clash.
use Rattle.std.proofs.Common.{◌≡◌, ◌⊎◌, inl, inr, ℕ, ◌<◌, List, length, Option, Some, None, get_or, slice_get, refl, sym, subst, ◌∙◌}
use Rattle.std.proofs.lemmas.Option.{slice_get-get_or}
use Rattle.values.specs.Datum.{type_of}
use Rattle.values.specs.declared.value.Ty.{Ty}
use Rattle.values.specs.declared.value.Ty.TheVariants.{Int}
use Rattle.expr.specs.Term.{Term, Terms, Arms, literal, column, call, arithmetic, concat, compare, is, and, or, between, among, coalesce, choice, choice_of, null_if, like, none, answer, more, no_arms, arm}
use Rattle.expr.specs.TermType.{Finds, one_of, one_type, type_of_term, wanted}
use Rattle.expr.specs.Types.{FitsType}
use Rattle.expr.proofs.TermTypeLemmas.{types_are_found}
use Rattle.semantics.specs.Typed.{IsTerm, IsTermOf}
use Rattle.semantics_names.proofs.FoundLemmas.{one_fits}
use Rattle.semantics_names.proofs.TypeLemmas.{finds_itself, has_type}
use Rattle.semantics_refusals.specs.Clashes.{AreAtOdds, AreTyped, HasClash, IsAmong, IsOperator, Misfits, arm_operands, operands}

-- its columns are among so many, and its answers among so many
module _ (count width : ℕ) where
  abbrev mutual
    pub IsWithin : Term → Type 0
    IsWithin (literal v) = Unit {0}
    IsWithin (column i) = i < width
    IsWithin (call f a) = IsWithin a
    IsWithin (arithmetic op a b) = IsWithin a × IsWithin b
    IsWithin (concat a b) = IsWithin a × IsWithin b
    IsWithin (compare op a b) = IsWithin a × IsWithin b
    IsWithin (is a b) = IsWithin a × IsWithin b
    IsWithin (and a b) = IsWithin a × IsWithin b
    IsWithin (or a b) = IsWithin a × IsWithin b
    IsWithin (between x a b) = IsWithin x × IsWithin a × IsWithin b
    IsWithin (among x items) = IsWithin x × AreWithin items
    IsWithin (coalesce items) = AreWithin items
    IsWithin (choice rest e) = ArmsAreWithin rest × IsWithin e
    IsWithin (choice_of x rest e) = IsWithin x × ArmsAreWithin rest × IsWithin e
    IsWithin (null_if a b) = IsWithin a × IsWithin b
    IsWithin (like a b) = IsWithin a × IsWithin b

    pub AreWithin : Terms → Type 0
    AreWithin none = Unit {0}
    AreWithin (answer k) = k < count
    AreWithin (more t ts) = IsWithin t × AreWithin ts

    pub ArmsAreWithin : Arms → Type 0
    ArmsAreWithin no_arms = Unit {0}
    ArmsAreWithin (arm c e rest) = IsWithin c × IsWithin e × ArmsAreWithin rest

-- two types that are one where both may stand
pub one_none : (a b ty : Ty) → one_type a b ≡ None → FitsType a ty → FitsType b ty → ⊥
one_none a b ty e f g =
    let (c, one, fits) = one_fits a b ty f g in
    let both : None ≡ Some c = sym e ∙ one in
    absurd cc

module _ (answers columns : List Ty) where
  finds : (t : Term) (ty : Ty) → IsTermOf answers columns t ty → Finds (type_of_term columns answers t) ty
  finds t ty h = (types_are_found columns answers t ty).0 h

  -- one of them has a clash
  record HaveClash (ts : Terms) : Type 0 where
    operand : Term
    among : IsAmong operand ts
    clash : HasClash answers columns operand

  with_first : (t : Term) (ts : Terms) → IsTerm answers columns t ⊎ HasClash answers columns t → AreTyped answers columns ts ⊎ HaveClash ts
      → AreTyped answers columns (more t ts) ⊎ HaveClash (more t ts)
  with_first t ts (inl ty) (inl types) = inl (ty, types)
  with_first t ts (inl ty) (inr h) = inr (record { operand = h.operand; among = IsAmong.later h.among; clash = h.clash })
  with_first t ts (inr clash) rest = inr (record { operand = t; among = IsAmong.first; clash = clash })

  operator_so : (t : Term) → IsOperator t → AreTyped answers columns (operands t) ⊎ HaveClash (operands t)
      → IsTerm answers columns t ⊎ HasClash answers columns t
  operator_so t operator (inr h) = inr (HasClash.inside h.operand h.among h.clash)
  operator_so t operator (inl typed) = by (type_of_term columns answers t) (has_type answers columns t) (finds t)
    where
      by : (o : Option Ty) → ((ty : Ty) → Finds o ty → IsTermOf answers columns t ty) → ((ty : Ty) → IsTermOf answers columns t ty → Finds o ty)
          → IsTerm answers columns t ⊎ HasClash answers columns t
      by (Some of) has found = inl (of, has of (inr refl))
      by None has found = inr (HasClash.here (record { operator = operator; typed = typed; untyped = λ h. found h.0 h.1 }))

  two_so : (a b : Term) → IsTerm answers columns a ⊎ HasClash answers columns a → IsTerm answers columns b ⊎ HasClash answers columns b
      → AreTyped answers columns (more a (more b none)) ⊎ HaveClash (more a (more b none))
  two_so a b x y = with_first a (more b none) x (with_first b none y (inl tt))

  mutual
    pub term_so : (t : Term) → IsWithin (length answers) (length columns) t → IsTerm answers columns t ⊎ HasClash answers columns t
    term_so (literal v) w = inl (type_of v, has_type answers columns (literal v) (type_of v) (inr refl))
    term_so (column i) w =
        inl (
          get_or columns i Int,
          has_type answers columns (column i) (get_or columns i Int)
              (finds_itself (slice_get columns i) (get_or columns i Int) (slice_get-get_or columns i Int w)),
        )
    term_so (call f a) w = operator_so (call f a) tt (with_first a none (term_so a w) (inl tt))
    term_so (arithmetic op a b) w = operator_so (arithmetic op a b) tt (two_so a b (term_so a w.0) (term_so b w.1))
    term_so (concat a b) w = operator_so (concat a b) tt (two_so a b (term_so a w.0) (term_so b w.1))
    term_so (compare op a b) w = operator_so (compare op a b) tt (two_so a b (term_so a w.0) (term_so b w.1))
    term_so (is a b) w = operator_so (is a b) tt (two_so a b (term_so a w.0) (term_so b w.1))
    term_so (and a b) w = operator_so (and a b) tt (two_so a b (term_so a w.0) (term_so b w.1))
    term_so (or a b) w = operator_so (or a b) tt (two_so a b (term_so a w.0) (term_so b w.1))
    term_so (between x a b) w =
        operator_so (between x a b) tt (with_first x (more a (more b none)) (term_so x w.0) (two_so a b (term_so a w.1) (term_so b w.2)))
    term_so (among x items) w = operator_so (among x items) tt (with_first x items (term_so x w.0) (terms_so items w.1))
    term_so (coalesce items) w = operator_so (coalesce items) tt (terms_so items w)
    term_so (choice rest e) w =
        operator_so (choice rest e) tt (arms_so rest (more e none) w.0 (with_first e none (term_so e w.1) (inl tt)))
    term_so (choice_of x rest e) w =
        operator_so (choice_of x rest e) tt
        (with_first x (arm_operands rest (more e none)) (term_so x w.0) (arms_so rest (more e none) w.1 (with_first e none (term_so e w.2) (inl tt))))
    term_so (null_if a b) w = operator_so (null_if a b) tt (two_so a b (term_so a w.0) (term_so b w.1))
    term_so (like a b) w = operator_so (like a b) tt (two_so a b (term_so a w.0) (term_so b w.1))

    terms_so : (ts : Terms) → AreWithin (length answers) (length columns) ts → AreTyped answers columns ts ⊎ HaveClash ts
    terms_so none w = inl tt
    terms_so (answer k) w = inl w
    terms_so (more t ts) w = with_first t ts (term_so t w.0) (terms_so ts w.1)

    arms_so : (rest : Arms) (last : Terms) → ArmsAreWithin (length answers) (length columns) rest
        → AreTyped answers columns last ⊎ HaveClash last
        → AreTyped answers columns (arm_operands rest last) ⊎ HaveClash (arm_operands rest last)
    arms_so no_arms last w l = l
    arms_so (arm c e rest) last w l =
        with_first c (more e (arm_operands rest last)) (term_so c w.0)
        (with_first e (arm_operands rest last) (term_so e w.1) (arms_so rest last w.2 l))

  -- ---- terms that no type was found for

  none_typed : (t : Term) → type_of_term columns answers t ≡ None → IsTerm answers columns t → ⊥
  none_typed t e (ty, h) = subst (λ o. Finds o ty) e (finds t ty h)

  pub clash_of : (t : Term) → IsWithin (length answers) (length columns) t → type_of_term columns answers t ≡ None → HasClash answers columns t
  clash_of t w e = by (term_so t w)
    where
      by : IsTerm answers columns t ⊎ HasClash answers columns t → HasClash answers columns t
      by (inl h) = absurd (none_typed t e h)
      by (inr clash) = clash

  pub misfits_of : (t : Term) → IsWithin (length answers) (length columns) t → wanted Int (type_of_term columns answers t) ≡ None
      → Misfits answers columns Int t
  misfits_of t w e = by (term_so t w)
    where
      found : (o : Option Ty) → wanted Int o ≡ None → Finds o Int → ⊥
      found None d f = f
      found (Some of) d f = one_none Int of Int d (inr refl) f

      by : IsTerm answers columns t ⊎ HasClash answers columns t → Misfits answers columns Int t
      by (inl h) = Misfits.other h (λ number. found (type_of_term columns answers t) e (finds t Int number))
      by (inr clash) = Misfits.clash clash

  pub odds_of : (x y : Term) → IsWithin (length answers) (length columns) x → IsWithin (length answers) (length columns) y
      → one_of (type_of_term columns answers x) (type_of_term columns answers y) ≡ None → AreAtOdds answers columns x y
  odds_of x y v w e = by (term_so x v) (term_so y w)
    where
      found : (o p : Option Ty) (ty : Ty) → one_of o p ≡ None → Finds o ty → Finds p ty → ⊥
      found None p ty d f g = f
      found (Some a) None ty d f g = g
      found (Some a) (Some b) ty d f g = one_none a b ty d f g

      by : IsTerm answers columns x ⊎ HasClash answers columns x → IsTerm answers columns y ⊎ HasClash answers columns y
          → AreAtOdds answers columns x y
      by (inr clash) other = AreAtOdds.left clash
      by (inl h) (inr clash) = AreAtOdds.right clash
      by (inl h) (inl k) =
          AreAtOdds.apart h k (λ ty f g. found (type_of_term columns answers x) (type_of_term columns answers y) ty e (finds x ty f) (finds y ty g))
