-- A term with a clash has no type.
use Rattle.std.proofs.Common.{List}
use Rattle.values.specs.declared.value.Ty.{Ty}
use Rattle.values.specs.declared.value.Ty.TheVariants.{Int, Text}
use Rattle.expr.specs.Term.{Term, Terms, Arms, literal, column, call, arithmetic, concat, compare, is, and, or, between, among, coalesce, choice, choice_of, null_if, like, none, answer, more, no_arms, arm}
use Rattle.expr.specs.Types.{ArmsHaveTypes, HasType, HaveType}
use Rattle.semantics.specs.Typed.{IsTerm, IsTermOf}
use Rattle.semantics_refusals.specs.Clashes.{AreAtOdds, HasClash, IsAmong, Misfits, arm_operands, operands}

module _ (answers columns : List Ty) where
  -- each of the terms among them has a type
  abbrev HaveSome : Terms → Type 0
  HaveSome none = Unit {0}
  HaveSome (answer k) = Unit {0}
  HaveSome (more t ts) = IsTerm answers columns t × HaveSome ts

  terms_have : (ts : Terms) (ty : Ty) → HaveType columns answers ts ty → HaveSome ts
  terms_have none ty h = tt
  terms_have (answer k) ty h = tt
  terms_have (more t ts) ty h = ((ty, h.0), terms_have ts ty h.1)

  arms_have : (rest : Arms) (of ty : Ty) (last : Terms) → ArmsHaveTypes columns answers rest of ty → HaveSome last → HaveSome (arm_operands rest last)
  arms_have no_arms of ty last h l = l
  arms_have (arm c e rest) of ty last h l = ((of, h.0), ((ty, h.1), arms_have rest of ty last h.2 l))

  operands_have : (t : Term) (ty : Ty) → HasType columns answers t ty → HaveSome (operands t)
  operands_have (literal v) ty h = tt
  operands_have (column i) ty h = tt
  operands_have (call f a) ty (of, x, takes, e) = ((of, x), tt)
  operands_have (arithmetic op a b) ty (x, y, e) = ((Int, x), ((Int, y), tt))
  operands_have (concat a b) ty (x, y, e) = ((Text, x), ((Text, y), tt))
  operands_have (compare op a b) ty (of, x, y, e) = ((of, x), ((of, y), tt))
  operands_have (is a b) ty (of, x, y, e) = ((of, x), ((of, y), tt))
  operands_have (and a b) ty (x, y, e) = ((Int, x), ((Int, y), tt))
  operands_have (or a b) ty (x, y, e) = ((Int, x), ((Int, y), tt))
  operands_have (between v a b) ty (of, x, y, z, e) = ((of, x), ((of, y), ((of, z), tt)))
  operands_have (among v items) ty (of, x, xs, e) = ((of, x), terms_have items of xs)
  operands_have (coalesce items) ty h = terms_have items ty h
  operands_have (choice rest e) ty (xs, x) = arms_have rest Int ty (more e none) xs ((ty, x), tt)
  operands_have (choice_of v rest e) ty (of, x, xs, y) = ((of, x), arms_have rest of ty (more e none) xs ((ty, y), tt))
  operands_have (null_if a b) ty (x, y) = ((ty, x), ((ty, y), tt))
  operands_have (like a b) ty (x, y, e) = ((Text, x), ((Text, y), tt))

  operand_has : (t : Term) {ts : Terms} → IsAmong t ts → HaveSome ts → IsTerm answers columns t
  operand_has t IsAmong.first h = h.0
  operand_has t (IsAmong.later a) h = operand_has t a h.1

  pub clash_refuted : (t : Term) → HasClash answers columns t → IsTerm answers columns t → ⊥
  clash_refuted t (HasClash.here c) h = c.untyped h
  clash_refuted t (HasClash.inside operand there clash) h =
      clash_refuted operand clash (operand_has operand there (operands_have t h.0 h.1))

  pub misfit_refuted : (ty : Ty) (t : Term) → Misfits answers columns ty t → IsTermOf answers columns t ty → ⊥
  misfit_refuted ty t (Misfits.clash clash) h = clash_refuted t clash (ty, h)
  misfit_refuted ty t (Misfits.other some apart) h = apart h

  pub odds_refuted : (x y : Term) → AreAtOdds answers columns x y → (ty : Ty) → IsTermOf answers columns x ty → IsTermOf answers columns y ty → ⊥
  odds_refuted x y (AreAtOdds.left clash) ty h k = clash_refuted x clash (ty, h)
  odds_refuted x y (AreAtOdds.right clash) ty h k = clash_refuted y clash (ty, k)
  odds_refuted x y (AreAtOdds.apart some other apart) ty h k = apart ty h k
