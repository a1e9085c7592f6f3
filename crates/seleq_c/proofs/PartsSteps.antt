-- Steps from a box to its parts. Assumes `Logic`.
--     parts_row            the parts as a row, at a box's type parameters
--     raw_out              what taking a box apart gave: the pointer's block with what it owns, and the handle
use mathlib.Core.Path.{◌≡◌, refl, ap, ◌∙◌}
use Prim.Native.Nat.{ℕ}
use mathlib.Core.List.{List, [], ◌∷◌, ◌++◌}
use seplogic.Ra.Ura.{Ura}
use mir.Raw.{raw as bare}
use mir.Val.{Val, vstruct, of_list}
use base.Logic.{never, fst∗}
use types.Logic.{Logic, sem}
use types.Kit.{Goal, Seq, Item, ‵, ◌$◌, move, drop, rewrite, fsplit, fpick, feq_l}
use denote.RattleType.{RattleType}
use denote.RawPtr.{Ptr, RawPtr, block_ptr, null_ptr, ptr_val, in_a_block}
use denote.Steps.{only}
use denote.Struct.Tuple.{Tuple}
use Rattle.core.proofs.alloc.Calls.{Fits, handle_tells, token}
use Rattle.std_alloc.specs.Box.Ownership.{box_owns}
use Rattle.std_alloc.proofs.BoxSteps.Form.{Bx, X, P, R, handle, word, τ}
use Rattle.seleq_c.specs.contracts.parts.Parts as Parts

abbrev pub parts_row : Bx → RattleType
parts_row E = Parts.the_row (R E) (P E) E.al.g

abbrev pub pair_row : Bx → RattleType
pair_row E = Tuple (RawPtr ∷ P E ∷ [])

module _ (E : Bx) {M : Type 1} {𝓤 : Ura M} {𝓛 : Logic 𝓤} {K : Type 0} {Γ : List (Item 𝓤)} {G : Goal 𝓤 𝓛.H} where
  pub raw_out : K → (pair : Ptr × E.al.row.Denot) (a : E.al.row.Denot) (x : X E) (v : Val) → pair.1 ≡ a
      → ((b o : ℕ) (hv : Val) → v ≡ word E hv b o → Fits E.al hv → Seq K 𝓛 (‵ (handle E a hv) ∷ ‵ (box_owns (token E.al a) (R E) (block_ptr b o) x) ∷ Γ) G)
      → Seq K 𝓛 (‵ (box_owns (token E.al a) (R E) pair.0 x) ∷ ‵ ((pair_row E).own_val pair (v ∷ [])) ∷ Γ) G
  raw_out t pair a x v same k =
      in_a_block t pair.0 (λ p. box_owns (token E.al a) (R E) p x) (fst∗ 𝓤 (never 𝓤) (sem 𝓛 (token E.al a (bare (τ E)) null_ptr))) (λ b o at.
      move t (1 ∷ []) $ fpick t (λ vss. fsplit t $ feq_l t (λ whole. fsplit t $ feq_l t (λ first. fsplit t $
      rewrite t 0 (λ (c : E.al.row.Denot). ‵ (E.al.row.own_val c vss.1.0)) same refl $ handle_tells E.al t a vss.1.0 (λ hv second fits.
      move t (1 ∷ []) $ drop t $
      k b o hv (ap only (whole ∙ (λ i. vstruct (of_list ((first ∙ ap (λ (p : Ptr). ptr_val p ∷ []) at) i ++ (second i ++ []))) ∷ []))) fits)))))
