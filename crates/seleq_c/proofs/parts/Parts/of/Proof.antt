-- `of` takes the box apart, and the parts own what it owned.
use mathlib.Core.Path.{◌≡◌, refl, sym, subst}
use mathlib.Core.List.{List, [], ◌∷◌, ◌++◌}
use mir.MapTy.{inst_fn}
use mir.Syntax.{Args, a_type, dcons, dnil}
use mir.Val.{Val}
use base.Logic.{ent, id⊢}
use base.Fml.{ftrue, fsep, flft}
use prog.Wp.{WpFn}
use types.Kit.{Item, ‵, raw, ◌⊛◌, some, later, ◌$◌, ◌∵◌, !, qed, by, move, keep, use1, join, split, split3, drop, pick, fsplit, fjoin, await, suffices, done}
use types.Part.{whole, sub, agg}
use types.Run.{stop, fld, no_more, and_then, of_opd, returns, enter}
use types.ByLocal.{alloc_all, pass_all, free_all, look_at, get, get_in, sets, lands_as}
use contract.Monad.{fact}
use contract.Running.{tables}
use Rattle.core.proofs.atomic.Steps.{fm}
use denote.Exit.{no}
use denote.Param.{bounded}
use denote.RattleType.{owns}
use denote.RawPtr.{Ptr, block_ptr}
use denote.Signature.{plain, types_at}
use denote.Steps.{heard, nothing}
use denote.Triple.Call.{calls_at}
use denote.Triple.Clauses.{Ended}
use denote.Triple.Spec.{triple_of}
use denote.Triple.Walked.{Stays, ends_at, says, stay_dropped, walk_of}
use Rattle.core.proofs.alloc.Calls.{Goes-blank, token}
use Rattle.std.proofs.raw_atomic.Walks.{proved_at}
use Rattle.std_alloc.specs.Box.Ownership.{box_owns}
use Rattle.std_alloc.specs.contracts.boxed.Box.into_raw_with_allocator as Raw
use Rattle.std_alloc.proofs.boxed.Box.into_raw_with_allocator.Met as raw
use Rattle.std_alloc.proofs.BoxSteps.Form.{B, Bx, R, box_typed, word}
use Rattle.std_alloc.proofs.BoxSteps.Steps.{box_out, box_in}
use Rattle.seleq_c.proofs.PartsSteps.{pair_row, parts_row, raw_out}
use Rattle.seleq_c.specs.contracts.parts.Parts.of as F
use Rattle.seleq_c.specs.contracts.parts.Parts.of.Key.{name}
use Rattle.seleq_c.proofs.parts.Parts.of.Statement.{statement}
use Rattle.seleq_c.proofs.parts.Parts.of.Code as code

pub of_spec : {M : Type 1} → statement M
of_spec 𝓤 𝓛 𝓜 𝓡 wired T A LT LA g d dd dx met glue_a glue_t =
    let E : Bx = record { row = T; laws = LT; al = record { row = A; laws = LA; g = g; d = d; drops = dd } } in
    let 𝓣 = tables 𝓤 𝓛.H 𝓜 𝓡 𝓡.env in
    let args : Args = bounded (a_type ∷ a_type ∷ []) (T, (A, tt)) (dcons d (dcons dd (dcons dx dnil))) in
    let fn = inst_fn args code.function in
    let ended : Ended = F.ended T A g d dd dx in
    let clauses = F.clauses T A g d dd dx 𝓛 𝓜.mem 𝓡.returns in
    let stayed : Stays ended.signature.params ended.kept = (stay_dropped (plain (λ _. B E)) no, tt) in
    let called = triple_of 𝓛 (Raw.signature T A g d dd dx) (Raw.spec T A g d dd dx 𝓛 𝓜.mem 𝓡.returns) in
    proved_at 𝓛 ended stayed clauses 𝓜 𝓡 (Goes-blank 𝓛 2 (plain (λ _. B E)) no (λ κs x f. tt), tt) (name args) fn (code.unfolded 𝓤 𝓛.H 𝓜 𝓡 wired (T, (A, tt)) d dd dx) (λ z are.
    let κs = z.0.0 in let qs = z.0.1 in let v = z.0.3.0 in let Post = (walk_of 𝓛 ended stayed clauses).post z in
    let alive : Item 𝓤 = ‵ (flft κs.0 qs.0) ⊛ ‵ (flft κs.1.0 qs.1.0) ⊛ ‵ ftrue in
    qed 𝓛 ((alive ⊛ ‵ (owns (types_at ended.signature.params κs) z.0.3 z.0.4)) ∷ raw ((clauses κs z.0.3).requires z.1) ∷ []) ∵ split ! $ move ! (1 ∷ []) $ fsplit ! $
    box_out E ! v z.0.4.0 (λ b o hv at word_is fits. box_in E ! v b o v.value at refl $
    let typed = box_typed E hv b o fits in
    let asked : called.Ghost = ((κs, qs, tt, (v, tt), (word E hv b o ∷ [], tt)), tt) in
    fjoin ! $ move ! (1 ∷ 0 ∷ []) $ join ! $ join ! $ use1 𝓛 (raw (called.pre asked)) (id⊢ 𝓤 _) $
    by ! (subst (λ (words : List Val). ent 𝓤 (types.Kit.⋆ 𝓛 (raw (called.pre asked) ∷ [])) (WpFn 𝓤 𝓛.H 𝓣.C 𝓣.Λ fn (words ++ []) Post)) (sym word_is)
    (qed 𝓛 (raw (called.pre asked) ∷ []) ∵ enter ! 𝓣.C 𝓣.Λ fn (word E hv b o ∷ []) Post $ alloc_all ! (λ locals. pass_all ! refl (typed, tt) $ sets ! (of_opd ! (get ! refl)) refl typed $
    calls_at ! (fm 𝓛 𝓜 𝓡) called (raw.met 𝓤 𝓛 𝓜 𝓡 (code.calls-std_alloc::boxed::Box::into_raw_with_allocator 𝓡.env wired) T A LT LA g d dd dx met glue_a glue_t) asked (and_then ! (get ! refl) (no_more !)) (λ got.
    use1 𝓛 (later (some (λ (pair : Ptr × A.Denot). (alive ⊛ ‵ ((pair_row E).own_val pair (got ∷ []))) ⊛ some (λ (_ : (Unit {0} × (Unit {0} × Unit {0})) × Unit {0}). ‵ (fsep (fsep ftrue (fsep ftrue ftrue)) ftrue) ⊛ (raw (fact 𝓤 (pair.1 ≡ v.alloc)) ⊛ ‵ (box_owns (token E.al v.alloc) (R E) pair.0 v.value)))))) (id⊢ 𝓤 _) $
    await ! tt $ pick ! (λ pair. split ! $ split ! $ move ! (2 ∷ []) $ pick ! (λ _. split3 ! $ drop ! $ heard ! (pair.1 ≡ v.alloc) (λ same.
    -- [what the block owns; the alive lifetimes; the pair]
    move ! (0 ∷ 2 ∷ []) $ raw_out E ! pair v.alloc v.value got same (λ b' o' hv' got_is fits'.
    let made = box_typed E hv' b' o' fits' in
    lands_as ! got_is refl made $ sets ! (of_opd ! (get_in ! (fld ! refl (stop !)) (sub ! 0 refl (whole !)))) refl (tt, tt) $ sets ! (of_opd ! (get_in ! (fld ! refl (stop !)) (sub ! 1 refl (whole !)))) refl fits' $
    sets ! (of_opd ! (get ! refl)) refl fits' $ sets ! (agg ! (and_then ! (get ! refl) (and_then ! (get ! refl) (no_more !)))) refl made $ returns ! (look_at ! 0 refl) $ free_all ! refl $
    let parts : (parts_row E).Denot = record { at = block_ptr b' o'; alloc = v.alloc; value = v.value } in
    move ! (1 ∷ []) $ fsplit ! $ move ! (0 ∷ 1 ∷ 2 ∷ []) $ box_in E ! (record { ptr = block_ptr b' o'; alloc = v.alloc; value = v.value }) b' o' v.value refl refl $
    use1 𝓛 (‵ ((parts_row E).own_val parts (word E hv' b' o' ∷ []))) (id⊢ 𝓤 _) $ keep ! (0 ∷ 1 ∷ []) $
    suffices ! _ (ends_at 𝓛 ended stayed clauses z (word E hv' b' o') parts ((tt, (tt, tt)), tt) (tt, tt)) $ says ! refl $
    nothing ! $ nothing ! $ fjoin ! $ join ! $ move ! (1 ∷ 0 ∷ []) $ join ! $ done !))))))))))
