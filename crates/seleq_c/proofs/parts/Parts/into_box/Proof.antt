-- `into_box` makes the box again, which owns what the parts owned.
use mathlib.Core.Path.{◌≡◌, refl, sym, subst, ap}
use mathlib.Core.List.{List, [], ◌∷◌, ◌++◌}
use contract.BorrowLft.{◌⊑◌}
use lib.Dec.{T as Holds}
use mir.MapTy.{inst_fn}
use mir.Val.{Val, vptr, has_ty, WT}
use base.Logic.{ent, id⊢}
use base.Fml.{ftrue, fsep, flft}
use prog.Wp.{WpFn}
use types.Kit.{Item, at_ret, ‵, raw, ◌⊛◌, some, later, ◌$◌, ◌∵◌, !, qed, by, move, keep, use1, join, split, split3, drop, pick, rewrite, fsplit, fjoin, feq_i, await, suffices, done}
use types.Part.{whole, sub}
use types.Run.{stop, fld, no_more, and_then, of_opd, returns, enter, first, blocks, exec}
use types.ByLocal.{alloc_all, pass_all, free_all, look_at, get, get_in, sets, lands_last, env}
use contract.Monad.{fact}
use contract.Running.{tables}
use denote.Exit.{no}
use denote.RawPtr.{block_ptr}
use denote.Signature.{plain}
use denote.Steps.{heard, nothing, only}
use denote.Triple.Call.{calls_at_last}
use denote.Triple.Clauses.{Ended}
use denote.Triple.Spec.{triple_of}
use denote.Triple.Walked.{Stays, ends_at, says, stay_dropped, walk_of}
use Rattle.core.proofs.alloc.Calls.{Goes-blank}
use Rattle.core.proofs.alloc.Shapes.{after}
use Rattle.core.proofs.atomic.Steps.{fm}
use Rattle.std.proofs.raw_atomic.Walks.{proved_at}
use Rattle.std_alloc.specs.contracts.boxed.Box.from_raw as Raw
use Rattle.std_alloc.proofs.boxed.Box.from_raw.Met as raw
use Rattle.std_alloc.proofs.BoxSteps.Form.{args, B, Bx, D, box_ty, box_typed, word}
use Rattle.std_alloc.proofs.BoxSteps.Steps.{box_out, box_in}
use Rattle.seleq_c.proofs.PartsSteps.{parts_row}
use Rattle.seleq_c.specs.contracts.parts.Parts.into_box as F
use Rattle.seleq_c.specs.contracts.parts.Parts.into_box.Key.{name}
use Rattle.seleq_c.proofs.parts.Parts.into_box.Statement.{statement}
use Rattle.seleq_c.proofs.parts.Parts.into_box.Code as code

pub into_box_spec : {M : Type 1} → statement M
into_box_spec 𝓤 𝓛 𝓜 𝓡 wired T A LT LA g d dd met glue =
    let E : Bx = record { row = T; laws = LT; al = record { row = A; laws = LA; g = g; d = d; drops = dd } } in
    let 𝓣 = tables 𝓤 𝓛.H 𝓜 𝓡 𝓡.env in
    let fn = inst_fn (args E) code.function in
    let ended : Ended = F.ended T A g d dd in
    let clauses = F.clauses T A g d dd 𝓛 𝓜.mem 𝓡.returns in
    let stayed : Stays ended.signature.params ended.kept = (stay_dropped (plain (λ _. parts_row E)) no, tt) in
    let called = triple_of 𝓛 (Raw.signature T A g d dd) (Raw.spec T A g d dd 𝓛 𝓜.mem 𝓡.returns) in
    proved_at 𝓛 ended stayed clauses 𝓜 𝓡 (Goes-blank 𝓛 2 (plain (λ _. parts_row E)) no (λ κs x f. tt), tt) (name (args E)) fn (code.unfolded 𝓤 𝓛.H 𝓜 𝓡 wired (T, (A, tt)) d dd) (λ z are.
    let κs = z.0.0 in let qs = z.0.1 in let parts = z.0.3.0 in let Post = (walk_of 𝓛 ended stayed clauses).post z in
    let v : D E = record { ptr = parts.at; alloc = parts.alloc; value = parts.value } in
    let alive : Item 𝓤 = ‵ (flft κs.0 qs.0) ⊛ ‵ (flft κs.1.0 qs.1.0) ⊛ ‵ ftrue in
    let T_lives : Item 𝓤 = raw (fact 𝓤 (κs.0 ⊑ T.lives)) in let A_lives : Item 𝓤 = raw (fact 𝓤 (κs.1.0 ⊑ A.lives)) in
    qed 𝓛 ((alive ⊛ ‵ (fsep ((B E).own_val v z.0.4.0) ftrue)) ∷ (T_lives ⊛ A_lives ⊛ ‵ ftrue) ∷ []) ∵ split ! $ move ! (1 ∷ []) $ fsplit ! $
    box_out E ! v z.0.4.0 (λ b o hv at word_is fits.
    let typed = box_typed E hv b o fits in
    let asked : called.Ghost = ((κs, qs, tt, (v.alloc, (block_ptr b o, tt)), (hv ∷ [], (vptr b o ∷ [], tt))), v.value) in
    -- [the block's value; its token; the handle; true; the alive lifetimes; how long the types live]
    fjoin ! $ move ! (4 ∷ []) $ split3 ! $ move ! (2 ∷ []) $ drop ! $ move ! (1 ∷ 2 ∷ []) $ join ! $ move ! (1 ∷ 0 ∷ []) $ join ! $
    -- [what `from_raw` requires; the handle; true; the alive lifetimes]
    move ! (2 ∷ []) $ drop ! $ nothing ! $ feq_i ! (List Val) (vptr b o ∷ []) (vptr b o ∷ []) refl $ fjoin ! $ move ! (2 ∷ 0 ∷ []) $ fjoin ! $ move ! (2 ∷ 0 ∷ []) $ join ! $ join ! $ use1 𝓛 (raw (called.pre asked)) (id⊢ 𝓤 _) $
    by ! (subst (λ (words : List Val). ent 𝓤 (types.Kit.⋆ 𝓛 (raw (called.pre asked) ∷ [])) (WpFn 𝓤 𝓛.H 𝓣.C 𝓣.Λ fn (words ++ []) Post)) (sym word_is)
    (qed 𝓛 (raw (called.pre asked) ∷ []) ∵ enter ! 𝓣.C 𝓣.Λ fn (word E hv b o ∷ []) Post $ alloc_all ! (λ locals. pass_all ! refl (typed, tt) $
    sets ! (of_opd ! (get_in ! (fld ! refl (stop !)) (sub ! 0 refl (whole !)))) refl (tt, tt) $ sets ! (of_opd ! (get_in ! (fld ! refl (stop !)) (sub ! 1 refl (whole !)))) refl fits $
    first ! $ blocks ! $ sets ! (of_opd ! (get ! refl)) refl fits $
    calls_at_last ! (fm 𝓛 𝓜 𝓡) called (raw.met 𝓤 𝓛 𝓜 𝓡 (code.calls-std_alloc::boxed::Box::from_raw 𝓡.env wired) T A LT LA g d dd met glue) asked (and_then ! (get ! refl) (and_then ! (get ! refl) (no_more !))) (λ got.
    use1 𝓛 (later (some (λ (made : D E). (alive ⊛ ‵ ((B E).own_val made (got ∷ []))) ⊛ some (λ (_ : Unit {0} × (Unit {0} × Unit {0})). ‵ (fsep ftrue (fsep ftrue ftrue)) ⊛ (raw (fact 𝓤 (made.value ≡ v.value)) ⊛ raw (fact 𝓤 (made.alloc ≡ v.alloc))))))) (id⊢ 𝓤 _) $
    await ! tt $ pick ! (λ made. split ! $ move ! (1 ∷ []) $ pick ! (λ _. split3 ! $ drop ! $ heard ! (made.value ≡ v.value) (λ same. drop ! $ split ! $ move ! (1 ∷ []) $
    -- [the box; the alive lifetimes]
    box_out E ! made (got ∷ []) (λ b' o' hv' at' got_is fits'. box_in E ! made b' o' made.value at' refl $ rewrite ! 0 (λ (words : List Val). ‵ ((B E).own_val made words)) (sym got_is) refl $
    let good : Holds (has_ty (box_ty E) got) × WT got = subst (λ (w : Val). Holds (has_ty (box_ty E) w) × WT w) (sym (ap only got_is)) (box_typed E hv' b' o' fits') in
    lands_last ! refl good $ exec ! 𝓣.C 𝓣.Λ (env fn.locals locals) (after 3 fn.body) (at_ret (env fn.locals locals) Post) $
    sets ! (of_opd ! (get ! refl)) refl good $ returns ! (look_at ! 0 refl) $ free_all ! refl $ keep ! (0 ∷ 1 ∷ []) $
    suffices ! _ (ends_at 𝓛 ended stayed clauses z got made ((tt, (tt, tt)), tt) (tt, tt)) $ says ! same $
    nothing ! $ nothing ! $ fjoin ! $ join ! $ move ! (1 ∷ 0 ∷ []) $ join ! $ done !))))))))))
