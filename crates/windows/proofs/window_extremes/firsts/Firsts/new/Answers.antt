use Rattle.std.proofs.Common.{◌≡◌, ◌∙◌, ◌+◌, ◌-◌, ◌*◌, ◌++◌, [], ◌∷◌, Option, Global, Vec, ℕ, length, map, ap, sym, subst, arith}
use Rattle.std.proofs.lemmas.List.{map_push}
use Rattle.values.specs.Datum.{datum_of}
use Rattle.windows.specs.window_extremes.Stretches.{IsLevel}
use Rattle.windows.proofs.lemmas.window_extremes.StretchLemmas.{AreBuilt, built_more, last_level, one_built}
use Rattle.windows.proofs.window_extremes.firsts.Firsts.new.Goals as goal

pub loop-width-init : goal.loop-width-init
loop-width-init c =
    let side = c.args.side in
    let xs = map datum_of c.args.values.items in
    let first = c.in_ok-single_places.field-0 in
    let are : map (λ (level : Vec (Option ℕ) Global). level.items) c.push.new.self.items ≡ first.items ∷ [] =
    ap (map (λ (level : Vec (Option ℕ) Global). level.items)) (c.in_ok-push.ensures.items ∙ ap (λ l. l ++ first ∷ []) c.new-levels.ensures.items) in
    subst (AreBuilt side xs 1) (sym are)
    (one_built side xs first.items (subst (λ vs. IsLevel side (map datum_of vs) 1 first.items) c.as_slice.ensures.value (c.in_ok-single_places.ensures side)))

pub doubled-requires : goal.doubled-requires
doubled-requires c =
    let side = c.args.side in
    let width = c.loop-width.width in
    let last = c.index.result.now in
    let at : c.len-in-loop-width.result - 1 ≡ length c.loop-width.levels.items - 1 = omega (arith, c.loop-width.levels.ok.0, c.len-in-loop-width.ensures) in
    let known = last_level side (map datum_of c.args.values.items) width c.loop-width.levels.items last (c.len-in-loop-width.result - 1) c.loop-width.invariant at c.index.ensures in
    subst (IsLevel side (map datum_of c.as_slice-in-loop-width.result.now) width) (sym c.as_slice-last.ensures.value)
    (subst (λ vs. IsLevel side (map datum_of vs) width last.items) (sym c.as_slice-in-loop-width.ensures.value) known)

pub loop-width-preserved : goal.loop-width-preserved
loop-width-preserved c =
    let side = c.args.side in
    let width = c.loop-width.width in
    let level = c.in_ok-level.level in
    built_more side (map datum_of c.args.values.items) width (width * 2) (map (λ (level : Vec (Option ℕ) Global). level.items) c.loop-width.levels.items) _ level.items c.loop-width.invariant
    (ap (map (λ (level : Vec (Option ℕ) Global). level.items)) c.in_ok-push-2.ensures.items ∙ map_push (λ (level : Vec (Option ℕ) Global). level.items) c.loop-width.levels.items level)
    (omega arith) (subst (λ vs. IsLevel side (map datum_of vs) (width + width) level.items) c.as_slice-in-loop-width.ensures.value c.in_ok-level.ensures)
