use Rattle.std.proofs.Common.{◌≡◌, ◌≤◌, w64, SFits, rules}
use Rattle.std.proofs.lemmas.Int.{to_z-of_z}
use Rattle.btree.specs.declared.image.kind.Level.TheVariants.{Interior}
use Rattle.btree.specs.image.Layout.{cell_place, places_end}
use Rattle.btree.proofs.CellLemmas.{IfNone-always, no_divider_before, no_divider_inside, no_divider_key, divider_found}
use Rattle.btree.proofs.page.PageView.divider.Goals as goal
use Rattle.btree.proofs.page.PageView.divider.Goals.{then-place-places_end-via-then-place-places_end, then-place-places_end-via-else-place-places_end+then-place-self}

pub returns-then-place-places_end-clause-none : goal.returns-then-place-places_end-clause-none
returns-then-place-places_end-clause-none c =
    let place : c.place_of-place.result ≡ cell_place c.self.inside.at Interior c.self.inside.bytes.now c.args.i = search rules in
    rw (← c.self.view_is)
    (elim c.then-place-places_end.branch [
      | then-place-places_end-via-then-place-places_end w ↦ no_divider_before _ _ _ _ place (search rules)
      | then-place-places_end-via-else-place-places_end+then-place-self w ↦ no_divider_inside _ _ _ _ place (search rules)
    ])

pub returns-in_err-key-clause-none : goal.returns-in_err-key-clause-none
returns-in_err-key-clause-none c =
    let place : c.place_of-place.result ≡ cell_place c.self.inside.at Interior c.self.inside.bytes.now c.args.i = search rules in
    rw (← c.self.view_is) (IfNone-always _ (no_divider_key _ _ _ _ place c.in_err-key.ensures.only))

pub returns-clause-found : goal.returns-clause-found
returns-clause-found c =
    let place : c.place_of-place.result ≡ cell_place c.self.inside.at Interior c.self.inside.bytes.now c.args.i = search rules in
    let key : SFits w64 c.in_ok-key.key = search rules in
    let behind : places_end c.self.inside.at Interior c.self.inside.bytes.now ≤ c.place_of-place.result = search rules in
    rw (← c.self.view_is, to_z-of_z w64 c.in_ok-key.key key) (divider_found _ _ _ _ place _ _ behind c.in_ok-key.ensures.found)
