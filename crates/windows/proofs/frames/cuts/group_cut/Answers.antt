use Rattle.std.proofs.Common.{◌≡◌, ◌∙◌, ◌<◌, get_or, length, pos, sym, ap, arith}
use Rattle.std.proofs.lemmas.Bool.Decides.{nat_tests}
use Rattle.std.proofs.lemmas.Int.{ints}
use Rattle.windows_groups.specs.window_order.Placed.{keys_in, ways_in}
use Rattle.windows.proofs.lemmas.frames.CutLemmas.{cut_at, read_at}
use Rattle.windows.proofs.frames.cuts.group_cut.Goals as goal

pub returns-in-Some : goal.returns-in-Some
returns-in-Some c =
    let s = c.args.sequence.now in
    let starts = s.groups.now.starts.items in
    let n = c.in-Ok.group in
    let test = c.in-Some.ensures.lookup.0 in
    let inside_it : n < length c.deref.result.now = grind (arith, nat_tests, test) in
    let inside : n < length starts = omega (arith, inside_it, ap length c.deref.ensures.value) in
    let number : c.args.group ≡ pos n = grind (arith, ints) in
    let start : get_or starts n 0 ≡ c.in-Some.start.now =
    read_at starts n 0 c.in-Some.start.now inside ∙ sym (ap (λ l. get_or l n c.in-Some.start.now) c.deref.ensures.value) ∙ sym c.in-Some.ensures.lookup.1 in
    cut_at (ways_in s) (keys_in s) s.groups.now s.grouped c.args.group n c.in-Some.start.now number inside start
