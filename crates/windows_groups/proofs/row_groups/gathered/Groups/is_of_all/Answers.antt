use Rattle.std.proofs.Common.{rules, ◌≡◌, ◌∙◌, [], sym}
use Rattle.windows_groups.proofs.lemmas.row_groups.KeyLemmas.{one_key}
use Rattle.windows_groups.proofs.row_groups.gathered.Groups.is_of_all.Goals as goal

pub returns-in-Some-clause-only : goal.returns-in-Some-clause-only
returns-in-Some-clause-only c = λ is.
    let one : c.len.result ≡ 1 = search rules in
    let empty : c.args.key.now ≡ [] = search rules in
    let none : c.in-Some.only.now ≡ [] = search rules in
    (empty, one_key c.args.self.now.keys.keys c.in-Some.only.now (sym c.len.ensures.len ∙ one) c.in-Some.ensures.key none)
