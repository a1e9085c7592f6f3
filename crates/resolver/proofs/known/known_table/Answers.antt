use Rattle.std.proofs.Common.{[], ◌∷◌, map, Ok, string_bytes, ap, ◌∙◌}
use Rattle.resolver.proofs.KnownLemmas.{known_so}
use Rattle.resolver.proofs.known.known_table.Goals as goal

pub returns : goal.returns
returns c =
    ap (λ source. record { name = string_bytes c.in_ok-from_str.field-0; source = Ok source; columns = map (λ n. string_bytes n) c.in_ok-names.field-0.items } ∷ [])
    c.table_at-source.ensures
    ∙ known_so c.args.at c.args.table.now (string_bytes c.in_ok-from_str.field-0) c.columns-columns.result.now (map (λ n. string_bytes n) c.in_ok-names.field-0.items)
    (c.in_ok-from_str.ensures.ok ∙ c.name.ensures) c.columns-columns.ensures c.in_ok-names.ensures
