use Rattle.std.proofs.Common.{◌≡◌, ◌⊎◌, ◌<◌, ◌≤◌, ◌∙◌, ℕ, false, true, inl, inr, refl, sym, ⊎_elim, arith}
use Rattle.std.proofs.lemmas.Bool.{cases_lt}
use Rattle.records_tables.proofs.primary_rows.rows.check_primary_row.Goals as goal

not_allowed : (key most n : ℕ) → (((key ≤ n) × (n ≤ most)) → ⊥) → (n < key) ⊎ (most < n)
not_allowed key most n not = ⊎_elim inl
    (λ (least : key ≤ n). ⊎_elim inr (λ (few : n ≤ most). absurd (not (least, few))) (cases_lt most n))
    (cases_lt n key)

pub returns-then-not-allow-clause-fault : goal.returns-then-not-allow-clause-fault
returns-then-not-allow-clause-fault c =
    let count = c.count.ensures in
    let key = c.requires.key_is in
    let most = c.requires.most_is in
    inr (
      c.in-Ok.fields,
      c.in-Ok.ensures.found,
      inl (
        refl,
        ⊎_elim (λ (few : c.count.result < c.args.order.now.key). inl (omega (arith, few, count, key)))
            (λ (many : c.args.order.now.most < c.count.result). inr (inl (omega (arith, many, count, most))))
            (not_allowed c.args.order.now.key c.args.order.now.most c.count.result
            (λ within. let e : false ≡ true = sym c.if-not-allow.true ∙ c.allow.ensures.1 within in cc)),
      ),
    )
