use Rattle.std.proofs.Common.{◌≡◌, ◌⊎◌, [], Ok, Err, map, rules, subst, sym, ap, ◌∙◌}
use Rattle.std.proofs.lemmas.Result.{err_from_is_err_and}
use Rattle.values.specs.declared.fault.Fault.TheVariants.{NoMemory}
use Rattle.resolver_bodies.specs.BodyView.{body_of, inner_of, joined_of, single_of, tables_of}
use Rattle.resolver_bodies.specs.declared.bodies.Body.TheFolds.{fold-roll-Body, fold-roll-Tables, fold_out-Body, fold_out-Tables}
use Rattle.resolver_bodies.specs.declared.bodies.Body.TheViews.{the_lemmas}
use Rattle.resolver_bodies.specs.declared.bodies.Tables.{out-Tables}
use Rattle.resolver_types.proofs.lemmas.body_types.BodyLemmas.{last_refused, last_taken, select_is}
use Rattle.resolver_types.proofs.lemmas.body_types.FromLemmas.{answers_refused, columns_refused, row_taken, source_refused, whole}
use Rattle.resolver_types.specs.body_types.Rows.{all_joined}
use Rattle.semantics.specs.Query.{Body}
use Rattle.semantics_names.specs.Statement.{operator_of}
use Rattle.semantics_names.specs.Types.{body_types}
use Rattle.resolver_terms.specs.Outcome.{Gives}
use Rattle.resolver_types.proofs.body_types.bodies.+bodies.Goals as goal

pub all_joined-returns-in_err-columns : goal.all_joined-returns-in_err-columns
all_joined-returns-in_err-columns t c =
    let tables = map (λ t. t.items) c.args.tables.now in
    let p = err_from_is_err_and c.from_residual.result c.from_residual.ensures.1 in
    rw (p.1, p.2) (source_refused tables c.args.answers.now joined_of c.args.sources.now c.loop-joined.joined-index c.joined-item.result
    c.loop-joined.columns.items (all_joined tables c.args.answers.now (Ok []) (map joined_of c.args.sources.now)) c.loop-joined-test.true
    c.joined-item.is c.loop-joined.invariant c.in_err-columns.field-0.0 c.in_err-columns.ensures)

pub from_row-returns-in_err-answers : goal.from_row-returns-in_err-answers
from_row-returns-in_err-answers t c =
    let js = map joined_of (out-Tables c.args.from.now).sources.items in
    let qs = map inner_of c.as_slice.result.now in
    let is : tables_of c.args.from.now ≡ whole js qs = search (rules, the_lemmas, fold-roll-Tables, fold_out-Tables) in
    let p = err_from_is_err_and c.from_residual.result c.from_residual.ensures.1 in
    rw (p.1, p.2) (answers_refused (map (λ t. t.items) c.args.tables.now) (tables_of c.args.from.now) js qs is c.in_err-answers.field-0.0 c.in_err-answers.ensures)

pub from_row-returns-in_err-columns : goal.from_row-returns-in_err-columns
from_row-returns-in_err-columns t c =
    let tables = map (λ t. t.items) c.args.tables.now in
    let js = map joined_of c.as_slice-3.result.now in
    let qs = map inner_of c.as_slice.result.now in
    let is : tables_of c.args.from.now ≡ whole js qs = search (rules, the_lemmas, fold-roll-Tables, fold_out-Tables) in
    let p = err_from_is_err_and c.from_residual-in_err-columns.result c.from_residual-in_err-columns.ensures.1 in
    rw (p.1, p.2) (columns_refused tables (tables_of c.args.from.now) js qs is c.as_slice-2.result.now
    (c.in_ok-answers.ensures ∙ ap Ok (sym c.as_slice-2.ensures.value)) c.in_err-columns.field-0.0 c.in_err-columns.ensures)

pub from_row-returns : goal.from_row-returns
from_row-returns t c =
    let tables = map (λ t. t.items) c.args.tables.now in
    let js = map joined_of c.as_slice-3.result.now in
    let qs = map inner_of c.as_slice.result.now in
    let is : tables_of c.args.from.now ≡ whole js qs = search (rules, the_lemmas, fold-roll-Tables, fold_out-Tables) in
    row_taken tables (tables_of c.args.from.now) js qs is c.in_ok-answers.answers.items c.in_ok-answers.ensures c.in_ok-columns.columns.items
    (ap (λ answers. all_joined tables answers (Ok []) js) (sym c.as_slice-2.ensures.value) ∙ c.in_ok-columns.ensures)

pub body_types-returns-in-Select : goal.body_types-returns-in-Select
body_types-returns-in-Select t c =
    let tables = map (λ t. t.items) c.args.tables.now in
    let single = single_of c.in-Select.single in
    let tree : body_of c.args.body.now ≡ Body.select single.from single.select = search (rules, the_lemmas, fold-roll-Body, fold_out-Body) in
    subst (Gives (λ v. v.items) c.single_types.result) (sym (ap (body_types tables) tree ∙ select_is tables single.from single.select))
    c.single_types.ensures

pub body_types-returns-in_err-last-in-Compound : goal.body_types-returns-in_err-last-in-Compound
body_types-returns-in_err-last-in-Compound t c =
    let tables = map (λ t. t.items) c.args.tables.now in
    let single = single_of c.in-Compound.single in
    let left = body_of c.deref.result.now in
    let operator = operator_of c.in-Compound.field-1 in
    let tree : body_of c.args.body.now ≡ Body.compound left operator single.from single.select =
    search (rules, the_lemmas, fold-roll-Body, fold_out-Body) in
    let fault = c.in_err-last-in-Compound.field-0.0 in
    let p = err_from_is_err_and c.from_residual-in_err-last-in-Compound.result c.from_residual-in_err-last-in-Compound.ensures.1 in
    let refused = last_refused tables single.from single.select left operator c.in_ok-first-in-Compound.first.items
    c.in_ok-first-in-Compound.ensures fault c.in_err-last-in-Compound.ensures in
    rw (p.1, p.2) (subst (λ body. (fault ≡ NoMemory) ⊎ (body_types tables body ≡ Err fault)) (sym tree) refused)

pub body_types-returns-in_ok-last-in-Compound : goal.body_types-returns-in_ok-last-in-Compound
body_types-returns-in_ok-last-in-Compound t c =
    let tables = map (λ t. t.items) c.args.tables.now in
    let single = single_of c.in-Compound.single in
    let left = body_of c.deref.result.now in
    let operator = operator_of c.in-Compound.field-1 in
    let tree : body_of c.args.body.now ≡ Body.compound left operator single.from single.select =
    search (rules, the_lemmas, fold-roll-Body, fold_out-Body) in
    let taken = last_taken tables single.from single.select left operator c.as_slice.result.now
    (c.in_ok-first-in-Compound.ensures ∙ ap Ok (sym c.as_slice.ensures.value)) c.as_slice-in-Compound.result.now
    (c.in_ok-last-in-Compound.ensures ∙ ap Ok (sym c.as_slice-in-Compound.ensures.value)) in
    subst (Gives (λ v. v.items) c.one_types.result) (sym (ap (body_types tables) tree ∙ taken)) c.one_types.ensures
