use Rattle.std.proofs.Common.{◌≡◌, sym, ◌∙◌, subst}
use Rattle.std.proofs.lemmas.Result.{MatchResult-weaker, err_from_is_err_and}
use Rattle.sql_reader_grammar.specs.create_trees.CreateView.{table_of}
use Rattle.schema_keys.proofs.NameLemmas.{differs}
use Rattle.schema_keys.specs.Names.{IsSameName}
use Rattle.schema.specs.KeyedView.{keyed_data}
use Rattle.schema.specs.ObjectView.{object_data}
use Rattle.schema.specs.Says.{HasTree}
use Rattle.schema.specs.declared.objects.Kind.TheVariants as k
use Rattle.schema.proofs.RefusalLemmas.{rootless, says_keyed, table_names, table_text, table_unmade, text_none, text_some, textless}
use Rattle.schema.proofs.table_said.table_by.Goals as goal
use Rattle.schema.proofs.table_said.table_by.Goals.{
  then-not-is_same_name-via-else-not-is_same_name+then-not-is_same_name-2,
  then-not-is_same_name-via-then-not-is_same_name,
}

pub returns-in_default-clause-refused : goal.returns-in_default-clause-refused
returns-in_default-clause-refused c = λ rows has.
    rootless c.args.pages (object_data c.args.object.now) rows has (subst HasTree (sym c.requires) tt) c.in_default.ensures.none

pub returns-in_default-sql-clause-refused : goal.returns-in_default-sql-clause-refused
returns-in_default-sql-clause-refused c = λ rows has.
    textless c.args.pages (object_data c.args.object.now) rows has (text_none c.args.object.now.sql c.in_default-sql.is)
    (λ e. let clash : k.Table ≡ k.Index = sym c.requires ∙ e in absurd cc)

pub returns-in_err-created-clause-refused : goal.returns-in_err-created-clause-refused
returns-in_err-created-clause-refused c =
    let p = err_from_is_err_and c.from_residual.result c.from_residual.ensures.1 in
    rw (p.1, p.2)
    (λ rows has. table_text c.args.pages (object_data c.args.object.now) rows has c.in-Some-sql.sql.now
    (record { kind_is = c.requires; sql_is = text_some c.args.object.now.sql c.in-Some-sql.sql c.in-Some-sql.is })
    c.in_err-created.field-0.0 c.in_err-created.ensures.refused)

pub returns-then-not-is_same_name-clause-refused : goal.returns-then-not-is_same_name-clause-refused
returns-then-not-is_same_name-clause-refused c = λ rows has.
    let o = object_data c.args.object.now in
    let tree = table_of c.in_ok-created.created in
    table_names c.args.pages o rows has c.in-Some-sql.sql.now
    (record { kind_is = c.requires; sql_is = text_some c.args.object.now.sql c.in-Some-sql.sql c.in-Some-sql.is })
    tree c.in_ok-created.ensures.spelt
    (λ both. elim c.then-not-is_same_name.branch [
      | then-not-is_same_name-via-then-not-is_same_name w ↦
          differs c.is_same_name.result o.name c.as_str-name.result.now tree.name c.is_same_name.ensures c.as_str-name.ensures.value
          w.if-not-is_same_name.true both.0
      | then-not-is_same_name-via-else-not-is_same_name+then-not-is_same_name-2 w ↦
          differs w.is_same_name-else-not-is_same_name.result o.owner c.as_str-name.result.now tree.name
          w.is_same_name-else-not-is_same_name.ensures c.as_str-name.ensures.value w.if-not-is_same_name-2.true both.1
    ])

pub returns-clause-said : goal.returns-clause-said
returns-clause-said c =
    let o = object_data c.args.object.now in
    MatchResult-weaker c.made_by.result c.made_by.ensures.made
    (λ keyed made. says_keyed c.args.pages o c.in-Some-sql.sql.now (table_of c.in_ok-created.created) c.in-Some.root (keyed_data keyed)
    (record { kind_is = c.requires; sql_is = text_some c.args.object.now.sql c.in-Some-sql.sql c.in-Some-sql.is })
    c.in-Some.ensures.found c.in_ok-created.ensures.spelt c.in_ok-created.ensures.within
    (subst (λ n. IsSameName o.name n) c.as_str-name.ensures.value (c.is_same_name.ensures.0 c.if-not-is_same_name.false))
    (subst (λ n. IsSameName o.owner n) c.as_str-name.ensures.value
    (c.is_same_name-else-not-is_same_name.ensures.0 c.if-not-is_same_name-2.false)) made)
    (λ fault u. u)

pub returns-clause-refused : goal.returns-clause-refused
returns-clause-refused c =
    MatchResult-weaker c.made_by.result c.made_by.ensures.refused (λ table is. is)
    (λ fault unmade rows has. table_unmade c.args.pages (object_data c.args.object.now) rows has c.in-Some-sql.sql.now
    (record { kind_is = c.requires; sql_is = text_some c.args.object.now.sql c.in-Some-sql.sql c.in-Some-sql.is })
    (table_of c.in_ok-created.created) c.in_ok-created.ensures.spelt fault unmade)
