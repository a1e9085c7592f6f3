use Rattle.std.proofs.Common.{inl, inr, map, sym, ◌∙◌, subst}
use Rattle.std.proofs.lemmas.Result.{MatchResult-weaker, err_from_is_err_and}
use Rattle.sql_reader_grammar.specs.create_trees.CreateView.{index_of}
use Rattle.schema.specs.indexes.IndexView.{index_data}
use Rattle.schema_keys.proofs.NameLemmas.{differs}
use Rattle.schema_keys.specs.Names.{IsSameName}
use Rattle.schema.specs.ObjectView.{object_data}
use Rattle.schema.specs.Keyed.{KeyedData, tables_in}
use Rattle.schema.specs.KeyedView.{keyed_data}
use Rattle.schema.specs.Says.{HasTree}
use Rattle.schema.proofs.RefusalLemmas.{index_names, index_text, index_unmade, key_refused, ownerless, rootless, says_index, says_key_index, text_none, text_some}
use Rattle.schema.proofs.KeyedLemmas.{contains_map, tables_said}
use Rattle.schema.proofs.index_said.index_by.Goals as goal
use Rattle.schema.proofs.index_said.index_by.Goals.{
  then-not-is_same_name-via-else-not-is_same_name+then-not-is_same_name-2,
  then-not-is_same_name-via-then-not-is_same_name,
}

pub returns-in_default-clause-refused : goal.returns-in_default-clause-refused
returns-in_default-clause-refused c = λ rows has are apart.
    rootless c.args.pages (object_data c.args.object.now) rows has (subst HasTree (sym c.requires) tt) c.in_default.ensures.none

pub returns-in_default-table_named-clause-refused : goal.returns-in_default-table_named-clause-refused
returns-in_default-table_named-clause-refused c = λ rows has are apart.
    ownerless c.args.pages (object_data c.args.object.now) rows has (map keyed_data c.args.tables.now) c.requires are
    c.in_default-table_named.ensures.none

pub returns-in_default-sql-clause-said : goal.returns-in_default-sql-clause-said
returns-in_default-sql-clause-said c =
    let o = object_data c.args.object.now in
    MatchResult-weaker c.key_index_by.result c.key_index_by.ensures.said
    (λ index said rows are. inr (says_key_index c.args.pages o rows (map keyed_data c.args.tables.now) (keyed_data c.in-Some-table_named.keyed.now)
    c.in-Some.root (index_data index) are c.in-Some-table_named.ensures.found.0 c.in-Some-table_named.ensures.found.1 c.requires
    (text_none c.args.object.now.sql c.in_default-sql.is) c.in-Some.ensures.found said))
    (λ fault u. u)

pub returns-in_default-sql-clause-refused : goal.returns-in_default-sql-clause-refused
returns-in_default-sql-clause-refused c =
    let o = object_data c.args.object.now in
    MatchResult-weaker c.key_index_by.result c.key_index_by.ensures.refused (λ index is. is)
    (λ fault no rows has are apart. key_refused c.args.pages o rows has (map keyed_data c.args.tables.now) (keyed_data c.in-Some-table_named.keyed.now)
    c.requires (text_none c.args.object.now.sql c.in_default-sql.is) are apart c.in-Some-table_named.ensures.found.0
    c.in-Some-table_named.ensures.found.1 fault no)

pub returns-in_err-created-clause-refused : goal.returns-in_err-created-clause-refused
returns-in_err-created-clause-refused c =
    let p = err_from_is_err_and c.from_residual.result c.from_residual.ensures.1 in
    rw (p.1, p.2)
    (λ rows has are apart. index_text c.args.pages (object_data c.args.object.now) rows has c.in-Some-sql.sql.now
    (record { kind_is = c.requires; sql_is = text_some c.args.object.now.sql c.in-Some-sql.sql c.in-Some-sql.is })
    c.in_err-created.field-0.0 c.in_err-created.ensures.refused)

pub returns-then-not-is_same_name-clause-refused : goal.returns-then-not-is_same_name-clause-refused
returns-then-not-is_same_name-clause-refused c = λ rows has are apart.
    let o = object_data c.args.object.now in
    let tree = index_of c.in_ok-created.created in
    index_names c.args.pages o rows has c.in-Some-sql.sql.now
    (record { kind_is = c.requires; sql_is = text_some c.args.object.now.sql c.in-Some-sql.sql c.in-Some-sql.is })
    tree c.in_ok-created.ensures.spelt
    (λ both. elim c.then-not-is_same_name.branch [
      | then-not-is_same_name-via-then-not-is_same_name w ↦
          differs c.is_same_name.result o.name c.as_str-name.result.now tree.name c.is_same_name.ensures c.as_str-name.ensures.value
          w.if-not-is_same_name.true both.0
      | then-not-is_same_name-via-else-not-is_same_name+then-not-is_same_name-2 w ↦
          differs w.is_same_name-else-not-is_same_name.result o.owner c.as_str-owner.result.now tree.table
          w.is_same_name-else-not-is_same_name.ensures c.as_str-owner.ensures.value w.if-not-is_same_name-2.true both.1
    ])

pub made_by-requires : goal.made_by-requires
made_by-requires c =
    let tree = index_of c.in_ok-created.created in
    let owner = subst (λ n. IsSameName c.args.object.now.owner.now n) c.as_str-owner.ensures.value
    (c.is_same_name-else-not-is_same_name.ensures.0 c.if-not-is_same_name-2.false) in
    sym (c.in-Some-table_named.ensures.found.1 ∙ owner)

pub returns-clause-said : goal.returns-clause-said
returns-clause-said c =
    let o = object_data c.args.object.now in
    MatchResult-weaker c.made_by.result c.made_by.ensures.made
    (λ index made rows are. inl (says_index c.args.pages o (tables_in (map keyed_data c.args.tables.now)) c.in-Some-table_named.keyed.now.table c.in-Some-sql.sql.now
    (index_of c.in_ok-created.created) c.in-Some.root (index_data index)
    (record { kind_is = c.requires; sql_is = text_some c.args.object.now.sql c.in-Some-sql.sql c.in-Some-sql.is })
    c.in-Some.ensures.found c.in_ok-created.ensures.spelt c.in_ok-created.ensures.within
    (subst (λ n. IsSameName o.name n) c.as_str-name.ensures.value (c.is_same_name.ensures.0 c.if-not-is_same_name.false))
    (subst (λ n. IsSameName o.owner n) c.as_str-owner.ensures.value
    (c.is_same_name-else-not-is_same_name.ensures.0 c.if-not-is_same_name-2.false))
    (contains_map (λ (k : KeyedData). k.table) (map keyed_data c.args.tables.now) (keyed_data c.in-Some-table_named.keyed.now) c.in-Some-table_named.ensures.found.0) made))
    (λ fault u. u)

pub returns-clause-refused : goal.returns-clause-refused
returns-clause-refused c =
    let owner = subst (λ n. IsSameName c.args.object.now.owner.now n) c.as_str-owner.ensures.value
    (c.is_same_name-else-not-is_same_name.ensures.0 c.if-not-is_same_name-2.false) in
    MatchResult-weaker c.made_by.result c.made_by.ensures.refused (λ index is. is)
    (λ fault unmade rows has are apart. index_unmade c.args.pages (object_data c.args.object.now) rows has c.in-Some-sql.sql.now
    (record { kind_is = c.requires; sql_is = text_some c.args.object.now.sql c.in-Some-sql.sql c.in-Some-sql.is })
    (index_of c.in_ok-created.created) c.in_ok-created.ensures.spelt (tables_in (map keyed_data c.args.tables.now)) c.in-Some-table_named.keyed.now.table
    (tables_said c.args.pages are)
    (contains_map (λ (k : KeyedData). k.table) (map keyed_data c.args.tables.now) (keyed_data c.in-Some-table_named.keyed.now) c.in-Some-table_named.ensures.found.0) (sym (c.in-Some-table_named.ensures.found.1 ∙ owner)) fault unmade)
