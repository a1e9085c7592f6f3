use Rattle.std.proofs.Common.{◌≡◌, IsTrue, ◌↔◌, sym, ◌∙◌, None, subst, true}
use Rattle.schema.specs.indexes.KeyIndexView.{key_index_data}
use Rattle.schema_keys.specs.Names.{IsSameName}
use Rattle.schema.specs.ObjectView.{object_data}
use Rattle.schema.specs.declared.objects.Kind.TheVariants as k
use Rattle.schema.proofs.RefusalLemmas.{key_row_told, none_told, text_none}
use Rattle.schema.proofs.keyed.is_key_row.Goals as goal
use Rattle.schema.proofs.keyed.is_key_row.Goals.{else-is_none, else-matches, in-Index, in_default-matches, then-is_none, then-matches}

pub returns-then-is_same_name : goal.returns-then-is_same_name
returns-then-is_same_name c =
    let o = object_data c.in-Some.object in
    let all : c.if-is_none.value ≡ true = c.if-is_same_name.true in
    let both : c.if-matches.value ≡ true =
    elim c.if-is_none.branch [
      | then-is_none w ↦ w.if-is_none.true
      | else-is_none w ↦ let none = w.value-is in absurd cc
    ] in
    let owner : IsSameName o.owner c.args.table.now =
    elim c.if-is_none.branch [
      | then-is_none w ↦ w.is_same_name.ensures.0 (sym w.value-is ∙ all)
      | else-is_none w ↦ let none = w.value-is in absurd cc
    ] in
    let matches : c.match-matches.matches ≡ true =
    elim c.if-matches.branch [
      | then-matches w ↦ w.if-matches.true
      | else-matches w ↦ let none = w.value-is in absurd cc
    ] in
    let kind : o.kind ≡ k.Index =
    elim c.match-matches.branch [
      | in-Index w ↦ w.in-Index.is
      | in_default-matches w ↦ let none = w.matches-is in absurd cc
    ] in
    let sql : o.sql ≡ None =
    elim c.if-matches.branch [
      | then-matches w ↦ text_none c.in-Some.object.sql (none_told c.in-Some.object.sql w.is_none.result w.is_none.ensures (sym w.value-is ∙ both))
      | else-matches w ↦ let none = w.value-is in absurd cc
    ] in
    key_row_told c.args.table.now (key_index_data c.args.index.now).name c.args.row.now o c.is_same_name-then-is_same_name.result
    c.in-Some.ensures.found kind sql owner
    (subst (λ n. IsTrue c.is_same_name-then-is_same_name.result ↔ IsSameName o.name n) c.name.ensures c.is_same_name-then-is_same_name.ensures)
