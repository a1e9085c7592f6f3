use Rattle.std.proofs.Common.{◌≡◌, sym, true}
use Rattle.schema.specs.indexes.KeyIndexes.{KeyIndexData}
use Rattle.schema.specs.indexes.KeyIndexView.{key_index_data}
use Rattle.schema_keys.specs.Names.{IsSameName}
use Rattle.schema.proofs.SearchLemmas.{found_here, none_at_end, none_more}
use Rattle.schema.proofs.keyed.wanted_of.Goals as goal

pub returns-then-is_same_name-clause-found : goal.returns-then-is_same_name-clause-found
returns-then-is_same_name-clause-found c = (
  found_here key_index_data (λ (w : KeyIndexData). IsSameName c.args.name.now w.name) c.args.wanted.now c.loop-candidate.candidate-index
      c.candidate-item.result c.loop-candidate-test.true c.candidate-item.is,
  (let e = c.name.ensures in rw (sym e) (c.is_same_name.ensures.0 c.if-is_same_name.true)),
)

pub loop-candidate-preserved : goal.loop-candidate-preserved
loop-candidate-preserved c =
    none_more key_index_data (λ (w : KeyIndexData). IsSameName c.args.name.now w.name) c.args.wanted.now c.loop-candidate.candidate-index
    c.candidate-item.result c.loop-candidate-test.true c.candidate-item.is
    (λ same. let h : c.is_same_name.result ≡ true = c.is_same_name.ensures.1 (let e = c.name.ensures in rw e same) in
    let none = c.if-is_same_name.false in cc)
    c.loop-candidate.invariant

pub returns-clause-none : goal.returns-clause-none
returns-clause-none c =
    none_at_end key_index_data (λ (w : KeyIndexData). IsSameName c.args.name.now w.name) c.args.wanted.now c.loop-candidate.candidate-index
    c.loop-candidate-test.false c.loop-candidate.invariant
