use Rattle.std.proofs.Common.{◌≡◌, arith, false, refl, true, IsTrue, ◌↔◌, Bool}
use Rattle.sql_reader_grammar.specs.create_trees.CreateView.{table_of}
use Rattle.schema_keys.specs.table_keys.Automatic.{IsIntegerKey, IsTableKey}
use Rattle.schema_keys.specs.declared_keys.KeyView.{key_data}
use Rattle.schema_keys.proofs.lemmas.table_keys.AutomaticLemmas.{all_so_far, index_next, integer_next, table_next}
use Rattle.schema_keys.proofs.table_keys.automatic.automatic_indexes.Goals as goal
use Rattle.schema_keys.proofs.table_keys.automatic.automatic_indexes.Goals.{else-not-is_table_key, then-not-is_table_key+in_ok-push}

untrue : (found : Bool) (P : Type 0) → IsTrue found ↔ P → found ≡ false → ¬ P
untrue found P tested none p = let h : found ≡ true = tested.1 p in cc

pub loop-key-preserved-then-is_integer_key : goal.loop-key-preserved-then-is_integer_key
loop-key-preserved-then-is_integer_key c =
    let bound = c.loop-key.invariant.0 in (
      omega (arith, bound),
      integer_next (table_of c.args.created.now) c.args.keys.now c.loop-key.key-index c.key-item.result c.loop-key-test.true c.key-item.is
          c.loop-key.number c.loop-key.indexes.items (c.is_integer_key.ensures.0 c.if-is_integer_key.true) c.loop-key.invariant.1,
    )

pub loop-key-preserved : goal.loop-key-preserved
loop-key-preserved c =
    let bound = c.loop-key.invariant.0 in
    let tree = table_of c.args.created.now in
    let keys = c.args.keys.now in
    let i = c.loop-key.key-index in
    let key = c.key-item.result in (
      omega (arith, bound),
      elim c.if-not-is_table_key.branch [
        | then-not-is_table_key+in_ok-push w ↦
            rw w.indexes-is
            (index_next tree keys i key c.loop-key-test.true c.key-item.is c.loop-key.number c.loop-key.indexes.items
            w.push.new.self.items _ w.in_ok-push.ensures.items refl
            (untrue c.is_integer_key.result (IsIntegerKey tree (key_data key)) c.is_integer_key.ensures c.if-is_integer_key.false)
            (untrue c.is_table_key.result (IsTableKey tree (key_data key)) c.is_table_key.ensures w.if-not-is_table_key.true)
            c.loop-key.invariant.1)
        | else-not-is_table_key w ↦
            rw w.indexes-is
            (table_next tree keys i key c.loop-key-test.true c.key-item.is c.loop-key.number c.loop-key.indexes.items
            (c.is_table_key.ensures.0 w.if-not-is_table_key.false) c.loop-key.invariant.1)
      ],
    )

pub returns : goal.returns
returns c =
    all_so_far (table_of c.args.created.now) c.args.keys.now c.loop-key.key-index c.loop-key.number c.loop-key.indexes.items
    c.loop-key-test.false c.loop-key.invariant.1
