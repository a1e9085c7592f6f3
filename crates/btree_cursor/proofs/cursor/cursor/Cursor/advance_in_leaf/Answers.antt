use Rattle.std.proofs.Common.{Some, ap}
use Rattle.btree_cursor.specs.declared.cursor.cursor.Frame.{Frame}
use Rattle.btree_cursor.proofs.lemmas.cursor.AdvanceLemmas.{put_back}
use Rattle.btree_cursor.proofs.cursor.cursor.Cursor.advance_in_leaf.Goals as goal

pub returns-in-Some-clause-more : goal.returns-in-Some-clause-more
returns-in-Some-clause-more c = λ yes.
    let gone = c.advance.ensures.more yes in
    record {
      here = c.in-Some.here;
      here_is = c.in-Some.is;
      leaf = gone.0;
      more = gone.1;
      new_is = ap (λ (x : Frame). record c.args.self.now { here = Some x }) gone.2;
    }

pub returns-in-Some-clause-stays : goal.returns-in-Some-clause-stays
returns-in-Some-clause-stays c = λ no. put_back c.args.self.now c.in-Some.here c.advance.new.self c.in-Some.is (c.advance.ensures.stays no)
