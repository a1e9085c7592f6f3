use Rattle.std.proofs.Common.{◌<◌, ◌∙◌, ap, sym, arith, Some, drop}
use Rattle.btree.specs.image.Cell.{most_local}
use Rattle.pager.specs.Header.{field}
use Rattle.byteorder.specs.Endian.{big_number}
use Rattle.btree.proofs.CellLemmas.{overflow_size-long, overflow_of-long}
use Rattle.btree.proofs.cell.read_chained.Goals as goal

pub returns-clause-found : goal.returns-clause-found
unfolding field
returns-clause-found c =
    let long : most_local c.args.kind c.args.usable < c.args.size = c.requires.long in
    record {
      within = rw (overflow_size-long _ _ _ long, ← c.local_size_of-local_size.ensures) (omega (arith, c.split_at.ensures.back_len));
      local_is = rw (← c.local_size_of-local_size.ensures) c.split_at.ensures.front;
      overflow_is =
          ap Some (c.read_u32.ensures ∙ ap (big_number 4) (c.split_at.ensures.back ∙ ap (λ n. drop n c.args.bytes.now) c.local_size_of-local_size.ensures))
          ∙ sym (overflow_of-long _ _ _ _ long);
    }
