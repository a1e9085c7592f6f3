use Rattle.std.proofs.Common.{arith}
use Rattle.std.proofs.lemmas.Grind.{common_steps}
use Rattle.pager.specs.Header.{field}
use Rattle.btree.specs.image.Layout.{flag}
use Rattle.btree.proofs.page.flag_at.Goals as goal

pub returns : goal.returns
unfolding flag field
returns c = grind (arith, common_steps)
