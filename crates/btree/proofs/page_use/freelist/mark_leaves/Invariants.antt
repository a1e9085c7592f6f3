use Rattle.std.proofs.Common.{◌≡◌, ◌<◌, ℕ, suc, List}
use Rattle.btree.specs.image.Pages.{Pages}
use Rattle.btree.specs.page_use.Marks.{AreMarks, IsGoneWith}
use Rattle.btree.specs.image.Use.{Use, Users}
use Rattle.btree.specs.page_use.FreeWalk.{IsOpenTrunk, IsWithin, leaf_in}
use Rattle.btree.proofs.page_use.freelist.mark_leaves.Given as goal

abbrev pub invariant-loop-i : goal.invariant-loop-i
invariant-loop-i l = record {
  sound : (j : ℕ) → j < l.i → IsWithin l.pages (leaf_in l.bytes j);
  marks : (image : Pages) (users : Users) (done : List Use) (k : ℕ) → image.count ≡ l.pages
      → IsOpenTrunk image users done k 0 l.bytes l.count l.fn.used → AreMarks image users (IsGoneWith done k (suc k) l.i) l.used;
}
