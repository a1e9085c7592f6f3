use Rattle.std.proofs.Common.{ℕ}
use Rattle.values.specs.declared.fault.Fault.{Fault}
use Rattle.values.specs.declared.fault.Fault.TheVariants.{PageUse, BadFreelist}
use Rattle.btree.specs.image.Pages.{Pages, IsNumber}
use Rattle.btree.specs.image.Freelist.{IsFreelist}
use Rattle.btree.specs.image.Use.{IsBrokenUse}
use Rattle.btree.specs.image.Use.{IsUsedOnce, Users}
use Rattle.btree.proofs.page_use.laws.no_use_is_broken.Goals as goal

none : (pages : Pages) (users : Users) (total : ℕ) → IsFreelist pages users.first total → ((n : ℕ) → IsNumber pages n → IsUsedOnce pages users n)
    → (fault : Fault) → IsBrokenUse pages users total fault → ⊥
none pages users total free once (PageUse n) broken = broken.1 (once n broken.0)
none pages users total free once BadFreelist broken = broken free
none pages users total free once _ broken = broken

pub returns : goal.returns
returns c = record { unbroken = λ pages users total free once fault broken. none pages users total free once fault broken }
