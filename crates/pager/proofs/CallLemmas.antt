-- What a caller's proof cites of the words in `specs/Calls.antt`.
use Rattle.std.proofs.Common.{◌∙◌, arith, refl, Result, Ok, Err}
use Rattle.std.specs.Prelude.{IfErr}
use Rattle.pager.specs.PagerState.{PagerState}
use Rattle.pager.specs.Calls.{AsksChainsOnly, SameImage}

pub SameImage-none : (p : PagerState) → SameImage p p
SameImage-none p = record { bytes = refl; steady = refl; header = refl; capacity = refl; asked = omega arith; chained = omega arith }

pub SameImage-trans : (a b c : PagerState) → SameImage a b → SameImage b c → SameImage a c
SameImage-trans a b c first then = record {
  bytes = cc;
  steady = cc;
  header = cc;
  capacity = cc;
  asked = omega arith;
  chained = omega arith;
}

pub AsksChainsOnly-trans : (a b c : PagerState) → AsksChainsOnly a b → AsksChainsOnly b c → AsksChainsOnly a c
AsksChainsOnly-trans a b c one other = record {
  image = SameImage-trans a b c one.image other.image;
  unasked = other.unasked ∙ one.unasked;
  cached = other.cached ∙ one.cached;
}

-- a condition on an error that follows from another
pub IfErr-weaker : {T E : Type 0} {P Q : E → Type 0} (r : Result T E) → ((e : E) → P e → Q e) → IfErr r P → IfErr r Q
IfErr-weaker (Ok v) f h = tt
IfErr-weaker (Err e) f h = f e h
