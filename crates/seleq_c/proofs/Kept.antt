-- The image that is kept, where one is.
use Rattle.std.specs.Prelude.{◌≡◌, Some, None, IsSome}
use Rattle.std.proofs.Common.{refl, sym, true≢false}
use Rattle.opened_images.specs.contracts.image.OpenImage.{the_row}
use Rattle.seleq_c.specs.Owned.{Kept}

pub kept_image : (k : Kept) → IsSome k → the_row.Denot
kept_image (Some x) t = x
kept_image None t = absurd (true≢false (sym t))

pub is_kept : (k : Kept) (t : IsSome k) → k ≡ Some (kept_image k t)
unfolding kept_image
is_kept (Some x) t = refl
is_kept None t = absurd (true≢false (sym t))
