-- An image that is lent by its handle. Assumes nothing: these are definitions.
use base.Fml.{Fml}
use denote.Ref.{MutBor}
use denote.Follow.{follows}
use Rattle.std.specs.Prelude.{Some}
use Rattle.opened_images.specs.contracts.image.OpenImage as Image
use Rattle.seleq_c.specs.contracts.handle.Handle as Handle

-- a handle after its image is w
abbrev pub with_image : (Handle.the_row).Denot → (Image.the_row).Denot → (Handle.the_row).Denot
with_image h w = record { at = h.at; alloc = h.alloc; value = Some w }

-- once the borrow r ends, the handle that b refers to has the last image written through r
abbrev pub handle_follows : MutBor (Handle.the_row).Denot → MutBor (Image.the_row).Denot → Fml
handle_follows b r = follows Handle.the_row Image.the_row b.ghost_name r.ghost_name (with_image b.now)
