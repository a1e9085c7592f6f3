-- What a handle owns. Assumes nothing: these are definitions.
use base.Fml.{Fml, ftrue}
use base.Stored.{Coded}
use denote.RawPtr.{Ptr}
use Rattle.std.specs.declared.option.Option.{Option}
use Rattle.std.specs.declared.option.Option.TheVariants.{None, Some}
use Rattle.std.specs.Coded.{coded_option}
use Rattle.std.specs.Box.Ownership.{box_owns}
use Rattle.std.specs.Global.{Global}
use Rattle.std_heap.specs.contracts.GlobalAllocator.TheImpl.{ghosts}
use Rattle.opened_images.specs.contracts.image.OpenImage.{the_row}

-- what is kept: an image, or none
abbrev pub Kept : Type 0
Kept = Option the_row.Denot

abbrev pub kept_coded : Coded Kept
kept_coded = coded_option the_row.coded

-- a box at p with the image, if there is one
unfoldable pub handle_owns : Global → Ptr → Kept → Fml
handle_owns alloc p (Some x) = box_owns (ghosts.dealloc_token alloc) the_row p x
handle_owns alloc p None = ftrue
