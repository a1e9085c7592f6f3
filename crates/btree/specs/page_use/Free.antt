-- The header of an image by its pages. (Database File Format, section 1.3)
use Rattle.std.specs.Prelude.{take}
use Rattle.pager.specs.declared.header.Header.{Header}
use Rattle.pager.specs.Header.{header_in}
use Rattle.btree.specs.image.Pages.{Pages}

-- the header stands on page 1
abbrev pub header_on : Pages → Header
header_on pages = header_in (take 100 (pages.page 1))
