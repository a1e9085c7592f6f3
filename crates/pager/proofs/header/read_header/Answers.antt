use Rattle.std.proofs.Common.{rules, arith}
use Rattle.values.specs.declared.fault.Fault.TheVariants.{BadPageSize, SizeMismatch, TooLarge}
use Rattle.pager.specs.Header.{HasPageSize, HasSize}
use Rattle.pager.proofs.header.read_header.Goals as goal

pub overflow_sub-result : goal.overflow_sub-result
overflow_sub-result c =
    let sizes : HasPageSize c.args.front.now = c.in_default.ensures.none.each BadPageSize in
    omega (arith, c.byte.ensures, c.size_of_page-page_size.ensures, sizes.1)

pub returns-clause-sound : goal.returns-clause-sound
returns-clause-sound c =
    let sizes : HasPageSize c.args.front.now = c.in_default.ensures.none.each BadPageSize in
    let size : HasSize c.args.front.now c.args.file_size = c.in_default.ensures.none.each SizeMismatch in
    let least = c.in_default.ensures.none.each TooLarge in
    search rules
