use Rattle.integrity.proofs.SearchedLemmas.{image_searched}
use Rattle.integrity.proofs.searched.checked_image_is_searched.Goals as goal

pub returns : goal.returns
returns c = image_searched
