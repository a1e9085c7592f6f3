use Rattle.btree.proofs.lemmas.image.Worked.{example_flag, example_count, example_first, example_second, first_row, second_row, leaf_page}
use Rattle.btree.proofs.image.laws.example_page.Goals as goal

pub returns-clause-flag : goal.returns-clause-flag
returns-clause-flag c = example_flag

pub returns-clause-count : goal.returns-clause-count
returns-clause-count c = example_count

pub returns-clause-first : goal.returns-clause-first
returns-clause-first c = example_first

pub returns-clause-second : goal.returns-clause-second
returns-clause-second c = example_second

pub returns-clause-first_row : goal.returns-clause-first_row
returns-clause-first_row c = first_row

pub returns-clause-second_row : goal.returns-clause-second_row
returns-clause-second_row c = second_row

pub returns-clause-page : goal.returns-clause-page
returns-clause-page c = leaf_page
