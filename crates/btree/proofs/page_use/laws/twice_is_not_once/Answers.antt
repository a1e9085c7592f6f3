use Rattle.btree.proofs.lemmas.page_use.WalkLemmas.{twice_not, twice_number}
use Rattle.btree.proofs.page_use.laws.twice_is_not_once.Goals as goal

pub returns : goal.returns
returns c = record {
  number = λ pages users n twice. twice_number pages users n twice;
  not_once = λ pages users n twice. twice_not pages users n twice;
}
