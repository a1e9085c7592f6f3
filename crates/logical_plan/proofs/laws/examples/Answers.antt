use Rattle.logical_plan.proofs.ExampleLemmas.{emptied_is_planned, emptied_shows, full_shows, nothing_shows, padded_shows, right_shows, seven_stands, sevens_show, sold_shows, summed_shows}
use Rattle.logical_plan.proofs.laws.examples.Goals as goal

pub returns-clause-stands : goal.returns-clause-stands
returns-clause-stands c = seven_stands

pub returns-clause-sevens : goal.returns-clause-sevens
returns-clause-sevens c = sevens_show

pub returns-clause-nothing : goal.returns-clause-nothing
returns-clause-nothing c = nothing_shows

pub returns-clause-sold : goal.returns-clause-sold
returns-clause-sold c = sold_shows

pub returns-clause-padded : goal.returns-clause-padded
returns-clause-padded c = padded_shows

pub returns-clause-right : goal.returns-clause-right
returns-clause-right c = right_shows

pub returns-clause-full : goal.returns-clause-full
returns-clause-full c = full_shows

pub returns-clause-emptied : goal.returns-clause-emptied
returns-clause-emptied c = emptied_shows

pub returns-clause-planned : goal.returns-clause-planned
returns-clause-planned c = emptied_is_planned

pub returns-clause-summed : goal.returns-clause-summed
returns-clause-summed c = summed_shows
