use Rattle.shell_sessions.specs.Replies.{asks}
use Rattle.opened_images.proofs.ExactLemmas.{made_exactly, made_still}
use Rattle.opened_images.proofs.image.OpenImage.next.Goals as goal

pub returns-clause-steps : goal.returns-clause-steps
returns-clause-steps c = c.step.ensures

pub returns-clause-exact : goal.returns-clause-exact
returns-clause-exact c = λ bytes tables query given at.
    made_exactly c.args.self.now c.step.new.self c.args.slot c.step.ensures bytes tables query given at

pub returns-clause-others : goal.returns-clause-others
returns-clause-others c = λ bytes tables number at other stood.
    made_still c.args.self.now c.step.new.self c.args.slot asks c.step.ensures bytes tables number at other stood
