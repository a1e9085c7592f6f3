use Rattle.std.proofs.Common.{◌≡◌, ◌∙◌, ◌++◌, ◌∷◌, ◌+◌, [], List, length, take, ap, arith, rules, subst, sym}
use Rattle.std.proofs.Math.Seq.{take-length}
use Rattle.std.proofs.lemmas.List.{take_more}
use Rattle.shell_sessions.specs.Replies.{base_of, first_state}
use Rattle.shell_sessions.specs.Run.{Runs, steps_on}
use Rattle.shell_sessions.specs.declared.step.Step.{Step}
use Rattle.shell_sessions.proofs.RunLemmas.{one_more_of, tell_more_of}
use Rattle.shell_sessions.proofs.SlotLemmas.{base_kept, kept_trans}
use Rattle.shell_sessions.proofs.schedules.replay.Goals as goal

pub loop-step-preserved : goal.loop-step-preserved
loop-step-preserved g c =
    let long : length c.loop-step.replies.items ≡ length (take c.loop-step.step-index c.args.steps.now) = search rules in
    let more : take (c.loop-step.step-index + 1) c.args.steps.now ≡ take c.loop-step.step-index c.args.steps.now ++ c.step-item.result ∷ [] =
    take_more c.args.steps.now c.loop-step.step-index c.step-item.result c.loop-step-test.true
    ∙ sym (ap (λ (step : Step). take c.loop-step.step-index c.args.steps.now ++ step ∷ []) c.step-item.is) in
    record {
      run = λ number.
          one_more_of (base_of c.args.engine.now) c.loop-step.engine c.make_step-reply.new.engine c.loop-step.slots c.make_step-reply.new.slots
          (take c.loop-step.step-index c.args.steps.now) c.loop-step.replies.items c.step-item.result c.make_step-reply.result long
          (take (c.loop-step.step-index + 1) c.args.steps.now) c.push.new.self.items more c.in_ok-push.ensures.items
          (base_kept c.args.engine.now c.loop-step.engine c.loop-step.invariant.image) c.make_step-reply.ensures.replies c.make_step-reply.ensures.others number
          (c.loop-step.invariant.run number);
      sound = c.make_step-reply.ensures.sound;
      image = kept_trans c.args.engine.now c.loop-step.engine c.make_step-reply.new.engine c.loop-step.invariant.image c.make_step-reply.ensures.image;
      each = search rules;
      room = search rules;
      told = tell_more_of c.push.new.self.items c.loop-step.replies.items c.make_step-reply.result c.args.engine.now.pager.source.failures
          c.loop-step.engine.pager.source.failures c.make_step-reply.new.engine.pager.source.failures c.in_ok-push.ensures.items c.loop-step.invariant.told
          c.make_step-reply.ensures.reads;
    }

pub returns-clause-run : goal.returns-clause-run
returns-clause-run g c =
    let whole : take c.loop-step.step-index c.args.steps.now ≡ c.args.steps.now =
    let end = c.loop-step.auto.step-index-end in
    let e : c.loop-step.step-index ≡ length c.args.steps.now = omega (arith, end, c.loop-step-test.false) in
    ap (λ n. take n c.args.steps.now) e ∙ take-length c.args.steps.now in
    record {
      each = search rules;
      alone = λ slot.
          let has = c.loop-step.invariant.run slot in
          (has.last, subst (λ (steps : List Step). Runs (base_of c.args.engine.now) (first_state slot) (steps_on slot steps c.loop-step.replies.items) has.last) whole has.runs);
    }
