use Rattle.std.proofs.Common.{◌≡◌, ◌<◌, ◌≤◌, inr, Option, Some, drop, length, refl, sym, subst, arith}
use Rattle.std.proofs.lemmas.Result.{err_from_is_err_and}
use Rattle.btree.specs.declared.image.kind.TreeKind.{TreeKind}
use Rattle.btree.specs.image.Pages.{pages_seen}
use Rattle.btree_cursor.specs.declared.cursor.cursor.Frame.{Frame}
use Rattle.btree_cursor.specs.cursor.Held.{IsLast}
use Rattle.btree_cursor.specs.cursor.Left.{all_left}
use Rattle.btree_cursor.specs.cursor.Rest.{IsStanding}
use Rattle.btree_cursor.specs.cursor.Way.{HasReached}
use Rattle.btree_cursor.proofs.lemmas.cursor.LeftLemmas.{left_some, less_left, none_past}
use Rattle.btree_cursor.proofs.lemmas.cursor.RestLemmas.{standing_long}
use Rattle.btree_cursor.proofs.lemmas.cursor.WayLemmas.{step_fault}
use Rattle.btree_cursor.proofs.cursor.cursor.Cursor.advance.Goals as goal

pub returns-in_err-here-clause-outcome : goal.returns-in_err-here-clause-outcome
returns-in_err-here-clause-outcome g c =
    let p = err_from_is_err_and c.from_residual.result c.from_residual.ensures.1 in
    let v = c.in-Some.ensures.value in
    let old : c.args.self.now.here ≡ Some c.in-Some.here = cc in
    let seen = pages_seen c.args.pager.now.state in
    let frames = c.args.self.now.frames.items in
    let asked = c.args.pager.now.state.asked in
    rw (p.1, p.2)
    (record {
      only = step_fault c.args.self.now _ c.in_err-here.ensures.fault;
      ended = c.in-Some.ensures.after;
      sound = λ steady kind levels places budget at.
          let l = at.here_is in
          let same : at.here ≡ c.in-Some.here = cc in
          let own : IsStanding seen c.args.self.now.kind levels frames at.here places asked budget = subst (λ (k : TreeKind). IsStanding seen k levels frames at.here places asked budget) (sym at.kind_is) at.stands in
          c.in_err-here.ensures.stands steady levels places budget (subst (λ (x : Frame). IsStanding seen c.args.self.now.kind levels frames x places asked budget) same own);
      cause = λ steady come. inr (c.in_err-here.ensures.way steady (come c.in-Some.here old));
    })

pub returns-clause-outcome : goal.returns-clause-outcome
returns-clause-outcome g c =
    let v = c.in-Some.ensures.value in
    let old : c.args.self.now.here ≡ Some c.in-Some.here = cc in
    let seen = pages_seen c.args.pager.now.state in
    let frames = c.args.self.now.frames.items in
    let asked = c.args.pager.now.state.asked in
    record {
      kind_is = refl;
      root_is = refl;
      lists = λ steady kind levels places budget at.
          let l = at.here_is in
          let same : at.here ≡ c.in-Some.here = cc in
          let own : IsStanding seen c.args.self.now.kind levels frames at.here places asked budget = subst (λ (k : TreeKind). IsStanding seen k levels frames at.here places asked budget) (sym at.kind_is) at.stands in
          let then = c.in_ok-here.ensures.stands steady levels places budget (subst (λ (x : Frame). IsStanding seen c.args.self.now.kind levels frames x places asked budget) same own) in
          let long : length c.step.new.frames.items ≤ levels = standing_long _ _ _ _ _ _ _ _ then in (
            record {
              here = c.in_ok-here.here;
              here_is = refl;
              kind_is = at.kind_is;
              usable = at.usable;
              most = at.most;
              readable = at.readable;
              stands = subst (λ (k : TreeKind). IsStanding seen k levels c.step.new.frames.items c.in_ok-here.here (drop 1 places) c.step.new.pager.state.asked budget) at.kind_is then;
            },
            omega (arith, long, c.step.ensures.asks),
          );
      come = λ steady come here is.
          let same : c.in_ok-here.here ≡ here = cc in
          subst (λ (x : Frame). HasReached seen c.args.self.now.kind c.args.self.now.root c.step.new.frames.items x) same
          (c.in_ok-here.ensures.way steady (come c.in-Some.here old));
      left = rw old (less_left frames c.step.new.frames.items c.in-Some.here c.in_ok-here.here c.in_ok-here.ensures.left);
      end = λ some none here is.
          let same : c.in-Some.here ≡ here = cc in
          let within = left_some frames c.in-Some.here (subst (λ (x : Option Frame). 0 < all_left frames x) old some) in
          let past : c.in_ok-here.here.count ≤ c.in_ok-here.here.at = none_past c.step.new.frames.items c.in_ok-here.here none in
          subst (λ (x : Frame). IsLast frames x) same (c.in_ok-here.ensures.end within past);
      stands = λ ended. cc;
      over = λ pages o. record { usable = o.usable; most = o.most; readable = o.readable };
    }
