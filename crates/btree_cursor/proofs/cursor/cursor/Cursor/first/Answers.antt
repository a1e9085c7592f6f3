use Rattle.std.proofs.Common.{◌≡◌, ◌-◌, List, length, ◌<◌, ◌≤◌, ◌∙◌, inr, rules, sym, subst, ap, refl, arith, ⊎_elim}
use Rattle.std.proofs.lemmas.Bool.{cases_lt}
use Rattle.std.proofs.lemmas.Result.{err_from_is_err_and}
use Rattle.pager.specs.declared.header.Header.{Header}
use Rattle.pager.specs.PagerState.{IsSoundHeader, image_size}
use Rattle.btree.specs.image.Pages.{IsNumber, pages_seen}
use Rattle.btree.specs.image.Tree.{from_root}
use Rattle.btree_cursor.specs.declared.cursor.cursor.Frame.{Frame}
use Rattle.btree_cursor.specs.cursor.Left.{frames_left, worth}
use Rattle.btree_cursor.specs.cursor.Way.{HasReached}
use Rattle.btree_cursor.proofs.lemmas.cursor.LeftLemmas.{leaf_most, some_left}
use Rattle.btree_cursor.proofs.lemmas.cursor.RestLemmas.{heading_first}
use Rattle.btree.proofs.SeenLemmas.{readable}
use Rattle.btree_cursor.proofs.lemmas.cursor.WayLemmas.{cursor_fault, leads_first}
use Rattle.btree_cursor.proofs.cursor.cursor.Cursor.first.Goals as goal

pub returns-in_err-leaf-clause-outcome : goal.returns-in_err-leaf-clause-outcome
returns-in_err-leaf-clause-outcome g c =
    let p = err_from_is_err_and c.from_residual.result c.from_residual.ensures.1 in
    rw (p.1, p.2)
    (record {
      only = cursor_fault _ _ _ c.in_err-leaf.ensures.fault;
      sound = λ steady levels tree.
          c.in_err-leaf.ensures.stands steady levels _ _ (heading_first (pages_seen c.args.pager.now.state) c.args.kind levels c.args.root c.new-frames.result.items c.args.pager.now.state.asked tree.few tree.shape tree.number c.new-frames.ensures.items);
      cause = λ steady. c.in_err-leaf.ensures.way steady (leads_first _ _ _ _ c.new-frames.ensures.items);
    })

pub returns-then-root-lt1-clause-outcome : goal.returns-then-root-lt1-clause-outcome
returns-then-root-lt1-clause-outcome g c =
    let header : c.header-header.result ≡ c.args.pager.now.state.header = c.header-header.ensures.is in
    let outside : ¬ IsNumber (pages_seen c.args.pager.now.state) c.args.root = search rules in
    record {
      only = tt;
      sound = λ steady levels tree. absurd (outside tree.number);
      cause = λ steady. inr (1, from_root, λ sound. outside sound.0);
    }

pub returns-clause-outcome : goal.returns-clause-outcome
returns-clause-outcome g c =
    let seen = pages_seen c.args.pager.now.state in
    let header : c.header-header.result ≡ c.args.pager.now.state.header = c.header-header.ensures.is in
    record {
      kind_is = refl;
      root_is = refl;
      lists = λ steady levels tree. record {
        here = c.in_ok-leaf.leaf;
        here_is = refl;
        kind_is = refl;
        usable = ap (λ (x : Header). x.usable) (sym header);
        most = ap image_size (sym header) ∙ sym c.image_size-most.ensures;
        readable = readable _ _ (subst (λ (x : Header). IsSoundHeader x) header c.header-header.ensures.sound);
        stands = c.in_ok-leaf.ensures.stands steady levels _ _ (heading_first seen c.args.kind levels c.args.root c.new-frames.result.items c.args.pager.now.state.asked tree.few tree.shape tree.number c.new-frames.ensures.items);
      };
      come = λ steady here here_is.
          let way = c.in_ok-leaf.ensures.way steady (leads_first _ _ _ _ c.new-frames.ensures.items) in
          let same : c.in_ok-leaf.leaf ≡ here = cc in
          subst (λ (x : Frame). HasReached seen c.args.kind c.args.root c.descend.new.frames.items x) same
          way;
      end = λ none. ⊎_elim
          (λ (within : c.in_ok-leaf.leaf.at < c.in_ok-leaf.leaf.count). let some = some_left c.descend.new.frames.items c.in_ok-leaf.leaf within in absurd (omega (arith, some, none)))
          (λ (end : c.in_ok-leaf.leaf.count ≤ c.in_ok-leaf.leaf.at). let down = c.in_ok-leaf.ensures.down in let first = down.first in down.filled (omega (arith, end, first)))
          (cases_lt c.in_ok-leaf.leaf.at c.in_ok-leaf.leaf.count);
      few =
          let most = leaf_most c.descend.new.frames.items c.in_ok-leaf.leaf c.in_ok-leaf.ensures.leaf in
          let none : frames_left 20 c.new-frames.result.items ≡ 0 = ap (frames_left 20) c.new-frames.ensures.items in
          let top : worth (21 - length c.new-frames.result.items) ≡ worth 21 = ap (λ (f : List Frame). worth (21 - length f)) c.new-frames.ensures.items in
          omega (arith, most, none, top, c.in_ok-leaf.ensures.left);
      stands = λ ended. cc;
      over = record {
        usable = ap (λ (x : Header). x.usable) (sym header);
        most = ap image_size (sym header) ∙ sym c.image_size-most.ensures;
        readable = readable _ _ (subst (λ (x : Header). IsSoundHeader x) header c.header-header.ensures.sound);
      };
    }
