-- A cursor that goes on within its leaf.
use Rattle.std.proofs.Common.{◌≡◌, ◌+◌, Option, Some, refl, sym, ap, ◌∙◌, subst, arith}
use Rattle.pager.specs.PagerState.{PagerState}
use Rattle.btree.specs.image.Pages.{pages_seen}
use Rattle.btree_cursor.specs.declared.cursor.cursor.Cursor.{Cursor}
use Rattle.btree_cursor.specs.declared.cursor.cursor.Frame.{Frame}
use Rattle.btree_cursor.specs.cursor.Calls.{HasStepped}
use Rattle.btree_cursor.specs.cursor.Held.{HasAdvanced}
use Rattle.btree_cursor.specs.cursor.Rest.{IsStanding}
use Rattle.btree_cursor.specs.cursor.Way.{HasReached}
use Rattle.btree_cursor.proofs.lemmas.cursor.LeftLemmas.{leaf_is_left, less_left, none_past}
use Rattle.btree_cursor.proofs.lemmas.cursor.RestLemmas.{standing_step}
use Rattle.btree_cursor.proofs.lemmas.cursor.StandLemmas.{stands_at}
use Rattle.btree_cursor.proofs.lemmas.cursor.WayLemmas.{reached_leaf}

some_same : (x y : Frame) → Some x ≡ Some y → x ≡ y
some_same x y e = cc

-- a cursor whose frame is put back as it was
pub put_back : (cursor : Cursor) (here next : Frame) → cursor.here ≡ Some here → next ≡ here → ◌≡◌ {A = Cursor} (record cursor { here = Some next }) cursor
put_back cursor here next is same =
    ap (λ (x : Frame). record cursor { here = Some x }) same ∙ ap (λ (x : Option Frame). record cursor { here = x }) (sym is)

-- it has stepped, and no page was asked for
pub advanced_steps : (state : PagerState) (was now : Cursor) → HasAdvanced was now → HasStepped state state was now
advanced_steps state was now a =
    let seen = pages_seen state in
    subst (λ (c : Cursor). HasStepped state state was c) (sym a.new_is) (record {
      kind_is = refl;
      root_is = refl;
      lists = λ steady kind levels places budget at.
          let same : at.here ≡ a.here = some_same at.here a.here (sym at.here_is ∙ a.here_is) in (
            record {
              here = record a.here { at = a.here.at + 1 };
              here_is = refl;
              kind_is = at.kind_is;
              usable = at.usable;
              most = at.most;
              readable = at.readable;
              stands = standing_step _ _ _ _ _ _ _ _ (subst (λ (x : Frame). IsStanding seen kind levels was.frames.items x places state.asked budget) same at.stands) a.leaf a.more;
            },
            omega arith,
          );
      come = λ steady come here is.
          let reached = come a.here a.here_is in
          subst (λ (x : Frame). HasReached seen was.kind was.root was.frames.items x) (some_same _ _ is)
          (reached_leaf _ _ _ _ (record a.here { at = a.here.at + 1 }) a.leaf reached.way (stands_at _ _ _ a.here (a.here.at + 1) reached.stands));
      left = rw a.here_is
          (less_left was.frames.items was.frames.items a.here (record a.here { at = a.here.at + 1 })
          (λ within.
          let old = leaf_is_left a.here.level was.frames.items a.here a.leaf in
          let new = leaf_is_left a.here.level was.frames.items (record a.here { at = a.here.at + 1 }) a.leaf in
          let more = a.more in
          omega (arith, old, new, more)));
      end = λ some none here is.
          let past = none_past was.frames.items (record a.here { at = a.here.at + 1 }) none in
          let more = a.more in
          absurd (omega (arith, past, more));
      stands = λ ended. cc;
      over = λ pages o. record { usable = o.usable; most = o.most; readable = o.readable };
    })
