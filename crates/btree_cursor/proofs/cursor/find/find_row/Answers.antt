use Rattle.std.proofs.Common.{◌≡◌, ℤ, Some, inr, refl, sym, ◌∙◌, ap, subst, arith, w64, SFits, rules}
use Rattle.std.proofs.lemmas.Int.{to_z-of_z}
use Rattle.std.proofs.lemmas.Result.{err_from_is_err_and}
use Rattle.pager.specs.declared.header.Header.{Header}
use Rattle.pager.specs.PagerState.{IsSoundHeader, image_size}
use Rattle.btree.specs.declared.image.kind.TreeKind.TheVariants.{Table}
use Rattle.btree.specs.declared.image.kind.Level.TheVariants.{Leaf}
use Rattle.btree.specs.image.Pages.{IsNumber, pages_seen}
use Rattle.btree.specs.image.Tree.{from_root}
use Rattle.btree.specs.Views.{cell_data}
use Rattle.btree.proofs.SeenLemmas.{readable}
use Rattle.btree.proofs.lemmas.image.RowidLemmas.{one_rowid}
use Rattle.btree_cursor.proofs.lemmas.cursor.FindLemmas.{asks_none, one_row, other_rowid, same_rowid}
use Rattle.btree_cursor.proofs.lemmas.cursor.StandLemmas.{stands_entries}
use Rattle.btree_cursor.proofs.cursor.find.find_row.Goals as goal

pub returns-then-root-lt1-clause-outcome : goal.returns-then-root-lt1-clause-outcome
returns-then-root-lt1-clause-outcome g c =
    let header : c.header-header.result ≡ c.args.pager.now.state.header = c.header-header.ensures.is in
    let outside : ¬ IsNumber (pages_seen c.args.pager.now.state) c.args.root = search rules in
    record {
      only = tt;
      sound = λ steady levels table. absurd (outside table.tree.number);
      cause = λ steady. inr (1, from_root, λ sound. outside sound.0);
    }

pub returns-then-root-lt1-clause-asks : goal.returns-then-root-lt1-clause-asks
returns-then-root-lt1-clause-asks g c = asks_none _ _ _

pub returns-in_err-frame-clause-outcome : goal.returns-in_err-frame-clause-outcome
returns-in_err-frame-clause-outcome g c =
    let p = err_from_is_err_and c.from_residual.result c.from_residual.ensures.1 in
    rw (p.1, p.2)
    (record {
      only = c.in_err-frame.ensures.fault;
      sound = λ steady levels table. c.in_err-frame.ensures.lands steady levels table;
      cause = λ steady. c.in_err-frame.ensures.way steady;
    })

pub returns-then-frame-clause-outcome : goal.returns-then-frame-clause-outcome
returns-then-frame-clause-outcome g c = record {
  finds = λ steady levels table row.
      let fits : SFits w64 c.args.rowid = search rules in
      let leaf = rw (to_z-of_z w64 c.args.rowid fits) at (c.in_ok-frame.ensures.lands steady levels table) in
      omega (arith, (leaf.only row).0);
  come = λ steady. tt;
  has = tt;
}

pub returns-in_default-clause-outcome : goal.returns-in_default-clause-outcome
returns-in_default-clause-outcome g c =
    let is : c.header-header.result ≡ c.args.pager.now.state.header = c.header-header.ensures.is in
    let seen = pages_seen c.args.pager.now.state in
    let sized = readable _ _ (subst (λ (x : Header). IsSoundHeader x) is c.header-header.ensures.sound) in
    let usable = ap (λ (x : Header). x.usable) (sym is) in
    let most = ap image_size (sym is) ∙ sym c.image_size-most.ensures in
    record {
      only = tt;
      sound = λ steady levels table.
          let leaf = c.in_ok-frame.ensures.lands steady levels table in
          let some = c.in_default.ensures.sure seen Leaf (c.in_ok-frame.ensures.way steady).holds sized usable most leaf.page tt c.if-frame.false in
          absurd (cc);
      cause = λ steady.
          let s = c.in_ok-frame.ensures.way steady in
          inr (
            s.depth,
            s.met,
            λ sound.
                let level = sound.1.level in
                let some = c.in_default.ensures.sure seen level s.holds sized usable most sound.1.page
                (stands_entries seen Table c.args.root c.in_ok-frame.frame s level sound.1.page) c.if-frame.false in
                absurd (cc),
          );
    }

pub returns-then-ne-clause-outcome : goal.returns-then-ne-clause-outcome
returns-then-ne-clause-outcome g c = record {
  finds = λ steady levels table row.
      let is : c.header-header.result ≡ c.args.pager.now.state.header = c.header-header.ensures.is in
      let seen = pages_seen c.args.pager.now.state in
      let fits : SFits w64 c.args.rowid = search rules in
      let leaf = rw (to_z-of_z w64 c.args.rowid fits) at (c.in_ok-frame.ensures.lands steady levels table) in
      let at = c.in-Some.ensures.found seen (c.in_ok-frame.ensures.way steady).holds (ap (λ (x : Header). x.usable) (sym is)) (ap image_size (sym is) ∙ sym c.image_size-most.ensures) in
      let same : c.args.rowid ≡ at.is.rowid =
      one_rowid seen Leaf c.in_ok-frame.frame.number c.in_ok-frame.frame.at c.args.rowid at.is.rowid (leaf.only row).1 (cell_data c.in-Some.cell, at.is, at.is.has_rowid) in
      other_rowid c.in-Some.cell.rowid c.args.rowid c.ne.result (rw (to_z-of_z w64 c.args.rowid fits) at c.ne.ensures) c.if-ne.true
      (at.is.has_rowid ∙ ap (λ (k : ℤ). Some k) (sym same));
  come = λ steady. tt;
  has = tt;
}

pub invariant_of-found : goal.invariant_of-found
invariant_of-found g c = record { there = λ lacks. lacks (cell_data c.in-Some.cell) c.in-Some.ensures.held }

pub returns-clause-outcome : goal.returns-clause-outcome
returns-clause-outcome g c =
    let is : c.header-header.result ≡ c.args.pager.now.state.header = c.header-header.ensures.is in
    let seen = pages_seen c.args.pager.now.state in
    let usable = ap (λ (x : Header). x.usable) (sym is) in
    let most = ap image_size (sym is) ∙ sym c.image_size-most.ensures in
    let fits : SFits w64 c.args.rowid = search rules in
    let rowid : c.in-Some.cell.rowid ≡ Some c.args.rowid =
    same_rowid c.in-Some.cell.rowid c.args.rowid c.ne.result (rw (to_z-of_z w64 c.args.rowid fits) at c.ne.ensures) c.if-ne.false in
    record {
      finds = λ steady levels table.
          let leaf = rw (to_z-of_z w64 c.args.rowid fits) at (c.in_ok-frame.ensures.lands steady levels table) in
          let at = c.in-Some.ensures.found seen (c.in_ok-frame.ensures.way steady).holds usable most in
          record { is_there = leaf.is_there c.if-frame.false; has = (cell_data c.in-Some.cell, at.is, rowid) };
      come = λ steady. record { kind_is = refl; stands = c.in_ok-frame.ensures.way steady; usable = usable; most = most };
      has = λ cell held.
          let same = one_row _ _ _ _ _ held c.in-Some.ensures.held in
          ap (λ x. x.rowid) same ∙ rowid;
    }

pub returns-clause-outside : goal.returns-clause-outside
returns-clause-outside g c = λ outside.
    let is : c.header-header.result ≡ c.args.pager.now.state.header = c.header-header.ensures.is in
    absurd (outside (search rules))
