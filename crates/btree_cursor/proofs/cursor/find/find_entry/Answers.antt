use Rattle.std.proofs.Common.{◌≡◌, ◌⊎◌, ◌<◌, List, inl, inr, map, Bool, refl, sym, ◌∙◌, ap, subst, rules}
use Rattle.std.proofs.lemmas.Result.{err_from_is_err_and}
use Rattle.values.specs.Datum.{datum_of}
use Rattle.pager.specs.declared.header.Header.{Header}
use Rattle.pager.specs.PagerState.{IsSoundHeader, PagerState, image_size}
use Rattle.pager.specs.Calls.{IsReadFault}
use Rattle.btree.specs.declared.image.kind.TreeKind.TheVariants.{Index}
use Rattle.btree.specs.image.Pages.{IsNumber, Pages, pages_seen}
use Rattle.btree.specs.image.Shape.{place_at}
use Rattle.btree.specs.image.Tree.{from_root}
use Rattle.btree.specs.Views.{cell_data}
use Rattle.btree.proofs.SeenLemmas.{readable, same_pages, still_steady}
use Rattle.btree_cursor.specs.index_entries.Entries.{BreaksCell, HasRecord}
use Rattle.btree_cursor.specs.cursor.Search.{IsSearchableIndex}
use Rattle.btree_cursor.proofs.lemmas.cursor.FindLemmas.{asks_kept, asks_none, compare_fault, first_place, first_record, first_ties, none_after, none_ties}
use Rattle.btree_cursor.proofs.lemmas.cursor.StandLemmas.{stands_blames, stands_entries, stands_whole}
use Rattle.btree_cursor.proofs.cursor.find.find_entry.Goals as goal

pub returns-then-root-lt1-clause-outcome : goal.returns-then-root-lt1-clause-outcome
returns-then-root-lt1-clause-outcome g c =
    let header : c.header-header.result ≡ c.args.pager.now.state.header = c.header-header.ensures.is in
    let outside : ¬ IsNumber (pages_seen c.args.pager.now.state) c.args.root = search rules in
    record {
      only = tt;
      sound = λ steady levels values index. absurd (outside index.tree.number);
      cause = λ steady. inr (inl (1, from_root, λ sound. outside sound.0));
    }

pub returns-then-root-lt1-clause-asks : goal.returns-then-root-lt1-clause-asks
returns-then-root-lt1-clause-asks g c = asks_none _ _ _

pub returns-in_err-frame-clause-outcome : goal.returns-in_err-frame-clause-outcome
returns-in_err-frame-clause-outcome g c =
    let p = err_from_is_err_and c.from_residual.result c.from_residual.ensures.1 in
    let seen = pages_seen c.args.pager.now.state in
    rw (p.1, p.2)
    (record {
      only = c.in_err-frame.ensures.fault;
      sound = λ steady levels values index.
          c.in_err-frame.ensures.lands steady levels values
          (subst (λ (d : List Bool). IsSearchableIndex seen d values levels c.args.root) (sym c.sought_at-sought.ensures.descends) index);
      cause = λ steady. c.in_err-frame.ensures.way steady;
    })

pub returns-in_default-clause-outcome : goal.returns-in_default-clause-outcome
returns-in_default-clause-outcome g c =
    let seen = pages_seen c.args.pager.now.state in
    record {
      finds = λ steady levels values index.
          let s = c.in_ok-frame.ensures.lands steady levels values
          (subst (λ (d : List Bool). IsSearchableIndex seen d values levels c.args.root) (sym c.sought_at-sought.ensures.descends) index) in
          sym (none_after seen c.args.descends.now (map datum_of c.args.key.now) values levels c.args.root index c.sought_at-sought.result
          c.sought_at-sought.ensures.descends c.sought_at-sought.ensures.sought _ s (rw c.in_default.is at s.leads));
      come = λ steady. tt;
    }

pub returns-in_default-cell_of-clause-outcome : goal.returns-in_default-cell_of-clause-outcome
returns-in_default-cell_of-clause-outcome g c =
    let is : c.header-header.result ≡ c.args.pager.now.state.header = c.header-header.ensures.is in
    let seen = pages_seen c.args.pager.now.state in
    let sized = readable _ _ (subst (λ (x : Header). IsSoundHeader x) is c.header-header.ensures.sound) in
    let usable = ap (λ (x : Header). x.usable) (sym is) in
    let most = ap image_size (sym is) ∙ sym c.image_size-most.ensures in
    let within : c.in-Some.frame.at < c.in-Some.frame.count = rw c.in-Some.is at c.in_ok-frame.ensures.within in
    record {
      only = tt;
      sound = λ steady levels values index.
          let stands = rw c.in-Some.is at (c.in_ok-frame.ensures.way steady) in
          let s = c.in_ok-frame.ensures.lands steady levels values
          (subst (λ (d : List Bool). IsSearchableIndex seen d values levels c.args.root) (sym c.sought_at-sought.ensures.descends) index) in
          let first = rw c.in-Some.is at s.leads in
          let at = first_place seen c.args.descends.now (map datum_of c.args.key.now) values levels c.args.root index c.sought_at-sought.result
          c.sought_at-sought.ensures.descends c.sought_at-sought.ensures.sought _ s (place_at c.in-Some.frame.number c.in-Some.frame.at) first.later first.places_is in
          let some = c.in_default-cell_of.ensures.sure seen at.level stands.holds sized usable most at.page at.entries within in
          absurd (cc);
      cause = λ steady.
          let s = rw c.in-Some.is at (c.in_ok-frame.ensures.way steady) in
          inr (inl (
            s.depth,
            s.met,
            λ sound.
                let level = sound.1.level in
                let some = c.in_default-cell_of.ensures.sure seen level s.holds sized usable most sound.1.page
                (stands_entries seen Index c.args.root c.in-Some.frame s level sound.1.page) within in
                absurd (cc),
          ));
    }

pub returns-in_err-agrees-clause-outcome : goal.returns-in_err-agrees-clause-outcome
returns-in_err-agrees-clause-outcome g c =
    let p = err_from_is_err_and c.from_residual-in_err-agrees.result c.from_residual-in_err-agrees.ensures.1 in
    let is : c.header-header.result ≡ c.args.pager.now.state.header = c.header-header.ensures.is in
    let seen = pages_seen c.args.pager.now.state in
    let usable = ap (λ (x : Header). x.usable) (sym is) in
    let most = ap image_size (sym is) ∙ sym c.image_size-most.ensures in
    let within : c.in-Some.frame.at < c.in-Some.frame.count = rw c.in-Some.is at c.in_ok-frame.ensures.within in
    let stays = c.first_entry.ensures.reads.image in
    let place = place_at c.in-Some.frame.number c.in-Some.frame.at in
    rw (p.1, p.2)
    (record {
      only = compare_fault c.args.root c.in-Some.frame.number _ c.in_err-agrees.ensures.only;
      sound = λ steady levels values index.
          let stands = rw c.in-Some.is at (c.in_ok-frame.ensures.way steady) in
          let s = c.in_ok-frame.ensures.lands steady levels values
          (subst (λ (d : List Bool). IsSearchableIndex seen d values levels c.args.root) (sym c.sought_at-sought.ensures.descends) index) in
          let first = rw c.in-Some.is at s.leads in
          let at = c.in-Some-cell_of.ensures.found seen stands.holds usable most in
          let has = first_record seen c.args.descends.now (map datum_of c.args.key.now) values levels c.args.root index c.sought_at-sought.result
          c.sought_at-sought.ensures.descends c.sought_at-sought.ensures.sought _ s place first.later first.places_is (cell_data c.in-Some-cell_of.cell) at in
          c.in_err-agrees.ensures.found (still_steady _ _ stays steady) (values place)
          (subst (λ (x : Pages). HasRecord x (cell_data c.in-Some-cell_of.cell) (values place)) (sym (same_pages _ _ stays)) has);
      cause = λ steady.
          let stands = rw c.in-Some.is at (c.in_ok-frame.ensures.way steady) in
          let at = c.in-Some-cell_of.ensures.found seen stands.holds usable most in
          let broken = subst (λ (x : Pages). IsReadFault c.in_err-agrees.field-0.0 ⊎ BreaksCell x c.in-Some.frame.number (cell_data c.in-Some-cell_of.cell) c.in_err-agrees.field-0.0)
          (same_pages _ _ stays) (c.in_err-agrees.ensures.broken (still_steady _ _ stays steady)) in
          elim broken [
            | inl read ↦ inl read
            | inr cell ↦ inr (inr (stands_blames seen c.args.root c.in-Some.frame stands (cell_data c.in-Some-cell_of.cell) within at _ cell))
          ];
    })

pub returns-then-not-agrees-clause-outcome : goal.returns-then-not-agrees-clause-outcome
returns-then-not-agrees-clause-outcome g c =
    let is : c.header-header.result ≡ c.args.pager.now.state.header = c.header-header.ensures.is in
    let seen = pages_seen c.args.pager.now.state in
    let usable = ap (λ (x : Header). x.usable) (sym is) in
    let most = ap image_size (sym is) ∙ sym c.image_size-most.ensures in
    let stays = c.first_entry.ensures.reads.image in
    let place = place_at c.in-Some.frame.number c.in-Some.frame.at in
    record {
      finds = λ steady levels values index.
          let stands = rw c.in-Some.is at (c.in_ok-frame.ensures.way steady) in
          let s = c.in_ok-frame.ensures.lands steady levels values
          (subst (λ (d : List Bool). IsSearchableIndex seen d values levels c.args.root) (sym c.sought_at-sought.ensures.descends) index) in
          let first = rw c.in-Some.is at s.leads in
          let at = c.in-Some-cell_of.ensures.found seen stands.holds usable most in
          let has = first_record seen c.args.descends.now (map datum_of c.args.key.now) values levels c.args.root index c.sought_at-sought.result
          c.sought_at-sought.ensures.descends c.sought_at-sought.ensures.sought _ s place first.later first.places_is (cell_data c.in-Some-cell_of.cell) at in
          let before = c.in_ok-agrees.ensures.found (still_steady _ _ stays steady) (values place)
          (subst (λ (x : Pages). HasRecord x (cell_data c.in-Some-cell_of.cell) (values place)) (sym (same_pages _ _ stays)) has) in
          sym (none_ties seen c.args.descends.now (map datum_of c.args.key.now) values levels c.args.root index c.sought_at-sought.result
          c.sought_at-sought.ensures.descends c.sought_at-sought.ensures.sought _ s place first.later first.places_is
          c.sought_at-after.result c.sought_at-after.ensures.descends c.sought_at-after.ensures.sought (sym before ∙ c.if-not-agrees.true));
      come = λ steady. tt;
    }

pub invariant_of-found : goal.invariant_of-found
invariant_of-found g c = record { there = λ lacks. lacks (cell_data c.in-Some-cell_of.cell) c.in-Some-cell_of.ensures.held }

pub returns-clause-outcome : goal.returns-clause-outcome
returns-clause-outcome g c =
    let is : c.header-header.result ≡ c.args.pager.now.state.header = c.header-header.ensures.is in
    let seen = pages_seen c.args.pager.now.state in
    let usable = ap (λ (x : Header). x.usable) (sym is) in
    let most = ap image_size (sym is) ∙ sym c.image_size-most.ensures in
    let stays = c.first_entry.ensures.reads.image in
    let place = place_at c.in-Some.frame.number c.in-Some.frame.at in
    record {
      finds = λ steady levels values index.
          let stands = rw c.in-Some.is at (c.in_ok-frame.ensures.way steady) in
          let s = c.in_ok-frame.ensures.lands steady levels values
          (subst (λ (d : List Bool). IsSearchableIndex seen d values levels c.args.root) (sym c.sought_at-sought.ensures.descends) index) in
          let first = rw c.in-Some.is at s.leads in
          let at = c.in-Some-cell_of.ensures.found seen stands.holds usable most in
          let has = first_record seen c.args.descends.now (map datum_of c.args.key.now) values levels c.args.root index c.sought_at-sought.result
          c.sought_at-sought.ensures.descends c.sought_at-sought.ensures.sought _ s place first.later first.places_is (cell_data c.in-Some-cell_of.cell) at in
          let before = c.in_ok-agrees.ensures.found (still_steady _ _ stays steady) (values place)
          (subst (λ (x : Pages). HasRecord x (cell_data c.in-Some-cell_of.cell) (values place)) (sym (same_pages _ _ stays)) has) in
          sym (first_ties seen c.args.descends.now (map datum_of c.args.key.now) values levels c.args.root index c.sought_at-sought.result
          c.sought_at-sought.ensures.descends c.sought_at-sought.ensures.sought _ s place first.later first.places_is
          c.sought_at-after.result c.sought_at-after.ensures.descends c.sought_at-after.ensures.sought (sym before ∙ c.if-not-agrees.false));
      come = λ steady. record { kind_is = refl; stands = rw c.in-Some.is at (c.in_ok-frame.ensures.way steady); usable = usable; most = most };
    }

pub returns-in_err-agrees-clause-asks : goal.returns-in_err-agrees-clause-asks
returns-in_err-agrees-clause-asks g c = asks_kept _ _ _ _ _ c.first_entry.ensures.asks c.cell_comes_before.ensures.reads.chains.unasked

pub returns-in_err-agrees-clause-unchained : goal.returns-in_err-agrees-clause-unchained
returns-in_err-agrees-clause-unchained g c = λ steady whole.
    let is : c.header-header.result ≡ c.args.pager.now.state.header = c.header-header.ensures.is in
    let stands = rw c.in-Some.is at (c.in_ok-frame.ensures.way steady) in
    let none = stands_whole (pages_seen c.args.pager.now.state) c.args.root c.in-Some.frame stands (cell_data c.in-Some-cell_of.cell) _ _
    (ap (λ (x : Header). x.usable) (sym is)) (ap image_size (sym is) ∙ sym c.image_size-most.ensures) c.in-Some-cell_of.ensures.held whole in
    ap (λ (x : PagerState). x.chained) (c.cell_comes_before.ensures.local none) ∙ c.first_entry.ensures.unchained steady whole

pub returns-then-not-agrees-clause-asks : goal.returns-then-not-agrees-clause-asks
returns-then-not-agrees-clause-asks g c = asks_kept _ _ _ _ _ c.first_entry.ensures.asks c.cell_comes_before.ensures.reads.chains.unasked

pub returns-then-not-agrees-clause-unchained : goal.returns-then-not-agrees-clause-unchained
returns-then-not-agrees-clause-unchained g c = λ steady whole.
    let is : c.header-header.result ≡ c.args.pager.now.state.header = c.header-header.ensures.is in
    let stands = rw c.in-Some.is at (c.in_ok-frame.ensures.way steady) in
    let none = stands_whole (pages_seen c.args.pager.now.state) c.args.root c.in-Some.frame stands (cell_data c.in-Some-cell_of.cell) _ _
    (ap (λ (x : Header). x.usable) (sym is)) (ap image_size (sym is) ∙ sym c.image_size-most.ensures) c.in-Some-cell_of.ensures.held whole in
    ap (λ (x : PagerState). x.chained) (c.cell_comes_before.ensures.local none) ∙ c.first_entry.ensures.unchained steady whole

pub returns-clause-asks : goal.returns-clause-asks
returns-clause-asks g c = asks_kept _ _ _ _ _ c.first_entry.ensures.asks c.cell_comes_before.ensures.reads.chains.unasked

pub returns-clause-unchained : goal.returns-clause-unchained
returns-clause-unchained g c = λ steady whole.
    let is : c.header-header.result ≡ c.args.pager.now.state.header = c.header-header.ensures.is in
    let stands = rw c.in-Some.is at (c.in_ok-frame.ensures.way steady) in
    let none = stands_whole (pages_seen c.args.pager.now.state) c.args.root c.in-Some.frame stands (cell_data c.in-Some-cell_of.cell) _ _
    (ap (λ (x : Header). x.usable) (sym is)) (ap image_size (sym is) ∙ sym c.image_size-most.ensures) c.in-Some-cell_of.ensures.held whole in
    ap (λ (x : PagerState). x.chained) (c.cell_comes_before.ensures.local none) ∙ c.first_entry.ensures.unchained steady whole
