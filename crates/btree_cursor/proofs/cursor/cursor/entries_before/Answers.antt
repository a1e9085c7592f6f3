use Rattle.std.proofs.Common.{◌≡◌, ◌⊎◌, ◌<◌, ap, arith, sym, subst}
use Rattle.pager.specs.declared.header.Header.{Header}
use Rattle.pager.specs.PagerState.{IsSoundHeader}
use Rattle.btree.specs.declared.image.kind.TreeKind.TheVariants.{Index}
use Rattle.btree.specs.declared.image.kind.Level.{Level}
use Rattle.btree.specs.image.Pages.{pages_seen}
use Rattle.btree.specs.image.Layout.{cell_count}
use Rattle.btree.specs.Bytes.{IsEntryCell}
use Rattle.btree.specs.ViewData.{ViewData}
use Rattle.btree.proofs.SeenLemmas.{readable}
use Rattle.pager.specs.Calls.{IsReadFault}
use Rattle.btree_cursor.specs.index_entries.Entries.{AreValuesOf, BreaksEntry}
use Rattle.std.specs.Prelude.{IfErr}
use Rattle.btree_cursor.proofs.lemmas.index_entries.EntryLemmas.{count_is}
use Rattle.btree_cursor.specs.cursor.Search.{IsUnchainedPage}
use Rattle.btree_cursor.proofs.lemmas.cursor.EntrySeekLemmas.{view_held, view_level}
use Rattle.btree_cursor.proofs.lemmas.cursor.FrameLemmas.{no_view, IfOk-weaker}
use Rattle.btree_cursor.proofs.cursor.cursor.entries_before.Goals as goal

pub returns-in_default-clause-found : goal.returns-in_default-clause-found
returns-in_default-clause-found g c = λ steady level values holds has.
    let same : c.header-usable.result ≡ c.args.pager.now.state.header = c.header-usable.ensures.is in
    absurd (no_view (pages_seen c.args.pager.now.state) Index c.args.frame.now c.header-usable.result.usable holds (ap (λ (x : Header). x.usable) (sym same))
    (readable _ _ (subst (λ (x : Header). IsSoundHeader x) same c.header-usable.ensures.sound)) level has.page.header c.in_default.ensures.none)

pub returns-in_default-clause-broken : goal.returns-in_default-clause-broken
returns-in_default-clause-broken g c = λ steady level holds header.
    let same : c.header-usable.result ≡ c.args.pager.now.state.header = c.header-usable.ensures.is in
    absurd (no_view (pages_seen c.args.pager.now.state) Index c.args.frame.now c.header-usable.result.usable holds (ap (λ (x : Header). x.usable) (sym same))
    (readable _ _ (subst (λ (x : Header). IsSoundHeader x) same c.header-usable.ensures.sound)) level header c.in_default.ensures.none)

pub returns-clause-found : goal.returns-clause-found
returns-clause-found g c = λ steady level values holds has.
    let same : c.header-usable.result ≡ c.args.pager.now.state.header = c.header-usable.ensures.is in
    let of = c.in-Some.ensures.found.0 in
    let usable = ap (λ (x : Header). x.usable) (sym same) in
    let held = view_held (pages_seen c.args.pager.now.state) c.args.frame.now _ holds usable c.in-Some.view of in
    let is : c.in-Some.view.level ≡ level = view_level (pages_seen c.args.pager.now.state) c.args.frame.now _ holds usable c.in-Some.view of level has.page.header in
    c.entry_boundary.ensures.found steady values held (subst (λ (l : Level). AreValuesOf (pages_seen c.args.pager.now.state) values l c.args.frame.now.number) (sym is) has)

pub returns-clause-within : goal.returns-clause-within
returns-clause-within g c = λ steady holds.
    let same : c.header-usable.result ≡ c.args.pager.now.state.header = c.header-usable.ensures.is in
    let of = c.in-Some.ensures.found.0 in
    let held = view_held (pages_seen c.args.pager.now.state) c.args.frame.now _ holds (ap (λ (x : Header). x.usable) (sym same)) c.in-Some.view of in
    let count = count_is (pages_seen c.args.pager.now.state) c.args.frame.now.number c.in-Some.view held in
    IfOk-weaker c.entry_boundary.result (λ p within. omega (arith, within, count)) c.entry_boundary.ensures.within

pub returns-clause-broken : goal.returns-clause-broken
returns-clause-broken g c = λ steady level holds header.
    let same : c.header-usable.result ≡ c.args.pager.now.state.header = c.header-usable.ensures.is in
    let of = c.in-Some.ensures.found.0 in
    let usable = ap (λ (x : Header). x.usable) (sym same) in
    let held = view_held (pages_seen c.args.pager.now.state) c.args.frame.now _ holds usable c.in-Some.view of in
    let is : c.in-Some.view.level ≡ level = view_level (pages_seen c.args.pager.now.state) c.args.frame.now _ holds usable c.in-Some.view of level header in
    subst (λ (l : Level). IfErr c.entry_boundary.result (λ e. IsReadFault e ⊎ BreaksEntry (pages_seen c.args.pager.now.state) l c.args.frame.now.number e)) is
    (c.entry_boundary.ensures.broken steady held)

pub returns-clause-local : goal.returns-clause-local
returns-clause-local g c = λ steady level holds header whole.
    let same : c.header-usable.result ≡ c.args.pager.now.state.header = c.header-usable.ensures.is in
    let seen = pages_seen c.args.pager.now.state in
    let n = c.args.frame.now.number in
    let of = c.in-Some.ensures.found.0 in
    let usable = ap (λ (x : Header). x.usable) (sym same) in
    let held = view_held seen c.args.frame.now _ holds usable c.in-Some.view of in
    let is : c.in-Some.view.level ≡ level = view_level seen c.args.frame.now _ holds usable c.in-Some.view of level header in
    let own : IsUnchainedPage seen c.in-Some.view.level n = subst (λ (l : Level). IsUnchainedPage seen l n) (sym is) whole in
    c.entry_boundary.ensures.local (λ i cell within entry.
    own i cell (subst (λ (v : ViewData). i < cell_count v.at v.page) held.is within)
    (subst (λ (v : ViewData). IsEntryCell v.at seen.size v.level v.page i cell) held.is entry))
