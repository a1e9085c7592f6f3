-- Rows that are gathered until none is to come.
use Rattle.std.proofs.Common.{◌≡◌, ◌∙◌, Bool, true, false, IsTrue, ℕ, List, [], ◌∷◌, ◌++◌, append-nil, append_assoc, refl, sym, ap, subst}
use Rattle.values.specs.Row.{Row}
use Rattle.pager.specs.Calls.{SameImage}
use Rattle.pager.specs.PagerState.{PagerState}
use Rattle.btree.specs.image.Pages.{Pages, WhereSteady, pages_seen}
use Rattle.logical_plan.specs.answers.Sources.{SourceData}
use Rattle.operators_scan.specs.scan.Coming.{Asks}
use Rattle.operators_scan.proofs.lemmas.scan.ComingLemmas.{Asks-none, Asks-then}
use Rattle.operators_loops.specs.Basis.{AreStored, Basis, GivesNext, GivesRowOrNone}
use Rattle.operators_loops.proofs.RowLemmas.{at_start}

-- what gives rows one by one, and what is still to come of it
module _ {V : Type 0} (IsToCome : Pages → List SourceData → Basis → V → List Row → ℕ → Type 0) where
  -- of the rows to come some were given, of which this is said, and the others are still to come
  abbrev pub Gathering : PagerState → List SourceData → V → V → (List Row → Type 0) → PagerState → Type 0
  Gathering start sources begun stream IsGiven now =
      WhereSteady start (λ pages. (on : Basis) (rest : List Row) (ahead : ℕ) → AreStored pages sources on → IsToCome pages sources on begun rest ahead
      → (given : List Row) × (later : List Row) × (left : ℕ) × IsToCome pages sources on stream later left × (rest ≡ given ++ later)
      × Asks on.local start ahead now left × IsGiven given)

  pub Gathering-start : (start : PagerState) (sources : List SourceData) (stream : V) (IsGiven : List Row → Type 0) → IsGiven []
      → Gathering start sources stream stream IsGiven start
  Gathering-start start sources stream IsGiven none steady on rest ahead has coming = ([], rest, ahead, coming, refl, Asks-none on.local start ahead, none)

  -- what a call answers of the rows to come
  abbrev pub CalledNext : List SourceData → V → V → Bool → Row → PagerState → PagerState → Pages → Type 0
  CalledNext sources old new found row now then pages =
      (on : Basis) (rest : List Row) (more : ℕ) → AreStored pages sources on → IsToCome pages sources on old rest more
      → GivesRowOrNone found on.local now more then rest row (IsToCome pages sources on new)

  module _ (start now : PagerState) (image : SameImage start now) (sources : List SourceData) (begun stream : V) (IsGiven : List Row → Type 0)
      (keeps : Gathering start sources begun stream IsGiven now)
      (steady : IsTrue start.source.steady) (on : Basis) (rest : List Row) (ahead : ℕ) (has : AreStored (pages_seen start) sources on)
      (coming : IsToCome (pages_seen start) sources on begun rest ahead) where
    here : (given : List Row) × (later : List Row) × (left : ℕ) × IsToCome (pages_seen start) sources on stream later left × (rest ≡ given ++ later)
        × Asks on.local start ahead now left × IsGiven given
    here = keeps steady on rest ahead has coming

    -- what is said of the rows to come
    pub gather_says : (Then : Basis → Type 0)
        → WhereSteady now (λ pages. (on : Basis) (rest : List Row) (more : ℕ) → AreStored pages sources on → IsToCome pages sources on stream rest more → Then on)
        → Then on
    gather_says Then says =
        at_start start now image (λ pages. (on : Basis) (rest : List Row) (more : ℕ) → AreStored pages sources on → IsToCome pages sources on stream rest more → Then on) says
        steady on here.1 here.2 has here.3

    module _ (new : V) (row : Row) (then : PagerState) where
      -- all were gathered
      pub gathered_all : WhereSteady now (CalledNext sources stream new false row now then) → IsGiven rest × Asks on.local start ahead then 0
      gathered_all called =
          let none = at_start start now image (CalledNext sources stream new false row now then) called steady on here.1 here.2 has here.3 in (
            subst IsGiven (sym (append-nil here.0) ∙ ap (λ later. here.0 ++ later) (sym none.rest_is) ∙ sym here.4) here.6,
            Asks-then on.local start ahead now here.2 then 0 here.5 none.asks,
          )

      -- a row more
      pub gathered_more : (Then : List Row → Type 0) → ((given : List Row) → IsGiven given → Then (given ++ row ∷ []))
          → WhereSteady now (CalledNext sources stream new true row now then)
          → (given : List Row) × (later : List Row) × (left : ℕ) × IsToCome (pages_seen start) sources on new later left × (rest ≡ given ++ later)
          × Asks on.local start ahead then left × Then given
      gathered_more Then goes_on called =
          let next : GivesNext on.local now here.2 then here.1 row (IsToCome (pages_seen start) sources on new) =
          at_start start now image (CalledNext sources stream new true row now then) called steady on here.1 here.2 has here.3 in (
            here.0 ++ row ∷ [],
            next.later,
            next.left,
            next.is_left,
            here.4 ∙ ap (λ later. here.0 ++ later) next.rest_is ∙ sym (append_assoc here.0 (row ∷ []) next.later),
            Asks-then on.local start ahead now here.2 then next.left here.5 next.asks,
            goes_on here.0 here.6,
          )
