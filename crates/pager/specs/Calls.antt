-- What a call leaves of a pager, and how its result tells of failed reads.
use Rattle.std.specs.Prelude.{◌≡◌, ◌≢◌, ◌≤◌, ◌⊎◌, ℕ, Contains, IsTrue, List, length, Result, MatchResult}
use Rattle.values.specs.declared.fault.Fault.{Fault}
use Rattle.values.specs.declared.fault.Fault.TheVariants.{ReadFailed, NoMemory}
use Rattle.pager.specs.Header.{IsHeaderFault, IsLeastBroken, KeepsAll, header_of}
use Rattle.pager.specs.Page.{page_of}
use Rattle.pager.specs.PagerState.{IsSoundHeader, Opened, PagerState, after_chain_page, after_page, opened}
use Rattle.pager.specs.Source.{ChangesCount, SourceFacts}
use Rattle.pager.specs.declared.header.Header.{Header}

-- the faults that reading has: the source failed, or memory ran out
abbrev pub IsReadFault : Fault → Type 0
IsReadFault fault = (fault ≡ ReadFailed) ⊎ (fault ≡ NoMemory)

-- a call with this fault, over which the count of failed reads became another exactly where the fault says so
abbrev pub TellsFailedRead : Fault → ℕ → ℕ → Type 0
TellsFailedRead fault before after = (fault ≡ ReadFailed → after ≢ before) × (after ≢ before → fault ≡ ReadFailed)

-- the same of any call: at Ok no read has failed
abbrev pub TellsFailedReads : {T : Type 0} → Result T Fault → ℕ → ℕ → Type 0
TellsFailedReads result before after =
    MatchResult result (λ _. after ≡ before) (λ fault. TellsFailedRead fault before after)

-- The image and the capacity are the same: only counts and the pages that are kept may differ, and the counts of calls
-- don't fall.
pub record SameImage (old new : PagerState) : Type 0 where
  pub bytes : new.source.bytes ≡ old.source.bytes
  pub steady : new.source.steady ≡ old.source.steady
  pub header : new.header ≡ old.header
  pub capacity : new.capacity ≡ old.capacity
  pub asked : old.asked ≤ new.asked
  pub chained : old.chained ≤ new.chained

-- a call that reads pages, and tells of a read that has failed
pub record ReadsPages {T : Type 0} (result : Result T Fault) (old new : PagerState) : Type 0 where
  pub image : SameImage old new
  pub failures : TellsFailedReads result old.source.failures new.source.failures

-- the same of a call that asks for no page of an overflow chain
pub record ReadsTreePages {T : Type 0} (result : Result T Fault) (old new : PagerState) : Type 0 where
  pub image : SameImage old new
  pub failures : TellsFailedReads result old.source.failures new.source.failures
  pub unchained : new.chained ≡ old.chained

-- pages of overflow chains alone were asked for, which aren't kept
pub record AsksChainsOnly (old new : PagerState) : Type 0 where
  pub image : SameImage old new
  pub unasked : new.asked ≡ old.asked
  pub cached : new.cached ≡ old.cached

-- the same of a call that asks for these alone
pub record ReadsChainPages {T : Type 0} (result : Result T Fault) (old new : PagerState) : Type 0 where
  pub chains : AsksChainsOnly old new
  pub failures : TellsFailedReads result old.source.failures new.source.failures

-- the n-th page as it was read: over a steady source it is the image's
pub record IsPage (pager : PagerState) (n : ℕ) (page : List ℕ) : Type 0 where
  pub is : IsTrue pager.source.steady → page ≡ page_of pager.source.bytes n
  pub long : length page ≡ pager.header.page_size

-- One call of `page` n: nothing else has changed, and where the page was kept its source is as it was.
pub record AsksPage {S : Type 0} (n : ℕ) (old new : Opened S) : Type 0 where
  pub after : new.state ≡ after_page old.state new.state.source.failures new.state.cached
  pub few : length new.state.cached ≤ new.state.capacity
  pub sound : IsSoundHeader old.state.header
  pub held : Contains old.state.cached n → (new.from ≡ old.from) × (new.state.source ≡ old.state.source)

-- one call of `chain_page`
pub record AsksChainPage (old new : PagerState) : Type 0 where
  pub after : new ≡ after_chain_page old new.source.failures
  pub sound : IsSoundHeader old.header

-- the header as it was read: over a steady source it is the image's
pub record IsHeaderOf (pager : PagerState) (header : Header) : Type 0 where
  pub is : header ≡ pager.header
  pub sound : IsSoundHeader header
  pub steady : IsTrue pager.source.steady → header ≡ header_of pager.source.bytes

-- a pager that was opened over a source, which breaks no condition of the header
pub record IsOpened (source : SourceFacts) (capacity : ℕ) (pager : PagerState) : Type 0 where
  pub is : pager ≡ opened source pager.header capacity
  pub kept : IsTrue source.steady → KeepsAll source.bytes

-- why a source wasn't opened: a fault of reading, or one of the header, which a steady source has
abbrev pub IsOpenFault : SourceFacts → Fault → Type 0
IsOpenFault source fault =
    IsReadFault fault ⊎ (IsHeaderFault fault × (IsTrue source.steady → IsLeastBroken source.bytes fault))

-- a source that is handed back at a fault
pub record HandsBack (fault : Fault) (old new : SourceFacts) : Type 0 where
  pub same : ChangesCount old new
  pub failures : TellsFailedRead fault old.failures new.failures
