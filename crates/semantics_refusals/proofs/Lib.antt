mod OkLemmas
mod TakenLemmas
mod WithLemmas
mod KnownLemmas
mod NameLemmas
mod PartLemmas
mod PlacedLemmas
mod OutcomeLemmas
mod TermLemmas
mod PlaceLemmas
mod ScopeLemmas
mod SourceLemmas
mod CoreLemmas
mod QueryLemmas
mod EvenLemmas
mod TypeLemmas
mod StatementLemmas
mod ReasonLemmas
mod ErrLemmas
mod ClashLemmas
mod OwnLemmas
mod HandsLemmas
mod WithinTermLemmas
mod WithinLemmas
mod WithinScopeLemmas
mod WithinPlaceLemmas
mod WithinCoreLemmas
mod WithinQueryLemmas
mod WithinStatementLemmas
mod LengthLemmas
mod MismatchLemmas
mod MismatchQueryLemmas
mod MismatchStatementLemmas
pub mod RefusalLemmas
mod SelectLemmas
mod ToldLemmas
mod SameColumnLemmas
mod CoreToldLemmas
pub mod UnknownSourceLemmas
pub mod RepeatedLemmas
pub mod UnknownColumnLemmas
mod TightLemmas
pub mod SpeltLemmas
pub mod UnevenLemmas
mod OddsLemmas
mod MistypedLemmas
pub mod MistypedQueryLemmas
pub mod MistypedFaultLemmas
pub mod ExampleLemmas
pub mod TypeExampleLemmas
mod CountLemmas
pub mod LimitLemmas
mod FrameLemmas
mod FrameRefusedLemmas
pub mod WindowLemmas
pub mod WrongPlaceLemmas
mod WiderLemmas
mod BareLemmas
mod BareTraceLemmas
mod BareCoreLemmas
pub mod BareRefusedLemmas
pub mod AlikeLemmas
