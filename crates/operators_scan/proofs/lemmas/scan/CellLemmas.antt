-- The payload of a cell, and the columns of a row that are put behind others.
use Rattle.std.proofs.Common.{◌≡◌, ◌∙◌, ◌⊎◌, ◌+◌, ◌<◌, ℕ, zero, suc, List, [], ◌∷◌, ◌++◌, map, length, take, get_or, slice_get, Option, None, Some, IfOk, MatchResult, Result, Ok, Err, Global, refl, sym, ap, append_assoc, min, set}
use Rattle.std.proofs.lemmas.List.{map_push, take_min, take_more, take_more_set}
use Rattle.std.proofs.lemmas.Option.{get_or_from_slice_get}
use Rattle.std.specs.Cow.{cow_slice_items}
use Rattle.std.specs.Option.{ok_or, option_map}
use Rattle.std.specs.declared.borrow.CowSlice.{CowSlice}
use Rattle.values.specs.Datum.{Datum, null, datum_of}
use Rattle.values.specs.Row.{Row, Grows}
use Rattle.values.specs.declared.value.Value.{Value}
use Rattle.values.specs.declared.fault.Fault.TheVariants.{Changed, NoMemory, ReadFailed}
use Rattle.btree.specs.image.Cell.{PayloadData}
use Rattle.btree.specs.image.Chain.{HasBytes}
use Rattle.btree.specs.image.Pages.{Pages}
use Rattle.btree.proofs.lemmas.image.ChainLemmas.{one_payload}
use Rattle.btree.specs.Calls.{IsBytesOf}
use Rattle.semantics.specs.OneTable.{shown}
use Rattle.semantics.specs.Sequence.{value_at}

-- one column more
pub shown_more : (whole : Row) (columns : List ℕ) (i : ℕ) (front here there : Row) (d : Datum) → i < length columns
    → slice_get whole (get_or columns i 0) ≡ Some d → here ≡ front ++ shown (take i columns) whole → there ≡ here ++ d ∷ []
    → there ≡ front ++ shown (take (i + 1) columns) whole
shown_more whole columns i front here there d within at before is =
    is
    ∙ (λ k. before k ++ sym (get_or_from_slice_get whole (get_or columns i 0) d null at) k ∷ [])
    ∙ append_assoc front (shown (take i columns) whole) (value_at whole (get_or columns i 0) ∷ [])
    ∙ ap (λ t. front ++ t)
    (sym (map_push (value_at whole) (take i columns) (get_or columns i 0)) ∙ sym (ap (map (value_at whole)) (take_more columns i 0 within)))

-- one value more
pub Grows-more : (front here there : Row) (d : Datum) → Grows front here → there ≡ here ++ d ∷ [] → Grows front there
Grows-more front here there d grows is = (grows.0 ++ d ∷ [], is ∙ ap (λ t. t ++ d ∷ []) grows.1 ∙ append_assoc front grows.0 (d ∷ []))

-- ---- the row buffer

pub length_datums : (values : List Value) → length (map datum_of values) ≡ length values
length_datums [] = refl
length_datums (v ∷ values) = ap suc (length_datums values)

pub take_datums : (n : ℕ) (values : List Value) → map datum_of (take n values) ≡ take n (map datum_of values)
take_datums zero values = refl
take_datums (suc n) [] = refl
take_datums (suc n) (v ∷ values) = ap (λ rest. datum_of v ∷ rest) (take_datums n values)

-- the front of a row that may be shorter
pub front_is : (n len cut : ℕ) (values : List Value) → cut ≡ min n len → len ≡ length values → take cut (map datum_of values) ≡ take n (map datum_of values)
front_is n len cut values is long =
    ap (λ m. take m (map datum_of values)) (is ∙ ap (min n) (long ∙ sym (length_datums values))) ∙ take_min n (map datum_of values)

-- a value over that at its place
put_within : (values : List Value) (at : ℕ) (value : Value) (d : Datum) → at < length values → datum_of value ≡ d
    → take (at + 1) (map datum_of (set values at value)) ≡ take at (map datum_of values) ++ d ∷ []
put_within values at value d within is =
    sym (take_datums (at + 1) (set values at value)) ∙ ap (map datum_of) (take_more_set values at value within)
    ∙ map_push datum_of (take at values) value ∙ (λ k. take_datums at values k ++ is k ∷ [])

-- where there was memory for it
pub put_over : {T E : Type 0} (values : List Value) (at : ℕ) (value : Value) (d : Datum) → at < length values → (result : Result T E)
    → IfOk result (λ _. datum_of value ≡ d)
    → IfOk result (λ _. take (at + 1) (map datum_of (set values at value)) ≡ take at (map datum_of values) ++ d ∷ [])
put_over values at value d within (Ok x) is = put_within values at value d within is
put_over values at value d within (Err e) is = is

-- a payload that has bytes is found, where nothing fails
pub payload_found : (pages : Pages) (payload : PayloadData) (bytes : List ℕ) → HasBytes pages payload bytes → (found : Option (CowSlice ℕ Global))
    → IsBytesOf pages payload (option_map cow_slice_items found) → MatchResult (ok_or found Changed) (λ f. cow_slice_items f ≡ bytes) (λ e. (e ≡ ReadFailed) ⊎ (e ≡ NoMemory))
payload_found pages payload bytes has (Some found) is = one_payload pages payload (cow_slice_items found) bytes is has
payload_found pages payload bytes has None none = absurd (none bytes has)
