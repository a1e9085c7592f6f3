-- Values that are put over others.
use Rattle.std.proofs.Common.{◌≡◌, ◌∙◌, ◌+◌, ◌<◌, ℕ, zero, suc, List, [], ◌∷◌, ◌++◌, length, map, replicate, set, take, Result, Ok, Err, refl, sym, ap}
use Rattle.std.specs.Prelude.{IfOk, OnOk, slice_set}
use Rattle.std.proofs.lemmas.List.{map-set, map_push, take_more_set}
use Rattle.values.specs.Datum.{Datum, datum_of, null}
use Rattle.values.specs.declared.value.Value.{Value}

take_datums : (n : ℕ) (values : List Value) → map datum_of (take n values) ≡ take n (map datum_of values)
take_datums zero values = refl
take_datums (suc n) [] = refl
take_datums (suc n) (v ∷ values) = ap (λ (rest : List Datum). datum_of v ∷ rest) (take_datums n values)

put_within : (values : List Value) (at : ℕ) (value : Value) (d : Datum) → at < length values → datum_of value ≡ d
    → take (at + 1) (map datum_of (set values at value)) ≡ take at (map datum_of values) ++ d ∷ []
put_within values at value d within is =
    sym (take_datums (at + 1) (set values at value)) ∙ ap (map datum_of) (take_more_set values at value within)
    ∙ map_push datum_of (take at values) value ∙ (λ k. take_datums at values k ++ is k ∷ [])

-- a value over that at its place, where there was memory for it
pub put_over : {T E : Type 0} (values : List Value) (at : ℕ) (value : Value) (d : Datum) → at < length values → (result : Result T E)
    → IfOk result (λ _. datum_of value ≡ d)
    → IfOk result (λ _. take (at + 1) (map datum_of (set values at value)) ≡ take at (map datum_of values) ++ d ∷ [])
put_over values at value d within (Ok x) is = put_within values at value d within is
put_over values at value d within (Err e) is = is

pub set_over : {T E : Type 0} (values : List Value) (at : ℕ) (value : Value) (d : Datum) → (result : Result T E) → IfOk result (λ _. datum_of value ≡ d)
    → OnOk result (map datum_of (set values at value) ≡ slice_set (map datum_of values) at d)
set_over values at value d (Ok x) is = map-set datum_of values at value ∙ ap (λ (v : Datum). slice_set (map datum_of values) at v) is
set_over values at value d (Err e) is = tt

replicate_more : (n : ℕ) (d : Datum) → replicate n d ++ d ∷ [] ≡ replicate (suc n) d
replicate_more zero d = refl
replicate_more (suc n) d = ap (λ (l : List Datum). d ∷ l) (replicate_more n d)

-- one NULL more
pub nulls_more : (values more : List Value) (value : Value) (n next : ℕ) → next ≡ suc n → map datum_of values ≡ replicate n null → datum_of value ≡ null
    → more ≡ values ++ value ∷ [] → map datum_of more ≡ replicate next null
nulls_more values more value n next next_is before is pushed =
    ap (map datum_of) pushed ∙ map_push datum_of values value ∙ (λ k. before k ++ is k ∷ []) ∙ replicate_more n null
    ∙ ap (λ (m : ℕ). replicate m null) (sym next_is)
