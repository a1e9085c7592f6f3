-- Bytes are one record at most, and a fault's condition keeps them from being any.
use Rattle.std.proofs.Common.{◌≡◌, ℕ, ℤ, List, sym, subst, refl, inl, inr}
use Rattle.values.specs.Datum.{Datum}
use Rattle.records.specs.declared.fault.RecordFault.{RecordFault}
use Rattle.records.specs.declared.fault.RecordFault.TheVariants.{Bad, Float, Text, NoMemory}
use Rattle.records.specs.Record.{AreTypes, AreBodies, SplitsHeader, IsHeader, WithHeader, IsRecord, BreaksBodies, Breaks, IsBadWhere}
use Rattle.records.proofs.HeaderLemmas.{one_header, no_header}
use Rattle.records.proofs.BodyLemmas.{one_bodies, not_broken_bodies}

-- what holds behind some header holds behind the one that was read
at_header : (bytes : List ℕ) (types : List ℤ) (bodies : List ℕ) (P : List ℤ → List ℕ → Type 0) → IsHeader bytes types bodies
    → WithHeader P bytes → P types bodies
at_header bytes types bodies P h w =
    let same = one_header bytes types w.types bodies w.bodies h w.header in
    subst (λ (ts : List ℤ). P ts bodies) (sym same.types) (subst (P w.types) (sym same.bodies) w.holds)

-- a header, its types and what holds behind it, as one fact
pub with_header : (P : List ℤ → List ℕ → Type 0) (bytes spelt : List ℕ) (types : List ℤ) (bodies : List ℕ) → SplitsHeader bytes spelt bodies
    → AreTypes spelt types → P types bodies → WithHeader P bytes
with_header P bytes spelt types bodies split are holds = record { types = types; bodies = bodies; header = record { spelt = spelt; split = split; are_types = are }; holds = holds }

pub one_record : (bytes : List ℕ) (vs ws : List Datum) → IsRecord bytes vs → IsRecord bytes ws → vs ≡ ws
one_record bytes vs ws p q = one_bodies q.types q.bodies vs ws (at_header bytes q.types q.bodies (λ types bodies. AreBodies types bodies vs) q.header p) q.holds

not_broken_behind : (f : RecordFault) (bytes : List ℕ) (values : List Datum) → WithHeader (BreaksBodies f) bytes → IsRecord bytes values
    → f ≡ NoMemory
not_broken_behind f bytes values b is = not_broken_bodies f is.types is.bodies values (at_header bytes is.types is.bodies (BreaksBodies f) is.header b) is.holds

pub not_broken : (f : RecordFault) (bytes : List ℕ) (values : List Datum) → Breaks f bytes → IsRecord bytes values → f ≡ NoMemory
not_broken Bad bytes values (inl none) is = absurd (none is.types is.bodies is.header)
not_broken Bad bytes values (inr b) is = not_broken_behind Bad bytes values b is
not_broken Float bytes values b is = not_broken_behind Float bytes values b is
not_broken Text bytes values b is = not_broken_behind Text bytes values b is
not_broken NoMemory bytes values b is = refl

-- ---- what breaks a part breaks the whole

pub broken_types : (f : RecordFault) (bytes spelt bodies : List ℕ) → SplitsHeader bytes spelt bodies
    → IsBadWhere ((types : List ℤ) → ¬ (AreTypes spelt types)) f → Breaks f bytes
broken_types Bad bytes spelt bodies s h = inl (no_header bytes spelt bodies s h)
broken_types Float bytes spelt bodies s h = absurd h
broken_types Text bytes spelt bodies s h = absurd h
broken_types NoMemory bytes spelt bodies s h = tt

pub broken_bodies : (f : RecordFault) (bytes : List ℕ) → WithHeader (BreaksBodies f) bytes → Breaks f bytes
broken_bodies Bad bytes h = inr h
broken_bodies Float bytes h = h
broken_bodies Text bytes h = h
broken_bodies NoMemory bytes h = tt
