-- Fields that are still to be read: those of a record, and what one step leaves of them.
use Rattle.std.proofs.Common.{◌≡◌, ℕ, ◌<◌, ◌≤◌, ℤ, List, [], ◌∷◌, ◌++◌, length, take, drop, refl, sym, ap, subst, ◌∙◌, arith}
use Rattle.std.specs.Prelude.{◌↔◌}
use Rattle.std.proofs.lemmas.List.{length-append, length-take, take-append-drop}
use Rattle.values.specs.Datum.{Datum}
use Rattle.records.specs.declared.fault.RecordFault.{RecordFault}
use Rattle.records.specs.Varint.{BeginsVarint, EndsInside}
use Rattle.records.specs.Serial.{IsField, BeginsField, BreaksFront, body_len}
use Rattle.records.specs.Record.{AreBodies, AreTypes, IsRecord, SplitsHeader}
use Rattle.records.specs.Fields.{AreUnread, Unread}
use Rattle.records.proofs.ListLemmas.{same_split}
use Rattle.records.proofs.VarintLemmas.{one_varint, none_inside, varint_some}
use Rattle.records.proofs.FieldLemmas.{field_len, field_means, value_at}
use Rattle.records.proofs.HeaderLemmas.{one_split, types_step}
use Rattle.records.proofs.BodyLemmas.{not_broken_bodies, place_broken}
use Rattle.records.proofs.RecordLemmas.{with_header}

-- behind the header of a record all fields are unread
pub unread_record : (bytes spelt bodies : List ℕ) → SplitsHeader bytes spelt bodies → (values : List Datum)
    → AreUnread (record { spelt = spelt; bodies = bodies }) values ↔ IsRecord bytes values
unread_record bytes spelt bodies split values = (
  λ u. with_header (λ types rest. AreBodies types rest values) bytes spelt u.types bodies split u.are_types u.are_bodies,
  λ is.
      let same = one_split bytes is.header.spelt is.bodies spelt bodies is.header.split split in
      record {
        types = is.types;
        are_types = subst (λ (l : List ℕ). AreTypes l is.types) same.front is.header.are_types;
        are_bodies = subst (λ (l : List ℕ). AreBodies is.types l values) same.rest is.holds;
      },
)

-- the first of the unread fields
pub record IsNext (unread : Unread) (serial : ℤ) (size : ℕ) (first : Datum) (others : List Datum) : Type 0 where
  pub types : List ℤ
  pub are_types : AreTypes (drop size unread.spelt) types
  pub body : List ℕ
  pub rest : List ℕ
  pub parts : unread.bodies ≡ body ++ rest
  pub is : IsField serial body first
  pub are_bodies : AreBodies types rest others

pub next_of : (unread : Unread) (serial : ℤ) (size : ℕ) (first : Datum) (others : List Datum) → BeginsVarint unread.spelt serial size
    → AreUnread unread (first ∷ others) → IsNext unread serial size first others
next_of unread serial size first others begins u = of u.types u.are_types u.are_bodies
  where
    of : (types : List ℤ) → AreTypes unread.spelt types → AreBodies types unread.bodies (first ∷ others) → IsNext unread serial size first others
    of [] are bodies = absurd bodies
    of (t ∷ ts) (front, after, parts, front_is, more) (body, rest, cut, is, behind) =
        let s =
        one_varint (take size unread.spelt) (drop size unread.spelt) front after serial t begins.is front_is (take-append-drop size unread.spelt ∙ parts) in
        record {
          types = ts;
          are_types = subst (λ (l : List ℕ). AreTypes l ts) (sym s.rest) more;
          body = body;
          rest = rest;
          parts = cut;
          is = subst (λ (z : ℤ). IsField z body first) (sym s.value) is;
          are_bodies = behind;
        }

-- a field that was read is the first, and what stands behind it is unread
pub unread_read : (unread : Unread) (serial : ℤ) (size : ℕ) (value : Datum) (rest : List ℕ) → BeginsVarint unread.spelt serial size
    → BeginsField serial unread.bodies value rest → (first : Datum) (others : List Datum)
    → AreUnread unread (first ∷ others) ↔ ((first ≡ value) × AreUnread (record { spelt = drop size unread.spelt; bodies = rest }) others)
unread_read unread serial size value rest begins field first others = (
  λ u.
      let n = next_of unread serial size first others begins u in
      let same =
      same_split n.body n.rest field.body rest (sym n.parts ∙ field.parts) (field_len serial n.body first n.is ∙ sym (field_len serial field.body value field.is)) in (
        field_means serial n.body first n.is ∙ ap (value_at serial) same.front ∙ sym (field_means serial field.body value field.is),
        record { types = n.types; are_types = n.are_types; are_bodies = subst (λ (l : List ℕ). AreBodies n.types l others) same.rest n.are_bodies },
      ),
  λ h.
      let more = h.1 in
      record {
        types = serial ∷ more.types;
        are_types = types_step unread.spelt size serial more.types begins more.are_types;
        are_bodies = (field.body, rest, field.parts, subst (λ (v : Datum). IsField serial field.body v) (sym h.0) field.is, more.are_bodies);
      },
)

-- where the types end inside a varint there is no field
pub unread_cut : (unread : Unread) → EndsInside unread.spelt → (first : Datum) (others : List Datum) → ¬ (AreUnread unread (first ∷ others))
unread_cut unread cut first others u = of u.types u.are_types u.are_bodies
  where
    of : (types : List ℤ) → AreTypes unread.spelt types → AreBodies types unread.bodies (first ∷ others) → ⊥
    of [] are bodies = bodies
    of (t ∷ ts) (front, after, parts, front_is, more) bodies = none_inside front after t front_is (subst EndsInside parts cut)

-- nor where what stands there is no value
pub unread_broken : (fault : RecordFault) (unread : Unread) (serial : ℤ) (size : ℕ) → BeginsVarint unread.spelt serial size
    → BreaksFront fault serial unread.bodies → (first : Datum) (others : List Datum) → ¬ (AreUnread unread (first ∷ others))
unread_broken fault unread serial size begins breaks first others u =
    let n = next_of unread serial size first others begins u in
    let broken =
    place_broken fault (serial ∷ n.types) unread.bodies 0 serial unread.bodies (omega arith) (record { front = []; parts = refl; len = refl }) breaks in
    let memory =
    not_broken_bodies fault (serial ∷ n.types) unread.bodies (first ∷ others) broken (n.body, n.rest, n.parts, n.is, n.are_bodies) in
    subst (λ (f : RecordFault). BreaksFront f serial unread.bodies) memory breaks

-- no field is left where no byte is
pub none_unread : (unread : Unread) → AreUnread unread [] → (unread.spelt ≡ []) × (unread.bodies ≡ [])
none_unread unread u = of u.types u.are_types u.are_bodies
  where
    of : (types : List ℤ) → AreTypes unread.spelt types → AreBodies types unread.bodies [] → (unread.spelt ≡ []) × (unread.bodies ≡ [])
    of [] are bodies = (are, bodies)
    of (t ∷ ts) are bodies = absurd bodies

pub all_read : (unread : Unread) → unread.spelt ≡ [] → unread.bodies ≡ [] → AreUnread unread []
all_read unread spelt bodies = record { types = []; are_types = spelt; are_bodies = bodies }

-- the first field is passed by its length alone
pub unread_skipped : (unread : Unread) (serial : ℤ) (size : ℕ) → BeginsVarint unread.spelt serial size → (values : List Datum)
    → AreUnread unread values
    → (1 ≤ length values) × AreUnread (record { spelt = drop size unread.spelt; bodies = drop (body_len serial) unread.bodies }) (drop 1 values)
unread_skipped unread serial size begins [] u =
    absurd (omega (arith, varint_some (take size unread.spelt) serial begins.is, length-take size unread.spelt, ap length (none_unread unread u).0))
unread_skipped unread serial size begins (first ∷ others) u =
    let n = next_of unread serial size first others begins u in
    let len = field_len serial n.body first n.is in
    let cut : take (body_len serial) unread.bodies ++ drop (body_len serial) unread.bodies ≡ n.body ++ n.rest =
    take-append-drop (body_len serial) unread.bodies ∙ n.parts in
    let same =
    same_split (take (body_len serial) unread.bodies) (drop (body_len serial) unread.bodies) n.body n.rest cut (omega (arith, length-take (body_len serial) unread.bodies, ap length n.parts, length-append n.body n.rest)) in (
      omega arith,
      record { types = n.types; are_types = n.are_types; are_bodies = subst (λ (l : List ℕ). AreBodies n.types l others) (sym same.rest) n.are_bodies },
    )

-- where its type or its body is cut off there is none
pub none_behind_cut : (unread : Unread) → EndsInside unread.spelt → (values : List Datum) → AreUnread unread values → values ≡ []
none_behind_cut unread cut [] u = refl
none_behind_cut unread cut (first ∷ others) u = absurd (unread_cut unread cut first others u)

pub none_in_short : (unread : Unread) (serial : ℤ) (size : ℕ) → BeginsVarint unread.spelt serial size → length unread.bodies < body_len serial
    → (values : List Datum) → AreUnread unread values → values ≡ []
none_in_short unread serial size begins short [] u = refl
none_in_short unread serial size begins short (first ∷ others) u =
    let n = next_of unread serial size first others begins u in
    absurd (omega (arith, field_len serial n.body first n.is, ap length n.parts, length-append n.body n.rest))
