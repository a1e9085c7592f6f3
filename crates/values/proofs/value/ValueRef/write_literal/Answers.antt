use Rattle.std.proofs.Common.{[], ◌∷◌}
use Rattle.std.proofs.lemmas.Result.{err_from_is_err_and}
use Rattle.values.specs.Literal.{quoted_all, hex_all}
use Rattle.values.proofs.SinkLemmas.{Writes-around, Writes-around_cut, Writes-around_open}
use Rattle.values.proofs.value.ValueRef.write_literal.Goals as goal

pub returns-in_err-write_all-in-Text-clause-writes : goal.returns-in_err-write_all-in-Text-clause-writes
returns-in_err-write_all-in-Text-clause-writes g c =
    let p = err_from_is_err_and c.from_residual.result c.from_residual.ensures.1 in
    rw (c.in-Text.is, p.1, p.2) (Writes-around_open _ (39 ∷ []) (quoted_all c.in-Text.text.now) (39 ∷ []) _ _ c.in_err-write_all-in-Text.ensures.writes)

pub returns-in_err-write_quoted-in-Text-clause-writes : goal.returns-in_err-write_quoted-in-Text-clause-writes
returns-in_err-write_quoted-in-Text-clause-writes g c =
    let p = err_from_is_err_and c.from_residual-in_err-write_quoted-in-Text.result c.from_residual-in_err-write_quoted-in-Text.ensures.1 in
    rw (c.in-Text.is, p.1, p.2)
    (Writes-around_cut _ (39 ∷ []) (quoted_all c.in-Text.text.now) (39 ∷ []) _ _ _ _ c.in_ok-write_all-in-Text.ensures.writes
    (rw c.as_bytes-in-Text.ensures.value at c.in_err-write_quoted-in-Text.ensures.writes))

pub returns-in_ok-write_quoted-in-Text-clause-writes : goal.returns-in_ok-write_quoted-in-Text-clause-writes
returns-in_ok-write_quoted-in-Text-clause-writes g c =
    rw c.in-Text.is
    (Writes-around _ _ (39 ∷ []) (quoted_all c.in-Text.text.now) (39 ∷ []) _ _ _ _ _ c.in_ok-write_all-in-Text.ensures.writes
    (rw c.as_bytes-in-Text.ensures.value at c.in_ok-write_quoted-in-Text.ensures.writes) c.write_all-in-Text-2.ensures.writes)

pub returns-in_err-write_all-in-Blob-clause-writes : goal.returns-in_err-write_all-in-Blob-clause-writes
returns-in_err-write_all-in-Blob-clause-writes g c =
    let p = err_from_is_err_and c.from_residual-in_err-write_all-in-Blob.result c.from_residual-in_err-write_all-in-Blob.ensures.1 in
    rw (c.in-Blob.is, p.1, p.2) (Writes-around_open _ (88 ∷ 39 ∷ []) (hex_all c.in-Blob.bytes.now) (39 ∷ []) _ _ c.in_err-write_all-in-Blob.ensures.writes)

pub returns-in_err-write_hex-in-Blob-clause-writes : goal.returns-in_err-write_hex-in-Blob-clause-writes
returns-in_err-write_hex-in-Blob-clause-writes g c =
    let p = err_from_is_err_and c.from_residual-in_err-write_hex-in-Blob.result c.from_residual-in_err-write_hex-in-Blob.ensures.1 in
    rw (c.in-Blob.is, p.1, p.2)
    (Writes-around_cut _ (88 ∷ 39 ∷ []) (hex_all c.in-Blob.bytes.now) (39 ∷ []) _ _ _ _ c.in_ok-write_all-in-Blob.ensures.writes c.in_err-write_hex-in-Blob.ensures.writes)

pub returns-in_ok-write_hex-in-Blob-clause-writes : goal.returns-in_ok-write_hex-in-Blob-clause-writes
returns-in_ok-write_hex-in-Blob-clause-writes g c =
    rw c.in-Blob.is
    (Writes-around _ _ (88 ∷ 39 ∷ []) (hex_all c.in-Blob.bytes.now) (39 ∷ []) _ _ _ _ _ c.in_ok-write_all-in-Blob.ensures.writes c.in_ok-write_hex-in-Blob.ensures.writes c.write_all-in-Blob-2.ensures.writes)
