use Rattle.std.proofs.Common.{◌≡◌, ◌∙◌, ◌+◌, ◌-◌, ◌<◌, ◌≤◌, inl, inr, All, Any, ℕ, List, length, map, slice_index, slice_range, sym, ap, subst, arith}
use Rattle.std.proofs.lemmas.Result.{err_from_is_err_and}
use Rattle.values.specs.Datum.{datum_of}
use Rattle.values.specs.Row.{Row}
use Rattle.expr.specs.Meaning.{Overflows, eval}
use Rattle.semantics.specs.Hits.{call_terms}
use Rattle.windows.specs.window_entries.Tags.{tags_of}
use Rattle.windows.specs.Wanted.{wanted}
use Rattle.windows.proofs.AllLemmas.{All-slice, added_before, one_part_more, part_before, rows_before, tags_before}
use Rattle.windows.proofs.evaluated.put_parts.Goals as goal
use Rattle.resolver_terms.specs.SelectView.{call_of, window_of}

pub put_part-requires : goal.put_part-requires
put_part-requires c =
    let tags = tags_of c.args.parts.now.entries.items in
    let starts = c.args.parts.now.starts.items in
    let number = c.loop-number.number in
    let is = tags_before c.args.parts.now.entries.items c.as_slice-entries.result.now starts c.as_slice-starts.result.now number c.as_slice-entries.ensures.value c.as_slice-starts.ensures.value in
    let all = subst (λ n. All (λ (t : Row × ℕ). t.1 < n) tags) (sym c.loop-number.invariant.size) c.requires in
    subst (λ (l : List (Row × ℕ)). All (λ (t : Row × ℕ). t.1 < length c.loop-number.results.items) l) (sym is)
    (All-slice (λ (t : Row × ℕ). t.1 < length c.loop-number.results.items) tags (slice_index starts (number - 1)) (slice_index starts number) all)

pub loop-number-preserved : goal.loop-number-preserved
loop-number-preserved c =
    let tags = tags_of c.args.parts.now.entries.items in
    let starts = c.args.parts.now.starts.items in
    let begins = c.as_slice-starts.result.now in
    let number = c.loop-number.number in
    let part = tags_of (slice_range c.as_slice-entries.result.now (slice_index begins (number - 1)) (slice_index begins number)) in
    let is = tags_before c.args.parts.now.entries.items c.as_slice-entries.result.now starts begins number c.as_slice-entries.ensures.value c.as_slice-starts.ensures.value in
    let long = ap length c.as_slice-starts.ensures.value in
    let some : 1 ≤ number = omega arith in
    let inside : number < length starts = omega (arith, long, c.loop-number-test.true) in
    let next : number - 1 + 1 ≡ number = omega (arith, some) in
    let first : number - 1 + 1 < length starts = omega (arith, some, inside) in
    let rises : slice_index starts (number - 1) ≤ slice_index starts number = subst (λ n. slice_index starts (number - 1) ≤ slice_index starts n) next (c.args.parts.now.rises (number - 1) first) in
    let within = c.args.parts.now.within number inside in
    let behind = added_before c.args.parts.now.entries.items c.as_slice-entries.result.now starts begins number c.loop-number.added c.in_ok-added.field-0
    c.as_slice-entries.ensures.value c.as_slice-starts.ensures.value rises within c.loop-number.invariant.behind c.in_ok-added.ensures.added in
    let here : number ≡ number + 1 - 1 = omega arith in
    record {
      size = c.put_part.ensures.size ∙ c.loop-number.invariant.size;
      few = omega (arith, behind, within);
      behind = subst (λ n. c.loop-number.added + c.in_ok-added.field-0 ≤ slice_index starts n) here behind;
      right = λ w o rows are.
          one_part_more (wanted w o (call_of c.args.call.now) rows) tags starts (map datum_of c.loop-number.results.items) (map datum_of c.put_part.new.results.items) number part some is
          (c.in_ok-added.ensures.values w o rows (part_before (eval w) (window_of c.args.call.now.window) rows tags part starts number are some inside is))
          (c.loop-number.invariant.right w o rows are);
    }

pub returns-clause-values : goal.returns-clause-values
returns-clause-values c = λ w o rows are g h.
    let long = ap length c.as_slice-starts.ensures.value in
    c.loop-number.invariant.right w o rows are g (omega (arith, h, long, c.loop-number-test.false)) h

pub returns-in_err-added-clause-overflow : goal.returns-in_err-added-clause-overflow
returns-in_err-added-clause-overflow c = λ is.
    let p = err_from_is_err_and c.from_residual.result c.from_residual.ensures.1 in
    let tags = tags_of c.args.parts.now.entries.items in
    let starts = c.args.parts.now.starts.items in
    let begins = c.as_slice-starts.result.now in
    let number = c.loop-number.number in
    let part = tags_of (slice_range c.as_slice-entries.result.now (slice_index begins (number - 1)) (slice_index begins number)) in
    let same = tags_before c.args.parts.now.entries.items c.as_slice-entries.result.now starts begins number c.as_slice-entries.ensures.value c.as_slice-starts.ensures.value in
    let long = ap length c.as_slice-starts.ensures.value in
    let some : 1 ≤ number = omega arith in
    let inside : number < length starts = omega (arith, long, c.loop-number-test.true) in
    elim (c.in_err-added.ensures.overflow (cc (is, p.1, p.2))) [
      | inl reached ↦ inl (rows_before (λ row. Any (λ t. Overflows t row) (call_terms (call_of c.args.call.now))) c.args.parts.now.entries.items c.as_slice-entries.result.now
          (slice_index begins (number - 1)) (slice_index begins number) c.as_slice-entries.ensures.value reached)
      | inr leave ↦ inr (λ w rows are. leave w rows (part_before (eval w) (window_of c.args.call.now.window) rows tags part starts number are some inside same))
    ]
