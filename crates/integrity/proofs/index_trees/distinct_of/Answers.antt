use Rattle.std.proofs.Common.{◌≡◌, ◌∙◌, false, true, inr, length, refl, sym}
use Rattle.schema.specs.indexes.IndexView.{index_data}
use Rattle.integrity.specs.Indexes.{places_of}
use Rattle.integrity.proofs.DistinctLemmas.{distinct_of, repeats_of, unique_of}
use Rattle.integrity.proofs.index_trees.distinct_of.Goals as goal
use Rattle.integrity.proofs.index_trees.distinct_of.Goals.{else-is_unique-via-then-is_unique+else-prefixes, else-is_unique-via-else-is_unique}

pub returns-then-prefixes-clause-counts : goal.returns-then-prefixes-clause-counts
returns-then-prefixes-clause-counts c = λ pages has table.
    let index = index_data c.args.index.now in
    inr (
      c.in_ok-from_str.ensures.ok ∙ c.name.ensures,
      sym c.is_unique.ensures ∙ c.if-is_unique.true,
      repeats_of pages index index.root (length (places_of index)) refl refl c.args.prefixes has c.if-prefixes.true,
    )

pub returns-clause-counts : goal.returns-clause-counts
returns-clause-counts c = λ pages has table.
    let index = index_data c.args.index.now in (
      distinct_of pages index index.root (length (places_of index)) refl refl c.args.prefixes has,
      λ is. elim c.else-is_unique.branch [
        | else-is_unique-via-then-is_unique+else-prefixes w ↦
            unique_of pages index index.root (length (places_of index)) refl refl c.args.prefixes has
            (λ t. let e : false ≡ true = sym w.if-prefixes.false ∙ t in cc)
        | else-is_unique-via-else-is_unique w ↦ absurd (let e : false ≡ true = sym w.if-is_unique.false ∙ c.is_unique.ensures ∙ is in cc)
      ],
    )
