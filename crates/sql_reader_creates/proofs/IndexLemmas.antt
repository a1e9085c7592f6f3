-- The reader of a CREATE INDEX finds exactly what its grammar says.
use Rattle.std.proofs.Common.{◌≡◌, Bool, true, false, ℕ, ◌≤◌, List, ◌∷◌, length, Option, Some, None, Ok, Err, option_and_then, refl, sym, ap, ◌∙◌, subst, arith}
use mathlib.Core.Logic.{inl, inr}
use Rattle.std.proofs.lemmas.Bool.{cases_lt}
use Rattle.sql_reader_tokens.specs.Lexeme.{Lexeme}
use Rattle.sql_reader_tokens.specs.declared.keywords.keyword.Keyword.TheVariants as k
use Rattle.sql_reader_grammar.proofs.lemmas.phrases.OutcomeLemmas.{bind_ok, fits, fits_in, fits_out, ok_inj, step_last}
use Rattle.sql_reader_grammar.proofs.lemmas.phrases.StepLemmas.{at_keyword, needed_some, needs_keyword}
use Rattle.sql_reader_grammar.specs.phrases.Outcomes.{Outcome, Refusal, ◌>>=◌, needed}
use Rattle.sql_reader_grammar.specs.phrases.Steps.{Rest, name}
use Rattle.sql_reader_creates.proofs.lemmas.column_reader.WordLemmas.{name_sound, some_mapped, then_parts}
use Rattle.sql_reader_creates.specs.column_reader.ColumnReading.{after_on}
use Rattle.sql_reader_creates.proofs.ConditionLemmas.{condition_reads, condition_room, condition_sound}
use Rattle.sql_reader_creates.proofs.KeyLemmas.{all_complete, all_length, all_sound}
use Rattle.sql_reader_creates.specs.CreateGrammar.{IndexesAll}
use Rattle.sql_reader_creates.specs.CreateReading.{after_create, indexed_all}
use Rattle.sql_reader_creates.specs.IndexGrammar.{CreatesIndex, MaybePartial, MaybeUnique}
use Rattle.sql_reader_creates.specs.IndexReading.{after_index, after_unique, condition, create_index, index_from, index_heading, index_tree, index_with, last_columns, owned, unique_from, uniqueness}
use Rattle.sql_reader_creates.specs.Told.{SaysOfIndex}
use Rattle.sql_reader_syntax.specs.ExprTree.{ExprTree}
use Rattle.sql_reader_syntax.specs.Tree.{Name}
use Rattle.sql_reader_grammar.specs.create_trees.CreateTrees.{IndexedColumnTree, IndexTree}

-- the columns, and the condition behind them
abbrev Columns : Type 0
Columns = List IndexedColumnTree × Option ExprTree

unique_sound : (ts : Rest) → MaybeUnique (uniqueness ts).0 ts (uniqueness ts).1
unique_sound ts = go (after_unique ts) refl
  where
    go : (o : Option Rest) → after_unique ts ≡ o → MaybeUnique (unique_from ts o).0 ts (unique_from ts o).1
    go None e = MaybeUnique.plain
    go (Some rest) e = subst (λ ts. MaybeUnique true ts rest) (sym (at_keyword k.Unique ts rest e)) MaybeUnique.unique

unique_room : {b : Bool} {from after : Rest} → MaybeUnique b from after → length after ≤ length from
unique_room MaybeUnique.plain = omega arith
unique_room MaybeUnique.unique = omega arith

module _ (source : ℕ → ℕ → List ℕ) where
  columns_read : {h : ℕ} {xs : List IndexedColumnTree} {c : Option ExprTree} {from end : Rest} → IndexesAll xs from end
      → MaybePartial source h c end → (d : ℕ) → last_columns source d from ≡ fits d h (Ok (let r : Columns = (xs, c) in r))
  columns_read {h = h} {xs = xs} {c = c} {end = end} x p d =
      ap (λ (o : Option (List IndexedColumnTree × Rest)).
      needed o >>= λ r. condition source d r.1 >>= λ c. Ok (let r : Columns = (r.0, c) in r)) (all_complete x)
      ∙ step_last d h (condition source d end) c (λ c. Ok (let r : Columns = (xs, c) in r)) (xs, c) (condition_reads source p d) refl

  -- a CREATE INDEX is read, where there may be so many levels
  pub index_reads : {h : ℕ} {tree : IndexTree} {ts : Rest} → CreatesIndex source h tree ts → (d : ℕ)
      → create_index source d ts ≡ fits d h (Ok tree)
  unfolding create_index
  index_reads (CreatesIndex.index {h = h} {name = n} {table = t} {columns = xs} {condition = c} {last = last} MaybeUnique.plain x p) d =
      step_last d h (last_columns source d last) (xs, c) (λ cs. Ok (index_tree false (n, t, last) cs))
      (index_tree false (n, t, last) (xs, c)) (columns_read x p d) refl
  index_reads (CreatesIndex.index {h = h} {name = n} {table = t} {columns = xs} {condition = c} {last = last} MaybeUnique.unique x p) d =
      step_last d h (last_columns source d last) (xs, c) (λ cs. Ok (index_tree true (n, t, last) cs))
      (index_tree true (n, t, last) (xs, c)) (columns_read x p d) refl

  -- a CREATE INDEX has no more levels than tokens
  pub index_room : {h : ℕ} {tree : IndexTree} {ts : Rest} → CreatesIndex source h tree ts → h ≤ length ts
  index_room (CreatesIndex.index u x p) = omega (arith, unique_room u, all_length x, condition_room source p)

  -- the columns up to the end of the tokens
  record Ends (h : ℕ) (ts : Rest) (r : Columns) : Type 0 where
    end : Rest
    columns : IndexesAll r.0 ts end
    condition_is : MaybePartial source h r.1 end

  columns_sound : (d : ℕ) (ts : Rest) (r : Columns) → last_columns source d ts ≡ Ok r → (h : ℕ) × (h ≤ d) × Ends h ts r
  columns_sound d ts r h =
      let a = bind_ok (needed (indexed_all ts)) (λ r. condition source d r.1 >>= λ c. Ok (let r : Columns = (r.0, c) in r)) r h in
      let b = bind_ok (condition source d a.0.1) (λ c. Ok (let r : Columns = (a.0.0, c) in r)) r a.2 in
      let s = condition_sound source d a.0.1 b.0 b.1 in (
        s.0,
        s.1,
        subst (Ends s.0 ts) (ok_inj (a.0.0, b.0) r b.2)
            (record { end = a.0.1; columns = all_sound ts a.0 (needed_some (indexed_all ts) a.0 a.1); condition_is = s.2 }),
      )

  -- the tokens of a heading
  heading_sound : (ts : Rest) (r : Name × Name × Rest) → index_heading ts ≡ Some r → (h : ℕ) (tree : IndexTree) (unique : Bool) (from : Rest)
      → MaybeUnique unique from ts → (cs : Columns) → Ends h r.2 cs → index_tree unique r cs ≡ tree
      → CreatesIndex source h tree (Lexeme.Reserved k.Create ∷ from)
  heading_sound ts r e h tree unique from u cs ends is =
      let a = then_parts owned (option_and_then name (after_index ts)) r e in
      let b = then_parts name (after_index ts) a.0 a.1 in
      let i = name_sound b.0 a.0 b.2 in
      let m = some_mapped (λ (t : Name × Rest). (let h : Name × Name × Rest = (a.0.0, t.0, t.1) in h)) (option_and_then name (after_on a.0.1)) r a.2 in
      let d = then_parts name (after_on a.0.1) m.0 m.1 in
      let t = name_sound d.0 m.0 d.2 in
      let words : ts ≡ Lexeme.Reserved k.Index ∷ Lexeme.Name i.0 a.0.0 ∷ Lexeme.Reserved k.On ∷ Lexeme.Name t.0 m.0.0 ∷ m.0.1 =
      at_keyword k.Index ts b.0 b.1
      ∙ ap (λ ts. Lexeme.Reserved k.Index ∷ ts)
      (i.1 ∙ ap (λ ts. Lexeme.Name i.0 a.0.0 ∷ ts) (at_keyword k.On a.0.1 d.0 d.1 ∙ ap (λ ts. Lexeme.Reserved k.On ∷ ts) t.1)) in
      let last = subst (λ (r : Name × Name × Rest). Ends h r.2 cs) (sym m.2) ends in
      subst (λ tree. CreatesIndex source h tree (Lexeme.Reserved k.Create ∷ from)) (ap (λ r. index_tree unique r cs) m.2 ∙ is)
      (CreatesIndex.index (subst (MaybeUnique unique from) words u) last.columns last.condition_is)

  index_sound : (d : ℕ) (ts : Rest) (tree : IndexTree) → create_index source d ts ≡ Ok tree
      → (h : ℕ) × (h ≤ d) × CreatesIndex source h tree ts
  unfolding create_index
  index_sound d ts tree e =
      let a = bind_ok (needed (after_create ts)) (λ rest. index_from source d (uniqueness rest)) tree e in
      let b = bind_ok (needed (index_heading (uniqueness a.0).1)) (index_with source d (uniqueness a.0).0) tree a.2 in
      let m = bind_ok (last_columns source d b.0.2) (λ cs. Ok (index_tree (uniqueness a.0).0 b.0 cs)) tree b.2 in
      let c = columns_sound d b.0.2 m.0 m.1 in (
        c.0,
        c.1,
        subst (CreatesIndex source c.0 tree) (sym (needs_keyword k.Create ts a.0 a.1))
            (heading_sound (uniqueness a.0).1 b.0 (needed_some (index_heading (uniqueness a.0).1) b.0 b.1) c.0 tree (uniqueness a.0).0 a.0
            (unique_sound a.0) m.0 c.2 (ok_inj (index_tree (uniqueness a.0).0 b.0 m.0) tree m.2)),
      )

  -- what an outcome says of the tokens
  says_by : (d : ℕ) (ts : Rest) (r : Outcome IndexTree) → create_index source d ts ≡ r → SaysOfIndex source d ts r
  says_by d ts (Ok tree) e = index_sound d ts tree e
  says_by d ts (Err Refusal.Syntax) e = λ h tree x. elim (cases_lt d h) [
    | inl l ↦ (let i = sym e ∙ (index_reads x d ∙ fits_out d h _ l) in absurd cc)
    | inr l ↦ (let i = sym e ∙ (index_reads x d ∙ fits_in d h _ l) in absurd cc)
  ]
  says_by d ts (Err Refusal.Limit) e = λ h tree x. elim (cases_lt d h) [
    | inl l ↦ l
    | inr l ↦ (let i = sym e ∙ (index_reads x d ∙ fits_in d h _ l) in absurd cc)
  ]

  pub says : (d : ℕ) (ts : Rest) → SaysOfIndex source d ts (create_index source d ts)
  says d ts = says_by d ts (create_index source d ts) refl

  -- tokens spell at most one CREATE INDEX
  pub one_spelt : (h i : ℕ) (a b : IndexTree) (ts : Rest) → CreatesIndex source h a ts → CreatesIndex source i b ts → a ≡ b
  one_spelt h i a b ts x y = elim (cases_lt h i) [
    | inl l ↦
        ok_inj a b (sym (index_reads x i ∙ fits_in i h _ (omega (arith, l))) ∙ (index_reads y i ∙ fits_in i i _ (omega arith)))
    | inr l ↦
        ok_inj a b (sym (index_reads x h ∙ fits_in h h _ (omega arith)) ∙ (index_reads y h ∙ fits_in h i _ l))
  ]
