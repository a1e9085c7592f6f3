-- One SELECT behind its FROM, or why it is none.
use Rattle.std.proofs.Common.{◌≡◌, ◌⊎◌, inl, inr, Bool, true, false, ℕ, zero, suc, ◌<◌, ◌≤◌, ℤ, pos, negsuc, List, [], ◌∷◌, ◌++◌, length, map, Option, Some, None, Result, Ok, Err, Contains, nat_le, nat_lt, ap, refl, subst, sym, ◌∙◌, arith}
use Rattle.std.specs.List.{filter_map}
use Rattle.std.proofs.lemmas.Bool.{ltb-false}
use Rattle.std.proofs.lemmas.List.{length-map}
use Rattle.std.proofs.lemmas.List.Elements.{Contains-append_cases, Contains-append_left, Contains-append_right, Contains-push, Contains-push_cases}
use Rattle.values.specs.declared.fault.Fault.{Fault}
use Rattle.values.specs.declared.fault.Fault.TheVariants.{Ambiguous, BareColumn, DuplicateName, Limit, UnknownColumn, WrongPlace}
use Rattle.expr.specs.Term.{Term}
use Rattle.sql_reader_syntax.specs.ExprTree.{CoreTree, DefinitionTrees, ExprTree, ExprTrees, MaybeExpr, ResultTree, ResultTrees, TermTrees}
use Rattle.sql_reader_syntax.specs.Tree.{Name}
use Rattle.sql_reader_syntax.specs.declared.expr.PrefixOperator.TheVariants as prefixes
use Rattle.semantics.specs.Query.{Aggregate, KeyTerm, WindowCall}
use Rattle.semantics_names.specs.Expression.{Answers, Says, term_of}
use Rattle.semantics_names.specs.Laws.{IsScalar}
use Rattle.semantics_names.specs.Parts.{all_parts, behind_parts, definitions_parts, maybe_parts, parts, parts_behind_groups, results_parts, terms_parts, window_parts}
use Rattle.semantics_names.specs.Places.{Defined, aggregate_of, call_of, columns_say, frame_of, groups_say, key_column, window_of, windows_say}
use Rattle.semantics_names.specs.Same.{is_same_aggregate, is_same_call}
use Rattle.semantics_names.specs.Scope.{Scope}
use Rattle.semantics_names.specs.Statement.{Input, ResultColumn, all_results, are_distinct, as_input, behind_groups, by_of, condition_of, core_of, defined_of, finished, firsts, group_term, grouped, input_of, key_term, keys_of, max_columns, named_at, named_or, no_number, no_row, number_alone, numbered, numbered_or, on_row, one_or, or_bare, result, results_of, select_of, shown, some_of, starred, starred_of, window_names}
use Rattle.semantics_names.proofs.OutcomeLemmas.{both-ok}
use Rattle.semantics_refusals.specs.BadFrames.{defined_in}
use Rattle.semantics_refusals.specs.Columns.{names_of_results, results_in}
use Rattle.semantics_refusals.specs.UnknownColumns.{IsNamedAt, IsNoResult}
use Rattle.semantics_refusals.specs.WrongPlaces.{HasOver, HasStar, IsAggregate, IsNoNumber, IsNumber, expressions, group_parts, groups_in, inside_call, plain_parts, row_parts}
use Rattle.semantics_refusals.specs.Written.{spoken_in, stars_in, terms_in, windows_in}
use Rattle.semantics_refusals.proofs.NameLemmas.{all_names, names_in}
use Rattle.semantics_refusals.proofs.OutcomeLemmas.{Gives, Only, OnlySome, Takes, all_only, also_gives, also_only, both_only, checked_only, either, firsts_only, followed_gives, followed_only, if_only, known_only, nothing, ok, or_else, refused}
use Rattle.semantics_refusals.proofs.PartLemmas.{Deep, Each, among, back, deep, deep_definitions, deep_maybe, deep_results, each_itself, first, front, itself, join, more, none, one, rest, weaker}
use Rattle.semantics_refusals.proofs.PlacedLemmas.{AreFound, all_found, groups_none, no_aggregate, windows_none}
use Rattle.semantics_refusals.proofs.PlaceLemmas.{aggregate_only, call_only, columns_named, groups_named, groups_only, plainly, window_only, windows_named, windows_only}
use Rattle.semantics_refusals.proofs.ScopeLemmas.{named_none}
use Rattle.semantics_refusals.proofs.TermLemmas.{Base, Sound, frame_in, term_only}

-- a name alone in ORDER BY isn't that of two result columns, and a number alone is that of one
pub record IsFineOrder (F : Fault → Type 0) (order : TermTrees) (names : List Name) : Type 0 where
  pub two : (name : Name) → Contains (terms_in order) (ExprTree.Column None name) → (at other : ℕ) (more : List ℕ)
      → named_at name 0 names ≡ at ∷ other ∷ more → F Ambiguous
  pub number : (e : ExprTree) (z : ℤ) → Contains (terms_in order) e → IsNumber e z → ((at : ℕ) → at < length names → ¬ (z ≡ pos (suc at)))
      → F WrongPlace

-- an expression of ORDER BY is the name of a result column alone, or this holds of its parts
pub record IsFineTerm (P : ExprTree → Type 0) (names : List Name) (e : ExprTree) : Type 0 where
  pub is : ((alone : Name) × (at : ℕ) × (e ≡ ExprTree.Column None alone) × IsNamedAt names alone at) ⊎ Each P (parts e)

-- a part is a name alone, or it holds of its parts
record IsLoose (P : ExprTree → Type 0) (part : ExprTree) : Type 0 where
  is : ((table : Option Name) × (name : Name) × (part ≡ ExprTree.Column table name)) ⊎ Each P (parts part)

loose : {P : ExprTree → Type 0} {xs : List ExprTree} → Each (Deep P) xs → Each (IsLoose P) xs
loose all = weaker (λ part of. record { is = inr of.is }) all

loose_terms : {P : ExprTree → Type 0} {names : List Name} (order : TermTrees) → Each (IsFineTerm P names) (terms_in order)
    → Each (IsLoose P) (terms_parts order)
loose_terms TermTrees.No_term all = none
loose_terms {P = P} {names = names} (TermTrees.Term e direction others) all =
    join (parts e) (terms_parts others) (by e (first all).is) (loose_terms others (rest all))
  where
    by : (e : ExprTree) → ((alone : Name) × (at : ℕ) × (e ≡ ExprTree.Column None alone) × IsNamedAt names alone at) ⊎ Each P (parts e)
        → Each (IsLoose P) (parts e)
    by e (inl (alone, at, same, is)) = subst (λ e. Each (IsLoose P) (parts e)) (sym same) (one (record { is = inl (None, alone, refl) }))
    by e (inr of) = loose (deep e of)

-- a number alone
pub number_is : (e : ExprTree) (z : ℤ) → number_alone e ≡ Some z → IsNumber e z
number_is (ExprTree.Number n) z e = let same : n ≡ z = cc in subst (IsNumber (ExprTree.Number n)) same IsNumber.plain
number_is (ExprTree.Prefix prefixes.Plus x) z e = IsNumber.signed (number_is x z e)
number_is _ z e = absurd cc

pub number_alone_is : {e : ExprTree} {z : ℤ} → IsNumber e z → number_alone e ≡ Some z
number_alone_is IsNumber.plain = refl
number_alone_is (IsNumber.signed is) = number_alone_is is

pub no_number_is : (e : ExprTree) → number_alone e ≡ None → IsNoNumber e
no_number_is e none z is = let both : None ≡ Some z = sym none ∙ number_alone_is is in absurd cc

-- the windows of a SELECT are called as they are defined
pub defined_names : (answers : Answers) (says : Says) (windows : DefinitionTrees) (defined : List Defined) → defined_of answers says windows ≡ Ok defined
    → map (λ (d : Defined). d.name) defined ≡ window_names windows
defined_names answers says DefinitionTrees.No_definition defined e =
    let same : [] ≡ defined = cc in ap (map (λ (d : Defined). d.name)) (sym same)
defined_names answers says (DefinitionTrees.Definition name v others) defined e =
    let (made, more, first, last, same) = both-ok _ (window_of answers says v) (defined_of answers says others) defined e in
    ap (map (λ (d : Defined). d.name)) (sym same) ∙ ap (λ names. name ∷ names) (defined_names answers says others more last)

-- where calls may not be, in what is computed over groups and windows
pub record IsWellPlaced (F : Fault → Type 0) (behind : List ExprTree) : Type 0 where
  pub aggregate : (outer part : ExprTree) → Contains behind outer → IsAggregate outer → Contains (inside_call outer) part → ¬ IsScalar part → F WrongPlace
  pub window : (outer part : ExprTree) → Contains behind outer → HasOver outer → Contains (inside_call outer) part → ¬ IsScalar part → ¬ IsAggregate part
      → F WrongPlace

-- and in all of a SELECT but ON
pub record IsFineCore (F : Fault → Type 0) (core : CoreTree) (order : TermTrees) : Type 0 where
  pub placed : IsWellPlaced F (parts_behind_groups core order)
  pub in_plain : Each (λ part. ¬ IsScalar part → F WrongPlace) (plain_parts core)
  pub in_groups : (part : ExprTree) → Contains (group_parts core) part → ¬ IsScalar part → ¬ IsAggregate part → F WrongPlace
  pub in_row : (part : ExprTree) → Contains (row_parts core ++ terms_parts order) part → ¬ IsScalar part → ¬ IsAggregate part → ¬ HasOver part
      → F WrongPlace

-- what holds of each holds of what it is of
pub each_place : {X : Type 0} {P Q : X → Type 0} (xs : List X) → Each P xs → ((x : X) → Contains xs x → P x → Q x) → Each Q xs
each_place [] all so = none
each_place (x ∷ xs) all so =
    more x xs (so x (Contains-append_left (x ∷ []) xs x (Contains-push [] x)) (first all))
    (each_place xs (rest all) (λ y there. so y (Contains-append_right (x ∷ []) xs y there)))

pub inside_of : {P : ExprTree → Type 0} (part : ExprTree) → Each P (parts part) → Each P (inside_call part)
inside_of (ExprTree.CountRows after) all = front (behind_parts after) _ all
inside_of (ExprTree.Call function es after) all = front (all_parts es ++ behind_parts after) _ all
inside_of _ all = none

in_terms_parts : (order : TermTrees) (e q : ExprTree) → Contains (terms_in order) e → Contains (parts e) q → Contains (terms_parts order) q
in_terms_parts TermTrees.No_term e q (at, short, is) inside = absurd (omega (arith, short))
in_terms_parts (TermTrees.Term x direction others) e q there inside =
    by (Contains-append_cases (x ∷ []) (terms_in others) e there) (λ rest. in_terms_parts others e q rest inside)
  where
    own : Contains [] e ⊎ (x ≡ e) → x ≡ e
    own (inl (at, short, is)) = absurd (omega (arith, short))
    own (inr same) = same

    by : Contains (x ∷ []) e ⊎ Contains (terms_in others) e → (Contains (terms_in others) e → Contains (terms_parts others) q)
        → Contains (parts x ++ terms_parts others) q
    by (inl here) after =
        Contains-append_left (parts x) (terms_parts others) q (subst (λ e. Contains (parts e) q) (sym (own (Contains-push_cases [] x e here))) inside)
    by (inr later) after = Contains-append_right (parts x) (terms_parts others) q (after later)

-- whether DISTINCT is written
abbrev pub is_distinct : CoreTree → Bool
is_distinct (CoreTree.Select distinct results from condition by having windows) = distinct

-- `t.*` stands for some column
pub record IsFineStar (F : Fault → Type 0) (scope : Scope) (table : Name) : Type 0 where
  pub is : starred_of table 0 scope ≡ [] → F UnknownColumn

module _ (F : Fault → Type 0) (takes : Takes F) where
  some_only : (fault : Fault) (columns : List ResultColumn) → (columns ≡ [] → F fault) → Only F (some_of fault columns)
  some_only fault [] is = record { is = is refl }
  some_only fault (c ∷ cs) is = ok _

  -- ---- ORDER BY

  one_only : (places : List ℕ) (otherwise : Result KeyTerm Fault) → ((at other : ℕ) (more : List ℕ) → places ≡ at ∷ other ∷ more → F Ambiguous)
      → (places ≡ [] → Only F otherwise) → Only F (one_or places otherwise)
  one_only [] otherwise two o = o refl
  one_only (at ∷ []) otherwise two o = ok _
  one_only (at ∷ other ∷ more) otherwise two o = record { is = two at other more refl }

  numbered_only : (width : ℕ) (z : ℤ) → (((at : ℕ) → at < width → ¬ (z ≡ pos (suc at))) → F WrongPlace) → Only F (numbered width z)
  numbered_only width (pos zero) out = refused WrongPlace (out (λ at less same. no_zero at same))
    where
      no_zero : (at : ℕ) → pos zero ≡ pos (suc at) → ⊥
      no_zero at same = let e : zero ≡ suc at = cc in omega (arith, e)
  numbered_only width (pos (suc k)) out =
      checked_only (nat_lt k width) WrongPlace _ (λ e. out (λ at less same. beyond at less same (ltb-false k width e))) (ok _)
    where
      beyond : (at : ℕ) → at < width → pos (suc k) ≡ pos (suc at) → width ≤ k → ⊥
      beyond at less same far = let e : suc k ≡ suc at = cc in omega (arith, less, far, e)
  numbered_only width (negsuc k) out = refused WrongPlace (out (λ at less same. absurd cc))

  numbered_or_only : (width : ℕ) (number : Option ℤ) (otherwise : Result KeyTerm Fault)
      → ((z : ℤ) → number ≡ Some z → ((at : ℕ) → at < width → ¬ (z ≡ pos (suc at))) → F WrongPlace) → (number ≡ None → Only F otherwise)
      → Only F (numbered_or width number otherwise)
  numbered_or_only width (Some z) otherwise out o = numbered_only width z (out z refl)
  numbered_or_only width None otherwise out o = o refl

  module _ (names : List Name) (otherwise : ExprTree → Result KeyTerm Fault) (Q : ExprTree → Type 0)
      (There : ExprTree → Type 0) (others : (e : ExprTree) → There e → IsNoNumber e → IsNoResult names e → Each Q (parts e) → Only F (otherwise e)) where
    no_name_only : (e : ExprTree) → There e → IsNoNumber e → ((alone : Name) → ¬ (e ≡ ExprTree.Column None alone)) → IsFineTerm Q names e
        → Only F (otherwise e)
    no_name_only e there plainly apart fine = by fine.is
      where
        by : ((alone : Name) × (at : ℕ) × (e ≡ ExprTree.Column None alone) × IsNamedAt names alone at) ⊎ Each Q (parts e) → Only F (otherwise e)
        by (inl (alone, at, same, is)) = absurd (apart alone same)
        by (inr all) = others e there plainly (λ alone at same is. apart alone same) all

    name_only : (name : Name) → There (ExprTree.Column None name) → IsNoNumber (ExprTree.Column None name) → named_at name 0 names ≡ []
        → IsFineTerm Q names (ExprTree.Column None name) → Only F (otherwise (ExprTree.Column None name))
    name_only name there plainly e fine = by fine.is
      where
        by : ((alone : Name) × (at : ℕ) × (ExprTree.Column None name ≡ ExprTree.Column None alone) × IsNamedAt names alone at)
            ⊎ Each Q (parts (ExprTree.Column None name)) → Only F (otherwise (ExprTree.Column None name))
        by (inl (alone, at, same, is)) =
            let called : alone ≡ name = cc in absurd (named_none name 0 names e at (subst (λ n. IsNamedAt names n at) called is))
        by (inr all) = others (ExprTree.Column None name) there plainly (λ alone at same. no_result alone at same) all
          where
            no_result : (alone : Name) (at : ℕ) → ExprTree.Column None name ≡ ExprTree.Column None alone → ¬ IsNamedAt names alone at
            no_result alone at same is =
                let called : alone ≡ name = cc in named_none name 0 names e at (subst (λ n. IsNamedAt names n at) called is)

    named_or_only : (e : ExprTree) → There e → IsNoNumber e → ((name : Name) → e ≡ ExprTree.Column None name → (at other : ℕ) (more : List ℕ)
        → named_at name 0 names ≡ at ∷ other ∷ more → F Ambiguous) → IsFineTerm Q names e → Only F (named_or names otherwise e)
    named_or_only (ExprTree.Column None name) there plainly two fine =
        one_only (named_at name 0 names) _ (two name refl) (λ e. name_only name there plainly e fine)
    named_or_only e there plainly two fine = no_name_only e there plainly (λ alone same. absurd cc) fine

    key_term_only : (e : ExprTree) → There e → ((name : Name) → e ≡ ExprTree.Column None name → (at other : ℕ) (more : List ℕ)
        → named_at name 0 names ≡ at ∷ other ∷ more → F Ambiguous)
        → ((z : ℤ) → IsNumber e z → ((at : ℕ) → at < length names → ¬ (z ≡ pos (suc at))) → F WrongPlace) → IsFineTerm Q names e
        → Only F (key_term names otherwise e)
    key_term_only e there two out fine =
        numbered_or_only (length names) (number_alone e) (named_or names otherwise e) (λ z is. out z (number_is e z is))
        (λ none. named_or_only e there (no_number_is e none) two fine)

    pub keys_only : (order : TermTrees) → Each There (terms_in order) → IsFineOrder F order names → Each (IsFineTerm Q names) (terms_in order)
        → Only F (keys_of names otherwise order)
    keys_only TermTrees.No_term there fine all = ok _
    keys_only (TermTrees.Term e direction others) there fine all =
        both_only _ (key_term names otherwise e) (keys_of names otherwise others)
        (key_term_only e (first there) (λ name same. fine.two name (subst (Contains (e ∷ terms_in others)) same (here e (terms_in others))))
        (λ z is. fine.number e z (here e (terms_in others)) is) (first all))
        (keys_only others (rest there) (record {
          two = λ name there. fine.two name (Contains-append_right (e ∷ []) (terms_in others) (ExprTree.Column None name) there);
          number = λ x z there. fine.number x z (Contains-append_right (e ∷ []) (terms_in others) x there);
        })
        (rest all))
      where
        here : (e : ExprTree) (es : List ExprTree) → Contains (e ∷ es) e
        here e es = Contains-append_left (e ∷ []) es e (Contains-push [] e)

  pub no_row_only : (e : ExprTree) → F WrongPlace → Only F (no_row e)
  no_row_only e is = refused WrongPlace is

  -- ---- one SELECT

  or_bare_only : (t : Option Term) → F BareColumn → Only F (or_bare t)
  or_bare_only (Some t) is = ok t
  or_bare_only None is = refused BareColumn is

  -- a part of what is computed over groups and windows
  record Placed (defines : List Name) (answers : Answers) (scope : Scope) (behind : List ExprTree) (part : ExprTree) : Type 0 where
    base : Base F defines answers scope part
    stands : Contains behind part

  -- of a bare column it holds
  module _ (defines : List Name) (answers : Answers) (scope : Scope) (behind : List ExprTree) (placed : IsWellPlaced F behind) (bare : F BareColumn) where
    aggregate_sounds : (part : ExprTree) → Each (Placed defines answers scope behind) (parts part) → IsAggregate part
        → Each (Sound F defines answers (columns_say scope)) (inside_call part)
    aggregate_sounds part all is =
        each_place (inside_call part) (inside_of part all) (λ q there b. record {
          said = b.base.said;
          answered = b.base.answered;
          framed = b.base.framed;
          named = columns_named scope q;
          fits = λ none apart. placed.aggregate part q (itself part all).stands is there apart;
        })

    -- what is said of a part; an aggregate is not passed over
    record Speaks (says : Says) : Type 0 where
      said : (part : ExprTree) → Each (Placed defines answers scope behind) (parts part) → Only F (says part)
      none : (part : ExprTree) → Contains behind part → says part ≡ Ok None → (¬ IsAggregate part) ⊎ F WrongPlace
      named : (part : ExprTree) (table : Option Name) (name : Name) → part ≡ ExprTree.Column table name → says part ≡ Ok None → ⊥

    sounds : (says : Says) → Speaks says → (xs : List ExprTree) → Each (Deep (Placed defines answers scope behind)) xs
        → ((part : ExprTree) → Contains xs part → ¬ IsScalar part → ¬ IsAggregate part → F WrongPlace) → Each (Sound F defines answers says) xs
    sounds says speaks xs all fits =
        each_place xs all (λ q there d. record {
          said = speaks.said q d.is;
          answered = (itself q d.is).base.answered;
          framed = (itself q d.is).base.framed;
          named = speaks.named q;
          fits = λ none apart. or_else (speaks.none q (itself q d.is).stands none) (fits q there apart);
        })

    window_sounds : (says : Says) → Speaks says → (part : ExprTree) → Each (Placed defines answers scope behind) (parts part) → HasOver part
        → Each (Sound F defines answers says) (inside_call part)
    window_sounds says speaks part all over =
        sounds says speaks (inside_call part) (inside_of part (deep part all))
        (λ q there apart loose. placed.window part q (itself part all).stands over there apart loose)

    columns_speak : ((part : ExprTree) → Contains behind part → (¬ IsAggregate part) ⊎ F WrongPlace) → Speaks (columns_say scope)
    columns_speak without = record {
      said = λ part all. (itself part all).base.said;
      none = λ part there e. without part there;
      named = columns_named scope;
    }

    groups_speak : (by : List Term) (aggregates : List Aggregate)
        → ((part : ExprTree) → Contains behind part → AreFound is_same_aggregate (aggregate_of answers (columns_say scope)) aggregates part ⊎ F WrongPlace)
        → Speaks (groups_say answers scope by aggregates)
    groups_speak by aggregates found = record {
      said = λ part all. groups_only F takes defines answers scope by aggregates part (itself part all).base.said (aggregate_sounds part all) bare;
      none = λ part there e. either (found part there) (λ f is. groups_none answers scope by aggregates part is f e);
      named = groups_named answers scope by aggregates;
    }

    -- and of a column of FROM
    record IsInput (input : Input) : Type 0 where
      speaks : Speaks input.says
      over : (t : Term) → Only F (input.over_input t)

    -- and after windows; a call with OVER is not passed over either
    record RowSpeaks (says : Says) : Type 0 where
      said : (part : ExprTree) → Each (Placed defines answers scope behind) (parts part) → Only F (says part)
      none : (part : ExprTree) → Contains behind part → says part ≡ Ok None → ((¬ IsAggregate part) × (¬ HasOver part)) ⊎ F WrongPlace
      named : (part : ExprTree) (table : Option Name) (name : Name) → part ≡ ExprTree.Column table name → says part ≡ Ok None → ⊥

    row_sounds : (says : Says) → RowSpeaks says → (xs : List ExprTree) → Each (Deep (Placed defines answers scope behind)) xs
        → ((part : ExprTree) → Contains xs part → ¬ IsScalar part → ¬ IsAggregate part → ¬ HasOver part → F WrongPlace)
        → Each (Sound F defines answers says) xs
    row_sounds says speaks xs all fits =
        each_place xs all (λ q there d. record {
          said = speaks.said q d.is;
          answered = (itself q d.is).base.answered;
          framed = (itself q d.is).base.framed;
          named = speaks.named q;
          fits = λ none apart. or_else (speaks.none q (itself q d.is).stands none) (λ both. fits q there apart both.0 both.1);
        })

    windows_speak : (input : Input) → Speaks input.says → (defined : List Defined) → map (λ (d : Defined). d.name) defined ≡ defines
        → (calls : List WindowCall)
        → ((part : ExprTree) → Contains behind part → AreFound is_same_call (call_of answers input.says defined) calls part ⊎ F WrongPlace)
        → RowSpeaks (windows_say answers input.says defined input.width calls)
    windows_speak input speaks defined named calls found = record {
      said = λ part all.
          windows_only F takes defines answers input.says defined named input.width calls part (itself part all).base.framed
          (window_sounds input.says speaks part all) (speaks.said part all);
      none = λ part there e. by_found part there e (found part there);
      named = λ part table name same.
          windows_named answers input.says defined input.width calls part table name same (speaks.named part table name same);
    }
      where
        by_found : (part : ExprTree) → Contains behind part → windows_say answers input.says defined input.width calls part ≡ Ok None
            → AreFound is_same_call (call_of answers input.says defined) calls part ⊎ F WrongPlace
            → ((¬ IsAggregate part) × (¬ HasOver part)) ⊎ F WrongPlace
        by_found part there e (inl f) =
            let (beneath, over) = windows_none answers input.says defined input.width calls part f e in
            either (speaks.none part there beneath) (λ loose. (loose, over))
        by_found part there e (inr wrong) = inr wrong

    term_so : (says : Says) → Speaks says → (e : ExprTree) → Each (Deep (Placed defines answers scope behind)) (parts e)
        → ((part : ExprTree) → Contains (parts e) part → ¬ IsScalar part → ¬ IsAggregate part → F WrongPlace) → Only F (term_of answers says e)
    term_so says speaks e all fits = term_only F defines answers says e (sounds says speaks (parts e) all fits)

    row_so : (says : Says) → RowSpeaks says → (e : ExprTree) → Each (Deep (Placed defines answers scope behind)) (parts e)
        → ((part : ExprTree) → Contains (parts e) part → ¬ IsScalar part → ¬ IsAggregate part → ¬ HasOver part → F WrongPlace) → Only F (term_of answers says e)
    row_so says speaks e all fits = term_only F defines answers says e (row_sounds says speaks (parts e) all fits)

    having_only : (says : Says) → Speaks says → (having : MaybeExpr) → Each (Deep (Placed defines answers scope behind)) (maybe_parts having)
        → ((part : ExprTree) → Contains (maybe_parts having) part → ¬ IsScalar part → ¬ IsAggregate part → F WrongPlace)
        → Only F (condition_of answers says having)
    having_only says speaks MaybeExpr.Absent all fits = ok _
    having_only says speaks (MaybeExpr.Present e) all fits = term_so says speaks e all fits

    condition_only : (condition : MaybeExpr) → Each (Sound F defines answers (columns_say scope)) (maybe_parts condition)
        → Only F (condition_of answers (columns_say scope) condition)
    condition_only MaybeExpr.Absent all = ok _
    condition_only (MaybeExpr.Present e) all = term_only F defines answers (columns_say scope) e all

    as_input_only : (input : Input) (r : ResultColumn) → IsInput input → Only F (as_input answers input r)
    as_input_only input r is = also_only (result r.name) (input.over_input r.term) (is.over r.term)

    module _ (input : Input) (is : IsInput input) (says : Says) (speaks : RowSpeaks says) where
      all_only_of : (results : ResultTrees) → (HasStar results → starred scope ≡ [] → F WrongPlace)
          → Each (IsFineStar F scope) (stars_in results)
          → Each (Deep (Placed defines answers scope behind)) (results_parts results)
          → ((part : ExprTree) → Contains (results_parts results) part → ¬ IsScalar part → ¬ IsAggregate part → ¬ HasOver part → F WrongPlace)
          → Only F (all_results answers scope input says results)
      all_only_of ResultTrees.No_result starless stars all fits = ok _
      all_only_of (ResultTrees.Result ResultTree.All rs) starless stars all fits =
          both_only ◌++◌ (results_of answers scope input says ResultTree.All) (all_results answers scope input says rs)
          (followed_only (some_of WrongPlace (starred scope)) _ (some_only WrongPlace (starred scope) (starless HasStar.here))
          (λ columns. all_only (as_input answers input) columns (λ r. as_input_only input r is)))
          (all_only_of rs (λ star. starless (HasStar.later star)) stars (back [] (results_parts rs) all)
          (λ q there. fits q (Contains-append_right [] (results_parts rs) q there)))
      all_only_of (ResultTrees.Result (ResultTree.AllOf table) rs) starless stars all fits =
          both_only ◌++◌ (results_of answers scope input says (ResultTree.AllOf table)) (all_results answers scope input says rs)
          (followed_only (some_of UnknownColumn (starred_of table 0 scope)) _ (some_only UnknownColumn (starred_of table 0 scope) (first stars).is)
          (λ columns. all_only (as_input answers input) columns (λ r. as_input_only input r is)))
          (all_only_of rs (λ star. starless (HasStar.later star)) (rest stars) (back [] (results_parts rs) all)
          (λ q there. fits q (Contains-append_right [] (results_parts rs) q there)))
      all_only_of (ResultTrees.Result (ResultTree.Value e name) rs) starless stars all fits =
          both_only ◌++◌ (results_of answers scope input says (ResultTree.Value e name)) (all_results answers scope input says rs)
          (also_only _ (term_of answers says e) (row_so says speaks e (front (parts e) (results_parts rs) all)
          (λ q there. fits q (Contains-append_left (parts e) (results_parts rs) q there))))
          (all_only_of rs (λ star. starless (HasStar.later star)) stars (back (parts e) (results_parts rs) all)
          (λ q there. fits q (Contains-append_right (parts e) (results_parts rs) q there)))

    row_only : (distinct : Bool) (says : Says) → RowSpeaks says → (e : ExprTree) → (distinct ≡ true → F WrongPlace)
        → Each (Deep (Placed defines answers scope behind)) (parts e)
        → ((part : ExprTree) → Contains (parts e) part → ¬ IsScalar part → ¬ IsAggregate part → ¬ HasOver part → F WrongPlace)
        → Only F (on_row answers distinct says e)
    row_only distinct says speaks e rowless all fits =
        if_only distinct (Err WrongPlace) _ (λ is. refused WrongPlace (rowless is))
        (also_only KeyTerm.term (term_of answers says e) (row_so says speaks e all fits))

    grouped_gives : (by : List Term) (aggregates : List Aggregate)
        → ((part : ExprTree) → Contains behind part → AreFound is_same_aggregate (aggregate_of answers (columns_say scope)) aggregates part ⊎ F WrongPlace)
        → (having : MaybeExpr) → Each (Deep (Placed defines answers scope behind)) (maybe_parts having)
        → ((part : ExprTree) → Contains (maybe_parts having) part → ¬ IsScalar part → ¬ IsAggregate part → F WrongPlace)
        → Gives F IsInput (grouped answers scope by aggregates having)
    grouped_gives by aggregates found having all fits =
        also_gives IsInput _ (condition_of answers (groups_say answers scope by aggregates) having)
        (having_only (groups_say answers scope by aggregates) (groups_speak by aggregates found) having all fits)
        (λ h. record { speaks = groups_speak by aggregates found; over = λ t. or_bare_only (key_column by (Ok t)) bare })

    input_gives : (by : List Term) (aggregates : List Aggregate)
        → ((part : ExprTree) → Contains behind part → AreFound is_same_aggregate (aggregate_of answers (columns_say scope)) aggregates part ⊎ F WrongPlace)
        → (having : MaybeExpr) → Each (Deep (Placed defines answers scope behind)) (maybe_parts having)
        → ((part : ExprTree) → Contains (maybe_parts having) part → ¬ IsScalar part → ¬ IsAggregate part → F WrongPlace)
        → Gives F IsInput (input_of answers scope by aggregates having)
    input_gives [] [] found having all fits = record {
      is = record {
        speaks = columns_speak (λ part there. either (found part there) (λ f. no_aggregate answers scope part f));
        over = λ t. ok t;
      };
    }
    input_gives [] (a ∷ aggregates) found having all fits = grouped_gives [] (a ∷ aggregates) found having all fits
    input_gives (t ∷ by) aggregates found having all fits = grouped_gives (t ∷ by) aggregates found having all fits

    no_number_only : (number : Option ℤ) (t : Result Term Fault) → ((z : ℤ) → number ≡ Some z → F WrongPlace) → Only F t → Only F (no_number number t)
    no_number_only (Some z) t is o = refused WrongPlace (is z refl)
    no_number_only None t is o = o

    by_only : (by : ExprTrees) → Each (Sound F defines answers (columns_say scope)) (all_parts by)
        → ((e : ExprTree) (z : ℤ) → Contains (expressions by) e → IsNumber e z → F WrongPlace) → Only F (by_of answers scope by)
    by_only ExprTrees.No_more all is = ok _
    by_only (ExprTrees.More e others) all is =
        both_only ◌∷◌ (group_term answers scope e) (by_of answers scope others)
        (no_number_only (number_alone e) (term_of answers (columns_say scope) e)
        (λ z same. is e z (Contains-append_left (e ∷ []) (expressions others) e (Contains-push [] e)) (number_is e z same))
        (term_only F defines answers (columns_say scope) e (front (parts e) (all_parts others) all)))
        (by_only others (back (parts e) (all_parts others) all)
        (λ x z there. is x z (Contains-append_right (e ∷ []) (expressions others) x there)))

    defined_only : (says : Says) → Speaks says → (windows : DefinitionTrees) → Each (Deep (Placed defines answers scope behind)) (definitions_parts windows)
        → ((part : ExprTree) → Contains (definitions_parts windows) part → ¬ IsScalar part → ¬ IsAggregate part → F WrongPlace)
        → Each (λ w. Only F (frame_of (frame_in w))) (defined_in windows) → Only F (defined_of answers says windows)
    defined_only says speaks DefinitionTrees.No_definition all fits frames = ok _
    defined_only says speaks (DefinitionTrees.Definition name v others) all fits frames =
        both_only _ (window_of answers says v) (defined_of answers says others)
        (window_only F takes defines answers says v
        (sounds says speaks (window_parts v) (front (window_parts v) (definitions_parts others) all)
        (λ q there. fits q (Contains-append_left (window_parts v) (definitions_parts others) q there)))
        (first frames))
        (defined_only says speaks others (back (window_parts v) (definitions_parts others) all)
        (λ q there. fits q (Contains-append_right (window_parts v) (definitions_parts others) q there)) (rest frames))

    -- a name alone is neither an aggregate nor a windowed function
    loose_aggregate : (part : ExprTree) → IsLoose (Placed defines answers scope behind) part → OnlySome F (aggregate_of answers (columns_say scope) part)
    loose_aggregate part is = by is.is
      where
        by : ((table : Option Name) × (name : Name) × (part ≡ ExprTree.Column table name)) ⊎ Each (Placed defines answers scope behind) (parts part)
            → OnlySome F (aggregate_of answers (columns_say scope) part)
        by (inl (table, name, same)) = subst (λ part. OnlySome F (aggregate_of answers (columns_say scope) part)) (sym same) nothing
        by (inr all) = aggregate_only F takes defines answers (columns_say scope) part (aggregate_sounds part all)

    loose_call : (says : Says) → Speaks says → (defined : List Defined) → map (λ (d : Defined). d.name) defined ≡ defines → (part : ExprTree)
        → IsLoose (Placed defines answers scope behind) part → OnlySome F (call_of answers says defined part)
    loose_call says speaks defined named part is = by is.is
      where
        by : ((table : Option Name) × (name : Name) × (part ≡ ExprTree.Column table name)) ⊎ Each (Placed defines answers scope behind) (parts part)
            → OnlySome F (call_of answers says defined part)
        by (inl (table, name, same)) = subst (λ part. OnlySome F (call_of answers says defined part)) (sym same) nothing
        by (inr all) = call_only F takes defines answers says defined named part (itself part all).base.framed (window_sounds says speaks part all)

    module _ (distinct : Bool) (results : ResultTrees) (order : TermTrees) where
      -- what has to hold of its parts
      record IsFine : Type 0 where
        stars : Each (IsFineStar F scope) (stars_in results)
        in_order : IsFineOrder F order (names_of_results scope results)
        nothing : HasStar results → starred scope ≡ [] → F WrongPlace
        rowless : distinct ≡ true → (e : ExprTree) → Contains (terms_in order) e → IsNoNumber e → IsNoResult (names_of_results scope results) e
            → F WrongPlace
        narrow : nat_le (length (names_of_results scope results)) max_columns ≡ false → F Limit
        in_results : Each (Deep (Placed defines answers scope behind)) (results_parts results)
        in_terms : Each (IsFineTerm (Placed defines answers scope behind) (names_of_results scope results)) (terms_in order)
        in_behind : Each (IsLoose (Placed defines answers scope behind)) behind
        in_row : (part : ExprTree) → Contains (results_parts results ++ terms_parts order) part → ¬ IsScalar part → ¬ IsAggregate part → ¬ HasOver part
            → F WrongPlace

      as_many : (input : Input) (says : Says) (columns : List ResultColumn) → all_results answers scope input says results ≡ Ok columns
          → length columns ≡ length (names_of_results scope results)
      as_many input says columns given =
          sym (length-map columns (λ (r : ResultColumn). r.name)) ∙ ap length (all_names answers input scope says results columns given)

      shown_only : (condition : Term) (input : Input) (defined : List Defined) (calls : List WindowCall) (says : Says) → IsInput input → RowSpeaks says
          → IsFine → Only F (shown answers scope distinct results order behind condition input defined calls says)
      shown_only condition input defined calls says is speaks fine =
          known_only (all_results answers scope input says results) _
          (all_only_of input is says speaks results fine.nothing fine.stars fine.in_results
          (λ q there. fine.in_row q (Contains-append_left (results_parts results) (terms_parts order) q there))) (λ columns given.
          checked_only (nat_le (length columns) max_columns) Limit _ (λ e.
          fine.narrow (subst (λ n. nat_le n max_columns ≡ false) (as_many input says columns given) e))
          (also_only (finished distinct condition input.grouping defined calls columns) _
          (keys_only (names_in columns) (on_row answers distinct says) (Placed defines answers scope behind)
          (Contains (terms_in order))
          (λ e there plainly apart all. row_only distinct says speaks e
          (λ d. fine.rowless d e there plainly
          (subst (λ names. IsNoResult names e) (all_names answers input scope says results columns given) apart)) (deep e all)
          (λ q inside. fine.in_row q (Contains-append_right (results_parts results) (terms_parts order) q (in_terms_parts order e q there inside)))) order
          (each_itself (terms_in order))
          (subst (IsFineOrder F order) (sym (all_names answers input scope says results columns given)) fine.in_order)
          (subst (λ names. Each (IsFineTerm (Placed defines answers scope behind) names) (terms_in order))
          (sym (all_names answers input scope says results columns given)) fine.in_terms))))

      behind_only : (windows : DefinitionTrees) (condition : Term) (input : Input) → IsInput input → IsFine
          → (are_distinct (window_names windows) ≡ false → F DuplicateName)
          → Each (Deep (Placed defines answers scope behind)) (definitions_parts windows)
          → ((part : ExprTree) → Contains (definitions_parts windows) part → ¬ IsScalar part → ¬ IsAggregate part → F WrongPlace)
          → Each (λ w. Only F (frame_of (frame_in w))) (defined_in windows) → window_names windows ≡ defines
          → Only F (behind_groups answers scope distinct results order behind windows condition input)
      behind_only windows condition input is fine apart all fits frames same =
          checked_only (are_distinct (window_names windows)) DuplicateName _ apart
          (known_only (defined_of answers input.says windows) _ (defined_only input.says is.speaks windows all fits frames) (λ defined made.
          let named : map (λ (d : Defined). d.name) defined ≡ defines = defined_names answers input.says windows defined made ∙ same in
          known_only (firsts is_same_call [] (filter_map (call_of answers input.says defined) behind)) _
          (firsts_only is_same_call [] (call_of answers input.says defined) behind
          (weaker (λ part of. loose_call input.says is.speaks defined named part of) fine.in_behind))
          (λ calls called. shown_only condition input defined calls (windows_say answers input.says defined input.width calls) is
          (windows_speak input is.speaks defined named calls
          (λ part there. either takes.laws (λ equal.
          among (all_found is_same_call (λ c. (equal.calls c c).1 refl) (call_of answers input.says defined) calls behind called) there)))
          fine)))

      select_only : (condition : MaybeExpr) (by : ExprTrees) (having : MaybeExpr) (windows : DefinitionTrees) → IsFine
          → ((e : ExprTree) (z : ℤ) → Contains (expressions by) e → IsNumber e z → F WrongPlace)
          → (are_distinct (window_names windows) ≡ false → F DuplicateName)
          → Each (Sound F defines answers (columns_say scope)) (maybe_parts condition)
          → Each (Sound F defines answers (columns_say scope)) (all_parts by) → Each (Deep (Placed defines answers scope behind)) (maybe_parts having)
          → Each (Deep (Placed defines answers scope behind)) (definitions_parts windows)
          → ((part : ExprTree) → Contains (maybe_parts having ++ definitions_parts windows) part → ¬ IsScalar part → ¬ IsAggregate part → F WrongPlace)
          → Each (λ w. Only F (frame_of (frame_in w))) (defined_in windows) → window_names windows ≡ defines
          → Only F (select_of answers scope distinct results order behind condition by having windows)
      select_only condition by having windows fine keyless apart in_condition in_by in_having in_windows in_groups frames same =
          followed_only (condition_of answers (columns_say scope) condition) _ (condition_only condition in_condition) (λ test.
          known_only (by_of answers scope by) _ (by_only by in_by keyless) (λ keys keyed.
          known_only (firsts is_same_aggregate [] (filter_map (aggregate_of answers (columns_say scope)) behind)) _
          (firsts_only is_same_aggregate [] (aggregate_of answers (columns_say scope)) behind
          (weaker (λ part of. loose_aggregate part of) fine.in_behind))
          (λ aggregates gathered.
          followed_gives IsInput (λ _. Unit {0}) (input_of answers scope keys aggregates having)
          (behind_groups answers scope distinct results order behind windows test)
          (input_gives keys aggregates
          (λ part there. either takes.laws (λ equal.
          among (all_found is_same_aggregate (λ a. (equal.aggregates a a).1 refl) (aggregate_of answers (columns_say scope)) aggregates behind gathered)
          there))
          having in_having (λ q there. in_groups q (Contains-append_left (maybe_parts having) (definitions_parts windows) q there)))
          (λ input is. behind_only windows test input is fine apart in_windows
          (λ q there. in_groups q (Contains-append_right (maybe_parts having) (definitions_parts windows) q there)) frames same))))

  module _ (defines : List Name) (answers : Answers) (scope : Scope) where
    pub core_only : (core : CoreTree) (order : TermTrees) → IsFineCore F core order → Each (Base F defines answers scope) (spoken_in core)
        → Each (IsFineTerm (Base F defines answers scope) (names_of_results scope (results_in core))) (terms_in order)
        → Each (IsFineStar F scope) (stars_in (results_in core)) → (are_distinct (window_names (windows_in core)) ≡ false → F DuplicateName)
        → IsFineOrder F order (names_of_results scope (results_in core)) → (HasStar (results_in core) → starred scope ≡ [] → F WrongPlace)
        → (is_distinct core ≡ true → (e : ExprTree) → Contains (terms_in order) e → IsNoNumber e → IsNoResult (names_of_results scope (results_in core)) e
        → F WrongPlace) → ((e : ExprTree) (z : ℤ) → Contains (groups_in core) e → IsNumber e z → F WrongPlace)
        → (nat_le (length (names_of_results scope (results_in core))) max_columns ≡ false → F Limit)
        → Each (λ w. Only F (frame_of (frame_in w))) (defined_in (windows_in core)) → window_names (windows_in core) ≡ defines → F BareColumn
        → Only F (core_of answers scope core order)
    core_only (CoreTree.Select distinct results from condition by having windows) order calls all in_terms stars apart in_order starless rowless keyless narrow
        frames same bare =
        let r = results_parts results in
        let c = maybe_parts condition in
        let b = all_parts by in
        let h = maybe_parts having in
        let d = definitions_parts windows in
        let o = terms_parts order in
        let behind : List ExprTree = parts_behind_groups (CoreTree.Select distinct results from condition by having windows) order in
        let in_windows = back (r ++ c ++ b ++ h) d all in
        let to_having = front (r ++ c ++ b ++ h) d all in
        let in_having = back (r ++ c ++ b) h to_having in
        let to_by = front (r ++ c ++ b) h to_having in
        let in_by = back (r ++ c) b to_by in
        let to_condition = front (r ++ c) b to_by in
        let in_condition = back r c to_condition in
        let in_results = front r c to_condition in
        let placed_results : Each (Placed defines answers scope behind) r =
        stand r in_results (λ q there.
        Contains-append_left (r ++ h ++ d) o q (Contains-append_left (r ++ h) d q (Contains-append_left r h q there))) in
        let placed_having : Each (Placed defines answers scope behind) h =
        stand h in_having (λ q there.
        Contains-append_left (r ++ h ++ d) o q (Contains-append_left (r ++ h) d q (Contains-append_right r h q there))) in
        let placed_windows : Each (Placed defines answers scope behind) d =
        stand d in_windows (λ q there. Contains-append_left (r ++ h ++ d) o q (Contains-append_right (r ++ h) d q there)) in
        let placed_terms : Each (IsFineTerm (Placed defines answers scope behind) (names_of_results scope results)) (terms_in order) =
        each_place (terms_in order) in_terms (λ e there is. record {
          is = term_placed (names_of_results scope results) e (λ q inside. Contains-append_right (r ++ h ++ d) o q (in_terms_parts order e q there inside)) is.is;
        }) in
        let whole_of : Each (Deep (Placed defines answers scope behind)) (r ++ h ++ d) =
        join (r ++ h) d (join r h (deep_results results placed_results) (deep_maybe having placed_having)) (deep_definitions windows placed_windows) in
        select_only defines answers scope behind calls.placed bare distinct results
        order condition by having windows
        (record {
          stars = stars;
          in_order = in_order;
          nothing = starless;
          rowless = rowless;
          narrow = narrow;
          in_results = deep_results results placed_results;
          in_terms = placed_terms;
          in_behind = join (r ++ h ++ d) o (loose whole_of) (loose_terms order placed_terms);
          in_row = calls.in_row;
        }) keyless apart (plainly F defines answers scope c in_condition (front c b calls.in_plain))
        (plainly F defines answers scope b in_by (back c b calls.in_plain)) (deep_maybe having placed_having) (deep_definitions windows placed_windows)
        calls.in_groups frames same
      where
        stand : {behind : List ExprTree} (xs : List ExprTree) → Each (Base F defines answers scope) xs
            → ((q : ExprTree) → Contains xs q → Contains behind q) → Each (Placed defines answers scope behind) xs
        stand xs all stands = each_place xs all (λ q there b. record { base = b; stands = stands q there })

        term_placed : (names : List Name) {behind : List ExprTree} (e : ExprTree) → ((q : ExprTree) → Contains (parts e) q → Contains behind q)
            → ((alone : Name) × (at : ℕ) × (e ≡ ExprTree.Column None alone) × IsNamedAt names alone at) ⊎ Each (Base F defines answers scope) (parts e)
            → ((alone : Name) × (at : ℕ) × (e ≡ ExprTree.Column None alone) × IsNamedAt names alone at)
            ⊎ Each (Placed defines answers scope behind) (parts e)
        term_placed names e stands (inl result) = inl result
        term_placed names e stands (inr all) = inr (stand (parts e) all stands)
