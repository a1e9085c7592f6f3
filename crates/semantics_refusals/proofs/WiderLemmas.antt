-- Where something is refused by a fault of which this holds, it is refused by one of which more holds.
use Rattle.std.proofs.Common.{◌≡◌, ◌⊎◌, inl, inr, ℕ, List, None, Result, Ok, Err, ap, sym, subst}
use Rattle.values.specs.declared.fault.Fault.{Fault}
use Rattle.values.specs.declared.fault.Fault.TheVariants.{Ambiguous, BadFrame, BareColumn, UnknownColumn, WrongPlace}
use Rattle.sql_reader_syntax.specs.ExprTree.{CoreTree, ExprTree, TermTrees}
use Rattle.sql_reader_syntax.specs.Tree.{Name}
use Rattle.semantics_names.specs.Expression.{Answers}
use Rattle.semantics_names.specs.Laws.{SameIsEqual}
use Rattle.semantics_names.specs.Parts.{parts}
use Rattle.semantics_names.specs.Places.{columns_say, frame_of}
use Rattle.semantics_names.specs.Scope.{Scope}
use Rattle.semantics_refusals.specs.UnknownColumns.{IsNamedAt}
use Rattle.semantics_refusals.proofs.CoreLemmas.{IsFineCore, IsFineOrder, IsFineStar, IsFineTerm}
use Rattle.semantics_refusals.proofs.OutcomeLemmas.{Only, Takes, ok, refused}
use Rattle.semantics_refusals.proofs.PartLemmas.{Each, weaker}
use Rattle.semantics_refusals.proofs.TermLemmas.{Base, IsFineCall, frame_in}

module _ (F G : Fault → Type 0) (so : (fault : Fault) → F fault → G fault) where
  pub only_wider : {A : Type 0} (r : Result A Fault) → Only F r → Only G r
  only_wider (Ok a) o = ok a
  only_wider (Err fault) o = refused fault (so fault o.is)

  call_wider : (windows : List Name) (part : ExprTree) → IsFineCall F windows part → IsFineCall G windows part
  call_wider windows part fine = record {
    frame = λ w is. only_wider (frame_of (frame_in w)) (fine.frame w is);
    defined = λ name is all. so BadFrame (fine.defined name is all);
    function = λ over may. so WrongPlace (fine.function over may);
    counted = λ function es after same few. so WrongPlace (fine.counted function es after same few);
  }

  pub base_wider : (windows : List Name) (answers : Answers) (scope : Scope) (part : ExprTree) → Base F windows answers scope part
      → Base G windows answers scope part
  base_wider windows answers scope part base = record {
    said = only_wider (columns_say scope part) base.said;
    answered = λ tree is. only_wider (answers tree) (base.answered tree is);
    framed = call_wider windows part base.framed;
  }

  pub term_wider : (windows : List Name) (answers : Answers) (scope : Scope) (names : List Name) (e : ExprTree)
      → IsFineTerm (Base F windows answers scope) names e → IsFineTerm (Base G windows answers scope) names e
  term_wider windows answers scope names e fine = record { is = by fine.is }
    where
      by : ((alone : Name) × (at : ℕ) × (e ≡ ExprTree.Column None alone) × IsNamedAt names alone at) ⊎ Each (Base F windows answers scope) (parts e)
          → ((alone : Name) × (at : ℕ) × (e ≡ ExprTree.Column None alone) × IsNamedAt names alone at) ⊎ Each (Base G windows answers scope) (parts e)
      by (inl result) = inl result
      by (inr all) = inr (weaker (λ part base. base_wider windows answers scope part base) all)

  pub star_wider : (scope : Scope) (table : Name) → IsFineStar F scope table → IsFineStar G scope table
  star_wider scope table fine = record { is = λ none. so UnknownColumn (fine.is none) }

  pub order_wider : (order : TermTrees) (names : List Name) → IsFineOrder F order names → IsFineOrder G order names
  order_wider order names fine = record {
    two = λ name there at other more same. so Ambiguous (fine.two name there at other more same);
    number = λ e z there is out. so WrongPlace (fine.number e z there is out);
  }

  pub core_wider : (core : CoreTree) (order : TermTrees) → IsFineCore F core order → IsFineCore G core order
  core_wider core order fine = record {
    placed = record {
      aggregate = λ outer part there is inside apart. so WrongPlace (fine.placed.aggregate outer part there is inside apart);
      window = λ outer part there is inside apart loose. so WrongPlace (fine.placed.window outer part there is inside apart loose);
    };
    in_plain = weaker (λ part is apart. so WrongPlace (is apart)) fine.in_plain;
    in_groups = λ part there apart loose. so WrongPlace (fine.in_groups part there apart loose);
    in_row = λ part there apart loose over. so WrongPlace (fine.in_row part there apart loose over);
  }

  pub takes_wider : Takes F → Takes G
  takes_wider takes = record { laws = by takes.laws }
    where
      by : SameIsEqual ⊎ F WrongPlace → SameIsEqual ⊎ G WrongPlace
      by (inl equal) = inl equal
      by (inr is) = inr (so WrongPlace is)

-- it holds, or a bare column is the fault
abbrev pub OrBare : (Fault → Type 0) → Fault → Type 0
OrBare F fault = F fault ⊎ (fault ≡ BareColumn)

abbrev pub or_bare_so : (F : Fault → Type 0) (fault : Fault) → F fault → OrBare F fault
or_bare_so F fault is = inl is

abbrev the_fault : (A : Type 0) → Fault → Result A Fault
the_fault A fault = Err fault

-- it does where it holds of that too
pub only_or : (F : Fault → Type 0) {A : Type 0} (r : Result A Fault) → Only (OrBare F) r → (r ≡ Err BareColumn → F BareColumn) → Only F r
only_or F (Ok a) o bare = ok a
only_or F {A = A} (Err fault) o bare = by o.is bare
  where
    by : F fault ⊎ (fault ≡ BareColumn) → (the_fault A fault ≡ Err BareColumn → F BareColumn) → Only F (the_fault A fault)
    by (inl is) so = refused fault is
    by (inr same) so = refused fault (subst F (sym same) (so (ap (the_fault A) same)))
