-- The types of columns, told apart.
use Rattle.std.proofs.Common.{◌≡◌, List, [], ◌∷◌, length, codes, slice_index, refl, sym, ap, ◌∙◌, arith}
use Rattle.std.specs.List.{AllZip}
use Rattle.values.specs.declared.value.Ty.{Ty}
use Rattle.sql_reader_grammar.specs.create_trees.CreateTrees.{TypeTree}
use Rattle.schema_keys.specs.Names.{IsSameName}
use Rattle.schema_keys.specs.Types.{IsInteger, IsType, IsWord}
use Rattle.sql_reader_syntax.specs.Tree.{Name}

pub same_words : (words : List Name) (a b : Name) → AllZip IsSameName words (a ∷ []) → AllZip IsSameName words (b ∷ []) → IsSameName a b
same_words [] a b p q = absurd p
same_words (w ∷ words) a b p q = sym p.0 ∙ q.0

one_word : (ty : TypeTree) (a b : Name) → IsWord a ty → IsWord b ty → IsSameName a b
one_word ty a b p q = same_words ty.words a b p.word_is q.word_is

no_int_text : ¬ IsSameName (codes "INT") (codes "TEXT")
no_int_text e = let i : 3 ≡ 4 = ap length e in omega (arith, i)

no_int_blob : ¬ IsSameName (codes "INT") (codes "BLOB")
no_int_blob e = let i : 3 ≡ 4 = ap length e in omega (arith, i)

no_integer_text : ¬ IsSameName (codes "INTEGER") (codes "TEXT")
no_integer_text e = let i : 7 ≡ 4 = ap length e in omega (arith, i)

no_integer_blob : ¬ IsSameName (codes "INTEGER") (codes "BLOB")
no_integer_blob e = let i : 7 ≡ 4 = ap length e in omega (arith, i)

-- these differ in their first letter
no_text_blob : ¬ IsSameName (codes "TEXT") (codes "BLOB")
no_text_blob e = let i : 116 ≡ 98 = ap (λ xs. slice_index xs 0) e in omega (arith, i)

pub one_type : (ty : TypeTree) (a b : Ty) → IsType ty a → IsType ty b → a ≡ b
one_type ty a b (IsType.int p) (IsType.int q) = refl
one_type ty a b (IsType.int p) (IsType.integer q) = refl
one_type ty a b (IsType.int p) (IsType.text q) = absurd (no_int_text (one_word ty _ _ p q))
one_type ty a b (IsType.int p) (IsType.blob q) = absurd (no_int_blob (one_word ty _ _ p q))
one_type ty a b (IsType.integer p) (IsType.int q) = refl
one_type ty a b (IsType.integer p) (IsType.integer q) = refl
one_type ty a b (IsType.integer p) (IsType.text q) = absurd (no_integer_text (one_word ty _ _ p q))
one_type ty a b (IsType.integer p) (IsType.blob q) = absurd (no_integer_blob (one_word ty _ _ p q))
one_type ty a b (IsType.text p) (IsType.int q) = absurd (no_int_text (one_word ty _ _ q p))
one_type ty a b (IsType.text p) (IsType.integer q) = absurd (no_integer_text (one_word ty _ _ q p))
one_type ty a b (IsType.text p) (IsType.text q) = refl
one_type ty a b (IsType.text p) (IsType.blob q) = absurd (no_text_blob (one_word ty _ _ p q))
one_type ty a b (IsType.blob p) (IsType.int q) = absurd (no_int_blob (one_word ty _ _ q p))
one_type ty a b (IsType.blob p) (IsType.integer q) = absurd (no_integer_blob (one_word ty _ _ q p))
one_type ty a b (IsType.blob p) (IsType.text q) = absurd (no_text_blob (one_word ty _ _ q p))
one_type ty a b (IsType.blob p) (IsType.blob q) = refl

pub no_type : (ty : TypeTree) → ¬ IsWord (codes "INT") ty → ¬ IsInteger ty → ¬ IsWord (codes "TEXT") ty → ¬ IsWord (codes "BLOB") ty
    → (values : Ty) → ¬ IsType ty values
no_type ty int integer text blob values (IsType.int p) = int p
no_type ty int integer text blob values (IsType.integer p) = integer p
no_type ty int integer text blob values (IsType.text p) = text p
no_type ty int integer text blob values (IsType.blob p) = blob p
