-- The names that SQLite gives to indexes for keys.
use Rattle.std.proofs.Common.{◌≡◌, ℕ, ◌<◌, ◌≤◌, ◌^◌, List, [], ◌∷◌, ◌++◌, codes, map, refl, sym, ap, ◌∙◌, arith}
use Rattle.std.proofs.lemmas.Bool.{cond-true, lt-ltb}
use Rattle.std.proofs.lemmas.Fmt.{decimal_injective, decimal_is_IsNumeral}
use Rattle.std.proofs.lemmas.List.{append_cancel_left, map-append}
use Rattle.std.proofs.lemmas.Str.Parse.{digit_from_value}
use Rattle.std.specs.Char.{to_ascii_lowercase}
use Rattle.std.specs.Fmt.{decimal}
use Rattle.std.specs.Str.Parse.{AllDigits}
use Rattle.schema.specs.indexes.KeyIndexes.{automatic_name}
use Rattle.schema_keys.specs.Names.{IsSameName}
use Rattle.sql_reader_syntax.specs.Tree.{Name}

lower_digit : (c : ℕ) → c ≤ 57 → to_ascii_lowercase c ≡ c
lower_digit c small = cond-true _ _ _ (lt-ltb c 65 (omega (arith, small)))

lower_digits : (ds : List ℕ) → AllDigits 10 ds → map to_ascii_lowercase ds ≡ ds
lower_digits [] all = refl
lower_digits (c ∷ ds) all =
    let small : c ≤ 57 = omega (arith, digit_from_value c all.0) in
    ap (λ x. x ∷ map to_ascii_lowercase ds) (lower_digit c small) ∙ ap (λ xs. c ∷ xs) (lower_digits ds all.1)

lower_decimal : (n : ℕ) → n < 2 ^ 64 → map to_ascii_lowercase (decimal n) ≡ decimal n
lower_decimal n fits = lower_digits (decimal n) (decimal_is_IsNumeral n fits).0.1

lower_name : (table : Name) (n : ℕ) → n < 2 ^ 64
    → map to_ascii_lowercase (automatic_name table n)
    ≡ map to_ascii_lowercase (codes "sqlite_autoindex_") ++ (map to_ascii_lowercase table ++ (map to_ascii_lowercase (codes "_") ++ decimal n))
lower_name table n fits =
    map-append to_ascii_lowercase (codes "sqlite_autoindex_") (table ++ (codes "_" ++ decimal n))
    ∙ ap (λ ns. map to_ascii_lowercase (codes "sqlite_autoindex_") ++ ns)
    (map-append to_ascii_lowercase table (codes "_" ++ decimal n)
    ∙ ap (λ ns. map to_ascii_lowercase table ++ ns)
    (map-append to_ascii_lowercase (codes "_") (decimal n)
    ∙ ap (λ ns. map to_ascii_lowercase (codes "_") ++ ns) (lower_decimal n fits)))

-- two of one table have different names
pub same_number : (table : Name) (m n : ℕ) → m < 2 ^ 64 → n < 2 ^ 64
    → IsSameName (automatic_name table m) (automatic_name table n) → m ≡ n
same_number table m n p q same =
    let all = sym (lower_name table m p) ∙ (same ∙ lower_name table n q) in
    let behind = append_cancel_left (map to_ascii_lowercase (codes "sqlite_autoindex_")) _ _ all in
    let numbers = append_cancel_left (map to_ascii_lowercase (codes "_")) _ _ (append_cancel_left (map to_ascii_lowercase table) _ _ behind) in
    decimal_injective m n p q numbers
