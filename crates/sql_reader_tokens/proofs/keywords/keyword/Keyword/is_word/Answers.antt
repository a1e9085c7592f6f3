use Rattle.std.proofs.Common.{◌≡◌, List, ℕ, subst}
use Rattle.std.proofs.lemmas.Bool.Decides.{same_from_decides}
use Rattle.std.proofs.lemmas.Slice.Eq.{bytes_eq-Decides}
use Rattle.std.specs.Str.{str_eq_ignore_ascii_case}
use Rattle.sql_reader_tokens.proofs.keywords.keyword.Keyword.is_word.Goals as goal

pub returns : goal.returns
returns c =
    subst (λ (s : List ℕ). c.eq_ignore_ascii_case.result ≡ str_eq_ignore_ascii_case s c.args.word.now) c.as_str.ensures
    (same_from_decides c.eq_ignore_ascii_case.result _ c.eq_ignore_ascii_case.ensures.test (bytes_eq-Decides _ _))
