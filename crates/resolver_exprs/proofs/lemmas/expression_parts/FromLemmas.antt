-- The parts of FROM, source by source.
use Rattle.std.proofs.Common.{◌≡◌, List, [], ◌∷◌, ◌++◌, append_assoc, append-nil, sym, ◌∙◌}
use Rattle.std.specs.List.{flat_map}
use Rattle.semantics_names.specs.Parts.{from_parts, on_parts}
use Rattle.sql_reader_grammar.specs.statement_trees.TreeView.{JoinedTree, joined_all}
use Rattle.sql_reader_syntax.specs.ExprTree.{FromTree}

pub from_parts_are : (from : FromTree) (js : List JoinedTree)
    → from_parts (joined_all from js) ≡ from_parts from ++ flat_map (λ j. on_parts j.1.1) js
from_parts_are from [] = sym (append-nil (from_parts from))
from_parts_are from (j ∷ js) =
    from_parts_are (FromTree.Joined from j.0 j.1.0 j.1.1) js ∙ append_assoc (from_parts from) (on_parts j.1.1) (flat_map (λ j. on_parts j.1.1) js)
