use Rattle.std.proofs.Common.{◌∙◌, ap}
use Rattle.sml_tree.specs.Piece.{kind_in, reserved}
use Rattle.sml_tree.specs.Word.{upper}
use Rattle.sml_tree.proofs.Lengths.{upper_of_length}
use Rattle.sml_tree.proofs.words.plain_kind.Goals as goal

pub returns : goal.returns
returns c =
    c.kind_in.ensures ∙ ap (λ rows. kind_in rows (upper c.args.word.now)) c.words_of.ensures
    ∙ upper_of_length reserved c.args.word.now
