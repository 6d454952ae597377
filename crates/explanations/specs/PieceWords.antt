-- What a piece of a list says.
use Rattle.std.specs.Prelude.{ℕ, List}
use Rattle.explanations.specs.Commands.{command_text}
use Rattle.explanations.specs.ElementWords.{element_text}
use Rattle.explanations.specs.Reservations.{key_text, registration_text}
use Rattle.explanations.specs.Units.{lun_text}
use Rattle.explanations.specs.declared.pieces.Piece.{Piece}
use Rattle.explanations.specs.declared.pieces.Piece.TheVariants.{Key, Registration, LogicalUnit, Element, Command}

abbrev pub piece_text : Piece → List ℕ → List ℕ
piece_text Key piece = key_text piece
piece_text Registration piece = registration_text piece
piece_text LogicalUnit piece = lun_text piece
piece_text (Element type tags) piece = element_text type tags piece
piece_text Command piece = command_text piece
