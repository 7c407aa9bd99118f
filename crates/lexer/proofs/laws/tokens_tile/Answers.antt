use Rattle.lexer.proofs.Tiled.{tokens_tile_lem}
use Rattle.lexer.proofs.laws.tokens_tile.Goals as goal

pub returns : goal.returns
returns c = tokens_tile_lem
