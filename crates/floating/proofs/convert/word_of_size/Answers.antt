-- `word_of_size` meets its contract: a whole number moved up to 64 digits, rounded and packed is the word that is delivered. Assumes nothing.
use Rattle.floating.proofs.Converting.{whole-delivered}
use Rattle.std.proofs.Common.{rules}
use Rattle.floating.proofs.convert.word_of_size.Goals as goal

pub returns : goal.returns
returns c = search (whole-delivered, rules)
