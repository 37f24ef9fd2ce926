-- `WordText::new` meets its contract: with no characters, `reading_of` computes to 0 and not begun.
use mathlib.Core.Path.{refl}
use Rattle.word_text.specs.Decimal.{all_decimal, decimal_number, if_word, reading_of}
use Rattle.word_text.proofs.WordText.new.Goals as goal

pub returns : goal.returns
unfolding reading_of all_decimal decimal_number if_word
returns c = refl
