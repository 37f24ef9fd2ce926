-- `set_files::answer_all` is safe and ends: it begins with no line taken.
use mathlib.Core.Path.{refl}
use Rattle.set_console.proofs.FeedLaws.{reached-begin}
use Rattle.set_files.proofs.answer_all.Goals as goal

pub sets-init : goal.sets-init
sets-init g c = record { initial_length = refl; offsets_length = refl; blocks = λ keeps. (refl, refl); reached = reached-begin _ c.new-reader.ensures.0 }
