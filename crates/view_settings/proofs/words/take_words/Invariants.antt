use Rattle.std.proofs.Common.{◌≡◌, drop}
use Rattle.view_settings.specs.Words.{after_words, bytes_of}
use Rattle.view_settings.proofs.words.take_words.Given as goal

abbrev pub invariant-loop-word : goal.invariant-loop-word
invariant-loop-word l = after_words l.settings (bytes_of (drop l.word-index l.words)) ≡ after_words l.fn.settings (bytes_of l.words)
