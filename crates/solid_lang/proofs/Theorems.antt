-- Theorems for the crates above: what always holds of the definitions.
use Rattle.solid_lang.proofs.BuildLemmas.{one-read}
use Rattle.solid_lang.proofs.Judging.{each_answered, never_both, read-whole, tokens_refuse_once, whole-read}
use Rattle.solid_lang.specs.NumberedTokens.{numbered_tokens}
use Rattle.solid_lang.specs.ReadingLaws.{EachTextIsAnswered, NoneIsReadAndRefused, OneReading, OneRefusal, ReadingIsExact}

-- A text is read as the one solid that its tokens say, exactly where each token is taken for what
-- is wanted and nothing is wanted after them, or else it is no solid on the one line and for the
-- one reason where that fails.
pub reading_is_exact : ReadingIsExact
reading_is_exact text = (whole-read (numbered_tokens text), λ h. read-whole (numbered_tokens text) h.0 h.1)

pub one_reading : OneReading
one_reading text = one-read (numbered_tokens text)

pub each_text_is_answered : EachTextIsAnswered
each_text_is_answered text = each_answered (numbered_tokens text)

pub none_is_read_and_refused : NoneIsReadAndRefused
none_is_read_and_refused text = never_both (numbered_tokens text)

pub one_refusal : OneRefusal
one_refusal text = tokens_refuse_once (numbered_tokens text)
